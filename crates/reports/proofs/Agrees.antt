-- What `row_agrees` tests, as facts (`Agrees`, with `agrees-is` and `agrees-of`). Assumes nothing.
use mathlib.Core.Path.{◌≡◌, sym}
use mathlib.Core.Bool.{Bool, true, false}
use Prim.Native.Nat.{ℕ, ◌+◌, ◌<◌}
use native.Mathlib.Nat.{pos_of_ne-zero}
use native.Mathlib.Omega.{arith}
use lib.Dec.{eqb}
use borrow.Author.Tests.{eqb-true, eqb-false, eq-eqb, ne_eqb}
use Rattle.lists.specs.Tests.{pick}
use Rattle.lists.proofs.Tests.{no_true, both-0, both-1, both_true, pick-elim}
use Rattle.reports.specs.declared.Row.{Row}
use Rattle.reports.specs.Bytes.{no_span, span_ok, row_agrees}
use Rattle.reports.proofs.Spans.{CanSpan, span-is, span_of}

-- no ticks: the three numbers of them are 0
pub record Tickless (e l s : ℕ) : Type 0 where
  pub earliest : e ≡ 0
  pub latest : l ≡ 0
  pub sum : s ≡ 0

-- the numbers of a row agree
pub record Agrees (w : Row) : Type 0 where
  pub runs : w.runs ≡ w.falses + w.trues + w.pendings
  pub without : w.falses ≡ 0 → Tickless w.earliest w.latest w.sum
  pub with-some : 0 < w.falses → CanSpan w.falses w.earliest w.latest w.sum

-- ---- without a tick
tickless-is : (e l s : ℕ) → no_span e l s ≡ true → Tickless e l s
tickless-is e l s h =
    record { earliest = eqb-true e 0 (both-0 _ _ h); latest = eqb-true l 0 (both-0 _ _ (both-1 _ _ h)); sum = eqb-true s 0 (both-1 _ _ (both-1 _ _ h)) }

tickless-of : (e l s : ℕ) → Tickless e l s → no_span e l s ≡ true
tickless-of e l s h = both_true _ _ (eq-eqb e 0 h.earliest) (both_true _ _ (eq-eqb l 0 h.latest) (eq-eqb s 0 h.sum))

-- ---- the row
-- a pick that holds, where one of the two was picked
picked_first : (b x y : Bool) → b ≡ true → pick b x y ≡ true → x ≡ true
unfolding pick
picked_first true x y p e = e
picked_first false x y p e = absurd (no_true p)

picked-second : (b x y : Bool) → b ≡ false → pick b x y ≡ true → y ≡ true
unfolding pick
picked-second true x y p e = absurd (no_true (sym p))
picked-second false x y p e = e

pub agrees-is : (w : Row) → row_agrees w ≡ true → Agrees w
unfolding row_agrees
agrees-is w h =
    let f = w.falses in
    let none = no_span w.earliest w.latest w.sum in
    let some = span_ok f w.earliest w.latest w.sum in
    let t : pick (eqb f 0) none some ≡ true = both-1 _ _ h in
    record {
      runs = eqb-true w.runs (w.falses + w.trues + w.pendings) (both-0 _ _ h);
      without = λ z. tickless-is _ _ _ (picked_first (eqb f 0) none some (eq-eqb f 0 z) t);
      with-some = λ l. span-is _ _ _ _ (picked-second (eqb f 0) none some (ne_eqb f 0 (λ e. omega arith)) t);
    }

pub agrees-of : (w : Row) → Agrees w → row_agrees w ≡ true
unfolding row_agrees
agrees-of w a =
    both_true _ _ (eq-eqb _ _ a.runs)
    (pick-elim (λ b. b ≡ true) (eqb w.falses 0) _ _
    (λ z. tickless-of _ _ _ (a.without (eqb-true w.falses 0 z)))
    (λ z. span_of _ _ _ _ (a.with-some (pos_of_ne-zero (eqb-false w.falses 0 z)))))
