-- Splitting the events over two captures gives the same as one capture of them all: `captured-split`. It holds of any state and second
-- buffer. Assumes nothing.
use Rattle.std.specs.Prelude.{Result, Ok, Err, ⊤}
use mathlib.Core.Path.{◌≡◌, refl, sym, ap, ◌∙◌, subst}
use mathlib.Core.Bool.{Bool, true, false, not}
use mathlib.Core.List.{List, ◌++◌}
use Prim.Native.Nat.{ℕ, ◌+◌}
use lib.ListN.{length, replicate, length-replicate}
use lib.Dec.{eqb}
use borrow.Author.Tests.{eqb-true, eq-eqb}
use Rattle.lists.specs.Tests.{pick, both}
use Rattle.lists.proofs.Tests.{no_true, both-0, both-1}
use Rattle.answers.specs.declared.Refusal.{Refusal}
use Rattle.answers.specs.Said.{said_outcome}
use Rattle.state.specs.Form.{form_of, state_length}
use Rattle.state.specs.Clauses.{state_ok}
use Rattle.state.specs.Calls.{finished_in}
use Rattle.keeping.proofs.Finished.{unfinished-pending}
use Rattle.course.specs.Course.{Course, coursed}
use Rattle.course.specs.Resumed.{resumed}
use Rattle.course.proofs.Splitting.{coursed-split}
use Rattle.course.proofs.Stops.{coursed-passes, coursed-length}
use Rattle.capturing.specs.declared.Captured.{Captured}
use Rattle.capturing.specs.Capture.{Captures}
use Rattle.capturing.proofs.Determined.{outcome-injective, captures-determined}
use Rattle.watching.proofs.Asking.{pending-unfinished}
use Rattle.demand.specs.Capturing.{MayCapture, ran_to, RanThrough, Splits}
use Rattle.demand.proofs.Capturing.{CaptureCase, may-run, not-run, capture-case, may-refused, captured-where, CapturePassed, capture-passed, capture-of}

-- ---- a run that goes on, and one that does not
-- it came to its end without a verdict
abbrev through : Course → Bool
through r = both (eqb r.refusal 0) (not (finished_in r.leaves))

resumed-on : (r : Course) (ys : List ℕ) → r.refusal ≡ 0 → finished_in r.leaves ≡ false
    → resumed r ys ≡ record { closed = r.closed + (coursed r.leaves ys).closed; refusal = (coursed r.leaves ys).refusal; leaves = (coursed r.leaves ys).leaves }
unfolding resumed pick both
resumed-on r ys z f = rw (eq-eqb r.refusal 0 z, f)

resumed-stays : (r : Course) (ys : List ℕ) → through r ≡ false → resumed r ys ≡ r
unfolding resumed pick
resumed-stays r ys e = rw e

not-true : (b : Bool) → not b ≡ true → b ≡ false
not-true false e = refl
not-true true e = absurd (no_true e)

-- ---- the split
module _ {s second xs t r : List ℕ} where
  -- the first capture goes on
  module _ {c : Captured} (p : CapturePassed s second xs t r c) (h : RanThrough (Ok c) c) where
    may-go : MayCapture t r
    may-go =
        let ok = p.may.passes in
        let long : length t ≡ length s = ap (λ (q : Course). length q.leaves) p.ran ∙ coursed-length s ok xs in
        record {
          long = ap length p.clears ∙ length-replicate {A = ℕ} (length second) 0 ∙ p.may.long ∙ ap (λ (n : ℕ). state_length (form_of n)) (sym long);
          passes = ap (λ (q : Course). state_ok q.leaves) p.ran ∙ coursed-passes s ok xs;
          unfinished = pending-unfinished t (sym p.verdict ∙ h.pending);
        }

    joined : (ys : List ℕ) {t' r' : List ℕ} {d : Captured} → CapturePassed t r ys t' r' d → CapturePassed s second (xs ++ ys) t' r' (record { closed = c.closed + d.closed; verdict = d.verdict; stop = d.stop })
    joined ys {t'} {r'} {d} q =
        let z : (said_outcome c.stop).number ≡ 0 = ap (λ (a : Result ⊤ Refusal). (said_outcome a).number) h.stops in
        let on = resumed-on (ran_to c t) ys z may-go.unfinished in
        record {
          may = p.may;
          ran = sym
              (coursed-split s xs ys ∙ ap (λ (x : Course). resumed x ys) (sym p.ran) ∙ on
              ∙ ap (λ (x : Course). record { closed = c.closed + x.closed; refusal = x.refusal; leaves = x.leaves }) (sym q.ran));
          verdict = q.verdict;
          clears = q.clears ∙ ap (λ (n : ℕ). replicate {A = ℕ} n 0) (ap length p.clears ∙ length-replicate {A = ℕ} (length second) 0);
        }

  -- it stopped before
  stopped-same : (ys : List ℕ) {c : Captured} → CapturePassed s second xs t r c → (RanThrough (Ok c) c → ⊥) → Captures s second (xs ++ ys) t r (Ok c)
  stopped-same ys {c} p stopped =
      capture-of
      (record { may = p.may; ran = p.ran ∙ sym (coursed-split s xs ys ∙ resumed-stays (coursed s xs) ys (go (through (coursed s xs)) refl)); verdict = p.verdict; clears = p.clears })
    where
      go : (b : Bool) → through (coursed s xs) ≡ b → b ≡ false
      go false e = refl
      go true e =
          let z = ap (λ (q : Course). q.refusal) p.ran ∙ eqb-true _ _ (both-0 _ _ e) in
          let f = ap (λ (q : Course). finished_in q.leaves) p.ran ∙ not-true _ (both-1 _ _ e) in
          absurd (stopped (record { accepts = refl; stops = outcome-injective c.stop (Ok tt) z; pending = p.verdict ∙ unfinished-pending t f }))

pub captured-split : {s second xs ys s' second' t r : List ℕ} {a b : Result Captured Refusal} → Captures s second (xs ++ ys) s' second' a → Captures s second xs t r b → Splits ys s' second' a t r b
captured-split {s} {second} {xs} {ys} {s'} {second'} {t} {r} {a} {b} x y =
    record {
      goes_on = λ c h t' r' answer z.
          let p = capture-passed (subst (λ (n : Result Captured Refusal). Captures s second xs t r n) h.accepts y) in
          let o : RanThrough (Ok c) c = record { accepts = refl; stops = h.stops; pending = h.pending } in
          let d = (captured-where z).0 (may-go p o) in
          let q = capture-passed (subst (λ (n : Result Captured Refusal). Captures t r ys t' r' n) d.1 z) in
          let same = captures-determined s second (xs ++ ys) s' t' second' r' a _ x (capture-of (joined p o ys q)) in
          (d.0, d.1, same.0, same.1, same.2);
      stays = λ h. stays b y h;
    }
  where
    same-as : (n : Result Captured Refusal) → Captures s second (xs ++ ys) t r n → (a ≡ n) × (s' ≡ t) × (second' ≡ r)
    same-as n z = captures-determined s second (xs ++ ys) s' t second' r a n x z

    refused-same : (why : Refusal) → Captures s second xs t r (Err why) → CaptureCase s second → (a ≡ Err why) × (s' ≡ t) × (second' ≡ r)
    refused-same why z (may-run m) = absurd (may-refused m z)
    refused-same why z (not-run n f) =
        let u = captures-determined s second xs t s r second (Err why) (Err n) z (f xs) in
        let v = captures-determined s second (xs ++ ys) s' s second' second a (Err n) x (f (xs ++ ys)) in
        (v.0 ∙ sym u.0, v.1 ∙ sym u.1, v.2 ∙ sym u.2)

    stays : (n : Result Captured Refusal) → Captures s second xs t r n → ((c : Captured) → RanThrough n c → ⊥) → (a ≡ n) × (s' ≡ t) × (second' ≡ r)
    stays (Ok c) z h = same-as _ (stopped-same ys (capture-passed z) (h c))
    stays (Err why) z h = refused-same why z (capture-case s second)
