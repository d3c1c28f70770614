-- Splitting the events over two captures from C gives the same as one capture of them all: `c-captured-split`. Assumes nothing.
use Rattle.std.specs.Prelude.{Result, Ok, Err, ⊤}
use Rattle.answers.specs.declared.Refusal.{Refusal}
use mathlib.Core.Path.{◌≡◌, refl, sym, ap, ap₂, ◌∙◌, subst}
use mathlib.Core.List.{List, ◌++◌}
use Prim.Native.Nat.{ℕ, ◌+◌}
use native.Mathlib.Decide.{ℕ_discrete}
use Rattle.answers.specs.declared.Verdict.TheVariants.{Pending}
use Rattle.answers.specs.Said.{Said, verdict_number, said_outcome}
use Rattle.answers.proofs.Answers.{verdict-injective}
use Rattle.capturing.specs.declared.Captured.{Captured}
use Rattle.capturing.specs.Capture.{said_capture, Captures}
use Rattle.exported.specs.Exported.{CaptureExported}
use Rattle.demand.specs.Capturing.{RanThrough}
use Rattle.capturing.proofs.Determined.{outcome-injective}
use Rattle.demand.proofs.CapturedSplit.{captured-split}
use Rattle.demand_c.specs.Capturing.{StoredC, CapturesFromC, RanThroughC, SplitsFromC}
use Rattle.demand_c.proofs.Same.{capture-refusal, capture-same}

-- what an accepted capture stores
abbrev stored_of : Captured → StoredC
stored_of c = record { closed = c.closed; verdict = verdict_number c.verdict; stop = (said_outcome c.stop).number; answer = 0 }

-- ---- one capture
-- the answer of the call itself, with the same number, and where it ran what it stored
record AnsweredC (s second events s' second' : List ℕ) (x : StoredC) : Type 0 where
  said : Result Captured Refusal
  captures : Captures s second events s' second' said
  number : x.answer ≡ (said_capture said).number
  ran : x.answer ≡ 0 → (c : Captured) × (said ≡ Ok c)
  stored : (c : Captured) → said ≡ Ok c → x ≡ stored_of c

captured-same : (c d : Captured) → ◌≡◌ {A = Result Captured Refusal} (Ok c) (Ok d) → c ≡ d
captured-same c d = ap run_of
  where
    run_of : Result Captured Refusal → Captured
    run_of (Ok e) = e
    run_of (Err why) = c

answered : {s second events s' second' : List ℕ} {x : StoredC} → CapturesFromC s second events s' second' x → AnsweredC s second events s' second' x
answered {s} {second} {events} {s'} {second'} {x} h = go (ℕ_discrete x.answer 0)
  where
    go : Dec (x.answer ≡ 0) → AnsweredC s second events s' second' x
    go (yes z) =
        let y = capture-same (subst (λ (n : ℕ). CaptureExported s second events s' second' h.closed-before h.verdict-before h.stop-before x.closed x.verdict x.stop n) z h.captures) in
        let closed = y.count-is in
        let verdict = y.verdict-is in
        let stop = y.stop_is in
        record {
          said = Ok y.told;
          captures = y.captures;
          number = z;
          ran = λ e. (y.told, refl);
          stored = λ c e. (λ i. record { closed = closed i; verdict = verdict i; stop = stop i; answer = z i }) ∙ ap stored_of (captured-same y.told c e);
        }
    go (no n) =
        let y = capture-refusal h.captures n in
        let number = h.captures.says ∙ ap (λ (a : Said). a.number) (sym y.1.says) in
        record {
          said = Err y.0;
          captures = y.1;
          number = number;
          ran = λ z. absurd (n z);
          stored = λ c e. absurd (n (number ∙ ap (λ (a : Result Captured Refusal). (said_capture a).number) e));
        }

module _ {s second events s' second' : List ℕ} {x : StoredC} (y : AnsweredC s second events s' second' x) (c : Captured) where
  through-of : RanThroughC x → y.said ≡ Ok c → RanThrough y.said c
  through-of h e =
      let q = sym (y.stored c e) in
      record {
        accepts = e;
        stops = outcome-injective c.stop (Ok tt) (ap (λ (z : StoredC). z.stop) q ∙ h.stops);
        pending = verdict-injective c.verdict Pending (ap (λ (z : StoredC). z.verdict) q ∙ h.pending);
      }

  of-through : RanThrough y.said c → RanThroughC x
  of-through h =
      let q = y.stored c h.accepts in
      record {
        accepts = ap (λ (z : StoredC). z.answer) q;
        stops = ap (λ (z : StoredC). z.stop) q ∙ ap (λ (a : Result ⊤ Refusal). (said_outcome a).number) h.stops;
        pending = ap (λ (z : StoredC). z.verdict) q ∙ ap verdict_number h.pending;
      }

-- ---- the split
abbrev joined : StoredC → StoredC → StoredC
joined b d = record { closed = b.closed + d.closed; verdict = d.verdict; stop = d.stop; answer = d.answer }

pub c-captured-split : {s second xs ys s' second' t r : List ℕ} {a b : StoredC} → CapturesFromC s second (xs ++ ys) s' second' a → CapturesFromC s second xs t r b → SplitsFromC ys s' second' a t r b
c-captured-split {s} {second} {xs} {ys} {s'} {second'} {t} {r} {a} {b} x y =
    let whole = answered x in
    let first = answered y in
    let split = captured-split {ys = ys} whole.captures first.captures in
    record {
      goes_on = λ h t' r' d z.
          let rest = answered z in
          let c = first.ran h.accepts in
          let g = split.goes_on c.0 (through-of first c.0 h c.1) t' r' rest.said rest.captures in
          let e = rest.stored g.0 g.1 in
          (ap (λ (n : StoredC). n.answer) e, whole.stored _ g.2 ∙ ap₂ joined (sym (first.stored c.0 c.1)) (sym e), g.3, g.4);
      stays = λ z h.
          let c = first.ran z in
          let g = split.stays (λ d o. h (of-through first d o)) in
          (whole.stored c.0 (g.0 ∙ c.1) ∙ sym (first.stored c.0 c.1), g.1, g.2);
      refuses = λ n.
          let g = split.stays (λ d o. n (of-through first d o).accepts) in
          (whole.number ∙ ap (λ (w : Result Captured Refusal). (said_capture w).number) g.0 ∙ sym first.number, g.1, g.2);
    }
