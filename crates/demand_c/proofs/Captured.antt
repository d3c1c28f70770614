-- The call `capture` from C, on a watch from C, as in crates/demand. One that answers 0 leaves a watch from C, for the events before and as
-- many as it stored (`c-captured-watched`), so that the third demand holds of it (`c-captured-demanded`); it stores the verdict of one place
-- (`c-captured-verdict`) and stops as a watch does (`c-captured-stops`). Until a verdict it answers 0 (`c-captured-pending`). From any state
-- it comes to what single calls come to (`c-captured-singly`). Assumes nothing.
use Rattle.std.specs.Prelude.{Result, ⊤}
use Rattle.answers.specs.declared.Refusal.{Refusal}
use mathlib.Core.Path.{◌≡◌, sym, ap, ◌∙◌, subst}
use mathlib.Core.List.{List, ◌++◌}
use Prim.Native.Nat.{ℕ}
use lib.ListN.{length, take}
use Rattle.answers.specs.declared.Verdict.TheVariants.{Pending}
use Rattle.answers.specs.Said.{Said, verdict_number, said_outcome}
use Rattle.ltl.specs.Meaning.{Event}
use Rattle.state.specs.Form.{form_in, state_length}
use Rattle.course.specs.Course.{Course}
use Rattle.exported.specs.Exported.{CaptureExported}
use Rattle.demand.specs.Claims.{standing}
use Rattle.demand.specs.Stopping.{WatchStops}
use Rattle.demand.specs.Singly.{RunSingly}
use Rattle.demand.proofs.Capturing.{capture-exists}
use Rattle.demand.proofs.Captured.{captured-watched, captured-verdict, captured-stops, captured-may, captured-singly}
use Rattle.demand_c.specs.FromC.{WatchedFromC}
use Rattle.demand_c.specs.Demanded.{DemandedFromC}
use Rattle.demand_c.proofs.Same.{capture-same}
use Rattle.demand_c.proofs.Watches.{watched-from-c}
use Rattle.demand_c.proofs.Back.{watched-to-c}
use Rattle.demand_c.proofs.Demand.{demanded-from-c}

-- ---- of a watch
module _ {file : List ℕ} {us : List Event} {s : List ℕ} (w : WatchedFromC file us s) {second events s' second' : List ℕ} {count verdict stop count' verdict' stop' : ℕ} where
  module _ (x : CaptureExported s second events s' second' count verdict stop count' verdict' stop' 0) where
    pub c-captured-watched : WatchedFromC file (us ++ take count' events) s'
    c-captured-watched =
        let r = capture-same x in
        subst (λ (n : ℕ). WatchedFromC file (us ++ take n events) s') (sym r.count-is) (watched-to-c (captured-watched (watched-from-c w) r.captures))

    pub c-captured-demanded : DemandedFromC file (us ++ take count' events) s'
    c-captured-demanded = demanded-from-c c-captured-watched

    pub c-captured-verdict : verdict' ≡ verdict_number (standing file (us ++ take count' events) s').verdict
    c-captured-verdict =
        let r = capture-same x in
        r.verdict-is ∙ ap verdict_number (captured-verdict (watched-from-c w) r.captures)
        ∙ ap (λ (n : ℕ). verdict_number (standing file (us ++ take n events) s').verdict) (sym r.count-is)

    pub c-captured-stops : WatchStops file us events (record { closed = count'; refusal = stop'; leaves = s' })
    c-captured-stops =
        let r = capture-same x in
        let n = sym r.count-is in
        let m = sym r.stop_is in
        subst (λ (q : Course). WatchStops file us events q) (λ i. record { closed = n i; refusal = m i; leaves = s' }) (captured-stops (watched-from-c w) r.captures)

  pub c-captured-pending : {n : ℕ} → (standing file us s).verdict ≡ Pending → length second ≡ state_length (form_in s)
      → CaptureExported s second events s' second' count verdict stop count' verdict' stop' n → n ≡ 0
  c-captured-pending pending long x =
      x.says ∙ ap (λ (a : Said). a.number) (sym (capture-exists (captured-may (watched-from-c w) second pending long) events).1.says)

-- ---- of any state
pub c-captured-singly : {s second events s' second' : List ℕ} {count verdict stop count' verdict' stop' : ℕ} → CaptureExported s second events s' second' count verdict stop count' verdict' stop' 0
    → (closed : ℕ) (answer : Result ⊤ Refusal) (last : List ℕ) → RunSingly s second events closed answer last → (count' ≡ closed) × (stop' ≡ (said_outcome answer).number) × (s' ≡ last)
c-captured-singly x closed answer last y =
    let r = capture-same x in
    let e = captured-singly r.captures closed answer last y in
    (r.count-is ∙ e.0, r.stop_is ∙ ap (λ (a : Result ⊤ Refusal). (said_outcome a).number) e.1, e.2)
