-- The call `capture` on a watch, by its promise. An accepted one leaves a watch, for the events before and those that were closed
-- (`captured-watched`), so that the third demand holds of it (`captured-demanded`); its verdict is that of one place (`captured-verdict`).
-- Until a verdict it is accepted (`captured-pending`), and it stops as a watch does (`captured-stops`). From any state it comes to what single
-- calls come to (`captured-singly`). Assumes nothing.
use Rattle.std.specs.Prelude.{Result, Ok, Err, ⊤}
use Rattle.answers.specs.declared.Refusal.{Refusal}
use mathlib.Core.Path.{◌≡◌, sym, ap, ◌∙◌, subst}
use mathlib.Core.List.{List, ◌++◌}
use Prim.Native.Nat.{ℕ}
use lib.ListN.{length, take}
use Rattle.answers.specs.declared.Verdict.TheVariants.{Pending}
use Rattle.ltl.specs.Meaning.{Event}
use Rattle.rules.specs.RuleFile.{propositions_in_file, masks_in_file}
use Rattle.state.specs.Form.{form_in, state_length}
use Rattle.keeping.proofs.Finished.{unfinished-pending}
use Rattle.loading.specs.Load.{start_in}
use Rattle.course.specs.Course.{Course}
use Rattle.capturing.specs.declared.Captured.{Captured}
use Rattle.capturing.specs.Capture.{Captures}
use Rattle.watching.proofs.Ticked.{watch-started}
use Rattle.watching.proofs.Asking.{pending-unfinished}
use Rattle.watching.proofs.Demand.{watch-verdict}
use Rattle.demand.specs.Called.{Watched}
use Rattle.demand.specs.Claims.{standing}
use Rattle.demand.specs.Demanded.{Demanded}
use Rattle.demand.specs.Stopping.{WatchStops}
use Rattle.demand.specs.Singly.{RunSingly}
use Rattle.demand.specs.Capturing.{MayCapture, ran_to}
use Rattle.demand.proofs.Watches.{watched}
use Rattle.demand.proofs.Demand.{demanded}
use Rattle.demand.proofs.Coursed.{coursed-watched}
use Rattle.demand.proofs.Stopping.{watched-stops}
use Rattle.demand.proofs.Singly.{singly-coursed}
use Rattle.capturing.proofs.Determined.{outcome-injective}
use Rattle.demand.proofs.Capturing.{captured-where, capture-passed, may-length}

-- ---- of a watch
module _ {file : List ℕ} {us : List Event} {s : List ℕ} (w : Watched file us s) {second events s' second' : List ℕ} {c : Captured} (x : Captures s second events s' second' (Ok c)) where
  pub captured-watched : Watched file (us ++ take c.closed events) s'
  captured-watched = subst (λ (r : Course). Watched file (us ++ take r.closed events) r.leaves) (sym (capture-passed x).ran) (coursed-watched w events)

  pub captured-demanded : Demanded file (us ++ take c.closed events) s'
  captured-demanded = demanded captured-watched

  pub captured-verdict : c.verdict ≡ (standing file (us ++ take c.closed events) s').verdict
  captured-verdict = (capture-passed x).verdict ∙ watch-verdict (propositions_in_file file) (masks_in_file file) (start_in file) (us ++ take c.closed events) s' (watched captured-watched)

  pub captured-stops : WatchStops file us events (ran_to c s')
  captured-stops =
      let p = capture-passed x in
      let pending = sym (watch-verdict (propositions_in_file file) (masks_in_file file) (start_in file) us s (watched w)) ∙ unfinished-pending s p.may.unfinished in
      subst (λ (r : Course). WatchStops file us events r) (sym p.ran) (watched-stops w pending events)

-- until a verdict it may run
pub captured-may : {file : List ℕ} {us : List Event} {s : List ℕ} → Watched file us s → (second : List ℕ) → (standing file us s).verdict ≡ Pending → length second ≡ state_length (form_in s) → MayCapture s second
captured-may {file} {us} {s} w second pending long =
    let p = propositions_in_file file in
    let masks = masks_in_file file in
    record {
      long = long;
      passes = (watch-started p masks (start_in file) (watched w)).passes;
      unfinished = pending-unfinished s (watch-verdict p masks (start_in file) us s (watched w) ∙ pending);
    }

pub captured-pending : {file : List ℕ} {us : List Event} {s : List ℕ} → Watched file us s → (standing file us s).verdict ≡ Pending
    → {second events s' second' : List ℕ} {answer : Result Captured Refusal} → length second ≡ state_length (form_in s) → Captures s second events s' second' answer → (c : Captured) × (answer ≡ Ok c)
captured-pending w pending {second} long x = (captured-where x).0 (captured-may w second pending long)

-- ---- of any state
pub captured-singly : {s second events s' second' : List ℕ} {c : Captured} → Captures s second events s' second' (Ok c)
    → (closed : ℕ) (answer : Result ⊤ Refusal) (last : List ℕ) → RunSingly s second events closed answer last → (c.closed ≡ closed) × (c.stop ≡ answer) × (s' ≡ last)
captured-singly {c = c} x closed answer last y =
    let p = capture-passed x in
    let e = singly-coursed p.may.passes (may-length p.may) y in
    let r = p.ran in (
      ap (λ (q : Course). q.closed) r ∙ sym e.0,
      outcome-injective c.stop answer (ap (λ (q : Course). q.refusal) r ∙ sym e.1),
      ap (λ (q : Course). q.leaves) r ∙ sym e.2,
    )
