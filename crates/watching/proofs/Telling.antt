-- The verdict that a watch's state tells. At load and after each close it is that of the root's formula (`started-verdict`), and the watch
-- is finished where that is true or false (`started-finished`). Between closes it stays: calls on a finished watch are refused with 10
-- and leave it as it was (`finished-over`), and one that is not finished is not finished by them (`calls-unfinished`).
-- Assumes nothing.
use mathlib.Core.Path.{◌≡◌, refl, sym, ap, ap₂, ◌∙◌}
use mathlib.Core.Bool.{Bool, true, false, not}
use mathlib.Core.List.{List}
use Prim.Native.Nat.{ℕ, ◌<◌}
use native.Mathlib.Omega.{arith}
use lib.ListN.{get_or}
use lib.Dec.{eqb}
use borrow.Author.Tests.{eq-eqb}
use Rattle.lists.specs.Tests.{pick}
use Rattle.lists.proofs.Tests.{no_true}
use Rattle.kinds.specs.declared.Leaf.TheVariants.{Const, Prop, Hold}
use Rattle.answers.specs.Said.{refused}
use Rattle.answers.specs.declared.Refusal.TheVariants.{Finished}
use Rattle.answers.specs.declared.Verdict.TheVariants.{False, True, Pending}
use Rattle.answers.proofs.Answers.{order-ok, order-refused}
use Rattle.ltl.specs.Formula.{Formula, leaf, one, two, constant, encode}
use Rattle.ltl.specs.Meaning.{Event}
use Rattle.ltl.specs.Progression.{verdict_of}
use Rattle.network.specs.Layout.{Slot}
use Rattle.state.specs.Form.{form_in, state_length}
use Rattle.state.specs.Fields.{slots_in}
use Rattle.state.specs.Clauses.{state_ok}
use Rattle.state.specs.Bytes.{formula_at}
use Rattle.state.specs.Calls.{finished_in, verdict_in, sample_says, sample_leaves, step_says, step_leaves, close_says}
use Rattle.state.proofs.Listed.{network-at}
use Rattle.checked.proofs.Passing.{SlotPassing, passing}
use Rattle.keeping.specs.Known.{known}
use Rattle.keeping.proofs.Refused.{refused-leaves}
use Rattle.keeping.proofs.Constants.{constant-is}
use Rattle.keeping.proofs.Finished.{finished-of, Ended, not-finished}
use Rattle.watching.specs.Watch.{Calls, none, sample, step}
use Rattle.watching.specs.Claims.{StateOver}
use Rattle.watching.proofs.InTick.{slots_kept, slot_kept}
use Rattle.watching.proofs.Started.{Started, started-laid}
use Rattle.watching.proofs.Ticked.{started-in-tick}

-- ---- calls on a finished state that passes
module _ (s : List ℕ) (ok : state_ok s ≡ true) (finished : finished_in s ≡ true) where
  sample-refused : (board bits : ℕ) → sample_says s board bits ≡ refused 10
  unfolding sample_says
  sample-refused board bits = order-ok 9 _ _ _ ok ∙ order-refused 10 _ _ _ (ap not finished)

  step-refused : (k : ℕ) → step_says s k ≡ refused 10
  unfolding step_says
  step-refused k = order-ok 9 _ _ _ ok ∙ order-refused 10 _ _ _ (ap not finished)

  close-refused : close_says s (state_length (form_in s)) ≡ refused 10
  unfolding close_says
  close-refused = order-ok 1 _ _ _ (eq-eqb (state_length (form_in s)) _ refl) ∙ order-ok 9 _ _ _ ok ∙ order-refused 10 _ _ _ (ap not finished)

  calls-stay : {t : List ℕ} → Calls s t → t ≡ s
  calls-stay none = refl
  calls-stay (sample c board bits) = ap (λ (u : List ℕ). sample_leaves u board bits) (calls-stay c) ∙ refused-leaves Finished _ _ s (sym (sample-refused board bits))
  calls-stay (step c k) = ap (λ (u : List ℕ). step_leaves u k) (calls-stay c) ∙ refused-leaves Finished _ _ s (sym (step-refused k))

  pub finished-over : StateOver s
  finished-over = record { no-sample = sample-refused; no_step = step-refused; no-close = close-refused; stays = λ t c. calls-stay c }

-- ---- a watch's state
module _ (p : ℕ) (masks : List ℕ) (rule : Formula) (us : List Event) (s : List ℕ) (x : Started p masks rule us s) where
  some-slots : 0 < slots_in s
  some-slots = (passing s x.passes).header.some-slots

  root : SlotPassing s 0
  root = (passing s x.passes).slots 0 some-slots

  constant-root : (v : Bool) → formula_at s 0 ≡ constant v → finished_in s ≡ true
  constant-root v e = finished-of s (x.single v e) (x.unstepped 0 some-slots) (constant-is s 0 root ∙ ap (λ (f : Formula). known (verdict_of f)) e ∙ sure v)
    where
      sure : (v : Bool) → known (verdict_of (constant v)) ≡ true
      sure true = refl
      sure false = refl

  pending-root : (f : Formula) → formula_at s 0 ≡ f → known (verdict_of f) ≡ false → finished_in s ≡ false
  pending-root f e q =
      not-finished s
      (λ d. no_true (sym (constant-is s 0 root ∙ ap (λ (f : Formula). known (verdict_of f)) e ∙ q) ∙ d.constant))

  pub started-finished : finished_in s ≡ known (verdict_of (formula_at s 0))
  started-finished = go (formula_at s 0) refl
    where
      go : (f : Formula) → formula_at s 0 ≡ f → finished_in s ≡ known (verdict_of f)
      go (leaf (Const true)) e = constant-root true e
      go (leaf (Const false)) e = constant-root false e
      go (leaf (Prop i)) e = pending-root (leaf (Prop i)) e refl
      go (leaf (Hold m)) e = pending-root (leaf (Hold m)) e refl
      go (one o f) e = pending-root (one o f) e refl
      go (two o f g) e = pending-root (two o f g) e refl

  pub started-verdict : verdict_in s ≡ verdict_of (formula_at s 0)
  unfolding verdict_in pick
  started-verdict =
      ap₂ (λ (b : Bool) (l : List ℕ). pick b (pick (eqb (get_or l 0 0) 1) True False) Pending) started-finished root.bytes ∙ told (formula_at s 0)
    where
      told : (f : Formula) → pick (known (verdict_of f)) (pick (eqb (get_or (encode f) 0 0) 1) True False) Pending ≡ verdict_of f
      told (leaf (Const true)) = refl
      told (leaf (Const false)) = refl
      told (leaf (Prop i)) = refl
      told (leaf (Hold m)) = refl
      told (one o f) = refl
      told (two o f g) = refl

  -- ---- between closes
  pub calls-unfinished : (t : List ℕ) → Calls s t → finished_in s ≡ false → finished_in t ≡ false
  calls-unfinished t c unfinished = not-finished t (λ d. no_true (sym unfinished ∙ back d))
    where
      back : Ended t → finished_in s ≡ true
      back d =
          let laid = started-laid p masks rule us s x in
          let i = started-in-tick p masks rule us s t x c in
          let n = slots_kept s x.passes laid t i in
          let l : 0 < slots_in t = omega (arith, some-slots) in
          let same : formula_at t 0 ≡ formula_at s 0 =
          ap (λ (y : Slot). y.formula) (sym (network-at t 0 l) ∙ slot_kept s x.passes laid t i 0 l d.unstepped ∙ network-at s 0 some-slots) in
          started-finished ∙ ap (λ (f : Formula). known (verdict_of f)) (sym same) ∙ sym (constant-is t 0 ((passing t i.passes).slots 0 l)) ∙ d.constant
