-- What giving keeps of a state that goes on: after a call that is refused it is as it was, after a sample it still goes on, and after a step
-- the slot can be looked at. Assumes nothing.
use Rattle.std.specs.Prelude.{Result, Ok, Err, ⊤}
use mathlib.Core.Path.{◌≡◌, sym, ap, subst, ◌∙◌}
use mathlib.Core.Bool.{false}
use mathlib.Core.List.{List}
use Prim.Native.Nat.{ℕ}
use Rattle.answers.specs.declared.Refusal.{Refusal}
use Rattle.answers.specs.Said.{said_outcome}
use Rattle.state.specs.declared.Counts.{Counts}
use Rattle.state.specs.Fields.{mask_in, board_of_in}
use Rattle.state.specs.Clauses.{lone_other}
use Rattle.state.specs.Bytes.{formula_at}
use Rattle.state.specs.Calls.{sample_says, sample_leaves, step_says}
use Rattle.checked.proofs.Checked.{checked}
use Rattle.taking.specs.Sample.{Samples}
use Rattle.settling.specs.Step.{StepsSlot}
use Rattle.keeping.proofs.Refused.{refused-not-done, refused-leaves}
use Rattle.keeping.proofs.Kept.{StepKept, sample-kept, step_kept}
use Rattle.course.specs.Given.{After}
use Rattle.giving.specs.Give.{Comes, GoingOn, GivesEvent}
use Rattle.giving.specs.Stray.{SlotReads}

-- a watch that goes on, behind the last call
pub gives-going : {a : After} {s : List ℕ} {c : Counts} {x : Result ⊤ Refusal} → GoingOn s c → Comes a s x → GivesEvent a c s x
gives-going {s = s} g c = record { comes = c; header = g.opened.header; rest = (checked s g.opened.passes).rest; going = λ e. g }

-- the same behind a refused call, which has changed nothing
pub gives_same : {a : After} {s t : List ℕ} {c : Counts} {x : Result ⊤ Refusal} → GoingOn s c → t ≡ s → Comes a t x → GivesEvent a c t x
gives_same {c = c} g e h = gives-going (subst (λ (u : List ℕ). GoingOn u c) (sym e) g) h

-- the same, seen from before the calls
pub gives_as : {a b : After} {s : List ℕ} {c : Counts} {x : Result ⊤ Refusal} → GivesEvent b c s x → Comes a s x → GivesEvent a c s x
gives_as g h = record { comes = h; header = g.header; rest = g.rest; going = g.going }

-- ---- a sample
module _ {s t : List ℕ} {b bits : ℕ} {x : Result ⊤ Refusal} (r : Samples s b bits t x) where
  pub sampled-same : (why : Refusal) → x ≡ Err why → t ≡ s
  sampled-same why e =
      let says : sample_says s b bits ≡ said_outcome (Err why) = sym r.says ∙ ap said_outcome e in
      r.leaves ∙ refused-leaves why _ _ s (sym says)

  pub sampled-going : {c : Counts} → x ≡ Ok tt → GoingOn s c → GoingOn t c
  sampled-going {c} e g =
      let k = sample-kept s c g.opened g.unfinished b bits (sym r.says ∙ ap said_outcome e) in
      let kept : GoingOn (sample_leaves s b bits) c = record { opened = k.0; unfinished = k.1 } in
      subst (λ (u : List ℕ). GoingOn u c) (sym r.leaves) kept

-- ---- a step
module _ {s t : List ℕ} {k : ℕ} {x : Result ⊤ Refusal} (r : StepsSlot s k t x) where
  pub stepped_same : (why : Refusal) → x ≡ Err why → t ≡ s
  stepped_same why e =
      let says : step_says s k ≡ said_outcome (Err why) = sym r.says ∙ ap said_outcome e in
      r.leaves ∙ refused-leaves why _ _ s (sym says)

  pub stepped_kept : {c : Counts} → x ≡ Ok tt → GoingOn s c → StepKept t c k
  stepped_kept {c} e g =
      subst (λ (u : List ℕ). StepKept u c k) (sym r.leaves) (step_kept s c g.opened g.unfinished k (sym r.says ∙ ap said_outcome e))

module _ {t : List ℕ} {c : Counts} {k : ℕ} (n : StepKept t c k) where
  pub kept-reads : SlotReads t c k
  kept-reads = record { there = n.there; bytes = n.bytes; coded = n.coded }

  pub kept-going : lone_other (mask_in t (board_of_in t k)) (formula_at t k) ≡ false → GoingOn t c
  kept-going e = record { opened = n.passes e; unfinished = n.unfinished }

  -- a slot that strays
  pub strayed : {a : After} (why : Refusal) → Comes a t (Err why) → GivesEvent a c t (Err why)
  strayed why h = record { comes = h; header = n.there.sized.header; rest = n.rest; going = λ e. absurd (refused-not-done why e) }
