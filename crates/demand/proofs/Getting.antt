-- A call gets the answer that its definition gives: `sample-gets`, `step_gets`, `close-gets`, `ask-gets`. So what goes on over the
-- definitions goes on by the promises (`going_on`, with `closing` and `close-left`). `done-boards`: where the close is all that is left every
-- board has sampled. Assumes nothing.
use Rattle.std.specs.Prelude.{Result, Ok, Err, ⊤}
use Rattle.answers.specs.declared.Refusal.{Refusal}
use mathlib.Core.Path.{◌≡◌, refl, sym, ap, ◌∙◌}
use mathlib.Core.Bool.{true}
use mathlib.Core.List.{List}
use mathlib.Core.Logic.{inl, inr}
use Prim.Native.Nat.{ℕ, ◌<◌}
use native.Mathlib.Omega.{arith}
use lib.Dec.{eqb}
use borrow.Author.Tests.{eqb-true}
use Rattle.lists.proofs.Tests.{both-0, both-1}
use Rattle.answers.specs.declared.Refusal.TheVariants.{Slots, Nodes, Ticks}
use Rattle.answers.specs.Said.{refused, said_outcome}
use Rattle.answers.proofs.Answers.{said_outcome-injective}
use Rattle.state.specs.Form.{form_in, state_length}
use Rattle.state.specs.Fields.{boards_in, slots_in, sampled_in, stepped_in}
use Rattle.state.specs.Calls.{ask_says, sample_says, sample_leaves, step_says, step_leaves, done_in, close_says, close_leaves}
use Rattle.records.proofs.Each.{each_at}
use Rattle.keeping.specs.Closing as defined
use Rattle.keeping.proofs.Calls.{sample-passed, step-passed}
use Rattle.watching.specs.Claims as definition
use Rattle.telling.specs.declared.Standing.{Standing}
use Rattle.telling.specs.Ask.{said_ask}
use Rattle.asking.proofs.Determined.{said_ask-injective}
use Rattle.taking.specs.Sample.{Samples}
use Rattle.settling.specs.Step.{StepsSlot}
use Rattle.demand.specs.Claims.{Gets, CloseGets, Closing, accepts, too-many-slots, too-many-nodes, no-more-ticks, CloseLeft, GoesOn, samples, steps, closes, AskGets}

module _ (t : List ℕ) where
  sample-gets : (board bits : ℕ) (wanted : Result ⊤ Refusal) → said_outcome wanted ≡ sample_says t board bits → Gets (Samples t board bits) wanted
  sample-gets board bits wanted e =
      record { leaves = sample_leaves t board bits; allowed = record { says = e; leaves = refl }; only = λ s' answer p. said_outcome-injective answer wanted (p.says ∙ sym e) }

  step_gets : (slot : ℕ) (wanted : Result ⊤ Refusal) → said_outcome wanted ≡ step_says t slot → Gets (StepsSlot t slot) wanted
  step_gets slot wanted e =
      record { leaves = step_leaves t slot; allowed = record { says = e; leaves = refl }; only = λ s' answer p. said_outcome-injective answer wanted (p.says ∙ sym e) }

  close-gets : (wanted : Result ⊤ Refusal) → said_outcome wanted ≡ close_says t (state_length (form_in t)) → CloseGets t wanted
  close-gets wanted e second long =
      let f = e ∙ ap (close_says t) (sym long) in
      record { leaves = close_leaves t second; allowed = record { says = f; leaves = refl }; only = λ s' answer p. said_outcome-injective answer wanted (p.says ∙ sym f) }

  pub ask-gets : (wanted : Standing) → said_ask (Ok wanted) ≡ ask_says t → AskGets t wanted
  ask-gets wanted e = record { allowed = record { says = e }; only = λ answer p. said_ask-injective answer (Ok wanted) (p.says ∙ sym e) }

  -- ---- within a tick
  pub closing : defined.StateClosing t → Closing t
  closing (defined.accepts e) = accepts (close-gets (Ok tt) (sym e))
  closing (defined.refuses n (inl h) e) = too-many-slots (close-gets (Err Slots) (sym (e ∙ ap refused h)))
  closing (defined.refuses n (inr (inl h)) e) = too-many-nodes (close-gets (Err Nodes) (sym (e ∙ ap refused h)))
  closing (defined.refuses n (inr (inr h)) e) = no-more-ticks (close-gets (Err Ticks) (sym (e ∙ ap refused h)))

  pub done-boards : done_in t ≡ true → (b : ℕ) → b < boards_in t → sampled_in t b ≡ 1
  unfolding done_in
  done-boards done b l = eqb-true _ _ (each_at (λ i. eqb (sampled_in t i) 1) (boards_in t) b (both-0 _ _ done) l)

  done-slots : done_in t ≡ true → (k : ℕ) → k < slots_in t → stepped_in t k ≡ 1
  unfolding done_in
  done-slots done k l = eqb-true _ _ (each_at (λ k. eqb (stepped_in t k) 1) (slots_in t) k (both-1 _ _ done) l)

  pub close-left : done_in t ≡ true → CloseLeft t
  close-left done =
      record {
        done = done;
        no-sample = λ board bits t' p. let f = sample-passed t board bits (sym p.says) in omega (arith, done-boards done board f.there);
        no_step = λ slot t' p. let f = step-passed t slot (sym p.says) in omega (arith, done-slots done slot f.there);
      }

  pub going_on : definition.StateGoesOn t → GoesOn t
  going_on (definition.samples board bits e) = samples board bits (sample-gets board bits (Ok tt) (sym e))
  going_on (definition.steps k e) = steps k (step_gets k (Ok tt) (sym e))
  going_on (definition.closes done c) = closes (close-left done) (closing c)
