-- The claims about a watch over a rule file's rule, at the level of formulas: masks that follow their rule, propositions below p, no
-- place holder. `rule-verdict`: after each close the verdict is that of one place; `rule-true`, `rule-false`: what it means;
-- `rule-agrees`, `rule-goes-on`, `rule-exists`: the order within a tick does not matter, no tick gets stuck, and there is an order.
-- Assumes nothing.
use mathlib.Core.Path.{◌≡◌}
use mathlib.Core.Bool.{Bool, true, false}
use mathlib.Core.List.{List}
use mathlib.Core.Logic.{◌⊎◌}
use Prim.Native.Nat.{ℕ, ◌≤◌}
use lib.ListN.{length, replicate}
use Rattle.answers.specs.declared.Verdict.TheVariants.{False, True}
use Rattle.limits.specs.Limits.{propositions_most}
use Rattle.ltl.specs.Formula.{Formula, Within}
use Rattle.ltl.specs.Meaning.{Event, Trace, Satisfies, continued}
use Rattle.ltl.specs.Progression.{progressed_over, verdict_of}
use Rattle.masks.specs.Masks.{masks_rule}
use Rattle.network.specs.Scores.{chosen, sample_of}
use Rattle.network.specs.Layout.{Slot, slot_at}
use Rattle.network.specs.Tick.{Steps, AllMarked, Ticks, Watch}
use Rattle.network.proofs.Watched.{Sound, watch-sound, watch-verdict, watch-true, watch-false}
use Rattle.network.proofs.Settling.{Ready, ticks-agree, ticks-exist, ticks-go-on}
use Rattle.network.proofs.Choosing.{masks-choice, masks-own, masks-free}

module _ (p : ℕ) (masks : List ℕ) (few : p ≤ propositions_most) (follow : masks_rule p masks ≡ true) (rule : Formula) (within : Within p 0 rule)
    (us : List Event) (slots : List Slot) (watch : Watch (chosen masks) (sample_of masks) rule us slots) where
  -- after each close the verdict is that of the whole rule progressed in one place over the same events
  pub rule-verdict : verdict_of (slot_at slots 0).formula ≡ verdict_of (progressed_over us rule)
  rule-verdict = watch-verdict (chosen masks) (masks-choice masks) (sample_of masks) (masks-own p masks few follow) rule (masks-free p masks few follow rule within) watch

  -- true: every endless continuation of the events meets the rule
  pub rule-true : verdict_of (slot_at slots 0).formula ≡ True → (w : Trace) → Satisfies (continued us w) rule
  rule-true = watch-true (chosen masks) (masks-choice masks) (sample_of masks) (masks-own p masks few follow) rule (masks-free p masks few follow rule within) watch

  -- false: none does
  pub rule-false : verdict_of (slot_at slots 0).formula ≡ False → (w : Trace) → Satisfies (continued us w) rule → ⊥
  rule-false = watch-false (chosen masks) (masks-choice masks) (sample_of masks) (masks-own p masks few follow) rule (masks-free p masks few follow rule within) watch

  sound : Sound (chosen masks) (masks-choice masks) (sample_of masks) (masks-own p masks few follow) rule (masks-free p masks few follow rule within) us slots
  sound = watch-sound (chosen masks) (masks-choice masks) (sample_of masks) (masks-own p masks few follow) rule (masks-free p masks few follow rule within) watch

  -- ---- the next tick, with an event's samples
  module _ (e : Event) where
    -- equal samples close to the same next network, whatever the order of the steps
    pub rule-agrees : (a b : List Slot) → Ticks (chosen masks) (sample_of masks e) slots a → Ticks (chosen masks) (sample_of masks e) slots b → a ≡ b
    rule-agrees = ticks-agree (chosen masks) (masks-choice masks) (sample_of masks e) slots sound.ok

    -- there is an allowed order
    pub rule-exists : (after : List Slot) × Ticks (chosen masks) (sample_of masks e) slots after
    rule-exists = ticks-exist (chosen masks) (masks-choice masks) (sample_of masks e) slots sound.ok

    -- wherever the tick stands, all slots are stepped or one is ready
    pub rule-goes-on : (now : List Slot) (marks : List Bool) → Steps (sample_of masks e) slots (replicate (length slots) false) now marks
        → AllMarked now marks ⊎ Ready now marks
    rule-goes-on now marks s = ticks-go-on (chosen masks) (masks-choice masks) (sample_of masks e) slots sound.ok s
