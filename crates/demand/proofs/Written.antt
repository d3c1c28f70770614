-- The rule that is watched beside the rule as written: the same traces meet both (`as_written_lem`), a verdict that the rule as written has is told
-- after the same events (`told-in-time`), and none differs (`told-agrees`). Assumes nothing.
use mathlib.Core.Path.{◌≡◌, refl, sym, ap, ◌∙◌}
use mathlib.Core.Bool.{Bool}
use mathlib.Core.List.{List, ◌++◌}
use mathlib.Core.Logic.{◌↔◌}
use Prim.Native.Nat.{ℕ}
use Rattle.answers.specs.declared.Verdict.TheVariants.{Pending}
use Rattle.kinds.specs.declared.Leaf.TheVariants.{Const, Prop, Hold}
use Rattle.ltl.specs.Formula.{Formula, leaf, one, two, constant}
use Rattle.ltl.specs.Meaning.{Event, Trace, Satisfies, continued}
use Rattle.ltl.specs.Progression.{progressed_over, verdict_of}
use Rattle.folded.proofs.Meaning.{folded_keeps}
use Rattle.folded.proofs.Told.{folded-in-time, folded-agrees}
use Rattle.loading.specs.Load.{rule_in, start_in}
use Rattle.demand.specs.Claims.{as_written}

pub as_written_lem : (file : List ℕ) (us : List Event) (w : Trace) → Satisfies (continued us w) (start_in file) ↔ Satisfies (continued us w) (rule_in file)
as_written_lem file us w = folded_keeps (continued us w) (rule_in file) 0

-- a verdict is that of a constant
told-constant : (f : Formula) → (verdict_of f ≡ Pending → ⊥) → (v : Bool) × (f ≡ constant v)
told-constant (leaf (Const v)) n = (v, refl)
told-constant (leaf (Prop i)) n = absurd (n refl)
told-constant (leaf (Hold k)) n = absurd (n refl)
told-constant (one o f) n = absurd (n refl)
told-constant (two o f g) n = absurd (n refl)

module _ (file : List ℕ) (us : List Event) where
  pub told-in-time : (as_written file us ≡ Pending → ⊥) → verdict_of (progressed_over us (start_in file)) ≡ as_written file us
  told-in-time n =
      let c = told-constant (progressed_over us (rule_in file)) n in
      ap verdict_of (folded-in-time us (rule_in file) c.0 c.1 ∙ sym c.1)

  pub told-agrees : (vs : List Event) → (verdict_of (progressed_over us (start_in file)) ≡ Pending → ⊥) → (as_written file (us ++ vs) ≡ Pending → ⊥)
      → verdict_of (progressed_over us (start_in file)) ≡ as_written file (us ++ vs)
  told-agrees vs m n =
      let c = told-constant (progressed_over us (start_in file)) m in
      let d = told-constant (progressed_over (us ++ vs) (rule_in file)) n in
      ap verdict_of (c.1 ∙ ap constant (folded-agrees us vs (rule_in file) c.0 d.0 c.1 d.1) ∙ sym d.1)
