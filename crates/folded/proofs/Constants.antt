-- A formula without propositions and place holders folds to a constant (`folded-constant`). Assumes nothing.
use mathlib.Core.Path.{◌≡◌, refl}
use mathlib.Core.Bool.{Bool}
use native.Mathlib.Omega.{arith}
use Rattle.kinds.specs.declared.Leaf.TheVariants.{Const, Prop, Hold}
use Rattle.kinds.specs.declared.Binary.TheVariants.{Joined, Until}
use Rattle.ltl.specs.Formula.{Formula, leaf, one, two, constant, Within}
use Rattle.ltl.specs.Progression.{deciding}
use Rattle.folded.specs.Folding.{folded}
use Rattle.folded.proofs.Cases.{either-never, of_constant, folded-one-cases, folded-join-cases, folded-until-cases}

abbrev SomeConstant : Formula → Type 0
SomeConstant f = (v : Bool) × (f ≡ constant v)

pub folded-constant : (f : Formula) → Within 0 0 f → (v : Bool) × (folded f ≡ constant v)
folded-constant (leaf (Const v)) w = (v, refl)
folded-constant (leaf (Prop i)) w = absurd (omega arith)
folded-constant (leaf (Hold k)) w = absurd (omega arith)
folded-constant (one o f) w =
    let c = folded-constant f w in
    folded-one-cases SomeConstant o (folded f) (λ v q. (of_constant o v, refl)) (λ n. absurd (either-never (folded f) c.0 n c.1))
folded-constant (two (Joined j) f g) w =
    let c = folded-constant f w.0 in
    let d = folded-constant g w.1 in
    folded-join-cases SomeConstant j (folded f) (folded g) (λ q. (deciding j, refl)) (λ q. (deciding j, refl)) (λ q. d) (λ q. c)
    (λ n m. absurd (either-never (folded f) c.0 n c.1))
folded-constant (two Until f g) w =
    let d = folded-constant g w.1 in
    folded-until-cases SomeConstant (folded f) (folded g) (λ q. d) (λ q. d) (λ n m. absurd (either-never (folded g) d.0 n d.1))
