-- Resolving a formula whose numbers have codes gives one whose numbers have codes. Assumes nothing.
use mathlib.Core.Path.{◌≡◌, refl, sym, subst}
use Rattle.kinds.specs.Kinds.{leaf_coded}
use Rattle.kinds.specs.declared.Leaf.{Leaf}
use Rattle.kinds.specs.declared.Leaf.TheVariants.{Const, Prop, Hold}
use Rattle.kinds.specs.declared.Unary.TheVariants.{Not, Next, Ever}
use Rattle.kinds.specs.declared.Join.{Join}
use Rattle.kinds.specs.declared.Binary.TheVariants.{Joined, Until}
use Rattle.answers.specs.declared.Verdict.{Verdict}
use Rattle.answers.specs.declared.Verdict.TheVariants.{False, True, Pending}
use Rattle.ltl.specs.Formula.{Formula, leaf, one, two, Coded}
use Rattle.ltl.specs.Progression.{negated, joined, resolved, filled_by}
use Rattle.ltl.proofs.Joining.{joined-elim, negated-elim}
use Rattle.resolving.specs.declared.Seen.{Seen}
use Rattle.resolving.specs.Settles.{held_by, settled, settled_leaf}

-- a node without operands, settled
pub settled-leaf : (seen : Seen) (a : Leaf) → settled seen (leaf a) ≡ leaf (settled_leaf seen a)
settled-leaf seen (Const v) = refl
settled-leaf seen (Prop i) = refl
settled-leaf seen (Hold k) = go (held_by seen k)
  where
    go : (v : Verdict) → resolved seen.event (leaf (filled_by v k)) ≡ leaf (filled_by v k)
    go True = refl
    go False = refl
    go Pending = refl

leaf-coded : (seen : Seen) (a : Leaf) → leaf_coded a → leaf_coded (settled_leaf seen a)
leaf-coded seen (Const v) w = tt
leaf-coded seen (Prop i) w = tt
leaf-coded seen (Hold k) w = go (held_by seen k)
  where
    go : (v : Verdict) → leaf_coded (filled_by v k)
    go True = tt
    go False = tt
    go Pending = w

joined-coded : (j : Join) (l r : Formula) → Coded l → Coded r → Coded (joined j l r)
joined-coded j l r v w = joined-elim (λ x. Coded x) j l r (λ e. tt) (λ e. tt) (λ e. w) (λ e. v) (λ m. w) (v, w)

negated-coded : (f : Formula) → Coded f → Coded (negated f)
negated-coded f w = negated-elim (λ x. Coded x) f (λ e. tt) (λ e. tt) w

pub settled-coded : (seen : Seen) (f : Formula) → Coded f → Coded (settled seen f)
settled-coded seen (leaf a) w = subst (λ (x : Formula). Coded x) (sym (settled-leaf seen a)) (leaf-coded seen a w)
settled-coded seen (one Not f) w = negated-coded (settled seen f) (settled-coded seen f w)
settled-coded seen (one Next f) w = w
settled-coded seen (one (Ever j) f) w = w
settled-coded seen (two (Joined j) f g) w = joined-coded j (settled seen f) (settled seen g) (settled-coded seen f w.0) (settled-coded seen g w.1)
settled-coded seen (two Until f g) w = w
