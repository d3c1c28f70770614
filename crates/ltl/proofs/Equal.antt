-- The test `same` is equality. Assumes nothing.
use mathlib.Core.Path.{◌≡◌, refl, sym, ap, ap₂, ◌∙◌}
use mathlib.Core.Bool.{Bool, true, false}
use borrow.Author.Tests.{eqb-true, eq-eqb}
use Rattle.lists.specs.Tests.{both}
use Rattle.lists.proofs.Tests.{no_true, both-0, both-1, both_true}
use Rattle.kinds.specs.declared.Leaf.{Leaf}
use Rattle.kinds.specs.declared.Leaf.TheVariants.{Const, Prop, Hold}
use Rattle.kinds.specs.declared.Unary.{Unary}
use Rattle.kinds.specs.declared.Join.{Join}
use Rattle.kinds.specs.declared.Binary.{Binary}
use Rattle.kinds.specs.declared.Binary.TheVariants.{Joined}
use Rattle.kinds.specs.declared.Kind.TheVariants.{One, Two}
use Rattle.kinds.specs.Kinds.{kind_of, unary_code, binary_code}
use Rattle.kinds.proofs.Codes.{kind-unary, kind-binary}
use Rattle.ltl.specs.Formula.{Formula, leaf, one, two, same_bool, same_leaf, same_unary, same_join, same_binary, same}

same_bool-eq : (v w : Bool) → same_bool v w ≡ true → v ≡ w
unfolding same_bool
same_bool-eq true w e = sym e
same_bool-eq false true e = e
same_bool-eq false false e = refl

pub same_bool-refl : (v : Bool) → same_bool v v ≡ true
unfolding same_bool
same_bool-refl true = refl
same_bool-refl false = refl

leaf-eq : (a b : Leaf) → same_leaf a b ≡ true → a ≡ b
unfolding same_leaf
leaf-eq (Const v) (Const w) e = ap Const (same_bool-eq v w e)
leaf-eq (Const v) (Prop j) e = absurd (no_true e)
leaf-eq (Const v) (Hold l) e = absurd (no_true e)
leaf-eq (Prop i) (Const w) e = absurd (no_true e)
leaf-eq (Prop i) (Prop j) e = ap Prop (eqb-true i j e)
leaf-eq (Prop i) (Hold l) e = absurd (no_true e)
leaf-eq (Hold k) (Const w) e = absurd (no_true e)
leaf-eq (Hold k) (Prop j) e = absurd (no_true e)
leaf-eq (Hold k) (Hold l) e = ap Hold (eqb-true k l e)

leaf-refl : (a : Leaf) → same_leaf a a ≡ true
unfolding same_leaf
leaf-refl (Const v) = same_bool-refl v
leaf-refl (Prop i) = eq-eqb i i refl
leaf-refl (Hold k) = eq-eqb k k refl

-- two nodes with one code are one
pub unary-eq : (o p : Unary) → unary_code o ≡ unary_code p → o ≡ p
unary-eq o p e = let k : One o ≡ One p = sym (kind-unary o) ∙ ap kind_of e ∙ kind-unary p in cc

pub binary-eq : (o p : Binary) → binary_code o ≡ binary_code p → o ≡ p
binary-eq o p e = let k : Two o ≡ Two p = sym (kind-binary o) ∙ ap kind_of e ∙ kind-binary p in cc

pub join-eq : (j k : Join) → same_join j k ≡ true → j ≡ k
join-eq j k e = let b : Joined j ≡ Joined k = binary-eq (Joined j) (Joined k) (eqb-true _ _ e) in cc

pub same-eq : (f g : Formula) → same f g ≡ true → f ≡ g
unfolding same
same-eq (leaf a) (leaf b) e = ap leaf (leaf-eq a b e)
same-eq (leaf a) (one p g) e = absurd (no_true e)
same-eq (leaf a) (two p g h) e = absurd (no_true e)
same-eq (one o f) (leaf b) e = absurd (no_true e)
same-eq (one o f) (one p g) e =
    ap₂ one (unary-eq o p (eqb-true _ _ (both-0 (same_unary o p) (same f g) e))) (same-eq f g (both-1 (same_unary o p) (same f g) e))
same-eq (one o f) (two p g h) e = absurd (no_true e)
same-eq (two o f f') (leaf b) e = absurd (no_true e)
same-eq (two o f f') (one p g) e = absurd (no_true e)
same-eq (two o f f') (two p g g') e =
    let r = both-1 (same_binary o p) (both (same f g) (same f' g')) e in
    let x = binary-eq o p (eqb-true _ _ (both-0 (same_binary o p) (both (same f g) (same f' g')) e)) in
    let y = same-eq f g (both-0 (same f g) (same f' g') r) in
    let z = same-eq f' g' (both-1 (same f g) (same f' g') r) in
    cc

pub same_refl : (f : Formula) → same f f ≡ true
unfolding same
same_refl (leaf a) = leaf-refl a
same_refl (one o f) = both_true (same_unary o o) (same f f) (eq-eqb (unary_code o) (unary_code o) refl) (same_refl f)
same_refl (two o f g) =
    both_true (same_binary o o) (both (same f f) (same g g)) (eq-eqb (binary_code o) (binary_code o) refl)
    (both_true (same f f) (same g g) (same_refl f) (same_refl g))
