-- Bytes with nothing to fold: where the lowest is no constant's, there are such (`lowest-bare`), and their formula is folded as it stands
-- (`bare-stands`). The last byte of a formula is a leaf's, so that nothing behind a formula stands behind until. Assumes nothing.
use mathlib.Core.Path.{◌≡◌, refl, sym, ap, ◌∙◌}
use mathlib.Core.Bool.{Bool, true, false}
use mathlib.Core.List.{List, [], ◌∷◌, ◌++◌, append_assoc}
use mathlib.Core.Logic.{◌⊎◌, inl, inr}
use Prim.Native.Nat.{ℕ, ◌<◌, ◌≤◌, min}
use native.Mathlib.Omega.{arith}
use borrow.Author.Tests.{eqb-true, le-leb, lt-leb}
use lib.Dec.{eqb}
use Rattle.lists.specs.Tests.{both, either}
use Rattle.lists.proofs.Tests.{both-0, both-1, both_true}
use Rattle.kinds.specs.declared.Leaf.{Leaf}
use Rattle.kinds.specs.declared.Leaf.TheVariants.{Const, Prop, Hold}
use Rattle.kinds.specs.declared.Unary.{Unary}
use Rattle.kinds.specs.declared.Unary.TheVariants.{Not, Next, Ever}
use Rattle.kinds.specs.declared.Join.TheVariants.{And, Or}
use Rattle.kinds.specs.declared.Binary.{Binary}
use Rattle.kinds.specs.declared.Binary.TheVariants.{Joined, Until}
use Rattle.kinds.specs.Kinds.{leaf_code, unary_code, binary_code}
use Rattle.ltl.specs.Formula.{Formula, leaf, one, two, constant, encode}
use Rattle.nodes.specs.Begins.{Front}
use Rattle.folded.specs.Folding.{folded}
use Rattle.folded.proofs.Again.{Bare, bare-folded}
use Rattle.folding.specs.Bare.{bare_byte, bare_from, lowest_from}

-- ---- one byte
pub byte_high : (last b : ℕ) → 2 ≤ b → true ≡ bare_byte last b
unfolding bare_byte either
byte_high last b h = sym (ap (λ (x : Bool). either x (both (eqb last 6) (eqb b 1))) (le-leb 2 b h))

pub byte_low : (last b : ℕ) → b < 2 → bare_byte last b ≡ both (eqb last 6) (eqb b 1)
unfolding bare_byte either
byte_low last b h = ap (λ (x : Bool). either x (both (eqb last 6) (eqb b 1))) (lt-leb 2 b h)

-- ---- the lowest byte
-- it is no higher than what it began with
lowest-few : (low : ℕ) (l : List ℕ) → lowest_from low l ≤ low
lowest-few low [] = omega arith
lowest-few low (b ∷ l) = let h = lowest-few (min low b) l in omega arith

-- where it is no constant's, no byte is
pub lowest-bare : (low last : ℕ) (l : List ℕ) → 2 ≤ lowest_from low l → true ≡ bare_from last l
lowest-bare low last [] h = refl
lowest-bare low last (b ∷ l) h =
    let k = lowest-few (min low b) l in
    sym (both_true (bare_byte last b) (bare_from b l) (sym (byte_high last b (omega arith))) (sym (lowest-bare (min low b) b l h)))

-- ---- what it tells
unary-plain : (o : Unary) → unary_code o ≡ 6 → ⊥
unary-plain Not e = omega arith
unary-plain Next e = omega arith
unary-plain (Ever And) e = omega arith
unary-plain (Ever Or) e = omega arith

leaf-plain : (a : Leaf) → leaf_code a ≡ 6 → ⊥
leaf-plain (Const true) e = omega arith
leaf-plain (Const false) e = omega arith
leaf-plain (Prop i) e = omega arith
leaf-plain (Hold k) e = omega arith

-- of the formula in front: it is bare, or true behind until; and what stands behind it does not stand behind until
pub record BareFront (f : Formula) (last : ℕ) (rest : List ℕ) : Type 0 where
  pub front : ((f ≡ constant true) × (last ≡ 6)) ⊎ Bare f
  pub next : ℕ
  pub plain : next ≡ 6 → ⊥
  pub behind : bare_from next rest ≡ true

bare-leaf : (a : Leaf) (last : ℕ) → bare_byte last (leaf_code a) ≡ true → ((leaf a ≡ constant true) × (last ≡ 6)) ⊎ Bare (leaf a)
bare-leaf (Prop i) last e = inr tt
bare-leaf (Hold k) last e = inr tt
bare-leaf (Const true) last e = inl (refl, eqb-true last 6 (both-0 _ _ (sym (byte_low last 1 (omega arith)) ∙ e)))
bare-leaf (Const false) last e = absurd (let z = eqb-true 0 1 (both-1 (eqb last 6) _ (sym (byte_low last 0 (omega arith)) ∙ e)) in omega arith)

-- not behind until it is bare
only-bare : {f : Formula} {last : ℕ} → (last ≡ 6 → ⊥) → ((f ≡ constant true) × (last ≡ 6)) ⊎ Bare f → Bare f
only-bare n (inl x) = absurd (n x.1)
only-bare n (inr b) = b

bare-front : (f : Formula) (last : ℕ) (rest : List ℕ) → bare_from last (encode f ++ rest) ≡ true → BareFront f last rest
bare-front (leaf a) last rest e = record { front = bare-leaf a last (both-0 _ _ e); next = leaf_code a; plain = leaf-plain a; behind = both-1 (bare_byte last (leaf_code a)) _ e }
bare-front (one o f) last rest e =
    let x = bare-front f (unary_code o) rest (both-1 (bare_byte last (unary_code o)) _ e) in
    record { front = inr (only-bare (unary-plain o) x.front); next = x.next; plain = x.plain; behind = x.behind }
bare-front (two o f g) last rest e =
    let x = bare-front f (binary_code o) (encode g ++ rest) (ap (bare_from (binary_code o)) (sym (append_assoc (encode f) (encode g) rest)) ∙ both-1 (bare_byte last (binary_code o)) _ e) in
    let y = bare-front g x.next rest x.behind in
    record { front = inr (pair o x.front (only-bare x.plain y.front)); next = y.next; plain = y.plain; behind = y.behind }
  where
    left : ((f ≡ constant true) × (binary_code Until ≡ 6)) ⊎ Bare f → (f ≡ constant true) ⊎ Bare f
    left (inl x) = inl x.0
    left (inr b) = inr b

    pair : (o : Binary) → ((f ≡ constant true) × (binary_code o ≡ 6)) ⊎ Bare f → Bare g → Bare (two o f g)
    pair (Joined And) x b = (only-bare (λ z. omega arith) x, b)
    pair (Joined Or) x b = (only-bare (λ z. omega arith) x, b)
    pair Until x b = (left x, b)

pub bare-stands : {s : List ℕ} {f : Formula} → Front s f [] → bare_from 0 s ≡ true → folded f ≡ f
bare-stands {s} {f} x e = bare-folded f (only-bare (λ z. omega arith) (bare-front f 0 [] (ap (bare_from 0) (sym x.bytes) ∙ e)).front)
