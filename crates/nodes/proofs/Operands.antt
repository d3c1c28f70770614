-- The operands of the formula in front, at a place of the code: `one_of` and `two-of` take the kind that `Kind::from` gave and the
-- variant that it was matched with, `single-as` and `double-as` what the operator in that was matched with; `left-read` is what is
-- known of the right operand once the left one was read. Assumes nothing.
use mathlib.Core.Path.{◌≡◌, refl, sym, ap, ◌∙◌, subst}
use mathlib.Core.List.{List}
use Prim.Native.Nat.{ℕ, ◌+◌, ◌<◌}
use native.Mathlib.Omega.{arith}
use lib.ListN.{length, get_or}
use Rattle.lists.specs.Runs.{tail}
use Rattle.kinds.specs.declared.Unary.{Unary}
use Rattle.kinds.specs.declared.Binary.{Binary}
use Rattle.kinds.specs.declared.Kind.{Kind}
use Rattle.kinds.specs.declared.Kind.TheVariants.{One, Two}
use Rattle.kinds.specs.Kinds.{kind_of}
use Rattle.ltl.specs.Formula.{Formula, size}
use Rattle.ltl.proofs.Decoding.{size-some}
use Rattle.nodes.specs.Begins.{Front}
use Rattle.nodes.proofs.Fronts.{front_length, parts-as, Single, single, Double, double}

pub one_of : {s rest : List ℕ} {f : Formula} {k : Kind} {o : Unary} → Front s f rest → k ≡ kind_of (get_or s 0 0) → k ≡ One o → Single s rest f o
one_of {s} {rest} {f} y e h = single (parts-as s f rest y e h)

pub two-of : {s rest : List ℕ} {f : Formula} {k : Kind} {o : Binary} → Front s f rest → k ≡ kind_of (get_or s 0 0) → k ≡ Two o → Double s rest f o
two-of {s} {rest} {f} y e h = double (parts-as s f rest y e h)

-- the same of any formula in front, where the operator was matched in turn
pub single-as : {s rest r : List ℕ} {f g : Formula} {o o' : Unary} → Single s rest f o → o ≡ o' → Front s g r → Single s r g o'
single-as x e y = one_of y refl (x.kind ∙ ap One e)

pub double-as : {s rest r : List ℕ} {f g : Formula} {o o' : Binary} → Double s rest f o → o ≡ o' → Front s g r → Double s r g o'
double-as x e y = two-of y refl (x.kind ∙ ap Two e)

-- ---- a node with two operands, of which the left one was read: it has n bytes
pub record LeftRead {s rest : List ℕ} {f : Formula} {o : Binary} (x : Double s rest f o) (n : ℕ) : Type 0 where
  pub reads : n ≡ size x.left
  pub front : Front (tail (1 + n) s) x.right rest
  pub long : length s ≡ 1 + n + size x.right + length rest
  pub part : length s ≡ 1 + n + length (tail (1 + n) s)
  pub within : 1 + n < length s

pub left-read : {s rest : List ℕ} {f : Formula} {o : Binary} (x : Double s rest f o) {n : ℕ} → n ≡ size x.left → LeftRead x n
left-read {s} {rest} x e =
    let y = subst (λ (i : ℕ). Front (tail (1 + i) s) x.right rest) (sym e) x.second in
    let l = front_length _ _ _ y in
    let z = size-some x.right in
    record { reads = e; front = y; long = omega arith; part = omega arith; within = omega arith }
