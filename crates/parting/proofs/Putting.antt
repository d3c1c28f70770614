-- A token is written, and its operands are put in front of what is still to be looked at: `put-none`, `put_one`, `put_two`. Assumes
-- nothing.
use mathlib.Core.Path.{◌≡◌, refl, sym, ap, ◌∙◌}
use mathlib.Core.List.{List, [], ◌∷◌, ◌++◌}
use Prim.Native.Nat.{ℕ, zero, suc, ◌+◌, ◌-◌, ◌<◌, ◌≤◌}
use native.Mathlib.Omega.{arith}
use lib.ListN.{length, take, drop, set, length-set}
use lib.Seq.{drop-set-lt, take-set-le, take-suc-set}
use Rattle.lists.proofs.Drops.{put-below}
use Rattle.parting.specs.declared.PartTop.{PartTop}
use Rattle.parting.specs.Tops.{operand_parts, PutsTop}

take_put : (l : List ℕ) (w v : ℕ) → w < length l → take (w + 1) (set l w v) ≡ take w l ++ (v ∷ [])
take_put l w v i = let e : w + 1 ≡ suc w = omega arith in ap (λ (n : ℕ). take n (set l w v)) e ∙ take-suc-set l w v i

module _ (desk : List ℕ) (w rest : ℕ) (t : PartTop) (inside : rest ≤ length desk) where
  pub put-none : w + 1 + t.operands ≤ rest → t.operands ≡ 0 → PutsTop desk w rest t (set desk w t.token) rest
  put-none r e =
      record {
        top-is = omega arith;
        front = take_put desk w t.token (omega arith);
        behind = drop-set-lt rest desk w t.token (omega arith) ∙ ap (λ (n : ℕ). operand_parts n t.left t.right ++ drop rest desk) (sym e);
      }

  pub put_one : w + 1 + t.operands ≤ rest → t.operands ≡ 1 → PutsTop desk w rest t (set (set desk w t.token) (rest - 1) t.left) (rest - 1)
  put_one r e =
      let p = set desk w t.token in
      let l = length-set desk w t.token in
      record {
        top-is = omega arith;
        front = take-set-le (w + 1) p (rest - 1) t.left (omega arith) ∙ take_put desk w t.token (omega arith);
        behind =
            put-below p (rest - 1) rest t.left (omega arith) (omega arith) ∙ ap (t.left ∷◌) (drop-set-lt rest desk w t.token (omega arith))
            ∙ ap (λ (n : ℕ). operand_parts n t.left t.right ++ drop rest desk) (sym e);
      }

  pub put_two : w + 1 + t.operands ≤ rest → t.operands ≡ 2 → PutsTop desk w rest t (set (set (set desk w t.token) (rest - 1) t.right) (rest - 2) t.left) (rest - 2)
  put_two r e =
      let p = set desk w t.token in
      let q = set p (rest - 1) t.right in
      let l = length-set desk w t.token in
      let m = length-set p (rest - 1) t.right in
      record {
        top-is = omega arith;
        front = take-set-le (w + 1) q (rest - 2) t.left (omega arith) ∙ take-set-le (w + 1) p (rest - 1) t.right (omega arith) ∙ take_put desk w t.token (omega arith);
        behind =
            put-below q (rest - 2) (rest - 1) t.left (omega arith) (omega arith)
            ∙ ap (t.left ∷◌) (put-below p (rest - 1) rest t.right (omega arith) (omega arith) ∙ ap (t.right ∷◌) (drop-set-lt rest desk w t.token (omega arith)))
            ∙ ap (λ (n : ℕ). operand_parts n t.left t.right ++ drop rest desk) (sym e);
      }

-- neither none nor one, and no more than two
pub two-left : (n : ℕ) → (n ≡ 0 → ⊥) → (n ≡ 1 → ⊥) → n ≤ 2 → n ≡ 2
two-left zero a b l = absurd (a refl)
two-left (suc zero) a b l = absurd (b refl)
two-left (suc (suc n)) a b l = omega arith
