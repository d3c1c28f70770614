-- How large a part can be (`part-size`), that each number in it has a code (`part-coded`), and what holds of its top
-- (`top-fits`): its numbers are small, its operands are as many as it says, and there is a token for the top and each of them at least.
-- Assumes nothing.
use mathlib.Core.Path.{◌≡◌, refl, sym, ap, subst}
use mathlib.Core.Bool.{true, false}
use mathlib.Core.List.{List, [], ◌∷◌}
use mathlib.Core.Option.{Option}
use Prim.Native.Nat.{ℕ, zero, suc, ◌+◌, ◌*◌, ◌^◌, ◌<◌, ◌≤◌}
use native.Mathlib.Omega.{arith}
use lib.ListN.{length, drop, length-drop}
use Rattle.limits.specs.Limits.{nodes_room, slots_room, propositions_most, holder_codes}
use Rattle.kinds.specs.declared.Unary.TheVariants.{Not, Next, Ever}
use Rattle.kinds.specs.declared.Join.{Join}
use Rattle.kinds.specs.declared.Join.TheVariants.{And, Or}
use Rattle.kinds.specs.declared.Binary.TheVariants.{Joined, Until}
use Rattle.kinds.specs.Kinds.{join_code}
use Rattle.ltl.specs.Formula.{Formula, leaf, one, two, size, Coded}
use Rattle.ltl.specs.Progression.{unfolded}
use Rattle.ltl.proofs.Decoding.{size-some, unfolded-coded}
use Rattle.nodes.proofs.Fronts.{front_length}
use Rattle.registers.specs.Outer.{outer}
use Rattle.registers.proofs.Outers.{outer-some}
use Rattle.tokens.specs.Tokens.{TextAt}
use Rattle.parting.specs.declared.PartTop.{PartTop}
use Rattle.parting.specs.Parts.{PartAt, part-node, part-later, part-again, PartsAt}
use Rattle.parting.specs.Tops.{TopOf, top-constant, top-proposition, top-hold, top-not, top-next, top-join, operand_parts, parts_of, TopsAs, SmallTop}
use Rattle.parting.proofs.Standing.{node-inside, part-inside}

unfolded-few : (f : Formula) → size f ≤ nodes_room → size (unfolded f) ≤ (nodes_room + 4) * size f
unfolded-few (leaf a) l = omega arith
unfolded-few (one Not f) l = omega (arith, unfolded-few f (omega arith))
unfolded-few (one Next f) l = omega arith
unfolded-few (one (Ever j) f) l = omega (arith, unfolded-few f (omega arith))
unfolded-few (two (Joined j) f g) l = omega (arith, unfolded-few f (omega arith), unfolded-few g (omega arith))
unfolded-few (two Until f g) l = omega (arith, unfolded-few f (omega arith), unfolded-few g (omega arith))

module _ (choose : Formula → Option ℕ) (bytes marks : List ℕ) (part : ℕ) (f : Formula) where
  pub part-size : length bytes ≤ nodes_room → PartAt choose bytes marks part f → size f < 2 ^ 32
  part-size l (part-node at g n p e) =
      let i = node-inside choose bytes marks at g n in
      let u = unfolded-few g (omega arith) in
      let s = ap size e in
      omega arith
  part-size l (part-later at g h n p e) =
      let i = node-inside choose bytes marks at (two Until g h) n in
      let u = unfolded-few g (omega arith) in
      let s = ap size e in
      omega arith
  part-size l (part-again at g n p e) =
      let i = node-inside choose bytes marks at g n in
      let s = ap size e in
      omega arith

  pub part-coded : PartAt choose bytes marks part f → Coded f
  part-coded (part-node at g n p e) = subst (λ (x : Formula). Coded x) (sym e) (unfolded-coded propositions_most holder_codes g n.front.coded)
  part-coded (part-later at g h n p e) =
      subst (λ (x : Formula). Coded x) (sym e) (unfolded-coded propositions_most holder_codes g n.front.coded.0, n.front.coded)
  part-coded (part-again at g n p e) = subst (λ (x : Formula). Coded x) (sym e) n.front.coded

-- ---- the numbers of a top
join-small : (j : Join) → join_code j < 65536
join-small And = omega arith
join-small Or = omega arith

text-inside : (bytes marks : List ℕ) (at : ℕ) (g : Formula) → TextAt bytes marks at g → at < length bytes
text-inside bytes marks at g t =
    let l = front_length (drop at bytes) g t.rest t.front in let d = length-drop at bytes in let z = size-some g in omega arith

module _ (bytes marks : List ℕ) (held : ℕ → ℕ) (below : (m : ℕ) → held m < slots_room) (few : length bytes ≤ nodes_room) where
  token-small : {f : Formula} {token nodes : ℕ} {operands : List Formula} → Coded f → TopOf bytes marks held f token nodes operands → token < 65536
  token-small w (top-constant true) = omega arith
  token-small w (top-constant false) = omega arith
  token-small w (top-proposition i) = omega arith
  token-small w (top-hold m) = let l = below m in omega arith
  token-small w (top-not f) = omega arith
  token-small w (top-next f at t) = let l = text-inside bytes marks at f t in omega arith
  token-small w (top-join j f g) = join-small j

  -- how many operands there are
  top-outer : {f : Formula} {token nodes : ℕ} {operands : List Formula} → TopOf bytes marks held f token nodes operands → (1 + length operands ≤ outer f) × (length operands ≤ 2)
  top-outer (top-constant v) = (omega arith, omega arith)
  top-outer (top-proposition i) = (omega arith, omega arith)
  top-outer (top-hold m) = (omega arith, omega arith)
  top-outer (top-not f) = let z = outer-some f in (omega arith, omega arith)
  top-outer (top-next f at t) = (omega arith, omega arith)
  top-outer (top-join j f g) = let z = outer-some f in let y = outer-some g in (omega arith, omega arith)

  module _ (choose : Formula → Option ℕ) where
    pub parts-length : (n : ℕ) (ps : List ℕ) (fs : List Formula) → PartsAt choose bytes marks n ps fs → length ps ≡ length fs
    parts-length n [] [] s = refl
    parts-length n [] (f ∷ fs) s = absurd s
    parts-length n (p ∷ ps) [] s = absurd s
    parts-length n (p ∷ ps) (f ∷ fs) s = ap suc (parts-length n ps fs s.2)

    part_small : (p : ℕ) (f : Formula) → PartAt choose bytes marks p f → p < 65536
    part_small p f x = let i = part-inside choose bytes marks p f x in omega arith

    -- the operands of a top stand, and are as many as it says
    module _ (part : ℕ) (left right : ℕ) where
      count-is : (k : ℕ) → k ≤ 2 → length (operand_parts k left right) ≡ k
      count-is zero l = refl
      count-is (suc zero) l = refl
      count-is (suc (suc zero)) l = refl
      count-is (suc (suc (suc k))) l = absurd (omega arith)

      left-small : (k : ℕ) (fs : List Formula) → PartsAt choose bytes marks part (operand_parts k left right) fs → 1 ≤ k → left < 65536
      left-small zero fs s l = absurd (omega arith)
      left-small (suc zero) [] s l = absurd s
      left-small (suc zero) (f ∷ fs) s l = part_small left f s.0
      left-small (suc (suc k)) [] s l = absurd s
      left-small (suc (suc k)) (f ∷ fs) s l = part_small left f s.0

      right-small : (k : ℕ) (fs : List Formula) → PartsAt choose bytes marks part (operand_parts k left right) fs → 2 ≤ k → right < 65536
      right-small zero fs s l = absurd (omega arith)
      right-small (suc zero) fs s l = absurd (omega arith)
      right-small (suc (suc k)) [] s l = absurd s
      right-small (suc (suc k)) (f ∷ []) s l = absurd s.2
      right-small (suc (suc k)) (f ∷ (g ∷ fs)) s l = part_small right g s.2.0

    -- a top fits the desk: by its numbers, and by the tokens that its formula takes
    pub record TopFits (part : ℕ) (f : Formula) (t : PartTop) (x : TopsAs choose bytes marks held part f t) : Type 0 where
      pub small : SmallTop t
      pub count : length (parts_of t) ≡ t.operands
      pub room : 1 + t.operands ≤ outer f

    pub top-fits : (part : ℕ) (f : Formula) (t : PartTop) (x : TopsAs choose bytes marks held part f t) → Coded f → TopFits part f t x
    top-fits part f t x w =
        let o = top-outer x.view in
        let n = parts-length part (parts_of t) x.operands x.stand in
        let c = count-is part t.left t.right t.operands x.few in
        record {
          small =
              record {
                few = x.few;
                token = token-small w x.view;
                left = left-small part t.left t.right t.operands x.operands x.stand;
                right = right-small part t.left t.right t.operands x.operands x.stand;
              };
          count = c;
          room = omega arith;
        }
