-- The top of a part, by which part it is and by the kind of its node: `leaf-tops`, `single-tops`, `pair-tops`, `later-tops`, `again-tops`.
-- Assumes nothing.
use mathlib.Core.Path.{◌≡◌, refl, sym, ap, ◌∙◌, subst}
use mathlib.Core.List.{List, [], ◌∷◌}
use mathlib.Core.Option.{Option}
use Prim.Native.Nat.{ℕ, ◌+◌}
use native.Mathlib.Omega.{arith}
use lib.ListN.{get_or}
use Rattle.kinds.specs.declared.Leaf.{Leaf}
use Rattle.kinds.specs.declared.Leaf.TheVariants.{Const, Prop, Hold}
use Rattle.kinds.specs.declared.Unary.{Unary}
use Rattle.kinds.specs.declared.Unary.TheVariants.{Not, Next, Ever}
use Rattle.kinds.specs.declared.Join.TheVariants.{And, Or}
use Rattle.kinds.specs.declared.Binary.{Binary}
use Rattle.kinds.specs.declared.Binary.TheVariants.{Joined, Until}
use Rattle.kinds.specs.Kinds.{leaf_code, join_code}
use Rattle.ltl.specs.Formula.{Formula, leaf, one, two, size}
use Rattle.ltl.specs.Progression.{unfolded}
use Rattle.choices.specs.Marks.{length_in, later_of}
use Rattle.parting.specs.Parts.{node_code, later_code, again_code, NodeMarked, part-node, part-later, part-again}
use Rattle.parting.specs.Tops.{TopOf, top-constant, top-proposition, top-hold, top-not, top-next, top-join, HeldBy, alone_top, between_top, text_top, single_top, pair_top, held_leaf, TopsAs}
use Rattle.parting.proofs.Standing.{marked-mark, operand_at, left_at, right-at, node-text}

module _ (choose : Formula → Option ℕ) (bytes marks : List ℕ) (held : ℕ → ℕ) where
  -- ---- a leaf
  pub leaf-tops : (table : List ℕ) (at : ℕ) (a : Leaf) → HeldBy held table → TopsAs choose bytes marks held (node_code at) (leaf a) (alone_top (leaf_code (held_leaf table a)))
  leaf-tops table at (Const v) h = record { operands = []; few = omega arith; view = top-constant v; stand = tt }
  leaf-tops table at (Prop i) h = record { operands = []; few = omega arith; view = top-proposition i; stand = tt }
  leaf-tops table at (Hold m) h =
      record { operands = []; few = omega arith; view = subst (λ (k : ℕ). TopOf bytes marks held (leaf (Hold m)) (leaf_code (Hold k)) 1 []) (h m) (top-hold m); stand = tt }

  -- a text under next
  text-view : (at n : ℕ) (g : Formula) → NodeMarked choose bytes marks at g → n ≡ length_in (get_or marks at 0)
      → TopOf bytes marks held (one Next g) (text_top at n).token (text_top at n).nodes []
  text-view at n g x e =
      let q : 1 + size g ≡ 1 + n = ap (1 +◌) (sym (marked-mark choose bytes marks at g x.marked).length-is ∙ sym e) in
      subst (λ (m : ℕ). TopOf bytes marks held (one Next g) (text_top at n).token m []) q (top-next g at (node-text choose bytes marks at g x))

  -- ---- a node with one operand
  pub single-tops : (at : ℕ) (o : Unary) (f : Formula) → NodeMarked choose bytes marks at (one o f)
      → TopsAs choose bytes marks held (node_code at) (unfolded (one o f)) (single_top o at (length_in (get_or marks (at + 1) 0)))
  single-tops at Not f n =
      record { operands = unfolded f ∷ []; few = omega arith; view = top-not (unfolded f); stand = (part-node (at + 1) f (operand_at choose bytes marks at Not f n) refl refl, omega arith, tt) }
  single-tops at Next f n = record { operands = []; few = omega arith; view = text-view (at + 1) _ f (operand_at choose bytes marks at Next f n) refl; stand = tt }
  single-tops at (Ever j) f n =
      record {
        operands = unfolded f ∷ (one Next (one (Ever j) f) ∷ []);
        few = omega arith;
        view = top-join j (unfolded f) (one Next (one (Ever j) f));
        stand = (part-node (at + 1) f (operand_at choose bytes marks at (Ever j) f n) refl refl, omega arith, (part-again at (one (Ever j) f) n refl refl, omega arith, tt));
      }

  -- ---- a node with two
  right-part : (at : ℕ) (o : Binary) (f g : Formula) → NodeMarked choose bytes marks at (two o f g) → NodeMarked choose bytes marks (at + 1 + length_in (get_or marks (at + 1) 0)) g
  right-part at o f g n =
      let e = (marked-mark choose bytes marks (at + 1) f (left_at choose bytes marks at o f g n).marked).length-is in
      subst (λ (m : ℕ). NodeMarked choose bytes marks (at + 1 + m) g) (sym e) (right-at choose bytes marks at o f g n)

  pub pair-tops : (at : ℕ) (o : Binary) (f g : Formula) → NodeMarked choose bytes marks at (two o f g)
      → TopsAs choose bytes marks held (node_code at) (unfolded (two o f g)) (pair_top o at (length_in (get_or marks (at + 1) 0)))
  pair-tops at (Joined j) f g n =
      record {
        operands = unfolded f ∷ (unfolded g ∷ []);
        few = omega arith;
        view = top-join j (unfolded f) (unfolded g);
        stand = (part-node (at + 1) f (left_at choose bytes marks at (Joined j) f g n) refl refl, omega arith, (part-node (at + 1 + length_in (get_or marks (at + 1) 0)) g (right-part at (Joined j) f g n) refl refl, omega arith, tt));
      }
  pair-tops at Until f g n =
      record {
        operands = unfolded g ∷ (later_of f g ∷ []);
        few = omega arith;
        view = top-join Or (unfolded g) (later_of f g);
        stand = (part-node (at + 1 + length_in (get_or marks (at + 1) 0)) g (right-part at Until f g n) refl refl, omega arith, (part-later at f g n refl refl, omega arith, tt));
      }

  -- ---- the other parts
  pub later-tops : (at : ℕ) (f g : Formula) → NodeMarked choose bytes marks at (two Until f g)
      → TopsAs choose bytes marks held (later_code at) (later_of f g) (between_top (join_code And) (node_code (at + 1)) (again_code at))
  later-tops at f g n =
      record {
        operands = unfolded f ∷ (one Next (two Until f g) ∷ []);
        few = omega arith;
        view = top-join And (unfolded f) (one Next (two Until f g));
        stand = (part-node (at + 1) f (left_at choose bytes marks at Until f g n) refl refl, omega arith, (part-again at (two Until f g) n refl refl, omega arith, tt));
      }

  pub again-tops : (at : ℕ) (g : Formula) → NodeMarked choose bytes marks at g
      → TopsAs choose bytes marks held (again_code at) (one Next g) (text_top at (length_in (get_or marks at 0)))
  again-tops at g n = record { operands = []; few = omega arith; view = text-view at _ g n refl; stand = tt }
