-- Formulas that stand at a place and are marked, and the parts of such nodes: where operands stand (`operand_at`, `left_at`, `right-at`),
-- and which part a number is (`node-part`, `later-part`, `again_part`). Assumes nothing.
use mathlib.Core.Path.{◌≡◌, sym, ap, ◌∙◌, subst}
use mathlib.Core.List.{List, ◌∷◌, ◌++◌, append_assoc}
use mathlib.Core.Option.{Option}
use Prim.Native.Nat.{ℕ, ◌+◌, ◌/◌, ◌%◌, ◌<◌, ◌≤◌}
use native.Mathlib.Omega.{arith}
use lib.ListN.{length, get_or, drop, length-drop}
use lib.Seq.{drop-drop, drop_at}
use Rattle.kinds.specs.declared.Unary.{Unary}
use Rattle.kinds.specs.declared.Binary.{Binary}
use Rattle.kinds.specs.Kinds.{unary_code, binary_code}
use Rattle.kinds.specs.declared.Unary.TheVariants.{Next}
use Rattle.kinds.specs.declared.Binary.TheVariants.{Until}
use Rattle.ltl.specs.Formula.{Formula, leaf, one, two, size, encode}
use Rattle.ltl.specs.Progression.{unfolded}
use Rattle.ltl.proofs.Decoding.{size-some, length-encode}
use Rattle.nodes.proofs.Fronts.{front_length}
use Rattle.choices.specs.Marks.{MarkOf, Marked, later_of}
use Rattle.tokens.specs.Tokens.{TextAt}
use Rattle.parting.specs.Parts.{parts_room, node_code, later_code, again_code, NodeMarked, PartAt, part-node, part-later, part-again}

-- ---- which part a number is: the node unfolded, what an until asks of its left operand and of later ticks, the node under next; and, of
-- whichever, what stands at its place
pub record NodePart (choose : Formula → Option ℕ) (bytes marks : List ℕ) (at : ℕ) (f : Formula) : Type 0 where
  pub formula : Formula
  pub stands : NodeMarked choose bytes marks at formula
  pub same : f ≡ unfolded formula

pub record LaterPart (choose : Formula → Option ℕ) (bytes marks : List ℕ) (at : ℕ) (f : Formula) : Type 0 where
  pub left : Formula
  pub right : Formula
  pub stands : NodeMarked choose bytes marks at (two Until left right)
  pub same : f ≡ later_of left right

pub record AgainPart (choose : Formula → Option ℕ) (bytes marks : List ℕ) (part at : ℕ) (f : Formula) : Type 0 where
  pub formula : Formula
  pub stands : NodeMarked choose bytes marks at formula
  pub same : f ≡ one Next formula
  pub code : part ≡ again_code at

pub record Placed (choose : Formula → Option ℕ) (bytes marks : List ℕ) (part : ℕ) : Type 0 where
  pub formula : Formula
  pub stands : NodeMarked choose bytes marks (part / parts_room) formula

module _ (choose : Formula → Option ℕ) (bytes marks : List ℕ) where
  -- the mark of a formula's first node
  pub marked-mark : (at : ℕ) (g : Formula) → Marked choose marks at g → MarkOf choose g (get_or marks at 0)
  marked-mark at (leaf a) m = m
  marked-mark at (one o f) m = m.0
  marked-mark at (two o f g) m = m.0

  -- its nodes are among the bytes
  pub node-inside : (at : ℕ) (g : Formula) → NodeMarked choose bytes marks at g → at + size g ≤ length bytes
  node-inside at g n =
      let l = front_length (drop at bytes) g n.rest n.front in
      let d = length-drop at bytes in
      let z = size-some g in
      omega arith

  -- ---- operands
  behind-one : (at : ℕ) (b : ℕ) (xs : List ℕ) → drop at bytes ≡ b ∷ xs → drop (at + 1) bytes ≡ xs
  behind-one at b xs e = sym (drop-drop 1 at bytes) ∙ ap (drop 1) e

  pub operand_at : (at : ℕ) (o : Unary) (f : Formula) → NodeMarked choose bytes marks at (one o f) → NodeMarked choose bytes marks (at + 1) f
  operand_at at o f n =
      record { rest = n.rest; front = record { coded = n.front.coded; bytes = behind-one at (unary_code o) (encode f ++ n.rest) n.front.bytes }; marked = n.marked.1 }

  pub left_at : (at : ℕ) (o : Binary) (f g : Formula) → NodeMarked choose bytes marks at (two o f g) → NodeMarked choose bytes marks (at + 1) f
  left_at at o f g n =
      let e = behind-one at (binary_code o) ((encode f ++ encode g) ++ n.rest) n.front.bytes in
      record { rest = encode g ++ n.rest; front = record { coded = n.front.coded.0; bytes = e ∙ append_assoc (encode f) (encode g) n.rest }; marked = n.marked.1 }

  pub right-at : (at : ℕ) (o : Binary) (f g : Formula) → NodeMarked choose bytes marks at (two o f g) → NodeMarked choose bytes marks (at + 1 + size f) g
  right-at at o f g n =
      let x : drop (at + 1) bytes ≡ encode f ++ (encode g ++ n.rest) = behind-one at (binary_code o) ((encode f ++ encode g) ++ n.rest) n.front.bytes ∙ append_assoc (encode f) (encode g) n.rest in
      let e : drop (at + 1 + size f) bytes ≡ encode g ++ n.rest = sym (drop-drop (size f) (at + 1) bytes) ∙ ap (drop (size f)) x ∙ drop_at (encode f) (encode g ++ n.rest) (size f) (length-encode f) in
      record { rest = n.rest; front = record { coded = n.front.coded.1; bytes = e }; marked = n.marked.2 }

  -- a formula that stands is a text
  pub node-text : (at : ℕ) (g : Formula) → NodeMarked choose bytes marks at g → TextAt bytes marks at g
  node-text at g n = record { rest = n.rest; front = n.front; marked = (marked-mark at g n.marked).length-is }

  -- ---- which part a number is
  pub node-part : (part at : ℕ) (f : Formula) → PartAt choose bytes marks part f → part ≡ node_code at → NodePart choose bytes marks at f
  node-part part at f (part-node a g n p e) q =
      let s : a ≡ at = omega arith in record { formula = g; stands = subst (λ (i : ℕ). NodeMarked choose bytes marks i g) s n; same = e }
  node-part part at f (part-later a g h n p e) q = absurd (omega arith)
  node-part part at f (part-again a g n p e) q = absurd (omega arith)

  pub later-part : (part at : ℕ) (f : Formula) → PartAt choose bytes marks part f → part ≡ later_code at → LaterPart choose bytes marks at f
  later-part part at f (part-node a g n p e) q = absurd (omega arith)
  later-part part at f (part-later a g h n p e) q =
      let s : a ≡ at = omega arith in record { left = g; right = h; stands = subst (λ (i : ℕ). NodeMarked choose bytes marks i (two Until g h)) s n; same = e }
  later-part part at f (part-again a g n p e) q = absurd (omega arith)

  -- neither of the other two
  pub again_part : (part : ℕ) (f : Formula) → PartAt choose bytes marks part f → (part % parts_room ≡ 0 → ⊥) → (part % parts_room ≡ 1 → ⊥) → AgainPart choose bytes marks part (part / parts_room) f
  again_part part f (part-node a g n p e) x y = absurd (x (omega arith))
  again_part part f (part-later a g h n p e) x y = absurd (y (omega arith))
  again_part part f (part-again a g n p e) x y =
      let s : a ≡ part / parts_room = omega arith in record { formula = g; stands = subst (λ (i : ℕ). NodeMarked choose bytes marks i g) s n; same = e; code = omega arith }

  pub part_placed : (part : ℕ) (f : Formula) → PartAt choose bytes marks part f → Placed choose bytes marks part
  part_placed part f (part-node a g n p e) =
      let s : a ≡ part / parts_room = omega arith in record { formula = g; stands = subst (λ (i : ℕ). NodeMarked choose bytes marks i g) s n }
  part_placed part f (part-later a g h n p e) =
      let s : a ≡ part / parts_room = omega arith in record { formula = two Until g h; stands = subst (λ (i : ℕ). NodeMarked choose bytes marks i (two Until g h)) s n }
  part_placed part f (part-again a g n p e) =
      let s : a ≡ part / parts_room = omega arith in record { formula = g; stands = subst (λ (i : ℕ). NodeMarked choose bytes marks i g) s n }

  pub part-inside : (part : ℕ) (f : Formula) → PartAt choose bytes marks part f → part / parts_room < length bytes
  part-inside part f p =
      let x = part_placed part f p in
      let i = node-inside (part / parts_room) x.formula x.stands in
      let z = size-some x.formula in
      omega arith
