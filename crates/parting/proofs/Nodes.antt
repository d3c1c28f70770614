-- The top of the node at a place, by the kind that its byte was found to be, and of a part by its number: `node-leaf`, `node-single`,
-- `node-pair`, `node-none`, `part-top-node`, `part-top-later`, `part-top-again`. `from-kind` and its like say that the node's byte, lent in
-- front, is the one at its place. Assumes nothing.
use mathlib.Core.Path.{◌≡◌, refl, sym, ap, ◌∙◌, subst}
use mathlib.Core.List.{List}
use mathlib.Core.Option.{Option}
use Prim.Native.Nat.{ℕ, ◌+◌, ◌*◌, ◌/◌, ◌%◌, ◌<◌}
use native.Mathlib.Omega.{arith}
use lib.ListN.{length, get_or, drop, length-drop}
use lib.Seq.{get_or-drop}
use Rattle.limits.specs.Limits.{slots_room}
use Rattle.kinds.specs.declared.Leaf.{Leaf}
use Rattle.kinds.specs.declared.Leaf.TheVariants.{Hold}
use Rattle.kinds.specs.declared.Unary.{Unary}
use Rattle.kinds.specs.declared.Unary.TheVariants.{Not, Next, Ever}
use Rattle.kinds.specs.declared.Join.{Join}
use Rattle.kinds.specs.declared.Join.TheVariants.{And, Or}
use Rattle.kinds.specs.declared.Binary.{Binary}
use Rattle.kinds.specs.declared.Binary.TheVariants.{Joined, Until}
use Rattle.kinds.specs.declared.Kind.{Kind}
use Rattle.kinds.specs.declared.Kind.TheVariants.{Zero, One, Two, NoCode}
use Rattle.kinds.specs.Kinds.{kind_of, leaf_code, leaf_coded, unary_code, join_code, hold_code}
use Rattle.ltl.specs.Formula.{Formula, leaf, size}
use Rattle.ltl.specs.Progression.{unfolded}
use Rattle.ltl.proofs.Decoding.{size-some}
use Rattle.nodes.proofs.Fronts.{Parts, is_zero, parts-as, zero_is, leaf-within, no_code}
use Rattle.nodes.proofs.Operands.{one_of, two-of}
use Rattle.choices.specs.Marks.{length_in}
use Rattle.parting.specs.declared.PartTop.{PartTop}
use Rattle.parting.specs.Parts.{parts_room, node_code, later_code, again_code, NodeMarked, PartAt}
use Rattle.parting.specs.Tops.{HeldBy, alone_top, over_top, between_top, text_top, single_top, pair_top, held_leaf, FromPart, TopAsk, TopsAs, TopsPart}
use Rattle.parting.proofs.Standing.{node-inside, node-part, later-part, again_part}
use Rattle.parting.proofs.Topping.{leaf-tops, single-tops, pair-tops, later-tops, again-tops}

-- the first byte of a node
pub first-at : (at : ℕ) (bytes : List ℕ) → get_or (drop at bytes) 0 0 ≡ get_or bytes at 0
first-at at bytes = let e : at + 0 ≡ at = omega arith in get_or-drop at bytes 0 0 ∙ ap (λ (i : ℕ). get_or bytes i 0) e

-- ---- a leaf's token
pub hold-below : (a : Leaf) (m : ℕ) → a ≡ Hold m → leaf_coded a → m < slots_room
hold-below a m e h = subst leaf_coded e h

pub hold-token : (a : Leaf) (m t u : ℕ) (table : List ℕ) → a ≡ Hold m → t ≡ hold_code → u ≡ get_or table m 0 → t + u ≡ leaf_code (held_leaf table a)
hold-token a m t u table e p q =
    let s : t + u ≡ hold_code + get_or table m 0 = omega arith in
    s ∙ ap (λ (x : Leaf). leaf_code (held_leaf table x)) (sym e)

-- ---- tops as code makes them
pub single-not : (o : Unary) (at n t : ℕ) (r : PartTop) → o ≡ Not → t ≡ unary_code Not → r ≡ over_top t ((at + 1) * 4) → r ≡ single_top o at n
single-not o at n t r e p q = q ∙ ap (λ (x : ℕ). over_top x (node_code (at + 1))) p ∙ ap (λ (x : Unary). single_top x at n) (sym e)

pub single-next : (o : Unary) (at n : ℕ) (r : PartTop) → o ≡ Next → r ≡ text_top (at + 1) n → r ≡ single_top o at n
single-next o at n r e q = q ∙ ap (λ (x : Unary). single_top x at n) (sym e)

pub single-ever : (o : Unary) (j : Join) (at n t : ℕ) (r : PartTop) → o ≡ Ever j → t ≡ join_code j → r ≡ between_top t ((at + 1) * 4) (at * 4 + 2) → r ≡ single_top o at n
single-ever o j at n t r e p q = q ∙ ap (λ (x : ℕ). between_top x (node_code (at + 1)) (again_code at)) p ∙ ap (λ (x : Unary). single_top x at n) (sym e)

pub pair-joined : (o : Binary) (j : Join) (at n m t : ℕ) (r : PartTop) → o ≡ Joined j → t ≡ join_code j → m ≡ n → r ≡ between_top t ((at + 1) * 4) ((at + 1 + m) * 4) → r ≡ pair_top o at n
pair-joined o j at n m t r e p l q =
    q ∙ ap (λ (x : ℕ). between_top x (node_code (at + 1)) (node_code (at + 1 + m))) p ∙ ap (λ (x : ℕ). pair_top (Joined j) at x) l ∙ ap (λ (x : Binary). pair_top x at n) (sym e)

pub pair-until : (o : Binary) (at n m t : ℕ) (r : PartTop) → o ≡ Until → t ≡ join_code Or → m ≡ n → r ≡ between_top t ((at + 1 + m) * 4) (at * 4 + 1) → r ≡ pair_top o at n
pair-until o at n m t r e p l q =
    q ∙ ap (λ (x : ℕ). between_top x (node_code (at + 1 + m)) (later_code at)) p ∙ ap (λ (x : ℕ). pair_top Until at x) l ∙ ap (λ (x : Binary). pair_top x at n) (sym e)

-- ---- what is known at a node of a kind
zero-first : {s rest : List ℕ} {f : Formula} {a : Leaf} → Parts s rest f (Zero a) → get_or s 0 0 ≡ leaf_code a
zero-first (is_zero w e) = ap (λ (l : List ℕ). get_or l 0 0) e

module _ (choose : Formula → Option ℕ) (bytes marks : List ℕ) (at : ℕ) where
  kind_at : (g : Formula) (k l : Kind) (n : NodeMarked choose bytes marks at g) → k ≡ kind_of (get_or bytes at 0) → k ≡ l → Parts (drop at bytes) n.rest g l
  kind_at g k l n e h = parts-as (drop at bytes) g n.rest n.front (e ∙ ap kind_of (sym (first-at at bytes))) h

  -- what a leaf's token asks
  pub leaf-asks : (g : Formula) (k : Kind) (a : Leaf) (n : NodeMarked choose bytes marks at g) → k ≡ kind_of (get_or bytes at 0) → k ≡ Zero a → (get_or bytes at 0 ≡ leaf_code a) × leaf_coded a
  leaf-asks g k a n e h = let x = kind_at g k (Zero a) n e h in (sym (first-at at bytes) ∙ zero-first x, leaf-within x)

  -- an operand stands behind the node
  pub one_inside : (g : Formula) (k : Kind) (o : Unary) (n : NodeMarked choose bytes marks at g) → k ≡ kind_of (get_or bytes at 0) → k ≡ One o → at + 1 < length bytes
  one_inside g k o n e h =
      let x = one_of n.front (e ∙ ap kind_of (sym (first-at at bytes))) h in
      let i = node-inside choose bytes marks at g n in
      let s = ap size x.same in
      let z = size-some x.operand in
      omega arith

  pub two-inside : (g : Formula) (k : Kind) (o : Binary) (n : NodeMarked choose bytes marks at g) → k ≡ kind_of (get_or bytes at 0) → k ≡ Two o → at + 1 < length bytes
  two-inside g k o n e h =
      let x = two-of n.front (e ∙ ap kind_of (sym (first-at at bytes))) h in
      let i = node-inside choose bytes marks at g n in
      let s = ap size x.same in
      let z = size-some x.left in
      omega arith

  -- ---- the tops
  module _ (held : ℕ → ℕ) (f : Formula) (p : PartAt choose bytes marks (node_code at) f) (k : Kind) (e : k ≡ kind_of (get_or bytes at 0)) (t : PartTop) where
    pub node-leaf : (table : List ℕ) (a : Leaf) → HeldBy held table → k ≡ Zero a → t ≡ alone_top (leaf_code (held_leaf table a)) → TopsAs choose bytes marks held (node_code at) f t
    node-leaf table a h i q =
        let x = node-part choose bytes marks (node_code at) at f p refl in
        let s : f ≡ leaf a = x.same ∙ ap unfolded (zero_is (kind_at x.formula k (Zero a) x.stands e i)) in
        subst (λ (r : PartTop). TopsAs choose bytes marks held (node_code at) f r) (sym q)
        (subst (λ (g : Formula). TopsAs choose bytes marks held (node_code at) g (alone_top (leaf_code (held_leaf table a)))) (sym s) (leaf-tops choose bytes marks held table at a h))

    pub node-single : (o : Unary) → k ≡ One o → t ≡ single_top o at (length_in (get_or marks (at + 1) 0)) → TopsAs choose bytes marks held (node_code at) f t
    node-single o i q =
        let x = node-part choose bytes marks (node_code at) at f p refl in
        let y = one_of x.stands.front (e ∙ ap kind_of (sym (first-at at bytes))) i in
        let n = subst (λ (g : Formula). NodeMarked choose bytes marks at g) y.same x.stands in
        subst (λ (r : PartTop). TopsAs choose bytes marks held (node_code at) f r) (sym q)
        (subst (λ (g : Formula). TopsAs choose bytes marks held (node_code at) g (single_top o at (length_in (get_or marks (at + 1) 0)))) (sym (x.same ∙ ap unfolded y.same))
        (single-tops choose bytes marks held at o y.operand n))

    pub node-pair : (o : Binary) → k ≡ Two o → t ≡ pair_top o at (length_in (get_or marks (at + 1) 0)) → TopsAs choose bytes marks held (node_code at) f t
    node-pair o i q =
        let x = node-part choose bytes marks (node_code at) at f p refl in
        let y = two-of x.stands.front (e ∙ ap kind_of (sym (first-at at bytes))) i in
        let n = subst (λ (g : Formula). NodeMarked choose bytes marks at g) y.same x.stands in
        subst (λ (r : PartTop). TopsAs choose bytes marks held (node_code at) f r) (sym q)
        (subst (λ (g : Formula). TopsAs choose bytes marks held (node_code at) g (pair_top o at (length_in (get_or marks (at + 1) 0)))) (sym (x.same ∙ ap unfolded y.same))
        (pair-tops choose bytes marks held at o y.left y.right n))

    pub node-none : k ≡ NoCode → TopsAs choose bytes marks held (node_code at) f t
    node-none i =
        let x = node-part choose bytes marks (node_code at) at f p refl in
        absurd (no_code (kind_at x.formula k NoCode x.stands e i))

-- the kind of the first byte of the bytes from a node on is that of the node
pub from-kind : (u bytes : List ℕ) (at : ℕ) (k : Kind) → FromPart u bytes (node_code at) → k ≡ kind_of (get_or u 0 0) → k ≡ kind_of (get_or bytes at 0)
from-kind u bytes at k h e =
    let i : node_code at / parts_room ≡ at = omega arith in
    e ∙ ap (λ (l : List ℕ). kind_of (get_or l 0 0)) (h ∙ ap (λ (n : ℕ). drop n bytes) i) ∙ ap kind_of (first-at at bytes)

pub from_first : (u bytes : List ℕ) (at : ℕ) → FromPart u bytes (node_code at) → get_or u 0 0 ≡ get_or bytes at 0
from_first u bytes at h =
    let i : node_code at / parts_room ≡ at = omega arith in
    ap (λ (l : List ℕ). get_or l 0 0) (h ∙ ap (λ (n : ℕ). drop n bytes) i) ∙ first-at at bytes

pub from_some : (u bytes : List ℕ) (at : ℕ) → FromPart u bytes (node_code at) → at < length bytes → 0 < length u
from_some u bytes at h l =
    let i : node_code at / parts_room ≡ at = omega arith in
    let e = ap length (h ∙ ap (λ (n : ℕ). drop n bytes) i) in
    let d = length-drop at bytes in
    omega arith

-- ---- a part, by its number
module _ (marks table : List ℕ) (part : ℕ) where
  pub part-asks-node : (u : List ℕ) → TopAsk u marks table part → part % parts_room ≡ 0 → TopAsk u marks table (node_code (part / parts_room))
  part-asks-node u a e = let s : part ≡ node_code (part / parts_room) = omega arith in subst (λ (n : ℕ). TopAsk u marks table n) s a

  pub part-top-node : (u : List ℕ) (t : PartTop) → part % parts_room ≡ 0 → TopsPart u marks table (node_code (part / parts_room)) t → TopsPart u marks table part t
  part-top-node u t e x = let s : node_code (part / parts_room) ≡ part = omega arith in subst (λ (n : ℕ). TopsPart u marks table n t) s x

module _ (bytes marks : List ℕ) (part : ℕ) where
  module _ (choose : Formula → Option ℕ) (held : ℕ → ℕ) (f : Formula) (p : PartAt choose bytes marks part f) (t : PartTop) where
    pub part-top-later : (u : ℕ) → part % parts_room ≡ 1 → u ≡ join_code And → t ≡ between_top u ((part / parts_room + 1) * 4) (part / parts_room * 4 + 2) → TopsAs choose bytes marks held part f t
    part-top-later u e v q =
        let s : part ≡ later_code (part / parts_room) = omega arith in
        let x = later-part choose bytes marks part (part / parts_room) f p s in
        let at = part / parts_room in
        subst (λ (r : PartTop). TopsAs choose bytes marks held part f r) (sym (q ∙ ap (λ (y : ℕ). between_top y (node_code (at + 1)) (again_code at)) v))
        (subst (λ (n : ℕ). TopsAs choose bytes marks held n f (between_top (join_code And) (node_code (at + 1)) (again_code at))) (sym s)
        (subst (λ (g : Formula). TopsAs choose bytes marks held (later_code at) g (between_top (join_code And) (node_code (at + 1)) (again_code at))) (sym x.same)
        (later-tops choose bytes marks held at x.left x.right x.stands)))

    pub part-top-again : (part % parts_room ≡ 0 → ⊥) → (part % parts_room ≡ 1 → ⊥) → t ≡ text_top (part / parts_room) (length_in (get_or marks (part / parts_room) 0)) → TopsAs choose bytes marks held part f t
    part-top-again e h q =
        let x = again_part choose bytes marks part f p e h in
        let at = part / parts_room in
        subst (λ (r : PartTop). TopsAs choose bytes marks held part f r) (sym q)
        (subst (λ (n : ℕ). TopsAs choose bytes marks held n f (text_top at (length_in (get_or marks at 0)))) (sym x.code)
        (subst (λ (g : Formula). TopsAs choose bytes marks held (again_code at) g (text_top at (length_in (get_or marks at 0)))) (sym x.same)
        (again-tops choose bytes marks held at x.formula x.stands)))
