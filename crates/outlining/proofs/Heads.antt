-- The formula that begins at a place of a whole formula's bytes: the byte there has its kind (`head-kind`), the bytes lent from there
-- begin with it (`head-begins`), its end is found by a walk over them (`head-long`) and lies within (`head-within`). Assumes nothing.
use mathlib.Core.Path.{◌≡◌, sym, ap, ◌∙◌}
use mathlib.Core.List.{List}
use Prim.Native.Nat.{ℕ, ◌+◌, ◌<◌, ◌≤◌}
use native.Mathlib.Nat.{add-zero}
use native.Mathlib.Omega.{arith}
use lib.ListN.{length, get_or, drop, length-drop}
use lib.Seq.{get_or-drop}
use Rattle.lists.specs.Runs.{tail}
use Rattle.kinds.specs.Kinds.{kind_of}
use Rattle.kinds.proofs.Codes.{kind-leaf, kind-unary, kind-binary}
use Rattle.ltl.specs.Formula.{Formula, leaf, one, two, size}
use Rattle.nodes.specs.Begins.{Front, Begins, Ends}
use Rattle.nodes.proofs.Fronts.{front_length, front-tail, begins-tail}
use Rattle.peeling.specs.Peeled.{encodes}
use Rattle.peeling.proofs.Peels.{HeadAt}
use Rattle.outlining.specs.Outlined.{top_kind}

-- the first byte has the kind of the formula in front
front-kind : (s : List ℕ) (f : Formula) (rest : List ℕ) → Front s f rest → kind_of (get_or s 0 0) ≡ top_kind f
front-kind s (leaf a) rest x = ap (λ (l : List ℕ). kind_of (get_or l 0 0)) x.bytes ∙ kind-leaf a x.coded
front-kind s (one o f) rest x = ap (λ (l : List ℕ). kind_of (get_or l 0 0)) x.bytes ∙ kind-unary o
front-kind s (two o f g) rest x = ap (λ (l : List ℕ). kind_of (get_or l 0 0)) x.bytes ∙ kind-binary o

module _ {f : Formula} {s : List ℕ} {i : ℕ} (h : HeadAt f s i) where
  -- the byte at the place has its kind
  pub head-kind : kind_of (get_or s i 0) ≡ top_kind h.head
  head-kind = ap (λ (n : ℕ). kind_of (get_or s n 0)) (sym (add-zero i)) ∙ ap kind_of (sym (get_or-drop i s 0 0)) ∙ front-kind _ _ _ h.front

  -- the bytes from the place on, as code lends them, begin with it
  pub head-begins : Begins (tail i s)
  head-begins = begins-tail i s h.front

  -- a walk over them finds its length
  pub head-long : {m : ℕ} → Ends (tail i s) m → m ≡ size h.head
  head-long ends = ends h.head (encodes h.others) (front-tail i s h.front)

  -- it ends within the bytes
  pub head-within : i < length s → i + size h.head ≤ length s
  head-within l = let e = front_length (drop i s) h.head (encodes h.others) h.front in let d = length-drop i s in omega arith
