-- A node is shown: a leaf (`leaf-space`, `leaf-shown`), a prefix sign (`prefix-space`, `prefix-showing`), an infix node without brackets
-- (`plain-showing`) or in brackets (`open-space`, `open-showing`). Assumes nothing.
use mathlib.Core.Path.{◌≡◌, refl, sym, ap, ◌∙◌}
use mathlib.Core.List.{List, [], ◌∷◌, ◌++◌}
use Prim.Native.Nat.{ℕ, suc, ◌+◌, ◌-◌, ◌*◌, ◌<◌, ◌≤◌}
use native.Mathlib.Omega.{arith}
use lib.ListN.{length, set, length-append, length-set}
use borrow.Author.Tests.{lt-ltb, le-ltb}
use Rattle.lists.specs.Tests.{pick}
use Rattle.kinds.specs.declared.Leaf.{Leaf}
use Rattle.kinds.specs.declared.Unary.{Unary}
use Rattle.kinds.specs.declared.Binary.{Binary}
use Rattle.ltl.specs.Formula.{Formula, leaf, one, two, encode}
use Rattle.peeling.specs.Peeled.{encodes}
use Rattle.text.specs.Signs.{level}
use Rattle.text.specs.Printing.{unary_sign, binary_sign, open_sign, close_sign, leaf_text, shown}
use Rattle.showing.specs.Dues.{Due, close, sign, Trailing, closed, infixed, Coming, next}
use Rattle.showing.specs.Shows.{Puts, Showing, Shown}
use Rattle.showing.proofs.Words.{put_byte}
use Rattle.showing.proofs.Pens.{penned-put, penned-space, penned-push}

-- ---- what comes of the formula that is to begin
-- its text, and what comes behind it
record Begun (k : ℕ) (ds : List Due) (g : Formula) (gs : List Formula) (bs : List ℕ) : Type 0 where
  rest : List ℕ
  behind : Trailing ds gs rest
  is : bs ≡ shown g k rest

begun : {k : ℕ} {ds : List Due} {g : Formula} {gs : List Formula} {bs : List ℕ} → Coming k ds (g ∷ gs) bs → Begun k ds g gs bs
begun (next {b = b} y e) = record { rest = b; behind = y; is = e }

-- ---- a leaf
module _ {text dues : List ℕ} {at top k : ℕ} {a : Leaf} {gs : List Formula} {whole : List ℕ} (x : Showing text dues at top k (leaf a ∷ gs) whole) where
  pub leaf-space : at + length (leaf_text a) ≤ length text
  leaf-space = let b = begun x.coming in penned-space x.penned (leaf_text a) b.rest b.is

  pub leaf-shown : {text' : List ℕ} {r : ℕ} → Puts (leaf_text a) text at text' r → length text' ≡ length text → Shown text' dues r top gs whole
  leaf-shown p l =
      let b = begun x.coming in
      record { waits = x.waits; bytes = b.rest; behind = b.behind; penned = penned-put x.penned gs b.is p l (omega arith) }

-- ---- a prefix sign
module _ {text dues : List ℕ} {at top k : ℕ} {o : Unary} {f : Formula} {gs : List Formula} {whole : List ℕ}
    (x : Showing text dues at top k (one o f ∷ gs) whole) where
  pub prefix-space : at < length text
  prefix-space = let b = begun x.coming in let s = penned-space x.penned (unary_sign o ∷ []) (shown f 0 b.rest) b.is in omega arith

  pub prefix-showing : {c : ℕ} → c ≡ unary_sign o → Showing (set text at c) dues (at + 1) top 0 (f ∷ gs) whole
  prefix-showing {c} e =
      let b = begun x.coming in
      let q : x.bytes ≡ c ∷ shown f 0 b.rest = b.is ∙ ap (λ (n : ℕ). n ∷ shown f 0 b.rest) (sym e) in
      record {
        waits = x.waits;
        bytes = shown f 0 b.rest;
        coming = next b.behind refl;
        penned = penned-put x.penned (f ∷ gs) q (put_byte text at c prefix-space) (length-set text at c) (omega arith);
      }

-- ---- an infix node
module _ {text dues : List ℕ} {at top k : ℕ} {o : Binary} {f g : Formula} {gs : List Formula} {whole : List ℕ}
    (x : Showing text dues at top k (two o f g ∷ gs) whole) where
  -- the nodes that are left
  pair-nodes : length (encodes (two o f g ∷ gs)) ≡ 1 + length (encodes (f ∷ (g ∷ gs)))
  pair-nodes =
      let a = length-append (encode f ++ encode g) (encodes gs) in
      let b = length-append (encode f) (encode g) in
      let c = length-append (encode f) (encode g ++ encodes gs) in
      let d = length-append (encode g) (encodes gs) in
      omega arith

  pub pair-room : 2 + 2 * length (encodes (f ∷ (g ∷ gs))) ≤ top
  pair-room = let r = x.penned.room in let n = pair-nodes in omega arith

  -- what comes behind its left operand
  abbrev rightward : List ℕ → List ℕ
  rightward b = binary_sign o ∷ shown g (suc (level o)) b

  plain-is : (b : List ℕ) → level o < k → shown (two o f g) k b ≡ shown f (level o) (rightward b)
  unfolding pick
  plain-is b h = rw (lt-ltb (level o) k h)

  open_is : (b : List ℕ) → k ≤ level o → shown (two o f g) k b ≡ open_sign ∷ shown f (level o) (rightward (close_sign ∷ b))
  unfolding pick
  open_is b h = rw (le-ltb (level o) k h)

  -- without brackets
  pub plain-showing : {r : ℕ} → r ≡ level o → r < k → Showing text (set dues (top - 1) (r + 1)) at (top - 1) r (f ∷ (g ∷ gs)) whole
  plain-showing {r} e h =
      let b = begun x.coming in
      let n = pair-room in
      record {
        waits = sign o ∷ x.waits;
        bytes = x.bytes;
        coming = next (infixed b.behind refl) (b.is ∙ plain-is b.rest (omega arith) ∙ ap (λ (m : ℕ). shown f m (rightward b.rest)) (sym e));
        penned = penned-push x.penned (sign o) (f ∷ (g ∷ gs)) (omega arith) (omega arith) (omega arith);
      }

  -- in brackets
  module _ (h : k ≤ level o) where
    opened : x.bytes ≡ open_sign ∷ shown f (level o) (rightward (close_sign ∷ (begun x.coming).rest))
    opened = (begun x.coming).is ∙ open_is (begun x.coming).rest h

    pub open-space : at < length text
    open-space = let s = penned-space x.penned (open_sign ∷ []) _ opened in omega arith

    pub open-showing : {r : ℕ} → r ≡ level o
        → Showing (set text at open_sign) (set (set dues (top - 1) 0) (top - 2) (r + 1)) (at + 1) (top - 2) r (f ∷ (g ∷ gs)) whole
    open-showing {r} e =
        let b = begun x.coming in
        let n = pair-room in
        let m = pair-nodes in
        let p = penned-put x.penned (f ∷ (g ∷ gs)) opened (put_byte text at open_sign open-space) (length-set text at open_sign) (omega arith) in
        let q = penned-push p close (f ∷ (g ∷ gs)) {k = top - 1} {v = 0} (omega arith) refl (omega arith) in
        record {
          waits = sign o ∷ (close ∷ x.waits);
          bytes = shown f (level o) (rightward (close_sign ∷ b.rest));
          coming = next (infixed (closed b.behind refl) refl) (ap (λ (m : ℕ). shown f m (rightward (close_sign ∷ b.rest))) (sym e));
          penned = penned-push q (sign o) (f ∷ (g ∷ gs)) (omega arith) (omega arith) (omega arith);
        }
