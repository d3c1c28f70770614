-- A node by its kind, as the code has it in hand: what it may ask of the callee for that kind, and what is shown then. Laws `leaf-..`,
-- `unary-..`, `pair-..`, and `none-on` for a byte that is no code. Assumes nothing.
use mathlib.Core.Path.{◌≡◌, sym, ◌∙◌, subst}
use mathlib.Core.List.{List, ◌∷◌}
use Prim.Native.Nat.{ℕ, ◌+◌, ◌<◌, ◌≤◌}
use native.Mathlib.Omega.{arith}
use lib.ListN.{length, set}
use Rattle.kinds.specs.declared.Leaf.{Leaf}
use Rattle.kinds.specs.declared.Unary.{Unary}
use Rattle.kinds.specs.declared.Binary.{Binary}
use Rattle.kinds.specs.declared.Kind.{Kind}
use Rattle.kinds.specs.declared.Kind.TheVariants.{Zero, One, Two, NoCode}
use Rattle.ltl.specs.Formula.{Formula, leaf, one, two}
use Rattle.outlining.specs.Outlined.{top_kind}
use Rattle.peeling.specs.Peeled.{peel}
use Rattle.text.specs.Printing.{unary_sign, leaf_text}
use Rattle.showing.specs.Shows.{Puts, Showing, EndAsk, EndsOn, InfixAsk, InfixOn, NodeShows, NodesOn}
use Rattle.showing.proofs.Nodes.{leaf-space, leaf-shown, prefix-space, prefix-showing}

-- ---- which formula begins with a node of this kind
head-leaf : {a : Leaf} (f : Formula) → Zero a ≡ top_kind f → f ≡ leaf a
head-leaf (leaf b) e = cc e
head-leaf (one o f) e = absurd (let z : ◌≡◌ {A = ℕ} 0 1 = cc e in omega arith)
head-leaf (two o f g) e = absurd (let z : ◌≡◌ {A = ℕ} 0 1 = cc e in omega arith)

record HeadUnary (o : Unary) (f : Formula) : Type 0 where
  operand : Formula
  is : f ≡ one o operand

head-unary : {o : Unary} (f : Formula) → One o ≡ top_kind f → HeadUnary o f
head-unary (leaf b) e = absurd (let z : ◌≡◌ {A = ℕ} 0 1 = cc e in omega arith)
head-unary (one p f) e = record { operand = f; is = cc e }
head-unary (two p f g) e = absurd (let z : ◌≡◌ {A = ℕ} 0 1 = cc e in omega arith)

record HeadBinary (o : Binary) (f : Formula) : Type 0 where
  left : Formula
  right : Formula
  is : f ≡ two o left right

head-binary : {o : Binary} (f : Formula) → Two o ≡ top_kind f → HeadBinary o f
head-binary (leaf b) e = absurd (let z : ◌≡◌ {A = ℕ} 0 1 = cc e in omega arith)
head-binary (one p f) e = absurd (let z : ◌≡◌ {A = ℕ} 0 1 = cc e in omega arith)
head-binary (two p f g) e = record { left = f; right = g; is = cc e }

head-none : (f : Formula) → NoCode ≡ top_kind f → ⊥
head-none (leaf b) e = let z : ◌≡◌ {A = ℕ} 0 1 = cc e in absurd (omega arith)
head-none (one p f) e = let z : ◌≡◌ {A = ℕ} 0 1 = cc e in absurd (omega arith)
head-none (two p f g) e = let z : ◌≡◌ {A = ℕ} 0 1 = cc e in absurd (omega arith)

-- the formula that begins is g
begun-as : {text dues : List ℕ} {at top k : ℕ} {f g : Formula} {gs : List Formula} {whole : List ℕ} → f ≡ g
    → Showing text dues at top k (f ∷ gs) whole → Showing text dues at top k (g ∷ gs) whole
begun-as {text} {dues} {at} {top} {k} {gs = gs} {whole} e x = subst (λ (h : Formula). Showing text dues at top k (h ∷ gs) whole) e x

module _ {kind : Kind} {text dues : List ℕ} {at top k : ℕ} where
  -- ---- a leaf
  module _ {a : Leaf} (q : kind ≡ Zero a) where
    leaf-here : {f : Formula} {gs : List Formula} {whole : List ℕ} → kind ≡ top_kind f → Showing text dues at top k (f ∷ gs) whole → Showing text dues at top k (leaf a ∷ gs) whole
    leaf-here {f} e x = begun-as (head-leaf f (sym q ∙ e)) x

    pub leaf-asks : NodeShows kind text dues at top k → at + length (leaf_text a) ≤ length text
    leaf-asks n = leaf-space (leaf-here n.kind-is n.showing)

    module _ {text' : List ℕ} {r : ℕ} (p : Puts (leaf_text a) text at text' r) (l : length text' ≡ length text) where
      pub leaf-ends : NodeShows kind text dues at top k → EndAsk text' dues r top
      leaf-ends n = record { others = n.others; whole = n.whole; shown = leaf-shown (leaf-here n.kind-is n.showing) p l }

      pub leaf-on : {text'' : List ℕ} {at' top' k' : ℕ} → EndsOn text' dues r top text'' at' top' k' → NodesOn kind text dues at top k text'' dues at' top' k'
      leaf-on {text''} {at'} {top'} {k'} on f gs whole e x =
          subst (λ (h : Formula). Showing text'' dues at' top' k' (peel (h ∷ gs)) whole) (sym (head-leaf f (sym q ∙ e))) (on gs whole (leaf-shown (leaf-here e x) p l))

  -- ---- a prefix sign
  module _ {o : Unary} (q : kind ≡ One o) where
    pub unary-asks : NodeShows kind text dues at top k → at < length text
    unary-asks n = prefix-space (begun-as (head-unary n.formula (sym q ∙ n.kind-is)).is n.showing)

    pub unary-on : {c : ℕ} → c ≡ unary_sign o → NodesOn kind text dues at top k (set text at c) dues (at + 1) top 0
    unary-on {c} b f gs whole e x =
        let h = head-unary f (sym q ∙ e) in
        subst (λ (g : Formula). Showing (set text at c) dues (at + 1) top 0 (peel (g ∷ gs)) whole) (sym h.is) (prefix-showing (begun-as h.is x) b)

  -- ---- an infix node
  module _ {o : Binary} (q : kind ≡ Two o) where
    pub pair-asks : NodeShows kind text dues at top k → InfixAsk o text dues at top k
    pair-asks n =
        let h = head-binary n.formula (sym q ∙ n.kind-is) in
        record { left = h.left; right = h.right; others = n.others; whole = n.whole; showing = begun-as h.is n.showing }

    pub pair-on : {text' dues' : List ℕ} {at' top' k' : ℕ} → InfixOn o text dues at top k text' dues' at' top' k' → NodesOn kind text dues at top k text' dues' at' top' k'
    pair-on {text'} {dues'} {at'} {top'} {k'} on f gs whole e x =
        let h = head-binary f (sym q ∙ e) in
        subst (λ (g : Formula). Showing text' dues' at' top' k' (peel (g ∷ gs)) whole) (sym h.is) (on h.left h.right gs whole (begun-as h.is x))

  -- ---- no formula
  pub none-on : kind ≡ NoCode → {text' dues' : List ℕ} {at' top' k' : ℕ} → NodesOn kind text dues at top k text' dues' at' top' k'
  none-on q f gs whole e x = absurd (head-none f (sym q ∙ e))
