-- Tokens and the bytes that they stand for. What the tokens of a formula say, one after the other, is a function of the formula
-- (`spells-lines`), and together these are its bytes (`lines-flat`). So tokens that say the same spell one formula (`spelt-same`), and
-- the tokens of one formula say the same, wherever its texts stand (`spelt-alike`). `spelt-readable` is that each text can be read.
-- Assumes nothing.
use mathlib.Core.Path.{◌≡◌, refl, sym, ap, ap₂, ◌∙◌, subst}
use mathlib.Core.Bool.{true, false}
use mathlib.Core.List.{List, [], ◌∷◌, ◌++◌, map, append_assoc, append-nil}
use Prim.Native.Nat.{ℕ, zero, suc, ◌+◌, ◌-◌, ◌<◌, ◌≤◌}
use native.Mathlib.Omega.{arith}
use lib.ListN.{length, get_or, take, drop}
use borrow.Author.Tests.{lt-ltb, le-ltb}
use Rattle.lists.specs.Tests.{pick}
use Rattle.kinds.specs.Kinds.{leaf_code, unary_code, join_code, leaf_coded}
use Rattle.kinds.specs.declared.Leaf.{Leaf}
use Rattle.kinds.specs.declared.Leaf.TheVariants.{Const, Prop, Hold}
use Rattle.kinds.specs.declared.Unary.TheVariants.{Not, Next, Ever}
use Rattle.kinds.specs.declared.Binary.TheVariants.{Joined, Until}
use Rattle.kinds.proofs.Codes.{binary-low}
use Rattle.ltl.specs.Formula.{Formula, leaf, one, two, encode, Coded}
use Rattle.ltl.proofs.Decoding.{one_way}
use Rattle.nodes.proofs.Fronts.{front-own}
use Rattle.choices.specs.Marks.{length_in}
use Rattle.tokens.specs.Tokens.{text_code, TextAt, SpellsFrom, spells-leaf, spells-not, spells-next, spells-join, Spelt}
use Rattle.tokens.specs.Said.{said, Readable, SpeltSome}

-- ---- what a formula's tokens say
abbrev pub lines : Formula → List (List ℕ)
lines (leaf l) = (leaf_code l ∷ []) ∷ []
lines (one Not f) = (unary_code Not ∷ []) ∷ lines f
lines (one Next f) = (unary_code Next ∷ encode f) ∷ []
lines (one (Ever j) f) = encode (one (Ever j) f) ∷ []
lines (two (Joined j) f g) = (join_code j ∷ []) ∷ (lines f ++ lines g)
lines (two Until f g) = encode (two Until f g) ∷ []

-- lists one after the other
abbrev pub flat : List (List ℕ) → List ℕ
flat [] = []
flat (x ∷ xs) = x ++ flat xs

flat_append : (x y : List (List ℕ)) → flat (x ++ y) ≡ flat x ++ flat y
flat_append [] y = refl
flat_append (a ∷ x) y = ap (a ++◌) (flat_append x y) ∙ sym (append_assoc a (flat x) (flat y))

-- together they are the formula's bytes
pub lines-flat : (f : Formula) → flat (lines f) ≡ encode f
lines-flat (leaf l) = refl
lines-flat (one Not f) = ap (unary_code Not ∷◌) (lines-flat f)
lines-flat (one Next f) = ap (unary_code Next ∷◌) (append-nil (encode f))
lines-flat (one (Ever j) f) = append-nil (encode (one (Ever j) f))
lines-flat (two (Joined j) f g) = ap (join_code j ∷◌) (flat_append (lines f) (lines g) ∙ ap₂ ◌++◌ (lines-flat f) (lines-flat g))
lines-flat (two Until f g) = append-nil (encode (two Until f g))

-- ---- one token
leaf-low : (l : Leaf) → leaf_coded l → leaf_code l < text_code
leaf-low (Const true) h = omega arith
leaf-low (Const false) h = omega arith
leaf-low (Prop i) h = omega arith
leaf-low (Hold k) h = omega arith

module _ (bytes marks : List ℕ) where
  pub said-code : (t : ℕ) → t < text_code → said bytes marks t ≡ t ∷ []
  unfolding said pick
  said-code t h = rw (lt-ltb t text_code h)

  -- a text, by where it stands
  pub said-text : (t : ℕ) → text_code ≤ t → said bytes marks t ≡ unary_code Next ∷ take (length_in (get_or marks (t - text_code) 0)) (drop (t - text_code) bytes)
  unfolding said pick
  said-text t h = rw (le-ltb t text_code h)

  -- and by the formula
  pub said-next : (at : ℕ) (g : Formula) → TextAt bytes marks at g → said bytes marks (text_code + at) ≡ unary_code Next ∷ encode g
  said-next at g x =
      let e : text_code + at - text_code ≡ at = omega arith in
      said-text (text_code + at) (omega arith)
      ∙ ap (λ (k : ℕ). unary_code Next ∷ take (length_in (get_or marks k 0)) (drop k bytes)) e
      ∙ ap (λ (n : ℕ). unary_code Next ∷ take n (drop at bytes)) x.marked
      ∙ ap (unary_code Next ∷◌) (front-own (drop at bytes) g x.rest x.front)

  -- ---- all of them
  abbrev pub said_all : List ℕ → List (List ℕ)
  said_all tokens = map (said bytes marks) tokens

  pub spells-lines : {f : Formula} {a b : List ℕ} → SpellsFrom bytes marks f a b → Coded f → said_all a ≡ lines f ++ said_all b
  spells-lines (spells-leaf {b} l) c = ap (◌∷ said_all b) (said-code (leaf_code l) (leaf-low l c))
  spells-lines (spells-not {f} {a} {b} s) c = ap₂ ◌∷◌ (said-code (unary_code Not) (omega arith)) (spells-lines s c)
  spells-lines (spells-next {f} {b} at x) c = ap (◌∷ said_all b) (said-next at f x)
  spells-lines (spells-join {f} {g} {a} {b} {c = d} j s t) c =
      let l = binary-low (Joined j) in
      ap₂ ◌∷◌ (said-code (join_code j) (omega arith)) (spells-lines s c.0 ∙ ap (lines f ++◌) (spells-lines t c.1) ∙ sym (append_assoc (lines f) (lines g) (said_all d)))

  pub spelt-lines : {f : Formula} {a : List ℕ} → Spelt bytes marks f a → Coded f → said_all a ≡ lines f
  spelt-lines {f = f} s c = spells-lines s c ∙ append-nil (lines f)

  -- tokens that say the same spell the same
  pub spelt-same : (f g : Formula) (a b : List ℕ) → Spelt bytes marks f a → Spelt bytes marks g b → Coded f → Coded g → said_all a ≡ said_all b → f ≡ g
  spelt-same f g a b s t c d e =
      let p : encode f ≡ encode g = sym (lines-flat f) ∙ ap flat (sym (spelt-lines s c) ∙ e ∙ spelt-lines t d) ∙ lines-flat g in
      (one_way f g [] [] c d (ap (◌++ []) p)).0

  -- and those that spell the same say the same
  pub spelt-alike : (f g : Formula) (a b : List ℕ) → Spelt bytes marks f a → Spelt bytes marks g b → Coded f → Coded g → f ≡ g → said_all a ≡ said_all b
  spelt-alike f g a b s t c d e = spelt-lines s c ∙ ap lines e ∙ sym (spelt-lines t d)

  -- ---- texts can be read
  pub spells-readable : {f : Formula} {a b : List ℕ} → SpellsFrom bytes marks f a b → Coded f → ((i : ℕ) → i < length b → Readable bytes marks (get_or b i 0))
      → (i : ℕ) → i < length a → Readable bytes marks (get_or a i 0)
  spells-readable (spells-leaf l) c h zero k = λ m. let z = leaf-low l c in absurd (omega arith)
  spells-readable (spells-leaf l) c h (suc i) k = h i (omega arith)
  spells-readable (spells-not s) c h zero k = λ m. absurd (omega arith)
  spells-readable (spells-not s) c h (suc i) k = spells-readable s c h i (omega arith)
  spells-readable (spells-next {f} at x) c h zero k = λ m. let e : at ≡ text_code + at - text_code = omega arith in record { formula = f; stands = subst (λ (p : ℕ). TextAt bytes marks p f) e x }
  spells-readable (spells-next at x) c h (suc i) k = h i (omega arith)
  spells-readable (spells-join j s t) c h zero k = λ m. let l = binary-low (Joined j) in absurd (omega arith)
  spells-readable (spells-join j s t) c h (suc i) k = spells-readable s c.0 (λ p m. spells-readable t c.1 h p m) i (omega arith)

  pub spelt-readable : {tokens : List ℕ} → SpeltSome bytes marks tokens → (i : ℕ) → i < length tokens → Readable bytes marks (get_or tokens i 0)
  spelt-readable x = spells-readable x.spelt x.coded (λ i h. absurd (omega arith))
