-- A formula in tokens: outside next a node is one token, its code, and next with all that stands under it is one token too, which says
-- where that text stands among the bytes. So the unfolded formula takes no more tokens than twice the nodes of the one that was
-- unfolded. Assumes nothing: these are definitions.
use Rattle.std.specs.Prelude.{◌≡◌, ℕ, ◌+◌, ◌-◌, ◌<◌, Bool, List, [], ◌∷◌, get_or, drop, ltb}
use Rattle.lists.specs.Tests.{pick, both}
use Rattle.kinds.specs.Kinds.{leaf_code, unary_code, join_code, hold_code}
use Rattle.kinds.specs.declared.Leaf.{Leaf}
use Rattle.kinds.specs.declared.Unary.TheVariants.{Not, Next}
use Rattle.kinds.specs.declared.Join.{Join}
use Rattle.ltl.specs.Formula.{Formula, leaf, one, join, size}
use Rattle.nodes.specs.Begins.{Front}
use Rattle.choices.specs.Marks.{length_in}

-- tokens from here on are texts under next
abbrev pub text_code : ℕ
text_code = 256

-- the formula g stands at a place of the bytes, and its length is marked there
pub record TextAt (bytes marks : List ℕ) (at : ℕ) (g : Formula) : Type 0 where
  pub rest : List ℕ
  pub front : Front (drop at bytes) g rest
  pub marked : length_in (get_or marks at 0) ≡ size g

-- the tokens a begin with those of the formula, and b is what stands behind them
pub data SpellsFrom (bytes marks : List ℕ) : Formula → List ℕ → List ℕ → Type 0 where
  spells-leaf : {b : List ℕ} (l : Leaf) → SpellsFrom bytes marks (leaf l) (leaf_code l ∷ b) b
  spells-not : {f : Formula} {a b : List ℕ} → SpellsFrom bytes marks f a b → SpellsFrom bytes marks (one Not f) (unary_code Not ∷ a) b
  spells-next : {f : Formula} {b : List ℕ} (at : ℕ) → TextAt bytes marks at f → SpellsFrom bytes marks (one Next f) ((text_code + at) ∷ b) b
  spells-join : {f g : Formula} {a b c : List ℕ} (j : Join) → SpellsFrom bytes marks f a b → SpellsFrom bytes marks g b c
      → SpellsFrom bytes marks (join j f g) (join_code j ∷ a) c

-- the tokens are those of the formula
abbrev pub Spelt : List ℕ → List ℕ → Formula → List ℕ → Type 0
Spelt bytes marks f tokens = SpellsFrom bytes marks f tokens []

-- the numbers of the place holders among tokens, from left to right
unfoldable pub held_in : List ℕ → List ℕ
held_in [] = []
held_in (t ∷ ts) = pick (both (ltb (hold_code) (t + 1)) (ltb t text_code)) ((t - hold_code) ∷ held_in ts) (held_in ts)
