-- The two lowest results joined. Assumes nothing: these are definitions.
use Rattle.std.specs.Prelude.{◌≡◌, List, ◌∷◌, ℕ, ◌+◌, ◌<◌, ◌≤◌, get_or, take}
use Rattle.kinds.specs.declared.Join.{Join}
use Rattle.kinds.specs.declared.Leaf.TheVariants.{Const}
use Rattle.kinds.specs.Kinds.{leaf_code, join_code}
use Rattle.ltl.specs.Formula.{Formula, size}
use Rattle.ltl.specs.Progression.{deciding, joined}
use Rattle.stacking.specs.Stacks.{Stack, Spared}

-- f is the lowest result and g the one behind it; op is the code of the join, and decide that of the constant that settles it
pub record Pair (p notes : List ℕ) (w op decide : ℕ) (j : Join) (f g : Formula) (fs : List Formula) : Type 0 where
  pub stack : Stack (f ∷ (g ∷ fs)) p notes w
  pub op-is : op ≡ join_code j
  pub decide-is : decide ≡ leaf_code (Const (deciding j))

pub record JoinAsk (p notes : List ℕ) (w op decide : ℕ) : Type 0 where
  pub j : Join
  pub f : Formula
  pub g : Formula
  pub others : List Formula
  pub pair : Pair p notes w op decide j f g others
  pub some : 0 < w

pub record JoinsPair (p notes : List ℕ) (w op decide : ℕ) (p' notes' : List ℕ) (v : ℕ) : Type 0 where
  pub untouched : Spared w p notes p' notes'
  pub means : (j : Join) (f g : Formula) (fs : List Formula) → Pair p notes w op decide j f g fs → Stack (joined j f g ∷ fs) p' notes' v

-- ---- where the left operand is no constant, and the right one not the constant that settles it
pub record Open (p notes : List ℕ) (w op l r : ℕ) (j : Join) (f g : Formula) (fs : List Formula) : Type 0 where
  pub stack : Stack (f ∷ (g ∷ fs)) p notes w
  pub op-is : op ≡ join_code j
  pub left-long : l ≡ size f
  pub right-long : r ≡ size g
  pub pending : 2 ≤ get_or p w 0
  pub not-settled : get_or p (w + l) 0 ≡ leaf_code (Const (deciding j)) → ⊥

pub record OpenAsk (p notes : List ℕ) (w op l r : ℕ) : Type 0 where
  pub j : Join
  pub f : Formula
  pub g : Formula
  pub others : List Formula
  pub open' : Open p notes w op l r j f g others
  pub some : 0 < w

pub record OpenJoins (p notes : List ℕ) (w op l r : ℕ) (p' notes' : List ℕ) (v : ℕ) : Type 0 where
  pub untouched : Spared w p notes p' notes'
  pub means : (j : Join) (f g : Formula) (fs : List Formula) → Open p notes w op l r j f g fs → Stack (joined j f g ∷ fs) p' notes' v

-- ---- the left operand, of l bytes, over a right one of one byte that says nothing
pub record KeepAsk (p notes : List ℕ) (w l : ℕ) : Type 0 where
  pub f : Formula
  pub g : Formula
  pub others : List Formula
  pub stack : Stack (f ∷ (g ∷ others)) p notes w
  pub left-long : l ≡ size f
  pub right-long : size g ≡ 1

pub record Keeps (p notes : List ℕ) (w l : ℕ) (p' notes' : List ℕ) (v : ℕ) : Type 0 where
  pub place : v ≡ w + 1
  pub front : (u : ℕ) → u ≤ w → take u p' ≡ take u p
  pub notes-front : (q : ℕ) → q < w → get_or notes' q 0 ≡ get_or notes q 0
  pub means : (f g : Formula) (fs : List Formula) → Stack (f ∷ (g ∷ fs)) p notes w → l ≡ size f → size g ≡ 1 → Stack (f ∷ fs) p' notes' v
