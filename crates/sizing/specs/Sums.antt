-- The sum that the count keeps from place to place. Assumes nothing: these are definitions.
use Rattle.std.specs.Prelude.{◌≡◌, Bool, true, false, List, [], ◌∷◌, ℕ, ◌+◌, ◌*◌, ◌<◌, ◌≤◌, length, get_or, drop}
use Rattle.limits.specs.Limits.{nodes_room}
use Rattle.kinds.specs.declared.Unary.TheVariants.{Not, Next, Ever}
use Rattle.kinds.specs.declared.Binary.TheVariants.{Joined, Until}
use Rattle.kinds.specs.declared.Kind.{Kind}
use Rattle.kinds.specs.declared.Kind.TheVariants.{Zero, One, Two, NoCode}
use Rattle.kinds.specs.Kinds.{kind_of}
use Rattle.ltl.specs.Formula.{Formula, leaf, one, two, size}
use Rattle.ltl.specs.Progression.{unfolded}
use Rattle.nodes.specs.Begins.{Front}
use Rattle.peeling.specs.Peeled.{peeled}
use Rattle.outlining.specs.Outlined.{whole_kind}

-- eventually or always
abbrev pub ever_kind : Kind → Bool
ever_kind (Zero a) = false
ever_kind (One Not) = false
ever_kind (One Next) = false
ever_kind (One (Ever j)) = true
ever_kind (Two o) = false
ever_kind NoCode = false

-- how many nodes unfolding adds: what stands under next stays, eventually and always become a join with next and themselves, and
-- until two joins with next and itself
abbrev pub extra : Formula → ℕ
extra (leaf a) = 0
extra (one Not f) = extra f
extra (one Next f) = 0
extra (one (Ever j) f) = 1 + size (one (Ever j) f) + extra f
extra (two (Joined j) f g) = extra f + extra g
extra (two Until f g) = 2 + size (two Until f g) + (extra f + extra g)

-- the same of several formulas
abbrev pub extras : List Formula → ℕ
extras [] = 0
extras (f ∷ fs) = extra f + extras fs

-- the bytes are one formula, and what was counted up to place i is all but what unfolding adds behind it
pub record Sums (s : List ℕ) (i count : ℕ) : Type 0 where
  pub formula : Formula
  pub front : Front s formula []
  pub few : length s ≤ nodes_room
  pub within : i ≤ length s
  pub sum : count + extras (peeled i (formula ∷ [])) ≡ size (unfolded formula)

-- the formula that begins at place i ends at e
abbrev pub EndsFrom : List ℕ → ℕ → ℕ → Type 0
EndsFrom s i e = (f : Formula) (rest : List ℕ) → Front (drop i s) f rest → i + size f ≡ e

-- the same besides: there is a formula at place i, and it ends at e
pub record SumsPart (s : List ℕ) (i e count : ℕ) : Type 0 where
  pub sums : Sums s i count
  pub below : i < length s
  pub ends : EndsFrom s i e

-- what counting eventually and always asks
pub record SumsEver (s : List ℕ) (i e count : ℕ) : Type 0 where
  pub part : SumsPart s i e count
  pub ever : ever_kind (kind_of (get_or s i 0)) ≡ true
  pub small : count ≤ nodes_room

-- what counting a node that stays whole, or is unfolded, asks
pub record SumsWhole (s : List ℕ) (i count : ℕ) : Type 0 where
  pub sums : Sums s i count
  pub below : i < length s
  pub stays : whole_kind (kind_of (get_or s i 0)) ≡ true
  pub small : count ≤ nodes_room

-- the count went on from place i to j
pub record SumsOn (s : List ℕ) (i j count : ℕ) : Type 0 where
  pub sums : Sums s j count
  pub more : i < j
  pub small : count ≤ (nodes_room + 1) * (nodes_room + 1)
