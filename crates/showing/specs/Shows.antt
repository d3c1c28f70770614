-- What showing a formula asks and gives, from node to node. Assumes nothing: these are definitions.
use Rattle.std.specs.Prelude.{◌≡◌, List, [], ◌∷◌, ◌++◌, map, ℕ, ◌+◌, ◌*◌, ◌≤◌, length, take, drop}
use Rattle.limits.specs.Limits.{rule_nodes_most}
use Rattle.kinds.specs.declared.Binary.{Binary}
use Rattle.kinds.specs.declared.Kind.{Kind}
use Rattle.ltl.specs.Formula.{Formula, two}
use Rattle.nodes.specs.Begins.{Front}
use Rattle.peeling.specs.Peeled.{encodes, peel}
use Rattle.outlining.specs.Outlined.{top_kind}
use Rattle.text.specs.Printing.{printed}
use Rattle.showing.specs.Dues.{Due, due_code, Trailing, Coming}

-- xs stands behind the first `at` bytes, which stay; it ends at r
pub record Puts (xs text : List ℕ) (at : ℕ) (text' : List ℕ) (r : ℕ) : Type 0 where
  pub ends : r ≡ at + length xs
  pub holds : take r text' ≡ take at text ++ xs

-- ---- between two nodes
-- the first `at` bytes are put and bs is to come, the whole being `whole`; what waits stands from `top` on, with room for two more a node
pub record Penned (text dues : List ℕ) (at top : ℕ) (ds : List Due) (gs : List Formula) (bs whole : List ℕ) : Type 0 where
  pub puts : take at text ++ bs ≡ whole
  pub space : at + length bs ≤ length text
  pub stack : drop top dues ≡ map due_code ds
  pub within : top ≤ length dues
  pub room : 2 * length (encodes gs) ≤ top

-- a formula is to begin where the text takes level k, or all have ended
pub record Showing (text dues : List ℕ) (at top k : ℕ) (gs : List Formula) (whole : List ℕ) : Type 0 where
  pub waits : List Due
  pub bytes : List ℕ
  pub coming : Coming k waits gs bytes
  pub penned : Penned text dues at top waits gs bytes whole

-- a formula has ended
pub record Shown (text dues : List ℕ) (at top : ℕ) (gs : List Formula) (whole : List ℕ) : Type 0 where
  pub waits : List Due
  pub bytes : List ℕ
  pub behind : Trailing waits gs bytes
  pub penned : Penned text dues at top waits gs bytes whole

-- ---- where a formula has ended
pub record EndAsk (text dues : List ℕ) (at top : ℕ) : Type 0 where
  pub others : List Formula
  pub whole : List ℕ
  pub shown : Shown text dues at top others whole

abbrev pub EndsOn : List ℕ → List ℕ → ℕ → ℕ → List ℕ → ℕ → ℕ → ℕ → Type 0
EndsOn text dues at top text' at' top' k' =
    (gs : List Formula) (whole : List ℕ) → Shown text dues at top gs whole → Showing text' dues at' top' k' gs whole

-- ---- an infix node
pub record InfixAsk (o : Binary) (text dues : List ℕ) (at top k : ℕ) : Type 0 where
  pub left : Formula
  pub right : Formula
  pub others : List Formula
  pub whole : List ℕ
  pub showing : Showing text dues at top k (two o left right ∷ others) whole

abbrev pub InfixOn : Binary → List ℕ → List ℕ → ℕ → ℕ → ℕ → List ℕ → List ℕ → ℕ → ℕ → ℕ → Type 0
InfixOn o text dues at top k text' dues' at' top' k' =
    (f g : Formula) (gs : List Formula) (whole : List ℕ) → Showing text dues at top k (two o f g ∷ gs) whole → Showing text' dues' at' top' k' (f ∷ (g ∷ gs)) whole

-- ---- any node
pub record NodeShows (kind : Kind) (text dues : List ℕ) (at top k : ℕ) : Type 0 where
  pub formula : Formula
  pub others : List Formula
  pub whole : List ℕ
  pub kind-is : kind ≡ top_kind formula
  pub showing : Showing text dues at top k (formula ∷ others) whole

abbrev pub NodesOn : Kind → List ℕ → List ℕ → ℕ → ℕ → ℕ → List ℕ → List ℕ → ℕ → ℕ → ℕ → Type 0
NodesOn kind text dues at top k text' dues' at' top' k' =
    (f : Formula) (gs : List Formula) (whole : List ℕ) → kind ≡ top_kind f → Showing text dues at top k (f ∷ gs) whole
    → Showing text' dues' at' top' k' (peel (f ∷ gs)) whole

-- ---- a whole formula
-- the bytes are one formula, with room for its text and for what waits
pub record ShowWithin (s text dues : List ℕ) : Type 0 where
  pub formula : Formula
  pub front : Front s formula []
  pub space : length (printed formula) ≤ length text
  pub room : 2 * length s ≤ length dues

-- the bytes are one formula, no more than a rule's, with room for its text
pub record ShowAsk (s text : List ℕ) : Type 0 where
  pub formula : Formula
  pub front : Front s formula []
  pub space : length (printed formula) ≤ length text
  pub few : length s ≤ rule_nodes_most

-- the text of the formula that the bytes are stands in front, and ends at r
pub record ShownTo (f : Formula) (text' : List ℕ) (r : ℕ) : Type 0 where
  pub ends : r ≡ length (printed f)
  pub holds : take r text' ≡ printed f

abbrev pub Shows : List ℕ → List ℕ → ℕ → Type 0
Shows s text' r = (f : Formula) → Front s f [] → ShownTo f text' r
