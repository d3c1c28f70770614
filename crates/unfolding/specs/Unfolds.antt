-- What unfolding a formula's bytes asks and gives. Assumes nothing: these are definitions.
use Rattle.std.specs.Prelude.{◌≡◌, ℕ, ◌≤◌, List, [], ◌++◌, length, drop}
use Rattle.limits.specs.Limits.{nodes_room}
use Rattle.ltl.specs.Formula.{Formula, size, encode}
use Rattle.ltl.specs.Progression.{unfolded}
use Rattle.nodes.specs.Begins.{Front}

-- the bytes are one formula, whose places can be noted, with room for what it unfolds to and for a note beside each byte of that
pub record Unfoldable (out s notes : List ℕ) : Type 0 where
  pub formula : Formula
  pub front : Front s formula []
  pub few : length s ≤ nodes_room
  pub room : size (unfolded formula) ≤ length out
  pub beside : size (unfolded formula) ≤ length notes

-- the bytes are one formula, with room for what it unfolds to, which is no more than the most
pub record UnfoldWithin (most : ℕ) (out s : List ℕ) : Type 0 where
  pub formula : Formula
  pub front : Front s formula []
  pub few : size (unfolded formula) ≤ most
  pub room : size (unfolded formula) ≤ length out

-- no more than a network may have
abbrev pub UnfoldAsk : List ℕ → List ℕ → Type 0
UnfoldAsk out s = UnfoldWithin nodes_room out s

-- the formula stands unfolded at the front of the output, behind which nothing changed
pub record UnfoldedTo (f : Formula) (out out' : List ℕ) (written : ℕ) : Type 0 where
  pub writes : written ≡ size (unfolded f)
  pub leaves : out' ≡ encode (unfolded f) ++ drop (size (unfolded f)) out

-- the same of whatever formula the bytes are
abbrev pub Unfolds : List ℕ → List ℕ → List ℕ → ℕ → Type 0
Unfolds out s out' written = (f : Formula) → Front s f [] → UnfoldedTo f out out' written
