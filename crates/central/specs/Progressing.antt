-- What the functions below the call ask and give. Assumes nothing: these are definitions.
use Rattle.std.specs.Prelude.{◌≡◌, List, [], ℕ, ◌≤◌, length}
use Rattle.limits.specs.Limits.{nodes_room}
use Rattle.lists.specs.Runs.{padded}
use Rattle.ltl.specs.Formula.{Formula, size, encode}
use Rattle.ltl.specs.Meaning.{Event}
use Rattle.ltl.specs.Progression.{unfolded, progressed}
use Rattle.nodes.specs.Begins.{Front}
use Rattle.outlining.specs.Outlined.{Outlined}
use Rattle.resolving.specs.declared.Seen.{Seen}
use Rattle.resolving.specs.Settles.{settled}
use Rattle.rewriting.specs.Rewritten.{FrontedAs}

-- the bytes are one formula, which unfolds to as many nodes as p has, and these are no more than the most
pub record ProgressableWithin (most : ℕ) (p formula : List ℕ) : Type 0 where
  pub whole : Formula
  pub front : Front formula whole []
  pub long : size (unfolded whole) ≡ length p
  pub few : length p ≤ most

-- the same with room for the notes
pub record ProgressableIn (p formula notes : List ℕ) : Type 0 where
  pub of : ProgressableWithin nodes_room p formula
  pub beside : length p ≤ length notes

-- the same of the whole output, in which as many bytes are for the formula
pub record Progressable (output formula : List ℕ) (count : ℕ) : Type 0 where
  pub whole : Formula
  pub front : Front formula whole []
  pub long : count ≡ size (unfolded whole)
  pub room : count ≤ length output
  pub few : length output ≤ nodes_room

-- p is the unfolded formula, with its outline
pub record UnfoldsAll (formula p' notes' : List ℕ) : Type 0 where
  pub bytes : (f : Formula) → Front formula f [] → p' ≡ encode (unfolded f)
  pub outlined : Outlined p' notes' (length p')

-- what the unfolded formula becomes stands at the front
abbrev pub ProgressesIn : Seen → List ℕ → List ℕ → ℕ → Type 0
ProgressesIn seen formula p' n = (f : Formula) → Front formula f [] → FrontedAs (settled seen (unfolded f)) p' n

-- the progressed formula stands in the output, zero past it
pub record ProgressedTo (formula : List ℕ) (event : Event) (output output' : List ℕ) (n : ℕ) : Type 0 where
  pub bytes : (f : Formula) → Front formula f [] → output' ≡ padded (length output) (encode (progressed event f))
  pub count : (f : Formula) → Front formula f [] → n ≡ size (progressed event f)
