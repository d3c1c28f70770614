-- What rewriting a formula in its own bytes asks and leaves. Assumes nothing: these are definitions.
use Rattle.std.specs.Prelude.{◌≡◌, List, [], ◌++◌, ℕ, ◌≤◌, length, drop}
use Rattle.limits.specs.Limits.{nodes_room}
use Rattle.lists.specs.Runs.{padded}
use Rattle.ltl.specs.Formula.{Formula, size, encode}
use Rattle.nodes.specs.Begins.{Front}
use Rattle.resolving.specs.declared.Seen.{Seen}
use Rattle.resolving.specs.Settles.{settled}

-- the bytes are one formula, of as many nodes at most
pub record Rewritable (most : ℕ) (p : List ℕ) : Type 0 where
  pub formula : Formula
  pub front : Front p formula []
  pub few : length p ≤ most

-- the same with room for the notes
pub record RewritableIn (p notes : List ℕ) : Type 0 where
  pub of : Rewritable nodes_room p
  pub room : length p ≤ length notes

-- what the formula becomes stands at the front, of n bytes
pub record FrontedAs (g : Formula) (p' : List ℕ) (n : ℕ) : Type 0 where
  pub count : n ≡ size g
  pub bytes : p' ≡ encode g ++ drop n p'

abbrev pub Fronted : Seen → List ℕ → List ℕ → ℕ → Type 0
Fronted seen p p' n = (f : Formula) → Front p f [] → FrontedAs (settled seen f) p' n

-- a formula's bytes rewritten as what it becomes, zero past the result
pub record Rewritten (seen : Seen) (p p' : List ℕ) (n : ℕ) : Type 0 where
  pub bytes : (f : Formula) → Front p f [] → p' ≡ padded (length p) (encode (settled seen f))
  pub count : (f : Formula) → Front p f [] → n ≡ size (settled seen f)
