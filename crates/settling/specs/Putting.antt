-- What the writer below the call leaves. Assumes nothing: these are definitions.
use Rattle.std.specs.Prelude.{List, ℕ}
use Rattle.lists.specs.Runs.{padded}
use Rattle.ltl.specs.Formula.{Formula, size, encode}
use Rattle.state.specs.Fields.{length_in}
use Rattle.state.specs.Writes.{slot_stepped}

-- slot k marked, its length that of g, and g with zeros behind it in place of its nodes
abbrev pub stepped_as : Formula → List ℕ → ℕ → List ℕ
stepped_as g s k = slot_stepped s k (size g) (padded (length_in s k) (encode g))
