-- Bytes of a formula with nothing to fold. Assumes nothing: these are definitions.
use Rattle.std.specs.Prelude.{Bool, true, List, [], ◌∷◌, ℕ, min, leb, eqb}
use Rattle.lists.specs.Tests.{both, either}
use Rattle.kinds.specs.declared.Leaf.TheVariants.{Const}
use Rattle.kinds.specs.declared.Binary.TheVariants.{Until}
use Rattle.kinds.specs.Kinds.{leaf_code, binary_code}

-- the byte b is no constant's, or it is true's and the byte before it until's
unfoldable pub bare_byte : ℕ → ℕ → Bool
bare_byte last b = either (leb 2 b) (both (eqb last (binary_code Until)) (eqb b (leaf_code (Const true))))

-- so is every byte; `last` stands before the first
abbrev pub bare_from : ℕ → List ℕ → Bool
bare_from last [] = true
bare_from last (b ∷ l) = both (bare_byte last b) (bare_from b l)

-- the lowest of `low` and the bytes
abbrev pub lowest_from : ℕ → List ℕ → ℕ
lowest_from low [] = low
lowest_from low (b ∷ l) = lowest_from (min low b) l
