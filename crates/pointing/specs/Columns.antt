-- Bytes as people see them, each in one column. Assumes nothing: these are definitions.
use Rattle.std.specs.Prelude.{ℕ, ltb, eqb}
use Rattle.lists.specs.Tests.{pick}

-- a byte as it is shown: a tab is a tab, a carriage return a blank, and any other byte that does not print a question mark
unfoldable pub shown_byte : ℕ → ℕ
shown_byte c = pick (eqb c 9) c (pick (eqb c 13) 32 (pick (ltb c 32) 63 (pick (ltb 126 c) 63 c)))

-- what stands below it in a line with a mark: a tab below a tab, else a blank
unfoldable pub under_byte : ℕ → ℕ
under_byte c = pick (eqb c 9) c 32
