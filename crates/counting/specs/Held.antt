-- What the place holders among some bytes add, each slot having an entry. Assumes nothing: these are definitions.
use Rattle.std.specs.Prelude.{ℕ, ◌+◌, ◌-◌, List, [], ◌∷◌, get_or, ltb}
use Rattle.kinds.specs.Kinds.{hold_code}
use Rattle.lists.specs.Tests.{pick}

-- what a byte adds: a place holder its slot's entry, any other node nothing
unfoldable pub held_at : (ℕ → ℕ) → ℕ → ℕ
held_at entry b = pick (ltb b hold_code) 0 (entry (b - hold_code))

-- what some bytes add together
abbrev pub held_over : (ℕ → ℕ) → List ℕ → ℕ
held_over entry [] = 0
held_over entry (b ∷ p) = held_at entry b + held_over entry p

-- the entries of a table
abbrev pub entry_in : List ℕ → ℕ → ℕ
entry_in table m = get_or table m 0
