-- Where the parts of a formula are laid: its first operand (`inner`), the one behind that (`behind`), a slot of its own (`owned`), the
-- first slot (`first`). Assumes nothing: these are definitions.
use Prim.Native.Nat.{ℕ, ◌+◌, ◌-◌}
use Rattle.laying.specs.declared.Place.{Place}
use Rattle.laying.specs.declared.Lain.{Lain}

-- the operand of not, or the left one of two
abbrev pub inner : Place → Place
inner at = record { board = at.board; slot = at.slot; node = at.node; gap = at.gap - 1 }

-- the right one of two, the left one being laid
abbrev pub behind : Place → Lain → Place
behind at x = record { board = at.board; slot = at.slot + x.slots; node = at.node + x.nodes; gap = at.gap - (1 + x.here) + x.nodes }

-- a slot of n nodes: its nodes begin where the last ones end
abbrev pub owned : Place → ℕ → ℕ → Place
owned at board n = record { board = board; slot = at.slot + 1; node = at.node + n; gap = n }

-- the parts of the first slot
abbrev pub first : ℕ → ℕ → Place
first board n = record { board = board; slot = 1; node = n; gap = n }
