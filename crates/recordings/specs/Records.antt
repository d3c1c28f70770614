-- What a record is, and how it stands to the one before it. Assumes nothing: these are definitions.
use Rattle.std.specs.Prelude.{ℕ, ◌+◌, ◌-◌, ◌%◌, ◌^◌, Bool, not, eqb}
use Rattle.recordings.specs.declared.Mark.{Mark}
use Rattle.recordings.specs.declared.Mark.TheVariants.{Kept, Dropped, Broken}
use Rattle.lists.specs.Tests.{pick, both, either}

-- what the recorder writes in a tick
pub record Record : Type 0 where
  pub counter : ℕ
  pub event : ℕ

-- ---- two records, one behind the other
-- the step from a counter to the next one; a counter goes from its top to 0
unfoldable pub step_from : ℕ → ℕ → ℕ
step_from a b = (b + (2 ^ 32 - a)) % 2 ^ 32

-- counter and event both equal those of the one before
unfoldable pub doubles : Record → Record → Bool
doubles b r = both (eqb r.counter b.counter) (eqb r.event b.event)

-- the counter equals that of the one before, and the event does not
unfoldable pub clashes : Record → Record → Bool
clashes b r = both (eqb r.counter b.counter) (not (eqb r.event b.event))

-- the step is 0 or 1
unfoldable pub follows : Record → Record → Bool
follows b r = either (eqb (step_from b.counter r.counter) 0) (eqb (step_from b.counter r.counter) 1)

-- ---- the mark of a record
abbrev pub kept : ℕ
kept = 0

abbrev pub dropped : ℕ
dropped = 1

-- kept after a break
abbrev pub broken : ℕ
broken = 2

-- the byte of a mark
abbrev pub mark_byte : Mark → ℕ
mark_byte Kept = kept
mark_byte Dropped = dropped
mark_byte Broken = broken

-- by the record before it
unfoldable pub mark_of : Record → Record → ℕ
mark_of b r = pick (doubles b r) dropped (pick (follows b r) kept broken)
