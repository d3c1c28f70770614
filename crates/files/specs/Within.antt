-- How many bytes a read has brought. Assumes nothing: this is a definition.
use Rattle.std.specs.Prelude.{Result, Ok, Err, ℕ, ◌≤◌}
use Rattle.files.specs.declared.FileError.{FileError}

-- no fewer bytes than there were, and no more than there is room for
abbrev pub Within : ℕ → ℕ → Result ℕ FileError → Type 0
Within had room (Ok n) = (had ≤ n) × (n ≤ room)
Within had room (Err _) = Unit {0}
