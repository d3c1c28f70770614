-- Place holders among some bytes. Assumes nothing: these are definitions.
use Rattle.std.specs.Prelude.{ℕ, ◌+◌, ◌<◌, List, get_or}
use Rattle.kinds.specs.Kinds.{hold_code}

-- the place holders among some bytes are of slots below n
abbrev pub Holds : ℕ → List ℕ → Type 0
Holds n p = (i : ℕ) → get_or p i 0 < hold_code + n
