-- A slot whose bytes can be looked at, in a state that may fail its check. Assumes nothing: this is a definition.
use Rattle.std.specs.Prelude.{◌≡◌, List, ℕ}
use Rattle.ltl.specs.Formula.{encode, Coded}
use Rattle.state.specs.declared.Counts.{Counts}
use Rattle.state.specs.Fields.{slot_bytes}
use Rattle.state.specs.Bytes.{formula_at}
use Rattle.state.specs.Opened.{SlotThere}

-- slot k is there, and its bytes are those of a formula
pub record SlotReads (s : List ℕ) (c : Counts) (k : ℕ) : Type 0 where
  pub there : SlotThere s c k
  pub bytes : slot_bytes s k ≡ encode (formula_at s k)
  pub coded : Coded (formula_at s k)
