-- A gap and then a sign, in either mode of the machine. Assumes nothing: these are definitions.
use Rattle.std.specs.Prelude.{List, ℕ}
use Rattle.cursor.specs.declared.TextCursor.{TextCursor}
use Rattle.cursor.specs.declared.TextStep.{TextStep}
use Rattle.cursor.specs.Readers.{GapRead, OperandRead, OperatorRead}

-- an operand is wanted: a gap was passed, and the sign behind it read
pub record OperandFollows (t : List ℕ) (c : TextCursor) (r : TextStep) : Type 0 where
  pub mid : TextCursor
  pub gap : GapRead t c mid
  pub sign : OperandRead t mid r

-- an operand has ended, and d brackets are open
pub record OperatorFollows (t : List ℕ) (c : TextCursor) (d : ℕ) (r : TextStep) : Type 0 where
  pub mid : TextCursor
  pub gap : GapRead t c mid
  pub sign : OperatorRead t mid d r
