-- A verdict that is not pending. Assumes nothing: this is a definition.
use Rattle.std.specs.Prelude.{Bool, true, false}
use Rattle.answers.specs.declared.Verdict.{Verdict}
use Rattle.answers.specs.declared.Verdict.TheVariants.{False, True, Pending}

-- the verdict is true or false
abbrev pub known : Verdict → Bool
known False = true
known True = true
known Pending = false
