-- How far a watch goes. Assumes nothing: these are definitions.
use Rattle.std.specs.Prelude.{Bool, true, false}
use Rattle.answers.specs.declared.Verdict.{Verdict}
use Rattle.answers.specs.declared.Verdict.TheVariants.{False, True, Pending}

-- it goes on while the verdict is pending
abbrev pub goes_on : Verdict → Bool
goes_on False = false
goes_on True = false
goes_on Pending = true
