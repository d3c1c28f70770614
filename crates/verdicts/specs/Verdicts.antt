-- The verdict of a formula by its bytes. Assumes nothing: these are definitions.
use Rattle.std.specs.Prelude.{ℕ, eqb}
use Rattle.lists.specs.Tests.{pick}
use Rattle.answers.specs.declared.Verdict.{Verdict}
use Rattle.answers.specs.declared.Verdict.TheVariants.{False, True, Pending}

-- the verdict of a formula by its first byte
unfoldable pub verdict_byte : ℕ → Verdict
verdict_byte b = pick (eqb b 0) False (pick (eqb b 1) True Pending)
