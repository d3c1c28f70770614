-- By the operator. Assumes nothing.
use Rattle.folding.proofs.Made.{makes-not, makes-same}
use Rattle.folding.proofs.results.of_constant.Goals as goal

pub returns-in-Not : goal.returns-in-Not
returns-in-Not c = makes-not c.in-Not.is

pub returns-in-Next : goal.returns-in-Next
returns-in-Next c = makes-same c.in-Next.is
