-- The root's row is walked, and then the chains are raised by the sets that it left. Assumes nothing.
use Rattle.numbering.proofs.Surveys.{survey-rows, survey-done}
use native.Mathlib.Omega.{arith}
use Rattle.numbering.proofs.survey.Goals as goal

pub meet_row-m-requires : goal.meet_row-m-requires
meet_row-m-requires c = survey-rows _ c.requires (omega arith)

pub returns : goal.returns
returns c = survey-done c.meet_row-m.ensures c.raise_all.new.chain c.raise_all.ensures
