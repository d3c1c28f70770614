-- Bytes that are as many as their header says have one. Assumes nothing.
use Rattle.std.proofs.Common.{sym, ◌∙◌}
use Rattle.inspecting.proofs.Fits.{total-long}
use Rattle.vydrulka.proofs.recording.count_of.Goals as goal

pub count_in-requires : goal.count_in-requires
count_in-requires c = total-long _ (sym c.total_fits.ensures ∙ c.if-total_fits.true)
