use mathlib.Core.Path.{sym, ◌∙◌}
use Rattle.records.proofs.Each.{each-false}
use Rattle.records.proofs.Stretched.{in-stretch}
use Rattle.records.proofs.gaps_ok.Goals as goal

pub returns-then-not-gap_ok : goal.returns-then-not-gap_ok
returns-then-not-gap_ok c = sym (each-false _ _ _ c.loop-k-test.true (sym c.gap_ok.ensures ∙ c.if-not-gap_ok.true))

pub gap_ok-requires : goal.gap_ok-requires
gap_ok-requires c = let a = c.requires in let t = c.loop-k-test.true in let n = a.0.header.slots-are in (a.0, t, in-stretch _ (rw n at a.1) _ (rw n at t))
