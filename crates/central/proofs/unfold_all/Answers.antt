-- Copied and outlined, or unfolded with its outline. Assumes nothing.
use mathlib.Core.Path.{refl}
use Rattle.central.proofs.Progresses.{copied-outlinable, copied_all, unfold-ask, unfolded-all}
use native.Mathlib.Omega.{arith}
use Rattle.central.proofs.unfold_all.Goals as goal

pub copy-requires : goal.copy-requires
copy-requires c = let e = c.if-p-formula.true in omega arith

pub outline-requires : goal.outline-requires
outline-requires c = copied-outlinable c.requires c.if-p-formula.true c.copy.ensures refl

pub returns-then-p-formula : goal.returns-then-p-formula
returns-then-p-formula c = copied_all c.requires c.if-p-formula.true c.copy.ensures c.outline.ensures

pub unfold_outlined-requires : goal.unfold_outlined-requires
unfold_outlined-requires c = unfold-ask c.requires

pub returns : goal.returns
returns c = let u = c.unfold_outlined.ensures in unfolded-all c.requires u.0 u.1
