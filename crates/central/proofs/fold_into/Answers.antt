-- What was folded is progressed from where it stands. Assumes nothing.
use Rattle.central.proofs.Foldings.{given-fold, given_inside, given-folded, folded-given}
use native.Mathlib.Omega.{arith}
use Rattle.central.proofs.fold_into.Goals as goal

pub fold-w-requires : goal.fold-w-requires
fold-w-requires c = given-fold c.requires

pub slice_bounds-progress_folded-count : goal.slice_bounds-progress_folded-count
slice_bounds-progress_folded-count c = let i = given_inside c.requires c.fold-w.ensures in omega arith

pub slice_bounds-progress_folded-start : goal.slice_bounds-progress_folded-start
slice_bounds-progress_folded-start c = given_inside c.requires c.fold-w.ensures

pub progress_folded-requires : goal.progress_folded-requires
progress_folded-requires c = given-folded c.requires c.fold-w.ensures c.fold-w.auto.p

pub returns : goal.returns
returns c = folded-given c.fold-w.ensures c.progress_folded.ensures
