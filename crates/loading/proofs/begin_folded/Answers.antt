-- The folded rule is a rule, and begins a watch. Assumes nothing.
use mathlib.Core.Path.{◌∙◌}
use Rattle.loading.proofs.Foldings.{rule-fold, folded-inside, folded-begins, folded-begun}
use native.Mathlib.Omega.{arith}
use Rattle.loading.proofs.begin_folded.Goals as goal

pub fold-w-requires : goal.fold-w-requires
fold-w-requires c = rule-fold c.requires

pub slice_bounds-begin-count : goal.slice_bounds-begin-count
slice_bounds-begin-count c = let i = folded-inside c.fold-w.ensures c.requires.ask in omega arith

pub slice_bounds-begin-start : goal.slice_bounds-begin-start
slice_bounds-begin-start c = folded-inside c.fold-w.ensures c.requires.ask

pub begin-requires : goal.begin-requires
begin-requires c = folded-begins c.fold-w.ensures c.requires.ask (c.fold-w.auto.p ∙ c.requires.long)

pub returns : goal.returns
returns c = folded-begun c.fold-w.ensures (c.fold-w.auto.p ∙ c.requires.long) c.begin.ensures
