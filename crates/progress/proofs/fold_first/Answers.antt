-- Where the bytes are a rule, it is folded, and copied to the front. Assumes nothing.
use Rattle.std.proofs.Common.{◌≡◌, ◌-◌, ◌≤◌, length, take, sym, ◌∙◌, arith}
use Rattle.progress.proofs.Firsts.{first-ask, first-inside, first-folds}
use Rattle.progress.proofs.fold_first.Goals as goal

pub fold-w-requires : goal.fold-w-requires
fold-w-requires c =
    let front : length (take (c.args.nodes - 0) c.args.held.now) ≤ 4096 = omega arith in
    first-ask (sym c.is_rule.ensures ∙ c.if-not-is_rule.false) front c.requires.1

pub slice_bounds-copy-count : goal.slice_bounds-copy-count
slice_bounds-copy-count c = first-inside (sym c.is_rule.ensures ∙ c.if-not-is_rule.false) c.fold-w.ensures

pub slice_bounds-copy-start : goal.slice_bounds-copy-start
slice_bounds-copy-start c = first-inside (sym c.is_rule.ensures ∙ c.if-not-is_rule.false) c.fold-w.ensures

pub overflow_sub-result : goal.overflow_sub-result
overflow_sub-result c = first-inside (sym c.is_rule.ensures ∙ c.if-not-is_rule.false) c.fold-w.ensures

pub returns : goal.returns
returns c l r =
    let whole : c.args.nodes - 0 ≡ c.args.nodes = omega arith in
    rw whole at (first-folds (sym c.is_rule.ensures ∙ c.if-not-is_rule.false) c.args.held.now c.fold-w.ensures c.copy.ensures)
