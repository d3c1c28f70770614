-- The two tests of the rule, one after the other. Assumes nothing.
use Rattle.std.proofs.Common.{sym, ◌∙◌}
use borrow.Author.Tests.{eq-eqb, ne_eqb}
use Rattle.lists.specs.Tests.{both}
use Rattle.masks.specs.Masks.{masks_rule}
use Rattle.masks.proofs.follow_rule.Goals as goal

pub returns-then-sum_ones-p : goal.returns-then-sum_ones-p
unfolding masks_rule both
returns-then-sum_ones-p c = rw (c.union.ensures, c.low_bits.ensures, eq-eqb _ _ (sym c.sum_ones.ensures ∙ c.if-sum_ones-p.true))

pub returns-else-sum_ones-p : goal.returns-else-sum_ones-p
unfolding masks_rule both
returns-else-sum_ones-p c = rw (c.sum_ones.ensures, ne_eqb _ _ (λ e. c.if-sum_ones-p.false (c.sum_ones.ensures ∙ e)))
