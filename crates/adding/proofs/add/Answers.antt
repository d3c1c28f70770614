-- Each way out is one law of Outcomes, with what the two looks have found. No loop. Assumes nothing.
use Rattle.adding.proofs.Outcomes.{total-wrong, night-wrong, too_many, disagree, add-asked, added-up}
use Rattle.adding.proofs.add.Goals as goal

pub returns-then-total-ne-REPORT_LENGTH : goal.returns-then-total-ne-REPORT_LENGTH
returns-then-total-ne-REPORT_LENGTH c = total-wrong _ _ c.if-total-ne-REPORT_LENGTH.true

pub returns-then-night-ne-REPORT_LENGTH : goal.returns-then-night-ne-REPORT_LENGTH
returns-then-night-ne-REPORT_LENGTH c = night-wrong _ _ c.if-total-ne-REPORT_LENGTH.false c.if-night-ne-REPORT_LENGTH.true

pub returns-then-a-b : goal.returns-then-a-b
returns-then-a-b c = too_many _ _ c.if-total-ne-REPORT_LENGTH.false c.if-night-ne-REPORT_LENGTH.false c.look_over-a.ensures c.look_over-b.ensures c.if-a-b.true

pub returns-then-not-agree : goal.returns-then-not-agree
returns-then-not-agree c = disagree _ _ c.if-total-ne-REPORT_LENGTH.false c.if-night-ne-REPORT_LENGTH.false c.look_over-a.ensures c.look_over-b.ensures c.if-a-b.false c.if-not-agree.true

pub add_rows-requires : goal.add_rows-requires
add_rows-requires c =
    add-asked _ _ c.if-total-ne-REPORT_LENGTH.false c.if-night-ne-REPORT_LENGTH.false c.look_over-a.ensures c.look_over-b.ensures c.if-a-b.false c.if-not-agree.false

pub returns : goal.returns
returns c =
    added-up _ _ c.if-total-ne-REPORT_LENGTH.false c.if-night-ne-REPORT_LENGTH.false c.look_over-a.ensures c.look_over-b.ensures c.if-a-b.false c.if-not-agree.false
    c.add_rows.ensures
