use mathlib.Core.Path.{sym, ap, ◌∙◌}
use Rattle.text.specs.Signs.{sign_of}
use Rattle.cursor.proofs.Moving.{gap_more}
use Rattle.cursor.proofs.gap.Goals as goal

pub loop-b-preserved : goal.loop-b-preserved
loop-b-preserved c =
    let l = c.in-Some.ensures.lookup.3 in
    gap_more c.loop-b.invariant (record { stands = c.loop-b.invariant.stands; there = l.0; is = sym c.in-Blank.is ∙ c.from.ensures ∙ ap sign_of (l.1 0) }) c.past-cur.ensures
