-- The byte tells whether the line ends with it. Assumes nothing.
use native.Mathlib.Omega.{arith}
use Rattle.cursor.proofs.Lines.{stands-few, stands-line, stands_same}
use Rattle.cursor.proofs.past.Goals as goal
use Rattle.cursor.proofs.past.Goals.{then-feed, else-feed}

pub overflow_add-line : goal.overflow_add-line
overflow_add-line c = let l = stands-few c.requires.stands in omega arith

pub returns : goal.returns
returns c =
    elim c.if-feed.branch [
      | then-feed w ↦ stands-line c.requires.stands c.requires.before_end w.if-feed.true w.line-is
      | else-feed w ↦ stands_same c.requires.stands c.requires.before_end w.if-feed.false w.line-is
    ]
