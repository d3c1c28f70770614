-- By the letter that stands here, where one does. Assumes nothing.
use mathlib.Core.List.{List}
use mathlib.Core.Path.{sym, ap, ◌∙◌}
use Prim.Native.Nat.{ℕ}
use native.Mathlib.Omega.{arith}
use lib.ListN.{length, get_or}
use Rattle.cursor.proofs.Words.{letters-more, letters-other, letters-end}
use Rattle.cursor.proofs.letters.Goals as goal
use Rattle.cursor.proofs.letters.Goals.{then-cur-text-via-then-cur-text, then-cur-text-via-else-cur-text+then-text-cur}

pub returns-then-cur-text : goal.returns-then-cur-text
returns-then-cur-text c =
    let l = c.loop-b in
    let e = c.letters_of-b-items.ensures in
    let n = ap length e in
    elim c.then-cur-text.branch [
      | then-cur-text-via-then-cur-text w ↦ letters-end l.invariant (omega arith) w.if-cur-text.true c.wrong.ensures
      | then-cur-text-via-else-cur-text+then-text-cur w ↦
          letters-other l.invariant (omega arith) w.if-cur-text.false (λ q. w.if-text-cur.true (q ∙ sym (ap (λ (s : List ℕ). get_or s l.b-index 0) e))) c.wrong.ensures
    ]

pub loop-b-preserved : goal.loop-b-preserved
loop-b-preserved c =
    let l = c.loop-b in
    let e = c.letters_of-b-items.ensures in
    let n = ap length e in
    letters-more l.invariant (omega arith) c.past-cur.ensures c.if-cur-text.false (c.if-text-cur.false ∙ ap (λ (s : List ℕ). get_or s l.b-index 0) e)
