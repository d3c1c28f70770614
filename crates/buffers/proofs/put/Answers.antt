use Rattle.std.proofs.Common.{◌≡◌, ◌+◌, List, ℕ, arith}
use mathlib.Core.Path.{ap, ◌∙◌}
use lib.ListN.{get_or, set}
use Rattle.buffers.proofs.Turns.{pasted-more}
use Rattle.buffers.proofs.put.Goals as goal

pub loop-i-preserved : goal.loop-i-preserved
loop-i-preserved c =
    let a = c.args in
    let i = c.loop-i.i in
    ap (λ (x : List ℕ). set x (a.to + i) (get_or a.s.now (a.from + i) 0)) c.loop-i.invariant ∙ pasted-more a.p.now a.s.now a.to a.from i (omega arith) (omega arith)
