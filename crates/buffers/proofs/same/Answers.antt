use Rattle.std.proofs.Common.{◌-◌, arith, add-zero}
use Rattle.buffers.proofs.Comparisons.{compared-apart, compared-between}
use Rattle.buffers.proofs.same.Goals.{then-p-a-via-then-p-a, then-p-a-via-else-p-a+then-p-a-2}
use Rattle.buffers.proofs.same.Goals as goal

pub returns-then-p-a : goal.returns-then-p-a
returns-then-p-a c =
    elim c.then-p-a.branch [
      | then-p-a-via-then-p-a w ↦ compared-apart _ _ _ _ 0 (omega arith) (simp add-zero w.if-p-a.true)
      | then-p-a-via-else-p-a+then-p-a-2 w ↦ compared-apart _ _ _ _ (c.args.n - 1) (omega arith) w.if-p-a-2.true
    ]

pub returns-else-n-le2 : goal.returns-else-n-le2
returns-else-n-le2 c = let a = c.args in compared-between a.p.now a.a a.b a.n (a.n - 2) _ (omega arith) c.requires.1 c.requires.2 c.if-p-a.false c.if-p-a-2.false c.eq.ensures
