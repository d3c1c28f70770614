use mathlib.Core.Path.{sym, ◌∙◌}
use lib.Dec.{eqb}
use native.Mathlib.Omega.{arith}
use borrow.Author.Tests.{ne_eqb}
use Rattle.state.specs.Fields.{stepped_in}
use Rattle.records.proofs.Each.{each-false}
use Rattle.done.proofs.all_stepped.Goals as goal

pub returns-then-mark_of-ne1 : goal.returns-then-mark_of-ne1
returns-then-mark_of-ne1 c =
    sym (each-false (λ k. eqb (stepped_in c.args.s.now k) 1) _ _ (let h = c.requires.header in let l = c.loop-k-test.true in omega arith) (ne_eqb _ 1 (λ e. c.if-mark_of-ne1.true (c.mark_of.ensures ∙ e))))
