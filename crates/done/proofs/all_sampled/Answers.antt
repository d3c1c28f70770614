use mathlib.Core.Path.{sym, ◌∙◌}
use lib.Dec.{eqb}
use native.Mathlib.Omega.{arith}
use borrow.Author.Tests.{ne_eqb}
use Rattle.state.specs.Fields.{sampled_in}
use Rattle.records.proofs.Each.{each-false}
use Rattle.done.proofs.all_sampled.Goals as goal

pub returns-then-sampled_of-ne1 : goal.returns-then-sampled_of-ne1
returns-then-sampled_of-ne1 c =
    sym (each-false (λ k. eqb (sampled_in c.args.s.now k) 1) _ _ (let h = c.requires.header in let l = c.loop-i-test.true in omega arith) (ne_eqb _ 1 (λ e. c.if-sampled_of-ne1.true (c.sampled_of.ensures ∙ e))))
