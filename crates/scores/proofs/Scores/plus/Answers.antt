use Rattle.std.proofs.Common.{◌≡◌, ◌∙◌, arith, rules}
use native.Mathlib.Numerals.{add-one}
use Rattle.limits.specs.Limits.{boards_most}
use Rattle.scores.proofs.Added.{added_none, added-at, added_more, added-all}
use Rattle.scores.proofs.Scores.plus.Goals as goal

pub loop-b-init : goal.loop-b-init
loop-b-init c = (search rules, search rules, added_none _ _)

pub overflow_add-sums : goal.overflow_add-sums
overflow_add-sums c =
    let k = c.loop-b.invariant in
    let l = c.requires c.loop-b.b in
    rw (k.2, added-at) (record { fits = omega arith })

pub loop-b-preserved : goal.loop-b-preserved
loop-b-preserved c =
    let k = c.loop-b.invariant in
    (k.0, k.1, rw (k.2, added-at, add-one) (added_more _ _ _ (omega arith) (omega arith)))

pub returns : goal.returns
returns c =
    let k = c.loop-b.invariant in
    let e : c.loop-b.b ≡ boards_most = omega arith in
    k.2 ∙ rw e (added-all boards_most _ _ k.0 k.1)
