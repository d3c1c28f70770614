-- Each operator is a law of `Walks`; no sum is large, since the operands are not. Assumes nothing.
use mathlib.Core.Path.{refl}
use Rattle.scores.proofs.Added.{sums-few}
use Rattle.cutting.proofs.Nodes.{joins-few}
use Rattle.cutting.proofs.Walks.{walked-joined, walked-until, raws-few, both-joinable, until-few}
use native.Mathlib.Omega.{arith}
use Rattle.cutting.proofs.over_two.Goals as goal

pub plus-raw-requires : goal.plus-raw-requires
plus-raw-requires c = raws-few c.requires

pub joined-requires : goal.joined-requires
joined-requires c = both-joinable c.requires

pub under_next-requires : goal.under_next-requires
under_next-requires c = rw c.plus-raw.ensures (sums-few _ _ (raws-few c.requires))

pub joined-requires-in-Until : goal.joined-requires-in-Until
joined-requires-in-Until c =
    let x = until-few c.requires (rw c.plus-raw.ensures at c.under_next.ensures) in
    record { scores = λ i. (let y = x i in omega arith); cuts = let y = x 0 in omega arith }

pub joined-requires-in-Until-2 : goal.joined-requires-in-Until-2
joined-requires-in-Until-2 c =
    let x = until-few c.requires (rw c.plus-raw.ensures at c.under_next.ensures) in
    let j = joins-few c.joined-in-Until.ensures (λ i. let y = x i in (omega arith, omega arith)) in
    record { scores = λ i. (let y = x i in let k = j i in omega arith); cuts = let y = x 0 in let k = j 0 in omega arith }

pub returns-in-Joined : goal.returns-in-Joined
returns-in-Joined c owner f g w v = walked-joined w v refl c.plus-raw.ensures c.in-Joined.is c.joined.ensures

pub returns-in-Until : goal.returns-in-Until
returns-in-Until c owner f g w v =
    walked-until w v refl c.plus-raw.ensures c.in-Until.is c.under_next.ensures c.joined-in-Until.ensures c.joined-in-Until-2.ensures
