-- The masks and the owners are read from the state that was opened, the events are run, and what stands in the second buffer is cleared.
-- Assumes nothing.
use mathlib.Core.Path.{◌≡◌, refl, sym}
use Prim.Native.Nat.{◌≤◌}
use lib.ListN.{length, take}
use lib.Seq.{length-take-le}
use Rattle.limits.specs.Limits.{propositions_most}
use Rattle.state.specs.Fields.{masks_in}
use Rattle.state.proofs.Columns.{masks-front}
use Rattle.records.proofs.Opened.{opened-sized}
use Rattle.scores.proofs.Added.{zeros-few}
use Rattle.counting.specs.OpenedWith.{OpenedWith}
use Rattle.advancing.proofs.Advancing.{known}
use Rattle.capturing.proofs.Outcomes.{ran-all}
use native.Mathlib.Omega.{arith}
use Rattle.capturing.proofs.capture_going.Goals as goal

pub masks_of-requires : goal.masks_of-requires
masks_of-requires c = let o = opened-sized c.requires.going.opened in let f = o.few-boards in (o.long, f, omega arith)

pub slice_bounds-masks-end : goal.slice_bounds-masks-end
slice_bounds-masks-end c =
    let prefix : c.args.c.boards ≤ length c.masks_of.new.out = let f = (opened-sized c.requires.going.opened).few-boards in let l = c.masks_of.auto.out in omega arith in
    let l = prefix in omega arith

pub slice_bounds-owners-end : goal.slice_bounds-owners-end
slice_bounds-owners-end c =
    let prefix : c.args.c.boards ≤ length c.masks_of.new.out = let f = (opened-sized c.requires.going.opened).few-boards in let l = c.masks_of.auto.out in omega arith in
    let masks-long : length (take c.args.c.boards c.masks_of.new.out) ≡ c.args.c.boards = length-take-le _ _ (prefix) in
    sym (masks-long)

pub owners-requires : goal.owners-requires
owners-requires c =
    let prefix : c.args.c.boards ≤ length c.masks_of.new.out = let f = (opened-sized c.requires.going.opened).few-boards in let l = c.masks_of.auto.out in omega arith in
    let masks-long : length (take c.args.c.boards c.masks_of.new.out) ≡ c.args.c.boards = length-take-le _ _ (prefix) in
    let f = (opened-sized c.requires.going.opened).few-boards in let t = masks-long in
    (omega arith, record { long = refl; boards = λ i. (let z = zeros-few propositions_most i in omega arith) })

pub slice_bounds-masks-end-2 : goal.slice_bounds-masks-end-2
slice_bounds-masks-end-2 c =
    let prefix : c.args.c.boards ≤ length c.masks_of.new.out = let f = (opened-sized c.requires.going.opened).few-boards in let l = c.masks_of.auto.out in omega arith in
    let l = prefix in omega arith

pub slice_bounds-run-end : goal.slice_bounds-run-end
slice_bounds-run-end c =
    let prefix : c.args.c.boards ≤ length c.masks_of.new.out = let f = (opened-sized c.requires.going.opened).few-boards in let l = c.masks_of.auto.out in omega arith in
    let masks-long : length (take c.args.c.boards c.masks_of.new.out) ≡ c.args.c.boards = length-take-le _ _ (prefix) in
    sym (masks-long)

pub run-used-requires : goal.run-used-requires
run-used-requires c =
    let masks-are : take c.args.c.boards c.masks_of.new.out ≡ masks_in c.args.state.now = masks-front _ _ _ _ c.requires.going.opened.header.boards-are c.masks_of.ensures in
    let opened : OpenedWith c.args.state.now c.args.c c.owners.new.owner = known c.requires.going.opened (masks-are) c.owners.ensures in
    let o = opened in
    record { ask = c.requires; lent = record { masks-are = masks-are; table = o.table; owned = o.owned; u-long = refl; tags-long = refl } }

pub slice_bounds-clear-end : goal.slice_bounds-clear-end
slice_bounds-clear-end c = c.run-used.ensures.zeros.inside

pub slice_bounds-clear-end-2 : goal.slice_bounds-clear-end-2
slice_bounds-clear-end-2 c = sym (length-take-le _ _ c.run-used.ensures.zeros.inside)

pub returns : goal.returns
returns c = ran-all c.run-used.ensures c.run-used.auto.second _ c.clear.ensures refl
