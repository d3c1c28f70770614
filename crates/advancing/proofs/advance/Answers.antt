-- The masks and the owners are read from the state that was opened; what the new layout is found to be decides, and within the limits
-- it is put. Assumes nothing.
use Rattle.std.proofs.lemmas.Result.{err_from_is_err_and}
use mathlib.Core.Path.{◌≡◌, refl, sym, subst}
use Prim.Native.Nat.{◌≤◌}
use lib.ListN.{length, take}
use lib.Seq.{length-take-le}
use Rattle.limits.specs.Limits.{propositions_most}
use Rattle.state.specs.Fields.{masks_in}
use Rattle.state.proofs.Columns.{masks-front}
use Rattle.records.proofs.Opened.{opened-sized}
use Rattle.scores.proofs.Added.{zeros-few}
use Rattle.storing.proofs.Zeros.{zero-none}
use Rattle.counting.specs.OpenedWith.{OpenedWith}
use Rattle.advancing.specs.Advance.{NextFound}
use Rattle.advancing.proofs.Advancing.{known, advanced-refused, next-ask, advanced-done}
use native.Mathlib.Omega.{arith}
use Rattle.advancing.proofs.advance.Goals as goal

pub masks_of-requires : goal.masks_of-requires
masks_of-requires c = let o = opened-sized c.requires.opened in let f = o.few-boards in (o.long, f, omega arith)

pub slice_bounds-masks-end : goal.slice_bounds-masks-end
slice_bounds-masks-end c =
    let prefix : c.args.c.boards ≤ length c.masks_of.new.out = let f = (opened-sized c.requires.opened).few-boards in let l = c.masks_of.auto.out in omega arith in
    let l = prefix in omega arith

pub slice_bounds-owners-end : goal.slice_bounds-owners-end
slice_bounds-owners-end c =
    let prefix : c.args.c.boards ≤ length c.masks_of.new.out = let f = (opened-sized c.requires.opened).few-boards in let l = c.masks_of.auto.out in omega arith in
    let masks-long : length (take c.args.c.boards c.masks_of.new.out) ≡ c.args.c.boards = length-take-le _ _ (prefix) in
    sym (masks-long)

pub owners-requires : goal.owners-requires
owners-requires c =
    let prefix : c.args.c.boards ≤ length c.masks_of.new.out = let f = (opened-sized c.requires.opened).few-boards in let l = c.masks_of.auto.out in omega arith in
    let masks-long : length (take c.args.c.boards c.masks_of.new.out) ≡ c.args.c.boards = length-take-le _ _ (prefix) in
    let f = (opened-sized c.requires.opened).few-boards in let t = masks-long in
    (omega arith, record { long = refl; boards = λ i. (let z = zeros-few propositions_most i in omega arith) })

pub find_next-requires : goal.find_next-requires
find_next-requires c =
    let masks-are : take c.args.c.boards c.masks_of.new.out ≡ masks_in c.args.state.now = masks-front _ _ _ _ c.requires.opened.header.boards-are c.masks_of.ensures in
    let opened : OpenedWith c.args.state.now c.args.c c.owners.new.owner = known c.requires.opened (masks-are) c.owners.ensures in
    opened

pub put_next-requires : goal.put_next-requires
put_next-requires c =
    let masks-are : take c.args.c.boards c.masks_of.new.out ≡ masks_in c.args.state.now = masks-front _ _ _ _ c.requires.opened.header.boards-are c.masks_of.ensures in
    let opened : OpenedWith c.args.state.now c.args.c c.owners.new.owner = known c.requires.opened (masks-are) c.owners.ensures in
    next-ask c.requires c.in_ok-t.ensures (zero-none _) (masks-are) (opened) refl refl

pub returns-in_err-t : goal.returns-in_err-t
returns-in_err-t c =
    let p = err_from_is_err_and c.from_residual.result c.from_residual.ensures.1 in rw (p.1, p.2) (advanced-refused c.requires _ c.in_err-t.ensures)

pub returns : goal.returns
returns c =
    advanced-done c.requires c.in_ok-t.ensures c.put_next.ensures

pub slice_bounds-masks-end-2 : goal.slice_bounds-masks-end-2
slice_bounds-masks-end-2 c = let f = (opened-sized c.requires.opened).few-boards in let l = c.masks_of.auto.out in omega arith

pub slice_bounds-put_next-end : goal.slice_bounds-put_next-end
slice_bounds-put_next-end c =
    let prefix : c.args.c.boards ≤ length c.masks_of.new.out = let f = (opened-sized c.requires.opened).few-boards in let l = c.masks_of.auto.out in omega arith in
    sym (length-take-le _ _ prefix)
