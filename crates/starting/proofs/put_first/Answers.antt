-- The rule unfolded, tagged and laid out. Assumes nothing.
use mathlib.Core.Path.{sym}
use lib.Seq.{length-take-le}
use Rattle.starting.proofs.Firsts.{first-size, unfold-ask, tag-ask, state-ask, first-put}
use native.Mathlib.Omega.{arith}
use Rattle.starting.proofs.put_first.Goals as goal

pub unfold_into-n-requires : goal.unfold_into-n-requires
unfold_into-n-requires c = unfold-ask c.requires

pub slice_bounds-tag-end : goal.slice_bounds-tag-end
slice_bounds-tag-end c =
    let w = (c.unfold_into-n.ensures c.requires.rule c.requires.ruled.front).writes in let s = first-size c.requires in let k = c.unfold_into-n.auto.out in omega arith

pub slice_bounds-tag-end-2 : goal.slice_bounds-tag-end-2
slice_bounds-tag-end-2 c =
    let w = (c.unfold_into-n.ensures c.requires.rule c.requires.ruled.front).writes in let s = first-size c.requires in let k = c.unfold_into-n.auto.out in sym (length-take-le _ _ (omega arith))

pub tag-requires : goal.tag-requires
tag-requires c = let u = c.unfold_into-n in tag-ask c.requires u.result u.ensures

pub slice_bounds-put_state-end : goal.slice_bounds-put_state-end
slice_bounds-put_state-end c =
    let w = (c.unfold_into-n.ensures c.requires.rule c.requires.ruled.front).writes in let s = first-size c.requires in let k = c.unfold_into-n.auto.out in omega arith

pub slice_bounds-put_state-end-2 : goal.slice_bounds-put_state-end-2
slice_bounds-put_state-end-2 c =
    let w = (c.unfold_into-n.ensures c.requires.rule c.requires.ruled.front).writes in let s = first-size c.requires in let k = c.unfold_into-n.auto.out in sym (length-take-le _ _ (omega arith))

pub put_state-requires : goal.put_state-requires
put_state-requires c = let u = c.unfold_into-n in let m = c.tag in state-ask c.requires u.result u.ensures m.result m.ensures m.auto.tags

pub returns : goal.returns
returns c =
    let u = c.unfold_into-n in let m = c.tag in
    first-put c.requires u.result u.ensures m.result m.ensures m.auto.tags c.put_state.ensures
