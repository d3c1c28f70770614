-- The network is laid with its records in `rows`; these are copied to the front, and zeros are put behind the nodes. Both lists
-- keep their lengths throughout. Assumes nothing.
use mathlib.Core.Path.{sym}
use Prim.Native.Nat.{◌≤◌}
use lib.ListN.{length}
use lib.Seq.{length-take-le}
use Rattle.lists.proofs.Parts.{handed-length}
use Rattle.storing.proofs.Asked.{root-ask-at, network-stored-at}
use native.Mathlib.Omega.{arith}
use Rattle.storing.proofs.put_network.Goals as goal

pub lay_root-requires : goal.lay_root-requires
lay_root-requires c = root-ask-at c.requires c.rows-n.ensures

pub slice_bounds-copy-end-2 : goal.slice_bounds-copy-end-2
slice_bounds-copy-end-2 c =
    let records-fit : c.rows-n.result ≤ length c.lay_root.new.r = let r = c.rows-n.ensures in let m = c.requires.rows-room in let k = c.lay_root.auto.r in omega arith in
    sym (length-take-le _ _ (records-fit))

pub copy-requires : goal.copy-requires
copy-requires c =
    let records-fit : c.rows-n.result ≤ length c.lay_root.new.r = let r = c.rows-n.ensures in let m = c.requires.rows-room in let k = c.lay_root.auto.r in omega arith in
    let r = c.rows-n.ensures in let o = c.requires.room in
    let h = handed-length c.rows-n.result c.args.out.now c.lay_root.new.p (omega arith) c.lay_root.auto.p in
    let t = length-take-le c.rows-n.result c.lay_root.new.r (records-fit) in
    omega arith

pub returns : goal.returns
returns c = network-stored-at c.requires c.rows-n.ensures c.lay_root.ensures c.copy.ensures c.clear.ensures
