use Rattle.lists.proofs.Parts.{handed-length}
use Rattle.std.proofs.Common.{◌<◌, length, arith}
use Rattle.setting.proofs.Writing.{writing_start, writing-room, writing-few, writing_more, writing-done, asked-room, asked-token}
use Rattle.setting.proofs.put_nodes.Goals as goal

pub loop-t-init : goal.loop-t-init
loop-t-init c = writing_start _ _ _ _ _

pub put_token-w-requires : goal.put_token-w-requires
put_token-w-requires c =
    let l : c.loop-t.t-index < length c.args.tokens.now = omega arith in
    (asked-token c.requires _ l, writing-room c.loop-t.invariant l (asked-room c.requires))

pub overflow_add-w : goal.overflow_add-w
overflow_add-w c = let h = writing-few c.loop-t.invariant c.put_token-w.new.out _ (omega arith) c.put_token-w.ensures (asked-room c.requires) in omega arith

pub loop-t-preserved : goal.loop-t-preserved
loop-t-preserved c = writing_more c.loop-t.invariant c.put_token-w.new.out _ (omega arith) c.put_token-w.ensures (asked-room c.requires) (handed-length c.loop-t.w c.loop-t.out c.put_token-w.new.out c.loop-t.invariant.inside c.put_token-w.auto.out)

pub returns : goal.returns
returns c = writing-done c.loop-t.invariant (omega arith)
