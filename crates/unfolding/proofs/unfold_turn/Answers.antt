-- The task at the top is known by its number, and what is ahead once it is done is a law for each. Assumes nothing.
use mathlib.Core.Path.{refl, ap}
use Prim.Native.Nat.{◌-◌, ◌*◌, ◌≤◌}
use native.Mathlib.Omega.{arith}
use lib.ListN.{length}
use Rattle.limits.specs.Limits.{nodes_room}
use Rattle.kinds.specs.declared.Join.TheVariants.{And}
use Rattle.kinds.specs.declared.Binary.TheVariants.{Joined}
use Rattle.kinds.proofs.Codes.{kind-binary}
use Rattle.outlining.specs.Outlined.{whole_kind}
use Rattle.unfolding.proofs.Moves.{copy-room, copy-after}
use Rattle.unfolding.proofs.Stacks.{push-some, push-room, plain_push}
use Rattle.unfolding.proofs.Tops.{top-here, top-ever, top_left, top-end, ever-copy, left-ahead, end-begins, end-inside, end_copy}
use Rattle.unfolding.proofs.unfold_turn.Goals as goal

pub unfold_node-requires : goal.unfold_node-requires
unfold_node-requires c =
    let p = c.requires in let t = top-here p.stage p.more c.from-x.ensures c.if-x-eq0.true in
    record { tasks = t.others; bytes = p.bytes; stage = t.stage }

pub returns-then-x-eq0 : goal.returns-then-x-eq0
returns-then-x-eq0 c =
    λ ts bs x. let t = top-here x c.requires.more c.from-x.ensures c.if-x-eq0.true in c.unfold_node.ensures t.others bs t.stage

pub put_next-v-requires : goal.put_next-v-requires
put_next-v-requires c = let t = top-ever c.requires.stage c.requires.more c.from-x.ensures c.if-x-eq0.false c.if-x.true in copy-room t.stage (ever-copy t.stage.todo)

pub returns-then-x : goal.returns-then-x
returns-then-x c =
    λ ts bs x. let t = top-ever x c.requires.more c.from-x.ensures c.if-x-eq0.false c.if-x.true in let q = c.put_next-v.ensures in
    copy-after t.stage (ever-copy t.stage.todo) q.0 q.1 q.2

pub put_join-requires : goal.put_join-requires
put_join-requires c =
    let t = top_left c.requires.stage c.requires.more c.from-x.ensures c.if-x.false c.if-x-2.true in
    push-room t.stage (left-ahead t.stage.todo) (omega arith)

pub overflow_sub-result : goal.overflow_sub-result
overflow_sub-result c = let t = top_left c.requires.stage c.requires.more c.from-x.ensures c.if-x.false c.if-x-2.true in push-some t.stage (left-ahead t.stage.todo)

pub returns-then-x-2 : goal.returns-then-x-2
returns-then-x-2 c =
    λ ts bs x. let t = top_left x c.requires.more c.from-x.ensures c.if-x.false c.if-x-2.true in let q = c.put_join.ensures in
    plain_push t.stage (ap whole_kind (kind-binary (Joined And))) q.0 q.1 (left-ahead t.stage.todo) refl

pub slice_bounds-operand_end-count : goal.slice_bounds-operand_end-count
slice_bounds-operand_end-count c = let t = top-end c.requires.stage c.requires.more c.from-x.ensures c.if-x-2.false in let i = end-inside t.stage.todo in omega arith

pub slice_bounds-operand_end-start : goal.slice_bounds-operand_end-start
slice_bounds-operand_end-start c =
    let t = top-end c.requires.stage c.requires.more c.from-x.ensures c.if-x-2.false in
    let i = end-inside t.stage.todo in
    let h : c.from-x.result - 3 * nodes_room ≤ length c.args.s.now = omega arith in h

pub operand_end-n-requires : goal.operand_end-n-requires
operand_end-n-requires c = let t = top-end c.requires.stage c.requires.more c.from-x.ensures c.if-x-2.false in end-begins t.stage.todo

pub put_next-v-requires-2 : goal.put_next-v-requires-2
put_next-v-requires-2 c = let t = top-end c.requires.stage c.requires.more c.from-x.ensures c.if-x-2.false in copy-room t.stage (end_copy t.stage.todo c.operand_end-n.ensures)

pub overflow_add-result-2 : goal.overflow_add-result-2
overflow_add-result-2 c =
    let t = top-end c.requires.stage c.requires.more c.from-x.ensures c.if-x-2.false in
    let m = (copy-room t.stage (end_copy t.stage.todo c.operand_end-n.ensures)).2 in let h = t.stage.few in omega arith

pub returns : goal.returns
returns c =
    λ ts bs x. let t = top-end x c.requires.more c.from-x.ensures c.if-x-2.false in let q = c.put_next-v-2.ensures in
    copy-after t.stage (end_copy t.stage.todo c.operand_end-n.ensures) q.0 q.1 q.2
