-- The node is written by its kind; what is ahead then is a law for each kind. Assumes nothing.
use mathlib.Core.Path.{refl, sym, ap, ◌∙◌}
use Prim.Native.Nat.{ℕ, ◌+◌, ◌^◌, ◌<◌, ◌≤◌}
use native.Mathlib.Omega.{arith}
use lib.ListN.{length, set}
use lib.Dec.{lit<}
use Rattle.limits.specs.Limits.{nodes_room}
use Rattle.kinds.specs.declared.Join.TheVariants.{Or}
use Rattle.kinds.specs.declared.Binary.TheVariants.{Joined}
use Rattle.kinds.specs.declared.Kind.TheVariants.{One, Two}
use Rattle.kinds.proofs.Codes.{kind-binary}
use Rattle.outlining.specs.Outlined.{whole_kind}
use Rattle.unfolding.proofs.Moves.{copy-room, copy-after}
use Rattle.unfolding.proofs.Stacks.{plain-room, push-some, push-room, plain-pop, plain-keep, plain_push}
use Rattle.unfolding.proofs.Nodes.{node-room, ends-within, leaf-ahead, not-ahead, next-begins, next-copy, ever-ahead, joined-ahead, until-begins, until-ahead, none_ahead}
use Rattle.unfolding.proofs.unfold_node.Goals as goal

within-sum : {n l : ℕ} → l ≤ nodes_room → n ≤ l → n < 2 ^ 64
within-sum h k = omega arith

pub bounds-s-r : goal.bounds-s-r
bounds-s-r c = (node-room c.requires.stage).reads

pub put_plain-requires : goal.put_plain-requires
put_plain-requires c = let x = c.requires.stage in plain-room x (leaf-ahead x.todo c.from-kind.ensures c.in-Zero.is)

pub overflow_add-result : goal.overflow_add-result
overflow_add-result c = let m = node-room c.requires.stage in omega arith

pub put_plain-requires-in-Not : goal.put_plain-requires-in-Not
put_plain-requires-in-Not c = let x = c.requires.stage in plain-room x (not-ahead x.todo c.from-kind.ensures (c.in-One.is ∙ ap One c.in-Not.is))

pub overflow_add-result-in-Not : goal.overflow_add-result-in-Not
overflow_add-result-in-Not c = let m = node-room c.requires.stage in omega arith

pub overflow_add-r : goal.overflow_add-r
overflow_add-r c = let m = node-room c.requires.stage in omega arith

pub slice_bounds-operand_end-count : goal.slice_bounds-operand_end-count
slice_bounds-operand_end-count c = let m = node-room c.requires.stage in omega arith

pub slice_bounds-operand_end-start : goal.slice_bounds-operand_end-start
slice_bounds-operand_end-start c = let m = node-room c.requires.stage in let i : c.args.r + 1 ≤ length c.args.s.now = omega arith in i

pub operand_end-n-requires : goal.operand_end-n-requires
operand_end-n-requires c = next-begins c.requires.stage.todo c.from-kind.ensures (c.in-One.is ∙ ap One c.in-Next.is)

pub overflow_add-r-in-Next : goal.overflow_add-r-in-Next
overflow_add-r-in-Next c = let m = node-room c.requires.stage in omega arith

pub put_next-v-requires : goal.put_next-v-requires
put_next-v-requires c = let x = c.requires.stage in copy-room x (next-copy x.todo c.from-kind.ensures (c.in-One.is ∙ ap One c.in-Next.is) c.operand_end-n.ensures)

pub overflow_add-result-in-Next : goal.overflow_add-result-in-Next
overflow_add-result-in-Next c = let m = node-room c.requires.stage in omega arith

pub overflow_add-result-in-Next-2 : goal.overflow_add-result-in-Next-2
overflow_add-result-in-Next-2 c =
    let x = c.requires.stage in
    record { fits = within-sum x.few (copy-room x (next-copy x.todo c.from-kind.ensures (c.in-One.is ∙ ap One c.in-Next.is) c.operand_end-n.ensures)).2 }

pub overflow_add-r-in-Ever : goal.overflow_add-r-in-Ever
overflow_add-r-in-Ever c = let m = node-room c.requires.stage in omega arith

pub put_join-requires : goal.put_join-requires
put_join-requires c = let x = c.requires.stage in let m = node-room x in push-room x (ever-ahead x.todo c.from-kind.ensures (c.in-One.is ∙ ap One c.in-Ever.is)) (omega arith)

pub overflow_add-result-in-Ever : goal.overflow_add-result-in-Ever
overflow_add-result-in-Ever c = let m = node-room c.requires.stage in omega arith

pub overflow_sub-result : goal.overflow_sub-result
overflow_sub-result c = let x = c.requires.stage in push-some x (ever-ahead x.todo c.from-kind.ensures (c.in-One.is ∙ ap One c.in-Ever.is))

pub put_join-requires-in-Joined : goal.put_join-requires-in-Joined
put_join-requires-in-Joined c = let x = c.requires.stage in push-room x (joined-ahead x.todo c.from-kind.ensures (c.in-Two.is ∙ ap Two c.in-Joined.is)) (lit< tt)

pub overflow_add-result-in-Joined : goal.overflow_add-result-in-Joined
overflow_add-result-in-Joined c = let m = node-room c.requires.stage in omega arith

pub overflow_sub-result-in-Joined : goal.overflow_sub-result-in-Joined
overflow_sub-result-in-Joined c = let x = c.requires.stage in push-some x (joined-ahead x.todo c.from-kind.ensures (c.in-Two.is ∙ ap Two c.in-Joined.is))

pub overflow_add-r-in-Until : goal.overflow_add-r-in-Until
overflow_add-r-in-Until c = let m = node-room c.requires.stage in omega arith

pub slice_bounds-operand_end-count-in-Until : goal.slice_bounds-operand_end-count-in-Until
slice_bounds-operand_end-count-in-Until c = let m = node-room c.requires.stage in omega arith

pub slice_bounds-operand_end-start-in-Until : goal.slice_bounds-operand_end-start-in-Until
slice_bounds-operand_end-start-in-Until c = let m = node-room c.requires.stage in let i : c.args.r + 1 ≤ length c.args.s.now = omega arith in i

pub operand_end-n-requires-in-Until : goal.operand_end-n-requires-in-Until
operand_end-n-requires-in-Until c = until-begins c.requires.stage.todo c.from-kind.ensures (c.in-Two.is ∙ ap Two c.in-Until.is)

pub overflow_add-r-in-Until-2 : goal.overflow_add-r-in-Until-2
overflow_add-r-in-Until-2 c = let m = node-room c.requires.stage in omega arith

pub put_join-requires-in-Until : goal.put_join-requires-in-Until
put_join-requires-in-Until c =
    let x = c.requires.stage in
    let m = node-room x in
    push-room x (until-ahead x.todo c.from-kind.ensures (c.in-Two.is ∙ ap Two c.in-Until.is) c.operand_end-n-in-Until.ensures) (omega arith)

pub overflow_add-result-in-Until : goal.overflow_add-result-in-Until
overflow_add-result-in-Until c = let m = node-room c.requires.stage in omega arith

pub overflow_add-result-in-Until-2 : goal.overflow_add-result-in-Until-2
overflow_add-result-in-Until-2 c =
    let m = node-room c.requires.stage in
    let b = until-begins c.requires.stage.todo c.from-kind.ensures (c.in-Two.is ∙ ap Two c.in-Until.is) in
    record { fits = within-sum m.few (ends-within c.args.s.now (c.args.r + 1) (omega arith) b c.operand_end-n-in-Until.ensures) }

pub overflow_sub-result-in-Until : goal.overflow_sub-result-in-Until
overflow_sub-result-in-Until c = let x = c.requires.stage in push-some x (until-ahead x.todo c.from-kind.ensures (c.in-Two.is ∙ ap Two c.in-Until.is) c.operand_end-n-in-Until.ensures)

pub returns-in-Zero : goal.returns-in-Zero
returns-in-Zero c =
    λ ts bs x. let q = c.put_plain.ensures in
    plain-pop x (ap whole_kind (sym c.from-kind.ensures ∙ c.in-Zero.is)) q.0 q.1 (leaf-ahead x.todo c.from-kind.ensures c.in-Zero.is)

pub returns-in-Not : goal.returns-in-Not
returns-in-Not c =
    λ ts bs x. let q = c.put_plain-in-Not.ensures in
    plain-keep x (ap whole_kind (sym c.from-kind.ensures ∙ (c.in-One.is ∙ ap One c.in-Not.is))) q.0 q.1 (not-ahead x.todo c.from-kind.ensures (c.in-One.is ∙ ap One c.in-Not.is))

pub returns-in-Next : goal.returns-in-Next
returns-in-Next c =
    λ ts bs x. let q = c.put_next-v.ensures in
    copy-after x (next-copy x.todo c.from-kind.ensures (c.in-One.is ∙ ap One c.in-Next.is) c.operand_end-n.ensures) q.0 q.1 q.2

pub returns-in-Ever : goal.returns-in-Ever
returns-in-Ever c =
    λ ts bs x. let a = c.args in let q = c.put_join.ensures in
    plain_push x (ap whole_kind (kind-binary (Joined c.in-Ever.j))) (q.0 ∙ ap (set a.out.now a.w) c.from.ensures) q.1 (ever-ahead x.todo c.from-kind.ensures (c.in-One.is ∙ ap One c.in-Ever.is)) refl

pub returns-in-Joined : goal.returns-in-Joined
returns-in-Joined c =
    λ ts bs x. let q = c.put_join-in-Joined.ensures in
    plain_push x (ap whole_kind (sym c.from-kind.ensures ∙ (c.in-Two.is ∙ ap Two c.in-Joined.is))) q.0 q.1 (joined-ahead x.todo c.from-kind.ensures (c.in-Two.is ∙ ap Two c.in-Joined.is)) refl

pub returns-in-Until : goal.returns-in-Until
returns-in-Until c =
    λ ts bs x. let q = c.put_join-in-Until.ensures in
    plain_push x (ap whole_kind (kind-binary (Joined Or))) q.0 q.1 (until-ahead x.todo c.from-kind.ensures (c.in-Two.is ∙ ap Two c.in-Until.is) c.operand_end-n-in-Until.ensures) refl

pub returns-in-NoCode : goal.returns-in-NoCode
returns-in-NoCode c = λ ts bs x. absurd (none_ahead x.todo c.from-kind.ensures c.in-NoCode.is)
