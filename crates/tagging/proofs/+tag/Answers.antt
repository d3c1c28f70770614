use Prim.Native.Nat.{◌+◌}
use native.Mathlib.Omega.{arith}
use Rattle.lists.specs.Runs.{tail_as}
use Rattle.lists.proofs.Parts.{handed-length}
use Rattle.nodes.proofs.Fronts.{parts-as, begins-some, no_code, leaf-within}
use Rattle.nodes.proofs.Operands.{one_of, two-of, single-as, double-as, left-read}
use Rattle.tagging.proofs.Tops.{leaf-over, not-asks, pair-asks}
use Rattle.tagging.proofs.Walks.{asks-some, asks-operand, asks-right, leaf-done, next-done, ever-done, until-done, not_done, pair-done}
use Rattle.tagging.proofs.+tag.Goals as goal

pub bounds-u-0 : goal.bounds-u-0
bounds-u-0 t c = begins-some _ c.requires.0

pub owner_of-requires : goal.owner_of-requires
owner_of-requires t c =
    let p = c.requires in (leaf-within (parts-as _ _ _ p.0.front c.from-k.ensures c.in-Zero.is), p.1)

pub tag_leaf-requires : goal.tag_leaf-requires
tag_leaf-requires t c = (asks-some c.args.tags.now c.requires, c.owner_of.ensures.1)

-- ---- not
pub slice_bounds-tag-count : goal.slice_bounds-tag-count
slice_bounds-tag-count t c = let x = one_of c.requires.0.front c.from-k.ensures c.in-One.is in omega arith

pub slice_bounds-tag-start : goal.slice_bounds-tag-start
slice_bounds-tag-start t c = let x = one_of c.requires.0.front c.from-k.ensures c.in-One.is in omega arith

pub slice_bounds-tag-count-in-Not : goal.slice_bounds-tag-count-in-Not
slice_bounds-tag-count-in-Not t c = let x = one_of c.requires.0.front c.from-k.ensures c.in-One.is in omega arith

pub slice_bounds-tag-start-in-Not : goal.slice_bounds-tag-start-in-Not
slice_bounds-tag-start-in-Not t c = let x = one_of c.requires.0.front c.from-k.ensures c.in-One.is in omega arith

pub tag-a-requires : goal.tag-a-requires
tag-a-requires t c =
    let x = one_of c.requires.0.front c.from-k.ensures c.in-One.is in
    (omega arith, asks-operand c.args.tags.now c.requires x.front x.part)

pub over_not-requires : goal.over_not-requires
over_not-requires t c =
    let x = one_of c.requires.0.front c.from-k.ensures c.in-One.is in
    let s = asks-some c.args.tags.now c.requires in
    let l = handed-length 1 c.args.tags.now c.tag-a.new.tags s c.tag-a.auto.tags in
    (omega arith, not-asks (c.tag-a.ensures _ _ x.front) (omega arith))

-- ---- and and or: two operands, of which the left one is tagged first
pub slice_bounds-tag-count-in-Joined : goal.slice_bounds-tag-count-in-Joined
slice_bounds-tag-count-in-Joined t c = let x = two-of c.requires.0.front c.from-k.ensures c.in-Two.is in omega arith

pub slice_bounds-tag-start-in-Joined : goal.slice_bounds-tag-start-in-Joined
slice_bounds-tag-start-in-Joined t c = let x = two-of c.requires.0.front c.from-k.ensures c.in-Two.is in omega arith

pub slice_bounds-tag-count-in-Joined-2 : goal.slice_bounds-tag-count-in-Joined-2
slice_bounds-tag-count-in-Joined-2 t c = let x = two-of c.requires.0.front c.from-k.ensures c.in-Two.is in omega arith

pub slice_bounds-tag-start-in-Joined-2 : goal.slice_bounds-tag-start-in-Joined-2
slice_bounds-tag-start-in-Joined-2 t c = let x = two-of c.requires.0.front c.from-k.ensures c.in-Two.is in omega arith

pub tag-a-requires-in-Joined : goal.tag-a-requires-in-Joined
tag-a-requires-in-Joined t c =
    let x = two-of c.requires.0.front c.from-k.ensures c.in-Two.is in
    (omega arith, asks-operand c.args.tags.now c.requires x.front x.part)

pub overflow_add-m : goal.overflow_add-m
overflow_add-m t c = let x = two-of c.requires.0.front c.from-k.ensures c.in-Two.is in let y = left-read x (c.tag-a-in-Joined.ensures _ _ x.front).reads in omega arith

pub slice_bounds-tag-count-in-Joined-3 : goal.slice_bounds-tag-count-in-Joined-3
slice_bounds-tag-count-in-Joined-3 t c = let x = two-of c.requires.0.front c.from-k.ensures c.in-Two.is in let y = left-read x (c.tag-a-in-Joined.ensures _ _ x.front).reads in omega arith

pub slice_bounds-tag-start-in-Joined-3 : goal.slice_bounds-tag-start-in-Joined-3
slice_bounds-tag-start-in-Joined-3 t c = let x = two-of c.requires.0.front c.from-k.ensures c.in-Two.is in let y = left-read x (c.tag-a-in-Joined.ensures _ _ x.front).reads in omega arith

pub offset_bounds-tags-m : goal.offset_bounds-tags-m
offset_bounds-tags-m t c = let x = two-of c.requires.0.front c.from-k.ensures c.in-Two.is in let y = left-read x (c.tag-a-in-Joined.ensures _ _ x.front).reads in omega arith

pub slice_bounds-tag-count-in-Joined-4 : goal.slice_bounds-tag-count-in-Joined-4
slice_bounds-tag-count-in-Joined-4 t c =
    let x = two-of c.requires.0.front c.from-k.ensures c.in-Two.is in
    let y = left-read x (c.tag-a-in-Joined.ensures _ _ x.front).reads in
    let s = asks-some c.args.tags.now c.requires in
    let l = handed-length 1 c.args.tags.now c.tag-a-in-Joined.new.tags s c.tag-a-in-Joined.auto.tags in omega arith

pub slice_bounds-tag-start-in-Joined-4 : goal.slice_bounds-tag-start-in-Joined-4
slice_bounds-tag-start-in-Joined-4 t c =
    let x = two-of c.requires.0.front c.from-k.ensures c.in-Two.is in
    let y = left-read x (c.tag-a-in-Joined.ensures _ _ x.front).reads in
    let s = asks-some c.args.tags.now c.requires in
    let l = handed-length 1 c.args.tags.now c.tag-a-in-Joined.new.tags s c.tag-a-in-Joined.auto.tags in omega arith

pub tag-c-requires : goal.tag-c-requires
tag-c-requires t c =
    let x = two-of c.requires.0.front c.from-k.ensures c.in-Two.is in
    let y = left-read x (c.tag-a-in-Joined.ensures _ _ x.front).reads in
    (omega arith, asks-right c.args.tags.now c.requires c.tag-a-in-Joined.new.tags c.tag-a-in-Joined.auto.tags y)

pub over_pair-requires : goal.over_pair-requires
over_pair-requires t c =
    let n = two-of c.requires.0.front c.from-k.ensures c.in-Two.is in
    let y = c.tag-a-in-Joined.ensures _ _ n.front in
    let x = left-read n y.reads in
    let s = asks-some c.args.tags.now c.requires in
    let l = handed-length 1 c.args.tags.now c.tag-a-in-Joined.new.tags s c.tag-a-in-Joined.auto.tags in
    let k = handed-length (1 + c.tag-a-in-Joined.result.read) (tail_as 1 c.args.tags.now c.tag-a-in-Joined.new.tags) c.tag-c.new.tags (omega arith) c.tag-c.auto.tags in
    (omega arith, pair-asks y (c.tag-c.ensures _ _ x.front) (omega arith))

-- ---- the returns
pub tag_leaf-requires-in-NoCode : goal.tag_leaf-requires-in-NoCode
tag_leaf-requires-in-NoCode t c = (asks-some c.args.tags.now c.requires, omega arith)

pub returns-in-Zero : goal.returns-in-Zero
returns-in-Zero t c =
    λ f rest y. let x = parts-as _ f rest y c.from-k.ensures c.in-Zero.is in
    leaf-done c.requires y (leaf-over x c.owner_of.ensures.0 c.tag_leaf.ensures) x

pub returns-in-Not : goal.returns-in-Not
returns-in-Not t c =
    λ f rest y. let x = single-as (one_of c.requires.0.front c.from-k.ensures c.in-One.is) c.in-Not.is y in
    not_done c.args.tags.now c.requires c.tag-a.auto.tags x c.tag-a.ensures c.over_not.ensures

pub returns-in-Next : goal.returns-in-Next
returns-in-Next t c =
    λ f rest y. next-done c.requires y (c.tag_whole.ensures f rest y) (single-as (one_of c.requires.0.front c.from-k.ensures c.in-One.is) c.in-Next.is y)

pub returns-in-Ever : goal.returns-in-Ever
returns-in-Ever t c =
    λ f rest y. ever-done c.requires y (c.tag_whole-in-Ever.ensures f rest y) (single-as (one_of c.requires.0.front c.from-k.ensures c.in-One.is) c.in-Ever.is y)

pub returns-in-Joined : goal.returns-in-Joined
returns-in-Joined t c =
    λ f rest y. let x = double-as (two-of c.requires.0.front c.from-k.ensures c.in-Two.is) c.in-Joined.is y in
    pair-done c.args.tags.now c.requires c.tag-a-in-Joined.auto.tags x c.tag-a-in-Joined.ensures c.tag-c.ensures c.tag-c.auto.tags c.over_pair.ensures

pub returns-in-Until : goal.returns-in-Until
returns-in-Until t c =
    λ f rest y. until-done c.requires y (c.tag_whole-in-Until.ensures f rest y) (double-as (two-of c.requires.0.front c.from-k.ensures c.in-Two.is) c.in-Until.is y)

pub returns-in-NoCode : goal.returns-in-NoCode
returns-in-NoCode t c = λ f rest y. absurd (no_code (parts-as _ f rest y c.from-k.ensures c.in-NoCode.is))
