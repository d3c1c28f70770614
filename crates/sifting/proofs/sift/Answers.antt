-- Two passes, up to the first break and from there on, and zeros behind what they put (`sifted`). No loop. Assumes nothing.
use mathlib.Core.Path.{refl, ◌∙◌}
use native.Mathlib.Omega.{arith}
use Rattle.sifting.proofs.Turning.{sift-none}
use Rattle.sifting.proofs.Stretches.{ask-again, first-reached, room_kept, sifted}
use Rattle.sifting.proofs.sift.Goals as goal

pub sift_from-first-requires : goal.sift_from-first-requires
sift_from-first-requires c = (c.requires, sift-none _ _ _, omega arith)

pub sift_from-all-requires : goal.sift_from-all-requires
sift_from-all-requires c =
    let t = c.sift_from-first in
    let n = t.ensures.few in
    (ask-again c.requires t.auto.out t.auto.marks, t.ensures.sifted, omega arith)

pub overflow_mul-end : goal.overflow_mul-end
overflow_mul-end c =
    let h = room_kept _ c.requires c.sift_from-all.ensures c.sift_from-first.auto.marks (c.sift_from-all.auto.out ∙ c.sift_from-first.auto.out) in omega arith

pub slice_bounds-fill-count : goal.slice_bounds-fill-count
slice_bounds-fill-count c = room_kept _ c.requires c.sift_from-all.ensures c.sift_from-first.auto.marks (c.sift_from-all.auto.out ∙ c.sift_from-first.auto.out)

pub slice_bounds-fill-start : goal.slice_bounds-fill-start
slice_bounds-fill-start c =
    let h = room_kept _ c.requires c.sift_from-all.ensures c.sift_from-first.auto.marks (c.sift_from-all.auto.out ∙ c.sift_from-first.auto.out) in omega arith

pub returns : goal.returns
returns c =
    let a = c.sift_from-first in let b = c.sift_from-all in
    sifted b.ensures a.auto.marks (first-reached a.ensures) (b.auto.out ∙ a.auto.out) (b.auto.marks ∙ a.auto.marks) c.requires.out-room (c.fill.ensures.after (λ y e. e)) refl
