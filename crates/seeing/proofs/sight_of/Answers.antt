-- The flag of the slot's board, then the pass over its bytes. Assumes nothing.
use mathlib.Core.Path.{◌≡◌, sym, ap, ap₂, ◌∙◌}
use mathlib.Core.List.{List}
use Prim.Native.Nat.{ℕ, ◌<◌}
use Rattle.limits.specs.Limits.{boards_most}
use Rattle.state.specs.Fields.{sample_in, sampled_in, board_of_in}
use Rattle.state.specs.Opened.{SlotThere}
use Rattle.records.proofs.Opened.{board-few, bytes-at, opened-slot}
use Rattle.checked.proofs.Lying.{slot-passing, lent-holds}
use Rattle.resolving.specs.Settles.{event_alone}
use Rattle.seeing.specs.Seeing.{sight_over}
use Rattle.seeing.proofs.Sights.{sight-unsampled, sight-sampled}
use native.Mathlib.Omega.{arith}
use Rattle.seeing.proofs.sight_of.Goals as goal

pub board_of-board-requires : goal.board_of-board-requires
board_of-board-requires c =
    let there : SlotThere c.args.s.now c.args.c c.args.k = opened-slot c.requires.0 _ c.requires.1 in
    let p = there in (p.sized, p.number)

pub sampled_of-requires : goal.sampled_of-requires
sampled_of-requires c =
    let there : SlotThere c.args.s.now c.args.c c.args.k = opened-slot c.requires.0 _ c.requires.1 in
    let few : c.board_of-board.result < boards_most = board-few (there) c.board_of-board.ensures in
    ((there).sized.long, few)

pub returns-then-sampled_of-ne1 : goal.returns-then-sampled_of-ne1
returns-then-sampled_of-ne1 c =
    let flag : let a = c.args in c.sampled_of.result ≡ sampled_in a.s.now (board_of_in a.s.now a.k) = c.sampled_of.ensures ∙ ap (sampled_in c.args.s.now) c.board_of-board.ensures in
    sight-unsampled _ _ (λ q. c.if-sampled_of-ne1.true (flag ∙ q))

pub span_of-from-requires : goal.span_of-from-requires
span_of-from-requires c =
    let there : SlotThere c.args.s.now c.args.c c.args.k = opened-slot c.requires.0 _ c.requires.1 in
    let p = there in (p.sized, p.number, p.stretch)

pub slice_bounds-sight_over-count : goal.slice_bounds-sight_over-count
slice_bounds-sight_over-count c = let x = c.span_of-from.ensures in omega arith

pub slice_bounds-sight_over-start : goal.slice_bounds-sight_over-start
slice_bounds-sight_over-start c = let x = c.span_of-from.ensures in omega arith

pub slice_bounds-sight_over-end : goal.slice_bounds-sight_over-end
slice_bounds-sight_over-end c = let x = c.span_of-from.ensures in omega arith

pub sample_of-requires : goal.sample_of-requires
sample_of-requires c =
    let there : SlotThere c.args.s.now c.args.c c.args.k = opened-slot c.requires.0 _ c.requires.1 in
    let few : c.board_of-board.result < boards_most = board-few (there) c.board_of-board.ensures in
    let b = few in ((there).sized.long, omega arith)

pub sight_over-requires : goal.sight_over-requires
sight_over-requires c = let p = c.requires in (p.0, lent-holds p.0 _ p.1 c.span_of-from.ensures)

pub returns : goal.returns
returns c =
    let flag : let a = c.args in c.sampled_of.result ≡ sampled_in a.s.now (board_of_in a.s.now a.k) = c.sampled_of.ensures ∙ ap (sampled_in c.args.s.now) c.board_of-board.ensures in
    let a = c.args in let p = c.requires in
    c.sight_over.ensures
    ∙ ap₂ (λ (l : List ℕ) (n : ℕ). sight_over a.s.now l (event_alone n)) (bytes-at c.span_of-from.ensures) (c.sample_of.ensures ∙ ap (sample_in a.s.now) c.board_of-board.ensures)
    ∙ sight-sampled _ _ (slot-passing p.0 _ p.1) (sym (flag) ∙ c.if-sampled_of-ne1.false)
