-- Each way out is one law of Outcomes; what the inspection tells where it refuses nothing is `inspected`. No loop. Assumes nothing.
use Rattle.std.proofs.lemmas.Result.{err_from_is_err_and}
use native.Mathlib.Omega.{arith}
use borrow.Author.Rules.{rules}
use Rattle.inspecting.proofs.Checks.{inspected}
use Rattle.mending.proofs.Outcomes.{room_wrong, inspection_wrong, ready_long, sift_ask, header_ask, mended-ready}
use Rattle.mending.proofs.mend.Goals as goal

pub returns-then-mended-recording : goal.returns-then-mended-recording
returns-then-mended-recording c = room_wrong _ _ _ c.if-mended-recording.true

pub returns-in_err-inspect : goal.returns-in_err-inspect
returns-in_err-inspect c =
    let p = err_from_is_err_and c.from_residual.result c.from_residual.ensures.1 in
    rw (p.1, p.2) (inspection_wrong _ _ _ c.if-mended-recording.false _ c.in_err-inspect.ensures)

pub slice_bounds-sift-count : goal.slice_bounds-sift-count
slice_bounds-sift-count c = ready_long _ _ _ c.if-mended-recording.false (inspected _ _ c.in_ok-inspect.ensures)

pub slice_bounds-sift-start : goal.slice_bounds-sift-start
slice_bounds-sift-start c = let h = ready_long _ _ _ c.if-mended-recording.false (inspected _ _ c.in_ok-inspect.ensures) in search rules

pub sift-counts-requires : goal.sift-counts-requires
sift-counts-requires c = sift_ask _ _ _ c.if-mended-recording.false (inspected _ _ c.in_ok-inspect.ensures)

pub put_header-requires : goal.put_header-requires
put_header-requires c =
    header_ask _ _ _ c.if-mended-recording.false (inspected _ _ c.in_ok-inspect.ensures) (λ i. let k = c.type_inv.recording i in omega arith) c.sift-counts.ensures c.sift-counts.auto.out

pub returns : goal.returns
returns c = mended-ready _ _ _ c.if-mended-recording.false (inspected _ _ c.in_ok-inspect.ensures) c.sift-counts.ensures c.put_header.ensures
