-- The part that is looked at is the rest of the definition (`rest-is`), and inside the state. Assumes nothing.
use mathlib.Core.Path.{◌∙◌}
use native.Mathlib.Omega.{arith}
use Rattle.state.specs.Form.{form_in}
use Rattle.state.proofs.Forms.{length-few}
use Rattle.state.proofs.Places.{parts_within}
use Rattle.records.proofs.Stretched.{rest-is}
use Rattle.records.proofs.rest_ok.Goals as goal

pub overflow_add-at : goal.overflow_add-at
overflow_add-at c =
    let w = parts_within _ _ c.requires in
    let l = c.requires.long in let f = length-few (form_in c.args.s.now) in
    record { fits = omega arith }

pub slice_bounds-zeros-count : goal.slice_bounds-zeros-count
slice_bounds-zeros-count c = let w = parts_within _ _ c.requires in omega arith

pub slice_bounds-zeros-start : goal.slice_bounds-zeros-start
slice_bounds-zeros-start c = let w = parts_within _ _ c.requires in omega arith

pub returns : goal.returns
returns c = let h = c.requires.header in c.zeros.ensures ∙ rest-is _ _ _ h.stretches-at h.nodes-are
