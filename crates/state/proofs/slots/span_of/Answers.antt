-- Both numbers are read of the slot's record. Assumes nothing.
use Prim.Native.Nat.{◌+◌, ◌<◌}
use native.Mathlib.Omega.{arith}
use Rattle.state.specs.Form.{form_in}
use Rattle.state.proofs.Forms.{length-few}
use Rattle.state.proofs.Places.{parts_within, spans}
use Rattle.state.proofs.slots.span_of.Goals as goal

pub overflow_add-from : goal.overflow_add-from
overflow_add-from c =
    let few : c.args.c.stretches + c.args.c.nodes < 65536 = let w = parts_within _ _ c.requires.0 in let l = c.requires.0.long in let f = length-few (form_in c.args.s.now) in omega arith in
    let e = c.start_of.ensures.1 in record { fits = omega arith }

pub overflow_add-result : goal.overflow_add-result
overflow_add-result c =
    let few : c.args.c.stretches + c.args.c.nodes < 65536 = let w = parts_within _ _ c.requires.0 in let l = c.requires.0.long in let f = length-few (form_in c.args.s.now) in omega arith in
    let e = c.start_of.ensures.1 in let g = c.length_of.ensures.1 in record { fits = omega arith }

pub returns : goal.returns
returns c = spans _ _ c.requires.0 _ _ _ c.requires.2 c.start_of.ensures.0 c.length_of.ensures.0
