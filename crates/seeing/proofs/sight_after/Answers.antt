-- A place holder's slot is there (`opened-slot`). Assumes nothing.
use Prim.Native.Nat.{◌-◌}
use Rattle.kinds.specs.Kinds.{hold_code}
use Rattle.state.specs.Form.{form_in}
use Rattle.state.proofs.Forms.{slots-coded}
use Rattle.records.proofs.Opened.{opened-slot}
use native.Mathlib.Omega.{arith}
use Rattle.seeing.proofs.sight_after.Goals as goal

pub mark_of-requires : goal.mark_of-requires
mark_of-requires c = let p = opened-slot c.requires.0 (c.args.b - hold_code) (omega arith) in (p.sized, p.number)

pub with_answer-requires : goal.with_answer-requires
with_answer-requires c = let p = opened-slot c.requires.0 (c.args.b - hold_code) (omega arith) in let f = p.sized.few-slots in let z = slots-coded (form_in c.args.s.now) in omega arith
