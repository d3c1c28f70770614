-- By the next slot's start, or the last one's end. Assumes nothing.
use native.Mathlib.Omega.{arith}
use Rattle.state.specs.Form.{form_in}
use Rattle.state.proofs.Ends.{end-next, end-last}
use Rattle.state.proofs.Forms.{nodes-few}
use Rattle.state.proofs.slots.stretch_end.Goals as goal

pub returns-then-next-c : goal.returns-then-next-c
returns-then-next-c c = (end-next c.requires.0.header _ c.if-next-c.true c.start_of.ensures.0, c.start_of.ensures.1)

pub returns : goal.returns
returns c =
    let z = c.requires.0 in
    (end-last z.header _ c.if-next-c.false, (let n = nodes-few (form_in c.args.s.now) in let f = z.few-nodes in omega arith))
