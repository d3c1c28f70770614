-- A record after the first comes after the counter of the one before it (`steps_next`). No loop. Assumes nothing.
use Rattle.std.proofs.Common.{◌≡◌, ℕ, ◌+◌, ◌-◌, subst, arith}
use Rattle.neighbours.specs.Steps.{StepsTo}
use Rattle.neighbours.proofs.Steps.{steps_next}
use Rattle.neighbours.proofs.before_at.Goals as goal

pub returns : goal.returns
returns c =
    λ h. let a = c.args in let n = c.if-i-eq0.false in
    let z : a.i - 1 + 1 ≡ a.i = omega arith in
    subst (λ (k : ℕ). StepsTo a.recording.now k c.counter_at.result) z (steps_next a.recording.now (a.i - 1) c.counter_at.ensures)
