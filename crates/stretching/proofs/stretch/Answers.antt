-- Each way out is one law of Outcomes; what the inspection tells where it refuses nothing is `inspected`. No loop. Assumes nothing.
use Rattle.std.proofs.lemmas.Result.{err_from_is_err_and}
use mathlib.Core.Path.{refl}
use Rattle.inspecting.proofs.Checks.{inspected}
use Rattle.stretching.proofs.Outcomes.{inspection_wrong, gather_ask, taken-ready}
use Rattle.stretching.proofs.stretch.Goals as goal

pub returns-in_err-inspect : goal.returns-in_err-inspect
returns-in_err-inspect c =
    let p = err_from_is_err_and c.from_residual.result c.from_residual.ensures.1 in
    rw (p.1, p.2) (inspection_wrong _ _ _ c.in_err-inspect.ensures)

pub gather-taken-requires : goal.gather-taken-requires
gather-taken-requires c = gather_ask _ _ (inspected _ _ c.in_ok-inspect.ensures)

pub returns : goal.returns
returns c = taken-ready _ _ (inspected _ _ c.in_ok-inspect.ensures) c.gather-taken.auto.events c.gather-taken.ensures (c.fill.ensures.after (λ y e. e)) refl
