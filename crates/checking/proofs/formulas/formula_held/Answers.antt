-- The pass over the slot's nodes is its clause (`held-passed`). Assumes nothing.
use mathlib.Core.Path.{sym, ◌∙◌}
use Rattle.checking.proofs.Forming.{allowed-fitted, held-unsampled, held-passed}
use native.Mathlib.Omega.{arith}
use Rattle.state.specs.Form.{form_in}
use Rattle.state.proofs.Forms.{slots-coded}
use Rattle.state.proofs.Places.{bytes-length}
use Rattle.checking.proofs.formulas.formula_held.Goals as goal

pub returns-then-not-sampled_for : goal.returns-then-not-sampled_for
returns-then-not-sampled_for c = sym (held-unsampled _ _ _ _ (sym c.sampled_for.ensures ∙ c.if-not-sampled_for.true))

pub slot_held-requires : goal.slot_held-requires
slot_held-requires c = let p = c.requires.0.sized in let e = p.header.slots-are in let f = p.few-slots in let g = slots-coded (form_in c.args.s.now) in (c.requires.0, allowed-fitted _ _ _ _ _ c.allowed_in.ensures c.requires.1 (omega arith))

pub returns : goal.returns
returns c =
    c.slot_held.ensures
    ∙ held-passed _ _ _ _ _ c.requires.2 (let p = c.requires.0 in bytes-length _ _ p.sized _ p.stretch) (sym c.sampled_for.ensures ∙ c.if-not-sampled_for.false) c.allowed_in.ensures
