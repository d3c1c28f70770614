-- The stretch ends inside the state (`within`), and the part that is looked at is the gap of the definition (`gap_is`). Assumes
-- nothing.
use mathlib.Core.Path.{◌∙◌}
use mathlib.Core.List.{List}
use Prim.Native.Nat.{ℕ, ◌+◌, ◌<◌, ◌≤◌, ◌^◌}
use lib.ListN.{length}
use native.Mathlib.Omega.{arith}
use Rattle.state.specs.declared.Counts.{Counts}
use Rattle.state.specs.Form.{form_in}
use Rattle.state.specs.Fields.{stretch_end}
use Rattle.state.specs.Counted.{Sized, InStretch}
use Rattle.state.proofs.Forms.{length-few}
use Rattle.state.proofs.Places.{parts_within}
use Rattle.records.proofs.Stretched.{gap_is}
use Rattle.records.proofs.gap_ok.Goals as goal

within : (s : List ℕ) (c : Counts) (k : ℕ) → Sized s c → InStretch s k → (c.stretches + stretch_end s k ≤ length s) × (length s < 2 ^ 64)
within s c k z i =
    let w = parts_within s c z in let n = z.header.nodes-are in let e = i.ends in
    let l = z.long in let f = length-few (form_in s) in
    (omega arith, omega arith)

pub overflow_add-from : goal.overflow_add-from
overflow_add-from c =
    let w = within _ _ _ c.requires.0 c.requires.2 in let r = c.slot_end.ensures in let u = c.requires.2.used in
    record { fits = omega arith }

pub overflow_add-to : goal.overflow_add-to
overflow_add-to c = let w = within _ _ _ c.requires.0 c.requires.2 in let r = c.stretch_end.ensures in record { fits = omega arith }

pub slice_bounds-zeros-end : goal.slice_bounds-zeros-end
slice_bounds-zeros-end c = let w = within _ _ _ c.requires.0 c.requires.2 in let r = c.stretch_end.ensures in omega arith

pub returns : goal.returns
returns c = c.zeros.ensures ∙ gap_is _ _ _ _ _ c.requires.0.header.stretches-at c.slot_end.ensures.0 c.stretch_end.ensures.0
