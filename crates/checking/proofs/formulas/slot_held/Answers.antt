-- The part that is lent is the slot's nodes (`bytes-at`). Assumes nothing.
use mathlib.Core.Path.{ap, ◌∙◌}
use mathlib.Core.List.{List}
use Prim.Native.Nat.{ℕ}
use Rattle.scanning.specs.OnePass.{at, pass}
use Rattle.records.proofs.Opened.{bytes-at}
use native.Mathlib.Omega.{arith}
use Rattle.checking.proofs.formulas.slot_held.Goals as goal

pub slice_bounds-pass_over-count : goal.slice_bounds-pass_over-count
slice_bounds-pass_over-count c = let x = c.span_of-from.ensures in omega arith

pub slice_bounds-pass_over-start : goal.slice_bounds-pass_over-start
slice_bounds-pass_over-start c = let x = c.span_of-from.ensures in omega arith

pub slice_bounds-pass_over-end : goal.slice_bounds-pass_over-end
slice_bounds-pass_over-end c = let x = c.span_of-from.ensures in omega arith

pub returns : goal.returns
returns c = let a = c.args in c.pass_over.ensures ∙ ap (λ (l : List ℕ). pass a.allowed l (at 1 0 a.seen)) (bytes-at c.span_of-from.ensures)
