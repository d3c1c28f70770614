-- The start stands behind the mark. Assumes nothing.
use mathlib.Core.Path.{ap, ◌∙◌}
use Prim.Native.Nat.{ℕ, ◌+◌}
use native.Mathlib.Omega.{arith}
use borrow.Author.Rules.{rules}
use Rattle.le.specs.Le.{le_at}
use Rattle.state.proofs.Places.{record-within, record_is}
use Rattle.state.proofs.slots.start_of.Goals as goal

pub u16_at-requires : goal.u16_at-requires
u16_at-requires c = let w = record-within _ _ c.requires.0 _ c.requires.1 in omega arith

pub returns : goal.returns
returns c = (c.u16_at.ensures ∙ ap (λ (i : ℕ). le_at c.args.s.now (i + 2) 2) (record_is c.requires.0.header _), search rules)
