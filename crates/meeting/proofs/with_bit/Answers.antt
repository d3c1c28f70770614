-- A one that is shifted by less than the width is that power of 2. Assumes nothing.
use mathlib.Core.Path.{ap, ◌∙◌}
use Prim.Native.Nat.{ℕ}
use lib.Bits.{bit_or}
use Rattle.lists.specs.Tests.{bit}
use Rattle.masks.proofs.Bits.{one_shifted}
use Rattle.slot_sets.proofs.Bits.{bit-set}
use Rattle.meeting.proofs.with_bit.Goals as goal

pub returns : goal.returns
returns c = λ j. ap (λ (p : ℕ). bit (bit_or c.args.x p) j) (one_shifted c.args.k c.requires) ∙ bit-set c.args.x c.args.k j
