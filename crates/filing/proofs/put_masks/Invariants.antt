-- `filing::put_masks` meets its contract. The invariant: the list has the bytes of the first i masks in front, then what it
-- had before. Assumes nothing.
use mathlib.Core.Path.{◌≡◌}
use mathlib.Core.List.{◌++◌}
use Prim.Native.Nat.{◌*◌}
use lib.ListN.{take, drop}
use Rattle.rules.specs.RuleFile.{mask_bytes}
use Rattle.filing.proofs.put_masks.Given as goal

abbrev pub invariant-loop-i : goal.invariant-loop-i
invariant-loop-i l = l.out ≡ mask_bytes (take l.i l.masks) ++ drop (8 * l.i) l.initial.out
