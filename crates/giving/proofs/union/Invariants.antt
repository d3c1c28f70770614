-- The masks from i on, joined to what is held, give the union of all. Assumes nothing.
use mathlib.Core.Path.{◌≡◌}
use lib.ListN.{drop}
use Rattle.lists.specs.Listed.{listed}
use Rattle.masks.specs.Masks.{union_with}
use Rattle.state.specs.Fields.{mask_in}
use Rattle.giving.proofs.union.Given as goal

abbrev pub invariant-loop-i : goal.invariant-loop-i
invariant-loop-i l = let masks = listed (mask_in l.state) l.boards in union_with l.all (drop l.i masks) ≡ union_with 0 masks
