-- The text is put in front, and the rest is cleared. Assumes nothing.
use Prim.Native.Nat.{◌≤◌}
use native.Mathlib.Omega.{arith}
use lib.ListN.{length}
use Rattle.printing.proofs.Texts.{print-asks, print-fits, print-done}
use Rattle.printing.proofs.print_rule.Goals as goal

pub show-n-requires : goal.show-n-requires
show-n-requires c = print-asks c.requires

pub slice_bounds-clear-count : goal.slice_bounds-clear-count
slice_bounds-clear-count c =
    let fits : let s = c.show-n in s.result ≤ length s.new.text = let s = c.show-n in print-fits c.requires _ s.auto.text _ s.ensures in
    let h = fits in omega arith

pub slice_bounds-clear-start : goal.slice_bounds-clear-start
slice_bounds-clear-start c =
    let fits : let s = c.show-n in s.result ≤ length s.new.text = let s = c.show-n in print-fits c.requires _ s.auto.text _ s.ensures in
    let h = fits in omega arith

pub returns : goal.returns
returns c = let s = c.show-n in print-done c.requires _ s.auto.text _ s.ensures c.clear.ensures
