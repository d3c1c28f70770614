-- The invariant: what is left, read from here, comes to what all comes to. Assumes nothing.
use mathlib.Core.Path.{◌≡◌}
use lib.ListN.{drop}
use Rattle.spelling.specs.Reading.{spelled, at_start}
use Rattle.spelling.proofs.typed.list.Given as goal

abbrev pub invariant-loop-c : goal.invariant-loop-c
invariant-loop-c l = spelled (drop l.c-index l.text) l.reached ≡ spelled l.text at_start
