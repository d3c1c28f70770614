-- The array has room for what waits. Assumes nothing.
use mathlib.Core.Path.{refl}
use Rattle.showing.proofs.Turns.{show-within}
use Rattle.showing.proofs.show.Goals as goal

pub show_with-requires : goal.show_with-requires
show_with-requires c = show-within _ c.requires refl
