-- The events that were taken stand within the room. Assumes nothing.
use Rattle.std.proofs.Common.{refl, arith}
use Rattle.vydrulka.proofs.Mended.{taken-within}
use Rattle.vydrulka.proofs.word_watch.take_events.Goals as goal

pub slice_bounds-watch-end : goal.slice_bounds-watch-end
slice_bounds-watch-end c =
    let few = taken-within _ _ _ _ _ refl c.in-Ok.ensures in
    let long = c.stretch-answer.auto.events in
    omega arith
