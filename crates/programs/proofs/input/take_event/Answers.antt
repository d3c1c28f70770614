-- An event is next in what came, and the others are in hand behind it. Assumes nothing.
use Rattle.std.proofs.Common.{sym}
use Rattle.programs.proofs.Standing.{event-takes}
use Rattle.programs.proofs.input.take_event.Goals as goal

pub returns-in-Event : goal.returns-in-Event
returns-in-Event g c =
    let w = c.in_ok-now.ensures in
    event-takes _ _ _ _ w.within.0 w.within.1 (sym c.in-Event.ensures) _ w
