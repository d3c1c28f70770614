-- Whether the tick can be closed decides, then the new layout, put with what is lent: laws of proofs/Outcomes.antt. Assumes nothing.
use Rattle.std.proofs.lemmas.Result.{err_from_is_err_and}
use mathlib.Core.Path.{◌≡◌, sym, ap, ◌∙◌}
use mathlib.Core.List.{[]}
use Rattle.answers.specs.Said.{accepted, said_outcome}
use Rattle.closing.specs.Close.{over_says}
use Rattle.closing.proofs.Ready.{over-passed}
use Rattle.closing.proofs.Outcomes.{CloseGoing, refused_over, advanced}
use Rattle.closing.proofs.close_lent.Goals as goal

pub over-requires : goal.over-requires
over-requires c = c.requires.opened

pub returns-in_err-over : goal.returns-in_err-over
returns-in_err-over c =
    let going : CloseGoing c.args.state.now c.args.second.now = let p = c.requires in record { long = p.long; passes = p.opened.passes; going = p.going } in
    let p = err_from_is_err_and c.from_residual.result c.from_residual.ensures.1 in rw (p.1, p.2) (refused_over going _ c.in_err-over.ensures)

pub advance_lent-requires : goal.advance_lent-requires
advance_lent-requires c =
    let p = c.requires in
    record { ask = record { opened = p.opened; counted = (over-passed _ c.in_ok-over.ensures).1; long = p.long }; lent = p.lent; clean = p.clean }

pub returns : goal.returns
returns c =
    let going : CloseGoing c.args.state.now c.args.second.now = let p = c.requires in record { long = p.long; passes = p.opened.passes; going = p.going } in
    advanced (going) c.in_ok-over.ensures c.advance_lent.ensures
