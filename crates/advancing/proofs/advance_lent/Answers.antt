-- What the new layout is found to be decides, and within the limits it is put into the room that is lent. Assumes nothing.
use Rattle.std.proofs.lemmas.Result.{err_from_is_err_and}
use mathlib.Core.Path.{◌≡◌, subst}
use Rattle.advancing.specs.Advance.{NextFound}
use Rattle.advancing.proofs.Advancing.{advanced-refused, lent-known, next-ask, advanced-done}
use Rattle.advancing.proofs.advance_lent.Goals as goal

pub find_next-requires : goal.find_next-requires
find_next-requires c = let p = c.requires in lent-known p.ask p.lent

pub put_next-requires : goal.put_next-requires
put_next-requires c =
    let p = c.requires in let l = p.lent in
    next-ask p.ask c.in_ok-t.ensures p.clean l.masks-are (lent-known p.ask l) l.u-long l.tags-long

pub returns-in_err-t : goal.returns-in_err-t
returns-in_err-t c =
    let p = err_from_is_err_and c.from_residual.result c.from_residual.ensures.1 in rw (p.1, p.2) (advanced-refused c.requires.ask _ c.in_err-t.ensures)

pub returns : goal.returns
returns c =
    advanced-done c.requires.ask c.in_ok-t.ensures c.put_next.ensures
