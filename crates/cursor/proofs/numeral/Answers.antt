-- The first digit, and the others behind it. Assumes nothing.
use mathlib.Core.Path.{sym, ap, ◌∙◌}
use native.Mathlib.Omega.{arith}
use Rattle.text.specs.Signs.{sign_of}
use Rattle.text.proofs.Signs.{digit-few}
use Rattle.cursor.proofs.Words.{digit_here, number-none, number-first}
use Rattle.cursor.proofs.numeral.Goals as goal

pub figures-requires-clause-below : goal.figures-requires-clause-below
figures-requires-clause-below c = let f = digit-few _ _ (sym c.from.ensures ∙ c.in-Digit.is) in omega (arith, f, c.from-in-Digit.ensures)

pub returns-in-Digit : goal.returns-in-Digit
returns-in-Digit c =
    let l = c.in-Some.ensures.lookup.3 in
    number-first c.requires l.0 (digit_here c.args.text.now c.args.c.byte (l.1 0) c.from.ensures c.in-Digit.is c.from-in-Digit.ensures) c.past.ensures c.figures.ensures

pub returns-in_default-from : goal.returns-in_default-from
returns-in_default-from c =
    let l = c.in-Some.ensures.lookup.3 in
    number-none c.requires l.0 (λ m q. c.in_default-from.not-Digit m (c.from.ensures ∙ ap sign_of (l.1 0) ∙ q)) c.wrong-in_default-from.ensures
