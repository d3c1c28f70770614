-- The call's own promise, and what its answer holds: nodes where it is accepted, the place where the bytes are no text. Assumes nothing.
use Rattle.std.specs.Prelude.{Ok, Err}
use mathlib.Core.Path.{refl, ap, ◌∙◌}
use mathlib.Core.List.{[], ◌∷◌}
use native.Mathlib.Omega.{arith}
use Rattle.cursor.specs.declared.TextCursor.{TextCursor}
use Rattle.parsing.specs.declared.ParseError.TheVariants.{Refused, NoText}
use Rattle.parsing.specs.Parse.{said_parse}
use Rattle.parsing.proofs.Outcomes.{parse-as}
use Rattle.exported.proofs.Values.{value-refused, value-with, value-accepted, told-refused, told_with, told-accepted}
use Rattle.exports.proofs.vydrulka_parse.Goals as goal

pub returns-in-Err-Refused : goal.returns-in-Err-Refused
returns-in-Err-Refused c =
    let t = c.in-Err-Refused in
    let inner = rw t.is at t.field-0-is in
    let w = t.why in
    record {
      said = said_parse (Err (Refused w));
      parses = parse-as (t.is ∙ ap Err inner) c.parse-answer.ensures;
      says = c.from.ensures;
      gives-nodes = value-refused w 0 _ refl;
      gives_line = told-refused w 0 _ refl;
      gives-byte = told-refused w 1 _ refl;
    }

pub returns-in-Err-NoText : goal.returns-in-Err-NoText
returns-in-Err-NoText c =
    let t = c.in-Err-NoText in
    let inner = rw t.is at t.field-0-is in
    let at : TextCursor = t.at in let place = at.line ∷ at.byte ∷ [] in
    record {
      said = said_parse (Err (NoText at));
      parses = parse-as (t.is ∙ ap Err inner) c.parse-answer.ensures;
      says = refl;
      gives-nodes = value-with 16 place 0 _ (omega arith);
      gives_line = told_with 16 place 0 _ (omega arith) refl;
      gives-byte = told_with 16 place 1 _ (omega arith) refl;
    }

pub returns-in-Ok : goal.returns-in-Ok
returns-in-Ok c =
    let n = c.in-Ok.n in
    record {
      said = said_parse (Ok n);
      parses = parse-as c.in-Ok.is c.parse-answer.ensures;
      says = refl;
      gives-nodes = value-accepted (n ∷ []) 0 _ refl;
      gives_line = told-accepted (n ∷ []) 0 _ refl;
      gives-byte = told-accepted (n ∷ []) 1 _ refl;
    }
