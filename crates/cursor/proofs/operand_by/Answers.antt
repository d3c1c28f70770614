-- One law for each kind of sign. Assumes nothing.
use mathlib.Core.Logic.{inl, inr}
use mathlib.Core.Path.{refl}
use Rattle.text.specs.Signs.{spelling}
use Rattle.text.specs.Machine.{number, spelt}
use Rattle.cursor.specs.declared.Token.TheVariants.{Space, Operator, Bracket}
use Rattle.cursor.proofs.Words.{spelt-alive}
use Rattle.cursor.proofs.Signed.{operand-dead, operand-sign, operand-word}
use Rattle.cursor.proofs.operand_by.Goals as goal

pub returns-in-Blank : goal.returns-in-Blank
returns-in-Blank c = operand-sign c.requires c.in-Blank.is Space c.passed.ensures (λ d. refl) (λ d m. m)

pub returns-in-Prefix : goal.returns-in-Prefix
returns-in-Prefix c = operand-sign c.requires c.in-Prefix.is Operator c.passed-in-Prefix.ensures (λ d. refl) (λ d m. m)

pub returns-in-Open : goal.returns-in-Open
returns-in-Open c = operand-sign c.requires c.in-Open.is Bracket c.passed-in-Open.ensures (λ d. refl) (λ d m. m)

pub returns-in-Word : goal.returns-in-Word
returns-in-Word c = let w = spelling c.in-Word.v in operand-word c.requires c.in-Word.is c.past.ensures (spelt w) (λ d. refl) (λ d. spelt-alive w d) c.letters.ensures

pub returns-in-Letter : goal.returns-in-Letter
returns-in-Letter c = operand-word c.requires c.in-Letter.is c.past-in-Letter.ensures number (λ d. refl) (λ d. refl) c.numeral.ensures

pub returns-in-Infix : goal.returns-in-Infix
returns-in-Infix c =
    elim c.in-Infix.is [
      | inl (o, e) ↦ operand-dead c.requires e (λ d. refl) c.wrong.ensures
      | inr (inl e) ↦ operand-dead c.requires e (λ d. refl) c.wrong.ensures
      | inr (inr (inl (n, e))) ↦ operand-dead c.requires e (λ d. refl) c.wrong.ensures
      | inr (inr (inr e)) ↦ operand-dead c.requires e (λ d. refl) c.wrong.ensures
    ]
