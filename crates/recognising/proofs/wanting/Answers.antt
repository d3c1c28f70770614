-- By the token that was seen. Assumes nothing.
use mathlib.Core.Logic.{inl, inr}
use Rattle.cursor.specs.declared.Token.TheVariants.{Space, Operator, Bracket, Operand, Finished, Wrong}
use Rattle.recognising.proofs.Turning.{want_turn}
use Rattle.recognising.proofs.wanting.Goals as goal

pub returns-in-Space : goal.returns-in-Space
returns-in-Space c =
    elim c.in-Space.is [
      | inl e ↦ want_turn Space c.requires.deep c.operand_from-s.ensures e c.check.ensures
      | inr e ↦ want_turn Operator c.requires.deep c.operand_from-s.ensures e c.check.ensures
    ]

pub returns-in-Bracket : goal.returns-in-Bracket
returns-in-Bracket c = want_turn Bracket c.requires.deep c.operand_from-s.ensures c.in-Bracket.is c.check-in-Bracket.ensures

pub returns-in-Operand : goal.returns-in-Operand
returns-in-Operand c = want_turn Operand c.requires.deep c.operand_from-s.ensures c.in-Operand.is c.check-in-Operand.ensures

pub returns-in-Finished : goal.returns-in-Finished
returns-in-Finished c =
    elim c.in-Finished.is [
      | inl e ↦ want_turn Finished c.requires.deep c.operand_from-s.ensures e c.check-in-Finished.ensures
      | inr e ↦ want_turn Wrong c.requires.deep c.operand_from-s.ensures e c.check-in-Finished.ensures
    ]
