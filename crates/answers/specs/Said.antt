-- A call's answer as the rules give it: a number, 0 where the call is accepted and else the refusal's, and the values that
-- an accepted call answers with. Assumes nothing: these are definitions.
use Rattle.std.specs.Prelude.{ℕ, Bool, List, [], ◌∷◌, eqb, Result, Ok, Err, ⊤}
use Rattle.lists.specs.Tests.{pick}
use Rattle.answers.specs.declared.Refusal.{Refusal}
use Rattle.answers.specs.declared.Refusal.TheVariants.{Length, Version, Range, Offset, Masks, Formula, Slots, Nodes, State, Finished, Nowhere, Outside, Already, Unready, Ticks, Text, Run, Clash}
use Rattle.answers.specs.declared.Verdict.{Verdict}
use Rattle.answers.specs.declared.Verdict.TheVariants.{False, True, Pending}

pub record Said : Type 0 where
  pub number : ℕ
  pub values : List ℕ

-- an accepted call's answer
abbrev pub accepted : List ℕ → Said
accepted vs = record { number = 0; values = vs }

-- a refusal that answers its number, nothing else
abbrev pub refused : ℕ → Said
refused n = record { number = n; values = [] }

-- a refusal that tells more: its number, and where what it refuses stands
abbrev pub refused_with : ℕ → List ℕ → Said
refused_with n vs = record { number = n; values = vs }

-- what a lent buffer holds after the answer: an accepted call's output, and what it held before a refusal
unfoldable pub left : Said → List ℕ → List ℕ → List ℕ
left s output before = pick (eqb s.number 0) output before

-- the number of each refusal
abbrev pub number_of : Refusal → ℕ
number_of Length = 1
number_of Version = 2
number_of Range = 3
number_of Offset = 4
number_of Masks = 5
number_of Formula = 6
number_of Slots = 7
number_of Nodes = 8
number_of State = 9
number_of Finished = 10
number_of Nowhere = 11
number_of Outside = 12
number_of Already = 13
number_of Unready = 14
number_of Ticks = 15
number_of Text = 16
number_of Run = 19
number_of Clash = 20

-- the number of each verdict
abbrev pub verdict_number : Verdict → ℕ
verdict_number False = 0
verdict_number True = 1
verdict_number Pending = 2

-- the cases of an answer without values
abbrev pub said_outcome : Result ⊤ Refusal → Said
said_outcome (Err why) = refused (number_of why)
said_outcome (Ok _) = accepted []

-- ---- refusals in order
-- a check that a call makes, and the number with which it refuses where the check fails
pub record Check : Type 0 where
  pub number : ℕ
  pub ok : Bool

abbrev pub check : ℕ → Bool → Check
check n b = record { number = n; ok = b }

-- the first check that fails decides; else the answer
unfoldable pub in_order : List Check → Said → Said
in_order [] s = s
in_order (c ∷ cs) s = pick c.ok (in_order cs s) (refused c.number)
