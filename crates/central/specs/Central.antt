-- Progressing a whole rule in one place: the answer and the lent buffer. Assumes nothing: these are definitions.
use Rattle.answers.specs.declared.Refusal.{Refusal}
use Rattle.central.specs.declared.Progress.{Progress}
use Rattle.std.specs.Prelude.{◌≡◌, ℕ, Bool, List, [], ◌∷◌, length, leb, eqb, Result, Ok, Err}
use Rattle.lists.specs.Tests.{both}
use Rattle.lists.specs.Runs.{padded}
use Rattle.answers.specs.Said.{Said, accepted, refused, left, number_of, verdict_number, check, in_order}
use Rattle.limits.specs.Limits.{propositions_most, central_nodes_most}
use Rattle.ltl.specs.Formula.{Formula, size, encode}
use Rattle.ltl.specs.Meaning.{Event}
use Rattle.ltl.specs.Progression.{unfolded, progressed, verdict_of}
use Rattle.ltl.specs.Decode.{formula_of, is_rule}
use Rattle.folded.specs.Folding.{folded}

-- 1: the formula has 1 to 4,096 bytes and the output 4,096
unfoldable pub central_lengths_ok : ℕ → ℕ → Bool
central_lengths_ok formula room = both (leb 1 formula) (both (leb formula central_nodes_most) (eqb room central_nodes_most))

-- what the call answers of the progressed formula
abbrev pub answer_of : Formula → List ℕ
answer_of g = verdict_number (verdict_of g) ∷ size g ∷ []

-- the formula that is progressed: the one given, with its constants folded
abbrev pub start_of : List ℕ → Formula
start_of formula = folded (formula_of formula)

unfoldable pub central_says : List ℕ → Event → ℕ → Said
central_says formula event room =
    in_order
    (check 1 (central_lengths_ok (length formula) room)
    ∷ check 6 (is_rule propositions_most formula)
    ∷ check 8 (leb (size (unfolded (start_of formula))) central_nodes_most)
    ∷ [])
    (accepted (answer_of (progressed event (start_of formula))))

-- the enum's cases by number and values
abbrev pub said_central : Result Progress Refusal → Said
said_central (Err why) = refused (number_of why)
said_central (Ok p) = accepted (verdict_number p.verdict ∷ p.length ∷ [])

-- the promise: the answer, and the lent output, zero past the formula
pub record Centrally (formula : List ℕ) (event : Event) (output output' : List ℕ) (answer : Result Progress Refusal) : Type 0 where
  pub says : said_central answer ≡ central_says formula event (length output)
  pub leaves : output' ≡ left (central_says formula event (length output)) (padded central_nodes_most (encode (progressed event (start_of formula)))) output
