-- Writing a rule file: the answer and the lent buffer. Assumes nothing: these are definitions.
use Rattle.answers.specs.declared.Refusal.{Refusal}
use Rattle.std.specs.Prelude.{◌≡◌, ℕ, List, [], ◌∷◌, length, eqb, Result, Ok, Err}
use Rattle.lists.specs.Runs.{padded}
use Rattle.answers.specs.Said.{Said, accepted, refused, left, number_of, check, in_order}
use Rattle.ltl.specs.Decode.{is_rule}
use Rattle.masks.specs.Masks.{masks_rule}
use Rattle.rules.specs.RuleFile.{file_most, total_of, counts_ok, file_of}

unfoldable pub write_says : List ℕ → ℕ → List ℕ → ℕ → Said
write_says masks p formula room =
    in_order
    (check 1 (eqb room file_most)
    ∷ check 3 (counts_ok (length masks) p (length formula))
    ∷ check 5 (masks_rule p masks)
    ∷ check 6 (is_rule p formula)
    ∷ [])
    (accepted (total_of (length masks) (length formula) ∷ []))

-- the enum's cases by number and values
abbrev pub said_write : Result ℕ Refusal → Said
said_write (Err why) = refused (number_of why)
said_write (Ok n) = accepted (n ∷ [])

-- the promise: the answer, and the lent output, zero past the file
pub record Writes (masks : List ℕ) (p : ℕ) (formula file file' : List ℕ) (answer : Result ℕ Refusal) : Type 0 where
  pub says : said_write answer ≡ write_says masks p formula (length file)
  pub leaves : file' ≡ left (write_says masks p formula (length file)) (padded file_most (file_of masks p formula)) file
