-- Reading a rule file: the answer and the lent buffers. Assumes nothing: these are definitions.
use Rattle.answers.specs.declared.Refusal.{Refusal}
use Rattle.rules.specs.declared.RuleCounts.{RuleCounts}
use Rattle.std.specs.Prelude.{◌≡◌, ℕ, Bool, List, [], ◌∷◌, length, leb, eqb, Result, Ok, Err}
use Rattle.limits.specs.Limits.{boards_most, rule_nodes_most}
use Rattle.lists.specs.Tests.{both}
use Rattle.lists.specs.Runs.{padded}
use Rattle.answers.specs.Said.{Said, accepted, refused, left, number_of, check, in_order}
use Rattle.ltl.specs.Decode.{is_rule}
use Rattle.masks.specs.Masks.{masks_rule}
use Rattle.rules.specs.RuleFile.{version, masks_at, file_formula_at, total_of, counts_ok, version_in_file, boards_in_file, propositions_in_file, nodes_in_file, masks_offset_in_file, formula_offset_in_file, total_in_file, masks_in_file, formula_in_file}

-- 1: a lent output is of another length than sixteen masks and 1,024 bytes; the file is under 16 bytes or differs from its total
unfoldable pub read_lengths_ok : List ℕ → ℕ → ℕ → Bool
read_lengths_ok file masks_room formula_room =
    both (eqb masks_room boards_most) (both (eqb formula_room rule_nodes_most) (both (leb masks_at (length file)) (eqb (length file) (total_in_file file))))

-- 4: an offset or the total disagrees with the counts
unfoldable pub offsets_ok : List ℕ → Bool
offsets_ok file =
    both (eqb (masks_offset_in_file file) masks_at)
    (both (eqb (formula_offset_in_file file) (file_formula_at (boards_in_file file))) (eqb (total_in_file file) (total_of (boards_in_file file) (nodes_in_file file))))

unfoldable pub read_says : List ℕ → ℕ → ℕ → Said
read_says file masks_room formula_room =
    in_order
    (check 1 (read_lengths_ok file masks_room formula_room)
    ∷ check 2 (eqb (version_in_file file) version)
    ∷ check 3 (counts_ok (boards_in_file file) (propositions_in_file file) (nodes_in_file file))
    ∷ check 4 (offsets_ok file)
    ∷ check 5 (masks_rule (propositions_in_file file) (masks_in_file file))
    ∷ check 6 (is_rule (propositions_in_file file) (formula_in_file file))
    ∷ [])
    (accepted (boards_in_file file ∷ propositions_in_file file ∷ nodes_in_file file ∷ []))

-- the enum's cases by number and values
abbrev pub said_read : Result RuleCounts Refusal → Said
said_read (Err why) = refused (number_of why)
said_read (Ok c) = accepted (c.boards ∷ c.propositions ∷ c.nodes ∷ [])

-- the promise: the answer, and both lent outputs, zero past the rule
pub record Reads (file masks formula masks' formula' : List ℕ) (answer : Result RuleCounts Refusal) : Type 0 where
  pub says : said_read answer ≡ read_says file (length masks) (length formula)
  pub leaves-masks : masks' ≡ left (read_says file (length masks) (length formula)) (padded boards_most (masks_in_file file)) masks
  pub leaves-formula : formula' ≡ left (read_says file (length masks) (length formula)) (padded rule_nodes_most (formula_in_file file)) formula
