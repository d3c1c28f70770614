-- Loading a rule file: the answer and the lent state. Assumes nothing: these are definitions.
use Rattle.answers.specs.declared.Refusal.{Refusal}
use Rattle.std.specs.Prelude.{◌≡◌, ℕ, Bool, List, [], ◌∷◌, length, leb, eqb, Result, ⊤}
use Rattle.lists.specs.Tests.{both}
use Rattle.answers.specs.Said.{Said, accepted, left, check, in_order, said_outcome}
use Rattle.ltl.specs.Formula.{Formula}
use Rattle.ltl.specs.Decode.{decoded, is_rule, some_formula}
use Rattle.folded.specs.Folding.{folded}
use Rattle.masks.specs.Masks.{masks_rule}
use Rattle.rules.specs.RuleFile.{version, masks_at, counts_ok, version_in_file, boards_in_file, propositions_in_file, nodes_in_file, total_in_file, masks_in_file, formula_in_file}
use Rattle.rules.specs.Read.{offsets_ok}
use Rattle.state.specs.Form.{form_of, form_in, state_length, slots_most, nodes_most}
use Rattle.state.specs.Bytes.{nodes_of}
use Rattle.state.specs.Calls.{first_of, loaded_state}

-- the rule that a file has; what a file that has none would give does not matter, since it is refused
abbrev pub rule_in : List ℕ → Formula
rule_in file = some_formula (decoded (formula_in_file file))

-- the rule that is watched: the file's, with its constants folded
abbrev pub start_in : List ℕ → Formula
start_in file = folded (rule_in file)

-- 1: the state has its length, and the file has at least a header and the length of its total
unfoldable pub load_lengths_ok : List ℕ → ℕ → Bool
load_lengths_ok file room = both (eqb room (state_length (form_of room))) (both (leb masks_at (length file)) (eqb (length file) (total_in_file file)))

unfoldable pub load_says : List ℕ → ℕ → Said
load_says file room =
    in_order
    (check 1 (load_lengths_ok file room)
    ∷ check 2 (eqb (version_in_file file) version)
    ∷ check 3 (counts_ok (boards_in_file file) (propositions_in_file file) (nodes_in_file file))
    ∷ check 4 (offsets_ok file)
    ∷ check 5 (masks_rule (propositions_in_file file) (masks_in_file file))
    ∷ check 6 (is_rule (propositions_in_file file) (formula_in_file file))
    ∷ check 7 (leb (length (first_of (masks_in_file file) (start_in file))) (slots_most (form_of room)))
    ∷ check 8 (leb (nodes_of (first_of (masks_in_file file) (start_in file))) (nodes_most (form_of room)))
    ∷ [])
    (accepted [])

pub record LoadsRule (file state state' : List ℕ) (answer : Result ⊤ Refusal) : Type 0 where
  pub says : said_outcome answer ≡ load_says file (length state)
  pub leaves : state' ≡ left (load_says file (length state)) (loaded_state (form_in state) (masks_in_file file) (start_in file)) state
