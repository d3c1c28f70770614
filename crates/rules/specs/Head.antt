-- What a file's header alone decides: the first four checks of `read`. Assumes nothing: these are definitions.
use Rattle.answers.specs.declared.Refusal.{Refusal}
use Rattle.std.specs.Prelude.{◌≡◌, ℕ, true, List, eqb, Result, Ok, Err}
use Rattle.answers.specs.Said.{refused, number_of}
use Rattle.rules.specs.declared.RuleCounts.{RuleCounts}
use Rattle.rules.specs.RuleFile.{version, counts_ok, version_in_file, boards_in_file, propositions_in_file, nodes_in_file}
use Rattle.rules.specs.Read.{read_lengths_ok, offsets_ok, read_says}

-- the four checks passed, and the counts are the header's
pub record HeadPassed (file : List ℕ) (masks_room formula_room : ℕ) (c : RuleCounts) : Type 0 where
  pub lengths : read_lengths_ok file masks_room formula_room ≡ true
  pub version : eqb (version_in_file file) version ≡ true
  pub counts : counts_ok (boards_in_file file) (propositions_in_file file) (nodes_in_file file) ≡ true
  pub offsets : offsets_ok file ≡ true
  pub boards-are : c.boards ≡ boards_in_file file
  pub propositions-are : c.propositions ≡ propositions_in_file file
  pub nodes-are : c.nodes ≡ nodes_in_file file

-- the refusal that `read` answers, or its counts
abbrev pub HeadRead : List ℕ → ℕ → ℕ → Result RuleCounts Refusal → Type 0
HeadRead file masks_room formula_room (Err why) = refused (number_of why) ≡ read_says file masks_room formula_room
HeadRead file masks_room formula_room (Ok c) = HeadPassed file masks_room formula_room c
