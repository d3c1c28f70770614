-- Printing a rule's formula: the answer and the lent buffer. Assumes nothing: these are definitions.
use Rattle.answers.specs.declared.Refusal.{Refusal}
use Rattle.std.specs.Prelude.{◌≡◌, ℕ, ◌≤◌, List, [], ◌∷◌, length, eqb, Result, Ok, Err}
use Rattle.limits.specs.Limits.{propositions_most, rule_nodes_most, text_length}
use Rattle.lists.specs.Tests.{in_range}
use Rattle.lists.specs.Runs.{padded}
use Rattle.answers.specs.Said.{Said, accepted, refused, left, number_of, check, in_order}
use Rattle.ltl.specs.Formula.{Formula}
use Rattle.ltl.specs.Decode.{formula_of, is_rule}
use Rattle.nodes.specs.Begins.{Front}
use Rattle.text.specs.Printing.{printed}

unfoldable pub print_says : List ℕ → ℕ → Said
print_says formula room =
    in_order
    (check 1 (eqb room text_length)
    ∷ check 3 (in_range rule_nodes_most (length formula))
    ∷ check 6 (is_rule propositions_most formula)
    ∷ [])
    (accepted (length (printed (formula_of formula)) ∷ []))

-- the enum's cases by number and values
abbrev pub said_print : Result ℕ Refusal → Said
said_print (Err why) = refused (number_of why)
said_print (Ok n) = accepted (n ∷ [])

-- the promise: the answer, and the lent output, zero past the text
pub record Prints (formula text text' : List ℕ) (answer : Result ℕ Refusal) : Type 0 where
  pub says : said_print answer ≡ print_says formula (length text)
  pub leaves : text' ≡ left (print_says formula (length text)) (padded text_length (printed (formula_of formula))) text

-- ---- behind the checks
-- the bytes are one formula, no more than a rule's, and the output has its length
pub record Printable (s text : List ℕ) : Type 0 where
  pub formula : Formula
  pub front : Front s formula []
  pub few : length s ≤ rule_nodes_most
  pub room : length text ≡ text_length

-- the text of the formula that the bytes are, and zeros behind it
pub record PrintedTo (f : Formula) (text' : List ℕ) (r : ℕ) : Type 0 where
  pub long : r ≡ length (printed f)
  pub leaves : text' ≡ padded text_length (printed f)

abbrev pub PrintsTo : List ℕ → List ℕ → ℕ → Type 0
PrintsTo s text' r = (f : Formula) → Front s f [] → PrintedTo f text' r
