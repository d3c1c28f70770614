-- What the functions below the call ask and give. Assumes nothing: these are definitions.
use Rattle.std.specs.Prelude.{◌≡◌, true, List, ℕ, ◌≤◌, length}
use Rattle.lists.specs.Runs.{padded}
use Rattle.limits.specs.Limits.{rule_nodes_most}
use Rattle.ltl.specs.Formula.{Formula, encode}
use Rattle.text.specs.Grammar.{Text}
use Rattle.text.specs.Machine.{accepts}
use Rattle.building.specs.Nodes.{nodes_in}

-- the text is in the grammar, and the buffer has its length
pub record TextAsk (text formula : List ℕ) : Type 0 where
  pub accepted : accepts text ≡ true
  pub room : length formula ≡ rule_nodes_most

-- the text has n nodes, and the buffer room for them
pub record BuildAsk (text formula : List ℕ) (n : ℕ) : Type 0 where
  pub count : n ≡ nodes_in text
  pub few : n ≤ length formula
  pub room : length formula ≡ rule_nodes_most

-- whatever formula it is a text of stands in the buffer, zero past it
abbrev pub BuiltInto : List ℕ → List ℕ → List ℕ → Type 0
BuiltInto text formula formula' = (f : Formula) → Text text f → formula' ≡ padded (length formula) (encode f)
