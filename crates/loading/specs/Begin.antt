-- Beginning a watch with a rule that was read and is to be folded: what is asked and given. Assumes nothing: these are definitions.
use Rattle.answers.specs.declared.Refusal.{Refusal}
use Rattle.std.specs.Prelude.{◌≡◌, List, ℕ, length, Result, ⊤}
use Rattle.limits.specs.Limits.{rule_nodes_most}
use Rattle.ltl.specs.Formula.{Formula}
use Rattle.folded.specs.Folding.{folded}
use Rattle.starting.specs.Starting.{RuleGiven}
use Rattle.beginning.specs.Beginning.{RuleBegun, BeginAsk}

-- with room for the folded rule
pub record BeginFoldedAsk (masks bytes p state : List ℕ) : Type 0 where
  pub ask : BeginAsk masks bytes state
  pub long : length p ≡ rule_nodes_most

-- the watch of the folded rule is begun, or refused
abbrev pub BegunFolded : List ℕ → List ℕ → List ℕ → List ℕ → Result ⊤ Refusal → Type 0
BegunFolded masks bytes state state' answer = (rule : Formula) → RuleGiven masks bytes rule → RuleBegun masks (folded rule) state state' answer
