-- A rule that was read, and what putting its first state asks and gives: its layout is within the limits. Assumes nothing: these are
-- definitions.
use Rattle.std.specs.Prelude.{◌≡◌, ℕ, ◌≤◌, true, List, [], length}
use Rattle.limits.specs.Limits.{boards_most, propositions_most, rule_nodes_most, nodes_room}
use Rattle.ltl.specs.Formula.{Formula, Within}
use Rattle.ltl.specs.Progression.{unfolded}
use Rattle.masks.specs.Masks.{masks_rule}
use Rattle.network.specs.Layout.{or_zero}
use Rattle.network.specs.Scores.{chosen}
use Rattle.nodes.specs.Begins.{Front}
use Rattle.scores.specs.Owned.{Table, Owned}
use Rattle.state.specs.declared.Form.{Form}
use Rattle.state.specs.Form.{form_in, slots_most, nodes_most, Formed}
use Rattle.state.specs.Bytes.{nodes_of}
use Rattle.state.specs.Calls.{first_of, loaded_state}

-- masks that follow their rule, and a rule of their propositions
pub record RuleGiven (masks bytes : List ℕ) (rule : Formula) : Type 0 where
  pub propositions : ℕ
  pub few-propositions : propositions ≤ propositions_most
  pub few-boards : length masks ≤ boards_most
  pub follow : masks_rule propositions masks ≡ true
  pub within : Within propositions 0 rule
  pub front : Front bytes rule []
  pub few-nodes : length bytes ≤ rule_nodes_most

-- the layout is within the limits, and the board is the first slot's
pub record FirstAsk (state masks bytes owner : List ℕ) (board slots nodes : ℕ) (u tags : List ℕ) : Type 0 where
  pub rule : Formula
  pub ruled : RuleGiven masks bytes rule
  pub long : Formed state
  pub table : Table owner
  pub owned : Owned ruled.propositions masks owner
  pub board-is : board ≡ or_zero (chosen masks (unfolded rule))
  pub slots-are : slots ≡ length (first_of masks rule)
  pub nodes-are : nodes ≡ nodes_of (first_of masks rule)
  pub few-slots : slots ≤ slots_most (form_in state)
  pub few-nodes : nodes ≤ nodes_most (form_in state)
  pub u-long : length u ≡ nodes_room
  pub tags-long : length tags ≡ nodes_room

abbrev pub Firsts : Form → List ℕ → List ℕ → List ℕ → Type 0
Firsts φ masks bytes state' = (rule : Formula) → RuleGiven masks bytes rule → state' ≡ loaded_state φ masks rule
