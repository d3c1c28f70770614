-- What beginning a watch with a rule that was read asks and gives. Assumes nothing: these are definitions.
use Rattle.answers.specs.declared.Refusal.{Refusal}
use Rattle.std.specs.Prelude.{◌≡◌, List, [], ◌∷◌, ℕ, length, leb, Result, ⊤}
use Rattle.answers.specs.Said.{Said, accepted, left, check, in_order, said_outcome}
use Rattle.ltl.specs.Formula.{Formula}
use Rattle.state.specs.declared.Form.{Form}
use Rattle.state.specs.Form.{form_in, slots_most, nodes_most, Formed}
use Rattle.state.specs.Bytes.{nodes_of}
use Rattle.state.specs.Calls.{first_of, loaded_state}
use Rattle.starting.specs.Starting.{RuleGiven}

-- the checks of the layout, and what is left of the state
abbrev pub begin_says : Form → List ℕ → Formula → Said
begin_says φ masks rule =
    in_order (check 7 (leb (length (first_of masks rule)) (slots_most φ)) ∷ check 8 (leb (nodes_of (first_of masks rule)) (nodes_most φ)) ∷ []) (accepted [])

pub record BeginAsk (masks bytes state : List ℕ) : Type 0 where
  pub rule : Formula
  pub ruled : RuleGiven masks bytes rule
  pub long : Formed state

-- what is answered and left where a watch of the rule is begun
pub record RuleBegun (masks : List ℕ) (rule : Formula) (state state' : List ℕ) (answer : Result ⊤ Refusal) : Type 0 where
  pub says : said_outcome answer ≡ begin_says (form_in state) masks rule
  pub leaves : state' ≡ left (begin_says (form_in state) masks rule) (loaded_state (form_in state) masks rule) state

abbrev pub Begun : List ℕ → List ℕ → List ℕ → List ℕ → Result ⊤ Refusal → Type 0
Begun masks bytes state state' answer = (rule : Formula) → RuleGiven masks bytes rule → RuleBegun masks rule state state' answer
