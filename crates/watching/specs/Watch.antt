-- A watch on the state's bytes: begun by loading a rule, and a tick for each event. Within a tick any samples and steps are called,
-- whatever their numbers, accepted or refused; then a close is accepted. Assumes nothing: these are definitions.
use Rattle.std.specs.Prelude.{◌≡◌, true, List, [], ◌∷◌, ◌++◌, ℕ, ◌<◌, ◌≤◌, length}
use Rattle.answers.specs.Said.{accepted}
use Rattle.limits.specs.Limits.{boards_most, propositions_most}
use Rattle.ltl.specs.Formula.{Formula, Within}
use Rattle.ltl.specs.Meaning.{Event}
use Rattle.masks.specs.Masks.{masks_rule}
use Rattle.network.specs.Scores.{sample_of}
use Rattle.state.specs.declared.Form.{Form}
use Rattle.state.specs.Form.{slots_most, nodes_most}
use Rattle.state.specs.Fields.{boards_in, sample_in, masks_in}
use Rattle.state.specs.Bytes.{nodes_of}
use Rattle.state.specs.Calls.{sample_leaves, step_leaves, close_says, close_leaves, first_of, loaded_state}

-- what an accepted load has checked: the rule file's counts, masks and formula, and the limits of the state's form for the layout
pub record Loads (φ : Form) (p : ℕ) (masks : List ℕ) (rule : Formula) : Type 0 where
  pub some-propositions : 1 ≤ p
  pub few-propositions : p ≤ propositions_most
  pub some-boards : 1 ≤ length masks
  pub few-boards : length masks ≤ boards_most
  pub follow : masks_rule p masks ≡ true
  pub within : Within p 0 rule
  pub few-slots : length (first_of masks rule) ≤ slots_most φ
  pub few-nodes : nodes_of (first_of masks rule) ≤ nodes_most φ

-- any number of samples and steps, with any numbers, accepted or refused. Every other call leaves the state that it is lent as it
-- was: asking, closing into a second buffer, and each that is refused.
pub data Calls (s : List ℕ) : List ℕ → Type 0 where
  none : Calls s s
  sample : {t : List ℕ} → Calls s t → (board bits : ℕ) → Calls s (sample_leaves t board bits)
  step : {t : List ℕ} → Calls s t → (k : ℕ) → Calls s (step_leaves t k)

-- each board has as its sample what its mask lets through of the event
abbrev pub Saw : List ℕ → Event → Type 0
Saw t e = (b : ℕ) → b < boards_in t → sample_in t b ≡ sample_of (masks_in t) e b

-- a tick from s to s': some calls, and an accepted close of what they left, into a second buffer whatever it held
pub record Tick (s : List ℕ) (e : Event) (s' : List ℕ) : Type 0 where
  pub last : List ℕ
  pub calls : Calls s last
  pub saw : Saw last e
  pub second : List ℕ
  pub closes : close_says last (length second) ≡ accepted []
  pub leaves : s' ≡ close_leaves last second

-- a watch: its events so far, and its state
pub data StateWatch (p : ℕ) (masks : List ℕ) (rule : Formula) : List Event → List ℕ → Type 0 where
  begun : {φ : Form} → Loads φ p masks rule → StateWatch p masks rule [] (loaded_state φ masks rule)
  ticked : {us : List Event} {s s' : List ℕ} → StateWatch p masks rule us s → (e : Event) → Tick s e s' → StateWatch p masks rule (us ++ (e ∷ [])) s'
