-- What a close answers where nothing else is left to do. Assumes nothing: this is a definition.
use Rattle.std.specs.Prelude.{◌≡◌, List, [], ◌⊎◌, ℕ}
use Rattle.answers.specs.Said.{accepted, refused}
use Rattle.state.specs.Form.{form_in, state_length}
use Rattle.state.specs.Calls.{close_says}

-- the close, into a second buffer of the state's length, is accepted, or gets 7, 8 or 15
pub data StateClosing (t : List ℕ) : Type 0 where
  accepts : close_says t (state_length (form_in t)) ≡ accepted [] → StateClosing t
  refuses : (n : ℕ) → (n ≡ 7) ⊎ ((n ≡ 8) ⊎ (n ≡ 15)) → close_says t (state_length (form_in t)) ≡ refused n → StateClosing t
