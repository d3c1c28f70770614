-- The words in which a watch's claims are made: calls that were all accepted, a state that is not stuck, one where the close is all that
-- is left, and one that is over. Assumes nothing: these are definitions.
use Rattle.std.specs.Prelude.{◌≡◌, true, List, [], ℕ}
use Rattle.answers.specs.Said.{accepted, refused}
use Rattle.ltl.specs.Meaning.{Event}
use Rattle.state.specs.Form.{form_in, state_length}
use Rattle.state.specs.Calls.{sample_says, step_says, done_in, close_says}
use Rattle.keeping.specs.Closing.{StateClosing}
use Rattle.watching.specs.Watch.{Calls, none, sample, step, Saw}

-- every one of these calls was accepted
abbrev pub Accepted : {s t : List ℕ} → Calls s t → Type 0
Accepted none = Unit {0}
Accepted (sample {t = t} c board bits) = Accepted c × (sample_says t board bits ≡ accepted [])
Accepted (step {t = t} c k) = Accepted c × (step_says t k ≡ accepted [])

-- some sample or some step is accepted; or the close is all that is left, every board having sampled and every slot being stepped
pub data StateGoesOn (t : List ℕ) : Type 0 where
  samples : (board bits : ℕ) → sample_says t board bits ≡ accepted [] → StateGoesOn t
  steps : (k : ℕ) → step_says t k ≡ accepted [] → StateGoesOn t
  closes : done_in t ≡ true → StateClosing t → StateGoesOn t

-- accepted calls that lead from s to a state where the boards have seen the event and the close is all that is left
pub record StateReached (s : List ℕ) (e : Event) : Type 0 where
  pub last : List ℕ
  pub calls : Calls s last
  pub all : Accepted calls
  pub saw : Saw last e
  pub done : done_in last ≡ true
  pub closing : StateClosing last

-- every call that would change something is refused with 10, so that nothing does
pub record StateOver (s : List ℕ) : Type 0 where
  pub no-sample : (board bits : ℕ) → sample_says s board bits ≡ refused 10
  pub no_step : (k : ℕ) → step_says s k ≡ refused 10
  pub no-close : close_says s (state_length (form_in s)) ≡ refused 10
  pub stays : (t : List ℕ) → Calls s t → t ≡ s
