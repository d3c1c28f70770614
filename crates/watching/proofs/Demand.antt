-- The workshop's third demand, on the state's bytes: a watch that was begun by loading a rule, whose state only the calls write, each of
-- whose ticks was closed. Assumes nothing.
use mathlib.Core.Path.{◌≡◌, refl, sym, ap, ◌∙◌}
use mathlib.Core.Bool.{true}
use mathlib.Core.List.{List, [], ◌∷◌}
use Prim.Native.Nat.{ℕ, ◌<◌}
use lib.ListN.{length}
use Rattle.answers.specs.Said.{accepted, verdict_number}
use Rattle.answers.specs.declared.Verdict.TheVariants.{False, True, Pending}
use Rattle.ltl.specs.Formula.{Formula}
use Rattle.ltl.specs.Meaning.{Event, Trace, Satisfies, continued}
use Rattle.ltl.specs.Progression.{progressed_over, verdict_of}
use Rattle.network.specs.Scores.{chosen}
use Rattle.network.specs.Layout.{close}
use Rattle.state.specs.Fields.{boards_in, sample_in}
use Rattle.state.specs.Clauses.{state_ok}
use Rattle.state.specs.Bytes.{nodes_of, network_of}
use Rattle.state.specs.Calls.{finished_in, verdict_in, ask_says, done_in, close_says, close_leaves}
use Rattle.keeping.specs.Known.{known}
use Rattle.watching.specs.Watch.{Calls, Tick, StateWatch}
use Rattle.watching.specs.Claims.{StateGoesOn, StateReached, StateOver}
use Rattle.watching.proofs.Started.{Started}
use Rattle.watching.proofs.Ticked.{close_passed, close-leaves, started-in-tick, tick-network, watch-started}
use Rattle.watching.proofs.Telling.{finished-over, started-finished, started-verdict, calls-unfinished}
use Rattle.watching.proofs.Asking.{pending-unfinished, started-central, started-asks, started-true, started-false, calls-verdict, calls-ask}
use Rattle.watching.proofs.Agreeing.{lasts-agree, answers_agree, nexts-agree}
use Rattle.watching.proofs.GoingOn.{goes_on}
use Rattle.watching.proofs.Events.{event_of, tick-of}
use Rattle.watching.proofs.Existing.{tick-reached}

module _ (p : ℕ) (masks : List ℕ) (rule : Formula) (us : List Event) (s : List ℕ) (watch : StateWatch p masks rule us s) where
  started : Started p masks rule us s
  started = watch-started p masks rule watch

  -- ---- at load and after each close
  -- the verdict is the one that progressing the whole rule in one place gives for the same events
  pub watch-verdict : verdict_in s ≡ verdict_of (progressed_over us rule)
  watch-verdict = started-central p masks rule us s started

  -- and ask tells it, with as many ticks as there were events, and the network's slots and nodes
  pub watch-asks : ask_says s ≡ accepted (verdict_number (verdict_of (progressed_over us rule)) ∷ length us ∷ length (network_of s) ∷ nodes_of (network_of s) ∷ [])
  watch-asks = started-asks p masks rule us s started

  -- true: every endless continuation of the events meets the rule
  pub watch-true : verdict_in s ≡ True → (w : Trace) → Satisfies (continued us w) rule
  watch-true = started-true p masks rule us s started

  -- false: none does
  pub watch-false : verdict_in s ≡ False → (w : Trace) → Satisfies (continued us w) rule → ⊥
  watch-false = started-false p masks rule us s started

  -- the watch is finished exactly with a verdict, and then it is over
  pub watch-finished : finished_in s ≡ known (verdict_of (progressed_over us rule))
  watch-finished = started-finished p masks rule us s started ∙ ap known (sym (started-verdict p masks rule us s started) ∙ watch-verdict)

  pub watch-over : finished_in s ≡ true → StateOver s
  watch-over e = finished-over s started.passes e

  -- ---- within a tick: after any samples and steps, in any order, accepted or refused
  module _ (t : List ℕ) (calls : Calls s t) where
    -- the state passes its check: no call is refused with 9
    pub tick-passes : state_ok t ≡ true
    tick-passes = (started-in-tick p masks rule us s t started calls).passes

    -- until the close ask tells what it told before: the verdict stays pending
    pub tick-asks : ask_says t ≡ ask_says s
    tick-asks = calls-ask p masks rule us s started t calls

    pub tick-pending : verdict_in s ≡ Pending → verdict_in t ≡ Pending
    tick-pending e = calls-verdict p masks rule us s started t calls ∙ e

    -- until a verdict no tick gets stuck
    pub tick-goes-on : verdict_in s ≡ Pending → StateGoesOn t
    tick-goes-on e = goes_on t tick-passes (calls-unfinished p masks rule us s started t calls (pending-unfinished s e))

    -- whatever was sampled, an accepted close is a tick: there is an event that the boards have seen
    pub tick-sees : (second : List ℕ) → close_says t (length second) ≡ accepted [] → (e : Event) × Tick s e (close_leaves t second)
    tick-sees second e = (event_of t, tick-of t tick-passes s second calls e)

  -- ---- from close to close
  -- from one network equal samples close to the same next one, whatever the watch was before and whatever was called in the tick
  pub networks-agree : (q : ℕ) (other : Formula) (vs : List Event) (s₂ : List ℕ) → StateWatch q masks other vs s₂ → network_of s ≡ network_of s₂
      → (d e : Event) (a b : List ℕ) (x : Tick s d a) (y : Tick s₂ e b) → ((c : ℕ) → c < boards_in s → sample_in x.last c ≡ sample_in y.last c) → network_of a ≡ network_of b
  networks-agree q other vs s₂ w alike d e a b x y same =
      let z = watch-started q masks other w in
      tick-network p masks rule us s a d started x
      ∙ ap (close (chosen masks)) (lasts-agree masks p rule us s started q other vs s₂ z alike x.last y.last x.calls y.calls
      (close_passed x.last (length x.second) x.closes).done (close_passed y.last (length y.second) y.closes).done same)
      ∙ sym (tick-network q masks other vs s₂ b e z y)

  -- from one state they close to the same next one, byte by byte
  pub ticks-agree : (d e : Event) (a b : List ℕ) (x : Tick s d a) (y : Tick s e b) → ((c : ℕ) → c < boards_in s → sample_in x.last c ≡ sample_in y.last c) → a ≡ b
  ticks-agree d e a b x y same =
      x.leaves ∙ close-leaves x.last x.second x.closes
      ∙ nexts-agree masks p rule us s started p rule us s started refl x.last y.last x.calls y.calls
      (close_passed x.last (length x.second) x.closes).done (close_passed y.last (length y.second) y.closes).done same refl refl
      ∙ sym (y.leaves ∙ close-leaves y.last y.second y.closes)

  -- and where the close is all that is left it answers the same
  pub closes-agree : (t u : List ℕ) → Calls s t → Calls s u → done_in t ≡ true → done_in u ≡ true → ((c : ℕ) → c < boards_in s → sample_in t c ≡ sample_in u c)
      → (room : ℕ) → close_says t room ≡ close_says u room
  closes-agree t u a b done-t done-u same = answers_agree masks p rule us s started p rule us s started refl t u a b done-t done-u same refl refl

  -- until a verdict there are, for every event, accepted calls after which the close is all that is left
  pub tick-exists : verdict_in s ≡ Pending → (e : Event) → StateReached s e
  tick-exists v e = tick-reached p masks rule us s started (pending-unfinished s v) e
