-- The workshop's third demand, claimed of a watch by the calls' promises: a rule file, the events so far, and the state at load or after
-- the last close. Assumes nothing: these are definitions.
use Rattle.answers.specs.declared.Refusal.{Refusal}
use Rattle.std.specs.Prelude.{◌≡◌, true, List, ◌++◌, ℕ, Result, ⊤}
use Rattle.answers.specs.declared.Verdict.TheVariants.{False, True, Pending}
use Rattle.ltl.specs.Meaning.{Event, Trace, Satisfies, continued}
use Rattle.rules.specs.RuleFile.{masks_in_file}
use Rattle.state.specs.Calls.{done_in}
use Rattle.closing.specs.Close.{Closes}
use Rattle.loading.specs.Load.{rule_in}
use Rattle.demand.specs.Called.{Called, SameGiven, Ticked, Watched}
use Rattle.demand.specs.Claims.{OneNetwork, GoesOn, AskGets, standing, as_written}

pub record Demanded (file : List ℕ) (us : List Event) (s : List ℕ) : Type 0 where
  -- from one network equal samples close to the same next one, whatever was called on the way, in whatever order, accepted or refused
  pub same-network : (other : List ℕ) (vs : List Event) (r : List ℕ) → Watched other vs r → OneNetwork s r
      → (d e : Event) (a b : List ℕ) (x : Ticked (masks_in_file file) s d a) (y : Ticked (masks_in_file other) r e b) → SameGiven x.calls y.calls → OneNetwork a b
  -- from one state they close to the same next one, byte by byte
  pub same_bytes : (d e : Event) (a b : List ℕ) (x : Ticked (masks_in_file file) s d a) (y : Ticked (masks_in_file file) s e b) → SameGiven x.calls y.calls → a ≡ b
  -- where the close is all that is left it answers the same, and leaves the same
  pub same-close : (t u : List ℕ) (c : Called s t) (d : Called s u) → done_in t ≡ true → done_in u ≡ true → SameGiven c d
      → (second a b : List ℕ) (x y : Result ⊤ Refusal) → Closes t second a x → Closes u second b y → (x ≡ y) × (a ≡ b)
  -- no tick gets stuck: until a verdict some sample or step is accepted, or the close is all that is left, and is accepted or gets 7, 8 or 15
  pub goes_on : (standing file us s).verdict ≡ Pending → (t : List ℕ) → Called s t → GoesOn t
  -- after each close, and until the next, ask tells the verdict that progressing the whole rule, folded, in one place gives for the same events
  pub asks : (t : List ℕ) → Called s t → AskGets t (standing file us s)
  -- true: every endless continuation of the events meets the rule as written
  pub when_true : (standing file us s).verdict ≡ True → (w : Trace) → Satisfies (continued us w) (rule_in file)
  -- false: none does
  pub when_false : (standing file us s).verdict ≡ False → (w : Trace) → Satisfies (continued us w) (rule_in file) → ⊥
  -- no verdict comes later because the rule is folded: where the rule as written has one after these events, it is told
  pub in-time : (as_written file us ≡ Pending → ⊥) → (standing file us s).verdict ≡ as_written file us
  -- and none differs, however much later the rule as written has one
  pub agrees : (vs : List Event) → ((standing file us s).verdict ≡ Pending → ⊥) → (as_written file (us ++ vs) ≡ Pending → ⊥) → (standing file us s).verdict ≡ as_written file (us ++ vs)
