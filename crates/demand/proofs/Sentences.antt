-- The workshop's third demand, sentence by sentence, each a theorem of its own that takes its part out of `demanded`. It says nothing new: it
-- stands so that no part of the claim can go, or say less, without a proof that fails here. Assumes nothing.
use Rattle.std.specs.Prelude.{Result, ⊤}
use Rattle.answers.specs.declared.Refusal.{Refusal}
use mathlib.Core.Path.{◌≡◌, refl}
use mathlib.Core.Bool.{true}
use mathlib.Core.List.{List, ◌++◌}
use Prim.Native.Nat.{ℕ}
use Rattle.answers.specs.declared.Verdict.TheVariants.{False, True, Pending}
use Rattle.ltl.specs.Meaning.{Event, Trace, Satisfies, continued}
use Rattle.ltl.specs.Progression.{progressed_over, verdict_of}
use Rattle.rules.specs.RuleFile.{masks_in_file}
use Rattle.state.specs.Calls.{done_in}
use Rattle.closing.specs.Close.{Closes}
use Rattle.loading.specs.Load.{rule_in, start_in}
use Rattle.demand.specs.Called.{Called, SameGiven, Ticked, Watched}
use Rattle.demand.specs.Claims.{OneNetwork, GoesOn, AskGets, standing}
use Rattle.demand.proofs.Demand.{demanded}

module _ (file : List ℕ) (us : List Event) (s : List ℕ) (w : Watched file us s) where
  -- equal samples close to the same next network: from one network, in two watches
  pub one-network-closes-alike : (other : List ℕ) (vs : List Event) (r : List ℕ) → Watched other vs r → OneNetwork s r
      → (d e : Event) (a b : List ℕ) (x : Ticked (masks_in_file file) s d a) (y : Ticked (masks_in_file other) r e b) → SameGiven x.calls y.calls → OneNetwork a b
  one-network-closes-alike = (demanded w).same-network

  -- from one state, whatever the order of the calls: byte by byte
  pub any-order-closes-alike : (d e : Event) (a b : List ℕ) (x : Ticked (masks_in_file file) s d a) (y : Ticked (masks_in_file file) s e b) → SameGiven x.calls y.calls → a ≡ b
  any-order-closes-alike = (demanded w).same_bytes

  -- also where the close is refused
  pub any-order-answers-alike : (t u : List ℕ) (c : Called s t) (d : Called s u) → done_in t ≡ true → done_in u ≡ true → SameGiven c d
      → (second a b : List ℕ) (x y : Result ⊤ Refusal) → Closes t second a x → Closes u second b y → (x ≡ y) × (a ≡ b)
  any-order-answers-alike = (demanded w).same-close

  -- until a verdict there is a call that goes on
  pub no-tick-stuck : verdict_of (progressed_over us (start_in file)) ≡ Pending → (t : List ℕ) → Called s t → GoesOn t
  no-tick-stuck = (demanded w).goes_on

  -- the verdict that is told is that of one place
  pub verdict-of-one-place : (t : List ℕ) → Called s t → AskGets t (standing file us s)
  verdict-of-one-place = (demanded w).asks

  pub standing-verdict : (standing file us s).verdict ≡ verdict_of (progressed_over us (start_in file))
  standing-verdict = refl

  -- true: whatever comes meets the rule
  pub true-is-met : verdict_of (progressed_over us (start_in file)) ≡ True → (tail : Trace) → Satisfies (continued us tail) (rule_in file)
  true-is-met = (demanded w).when_true

  -- false: nothing that comes does
  pub false-is-unmet : verdict_of (progressed_over us (start_in file)) ≡ False → (tail : Trace) → Satisfies (continued us tail) (rule_in file) → ⊥
  false-is-unmet = (demanded w).when_false

  -- no verdict comes later because the rule is folded
  pub verdict-in-time : (verdict_of (progressed_over us (rule_in file)) ≡ Pending → ⊥) → verdict_of (progressed_over us (start_in file)) ≡ verdict_of (progressed_over us (rule_in file))
  verdict-in-time = (demanded w).in-time

  -- and none differs
  pub verdict-agrees : (vs : List Event) → (verdict_of (progressed_over us (start_in file)) ≡ Pending → ⊥) → (verdict_of (progressed_over (us ++ vs) (rule_in file)) ≡ Pending → ⊥)
      → verdict_of (progressed_over us (start_in file)) ≡ verdict_of (progressed_over (us ++ vs) (rule_in file))
  verdict-agrees = (demanded w).agrees
