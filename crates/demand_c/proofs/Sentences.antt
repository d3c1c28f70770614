-- The third demand for the calls from C, sentence by sentence, as in crates/demand: each a theorem of its own that takes its part out of
-- `demanded-from-c`, so that no part of the claim can go, or say less, without a proof that fails here. Assumes nothing.
use mathlib.Core.Path.{◌≡◌}
use mathlib.Core.Bool.{true}
use mathlib.Core.List.{List, ◌++◌}
use Prim.Native.Nat.{ℕ}
use Rattle.answers.specs.declared.Verdict.TheVariants.{False, True, Pending}
use Rattle.ltl.specs.Meaning.{Event, Trace, Satisfies, continued}
use Rattle.ltl.specs.Progression.{progressed_over, verdict_of}
use Rattle.rules.specs.RuleFile.{masks_in_file}
use Rattle.state.specs.Calls.{done_in}
use Rattle.loading.specs.Load.{rule_in, start_in}
use Rattle.exported.specs.Exported.{CloseExported, AskExported}
use Rattle.demand.specs.Claims.{OneNetwork, standing}
use Rattle.demand_c.specs.FromC.{CalledFromC, SameGivenFromC, TickedFromC, WatchedFromC}
use Rattle.demand_c.specs.Demanded.{GoesOnFromC, Stores}
use Rattle.demand_c.proofs.Demand.{demanded-from-c}

module _ (file : List ℕ) (us : List Event) (s : List ℕ) (w : WatchedFromC file us s) where
  -- equal samples close to the same next network: from one network, in two watches
  pub c-network-closes-alike : (other : List ℕ) (vs : List Event) (r : List ℕ) → WatchedFromC other vs r → OneNetwork s r
      → (d e : Event) (a b : List ℕ) (x : TickedFromC (masks_in_file file) s d a) (y : TickedFromC (masks_in_file other) r e b) → SameGivenFromC x.calls y.calls → OneNetwork a b
  c-network-closes-alike = (demanded-from-c w).same-network

  -- from one state, whatever the order of the calls: byte by byte
  pub c-order-closes-alike : (d e : Event) (a b : List ℕ) (x : TickedFromC (masks_in_file file) s d a) (y : TickedFromC (masks_in_file file) s e b) → SameGivenFromC x.calls y.calls → a ≡ b
  c-order-closes-alike = (demanded-from-c w).same_bytes

  -- also where the close is refused
  pub c-order-answers-alike : (t u : List ℕ) (c : CalledFromC s t) (d : CalledFromC s u) → done_in t ≡ true → done_in u ≡ true → SameGivenFromC c d
      → (second a b : List ℕ) (m n : ℕ) → CloseExported t second a m → CloseExported u second b n → (m ≡ n) × (a ≡ b)
  c-order-answers-alike = (demanded-from-c w).same-close

  -- until a verdict there is a call that goes on
  pub c-tick-not-stuck : verdict_of (progressed_over us (start_in file)) ≡ Pending → (t : List ℕ) → CalledFromC s t → GoesOnFromC t
  c-tick-not-stuck = (demanded-from-c w).goes_on

  -- the verdict that is stored is that of one place
  pub c-verdict-of-one-place : (t : List ℕ) → CalledFromC s t → (verdict ticks slots nodes verdict' ticks' slots' nodes' n : ℕ)
      → AskExported t verdict ticks slots nodes verdict' ticks' slots' nodes' n → Stores (standing file us s) verdict' ticks' slots' nodes' n
  c-verdict-of-one-place = (demanded-from-c w).asks

  -- true: whatever comes meets the rule
  pub c-true-is-met : verdict_of (progressed_over us (start_in file)) ≡ True → (tail : Trace) → Satisfies (continued us tail) (rule_in file)
  c-true-is-met = (demanded-from-c w).when_true

  -- false: nothing that comes does
  pub c-false-is-unmet : verdict_of (progressed_over us (start_in file)) ≡ False → (tail : Trace) → Satisfies (continued us tail) (rule_in file) → ⊥
  c-false-is-unmet = (demanded-from-c w).when_false

  -- no verdict comes later because the rule is folded
  pub c-verdict-in-time : (verdict_of (progressed_over us (rule_in file)) ≡ Pending → ⊥) → verdict_of (progressed_over us (start_in file)) ≡ verdict_of (progressed_over us (rule_in file))
  c-verdict-in-time = (demanded-from-c w).in-time

  -- and none differs
  pub c-verdict-agrees : (vs : List Event) → (verdict_of (progressed_over us (start_in file)) ≡ Pending → ⊥) → (verdict_of (progressed_over (us ++ vs) (rule_in file)) ≡ Pending → ⊥)
      → verdict_of (progressed_over us (start_in file)) ≡ verdict_of (progressed_over (us ++ vs) (rule_in file))
  c-verdict-agrees = (demanded-from-c w).agrees
