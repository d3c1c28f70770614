-- The workshop's third demand, claimed of a watch by the calls from C. Its sentences are those of crates/demand. Assumes nothing: these are
-- definitions.
use Rattle.std.specs.Prelude.{◌≡◌, true, List, ◌++◌, ℕ, length}
use Rattle.answers.specs.Said.{verdict_number}
use Rattle.answers.specs.declared.Verdict.TheVariants.{False, True, Pending}
use Rattle.ltl.specs.Meaning.{Event, Trace, Satisfies, continued}
use Rattle.rules.specs.RuleFile.{masks_in_file}
use Rattle.state.specs.Form.{form_in, state_length}
use Rattle.state.specs.Calls.{done_in}
use Rattle.loading.specs.Load.{rule_in}
use Rattle.telling.specs.declared.Standing.{Standing}
use Rattle.exported.specs.Exported.{SampleExported, StepExported, CloseExported, AskExported}
use Rattle.demand.specs.Claims.{OneNetwork, standing, as_written}
use Rattle.demand_c.specs.FromC.{CalledFromC, SameGivenFromC, TickedFromC, WatchedFromC}

-- the call, by its promise of what it leaves and answers, answers this number: it may, and it may answer no other
pub record Answers (Promise : List ℕ → ℕ → Type 0) (number : ℕ) : Type 0 where
  pub leaves : List ℕ
  pub allowed : Promise leaves number
  pub only : (s' : List ℕ) (n : ℕ) → Promise s' n → n ≡ number

-- the close, into any second buffer of the state's length, answers this number
abbrev pub CloseAnswers : List ℕ → ℕ → Type 0
CloseAnswers t number = (second : List ℕ) → length second ≡ state_length (form_in t) → Answers (CloseExported t second) number

-- some sample answers 0, or some step; or every board has sampled and every slot is stepped, and the close answers 0, 7, 8 or 15
pub data GoesOnFromC (t : List ℕ) : Type 0 where
  samples : (board bits : ℕ) → Answers (SampleExported t board bits) 0 → GoesOnFromC t
  steps : (slot : ℕ) → Answers (StepExported t slot) 0 → GoesOnFromC t
  closes : done_in t ≡ true → CloseAnswers t 0 → GoesOnFromC t
  too-many-slots : done_in t ≡ true → CloseAnswers t 7 → GoesOnFromC t
  too-many-nodes : done_in t ≡ true → CloseAnswers t 8 → GoesOnFromC t
  no-more-ticks : done_in t ≡ true → CloseAnswers t 15 → GoesOnFromC t

-- ask answered 0 and stored this behind its pointers
pub record Stores (x : Standing) (verdict ticks slots nodes n : ℕ) : Type 0 where
  pub accepts : n ≡ 0
  pub verdict-is : verdict ≡ verdict_number x.verdict
  pub ticks-are : ticks ≡ x.ticks
  pub slots-are : slots ≡ x.slots
  pub nodes-are : nodes ≡ x.nodes

pub record DemandedFromC (file : List ℕ) (us : List Event) (s : List ℕ) : Type 0 where
  -- from one network equal samples close to the same next one
  pub same-network : (other : List ℕ) (vs : List Event) (r : List ℕ) → WatchedFromC other vs r → OneNetwork s r
      → (d e : Event) (a b : List ℕ) (x : TickedFromC (masks_in_file file) s d a) (y : TickedFromC (masks_in_file other) r e b) → SameGivenFromC x.calls y.calls → OneNetwork a b
  -- from one state they close to the same next one, byte by byte
  pub same_bytes : (d e : Event) (a b : List ℕ) (x : TickedFromC (masks_in_file file) s d a) (y : TickedFromC (masks_in_file file) s e b) → SameGivenFromC x.calls y.calls → a ≡ b
  -- where the close is all that is left it answers the same, and leaves the same
  pub same-close : (t u : List ℕ) (c : CalledFromC s t) (d : CalledFromC s u) → done_in t ≡ true → done_in u ≡ true → SameGivenFromC c d
      → (second a b : List ℕ) (m n : ℕ) → CloseExported t second a m → CloseExported u second b n → (m ≡ n) × (a ≡ b)
  -- no tick gets stuck
  pub goes_on : (standing file us s).verdict ≡ Pending → (t : List ℕ) → CalledFromC s t → GoesOnFromC t
  -- after each close, and until the next, ask stores the verdict that progressing the whole rule, folded, in one place gives for the same events
  pub asks : (t : List ℕ) → CalledFromC s t → (verdict ticks slots nodes verdict' ticks' slots' nodes' n : ℕ) → AskExported t verdict ticks slots nodes verdict' ticks' slots' nodes' n
      → Stores (standing file us s) verdict' ticks' slots' nodes' n
  -- true: every endless continuation of the events meets the rule as written
  pub when_true : (standing file us s).verdict ≡ True → (w : Trace) → Satisfies (continued us w) (rule_in file)
  -- false: none does
  pub when_false : (standing file us s).verdict ≡ False → (w : Trace) → Satisfies (continued us w) (rule_in file) → ⊥
  -- no verdict comes later because the rule is folded: where the rule as written has one after these events, it is told
  pub in-time : (as_written file us ≡ Pending → ⊥) → (standing file us s).verdict ≡ as_written file us
  -- and none differs, however much later the rule as written has one
  pub agrees : (vs : List Event) → ((standing file us s).verdict ≡ Pending → ⊥) → (as_written file (us ++ vs) ≡ Pending → ⊥) → (standing file us s).verdict ≡ as_written file (us ++ vs)
