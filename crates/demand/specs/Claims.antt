-- The words in which the third demand is claimed of the calls' promises. Assumes nothing: these are definitions.
use Rattle.answers.specs.declared.Refusal.{Refusal}
use Rattle.std.specs.Prelude.{◌≡◌, true, List, ℕ, length, Result, Ok, Err, ⊤}
use Rattle.answers.specs.declared.Refusal.TheVariants.{Slots, Nodes, Ticks}
use Rattle.answers.specs.declared.Verdict.{Verdict}
use Rattle.ltl.specs.Meaning.{Event}
use Rattle.ltl.specs.Progression.{progressed_over, verdict_of}
use Rattle.state.specs.Form.{form_in, state_length}
use Rattle.state.specs.Fields.{masks_in}
use Rattle.state.specs.Bytes.{nodes_of, network_of}
use Rattle.state.specs.Calls.{done_in}
use Rattle.telling.specs.declared.Standing.{Standing}
use Rattle.telling.specs.Ask.{Asks}
use Rattle.taking.specs.Sample.{Samples}
use Rattle.settling.specs.Step.{StepsSlot}
use Rattle.closing.specs.Close.{Closes}
use Rattle.loading.specs.Load.{rule_in, start_in}
use Rattle.demand.specs.Called.{Called, nothing, sampled, stepped, asked, closed, load-refused, close-refused, write-refused, parse-refused, print-refused, central-refused, read-refused, capture-refused, capture-second-refused, report-refused, add-refused, mend-refused, mend-marks-refused, GivenBy}

-- the call, by its promise of what it leaves and answers, gets this answer: it is allowed, and no other is
pub record Gets (Promise : List ℕ → Result ⊤ Refusal → Type 0) (wanted : Result ⊤ Refusal) : Type 0 where
  pub leaves : List ℕ
  pub allowed : Promise leaves wanted
  pub only : (s' : List ℕ) (answer : Result ⊤ Refusal) → Promise s' answer → answer ≡ wanted

-- the close, into any second buffer of the state's length, gets this answer
abbrev pub CloseGets : List ℕ → Result ⊤ Refusal → Type 0
CloseGets t wanted = (second : List ℕ) → length second ≡ state_length (form_in t) → Gets (Closes t second) wanted

-- the close is accepted, or gets 7, 8 or 15: the next layout has too many slots or nodes, or no tick can be counted any more
pub data Closing (t : List ℕ) : Type 0 where
  accepts : CloseGets t (Ok tt) → Closing t
  too-many-slots : CloseGets t (Err Slots) → Closing t
  too-many-nodes : CloseGets t (Err Nodes) → Closing t
  no-more-ticks : CloseGets t (Err Ticks) → Closing t

-- the close is all that is left: every board has sampled and every slot is stepped, so that no sample and no step is accepted
pub record CloseLeft (t : List ℕ) : Type 0 where
  pub done : done_in t ≡ true
  pub no-sample : (board bits : ℕ) (t' : List ℕ) → Samples t board bits t' (Ok tt) → ⊥
  pub no_step : (slot : ℕ) (t' : List ℕ) → StepsSlot t slot t' (Ok tt) → ⊥

-- some sample is accepted, or some step; or the close is all that is left
pub data GoesOn (t : List ℕ) : Type 0 where
  samples : (board bits : ℕ) → Gets (Samples t board bits) (Ok tt) → GoesOn t
  steps : (slot : ℕ) → Gets (StepsSlot t slot) (Ok tt) → GoesOn t
  closes : CloseLeft t → Closing t → GoesOn t

-- two states hold one network: the same masks, and the same slots
pub record OneNetwork (s t : List ℕ) : Type 0 where
  pub masks : masks_in s ≡ masks_in t
  pub slots : network_of s ≡ network_of t

-- how a watch of a file stands after some events: the verdict of progressing the whole rule, folded, in one place, without a limit of size;
-- as many ticks as events; the slots and nodes of the state's network
abbrev pub standing : List ℕ → List Event → List ℕ → Standing
standing file us s =
    record { verdict = verdict_of (progressed_over us (start_in file)); ticks = length us; slots = length (network_of s); nodes = nodes_of (network_of s) }

-- the verdict of progressing the rule as written, without folding it
abbrev pub as_written : List ℕ → List Event → Verdict
as_written file us = verdict_of (progressed_over us (rule_in file))

-- ask answers so: it is allowed, and nothing else is
pub record AskGets (t : List ℕ) (wanted : Standing) : Type 0 where
  pub allowed : Asks t (Ok wanted)
  pub only : (answer : Result Standing Refusal) → Asks t answer → answer ≡ Ok wanted

-- every sample and every step among these calls was accepted, and nothing else was called
abbrev pub AllAccepted : {s t : List ℕ} → Called s t → Type 0
AllAccepted nothing = Unit {0}
AllAccepted (sampled c board bits answer p) = AllAccepted c × (answer ≡ Ok tt)
AllAccepted (stepped c slot answer p) = AllAccepted c × (answer ≡ Ok tt)
AllAccepted (asked c answer p) = ⊥
AllAccepted (closed c second second' answer p) = ⊥
AllAccepted (load-refused c file why p) = ⊥
AllAccepted (close-refused c other why p) = ⊥
AllAccepted (write-refused c masks q formula why p) = ⊥
AllAccepted (parse-refused c text answer r p) = ⊥
AllAccepted (print-refused c formula why p) = ⊥
AllAccepted (central-refused c formula event why p) = ⊥
AllAccepted (read-refused c file masks masks' why p) = ⊥
AllAccepted (capture-refused c second second' events why p) = ⊥
AllAccepted (capture-second-refused c other other' events why p) = ⊥
AllAccepted (report-refused c runs answer r p) = ⊥
AllAccepted (add-refused c night why p) = ⊥
AllAccepted (mend-refused c recording marks marks' why p) = ⊥
AllAccepted (mend-marks-refused c recording mended mended' why p) = ⊥

-- accepted samples and steps lead from s to this state: each board was given its part of the event, and the close is all that is left
pub record Reaches (masks : List ℕ) (s : List ℕ) (e : Event) (last : List ℕ) : Type 0 where
  pub calls : Called s last
  pub all : AllAccepted calls
  pub given : GivenBy masks e calls
  pub left : CloseLeft last
  pub closing : Closing last
