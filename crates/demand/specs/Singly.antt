-- A run of events by single calls: the boards are sampled, the lowest first; the slots are stepped, the highest first; the tick is closed
-- into the other buffer; and the buffers are changed over. Every call does something that its promise allows. Assumes nothing: these are
-- definitions.
use Rattle.std.specs.Prelude.{◌≡◌, true, false, List, [], ◌∷◌, ℕ, zero, suc, ◌+◌, Result, Ok, Err, ⊤}
use Rattle.std.specs.Int.Bits.{bit_and}
use Rattle.answers.specs.declared.Refusal.{Refusal}
use Rattle.answers.specs.declared.Refusal.TheVariants.{Outside}
use Rattle.state.specs.Fields.{boards_in, slots_in, mask_in, masks_in}
use Rattle.state.specs.Calls.{finished_in}
use Rattle.taking.specs.Sample.{Samples}
use Rattle.settling.specs.Step.{StepsSlot}
use Rattle.closing.specs.Close.{Closes}
use Rattle.demand.specs.Stopping.{covers}

-- boards i, i + 1, .. , n of them, are given their parts of the event, from one state to another, up to the first call that is refused;
-- the outcome of the last
pub data SampledSingly (event : ℕ) : ℕ → ℕ → List ℕ → List ℕ → Result ⊤ Refusal → Type 0 where
  no-board : {i : ℕ} {s : List ℕ} → SampledSingly event zero i s s (Ok tt)
  sample-refused : {n i : ℕ} {s s' : List ℕ} {why : Refusal} → Samples s i (bit_and event (mask_in s i)) s' (Err why) → SampledSingly event (suc n) i s s' (Err why)
  sample-then : {n i : ℕ} {s t s' : List ℕ} {answer : Result ⊤ Refusal} → Samples s i (bit_and event (mask_in s i)) t (Ok tt) → SampledSingly event n (i + 1) t s' answer → SampledSingly event (suc n) i s s' answer

-- the slots below k are stepped, the highest first, up to the first call that is refused; the outcome of the last
pub data SteppedSingly : ℕ → List ℕ → List ℕ → Result ⊤ Refusal → Type 0 where
  no_slot : {s : List ℕ} → SteppedSingly zero s s (Ok tt)
  step-refused : {k : ℕ} {s s' : List ℕ} {why : Refusal} → StepsSlot s k s' (Err why) → SteppedSingly (suc k) s s' (Err why)
  step_then : {k : ℕ} {s t s' : List ℕ} {answer : Result ⊤ Refusal} → StepsSlot s k t (Ok tt) → SteppedSingly k t s' answer → SteppedSingly (suc k) s s' answer

-- a tick: the state and the other buffer, what is in them afterwards, and the outcome of the last call. An event with a bit in no mask gets
-- 12, and no call is made; else all boards, all slots and the close into the other buffer, where none before it is refused
pub data TickedSingly (event : ℕ) : List ℕ → List ℕ → List ℕ → List ℕ → Result ⊤ Refusal → Type 0 where
  outside : {s second : List ℕ} → covers (masks_in s) event ≡ false → TickedSingly event s second s second (Err Outside)
  in-samples : {s second s' : List ℕ} {why : Refusal} → covers (masks_in s) event ≡ true → SampledSingly event (boards_in s) 0 s s' (Err why) → TickedSingly event s second s' second (Err why)
  in-steps : {s second t s' : List ℕ} {why : Refusal} → covers (masks_in s) event ≡ true → SampledSingly event (boards_in s) 0 s t (Ok tt)
      → SteppedSingly (slots_in s) t s' (Err why) → TickedSingly event s second s' second (Err why)
  in-close : {s second t s' second' : List ℕ} {answer : Result ⊤ Refusal} → covers (masks_in s) event ≡ true → SampledSingly event (boards_in s) 0 s t (Ok tt) → SteppedSingly (slots_in s) t s' (Ok tt)
      → Closes s' second second' answer → TickedSingly event s second s' second' answer

-- a run: from a state and another buffer, over some events, until they end, the state is finished or a tick is refused; how many were
-- closed, the outcome of the last tick, and the last closed state, where none was closed the one given. After a tick that was closed the
-- next one has its two buffers changed over. A tick that was refused has changed its state by the samples and steps before the refusal:
-- the last state is the one before that tick, so whoever makes the calls one at a time must have kept a copy of it.
pub data RunSingly : List ℕ → List ℕ → List ℕ → ℕ → Result ⊤ Refusal → List ℕ → Type 0 where
  no-event : {s second : List ℕ} → RunSingly s second [] 0 (Ok tt) s
  finished : {s second events : List ℕ} → finished_in s ≡ true → RunSingly s second events 0 (Ok tt) s
  tick-refused : {s second s' second' : List ℕ} {event : ℕ} {events : List ℕ} {why : Refusal} → finished_in s ≡ false → TickedSingly event s second s' second' (Err why)
      → RunSingly s second (event ∷ events) 0 (Err why) s
  tick-then : {s second s' second' : List ℕ} {event : ℕ} {events : List ℕ} {closed : ℕ} {answer : Result ⊤ Refusal} {last : List ℕ} → finished_in s ≡ false → TickedSingly event s second s' second' (Ok tt)
      → RunSingly second' s' events closed answer last → RunSingly s second (event ∷ events) (suc closed) answer last
