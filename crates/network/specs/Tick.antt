-- A tick over formulas. A slot is stepped once every slot that it holds is stepped: held slots that are constant are replaced by
-- their value, others stay place holders, and its formula is resolved under its board's sample. When all are stepped the network
-- is closed. Assumes nothing: these are definitions.
use Rattle.std.specs.Prelude.{◌≡◌, ℕ, ◌<◌, Bool, true, false, List, [], ◌∷◌, ◌++◌, length, get_or, set, replicate}
use Rattle.std.proofs.Math.Option.{Option}
use Rattle.lists.specs.Tests.{both}
use Rattle.kinds.specs.declared.Leaf.TheVariants.{Const, Prop, Hold}
use Rattle.answers.specs.declared.Verdict.{Verdict}
use Rattle.ltl.specs.Formula.{Formula, leaf, one, two}
use Rattle.ltl.specs.Meaning.{Event}
use Rattle.ltl.specs.Progression.{resolved, filled, verdict_of}
use Rattle.network.specs.Layout.{Slot, slot_at, load, close}

-- every slot that the formula holds passes the test
unfoldable pub holds_only : (ℕ → Bool) → Formula → Bool
holds_only test (leaf (Const v)) = true
holds_only test (leaf (Prop i)) = true
holds_only test (leaf (Hold m)) = test m
holds_only test (one o f) = holds_only test f
holds_only test (two o f g) = both (holds_only test f) (holds_only test g)

-- slot m is marked as stepped
abbrev pub marked : List Bool → ℕ → Bool
marked marks m = get_or marks m false

-- the verdict of slot m as it stands
abbrev pub verdict_at : List Slot → ℕ → Verdict
verdict_at slots m = verdict_of (slot_at slots m).formula

-- slot k stepped, the boards' samples given
unfoldable pub stepped : (ℕ → Event) → List Slot → ℕ → List Slot
stepped sample slots k =
    let s = slot_at slots k in
    set slots k (record { board = s.board; formula = resolved (sample s.board) (filled (verdict_at slots) s.formula) })

-- any number of steps, each allowed: the slot is there, not stepped, and holds stepped slots alone
pub data Steps (sample : ℕ → Event) : List Slot → List Bool → List Slot → List Bool → Type 0 where
  rest : {slots : List Slot} {marks : List Bool} → Steps sample slots marks slots marks
  step : {slots slots' : List Slot} {marks marks' : List Bool} (k : ℕ) → k < length slots → marked marks k ≡ false
      → holds_only (marked marks) (slot_at slots k).formula ≡ true
      → Steps sample (stepped sample slots k) (set marks k true) slots' marks'
      → Steps sample slots marks slots' marks'

-- all slots are stepped
abbrev pub AllMarked : List Slot → List Bool → Type 0
AllMarked slots marks = (k : ℕ) → k < length slots → marked marks k ≡ true

-- one tick: from a network with no slot stepped, in any allowed order until all are, and closed
pub record Ticks (choose : Formula → Option ℕ) (sample : ℕ → Event) (before after : List Slot) : Type 0 where
  pub last : List Slot
  pub marks : List Bool
  pub steps : Steps sample before (replicate (length before) false) last marks
  pub all : AllMarked last marks
  pub closes : after ≡ close choose last

-- a watch: a rule laid out, and a tick for each event, of which each board has its sample
pub data Watch (choose : Formula → Option ℕ) (sampled : Event → ℕ → Event) (rule : Formula) : List Event → List Slot → Type 0 where
  begun : Watch choose sampled rule [] (load choose rule)
  ticked : {us : List Event} {before after : List Slot} → Watch choose sampled rule us before → (e : Event) → Ticks choose (sampled e) before after
      → Watch choose sampled rule (us ++ (e ∷ [])) after
