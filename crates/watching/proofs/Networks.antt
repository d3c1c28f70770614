-- The network of a state and its slots' marks after a call: `network-is` has the network by its slots, `marks_of` and `mark-is` the marks;
-- `sample-network`, `sample-marks`, `step-network`, `step-marks` are the two calls. Assumes nothing.
use mathlib.Core.Path.{◌≡◌, sym, ap, ap₂, ◌∙◌, subst}
use mathlib.Core.Bool.{Bool, true, false}
use mathlib.Core.List.{List}
use Prim.Native.Nat.{ℕ, ◌<◌}
use native.Mathlib.Decide.{ℕ_discrete}
use native.Mathlib.Omega.{arith}
use lib.ListN.{length, set, length-set}
use lib.Seq.{get_or-set_same, get_or-set_other, ext_get_or}
use lib.Dec.{eqb}
use borrow.Author.Tests.{eq-eqb}
use Rattle.ltl.specs.Formula.{Formula, constant}
use Rattle.ltl.specs.Progression.{resolved, filled, verdict_of}
use Rattle.network.specs.Layout.{Slot, slot_at}
use Rattle.network.specs.Tick.{marked, verdict_at, stepped}
use Rattle.network.proofs.Holding.{holds-map}
use Rattle.network.proofs.Settling.{filled-same}
use Rattle.state.specs.Fields.{boards_in, slots_in, sample_in, board_of_in, stepped_in}
use Rattle.state.specs.Clauses.{state_ok}
use Rattle.state.specs.Bytes.{formula_at, network_of}
use Rattle.state.specs.Writes.{sample_given}
use Rattle.state.specs.Calls.{ready_in, stepped_to}
use Rattle.state.proofs.Listed.{network-length, network-at}
use Rattle.state.proofs.Framed.{Framed}
use Rattle.state.proofs.SameSlots.{SameSlot}
use Rattle.state.proofs.Sampled.{sample-framed, sample-slot}
use Rattle.checked.proofs.Passing.{passing, passing-sized, passing-stretched}
use Rattle.checked.proofs.Held.{slot-holds}
use Rattle.lists.specs.Listed.{listed}
use Rattle.lists.proofs.Listed.{listed-length, listed_at}
use Rattle.keeping.proofs.Slots.{same-formula-at}
use Rattle.keeping.proofs.Stepping.{after, step-framed, step-slot, step-mark}
use Rattle.keeping.proofs.StepPasses.{step-formula}

-- the slot that is not there
abbrev no_slot : Slot
no_slot = record { board = 0; formula = constant false }

pub network-is : (t : List ℕ) (slots : List Slot) → slots_in t ≡ length slots
    → ((k : ℕ) → k < slots_in t → slot_at slots k ≡ record { board = board_of_in t k; formula = formula_at t k }) → network_of t ≡ slots
network-is t slots n h =
    let m = network-length t in
    ext_get_or no_slot (network_of t) slots (m ∙ n) (λ k l. (let i : k < slots_in t = omega arith in network-at t k i ∙ sym (h k i)))

-- ---- marks
-- which slots are stepped
abbrev pub marks_of : List ℕ → List Bool
marks_of s = listed (λ k. eqb (stepped_in s k) 1) (slots_in s)

marks-length : (s : List ℕ) → length (marks_of s) ≡ slots_in s
marks-length s = listed-length (λ k. eqb (stepped_in s k) 1) (slots_in s)

pub mark-is : (s : List ℕ) (k : ℕ) → k < slots_in s → marked (marks_of s) k ≡ eqb (stepped_in s k) 1
mark-is s k l = listed_at false (λ k. eqb (stepped_in s k) 1) (slots_in s) k l

pub marks-are : (t : List ℕ) (marks : List Bool) → slots_in t ≡ length marks → ((k : ℕ) → k < slots_in t → marked marks k ≡ eqb (stepped_in t k) 1) → marks_of t ≡ marks
marks-are t marks n h =
    let m = marks-length t in
    ext_get_or false (marks_of t) marks (m ∙ n) (λ k l. (let i : k < slots_in t = omega arith in mark-is t k i ∙ sym (h k i)))

-- ---- after a sample
module _ (s : List ℕ) (ok : state_ok s ≡ true) (b bits : ℕ) (there : b < boards_in s) where
  abbrev given : List ℕ
  given = sample_given s b bits

  frame : Framed s given
  frame = sample-framed s (passing-sized s ok) b bits there

  same : (k : ℕ) → k < slots_in s → SameSlot s given k
  same k l = sample-slot s (passing-sized s ok) b bits there k l (passing-stretched s ok k l)

  pub sample-network : network_of given ≡ network_of s
  sample-network =
      let n = frame.slots in
      network-is given (network_of s) (n ∙ sym (network-length s))
      (λ k l.
      (let i : k < slots_in s = omega arith in
      network-at s k i ∙ ap₂ (λ (c : ℕ) (g : Formula). record { board = c; formula = g }) (sym (frame.board k i)) (sym (same-formula-at (same k i)))))

  pub sample-marks : marks_of given ≡ marks_of s
  sample-marks =
      let n = frame.slots in
      marks-are given (marks_of s) (n ∙ sym (marks-length s))
      (λ k l. (let i : k < slots_in s = omega arith in mark-is s k i ∙ ap (λ (m : ℕ). eqb m 1) (sym (same k i).mark)))

-- ---- after a step
module _ (s : List ℕ) (ok : state_ok s ≡ true) (k : ℕ) (l : k < slots_in s) (fresh : stepped_in s k ≡ 0) (ready : ready_in s k ≡ true) where
  abbrev left : List ℕ
  left = after s k

  -- the slot as it becomes
  abbrev new : Slot
  new = record { board = board_of_in s k; formula = stepped_to s k }

  new_is : stepped (sample_in s) (network_of s) k ≡ set (network_of s) k new
  unfolding stepped stepped_to
  new_is =
      let x = (passing s ok).slots k l in
      ap (λ (c : Slot). set (network_of s) k (record { board = c.board; formula = resolved (sample_in s c.board) (filled (verdict_at (network_of s)) c.formula) })) (network-at s k l)
      ∙ ap (λ (g : Formula). set (network_of s) k (record { board = board_of_in s k; formula = resolved (sample_in s (board_of_in s k)) g }))
      (filled-same (verdict_at (network_of s)) (λ m. verdict_of (formula_at s m)) (formula_at s k)
      (holds-map (λ m. (k < m) × (m < slots_in s)) (λ m. verdict_at (network_of s) m ≡ verdict_of (formula_at s m)) (λ m h. ap (λ (c : Slot). verdict_of c.formula) (network-at s m h.1))
      (formula_at s k) (slot-holds s k x)))

  pub step-network : network_of left ≡ stepped (sample_in s) (network_of s) k
  step-network =
      let f = step-framed s ok k l in
      let n = f.slots in
      network-is left (set (network_of s) k new) (n ∙ sym (length-set (network_of s) k new ∙ network-length s)) (λ j i. slot j (omega arith) (ℕ_discrete j k)) ∙ sym new_is
    where
      slot : (j : ℕ) → j < slots_in s → Dec (j ≡ k) → slot_at (set (network_of s) k new) j ≡ record { board = board_of_in left j; formula = formula_at left j }
      slot j h (yes e) = subst (λ (i : ℕ). slot_at (set (network_of s) k new) i ≡ record { board = board_of_in left i; formula = formula_at left i }) (sym e)
          (get_or-set_same (network_of s) k new no_slot (omega (arith, network-length s))
          ∙ ap₂ (λ (c : ℕ) (g : Formula). record { board = c; formula = g }) (sym ((step-framed s ok k l).board k l)) (sym (step-formula s ok k l fresh ready)))
      slot j h (no e) =
          get_or-set_other (network_of s) k j new no_slot e ∙ network-at s j h
          ∙ ap₂ (λ (c : ℕ) (g : Formula). record { board = c; formula = g }) (sym ((step-framed s ok k l).board j h)) (sym (same-formula-at (step-slot s ok k l j h e)))

  pub step-marks : marks_of left ≡ set (marks_of s) k true
  step-marks =
      let n = (step-framed s ok k l).slots in
      marks-are left (set (marks_of s) k true) (n ∙ sym (length-set (marks_of s) k true ∙ marks-length s)) (λ j i. mark j (omega arith) (ℕ_discrete j k))
    where
      mark : (j : ℕ) → j < slots_in s → Dec (j ≡ k) → marked (set (marks_of s) k true) j ≡ eqb (stepped_in left j) 1
      mark j h (yes e) = subst (λ (i : ℕ). marked (set (marks_of s) k true) i ≡ eqb (stepped_in left i) 1) (sym e)
          (get_or-set_same (marks_of s) k true false (omega (arith, marks-length s)) ∙ sym (eq-eqb _ _ (step-mark s ok k l)))
      mark j h (no e) = get_or-set_other (marks_of s) k j true false e ∙ mark-is s j h ∙ ap (λ (m : ℕ). eqb m 1) (sym (step-slot s ok k l j h e).mark)
