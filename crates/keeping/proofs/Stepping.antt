-- What an accepted step leaves: nothing but its slot is touched (`step-framed`, `step-sample`, `step-flag`, `step-slot`), and the slot is
-- then stepped and holds what it became, with zeros behind it in its stretch (`step-mark`, `step-length`, `step-bytes`, `step-gap`).
-- Assumes nothing.
use mathlib.Core.Path.{◌≡◌, ap, ◌∙◌}
use mathlib.Core.Bool.{true}
use mathlib.Core.List.{List}
use Prim.Native.Nat.{ℕ, ◌-◌, ◌<◌}
use lib.ListN.{length, replicate}
use lib.Seq.{take_at, drop_at}
use Rattle.lists.specs.Runs.{padded}
use Rattle.ltl.specs.Formula.{size, encode}
use Rattle.ltl.proofs.Decoding.{length-encode}
use Rattle.state.specs.Fields.{boards_in, slots_in, sample_in, sampled_in, stepped_in, length_in, slot_bytes}
use Rattle.state.specs.Clauses.{all_zero, gap_ok, state_ok}
use Rattle.state.specs.Writes.{slot_stepped}
use Rattle.state.specs.Calls.{stepped_to}
use Rattle.state.proofs.Fresh.{zeros-zero}
use Rattle.state.proofs.Framed.{Framed}
use Rattle.state.proofs.SameSlots.{SameSlot}
use Rattle.state.proofs.Stepped.{stepped-framed, stepped-sample, stepped-flag, stepped-slot, stepped-mark, stepped-length, stepped-bytes, stepped-gap}
use Rattle.checked.proofs.Passing.{passing, passing-sized, passing-stretched}
use Rattle.checked.proofs.Stepping.{step_fits, step_room}

-- the nodes that are put, and the state with them
abbrev nodes_put : List ℕ → ℕ → List ℕ
nodes_put s k = padded (length_in s k) (encode (stepped_to s k))

abbrev pub after : List ℕ → ℕ → List ℕ
after s k = slot_stepped s k (size (stepped_to s k)) (nodes_put s k)

module _ (s : List ℕ) (ok : state_ok s ≡ true) (k : ℕ) (l : k < slots_in s) where
  pub step-framed : Framed s (after s k)
  step-framed = stepped-framed s (passing-sized s ok) (passing-stretched s ok) k l _ (nodes_put s k) (step_room s ok k l)

  -- the boards' samples and flags
  module _ (b : ℕ) (h : b < boards_in s) where
    pub step-sample : sample_in (after s k) b ≡ sample_in s b
    step-sample = stepped-sample s (passing-sized s ok) (passing-stretched s ok) k l _ (nodes_put s k) (step_room s ok k l) b h

    pub step-flag : sampled_in (after s k) b ≡ sampled_in s b
    step-flag = stepped-flag s (passing-sized s ok) (passing-stretched s ok) k l _ (nodes_put s k) (step_room s ok k l) b h

  -- another slot
  pub step-slot : (j : ℕ) → j < slots_in s → (j ≡ k → ⊥) → SameSlot s (after s k) j
  step-slot = stepped-slot s (passing-sized s ok) (passing-stretched s ok) k l _ (nodes_put s k) (step_room s ok k l)

  -- ---- the slot itself
  pub step-mark : stepped_in (after s k) k ≡ 1
  step-mark = stepped-mark s (passing-sized s ok) (passing-stretched s ok) k l _ (nodes_put s k) (step_room s ok k l)

  pub step-length : length_in (after s k) k ≡ size (stepped_to s k)
  step-length = stepped-length s (passing-sized s ok) (passing-stretched s ok) k l _ (nodes_put s k) (step_room s ok k l) (step_fits s ok k l)

  -- the zeros that are put behind what it became
  abbrev gap : ℕ
  gap = length_in s k - length (encode (stepped_to s k))

  pub step-bytes : slot_bytes (after s k) k ≡ encode (stepped_to s k)
  step-bytes =
      stepped-bytes s (passing-sized s ok) (passing-stretched s ok) k l _ (nodes_put s k) (step_room s ok k l) (step_fits s ok k l)
      ∙ take_at (encode (stepped_to s k)) (replicate gap 0) (size (stepped_to s k)) (length-encode (stepped_to s k))

  pub step-gap : stepped_in s k ≡ 0 → gap_ok (after s k) k ≡ true
  step-gap fresh =
      let zeros = drop_at (encode (stepped_to s k)) (replicate gap 0) (size (stepped_to s k)) (length-encode (stepped_to s k)) in
      stepped-gap s (passing-sized s ok) (passing-stretched s ok) k l _ (nodes_put s k) (step_room s ok k l) (step_fits s ok k l)
      (((passing s ok).slots k l).fills fresh) (ap all_zero zeros ∙ zeros-zero gap)
