-- What the slots of a state that passes lay when it is closed: `lays-again`, `next-is`, and how much room they need. A slot's nodes, with
-- what its place holders lay, are no more than it lays itself: `slot-room`, `root-room`. Its place holders are of slots that
-- are there (`slot-hold`). Assumes nothing.
use mathlib.Core.Path.{◌≡◌, ap, ◌∙◌}
use mathlib.Core.Bool.{true}
use mathlib.Core.List.{List}
use mathlib.Core.Option.{Option}
use Prim.Native.Nat.{ℕ, ◌+◌, ◌<◌, ◌≤◌}
use native.Mathlib.Omega.{arith}
use lib.ListN.{length}
use Rattle.ltl.specs.Formula.{Formula, size, encode}
use Rattle.ltl.specs.Progression.{unfolded}
use Rattle.masks.specs.Masks.{sum_ones}
use Rattle.network.specs.Scores.{chosen}
use Rattle.network.specs.Layout.{Slot, Laid, cut, rooted, laid, relaid, close}
use Rattle.network.proofs.Owned.{unfolded-clean}
use Rattle.state.specs.Fields.{slots_in, masks_in, board_of_in}
use Rattle.state.specs.Clauses.{state_ok}
use Rattle.state.specs.Bytes.{nodes_of, formula_at, network_of}
use Rattle.state.specs.Calls.{next_in}
use Rattle.state.proofs.Listed.{network-length, network-at}
use Rattle.laying.proofs.Relays.{relaid-again}
use Rattle.checked.specs.Holds.{Holds}
use Rattle.checked.proofs.Passing.{passing}
use Rattle.checked.proofs.Bytes.{holds-formula}
use Rattle.counting.specs.Held.{held_over}
use Rattle.counting.proofs.Held.{clean-held}
use Rattle.counting.proofs.Networks.{nodes_of_slot, slot-clean, network-higher, nodes-at, next-nodes}
use Rattle.carrying.specs.Carries.{unfolded_at}
use Rattle.carrying.proofs.Coded.{slot-within, slot-coded}

module _ (s : List ℕ) where
  -- what a place holder lays
  abbrev pub hold_in : ℕ → ℕ → Laid
  hold_in = relaid (chosen (masks_in s)) (network_of s) (length (network_of s))

  module _ (ok : state_ok s ≡ true) where
    abbrev choose : Formula → Option ℕ
    choose = chosen (masks_in s)

    module _ (m : ℕ) (l : m < slots_in s) where
      pub slot-hold : Holds (slots_in s) (encode (unfolded_at s m))
      slot-hold = holds-formula (sum_ones (masks_in s)) (slots_in s) (unfolded_at s m) (passing s ok).few-propositions (slot-within s ok m l)

      pub slot-room : size (unfolded_at s m) + held_over (nodes_of_slot s) (encode (unfolded_at s m)) ≤ nodes_of_slot s m
      slot-room =
          let n = nodes-at s ok m l in
          let h = clean-held (nodes_of_slot s) choose (unfolded_at s m) (slot-coded s ok m l) (unfolded-clean choose (formula_at s m) (slot-clean s ok m l)) in
          omega arith

    pub lays-again : (m k : ℕ) → m < slots_in s → hold_in m k ≡ cut (board_of_in s m) k (laid choose hold_in (unfolded_at s m) (board_of_in s m) (k + 1))
    lays-again m k l =
        relaid-again choose (network_of s) (network-higher s ok) m k (omega (arith, network-length s))
        ∙ ap (λ (x : Slot). cut x.board k (laid choose hold_in (unfolded x.formula) x.board (k + 1))) (network-at s m l)

    -- ---- the root
    pub root-there : 0 < slots_in s
    root-there = let e = (passing s ok).header.some-slots in omega arith

    pub next-is : next_in s ≡ rooted (board_of_in s 0) (laid choose hold_in (unfolded_at s 0) (board_of_in s 0) 1)
    unfolding close
    next-is = ap (λ (x : Slot). rooted x.board (laid choose hold_in (unfolded x.formula) x.board 1)) (network-at s 0 root-there)

    pub root-room : size (unfolded_at s 0) + held_over (nodes_of_slot s) (encode (unfolded_at s 0)) ≤ nodes_of (next_in s)
    root-room = omega (arith, slot-room 0 root-there, next-nodes s ok)
