-- Closing gives a state that passes the state check, for every state that passes and is done, whether it was reached from a rule or
-- not, where the new layout is within the limits: `closed-passes`. Its slots are `SlotFitting` (`closed-fits`). Assumes nothing.
use mathlib.Core.Path.{◌≡◌, ap, ◌∙◌}
use mathlib.Core.Bool.{true}
use mathlib.Core.List.{List}
use Prim.Native.Nat.{ℕ, ◌+◌, ◌<◌, ◌≤◌}
use native.Mathlib.Omega.{arith}
use lib.ListN.{length}
use lib.Dec.{eqb}
use borrow.Author.Tests.{eqb-true}
use Rattle.lists.proofs.Tests.{both-1}
use Rattle.masks.specs.Masks.{sum_ones}
use Rattle.network.specs.Scores.{chosen}
use Rattle.network.specs.Layout.{Slot, slot_at, close}
use Rattle.network.proofs.Owned.{OwnTop, unfolded-own-top}
use Rattle.network.proofs.Layouts.{each-slot, SlotStanding}
use Rattle.network.proofs.Numbers.{close-once}
use Rattle.records.proofs.Each.{each_at}
use Rattle.state.specs.Form.{form_in, slots_most, nodes_most}
use Rattle.state.specs.Fields.{slots_in, ticks_in, masks_in, board_of_in, stepped_in}
use Rattle.state.specs.Clauses.{lone_other, state_ok}
use Rattle.state.specs.Bytes.{nodes_of, state_of, formula_at, network_of}
use Rattle.state.specs.Calls.{done_in, next_in}
use Rattle.state.proofs.Listed.{masks-length, masks-at, network-length, network-at}
use Rattle.checked.proofs.Passing.{passing}
use Rattle.checked.proofs.Held.{slot-holds}
use Rattle.checked.proofs.Tidy.{tidy-clean, lone-top}
use Rattle.checked.proofs.Fitting.{SlotFitting, close-fits}
use Rattle.checked.proofs.Written.{written-passes}

close-some : (masks : List ℕ) (slots : List Slot) → 1 ≤ length (close (chosen masks) slots)
unfolding close
close-some masks slots = omega arith

module _ (s : List ℕ) (ok : state_ok s ≡ true) (done : done_in s ≡ true) where
  abbrev p : ℕ
  p = sum_ones (masks_in s)

  all-stepped : (k : ℕ) → k < slots_in s → stepped_in s k ≡ 1
  unfolding done_in
  all-stepped k l = eqb-true _ _ (each_at (λ k. eqb (stepped_in s k) 1) (slots_in s) k (both-1 _ _ done) l)

  -- a stepped slot can be laid out again
  slot-standing : (k : ℕ) → k < slots_in s → SlotStanding (chosen (masks_in s)) (OwnTop (chosen (masks_in s))) (slots_in s) k (record { board = board_of_in s k; formula = formula_at s k })
  slot-standing k l =
      let c = passing s ok in
      let x = c.slots k l in
      let f = formula_at s k in
      let b = board_of_in s k in
      let few = c.few-propositions in
      let rule = c.masks-rule in
      let lone = ap (λ (m : ℕ). lone_other m f) (masks-at s b x.board-there) ∙ x.not-lone (all-stepped k l) in
      record {
        clean = tidy-clean p (masks_in s) few rule (slots_in s) f x.within x.tidied;
        top = unfolded-own-top (chosen (masks_in s)) b f (lone-top p (masks_in s) few rule b f lone);
        holds = slot-holds s k x;
      }

  -- the network has as many slots, at least one, and they can all be laid out again, on boards that are there
  network-some : 0 < length (network_of s)
  network-some = omega (arith, network-length s, (passing s ok).header.some-slots)

  network-standing : (k : ℕ) → k < length (network_of s) → SlotStanding (chosen (masks_in s)) (OwnTop (chosen (masks_in s))) (length (network_of s)) k (slot_at (network_of s) k)
  network-standing k l =
      let h : k < slots_in s = omega (arith, network-length s) in
      rw (network-length s, network-at s k h) (slot-standing k h)

  network-there : (k : ℕ) → k < length (network_of s) → (slot_at (network_of s) k).board < length (masks_in s)
  network-there k l =
      let h : k < slots_in s = omega (arith, network-length s) in
      rw (network-at s k h) (omega (arith, masks-length s, ((passing s ok).slots k h).board-there))

  -- the slots that they are laid out to
  pub closed-fits : (k : ℕ) → k < length (next_in s) → SlotFitting p (masks_in s) (length (next_in s)) k (slot_at (next_in s) k)
  closed-fits =
      let c = passing s ok in
      each-slot (SlotFitting p (masks_in s) (length (next_in s))) (next_in s) (close-fits p (masks_in s) c.few-propositions c.masks-rule (network_of s) network-some network-standing network-there)

  pub closed-passes : length (next_in s) ≤ slots_most (form_in s) → nodes_of (next_in s) ≤ nodes_most (form_in s) → state_ok (state_of (form_in s) (masks_in s) (next_in s) (ticks_in s + 1)) ≡ true
  closed-passes few-slots few-nodes =
      let c = passing s ok in
      let masks = masks_in s in
      let h = c.header in
      written-passes (form_in s) p masks c.masks-rule c.some-propositions c.few-propositions (omega (arith, masks-length s, h.some-boards)) (omega (arith, masks-length s, h.few-boards))
      (next_in s) (close-some masks (network_of s)) few-slots few-nodes closed-fits (ticks_in s + 1) (close-once (chosen masks) (network_of s) network-some network-standing)
