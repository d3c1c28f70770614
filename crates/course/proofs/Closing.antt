-- What an accepted tick leaves, of a state that passes its check and is not finished: `closed-tick`, with `ClosedTick`. Its checks have
-- passed (`tick-passed`, with `TickPassed`), and every board has sampled and every slot is stepped when the close is called
-- (`tick-stepped`). Assumes nothing.
use mathlib.Core.Path.{◌≡◌, sym, ap, ◌∙◌}
use mathlib.Core.Bool.{true, false}
use mathlib.Core.List.{List, []}
use Prim.Native.Nat.{ℕ, ◌+◌, ◌^◌, ◌<◌, ◌≤◌}
use native.Mathlib.Nat.{lt_of_lt_of_le}
use native.Mathlib.Omega.{arith}
use lib.ListN.{length}
use lib.Pow.{pow_mono}
use borrow.Author.Tests.{eq-eqb, leb-true, ltb-true}
use Rattle.limits.specs.Limits.{boards_most, propositions_most, holder_codes}
use Rattle.lists.proofs.Tests.{no_true}
use Rattle.answers.specs.Said.{Said, accepted}
use Rattle.answers.proofs.Answers.{order-passed}
use Rattle.ltl.specs.Formula.{Coded}
use Rattle.ltl.proofs.Decoding.{wider}
use Rattle.masks.specs.Masks.{union_with, sum_ones}
use Rattle.masks.proofs.Exact.{rule-less}
use Rattle.network.specs.Layout.{Slot, slot_at}
use Rattle.state.specs.Form.{form_in, slots_most, nodes_most}
use Rattle.state.specs.Fields.{boards_in, ticks_in, masks_in}
use Rattle.state.specs.Clauses.{in_mask, state_ok}
use Rattle.state.specs.Bytes.{nodes_of, state_of}
use Rattle.state.specs.Calls.{finished_in, next_in}
use Rattle.state.proofs.Forms.{slots-coded}
use Rattle.state.proofs.Framed.{Framed, form-same, masks-same}
use Rattle.state.proofs.Listed.{masks-length}
use Rattle.state.proofs.Parts.{state-length}
use Rattle.state.proofs.Reading.{reads-boards}
use Rattle.state.proofs.Fresh.{reads-sampled, reads-masks, reads-ticks}
use Rattle.checked.proofs.Checked.{each_of}
use Rattle.checked.proofs.Passing.{passing}
use Rattle.checked.proofs.Closed.{closed-fits, closed-passes}
use Rattle.keeping.proofs.Calls.{accepted-leaves}
use Rattle.course.specs.Given.{given_under}
use Rattle.course.specs.Ticked.{tick_leaves, tick_says, closed_to}
use Rattle.course.specs.Order.{none_sampled, tick_order}
use Rattle.course.proofs.Slots.{SteppedFrom, stepped-finish, all-stepped, last-fails, one-fails}
use Rattle.course.proofs.Given.{TickGiven, outside, sampled, stepped, given-comes}
use Rattle.course.proofs.InOrder.{tick-closes, tick-in-order}

-- ---- the checks have passed
pub record TickPassed (s : List ℕ) (event : ℕ) : Type 0 where
  pub inside : in_mask event (union_with 0 (masks_in s)) ≡ true
  pub fresh : none_sampled s ≡ true
  pub passes : state_ok (tick_leaves s event) ≡ true
  pub few-ticks : ticks_in s + 1 < 2 ^ 32
  pub few-slots : length (next_in (tick_leaves s event)) ≤ slots_most (form_in s)
  pub few-nodes : nodes_of (next_in (tick_leaves s event)) ≤ nodes_most (form_in s)

pub record ClosedTick (s : List ℕ) (event : ℕ) : Type 0 where
  pub closes : closed_to s event ≡ state_of (form_in s) (masks_in s) (next_in (tick_leaves s event)) (ticks_in s + 1)
  pub passes : state_ok (closed_to s event) ≡ true
  pub fresh : none_sampled (closed_to s event) ≡ true
  pub masks : masks_in (closed_to s event) ≡ masks_in s
  pub long : length (closed_to s event) ≡ length s
  pub ticks : ticks_in (closed_to s event) ≡ ticks_in s + 1

module _ (s : List ℕ) (ok : state_ok s ≡ true) (unfinished : finished_in s ≡ false) (event : ℕ) (says : tick_says s event ≡ accepted []) where
  pub tick-passed : TickPassed s event
  unfolding tick_order
  tick-passed =
      let q = order-passed _ (accepted []) (omega arith, (omega arith, (omega arith, (omega arith, (omega arith, (omega arith, tt)))))) (ap (λ (a : Said). a.number) (sym (tick-in-order s ok unfinished event) ∙ says)) in
      record {
        inside = q.0;
        fresh = q.1.0;
        passes = q.1.1.0;
        few-ticks = ltb-true _ _ q.1.1.1.0;
        few-slots = leb-true _ _ q.1.1.1.1.0;
        few-nodes = leb-true _ _ q.1.1.1.1.1.0;
      }

  abbrev t : List ℕ
  t = tick_leaves s event

  -- so the calls before the close were all accepted
  record AllGiven : Type 0 where
    given : (given_under s event).says ≡ accepted []
    done : SteppedFrom s t 0

  all-given : AllGiven
  all-given = go (given-comes s ok unfinished event)
    where
      go : TickGiven s event (given_under s event) → AllGiven
      go (outside e says) = absurd (no_true (sym e ∙ tick-passed.inside))
      go (sampled inside e says) = absurd (no_true (sym e ∙ tick-passed.fresh))
      go (stepped inside fresh (one-fails says e)) = absurd (no_true (sym e ∙ tick-passed.passes))
      go (stepped inside fresh (last-fails says frame e)) = absurd (no_true (sym e ∙ tick-passed.passes))
      go (stepped inside fresh (all-stepped says x)) = record { given = says; done = x }

  pub tick-stepped : SteppedFrom s t 0
  tick-stepped = all-given.done

  abbrev frame : Framed s t
  frame = tick-stepped.frame

  -- ---- the state that is written
  abbrev next : List Slot
  next = next_in t

  written : state_of (form_in t) (masks_in t) next (ticks_in t + 1) ≡ state_of (form_in s) (masks_in s) next (ticks_in s + 1)
  written = λ i. state_of (form-same frame i) (masks-same frame i) next (frame.ticks i + 1)

  closed : closed_to s event ≡ state_of (form_in s) (masks_in s) next (ticks_in s + 1)
  closed = accepted-leaves _ (state_of (form_in t) (masks_in t) next (ticks_in t + 1)) s (sym (tick-closes s event all-given.given) ∙ says) ∙ written

  passes : state_ok (state_of (form_in s) (masks_in s) next (ticks_in s + 1)) ≡ true
  passes =
      let p = tick-passed in
      let a = ap slots_most (form-same frame) in
      let b = ap nodes_most (form-same frame) in
      let m = p.few-slots in
      let n = p.few-nodes in
      ap state_ok (sym written) ∙ closed-passes t p.passes (stepped-finish s t tick-stepped) (omega arith) (omega arith)

  few-boards : length (masks_in s) ≤ boards_most
  few-boards = omega (arith, masks-length s, (passing s ok).header.few-boards)

  coded : (k : ℕ) → k < length next → Coded (slot_at next k).formula
  coded k l =
      let p = tick-passed in
      let m = p.few-slots in
      wider (sum_ones (masks_in t)) (length next) propositions_most holder_codes (passing t p.passes).few-propositions (omega (arith, slots-coded (form_in s))) (slot_at next k).formula
      (closed-fits t p.passes (stepped-finish s t tick-stepped) k l).within

  pub closed-tick : ClosedTick s event
  closed-tick =
      let p = tick-passed in
      let c = passing s ok in
      let φ = form_in s in
      let masks = masks_in s in
      let ticks = ticks_in s + 1 in
      let u = state_of φ masks next ticks in
      let boards = reads-boards φ masks next ticks few-boards p.few-slots p.few-nodes coded in
      let unsampled : none_sampled u ≡ true = each_of _ (boards_in u) (λ b l. eq-eqb _ _ (reads-sampled φ masks next ticks few-boards p.few-slots p.few-nodes coded b (omega arith))) in
      record {
        closes = closed;
        passes = ap state_ok closed ∙ passes;
        fresh = ap none_sampled closed ∙ unsampled;
        masks = ap masks_in closed
            ∙ reads-masks φ masks next ticks few-boards p.few-slots p.few-nodes coded (λ i l. lt_of_lt_of_le (rule-less (sum_ones masks) masks c.masks-rule i l) (pow_mono c.few-propositions));
        long = ap length closed ∙ state-length φ masks next ticks few-boards p.few-slots p.few-nodes coded ∙ sym c.long;
        ticks = ap ticks_in closed ∙ reads-ticks φ masks next ticks few-boards p.few-slots p.few-nodes coded p.few-ticks;
      }
