-- What the counts of the new layout tell: `found-..` of the layout, `advanced-..` of the close, and within the limits what putting the
-- next state asks. Assumes nothing.
use Rattle.std.specs.Prelude.{Ok, Err}
use mathlib.Core.Path.{◌≡◌, sym, ap, ◌∙◌, subst}
use mathlib.Core.List.{List, []}
use Prim.Native.Nat.{ℕ, ◌<◌, ◌≤◌}
use native.Mathlib.Omega.{arith}
use lib.ListN.{length}
use borrow.Author.Tests.{le-leb, lt-leb}
use Rattle.answers.specs.declared.Refusal.{Refusal}
use Rattle.answers.specs.declared.Refusal.TheVariants.{Slots, Nodes}
use Rattle.answers.specs.Said.{Said, accepted, refused, left, number_of}
use Rattle.answers.proofs.Answers.{left-refused, left-accepted, order-ok, order-refused, order-done}
use Rattle.limits.specs.Limits.{nodes_room}
use Rattle.masks.specs.Masks.{sum_ones}
use Rattle.state.specs.declared.Counts.{Counts}
use Rattle.state.specs.Form.{form_in, slots_most, nodes_most}
use Rattle.state.specs.Fields.{masks_in}
use Rattle.state.specs.Bytes.{nodes_of}
use Rattle.state.specs.Calls.{next_in}
use Rattle.state.specs.Opened.{Opened}
use Rattle.state.proofs.Forms.{slots-few, nodes-few}
use Rattle.scores.specs.Owned.{Owned, Owns}
use Rattle.storing.specs.Stores.{ZeroFrom}
use Rattle.checked.proofs.Passing.{passing}
use Rattle.counting.specs.declared.Totals.{Totals}
use Rattle.counting.specs.OpenedWith.{OpenedWith}
use Rattle.counting.specs.Totals.{Totalled}
use Rattle.renewing.specs.Renew.{next_state, NextAsk}
use Rattle.advancing.specs.Advance.{AdvanceAsk, advance_says, NextCounts, Advances, Lent}

-- ---- the layout that is found
module _ (s : List ℕ) {r : Totals} (total : Totalled (next_in s) r) where
  pub found-slots : slots_most (form_in s) < r.slots → refused (number_of Slots) ≡ advance_says s
  found-slots l =
      let e = total.slots-are in
      let f = slots-few (form_in s) in
      sym (order-refused 7 _ _ _ (lt-leb (length (next_in s)) (slots_most (form_in s)) (omega arith)))

  pub found-nodes : r.slots ≤ slots_most (form_in s) → nodes_most (form_in s) < r.nodes → refused (number_of Nodes) ≡ advance_says s
  found-nodes few l =
      let a = total.slots-are in
      let b = total.nodes-are in
      let f = slots-few (form_in s) in
      let g = nodes-few (form_in s) in
      sym
      (order-ok 7 _ _ _ (le-leb (length (next_in s)) (slots_most (form_in s)) (omega arith))
      ∙ order-refused 8 _ _ _ (lt-leb (nodes_of (next_in s)) (nodes_most (form_in s)) (omega arith)))

  pub found_within : r.slots ≤ slots_most (form_in s) → r.nodes ≤ nodes_most (form_in s) → NextCounts s r
  found_within few-slots few-nodes =
      let a = total.slots-are in
      let b = total.nodes-are in
      let f = slots-few (form_in s) in
      let g = nodes-few (form_in s) in
      record {
        counts = record { slots-are = omega arith; nodes-are = omega arith; few-slots = omega arith; few-nodes = omega arith };
        form-slots = few-slots;
        form-nodes = few-nodes;
      }

-- the table of owners belongs to the state's masks
pub known : {s : List ℕ} {c : Counts} → Opened s c → {masks before owner : List ℕ} → masks ≡ masks_in s → Owns masks before owner → OpenedWith s c owner
known {s} opened {masks} {before} {owner} e o =
    let p = passing s opened.passes in
    record {
      opened = opened;
      table = o.table;
      owned = (subst (λ (m : List ℕ). Owns m before owner) e o).owned (sum_ones (masks_in s)) p.few-propositions p.masks-rule;
    }

-- what is lent for one state serves another that has the same masks
pub lent_same : {s t masks owner u tags u' tags' : List ℕ} → Lent s masks owner u tags → masks_in t ≡ masks_in s → length u' ≡ length u → length tags' ≡ length tags → Lent t masks owner u' tags'
lent_same {owner = owner} l e a b =
    record {
      masks-are = l.masks-are ∙ sym e;
      table = l.table;
      owned = subst (λ (m : List ℕ). Owned (sum_ones m) m owner) (sym e) l.owned;
      u-long = a ∙ l.u-long;
      tags-long = b ∙ l.tags-long;
    }

-- ---- the close
module _ {s second : List ℕ} {c : Counts} (ask : AdvanceAsk s second c) where
  pub advanced-refused : (why : Refusal) → refused (number_of why) ≡ advance_says s → Advances s second second (Err why)
  advanced-refused why e = record { says = e; leaves = sym (ap (λ (x : Said). left x (next_state s) second) (sym e) ∙ left-refused why (next_state s) second) }

  -- what is lent, with the state that was opened
  pub lent-known : {masks owner u tags : List ℕ} → Lent s masks owner u tags → OpenedWith s c owner
  lent-known l = record { opened = ask.opened; table = l.table; owned = l.owned }

  -- within the limits
  module _ {t : Totals} (n : NextCounts s t) where
    pub next-ask : {used : ℕ} {masks owner u tags : List ℕ} → ZeroFrom used second → masks ≡ masks_in s → OpenedWith s c owner → length u ≡ nodes_room → length tags ≡ nodes_room
        → NextAsk s second used c masks owner t.slots t.nodes u tags
    next-ask z e k lu lm =
        record { known = k; counted = ask.counted; long = ask.long; clean = z; masks-are = e; counts = n.counts; form-slots = n.form-slots; form-nodes = n.form-nodes; u-long = lu; tags-long = lm }

    pub advanced-done : {second' : List ℕ} → second' ≡ next_state s → Advances s second second' (Ok tt)
    advanced-done h =
        let a = n.counts.slots-are in
        let b = n.counts.nodes-are in
        let f = n.form-slots in
        let g = n.form-nodes in
        let says : advance_says s ≡ accepted [] =
        order-ok 7 _ _ _ (le-leb (length (next_in s)) (slots_most (form_in s)) (omega arith)) ∙ order-ok 8 _ _ _ (le-leb (nodes_of (next_in s)) (nodes_most (form_in s)) (omega arith)) ∙ order-done _ in
        record { says = sym says; leaves = h ∙ sym (ap (λ (x : Said). left x (next_state s) second) says ∙ left-accepted [] (next_state s) second) }
