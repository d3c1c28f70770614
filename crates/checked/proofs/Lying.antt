-- Where a slot of a state that was opened lies: `slot-passing` is what is known of it, `lying` its numbers. Its bytes, as they are lent,
-- are those of its formula (`lent_is`), and the place holders among them are of slots that are there (`lent-holds`). Assumes nothing.
use mathlib.Core.Path.{◌≡◌, refl, ap, ◌∙◌}
use mathlib.Core.List.{List}
use Prim.Native.Nat.{ℕ, ◌+◌, ◌-◌, ◌<◌, ◌≤◌}
use native.Mathlib.Omega.{arith}
use lib.ListN.{length, get_or, take, drop}
use Rattle.limits.specs.Limits.{boards_most, slots_room, nodes_room}
use Rattle.ltl.specs.Formula.{encode}
use Rattle.state.specs.declared.Counts.{Counts}
use Rattle.state.specs.Form.{form_in}
use Rattle.state.specs.Fields.{board_of_in, nodes_from, start_in, length_in}
use Rattle.state.specs.Bytes.{formula_at}
use Rattle.state.specs.Counted.{Spans}
use Rattle.state.proofs.Forms.{slots-few, nodes-few}
use Rattle.state.proofs.Places.{node-within}
use Rattle.state.specs.Opened.{SlotThere, Opened}
use Rattle.records.proofs.Opened.{board-few, bytes-at, opened-slot}
use Rattle.checked.specs.Holds.{Holds}
use Rattle.checked.proofs.Passing.{SlotPassing, passing}
use Rattle.checked.proofs.Bytes.{bytes-hold}

-- the numbers of it, whatever the state's form
pub record Lying (s : List ℕ) (c : Counts) (k : ℕ) : Type 0 where
  pub there : SlotThere s c k
  pub few-slots : c.slots ≤ slots_room
  pub few-nodes : start_in s k + length_in s k ≤ nodes_room
  pub some-length : 1 ≤ length_in s k
  pub ends : nodes_from s + start_in s k + length_in s k ≤ length s
  pub few-boards : board_of_in s k < boards_most

module _ {s : List ℕ} {c : Counts} (o : Opened s c) (k : ℕ) (l : k < c.slots) where
  pub slot-passing : SlotPassing s k
  slot-passing = let e = o.header.slots-are in (passing s o.passes).slots k (omega arith)

  pub lying : Lying s c k
  lying =
      let p = opened-slot o k l in
      let z = p.sized in
      let u = p.stretch.used in
      let e = p.stretch.ends in
      let q = z.header.nodes-are in
      let m = z.few-nodes in
      let n = z.few-slots in
      record {
        there = p;
        few-slots = omega (arith, slots-few (form_in s));
        few-nodes = omega (arith, nodes-few (form_in s));
        some-length = slot-passing.some-length;
        ends = node-within s c z k p.stretch;
        few-boards = board-few p refl;
      }

  -- its bytes, as they are lent
  module _ {from to : ℕ} (x : Spans s k from to) where
    pub lent_is : take (to - from) (drop from s) ≡ encode (formula_at s k)
    lent_is = bytes-at x ∙ slot-passing.bytes

    pub lent-holds : Holds c.slots (take (to - from) (drop from s))
    lent-holds i =
        let h = bytes-hold s k slot-passing (passing s o.passes).few-propositions i in
        let e = ap (λ (l : List ℕ). get_or l i 0) (bytes-at x) in
        let q = o.header.slots-are in
        omega arith
