-- One slot counted. Of its formula's bytes: no sum is too large (`cuts-few`, `own-few`), and what they count (`counts-on`). Of a slot of a known
-- state: where it lies (`slot-numbers`), that its bytes as they are lent are its formula (`lent-front`), what is asked
-- there (`formula-ask`), and what it counts (`slot_counted`). Assumes nothing.
use mathlib.Core.Path.{◌≡◌, refl, sym, ap, ◌∙◌, subst}
use mathlib.Core.List.{List, [], append-nil}
use mathlib.Core.Logic.{inr}
use Prim.Native.Nat.{ℕ, ◌+◌, ◌-◌, ◌*◌, ◌<◌}
use native.Mathlib.Omega.{arith}
use lib.ListN.{take, drop}
use Rattle.limits.specs.Limits.{nodes_room, slots_room}
use Rattle.ltl.specs.Formula.{encode}
use Rattle.ltl.proofs.Decoding.{unfolded-coded}
use Rattle.masks.specs.Masks.{sum_ones}
use Rattle.state.specs.Fields.{slots_in, masks_in, board_of_in}
use Rattle.state.specs.Bytes.{formula_at}
use Rattle.nodes.specs.Begins.{Front}
use Rattle.nodes.proofs.Fronts.{front_length}
use Rattle.cutting.specs.declared.CutWalk.{CutWalk}
use Rattle.cutting.specs.Cuts.{Cutting}
use Rattle.cutting.proofs.Nodes.{unfolded-few}
use Rattle.sizing.specs.Sizes as sizes
use Rattle.state.specs.declared.Counts.{Counts}
use Rattle.state.specs.Counted.{Spans}
use Rattle.checked.proofs.Passing.{SlotPassing}
use Rattle.checked.proofs.Lying.{Lying, slot-passing, lying, lent_is, lent-holds}
use Rattle.counting.specs.declared.Totals.{Totals}
use Rattle.counting.specs.OpenedWith.{OpenedWith}
use Rattle.counting.specs.Totals.{capped}
use Rattle.counting.specs.Held.{held_over, entry_in}
use Rattle.counting.specs.Tables.{Tables, HeldBy, FormulaAsk, CountedOn, CountsOn}

-- ---- a formula's bytes
-- on whatever board its cuts were counted
module _ {p : List ℕ} {board on : ℕ} {owner slots nodes : List ℕ} (ask : FormulaAsk p board owner slots nodes) (x : CutWalk) (cut : Cutting owner p on x) where
  pub cuts-few : x.part.cuts < 4100 * nodes_room
  cuts-few =
      let l = front_length p ask.formula [] ask.front in
      let f = ask.few in
      let u = unfolded-few ask.formula (omega arith) in
      let c = (cut ask.formula [] ask.front).parted.few in
      omega arith

  pub own-few : (count : ℕ) → sizes.CountsUnfolded p count → x.part.cuts + count < 4101 * (nodes_room + 1)
  own-few count counts = let c = cuts-few in let w = counts ask.formula ask.front in omega arith

-- on its own board
pub counts-on : {p : List ℕ} {board : ℕ} {owner slots nodes : List ℕ} → FormulaAsk p board owner slots nodes → (x : CutWalk) → Cutting owner p board x
    → (count : ℕ) → sizes.CountsUnfolded p count → (held r : Totals) → HeldBy slots nodes p held → r.slots ≡ capped slots_room (1 + x.part.cuts + held.slots)
    → r.nodes ≡ capped nodes_room (x.part.cuts + count + held.nodes) → CountsOn p board owner slots nodes r
counts-on {p} {board} {owner} {slots} {nodes} ask x cut count counts held r h es en f front n end masks owned within =
    let c = (cut f [] front).parted.cuts_are n end masks owned (unfolded-coded n end f within) board (inr (refl, ask.there)) in
    let w = counts f front in
    let b : p ≡ encode f = front.bytes ∙ append-nil (encode f) in
    let hs = h.slots-are ∙ ap (λ (l : List ℕ). capped slots_room (held_over (entry_in slots) l)) b in
    let hn = h.nodes-are ∙ ap (λ (l : List ℕ). capped nodes_room (held_over (entry_in nodes) l)) b in
    record { slots-are = omega arith; nodes-are = omega arith }

-- ---- a slot of a state that passes
module _ {s : List ℕ} {c : Counts} {k : ℕ} {owner : List ℕ} (known : OpenedWith s c owner) (l : k < c.slots) where
  pub slot-numbers : Lying s c k
  slot-numbers = lying known.opened k l

  passing : SlotPassing s k
  passing = slot-passing known.opened k l

  -- its bytes, as they are lent
  module _ {from to : ℕ} (x : Spans s k from to) where
    abbrev bytes : List ℕ
    bytes = take (to - from) (drop from s)

    pub lent-front : Front (take (to - from) (drop from s)) (formula_at s k) []
    lent-front = record { coded = passing.coded; bytes = lent_is known.opened k l x ∙ sym (append-nil (encode (formula_at s k))) }

    pub formula-ask : {board : ℕ} {held-slots held-nodes : List ℕ} → board ≡ board_of_in s k → Tables held-slots held-nodes → FormulaAsk bytes board owner held-slots held-nodes
    formula-ask e tables =
        let y = slot-numbers in
        let f = y.few-nodes in
        let g = y.few-slots in
        record {
          formula = formula_at s k;
          front = lent-front;
          few = let n = front_length bytes (formula_at s k) [] lent-front in let z = passing.length-is in omega arith;
          holds = λ i. (let h = lent-holds known.opened k l x i in omega arith);
          there = let b = y.few-boards in omega arith;
          table = known.table;
          tables = tables;
        }

    pub slot_counted : {board : ℕ} {held-slots held-nodes : List ℕ} (r : Totals) → board ≡ board_of_in s k → CountsOn bytes board owner held-slots held-nodes r
        → CountedOn (masks_in s) held-slots held-nodes (formula_at s k) (board_of_in s k) r
    slot_counted {held-slots = held-slots} {held-nodes = held-nodes} r e h =
        subst (λ (b : ℕ). CountedOn (masks_in s) held-slots held-nodes (formula_at s k) b r) e
        (h (formula_at s k) lent-front (sum_ones (masks_in s)) (slots_in s) (masks_in s) known.owned passing.within)
