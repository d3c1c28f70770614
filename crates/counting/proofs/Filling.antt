-- The tables filled from the last slot down: none yet (`filled_none`), one slot more (`filled_more`), and all (`filled-all`). A state has
-- no more slots than there is room for (`known-few`). Assumes nothing.
use mathlib.Core.Path.{◌≡◌, sym, ap, ◌∙◌}
use mathlib.Core.Bool.{true}
use mathlib.Core.List.{List}
use mathlib.Core.Logic.{⊎_elim}
use Prim.Native.Nat.{ℕ, ◌+◌, ◌<◌, ◌≤◌}
use native.Mathlib.Nat.{eq-or-lt_of_le}
use native.Mathlib.Omega.{arith}
use lib.ListN.{length, get_or, set, length-set}
use lib.Seq.{get_or-set_same, get_or-set_other}
use Rattle.limits.specs.Limits.{nodes_room, slots_room}
use Rattle.ltl.specs.Formula.{encode}
use Rattle.ltl.specs.Progression.{unfolded}
use Rattle.network.specs.Scores.{chosen}
use Rattle.network.proofs.Holding.{holds-map}
use Rattle.state.specs.declared.Counts.{Counts}
use Rattle.state.specs.Form.{form_in}
use Rattle.state.proofs.Forms.{slots-few}
use Rattle.records.proofs.Opened.{opened-sized}
use Rattle.state.specs.Fields.{slots_in, masks_in, board_of_in}
use Rattle.state.specs.Clauses.{state_ok}
use Rattle.state.specs.Bytes.{formula_at}
use Rattle.state.specs.Calls.{next_in}
use Rattle.laying.proofs.Counting.{held}
use Rattle.checked.proofs.Passing.{passing}
use Rattle.counting.specs.declared.Totals.{Totals}
use Rattle.counting.specs.OpenedWith.{OpenedWith}
use Rattle.counting.specs.Totals.{capped, Totalled}
use Rattle.counting.specs.Held.{held_over, entry_in}
use Rattle.counting.specs.Tables.{Tables, CountedOn}
use Rattle.counting.proofs.Held.{clean-held}
use Rattle.counting.proofs.Summing.{unfolded-held, held-capped}
use Rattle.counting.proofs.Networks.{slots_of_slot, nodes_of_slot, slot-clean, slot-higher, slots_at, nodes-at, next-slots, next-nodes}

pub known-few : {s : List ℕ} {c : Counts} {owner : List ℕ} → OpenedWith s c owner → c.slots ≤ slots_room
known-few {s} known = let h = (opened-sized known.opened).few-slots in let f = slots-few (form_in s) in omega arith

-- the entries from k on are capped counts, of the first n slots
abbrev pub From : (most n k : ℕ) → (ℕ → ℕ) → List ℕ → Type 0
From most n k count entries = (m : ℕ) → k ≤ m → m < n → get_or entries m 0 ≡ capped most (count m)

-- one entry more
from_more : (most n k : ℕ) (count : ℕ → ℕ) (entries : List ℕ) (j x : ℕ) → k ≤ j + 1 → j < length entries → From most n k count entries → x ≡ capped most (count j)
    → From most n j count (set entries j x)
from_more most n k count entries j x l short from e m a b =
    ⊎_elim
    (λ q. ap (λ (i : ℕ). get_or (set entries j x) i 0) (sym q) ∙ get_or-set_same entries j x 0 short ∙ e ∙ ap (λ (i : ℕ). capped most (count i)) q)
    (λ q. get_or-set_other entries j m x 0 (λ z. omega arith) ∙ from m (omega arith) b)
    (eq-or-lt_of_le a)

-- the tables have what the slots from k on count
pub record Filled (s : List ℕ) (k : ℕ) (slots nodes : List ℕ) : Type 0 where
  pub tables : Tables slots nodes
  pub slots-are : From slots_room (slots_in s) k (slots_of_slot s) slots
  pub nodes-are : From nodes_room (slots_in s) k (nodes_of_slot s) nodes

pub filled_none : {s : List ℕ} {k : ℕ} {slots nodes : List ℕ} → k ≡ slots_in s → Tables slots nodes → Filled s k slots nodes
filled_none e t = record { tables = t; slots-are = λ m a b. absurd (omega arith); nodes-are = λ m a b. absurd (omega arith) }

-- what slot j holds, by the entries above it
held-is : (s : List ℕ) → state_ok s ≡ true → (most j k : ℕ) (count : ℕ → ℕ) (entries : List ℕ) → j < slots_in s → k ≤ j + 1 → From most (slots_in s) k count entries
    → capped most (held_over (entry_in entries) (encode (formula_at s j))) ≡ capped most (held count (unfolded (formula_at s j)))
held-is s ok most j k count entries l a from =
    let f = formula_at s j in
    let choose = chosen (masks_in s) in
    let entry = entry_in entries in
    let clean = slot-clean s ok j l in
    ap (capped most) (clean-held entry choose f ((passing s ok).slots j l).coded clean ∙ sym (unfolded-held choose entry f clean))
    ∙ held-capped most entry count (unfolded f)
    (holds-map (λ m. (j < m) × (m < slots_in s)) (λ m. entry m ≡ capped most (count m)) (λ m h. (let lo = h.0 in from m (omega arith) h.1)) (unfolded f) (slot-higher s ok j l))

module _ {s : List ℕ} {k : ℕ} {slots nodes : List ℕ} (ok : state_ok s ≡ true) (filled : Filled s k slots nodes) where
  pub filled_more : {j : ℕ} → j < slots_in s → k ≤ j + 1 → {r : Totals} → CountedOn (masks_in s) slots nodes (formula_at s j) (board_of_in s j) r
      → Filled s j (set slots j r.slots) (set nodes j r.nodes)
  filled_more {j} l a {r} counted =
      let few = (passing s ok).header.few-slots in
      let room = slots-few (form_in s) in
      let ls = filled.tables.slots-long in
      let ln = filled.tables.nodes-long in
      let hs = held-is s ok slots_room j k (slots_of_slot s) slots l a filled.slots-are in
      let hn = held-is s ok nodes_room j k (nodes_of_slot s) nodes l a filled.nodes-are in
      let ns = slots_at s ok j l in
      let nn = nodes-at s ok j l in
      record {
        tables = record { slots-long = length-set slots j r.slots ∙ ls; nodes-long = length-set nodes j r.nodes ∙ ln };
        slots-are = from_more slots_room (slots_in s) k (slots_of_slot s) slots j r.slots a (omega arith) filled.slots-are (let e = counted.slots-are in omega arith);
        nodes-are = from_more nodes_room (slots_in s) k (nodes_of_slot s) nodes j r.nodes a (omega arith) filled.nodes-are (let e = counted.nodes-are in omega arith);
      }

  pub filled-all : k ≤ 0 → Totalled (next_in s) (record { slots = get_or slots 0 0; nodes = get_or nodes 0 0 })
  filled-all l =
      let some = (passing s ok).header.some-slots in
      record {
        slots-are = filled.slots-are 0 (omega arith) (omega arith) ∙ ap (capped slots_room) (sym (next-slots s ok));
        nodes-are = filled.nodes-are 0 (omega arith) (omega arith) ∙ ap (capped nodes_room) (sym (next-nodes s ok));
      }
