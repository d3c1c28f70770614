-- The pass over a slot's bytes: what its place holders add, behind one byte (`after-low`, `after-high`) and over all of them
-- (`added_none`, `added_more`, `added-all`). Assumes nothing.
use mathlib.Core.Path.{◌≡◌, ap}
use mathlib.Core.List.{List}
use Prim.Native.Nat.{ℕ, ◌+◌, ◌-◌, ◌<◌, ◌≤◌}
use native.Mathlib.Omega.{arith}
use lib.ListN.{length, get_or, drop, drop_of_length-le}
use Rattle.kinds.specs.Kinds.{hold_code}
use Rattle.limits.specs.Limits.{nodes_room, slots_room}
use Rattle.counting.specs.declared.Totals.{Totals}
use Rattle.counting.specs.Totals.{capped}
use Rattle.counting.specs.Held.{held_at, held_over, entry_in}
use Rattle.counting.specs.Tables.{HeldBy}
use Rattle.counting.proofs.Held.{held_low, held_high, over-next}

-- ---- behind a byte
module _ (slots nodes : List ℕ) (b : ℕ) (t : Totals) where
  -- what was counted before, and what the byte adds
  abbrev pub After : Totals → Type 0
  After r = (r.slots ≡ capped slots_room (t.slots + held_at (entry_in slots) b)) × (r.nodes ≡ capped nodes_room (t.nodes + held_at (entry_in nodes) b))

  pub after-low : b < hold_code → t.slots ≤ slots_room + 1 → t.nodes ≤ nodes_room + 1 → After t
  after-low h ls ln = let x = held_low (entry_in slots) b h in let y = held_low (entry_in nodes) b h in (omega arith, omega arith)

  pub after-high : hold_code ≤ b → (r : Totals) → r.slots ≡ capped slots_room (t.slots + get_or slots (b - hold_code) 0)
      → r.nodes ≡ capped nodes_room (t.nodes + get_or nodes (b - hold_code) 0) → After r
  after-high h r es en = let x = held_high (entry_in slots) b h in let y = held_high (entry_in nodes) b h in (omega arith, omega arith)

-- ---- the pass over the bytes
over-end : (entry : ℕ → ℕ) (p : List ℕ) (i : ℕ) → length p ≤ i → held_over entry (drop i p) ≡ 0
over-end entry p i h = ap (held_over entry) (drop_of_length-le p h)

-- the bytes before place i are added
pub record Added (slots nodes p : List ℕ) (i : ℕ) (t : Totals) : Type 0 where
  pub few-slots : t.slots ≤ slots_room + 1
  pub few-nodes : t.nodes ≤ nodes_room + 1
  pub slots-are : capped slots_room (t.slots + held_over (entry_in slots) (drop i p)) ≡ capped slots_room (held_over (entry_in slots) p)
  pub nodes-are : capped nodes_room (t.nodes + held_over (entry_in nodes) (drop i p)) ≡ capped nodes_room (held_over (entry_in nodes) p)

pub added_none : {slots nodes p : List ℕ} → Added slots nodes p 0 (record { slots = 0; nodes = 0 })
added_none = record { few-slots = omega arith; few-nodes = omega arith; slots-are = omega arith; nodes-are = omega arith }

module _ {slots nodes p : List ℕ} {i : ℕ} {t : Totals} (a : Added slots nodes p i t) where
  pub added_more : i < length p → {r : Totals} → After slots nodes (get_or p i 0) t r → Added slots nodes p (i + 1) r
  added_more l e =
      let x = over-next (entry_in slots) p i l in
      let y = over-next (entry_in nodes) p i l in
      let es = e.0 in
      let en = e.1 in
      record { few-slots = omega arith; few-nodes = omega arith; slots-are = omega arith; nodes-are = omega arith }

  pub added-all : length p ≤ i → HeldBy slots nodes p t
  added-all l =
      let x = over-end (entry_in slots) p i l in
      let y = over-end (entry_in nodes) p i l in
      record { slots-are = omega arith; nodes-are = omega arith }
