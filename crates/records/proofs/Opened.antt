-- What is known of a state that was opened: its counts are in range (`opened-sized`), its slots are there (`opened-slot`, `opened-first`).
-- What is known of a slot once all records pass (`slot-there`), and its nodes by where they lie (`byte_at`, `bytes-at`). Assumes
-- nothing.
use mathlib.Core.Path.{◌≡◌, sym, ap, ap₂, ◌∙◌}
use mathlib.Core.Bool.{true}
use mathlib.Core.List.{List}
use Prim.Native.Nat.{ℕ, ◌+◌, ◌-◌, ◌<◌}
use native.Mathlib.Omega.{arith}
use lib.ListN.{get_or, take, drop}
use lib.Seq.{get_or-take, get_or-drop}
use borrow.Author.Tests.{ltb-true}
use Rattle.limits.specs.Limits.{boards_most}
use Rattle.lists.proofs.Tests.{both-0}
use Rattle.state.specs.declared.Counts.{Counts}
use Rattle.state.specs.Fields.{boards_in, board_of_in, nodes_from, start_in, length_in, slot_bytes}
use Rattle.state.specs.Clauses.{each_below, record_ok}
use Rattle.state.specs.Counted.{Sized, Spans}
use Rattle.state.specs.Opened.{Opened, SlotThere}
use Rattle.records.proofs.Each.{each_at}
use Rattle.records.proofs.Stretched.{in-stretch}
use Rattle.records.proofs.Passed.{clause-holds, header-some, passed-sized, passed-records}

-- ---- what all records together tell of a slot
pub slot-there : (s : List ℕ) (c : Counts) (k : ℕ) → Sized s c → each_below c.slots (record_ok s) ≡ true → k < c.slots → SlotThere s c k
unfolding record_ok
slot-there s c k z all l =
    let e = z.header.slots-are in
    let every = ap (λ (i : ℕ). each_below i (record_ok s)) (sym e) ∙ all in
    let h = ltb-true (board_of_in s k) (boards_in s) (both-0 _ _ (each_at (record_ok s) c.slots k all l)) in
    let q = z.header.boards-are in
    record { sized = z; number = l; stretch = in-stretch s every k (omega arith); board = omega arith }

-- a slot's board is one of those there may be
pub board-few : {s : List ℕ} {c : Counts} {k : ℕ} → SlotThere s c k → {board : ℕ} → board ≡ board_of_in s k → board < boards_most
board-few p e = let h = p.board in let q = p.sized.few-boards in omega arith

-- ---- a slot's nodes, by where they lie
-- the first one
pub byte_at : (s : List ℕ) (k from : ℕ) → from ≡ nodes_from s + start_in s k → 0 < length_in s k → get_or s from 0 ≡ get_or (slot_bytes s k) 0 0
byte_at s k from e l =
    let at = nodes_from s + start_in s k in
    let i : from ≡ at + 0 = omega arith in
    ap (λ (j : ℕ). get_or s j 0) i ∙ sym (get_or-drop at s 0 0) ∙ sym (get_or-take (length_in s k) (drop at s) 0 0 l)

-- all of them, as they are lent
pub bytes-at : {s : List ℕ} {k from to : ℕ} → Spans s k from to → take (to - from) (drop from s) ≡ slot_bytes s k
bytes-at {s} {k} {from} {to} x =
    let n : to - from ≡ length_in s k = omega arith in
    ap₂ (λ (i j : ℕ). take i (drop j s)) n x.from_is

-- ---- what opening has shown
module _ {s : List ℕ} {c : Counts} (o : Opened s c) where
  pub opened-sized : Sized s c
  opened-sized = passed-sized s c o.passes o.header

  pub opened-first : 0 < c.slots
  opened-first = header-some s c o.header (clause-holds s 1 o.passes)

  pub opened-slot : (k : ℕ) → k < c.slots → SlotThere s c k
  opened-slot k l = slot-there s c k opened-sized (passed-records s c o.passes o.header) l
