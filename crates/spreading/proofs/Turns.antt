-- The loop of `spread`: what holds at each turn (`Turn`), at the first (`first-turn`), and behind a byte that is no place holder
-- (`turn-past`). Of a turn before the end: the bytes' length, and the byte that is looked at (`w-long`, `byte-is`, `room_next`). Assumes
-- nothing.
use mathlib.Core.Path.{◌≡◌, refl, sym, ap, ap₂, ◌∙◌, subst}
use mathlib.Core.Bool.{Bool, true, false}
use mathlib.Core.List.{List, []}
use Prim.Native.Nat.{ℕ, ◌+◌, ◌<◌, ◌≤◌}
use native.Mathlib.Omega.{arith}
use lib.ListN.{length, get_or, take, drop}
use lib.Seq.{length-take-le, take_at, get_or-take}
use lib.Dec.{ltb}
use borrow.Author.Tests.{ltb-true, ltb-false}
use Rattle.state.specs.declared.Counts.{Counts}
use Rattle.limits.specs.Limits.{nodes_room}
use Rattle.kinds.specs.Kinds.{hold_code}
use Rattle.ltl.specs.Formula.{size, encode}
use Rattle.ltl.proofs.Decoding.{length-encode}
use Rattle.state.specs.Fields.{slots_in}
use Rattle.checked.specs.Holds.{Holds}
use Rattle.counting.specs.Held.{held_at, held_over}
use Rattle.counting.proofs.Held.{held_low, over-next}
use Rattle.counting.proofs.Networks.{nodes_of_slot}
use Rattle.carrying.specs.Carries.{unfolded_at, PutSlotAsk, PutsSlot}
use Rattle.spreading.specs.Spreads.{SpreadAsk}
use Rattle.spreading.proofs.Room.{slot-hold, root-there, root-room}
use Rattle.spreading.proofs.Places.{StandsIn, HeldFront, stands-last}

-- bytes w are spread out, and looked at up to i: the root stands there, and the slot of each place holder before i; all place holders
-- are of slots that are there, and those from i on have room
pub record SpreadTo (s w tags : List ℕ) (i : ℕ) : Type 0 where
  pub order : i ≤ length w
  pub root : StandsIn s w tags 0 0
  pub held : (j : ℕ) → j < i → hold_code ≤ get_or w j 0 → HeldFront s (drop j w) (drop j tags)
  pub holds : Holds (slots_in s) w
  pub room : length w + held_over (nodes_of_slot s) (drop i w) ≤ nodes_room

pub record Turn (s u tags : List ℕ) (i end : ℕ) : Type 0 where
  pub u-long : length u ≡ nodes_room
  pub tags-long : length tags ≡ nodes_room
  pub inside : end ≤ nodes_room
  pub reached : SpreadTo s (take end u) tags i

-- ---- the first turn: the root was put
module _ {s owner u tags : List ℕ} {c : Counts} (ask : SpreadAsk s c owner u tags) where
  pub first-ask : PutSlotAsk s c 0 owner u tags
  first-ask =
      let r = root-room s ask.known.opened.passes in
      let z = root-there s ask.known.opened.passes in
      let n = ask.known.opened.header.slots-are in
      record { known = ask.known; there = omega arith; room = omega arith; few = omega arith; long = omega arith }

  pub first-turn : {u' tags' : List ℕ} {n : ℕ} → PutsSlot s 0 u u' tags' n → length u' ≡ length u → length tags' ≡ length tags → Turn s u' tags' 0 n
  first-turn {u'} {tags'} {n} h lu lm =
      let g = unfolded_at s 0 in
      let r = root-room s ask.known.opened.passes in
      let e = length-encode g in
      let is : take n u' ≡ encode g = ap₂ take h.writes h.leaves ∙ take_at (encode g) (drop (size g) u) (size g) e in
      record {
        u-long = omega arith;
        tags-long = omega arith;
        inside = omega arith;
        reached =
            subst (λ (w : List ℕ). SpreadTo s w tags' 0) (sym is)
            (record {
              order = omega arith;
              root = stands-last s [] u' tags' tags' 0 0 refl refl h.stands;
              held = λ j l big. absurd (omega arith);
              holds = slot-hold s ask.known.opened.passes 0 (root-there s ask.known.opened.passes);
              room = omega arith;
            });
      }

-- ---- a turn at i, which is before the end
module _ {s u tags : List ℕ} {i end : ℕ} (turn : Turn s u tags i end) (l : i < end) where
  abbrev w : List ℕ
  w = take end u

  pub w-long : length w ≡ end
  w-long = length-take-le end u (omega arith)

  pub byte-is : get_or w i 0 ≡ get_or u i 0
  byte-is = get_or-take end u i 0 l

  pub room_next : end + (held_at (nodes_of_slot s) (get_or u i 0) + held_over (nodes_of_slot s) (drop (i + 1) w)) ≤ nodes_room
  room_next =
      let r = turn.reached.room in
      let e = over-next (nodes_of_slot s) w i (omega (arith, w-long)) in
      let b = ap (held_at (nodes_of_slot s)) byte-is in
      omega (arith, w-long)

  -- it is no place holder
  pub turn-past : get_or u i 0 < hold_code → Turn s u tags (i + 1) end
  turn-past small =
      record {
        u-long = turn.u-long;
        tags-long = turn.tags-long;
        inside = turn.inside;
        reached =
            record {
              order = omega (arith, w-long);
              root = turn.reached.root;
              held = λ j k big. at_last j k big (ltb j i) refl;
              holds = turn.reached.holds;
              room = let r = room_next in let e = held_low (nodes_of_slot s) (get_or u i 0) small in let k = w-long in omega arith;
            };
      }
    where
      at_last : (j : ℕ) → j < i + 1 → hold_code ≤ get_or w j 0 → (t : Bool) → ltb j i ≡ t → HeldFront s (drop j w) (drop j tags)
      at_last j k big true e = turn.reached.held j (ltb-true j i e) big
      at_last j k big false e = absurd (let d = ltb-false j i e in let is : j ≡ i = omega arith in let same = ap (λ (n : ℕ). get_or w n 0) is in omega (arith, byte-is))

-- a turn by equal buffers
pub turn-as : {s u u' tags tags' : List ℕ} {i end end' : ℕ} → Turn s u tags i end → u' ≡ u → tags' ≡ tags → end' ≡ end → Turn s u' tags' i end'
turn-as turn eu em ee = rw (eu, em, ee) turn
