-- A turn of `spread` at a place holder: its tag gets the distance to the end, which is inside the tags (`inside-tags`); its slot is put
-- there (`holder-few`, `holder-ask`, `put-inside`), and then the next turn holds (`turn-put`). Up to there a law is for any tag v.
-- Assumes nothing.
use mathlib.Core.Path.{◌≡◌, refl, sym, ap, ◌∙◌, subst}
use mathlib.Core.Bool.{Bool, true, false}
use mathlib.Core.List.{List, ◌++◌}
use Prim.Native.Nat.{ℕ, ◌+◌, ◌-◌, ◌<◌, ◌≤◌}
use native.Mathlib.Omega.{arith}
use lib.ListN.{length, get_or, take, drop, set, length-append, length-drop, length-set, take-append-drop, get_or-append}
use lib.Seq.{take_at, drop-drop, drop-append-le, get_or-drop, get_or-set_same, get_or-set_other}
use lib.Dec.{eqb}
use borrow.Author.Tests.{eqb-true, eqb-false}
use Rattle.state.specs.declared.Counts.{Counts}
use Rattle.lists.specs.Runs.{tail, tail_as}
use Rattle.lists.proofs.Parts.{tail-length, handed-length, handed-back, handed-front}
use Rattle.lists.proofs.Stretches.{tail-put}
use Rattle.limits.specs.Limits.{slots_room, nodes_room}
use Rattle.kinds.specs.Kinds.{hold_code}
use Rattle.ltl.specs.Formula.{Formula, size, encode}
use Rattle.ltl.proofs.Decoding.{length-encode}
use Rattle.state.specs.Fields.{slots_in}
use Rattle.tagging.specs.Packed.{ahead_in, with_ahead}
use Rattle.tagging.proofs.Packing.{Alike, alike_same, ahead-alike, ahead-has}
use Rattle.tagging.proofs.Places.{Agree, agree-drop}
use Rattle.checked.proofs.Bytes.{holds-append}
use Rattle.counting.specs.OpenedWith.{OpenedWith}
use Rattle.counting.specs.Held.{held_over}
use Rattle.counting.proofs.Held.{held_high, over-append}
use Rattle.counting.proofs.Networks.{nodes_of_slot}
use Rattle.counting.proofs.Slots.{slot-numbers}
use Rattle.carrying.specs.Carries.{unfolded_at, PutSlotAsk, PutsSlot}
use Rattle.spreading.proofs.Room.{slot-hold, slot-room}
use Rattle.spreading.proofs.Places.{StandsIn, HeldFront, stands-more, held_more, stands-last}
use Rattle.spreading.proofs.Turns.{Turn, SpreadTo, w-long, byte-is, room_next}

-- a turn at a place holder
pub record Holder (s : List ℕ) (c : Counts) (owner u tags : List ℕ) (i end : ℕ) : Type 0 where
  pub known : OpenedWith s c owner
  pub turn : Turn s u tags i end
  pub before : i < end
  pub big : hold_code ≤ get_or u i 0

module _ {s : List ℕ} {c : Counts} {owner u tags : List ℕ} {i end : ℕ} (holder : Holder s c owner u tags i end) where
  abbrev turn : Turn s u tags i end
  turn = holder.turn

  abbrev w : List ℕ
  w = take end u

  abbrev m : ℕ
  m = get_or u i 0 - hold_code

  abbrev g : Formula
  g = unfolded_at s m

  abbrev tagged : ℕ
  tagged = with_ahead (get_or tags i 0) (end - i)

  -- the tags with v as the place holder's
  abbrev tags₁ : ℕ → List ℕ
  tags₁ v = set tags i v

  long : length w ≡ end
  long = w-long turn holder.before

  pub inside-tags : (x : ℕ) → end ≤ length (set tags i x)
  inside-tags x = let k = length-set tags i x in omega arith

  there : m < slots_in s
  there = let e = turn.reached.holds i in let b = byte-is turn holder.before in omega arith

  fits : end + (size g + (held_over (nodes_of_slot s) (encode g) + held_over (nodes_of_slot s) (drop (i + 1) w))) ≤ nodes_room
  fits =
      let r = slot-room s holder.known.opened.passes m there in
      let n = room_next turn holder.before in
      let e = held_high (nodes_of_slot s) (get_or u i 0) holder.big in
      omega arith

  slot-there : m < c.slots
  slot-there = let h = there in let e = holder.known.opened.header.slots-are in omega arith

  pub holder-few : m < slots_room
  holder-few = let x = slot-numbers holder.known slot-there in omega arith

  pub holder-ask : (v : ℕ) → PutSlotAsk s c m owner (tail end u) (tail end (tags₁ v))
  holder-ask v =
      let f = fits in
      let d = tail-length end u in
      let e = tail-length end (tags₁ v) in
      let k = length-set tags i v in
      record { known = holder.known; there = slot-there; room = omega arith; few = omega arith; long = omega arith }

  pub put-inside : {x y : List ℕ} {n : ℕ} → PutsSlot s m (tail end u) x y n → end + n ≤ nodes_room
  put-inside h = let f = fits in let k = h.writes in omega arith

  module _ {x y : List ℕ} {n : ℕ} (h : PutsSlot s m (tail end u) x y n) (lx : length x ≡ length (tail end u)) (v : ℕ) (ly : length y ≡ length (tail end (tags₁ v))) (is-tagged : v ≡ tagged) where
    abbrev u' : List ℕ
    u' = tail_as end u x

    abbrev tags' : List ℕ
    tags' = tail_as end (tags₁ v) y

    inside-u : end ≤ length u
    inside-u = omega arith

    written : take (end + n) u' ≡ w ++ encode g
    written =
        ap (take (end + n)) (tail-put u w (drop end u) end (sym (take-append-drop end u)) long (encode g) x (size g) h.leaves)
        ∙ take_at (w ++ encode g) (drop (size g) (drop end u)) (end + n) (omega (arith, length-append w (encode g), long, length-encode g, h.writes))

    -- the tags before the end: that of the place holder has its distance, the others are as they were
    tag-here : get_or tags' i 0 ≡ v
    tag-here = handed-front end (tags₁ v) y (inside-tags v) i holder.before ∙ get_or-set_same tags i v 0 (omega arith)

    tag-other : (j : ℕ) → j < end → (j ≡ i → ⊥) → get_or tags' j 0 ≡ get_or tags j 0
    tag-other j k other = handed-front end (tags₁ v) y (inside-tags v) j k ∙ get_or-set_other tags i j v 0 other

    alike-here : Alike (get_or tags i 0) v
    alike-here = rw is-tagged (ahead-alike (get_or tags i 0) (end - i))

    agree : Agree end tags tags'
    agree j k = go (eqb j i) refl
      where
        go : (t : Bool) → eqb j i ≡ t → Alike (get_or tags j 0) (get_or tags' j 0)
        go true e =
            let is = eqb-true j i e in
            subst (λ (n : ℕ). Alike (get_or tags n 0) (get_or tags' n 0)) (sym is) (subst (Alike (get_or tags i 0)) (sym tag-here) alike-here)
        go false e = alike_same (get_or tags j 0) (get_or tags' j 0) (sym (tag-other j k (eqb-false j i e)))

    -- a place holder before i
    held-before : (j : ℕ) → j < i → hold_code ≤ get_or w j 0 → HeldFront s (drop j (w ++ encode g)) (drop j tags')
    held-before j k is =
        let d = length-drop j w in
        let a = agree-drop j (length (drop j w)) end tags tags' (omega (arith, long)) agree in
        let ahead : ahead_in (get_or (drop j tags) 0 0) ≡ ahead_in (get_or (drop j tags') 0 0) =
        ap ahead_in (get_or-drop j tags 0 0 ∙ sym (tag-other (j + 0) (omega arith) (λ e. omega arith)) ∙ sym (get_or-drop j tags' 0 0)) in
        subst (λ (z : List ℕ). HeldFront s z (drop j tags')) (sym (drop-append-le j w (encode g) (omega (arith, long))))
        (held_more s (drop j w) (encode g) (drop j tags) (drop j tags') a (omega (arith, long)) ahead (turn.reached.held j k is))

    -- the one at i
    held-here : HeldFront s (drop i (w ++ encode g)) (drop i tags')
    held-here =
        let d = length-drop i w in
        let tag : get_or (drop i tags') 0 0 ≡ v = get_or-drop i tags' 0 0 ∙ ap (λ (n : ℕ). get_or tags' n 0) (omega arith) ∙ tag-here in
        let ahead : ahead_in (get_or (drop i tags') 0 0) ≡ end - i = ap ahead_in (tag ∙ is-tagged) ∙ ahead-has (get_or tags i 0) (end - i) in
        let byte : get_or (drop i w ++ encode g) 0 0 ≡ get_or u i 0 =
        get_or-append (drop i w) (encode g) 0 0 (omega (arith, long)) ∙ get_or-drop i w 0 0 ∙ ap (λ (n : ℕ). get_or w n 0) (omega arith) ∙ byte-is turn holder.before in
        let to : i + (end - i) ≡ end = omega arith in
        let behind : drop (end - i) (drop i tags') ≡ y = drop-drop (end - i) i tags' ∙ ap (λ (n : ℕ). drop n tags') to ∙ handed-back end (tags₁ v) y (inside-tags v) in
        let last = stands-last s (drop i w) x (drop i tags') y (end - i) m (omega (arith, long)) behind h.stands in
        subst (λ (z : List ℕ). HeldFront s z (drop i tags')) (sym (drop-append-le i w (encode g) (omega (arith, long))))
        (record {
          ahead = omega arith;
          there = subst (λ (b : ℕ). b - hold_code < slots_in s) (sym byte) there;
          stands =
              subst (λ (a : ℕ). StandsIn s (drop i w ++ encode g) (drop i tags') a (get_or (drop i w ++ encode g) 0 0 - hold_code)) (sym ahead)
              (subst (λ (b : ℕ). StandsIn s (drop i w ++ encode g) (drop i tags') (end - i) (b - hold_code)) (sym byte) last);
        })

    held_next : (j : ℕ) → j < i + 1 → hold_code ≤ get_or (w ++ encode g) j 0 → HeldFront s (drop j (w ++ encode g)) (drop j tags')
    held_next j k is = go (eqb j i) refl
      where
        go : (t : Bool) → eqb j i ≡ t → HeldFront s (drop j (w ++ encode g)) (drop j tags')
        go true e = subst (λ (n : ℕ). HeldFront s (drop n (w ++ encode g)) (drop n tags')) (sym (eqb-true j i e)) held-here
        go false e =
            let other = eqb-false j i e in
            let same = get_or-append w (encode g) 0 j (omega (arith, long)) in
            held-before j (omega arith) (omega arith)

    pub turn-put : Turn s u' tags' (i + 1) (end + n)
    turn-put =
        let f = fits in
        let k = h.writes in
        let lw = long in
        let d = drop-append-le (i + 1) w (encode g) (omega arith) in
        record {
          u-long = handed-length end u x inside-u lx ∙ turn.u-long;
          tags-long = handed-length end (tags₁ v) y (inside-tags v) ly ∙ length-set tags i v ∙ turn.tags-long;
          inside = omega arith;
          reached =
              subst (λ (z : List ℕ). SpreadTo s z tags' (i + 1)) (sym written)
              (record {
                order = omega (arith, length-append w (encode g));
                root = stands-more s w (encode g) tags tags' (subst (λ (n : ℕ). Agree n tags tags') (sym lw) agree) 0 0 turn.reached.root;
                held = held_next;
                holds = holds-append (slots_in s) w (encode g) turn.reached.holds (slot-hold s holder.known.opened.passes m there);
                room =
                    let e = ap (held_over (nodes_of_slot s)) d ∙ over-append (nodes_of_slot s) (drop (i + 1) w) (encode g) in
                    omega (arith, length-append w (encode g), length-encode g);
              });
        }
