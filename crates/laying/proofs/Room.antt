-- The numbers that the code of the cycle needs: what is there at the entry (`entry`, `hold-entry`, `slot-begun`), that what was laid
-- takes no more than there was (`cut-done`), and both for a node that is put in front of its operands (`begun`, `first_done`,
-- `right-begun`, `both-done`), which `not_first`, `pair_first` and `pair_right` say in one. Assumes nothing.
use mathlib.Core.Bool.{Bool}
use mathlib.Core.Path.{◌≡◌, refl, sym, ap, ap₂, ◌∙◌}
use mathlib.Core.List.{List}
use mathlib.Core.Option.{Option}
use Prim.Native.Nat.{ℕ, ◌+◌, ◌-◌, ◌<◌, ◌≤◌}
use native.Mathlib.Omega.{arith}
use lib.ListN.{length, get_or, set, length-set}
use Rattle.state.specs.Form.{slot_row, slot_rows}
use Rattle.lists.specs.Runs.{tail, tail_as}
use Rattle.lists.proofs.Parts.{tail-length, handed-length}
use Rattle.kinds.specs.declared.Leaf.TheVariants.{Hold}
use Rattle.kinds.specs.declared.Unary.TheVariants.{Not}
use Rattle.kinds.specs.declared.Join.{Join}
use Rattle.kinds.specs.declared.Binary.TheVariants.{Joined}
use Rattle.kinds.specs.declared.Kind.{Kind}
use Rattle.kinds.specs.declared.Kind.TheVariants.{Zero, One, Two}
use Rattle.kinds.specs.Kinds.{kind_of, leaf_code}
use Rattle.limits.specs.Limits.{slots_room, nodes_room}
use Rattle.ltl.specs.Formula.{Formula, size}
use Rattle.ltl.proofs.Decoding.{size-some}
use Rattle.network.specs.Layout.{Laid}
use Rattle.nodes.specs.Begins.{Front}
use Rattle.nodes.proofs.Fronts.{parts-as, front_length}
use Rattle.scores.specs.Choice.{stays_on}
use Rattle.tagging.specs.Packed.{here_in, board_in, ahead_in}
use Rattle.tagging.proofs.Packing.{Has}
use Rattle.laying.specs.declared.Place.{Place}
use Rattle.laying.specs.declared.Lain.{Lain}
use Rattle.laying.specs.Lays.{Source, Fits, Lays, IsJoin, CutAsk, Cuts, LookAsk, Looks, SlotAsk}
use Rattle.laying.proofs.Places.{inner, behind, owned}
use Rattle.laying.proofs.Parts.{Opens, not, pair, first-asks, right-asks}
use Rattle.laying.proofs.Slots.{slot-size, slot-asks, held}

-- ---- at the entry
pub record Entry (u tags : List ℕ) (at : Place) (p : ℕ) : Type 0 where
  pub some_bytes : 0 < length u
  pub long : length u ≤ length tags
  pub some-gap : 0 < at.gap
  pub gap-few : at.gap ≤ p

pub entry : {choose : Formula → Option ℕ} {hold : ℕ → ℕ → Laid} {u tags rest : List ℕ} {f : Formula} {x : Laid} {at : Place} {p r : ℕ} → Source choose hold u tags → Front u f rest → Fits x at p r
    → Entry u tags at p
entry {u = u} {rest = rest} {f = f} {x = x} source front fits =
    let l = front_length u f rest front in
    let s = size-some f in
    let z = size-some x.here in
    record { some_bytes = omega arith; long = source.long; some-gap = omega arith; gap-few = omega arith }

-- ---- what was laid
pub record Done (u : List ℕ) (at : Place) (p r : ℕ) (x : Lain) : Type 0 where
  pub reads : x.read ≤ length u
  pub here : x.here ≤ at.gap
  pub nodes : at.gap + x.nodes ≤ p
  pub records : slot_rows x.slots ≤ r
  pub slots : at.slot + x.slots ≤ slots_room
  pub numbers : at.node + x.nodes ≤ nodes_room

done : {u rest p r p' r' : List ℕ} {f : Formula} {X : Laid} {at : Place} {m n : ℕ} {x : Lain} → Front u f rest → Fits X at m n → (x.read ≡ size f) × Lays X at p r p' r' x → Done u at m n x
done {u} {rest} {f = f} front fits y =
    let l = front_length u f rest front in
    record { reads = omega arith; here = omega arith; nodes = omega arith; records = omega arith; slots = omega arith; numbers = omega arith }

module _ {u tags p r p' r' : List ℕ} {at : Place} {x : Lain} where
  look-done : LookAsk u tags at p r → Looks u tags at p r p' r' x → Done u at (length p) (length r) x
  look-done ask h = done ask.front ask.fits (h ask.choose ask.hold ask.formula ask.rest ask.source ask.front ask.tag ask.tagged)

  pub cut-done : CutAsk u tags at p r → Cuts u tags at p r p' r' x → Done u at (length p) (length r) x
  cut-done ask h = done ask.front ask.fits (h ask.choose ask.hold ask.formula ask.rest ask.source ask.front ask.tagged)

-- ---- a node in front of its operands
-- its byte is put, and the first operand is looked at
pub record Begun (u tags : List ℕ) (at : Place) (p r : List ℕ) (b : ℕ) : Type 0 where
  pub entered : Entry u tags at (length p)
  pub put-length : length (set p 0 b) ≡ length p
  pub fewer : 1 + length (tail 1 u) ≡ length u
  pub asks : LookAsk (tail 1 u) (tail 1 tags) (inner at) (tail 1 (set p 0 b)) r

pub begun : {u tags p r : List ℕ} {at : Place} {k : Kind} → CutAsk u tags at p r → Opens k → kind_of (get_or u 0 0) ≡ k → (b : ℕ) → Begun u tags at p r b
begun {u} {p = p} ask o kind b =
    let n = entry ask.source ask.front ask.fits in
    let l = length-set p 0 b in
    let s = tail-length 1 u in
    record { entered = n; put-length = l; fewer = omega arith; asks = first-asks ask o kind (tail 1 (set p 0 b)) (tail-length 1 (set p 0 b) ∙ ap (◌- 1) l) }

-- the first operand was laid
pub record FirstDone (u tags : List ℕ) (at : Place) (p r : List ℕ) (b : ℕ) (q : List ℕ) (x : Lain) : Type 0 where
  pub reads : 1 + x.read ≤ length u
  pub tags-there : 1 + x.read ≤ length tags
  pub here : 1 + x.here ≤ at.gap
  pub nodes : at.gap + x.nodes ≤ length p
  pub records : slot_rows x.slots ≤ length r
  pub slots : at.slot + x.slots ≤ slots_room
  pub numbers : at.node + x.nodes ≤ nodes_room
  pub kept : length (tail_as 1 (set p 0 b) q) ≡ length p

pub first_done : {u tags p r q r' : List ℕ} {at : Place} {b : ℕ} {x : Lain} → Begun u tags at p r b → Looks (tail 1 u) (tail 1 tags) (inner at) (tail 1 (set p 0 b)) r q r' x
    → length q ≡ length (tail 1 (set p 0 b)) → FirstDone u tags at p r b q x
first_done {p = p} {q = q} {b = b} n h e =
    let d = look-done n.asks h in
    let l = tail-length 1 (set p 0 b) in
    let k = handed-length 1 (set p 0 b) q (omega arith) e in
    record { reads = omega arith; tags-there = omega arith; here = omega arith; nodes = omega arith; records = d.records; slots = d.slots; numbers = d.numbers; kept = omega arith }

-- the right one is looked at, in what the left one has left; n is the length of the left one's records
pub record RightBegun (u tags : List ℕ) (at : Place) (p r : List ℕ) (n : ℕ) (x : Lain) : Type 0 where
  pub records : n ≤ length r
  pub fewer : 1 + length (tail (1 + x.read) u) ≤ length u
  pub asks : LookAsk (tail (1 + x.read) u) (tail (1 + x.read) tags) (behind at x) (tail (1 + x.here) p) (tail n r)

pub right-begun : {u tags p r q r1 : List ℕ} {at : Place} {b n : ℕ} {j : Join} {x : Lain} → CutAsk u tags at p r → kind_of (get_or u 0 0) ≡ Two (Joined j)
    → Looks (tail 1 u) (tail 1 tags) (inner at) (tail 1 (set p 0 b)) r q r1 x → FirstDone u tags at p r b q x → length r1 ≡ length r
    → n ≡ slot_rows x.slots → RightBegun u tags at (tail_as 1 (set p 0 b) q) r1 n x
right-begun {u} {p = p} {r = r} {q = q} {r1 = r1} {b = b} {n = n} {x = x} ask kind h d e rows =
    let P = tail_as 1 (set p 0 b) q in
    let l = tail-length (1 + x.read) u in
    let left : length (tail n r1) ≡ length r - slot_rows x.slots = tail-length n r1 ∙ ap₂ ◌-◌ e rows in
    record {
      records = omega arith;
      fewer = omega arith;
      asks = right-asks ask kind h (tail (1 + x.here) P) (tail n r1) (tail-length (1 + x.here) P ∙ ap (◌- (1 + x.here)) d.kept) left;
    }

-- both were laid
pub record BothDone (u p r p' r' : List ℕ) (x y : Lain) : Type 0 where
  pub reads : 1 + x.read + y.read ≤ length u
  pub here : 1 + x.here + y.here ≤ length p
  pub slots : x.slots + y.slots ≤ slots_room
  pub nodes : x.nodes + y.nodes ≤ nodes_room
  pub kept : length p' ≡ length p
  pub records-kept : length r' ≡ length r

pub both-done : {u tags p r q r1 q2 r2 : List ℕ} {at : Place} {b n : ℕ} {x y : Lain} → FirstDone u tags at p r b q x → length r1 ≡ length r → RightBegun u tags at (tail_as 1 (set p 0 b) q) r1 n x
    → Looks (tail (1 + x.read) u) (tail (1 + x.read) tags) (behind at x) (tail (1 + x.here) (tail_as 1 (set p 0 b) q)) (tail n r1) q2 r2 y
    → length q2 ≡ length (tail (1 + x.here) (tail_as 1 (set p 0 b) q)) → length r2 ≡ length (tail n r1)
    → BothDone u p r (tail_as (1 + x.here) (tail_as 1 (set p 0 b) q) q2) (tail_as n r1 r2) x y
both-done {u} {p = p} {q = q} {r1 = r1} {q2 = q2} {r2 = r2} {b = b} {n = n} {x = x} d e right h k l =
    let P = tail_as 1 (set p 0 b) q in
    let z = look-done right.asks h in
    let i = tail-length (1 + x.read) u in
    let v = handed-length (1 + x.here) P q2 (omega arith) k in
    let w = handed-length n r1 r2 (omega arith) l in
    record { reads = omega arith; here = omega arith; slots = omega arith; nodes = omega arith; kept = omega arith; records-kept = omega arith }

-- the same by what not's and a pair's own functions ask; each has what is known before besides
module _ {u tags p r : List ℕ} {at : Place} where
  pub not_begun : CutAsk u tags at p r × (kind_of (get_or u 0 0) ≡ One Not) → Begun u tags at p r 2
  not_begun h = begun h.0 not h.1 2

  pub pair_begun : CutAsk u tags at p r × IsJoin u → Begun u tags at p r (get_or u 0 0)
  pair_begun h = begun h.0 pair h.1.kind (get_or u 0 0)

  module _ {q r1 : List ℕ} {x : Lain} where
    pub not_first : CutAsk u tags at p r × (kind_of (get_or u 0 0) ≡ One Not) → Looks (tail 1 u) (tail 1 tags) (inner at) (tail 1 (set p 0 2)) r q r1 x
        → length q ≡ length (tail 1 (set p 0 2)) → Begun u tags at p r 2 × FirstDone u tags at p r 2 q x
    not_first h l e = (not_begun h, first_done (not_begun h) l e)

    pub pair_first : CutAsk u tags at p r × IsJoin u → Looks (tail 1 u) (tail 1 tags) (inner at) (tail 1 (set p 0 (get_or u 0 0))) r q r1 x
        → length q ≡ length (tail 1 (set p 0 (get_or u 0 0))) → Begun u tags at p r (get_or u 0 0) × FirstDone u tags at p r (get_or u 0 0) q x
    pair_first h l e = (pair_begun h, first_done (pair_begun h) l e)

    pub pair_right : {n : ℕ} → CutAsk u tags at p r × IsJoin u → Looks (tail 1 u) (tail 1 tags) (inner at) (tail 1 (set p 0 (get_or u 0 0))) r q r1 x
        → length q ≡ length (tail 1 (set p 0 (get_or u 0 0))) → length r1 ≡ length r → n ≡ slot_rows x.slots
        → Begun u tags at p r (get_or u 0 0) × FirstDone u tags at p r (get_or u 0 0) q x × RightBegun u tags at (tail_as 1 (set p 0 (get_or u 0 0)) q) r1 n x
    pair_right h l e k rows = let d = first_done (pair_begun h) l e in (pair_begun h, d, right-begun h.0 h.1.kind l d k rows)

-- ---- what the tag tells
pub slot_has : {t n c : ℕ} → n ≡ here_in t → c ≡ board_in t → Has t n c
slot_has e f = record { here-is = sym e; board-is = sym f }

pub stays_told : (t board : ℕ) {choice : ℕ} {b : Bool} → choice ≡ board_in t → b ≡ stays_on choice board → stays_on (board_in t) board ≡ b
stays_told t board e f = sym (f ∙ ap (λ (c : ℕ). stays_on c board) e)

-- ---- a place holder
pub record HoldEntry (u tags : List ℕ) (ahead : ℕ) : Type 0 where
  pub inside : ahead ≤ length u
  pub long : length u ≤ length tags
  pub fewer : 1 + length (tail ahead u) ≤ length u

pub hold-entry : {u tags p r : List ℕ} {at : Place} {m ahead : ℕ} → CutAsk u tags at p r → kind_of (get_or u 0 0) ≡ Zero (Hold m) → ahead ≡ ahead_in (get_or tags 0 0) → HoldEntry u tags ahead
hold-entry {u} {ahead = ahead} ask kind far =
    let n = entry ask.source ask.front ask.fits in
    let h = held ask.source (parts-as u ask.formula ask.rest ask.front refl kind) in
    let l = tail-length ahead u in
    let a = h.ahead in
    let b = h.inside in
    record { inside = omega arith; long = n.long; fewer = omega arith }

-- ---- a slot of its own, with n nodes on board c: its place holder is put, and its parts are laid behind its record
pub record SlotBegun (u tags : List ℕ) (at : Place) (p r : List ℕ) (n c : ℕ) : Type 0 where
  pub some-gap : 0 < at.gap
  pub gap-few : at.gap ≤ length p
  pub length-few : n ≤ nodes_room
  pub slot-few : at.slot < slots_room
  pub node-few : at.node + n ≤ nodes_room
  pub row : slot_row ≤ length r
  pub put-length : length (set p 0 (leaf_code (Hold at.slot))) ≡ length p
  pub asks : (t : List ℕ) → length t ≡ length r → CutAsk u tags (owned at c n) (tail at.gap (set p 0 (leaf_code (Hold at.slot)))) (tail slot_row t)
  pub kept : (q : List ℕ) → length q ≡ length (tail at.gap (set p 0 (leaf_code (Hold at.slot)))) → length (tail_as at.gap (set p 0 (leaf_code (Hold at.slot))) q) ≡ length p

pub slot-begun : {u tags p r : List ℕ} {at : Place} {n c : ℕ} → SlotAsk u tags at p r → Has (get_or tags 0 0) n c → SlotBegun u tags at p r n c
slot-begun {p = p} {at = at} ask has =
    let n = entry ask.source ask.stands.front ask.fits in
    let z = slot-size has ask.source ask.stands (at.slot + 1) in
    let f = ask.fits in
    let P = set p 0 (leaf_code (Hold at.slot)) in
    let l : length P ≡ length p = length-set p 0 (leaf_code (Hold at.slot)) in
    record {
      some-gap = n.some-gap;
      gap-few = n.gap-few;
      length-few = omega arith;
      slot-few = omega arith;
      node-few = omega arith;
      row = omega arith;
      put-length = l;
      asks = λ t e. slot-asks has ask (tail at.gap P) (tail slot_row t) (tail-length at.gap P ∙ ap (◌- at.gap) l) (tail-length slot_row t ∙ ap (◌- slot_row) e);
      kept = λ q e. handed-length at.gap P q (omega arith) e ∙ l;
    }
