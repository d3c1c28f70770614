-- The first slot of a network: there is room for it (`root-begun`), and what was written is the whole network (`root-lays`).
-- Assumes nothing.
use mathlib.Core.Path.{◌≡◌, sym, ap, ◌∙◌, subst}
use mathlib.Core.List.{List, [], ◌∷◌, ◌++◌, append_assoc}
use Prim.Native.Nat.{ℕ, ◌+◌, ◌-◌, ◌<◌, ◌≤◌}
use native.Mathlib.Omega.{arith}
use lib.ListN.{length, get_or, take, drop, length-drop, take-append-drop}
use lib.Seq.{length-take-le, drop-drop}
use Rattle.state.specs.Form.{slot_row, slot_rows}
use Rattle.lists.specs.Runs.{tail, tail_as}
use Rattle.lists.proofs.Parts.{tail-length, handed-length}
use Rattle.le.specs.Le.{le}
use Rattle.limits.specs.Limits.{nodes_room}
use Rattle.ltl.specs.Formula.{size, encode}
use Rattle.ltl.proofs.Decoding.{size-some}
use Rattle.network.specs.Layout.{Laid, rooted, laid}
use Rattle.state.specs.Bytes.{nodes_of, slot_records, node_bytes}
use Rattle.nodes.proofs.Fronts.{front_length}
use Rattle.tagging.proofs.Packing.{Has}
use Rattle.laying.specs.declared.Lain.{Lain}
use Rattle.laying.specs.Lays.{Fits, Lays, CutAsk, Cuts, RootAsk, LaysRoot}
use Rattle.laying.proofs.Places.{first}
use Rattle.laying.proofs.Slots.{slot-size, slot-board, slot-here}
use Rattle.laying.proofs.Writing.{slot-records}

-- the numbers that the code needs, and what it asks behind the record, of a slot of n nodes on board c
pub record RootBegun (u tags p r : List ℕ) (n c : ℕ) : Type 0 where
  pub length-few : n ≤ nodes_room
  pub row : slot_row ≤ length r
  pub asks : (t : List ℕ) → length t ≡ length r → CutAsk u tags (first c n) p (tail slot_row t)
  pub kept : (t q : List ℕ) → length t ≡ length r → length q ≡ length (tail slot_row t) → length (tail_as slot_row t q) ≡ length r

-- there is a tag
pub root-tagged : {u tags p r : List ℕ} → RootAsk u tags p r → 0 < length tags
root-tagged {u} ask =
    let l = front_length u ask.formula ask.rest ask.stands.front in
    let s = size-some ask.formula in
    let t = ask.source.long in
    omega arith

module _ {u tags p r : List ℕ} {n c : ℕ} (ask : RootAsk u tags p r) (has : Has (get_or tags 0 0) n c) where
  abbrev laid_root : Laid
  laid_root = laid ask.choose ask.hold ask.formula ask.board 1

  root-asks : (t : List ℕ) → length t ≡ length r - slot_row → CutAsk u tags (first c n) p t
  root-asks t e =
      let z = slot-size has ask.source ask.stands 1 in
      let room : Fits laid_root (first ask.board n) (length p) (length t) =
      record { here = omega arith; nodes = omega arith; records = omega arith; slots = omega arith; numbers = omega arith } in
      record {
        choose = ask.choose;
        hold = ask.hold;
        formula = ask.formula;
        rest = ask.rest;
        source = ask.source;
        front = ask.stands.front;
        here-is = slot-here has ask.stands;
        tagged = ask.stands.tagged;
        fits =
            subst (λ (i : ℕ). Fits (laid ask.choose ask.hold ask.formula i 1) (first i n) (length p) (length t)) (slot-board has ask.stands) room;
      }

  pub root-begun : RootBegun u tags p r n c
  root-begun =
      let z = slot-size has ask.source ask.stands 1 in
      let row : slot_row ≤ length r = omega arith in
      record {
        length-few = omega arith;
        row = row;
        asks = λ t e. root-asks (tail slot_row t) (tail-length slot_row t ∙ ap (◌- slot_row) e);
        kept = λ t q e k. handed-length slot_row t q (omega arith) k ∙ e;
      }

-- ---- what was written
module _ (X : Laid) (board n : ℕ) (size_is : n ≡ size X.here) (p r r1 p' r2 : List ℕ) (x : Lain) (h : Lays X (first board n) p (tail slot_row r1) p' r2 x) where
  root-nodes : nodes_of (rooted board X) ≤ length p → p' ≡ node_bytes (rooted board X) ++ drop (nodes_of (rooted board X)) p
  root-nodes l =
      let a = size X.here in
      let b = nodes_of X.slots in
      let i = length-take-le a p (omega arith) in
      let e : p ≡ take a p ++ (take b (drop a p) ++ drop (a + b) p) = sym (take-append-drop a p) ∙ ap (take a p ++◌) (sym (take-append-drop b (drop a p)) ∙ ap (take b (drop a p) ++◌) (drop-drop b a p)) in
      h.nodes (take a p) [] (take b (drop a p)) (drop (a + b) p) e i (omega arith) (length-take-le b (drop a p) (let k = length-drop a p in omega arith))
      ∙ sym (append_assoc (encode X.here) (node_bytes X.slots) (drop (a + b) p))

  root-rows : r1 ≡ (board ∷ 0 ∷ (le 2 0 ++ le 2 n)) ++ drop slot_row r → slot_rows (length (rooted board X)) ≤ length r
      → tail_as slot_row r1 r2 ≡ slot_records 0 (rooted board X) ++ drop (slot_rows (length (rooted board X))) r
  root-rows row l =
      let m = slot_rows (length (rooted board X)) in
      slot-records X board 0 n n r r1 r2 size_is (omega arith) row h.records (take m r) (drop m r) (sym (take-append-drop m r)) (length-take-le m r l)

pub root-lays : {u tags p : List ℕ} (r : List ℕ) {r1 p' r2 : List ℕ} {x : Lain} {n c : ℕ} → Has (get_or tags 0 0) n c → r1 ≡ (c ∷ 0 ∷ (le 2 0 ++ le 2 n)) ++ drop slot_row r
    → Cuts u tags (first c n) p (tail slot_row r1) p' r2 x → LaysRoot u tags p r p' (tail_as slot_row r1 r2)
root-lays {u} {tags} {p} r {r1} {p'} {r2} {x} {n} {c} has row h choose hold f rest board s o l k =
    subst
    (λ (b : ℕ). nodes_of (rooted b (laid choose hold f b 1)) ≤ length p → slot_rows (length (rooted b (laid choose hold f b 1))) ≤ length r
    → (p' ≡ node_bytes (rooted b (laid choose hold f b 1)) ++ drop (nodes_of (rooted b (laid choose hold f b 1))) p)
    × (tail_as slot_row r1 r2 ≡ slot_records 0 (rooted b (laid choose hold f b 1)) ++ drop (slot_rows (length (rooted b (laid choose hold f b 1)))) r))
    (sym (slot-board has o))
    (λ l k.
    (let X = laid choose hold f c 1 in
    let y = (h choose hold f rest s o.front o.tagged).1 in
    let size_is : n ≡ size X.here = slot-size has s o 1 ∙ ap (λ (i : ℕ). size (laid choose hold f i 1).here) (slot-board has o) in
    (root-nodes X c n size_is p r r1 p' r2 x y l, root-rows X c n size_is p r r1 p' r2 x y row k)))
    l k
