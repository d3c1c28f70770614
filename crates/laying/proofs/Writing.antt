-- What laying writes, by the top node: one law for each (`lays-..`), over the bytes before and after. Assumes nothing.
use mathlib.Core.Path.{◌≡◌, refl, sym, ap, ap₂, ◌∙◌}
use mathlib.Core.List.{List, [], ◌∷◌, ◌++◌, append_assoc}
use Prim.Native.Nat.{ℕ, suc, ◌+◌}
use native.Mathlib.Omega.{arith}
use lib.ListN.{length, take, drop, set, length-append}
use lib.Seq.{drop_at}
use Rattle.state.specs.Form.{slot_row, slot_rows}
use Rattle.lists.specs.Runs.{tail, tail_as}
use Rattle.lists.proofs.Parts.{lent-tail, handed-tail}
use Rattle.lists.proofs.Stretches.{none-long}
use Rattle.kinds.specs.declared.Leaf.TheVariants.{Hold}
use Rattle.kinds.specs.declared.Unary.{Unary}
use Rattle.kinds.specs.declared.Binary.{Binary}
use Rattle.kinds.specs.Kinds.{leaf_code, unary_code, binary_code}
use Rattle.le.specs.Le.{le}
use Rattle.le.proofs.Laws.{le-length}
use Rattle.ltl.specs.Formula.{Formula, one, two, size, encode}
use Rattle.ltl.proofs.Decoding.{length-encode}
use Rattle.nodes.specs.Begins.{Front}
use Rattle.nodes.proofs.Fronts.{front-own}
use Rattle.network.specs.Layout.{Laid, whole, under, beside, cut, rooted}
use Rattle.state.specs.Bytes.{nodes_of, slot_records, node_bytes}
use Rattle.state.proofs.SlotRows.{records-length}
use Rattle.state.proofs.SlotRows.{nodes-length}
use Rattle.laying.specs.declared.Place.{Place}
use Rattle.laying.specs.declared.Lain.{Lain}
use Rattle.laying.specs.Lays.{Lays, Plain}
use Rattle.laying.proofs.Places.{inner, behind, owned}
use Rattle.laying.proofs.Appending.{nodes-both, bytes-both, records-both, split}

-- ---- nodes as they are
pub lays-whole : (f : Formula) (at : Place) (p r p' : List ℕ) (y : Lain) → p' ≡ encode f ++ drop (size f) p → Plain (size f) y → Lays (whole f) at p r p' r y
lays-whole f at p r p' y e x =
    record {
      here-is = x.here-is;
      slots-are = x.slots-none;
      nodes-are = x.nodes-none;
      nodes = λ H M Q R b h g q.
          e ∙ ap (encode f ++◌) (ap (drop (size f)) b ∙ drop_at H (M ++ (Q ++ R)) (size f) h ∙ ap (λ (z : List ℕ). M ++ (z ++ R)) (none-long Q q));
      records = λ Q R b q. b ∙ ap (◌++ R) (none-long Q q);
    }

-- ---- a part lent on behind A, and handed back as C
lent-on : {s q C : List ℕ} {a : ℕ} (A B : List ℕ) → s ≡ A ++ B → length A ≡ a → (tail a s ≡ B → q ≡ C) → tail_as a s q ≡ A ++ C
lent-on {s} {q} {a = a} A B e l h = handed-tail s A B a e l q ∙ ap (A ++◌) (h (lent-tail s A B a e l))

-- ---- not
module _ (o : Unary) (x : Laid) (at : Place) (p r q r' : List ℕ) (y : Lain) (h : Lays x (inner at) (tail 1 (set p 0 (unary_code o))) r q r' y) where
  pub lays_one : (z : Lain) → (z.here ≡ 1 + y.here) × (z.slots ≡ y.slots) × (z.nodes ≡ y.nodes) → Lays (under o x) at p r (tail_as 1 (set p 0 (unary_code o)) q) r' z
  lays_one z e = record { here-is = omega arith; slots-are = e.1 ∙ h.slots-are; nodes-are = e.2 ∙ h.nodes-are; nodes = go; records = h.records }
    where
      go : (H M Q R : List ℕ) → p ≡ H ++ (M ++ (Q ++ R)) → length H ≡ 1 + size x.here → length H + length M ≡ at.gap → length Q ≡ nodes_of x.slots
          → tail_as 1 (set p 0 (unary_code o)) q ≡ encode (one o x.here) ++ (M ++ (node_bytes x.slots ++ R))
      go [] M Q R b l g k = absurd (omega arith)
      go (n ∷ H) M Q R b l g k =
          lent-on (unary_code o ∷ []) (H ++ (M ++ (Q ++ R))) (ap (λ (p : List ℕ). set p 0 (unary_code o)) b) refl (λ t. h.nodes H M Q R t (omega arith) (omega arith) k)

-- ---- two operands, the byte in front being b
module _ (o : Binary) (X Y : Laid) (b : ℕ) (code : b ≡ binary_code o) (at : Place) (p r q r1 : List ℕ) (x : Lain) (h : Lays X (inner at) (tail 1 (set p 0 b)) r q r1 x) (q2 r2 : List ℕ) (y : Lain)
    (k : Lays Y (behind at x) (tail (1 + x.here) (tail_as 1 (set p 0 b) q)) (tail (slot_rows x.slots) r1) q2 r2 y) where
  -- the nodes, the lists already cut
  two-nodes : (n : ℕ) (H G M Q T R : List ℕ) → p ≡ n ∷ (H ++ (G ++ (M ++ (Q ++ (T ++ R))))) → length H ≡ size X.here → length G ≡ size Y.here
      → 1 + length H + length G + length M ≡ at.gap → length Q ≡ nodes_of X.slots → length T ≡ nodes_of Y.slots
      → tail_as (1 + x.here) (tail_as 1 (set p 0 b) q) q2
      ≡ binary_code o ∷ (encode X.here ++ (encode Y.here ++ (M ++ (node_bytes X.slots ++ (node_bytes Y.slots ++ R)))))
  two-nodes n H G M Q T R e a c g d i =
      let A = b ∷ encode X.here in
      let N = node_bytes X.slots in
      let l = length-append G M in
      let m = length-append M N in
      let u = length-encode X.here in
      let v = nodes-length X.slots in
      let w = h.here-is in
      let left : tail_as 1 (set p 0 b) q ≡ A ++ (G ++ ((M ++ N) ++ (T ++ R))) =
      lent-on (b ∷ []) (H ++ (G ++ (M ++ (Q ++ (T ++ R))))) (ap (λ (p : List ℕ). set p 0 b) e) refl
      (λ t. h.nodes H (G ++ M) Q (T ++ R) (t ∙ ap (H ++◌) (sym (append_assoc G M (Q ++ (T ++ R))))) a (omega arith) d)
      ∙ simp append_assoc in
      lent-on A (G ++ ((M ++ N) ++ (T ++ R))) left (omega arith) (λ t. k.nodes G (M ++ N) T R t c (let j = h.nodes-are in omega arith) i) ∙ simp (append_assoc, code)

  two_records : (Q T R : List ℕ) → r ≡ Q ++ (T ++ R) → length Q ≡ slot_rows (length X.slots) → length T ≡ slot_rows (length Y.slots)
      → tail_as (slot_rows x.slots) r1 r2 ≡ slot_records at.node X.slots ++ (slot_records (at.node + nodes_of X.slots) Y.slots ++ R)
  two_records Q T R e a c =
      let l = records-length at.node X.slots in
      let long : length (slot_records at.node X.slots) ≡ slot_rows x.slots = let m = h.slots-are in omega arith in
      lent-on (slot_records at.node X.slots) (T ++ R) (h.records Q (T ++ R) e a) long (λ t. k.records T R t c ∙ ap (λ (i : ℕ). slot_records (at.node + i) Y.slots ++ R) h.nodes-are)

  pub lays-two : (z : Lain) → (z.here ≡ 1 + x.here + y.here) × (z.slots ≡ x.slots + y.slots) × (z.nodes ≡ x.nodes + y.nodes)
      → Lays (beside o X Y) at p r (tail_as (1 + x.here) (tail_as 1 (set p 0 b) q) q2) (tail_as (slot_rows x.slots) r1 r2) z
  lays-two z e =
      let l = length-append X.slots Y.slots in
      let n = nodes-both X.slots Y.slots in
      record { here-is = omega arith; slots-are = omega arith; nodes-are = omega arith; nodes = go; records = rows }
    where
      go : (H M Q R : List ℕ) → p ≡ H ++ (M ++ (Q ++ R)) → length H ≡ 1 + size X.here + size Y.here → length H + length M ≡ at.gap → length Q ≡ nodes_of (X.slots ++ Y.slots)
          → tail_as (1 + x.here) (tail_as 1 (set p 0 b) q) q2 ≡ encode (two o X.here Y.here) ++ (M ++ (node_bytes (X.slots ++ Y.slots) ++ R))
      go [] M Q R a l g c = absurd (omega arith)
      go (n ∷ H) M Q R a l g c =
          let u = split (size X.here) H (omega arith) in
          let d = nodes-both X.slots Y.slots in
          let v = split (nodes_of X.slots) Q (omega arith) in
          two-nodes n u.low u.high M v.low v.high R
          (a ∙ ap₂ (λ (y z : List ℕ). n ∷ (y ++ (M ++ (z ++ R)))) u.both-are v.both-are ∙ simp append_assoc)
          u.low-long (omega arith) (omega arith) v.low-long (omega arith)
          ∙ simp (append_assoc, bytes-both X.slots Y.slots)

      rows : (Q R : List ℕ) → r ≡ Q ++ R → length Q ≡ slot_rows (length (X.slots ++ Y.slots)) → tail_as (slot_rows x.slots) r1 r2 ≡ slot_records at.node (X.slots ++ Y.slots) ++ R
      rows Q R a l =
          let d = length-append X.slots Y.slots in
          let v = split (slot_rows (length X.slots)) Q (omega arith) in
          two_records v.low v.high R (a ∙ ap (◌++ R) v.both-are ∙ append_assoc v.low v.high R) v.low-long (omega arith)
          ∙ simp (append_assoc, records-both at.node X.slots Y.slots)

-- ---- a slot of its own
-- its record in front of those of the slots cut out of it, m being where their nodes begin
module _ (X : Laid) (board start n m : ℕ) (r r1 r2 : List ℕ) (size_is : n ≡ size X.here) (next : m ≡ start + n) (row : r1 ≡ (board ∷ 0 ∷ (le 2 start ++ le 2 n)) ++ drop slot_row r)
    (h : (Q R : List ℕ) → tail slot_row r1 ≡ Q ++ R → length Q ≡ slot_rows (length X.slots) → r2 ≡ slot_records m X.slots ++ R) where
  pub slot-records : (Q R : List ℕ) → r ≡ Q ++ R → length Q ≡ slot_rows (suc (length X.slots)) → tail_as slot_row r1 r2 ≡ slot_records start (rooted board X) ++ R
  slot-records Q R e l =
      let A = board ∷ 0 ∷ (le 2 start ++ le 2 n) in
      let long : length A ≡ slot_row = let l = length-append (le 2 start) (le 2 n) in let i = le-length 2 start in let j = le-length 2 n in omega arith in
      let v = split slot_row Q (omega arith) in
      let T = v.high ++ R in
      let is : r1 ≡ A ++ T = row ∙ ap (A ++◌) (ap (drop slot_row) (e ∙ ap (◌++ R) v.both-are ∙ append_assoc v.low v.high R) ∙ drop_at v.low T slot_row v.low-long) in
      let t : m ≡ start + size X.here = omega arith in
      lent-on A T is long (λ t. h v.high R t (omega arith))
      ∙ ap₂ (λ (i j : ℕ). (board ∷ 0 ∷ (le 2 start ++ le 2 i)) ++ (slot_records j X.slots ++ R)) size_is t
      ∙ simp append_assoc

module _ (X : Laid) (board : ℕ) (at : Place) (p r q r1 r2 : List ℕ) (n : ℕ) (x : Lain) (size_is : n ≡ size X.here) (row : r1 ≡ (board ∷ 0 ∷ (le 2 at.node ++ le 2 n)) ++ drop slot_row r)
    (h : Lays X (owned at board n) (tail at.gap (set p 0 (leaf_code (Hold at.slot)))) (tail slot_row r1) q r2 x) where
  pub lays-slot : (z : Lain) → (z.here ≡ 1) × (z.slots ≡ 1 + x.slots) × (z.nodes ≡ n + x.nodes)
      → Lays (cut board at.slot X) at p r (tail_as at.gap (set p 0 (leaf_code (Hold at.slot))) q) (tail_as slot_row r1 r2) z
  lays-slot z e =
      record { here-is = e.0; slots-are = omega arith; nodes-are = omega arith; nodes = go; records = slot-records X board at.node n (at.node + n) r r1 r2 size_is refl row h.records }
    where
      go : (H M Q R : List ℕ) → p ≡ H ++ (M ++ (Q ++ R)) → length H ≡ 1 → length H + length M ≡ at.gap → length Q ≡ size X.here + nodes_of X.slots
          → tail_as at.gap (set p 0 (leaf_code (Hold at.slot))) q ≡ leaf_code (Hold at.slot) ∷ (M ++ ((encode X.here ++ node_bytes X.slots) ++ R))
      go [] M Q R b l g c = absurd (omega arith)
      go (m ∷ m2 ∷ H) M Q R b l g c = absurd (omega arith)
      go (m ∷ []) M Q R b l g c =
          let B = leaf_code (Hold at.slot) in
          let v = split (size X.here) Q (omega arith) in
          let T = v.low ++ (v.high ++ R) in
          let s : set p 0 B ≡ (B ∷ M) ++ T = ap (λ (p : List ℕ). set p 0 B) b ∙ ap (λ (z : List ℕ). B ∷ (M ++ (z ++ R))) v.both-are ∙ simp append_assoc in
          let i = v.low-long in
          let long : length (B ∷ M) ≡ at.gap = omega arith in
          lent-on (B ∷ M) T s long (λ t. h.nodes v.low [] v.high R t i (omega arith) (omega arith)) ∙ simp append_assoc

-- ---- a formula as it stands
pub whole-put : {f : Formula} {u rest p' : List ℕ} {n : ℕ} → Front u f rest → n ≡ size f → (p : List ℕ) → p' ≡ take n (drop 0 u) ++ drop (length (take n (drop 0 u))) p → p' ≡ encode f ++ drop (size f) p
whole-put {f} {u} {rest} {n = n} x e p w =
    let t : take n u ≡ encode f = ap (λ (i : ℕ). take i u) e ∙ front-own u f rest x in
    w ∙ ap (λ (y : List ℕ). y ++ drop (length y) p) t ∙ ap (λ (i : ℕ). encode f ++ drop i p) (length-encode f)
