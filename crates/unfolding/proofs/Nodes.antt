-- What is ahead once the first node of the formula at the reading place is written, a law for each kind of node: `leaf-ahead`, `not-ahead`,
-- `next-copy`, `ever-ahead`, `joined-ahead`, `until-ahead`. `node-room` and `ends-within` say what is inside. Assumes nothing.
use mathlib.Core.Path.{◌≡◌, refl, sym, ap, ◌∙◌, subst}
use mathlib.Core.List.{List, [], ◌∷◌, ◌++◌, append_assoc}
use Prim.Native.Nat.{ℕ, ◌+◌, ◌<◌, ◌≤◌}
use native.Mathlib.Nat.{add-zero}
use native.Mathlib.Omega.{arith}
use lib.ListN.{length, get_or, drop}
use lib.Seq.{drop-drop, get_or-drop}
use Rattle.limits.specs.Limits.{nodes_room}
use Rattle.lists.specs.Runs.{tail}
use Rattle.lists.proofs.Parts.{tail-length}
use Rattle.kinds.specs.declared.Leaf.{Leaf}
use Rattle.kinds.specs.declared.Unary.TheVariants.{Not, Next, Ever}
use Rattle.kinds.specs.declared.Join.{Join}
use Rattle.kinds.specs.declared.Binary.TheVariants.{Joined, Until}
use Rattle.kinds.specs.declared.Kind.{Kind}
use Rattle.kinds.specs.declared.Kind.TheVariants.{Zero, One, Two, NoCode}
use Rattle.kinds.specs.Kinds.{kind_of, leaf_code, join_code}
use Rattle.ltl.specs.Formula.{Formula, one, two, size, encode}
use Rattle.ltl.specs.Progression.{unfolded}
use Rattle.ltl.proofs.Decoding.{size-some}
use Rattle.nodes.specs.Begins.{Front, Begins, Ends}
use Rattle.nodes.proofs.Fronts.{front_length, front-begins, front-tail, begins-tail, Parts, is_zero, is_one, is_two, parts-as, no_code}
use Rattle.unfolding.specs.Tasks.{Task, here, ever_end, until_left, Todo, first}
use Rattle.unfolding.specs.Stages.{Stage}
use Rattle.unfolding.proofs.Moves.{front-within, todo-few, stage-length, Ahead, CopyAt}

-- the formula at the reading place, and what is to be done behind it
record HereAt (s : List ℕ) (r : ℕ) (ts : List Task) (bs : List ℕ) : Type 0 where
  formula : Formula
  rest : List ℕ
  after : List ℕ
  front : Front (drop r s) formula rest
  split : bs ≡ encode (unfolded formula) ++ after
  todo : Todo s (r + size formula) ts after

here-at : {s : List ℕ} {r : ℕ} {ts : List Task} {bs : List ℕ} → Todo s r (here ∷ ts) bs → HereAt s r ts bs
here-at {s} {ts = ts} (first xs after d q o) =
    record {
      formula = d.begins.formula;
      rest = d.begins.rest;
      after = after;
      front = d.begins.front;
      split = q ∙ ap (◌++ after) d.writes;
      todo = subst (λ (e : ℕ). Todo s e ts after) d.ends o;
    }

-- what stands at a place of s
first-at : (s : List ℕ) (a b : ℕ) (l : List ℕ) → drop a s ≡ b ∷ l → get_or s a 0 ≡ b
first-at s a b l e = ap (λ (i : ℕ). get_or s i 0) (sym (add-zero a)) ∙ sym (get_or-drop a s 0 0) ∙ ap (λ (u : List ℕ). get_or u 0 0) e

front-behind : (s : List ℕ) (a n : ℕ) {f : Formula} {rest : List ℕ} → Front (drop n (drop a s)) f rest → Front (drop (a + n) s) f rest
front-behind s a n y = record { coded = y.coded; bytes = sym (drop-drop n a s) ∙ y.bytes }

module _ {s : List ℕ} {r : ℕ} {ts : List Task} {bs : List ℕ} (h : HereAt s r ts bs) {k : Kind} (is : k ≡ kind_of (get_or s r 0)) where
  here-parts : {v : Kind} → k ≡ v → Parts (drop r s) h.rest h.formula v
  here-parts e =
      let q : get_or s r 0 ≡ get_or (drop r s) 0 0 = ap (λ (i : ℕ). get_or s i 0) (sym (add-zero r)) ∙ sym (get_or-drop r s 0 0) in
      parts-as (drop r s) h.formula h.rest h.front (is ∙ ap kind_of q) e

module _ (s : List ℕ) (r : ℕ) (ts : List Task) (bs : List ℕ) (rest after : List ℕ) where
  leaf-go : {f : Formula} {a : Leaf} → Parts (drop r s) rest f (Zero a) → bs ≡ encode (unfolded f) ++ after → Todo s (r + size f) ts after → Ahead s bs (get_or s r 0 ∷ []) ts (r + 1)
  leaf-go (is_zero {a = a} w e) q o = record { bytes = after; split = q ∙ ap (◌∷ after) (sym (first-at s r (leaf_code a) rest e)); todo = o }

  not-go : {f : Formula} → Parts (drop r s) rest f (One Not) → bs ≡ encode (unfolded f) ++ after → Todo s (r + size f) ts after → Ahead s bs (get_or s r 0 ∷ []) (here ∷ ts) (r + 1)
  not-go (is_one {f = f} e y) q o =
      let m : r + (1 + size f) ≡ r + 1 + size f = omega arith in
      record {
        bytes = encode (unfolded f) ++ after;
        split = q ∙ ap (◌∷ (encode (unfolded f) ++ after)) (sym (first-at s r 2 (drop 1 (drop r s)) e));
        todo = first {t = here} (encode (unfolded f)) after (record { begins = front-begins (front-behind s r 1 y); writes = refl; ends = m }) refl o;
      }

  ever-go : {f : Formula} {j : Join} → Parts (drop r s) rest f (One (Ever j)) → Front (drop r s) f rest → bs ≡ encode (unfolded f) ++ after → Todo s (r + size f) ts after
      → Ahead s bs (join_code j ∷ []) (here ∷ (ever_end r ∷ ts)) (r + 1)
  ever-go {j = j} (is_one {f = f} e y) p q o =
      let m : r + (1 + size f) ≡ r + 1 + size f = omega arith in
      let z : List ℕ = 5 ∷ encode (one (Ever j) f) in
      record {
        bytes = (encode (unfolded f) ++ z) ++ after;
        split = q;
        todo =
            first {t = here} (encode (unfolded f)) (z ++ after) (record { begins = front-begins (front-behind s r 1 y); writes = refl; ends = refl })
            (append_assoc (encode (unfolded f)) z after)
            (first {t = ever_end r} z after (record { begins = front-begins p; writes = refl; ends = refl }, m) refl o);
      }

  joined-go : {f : Formula} {j : Join} → Parts (drop r s) rest f (Two (Joined j)) → bs ≡ encode (unfolded f) ++ after → Todo s (r + size f) ts after
      → Ahead s bs (get_or s r 0 ∷ []) (here ∷ (here ∷ ts)) (r + 1)
  joined-go {j = j} (is_two {f = f} {g = g} e y z) q o =
      let m : r + (1 + size f + size g) ≡ r + 1 + size f + size g = omega arith in
      let n : r + (1 + size f) ≡ r + 1 + size f = omega arith in
      let second : Front (drop (r + 1 + size f) s) g rest = subst (λ (i : ℕ). Front (drop i s) g rest) n (front-behind s r (1 + size f) z) in
      let A = encode (unfolded f) in
      let B = encode (unfolded g) in
      record {
        bytes = (A ++ B) ++ after;
        split = q ∙ ap (◌∷ ((A ++ B) ++ after)) (sym (first-at s r (join_code j) (drop 1 (drop r s)) e));
        todo =
            first {t = here} A (B ++ after) (record { begins = front-begins (front-behind s r 1 y); writes = refl; ends = refl }) (append_assoc A B after)
            (first {t = here} B after (record { begins = front-begins second; writes = refl; ends = m }) refl o);
      }

  until-go : {f : Formula} → Parts (drop r s) rest f (Two Until) → Front (drop r s) f rest → bs ≡ encode (unfolded f) ++ after → Todo s (r + size f) ts after
      → {n : ℕ} → Ends (tail (r + 1) s) n → Ahead s bs (4 ∷ []) (here ∷ (until_left r ∷ ts)) (r + 1 + n)
  until-go (is_two {f = f} {g = g} e y z) p q o {n} ends =
      let d = ends f (encode g ++ rest) (front-tail (r + 1) s (front-behind s r 1 y)) in
      let i : r + (1 + size f) ≡ r + 1 + n = omega arith in
      let right : Front (drop (r + 1 + n) s) g rest = subst (λ (i : ℕ). Front (drop i s) g rest) i (front-behind s r (1 + size f) z) in
      let A = encode (unfolded g) in
      let B : List ℕ = 3 ∷ (encode (unfolded f) ++ (5 ∷ encode (two Until f g))) in
      record {
        bytes = (A ++ B) ++ after;
        split = q;
        todo =
            first {t = here} A (B ++ after) (record { begins = front-begins right; writes = refl; ends = refl }) (append_assoc A B after)
            (first {t = until_left r} B after (record { left = f; right = g; rest = rest; front = p; writes = refl; ends = refl }) refl o);
      }

next-go : (s : List ℕ) (r : ℕ) (ts : List Task) (bs rest after : List ℕ) {f : Formula} → Parts (drop r s) rest f (One Next) → bs ≡ encode (unfolded f) ++ after → Todo s (r + size f) ts after
    → {n : ℕ} → Ends (tail (r + 1) s) n → CopyAt s (r + 1) n (r + 1 + n) ts bs
next-go s r ts bs rest after (is_one {f = f} e y) q o {n} ends =
    let z = front-behind s r 1 y in
    let d = ends f rest (front-tail (r + 1) s z) in
    let m : r + (1 + size f) ≡ r + 1 + n = omega arith in
    record { formula = f; rest = rest; front = z; long = d; ends = refl; ahead = record { bytes = after; split = q; todo = subst (λ (i : ℕ). Todo s i ts after) m o } }

one-begins : (s : List ℕ) (r : ℕ) {rest : List ℕ} {f : Formula} → Parts (drop r s) rest f (One Next) → Begins (tail (r + 1) s)
one-begins s r (is_one e y) = begins-tail (r + 1) s (front-behind s r 1 y)

two-begins : (s : List ℕ) (r : ℕ) {rest : List ℕ} {f : Formula} → Parts (drop r s) rest f (Two Until) → Begins (tail (r + 1) s)
two-begins s r (is_two e y z) = begins-tail (r + 1) s (front-behind s r 1 y)

-- ---- room
-- a formula stands at r, a byte is to be written at w, and a task stands at k
pub record NodeRoom (s out notes : List ℕ) (r w k : ℕ) : Type 0 where
  pub reads : r < length s
  pub few : length s ≤ nodes_room
  pub writes : w < length out
  pub below : k < length notes

pub node-room : {s out notes : List ℕ} {r w k : ℕ} {ts : List Task} {bs : List ℕ} → Stage s out notes r w k (here ∷ ts) bs → NodeRoom s out notes r w k
node-room {s} {r = r} x =
    let h = here-at x.todo in
    let z = size-some h.formula in
    let w = front-within s r h.front in
    let l = stage-length x in
    let f = todo-few x.todo in
    let m = x.room in
    record { reads = omega arith; few = x.few; writes = omega arith; below = omega arith }

-- the end of the formula at a place is inside
pub ends-within : (s : List ℕ) (a : ℕ) → a ≤ length s → Begins (tail a s) → {n : ℕ} → Ends (tail a s) n → a + n ≤ length s
ends-within s a h b ends =
    let e = ends b.formula b.rest b.front in
    let l = front_length (tail a s) b.formula b.rest b.front in
    let t = tail-length a s in
    omega arith

-- ---- at a place of the code: the kind that `Kind::from` gave, and the variants that it was matched with
module _ {s : List ℕ} {r : ℕ} {ts : List Task} {bs : List ℕ} (t : Todo s r (here ∷ ts) bs) {k : Kind} (is : k ≡ kind_of (get_or s r 0)) where
  abbrev H : HereAt s r ts bs
  H = here-at t

  pub leaf-ahead : {a : Leaf} → k ≡ Zero a → Ahead s bs (get_or s r 0 ∷ []) ts (r + 1)
  leaf-ahead e = leaf-go s r ts bs _ _ (here-parts H is e) H.split H.todo

  pub not-ahead : k ≡ One Not → Ahead s bs (get_or s r 0 ∷ []) (here ∷ ts) (r + 1)
  not-ahead e = not-go s r ts bs _ _ (here-parts H is e) H.split H.todo

  pub next-begins : k ≡ One Next → Begins (tail (r + 1) s)
  next-begins e = one-begins s r (here-parts H is e)

  pub next-copy : k ≡ One Next → {n : ℕ} → Ends (tail (r + 1) s) n → CopyAt s (r + 1) n (r + 1 + n) ts bs
  next-copy e = next-go s r ts bs _ _ (here-parts H is e) H.split H.todo

  pub ever-ahead : {j : Join} → k ≡ One (Ever j) → Ahead s bs (join_code j ∷ []) (here ∷ (ever_end r ∷ ts)) (r + 1)
  ever-ahead e = ever-go s r ts bs _ _ (here-parts H is e) H.front H.split H.todo

  pub joined-ahead : {j : Join} → k ≡ Two (Joined j) → Ahead s bs (get_or s r 0 ∷ []) (here ∷ (here ∷ ts)) (r + 1)
  joined-ahead e = joined-go s r ts bs _ _ (here-parts H is e) H.split H.todo

  pub until-begins : k ≡ Two Until → Begins (tail (r + 1) s)
  until-begins e = two-begins s r (here-parts H is e)

  pub until-ahead : k ≡ Two Until → {n : ℕ} → Ends (tail (r + 1) s) n → Ahead s bs (4 ∷ []) (here ∷ (until_left r ∷ ts)) (r + 1 + n)
  until-ahead e = until-go s r ts bs _ _ (here-parts H is e) H.front H.split H.todo

  pub none_ahead : k ≡ NoCode → ⊥
  none_ahead e = no_code (here-parts H is e)
