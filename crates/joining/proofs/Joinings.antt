-- Two results joined: one law for each way out, by the first bytes of the two. `Pairing` has the numbers of both, and `pairing` makes it.
-- Assumes nothing.
use mathlib.Core.Path.{◌≡◌, refl, sym, ap, ap₂, ◌∙◌, subst}
use mathlib.Core.Bool.{Bool, true, false, not}
use mathlib.Core.List.{List, [], ◌∷◌, ◌++◌, append_assoc}
use Prim.Native.Nat.{ℕ, suc, ◌+◌, ◌-◌, ◌<◌, ◌≤◌}
use native.Mathlib.Omega.{arith}
use lib.ListN.{length, get_or, set, take, drop, length-set, length-drop}
use lib.Seq.{get_or-set_same, get_or-set_other, take-set-le, length-take-le, get_or-take, get_or-drop}
use Rattle.limits.specs.Limits.{nodes_room}
use Rattle.lists.proofs.Drops.{put-below}
use Rattle.lists.proofs.Splices.{Spliced, splice-drop, splice-take, splice-in, splice_front, splice-behind}
use Rattle.kinds.specs.declared.Join.{Join}
use Rattle.kinds.specs.declared.Join.TheVariants.{And, Or}
use Rattle.kinds.specs.declared.Leaf.TheVariants.{Const}
use Rattle.kinds.specs.Kinds.{leaf_code, join_code}
use Rattle.ltl.specs.Formula.{Formula, constant, join, size, encode}
use Rattle.ltl.specs.Progression.{is_constant, deciding, joined}
use Rattle.nodes.proofs.Fronts.{front-own}
use Rattle.peeling.specs.Peeled.{encodes}
use Rattle.stacking.specs.Stacks.{Spined, Stack, Spared}
use Rattle.stacking.proofs.Firsts.{first-constant, first-pending, first-other, joined-left, joined-right, joined-skip, joined-keep, joined-member, joined-both}
use Rattle.stacking.proofs.Stacks.{Lowest, top_of, stacked, spined-same, spined-moved, spined-plain, untouched-same, push-done}
use Rattle.joining.specs.Members.{Compared, Comparable, IsMember}
use Rattle.joining.specs.Joins.{Pair, JoinAsk, JoinsPair, Open, OpenAsk, OpenJoins, KeepAsk, Keeps}

-- ---- both results in numbers
pub record Pairing (f g : Formula) (fs : List Formula) (p notes : List ℕ) (w l r : ℕ) : Type 0 where
  pub left : Lowest f (g ∷ fs) p notes w
  pub left-long : l ≡ size f
  pub right : Lowest g fs p notes (w + l)
  pub right-long : r ≡ size g
  pub some_left : 0 < l
  pub some_right : 0 < r
  pub whole : w + l + r ≤ length p
  pub room : length p ≤ length notes
  pub few : length p ≤ nodes_room
  pub others : Stack fs p notes (w + l + r)

pub pairing : {f g : Formula} {fs : List Formula} {p notes : List ℕ} {w l r : ℕ} → Stack (f ∷ (g ∷ fs)) p notes w → l ≡ size f → r ≡ size g
    → Pairing f g fs p notes w l r
pairing {f} {g} {fs} {p} {notes} {w} {l} {r} s e i =
    let t = top_of s in
    let u = top_of (subst (λ (k : ℕ). Stack (g ∷ fs) p notes (w + k)) (sym e) t.others) in
    let x = u.long in
    let a = t.some in
    let b = u.some in
    record {
      left = t;
      left-long = e;
      right = u;
      right-long = i;
      some_left = omega arith;
      some_right = omega arith;
      whole = omega arith;
      room = t.room;
      few = t.few;
      others = subst (λ (k : ℕ). Stack fs p notes (w + l + k)) (sym i) u.others;
    }

-- ---- by the first bytes
module _ {f g : Formula} {fs : List Formula} {p notes : List ℕ} {w l r : ℕ} (t : Pairing f g fs p notes w l r) (j : Join) where
  -- the left operand settles it
  pub join-settled : get_or p w 0 ≡ leaf_code (Const (deciding j)) → (b : ℕ) → b ≡ leaf_code (Const (deciding j))
      → Stack (joined j f g ∷ fs) (set p (w + l + r - 1) b) (set notes (w + l + r - 1) 1) (w + l + r - 1)
  join-settled e b h =
      let k = t.some_left in
      let c = joined-left j f g (first-constant (deciding j) f (sym t.left.byte ∙ e)) in
      subst (λ (x : Formula). Stack (x ∷ fs) (set p (w + l + r - 1) b) (set notes (w + l + r - 1) 1) (w + l + r - 1)) (sym c)
      (push-done t.others (omega arith) (constant (deciding j)) b tt (ap (◌∷ []) (sym h)) refl (λ i q. settled_plain j i q))
    where
      settled_plain : (j i : Join) → leaf_code (Const (deciding j)) ≡ join_code i → ⊥
      settled_plain And And q = omega arith
      settled_plain And Or q = omega arith
      settled_plain Or And q = omega arith
      settled_plain Or Or q = omega arith

  -- it says nothing
  pub join-skipped : get_or p w 0 < 2 → (get_or p w 0 ≡ leaf_code (Const (deciding j)) → ⊥) → Stack (joined j f g ∷ fs) p notes (w + l)
  join-skipped h n =
      let b = t.left.byte in
      let c = joined-skip j f g (first-other j f (omega arith) (λ e. n (b ∙ e))) in
      subst (λ (x : Formula). Stack (x ∷ fs) p notes (w + l)) (sym c) right-stack
    where
      right-stack : Stack (g ∷ fs) p notes (w + l)
      right-stack = subst (λ (k : ℕ). Stack (g ∷ fs) p notes (w + k)) (sym t.left-long) t.left.others

  -- the right operand settles it
  pub join-decided : get_or p (w + l) 0 ≡ leaf_code (Const (deciding j)) → Stack (joined j f g ∷ fs) p notes (w + l)
  join-decided e =
      let k = first-constant (deciding j) g (sym t.right.byte ∙ e) in
      let c = joined-right j f g k ∙ sym k in
      subst (λ (x : Formula). Stack (x ∷ fs) p notes (w + l)) (sym c) (subst (λ (k : ℕ). Stack (g ∷ fs) p notes (w + k)) (sym t.left-long) t.left.others)

  -- ---- the left operand is no constant, and the right one does not settle it
  module _ (pending : 2 ≤ get_or p w 0) (not-settled : get_or p (w + l) 0 ≡ leaf_code (Const (deciding j)) → ⊥) where
    left-pending : (v : Bool) → is_constant v f ≡ false
    left-pending = let b = t.left.byte in first-pending f (omega arith)

    -- the right one says nothing
    module _ (h : get_or p (w + l) 0 < 2) where
      right-other : g ≡ constant (not (deciding j))
      right-other = let b = t.right.byte in first-other j g (omega arith) (λ e. not-settled (b ∙ e))

      pub open-one : size g ≡ 1
      open-one = ap size right-other

      pub open_kept : joined j f g ≡ f
      open_kept = joined-keep j f g left-pending right-other

    module _ (h : 2 ≤ get_or p (w + l) 0) {notes' : List ℕ} {x : Bool} {op : ℕ} (op-is : op ≡ join_code j) (m : IsMember p notes w l r op notes' x) where
      right-pending : (v : Bool) → is_constant v g ≡ false
      right-pending = let b = t.right.byte in first-pending g (omega arith)

      compared : Compared p w l r op j f g (encodes fs)
      compared = record { left = t.left.front; right = t.right.front; left-long = t.left-long; right-long = t.right-long; op-is = op-is }

      spined : Spined notes' (w + l) g
      spined = (m.means j f g (encodes fs) compared).1

      -- the right one has the left one as a member
      pub open-member : length notes' ≡ length notes → x ≡ true → Stack (joined j f g ∷ fs) p notes' (w + l)
      open-member ln e =
          let c = joined-member j f g left-pending right-pending (sym (m.means j f g (encodes fs) compared).0 ∙ e) in
          let i = t.right-long in
          subst (λ (y : Formula). Stack (y ∷ fs) p notes' (w + l)) (sym c)
          (stacked t.others g (w + l) t.right.front.coded (t.right.front.bytes ∙ ap (encode g ++◌) (sym t.others.bytes)) refl ln (omega arith)
          (m.below (w + l) (omega arith) ∙ t.right.note) spined m.behind)

      -- it has not: both stay, behind the operator
      pub open-both : length notes' ≡ length notes → x ≡ false → 0 < w → (n k : ℕ) → n ≡ 1 + l + r → k ≡ l
          → Stack (joined j f g ∷ fs) (set p (w - 1) op) (set (set notes' (w - 1) n) w k) (w - 1)
      open-both ln e some n k en ek =
          let c = joined-both j f g left-pending right-pending (sym (m.means j f g (encodes fs) compared).0 ∙ e) in
          let i = t.left-long in
          let i2 = t.right-long in
          let wh = t.whole in
          let rm = t.room in
          let v : w ≡ suc (w - 1) = omega arith in
          subst (λ (y : Formula). Stack (y ∷ fs) (set p (w - 1) op) (set (set notes' (w - 1) n) w k) (w - 1)) (sym c)
          (stacked t.others (join j f g) (w - 1) (t.left.front.coded, t.right.front.coded)
          (put-below p (w - 1) w op v (omega arith) ∙ ap₂ ◌∷◌ op-is (t.left.front.bytes ∙ sym (ap ((encode f ++ encode g) ++◌) t.others.bytes ∙ append_assoc (encode f) (encode g) (encodes fs))))
          (length-set p (w - 1) op) (length-set (set notes' (w - 1) n) w k ∙ length-set notes' (w - 1) n ∙ ln) (omega arith)
          (get_or-set_other (set notes' (w - 1) n) w (w - 1) k 0 (λ q. omega arith) ∙ get_or-set_same notes' (w - 1) n 0 (omega arith) ∙ en ∙ (omega arith))
          (left-noted v, right-noted)
          (λ q a. get_or-set_other (set notes' (w - 1) n) w q k 0 (λ z. omega arith) ∙ get_or-set_other notes' (w - 1) q n 0 (λ z. omega arith) ∙ m.behind q a))
        where
          notes'' : List ℕ
          notes'' = set (set notes' (w - 1) n) w k

          place : w - 1 + 1 ≡ w
          place = omega arith

          left-noted : w ≡ suc (w - 1) → 0 < get_or notes'' (w - 1 + 1) 0 → get_or notes'' (w - 1 + 1) 0 ≡ size f
          left-noted v h =
              let a = length-set notes' (w - 1) n in
              let b = t.room in
              let d = t.whole in
              let s = t.some_left in
              ap (λ (q : ℕ). get_or notes'' q 0) place ∙ get_or-set_same (set notes' (w - 1) n) w k 0 (omega arith) ∙ ek ∙ t.left-long

          right-noted : Spined notes'' (w - 1 + 1 + size f) g
          right-noted =
              let i = t.left-long in
              let s = t.some_left in
              let z : w + l ≡ w - 1 + 1 + size f = omega arith in
              subst (λ (q : ℕ). Spined notes'' q g) z
              (spined-same g notes' notes'' (w + l) (λ q a b. get_or-set_other (set notes' (w - 1) n) w q k 0 (λ y. omega arith) ∙ get_or-set_other notes' (w - 1) q n 0 (λ y. omega arith)) spined)

      pub both-untouched : (n k : ℕ) → Spared w p notes (set p (w - 1) op) (set (set notes' (w - 1) n) w k)
      both-untouched n k =
          record {
            front = λ v a. take-set-le v p (w - 1) op (omega arith);
            notes-front = λ q a. get_or-set_other (set notes' (w - 1) n) w q k 0 (λ z. omega arith) ∙ get_or-set_other notes' (w - 1) q n 0 (λ z. omega arith) ∙ m.below q (omega arith);
          }

-- ---- the left operand moved over a right one of one byte
module _ {f g : Formula} {fs : List Formula} {p notes : List ℕ} {w l : ℕ} (s : Stack (f ∷ (g ∷ fs)) p notes w) (e : l ≡ size f) (o : size g ≡ 1) where
  over : Pairing f g fs p notes w l 1
  over = pairing s e (sym o)

  own : take l (drop w p) ≡ encode f
  own = ap (λ (k : ℕ). take k (drop w p)) e ∙ front-own (drop w p) f (encodes (g ∷ fs)) over.left.front

  module _ {p' : List ℕ} (m : Spliced p p' (take l (drop w p)) (w + 1) l) (lp : length p' ≡ length p) where
    moved-bytes : drop (w + 1) p' ≡ encode f ++ drop (w + l + 1) p
    moved-bytes =
        let z : w + 1 + l ≡ w + l + 1 = omega arith in
        splice-drop m ∙ ap₂ ◌++◌ own (ap (λ (k : ℕ). drop k p) z)

    moved : {notes' : List ℕ} → length notes' ≡ length notes → get_or notes' (w + 1) 0 ≡ size f → Spined notes' (w + 1) f
        → ((q : ℕ) → w + l + 1 ≤ q → get_or notes' q 0 ≡ get_or notes q 0) → Stack (f ∷ fs) p' notes' (w + 1)
    moved ln n x b = stacked over.others f (w + 1) over.left.front.coded moved-bytes lp ln (omega arith) n x b

    -- its notes moved with it
    pub keep-joined : {notes' : List ℕ} → Spliced notes notes' (take l (drop w notes)) (w + 1) l → length notes' ≡ length notes → Stack (f ∷ fs) p' notes' (w + 1)
    keep-joined {notes'} k ln =
        moved ln
        (let z : w + 1 + 0 ≡ w + 1 = omega arith in
        let y : w + 0 ≡ w = omega arith in
        ap (λ (q : ℕ). get_or notes' q 0) (sym z) ∙ note-at 0 over.some_left ∙ ap (λ (q : ℕ). get_or notes q 0) y ∙ over.left.note)
        (spined-moved f notes notes' w (w + 1) (λ i a b. note-at i (omega arith)) over.left.spined)
        (λ q a. splice-behind k q (omega arith))
      where
        note-at : (i : ℕ) → i < l → get_or notes' (w + 1 + i) 0 ≡ get_or notes (w + i) 0
        note-at i h = splice-in k i h ∙ get_or-take l (drop w notes) i 0 h ∙ get_or-drop w notes i 0

    -- it has none but its length
    pub keep-plain : ((i : Join) → get_or p w 0 ≡ join_code i → ⊥) → (n : ℕ) → n ≡ l → Stack (f ∷ fs) p' (set notes (w + 1) n) (w + 1)
    keep-plain h n i =
        let k = over.room in
        let u = over.whole in
        let a = over.some_left in
        moved (length-set notes (w + 1) n) (get_or-set_same notes (w + 1) n 0 (omega arith) ∙ i ∙ e)
        (spined-plain f (set notes (w + 1) n) (w + 1) (λ j q. h j (over.left.byte ∙ q)))
        (λ q b. get_or-set_other notes (w + 1) q n 0 (λ z. omega arith))

-- all that is promised of it: m says how many bytes were moved, and by how much
module _ {p notes p' : List ℕ} {w l : ℕ} (ask : KeepAsk p notes w l) (up : p' ≡ take (w + 1) p ++ (take l (drop w p) ++ drop (w + 1 + l) p)) (lp : length p' ≡ length p) where
  asked : Pairing ask.f ask.g ask.others p notes w l 1
  asked = pairing ask.stack ask.left-long (sym ask.right-long)

  lifted : (q : List ℕ) → length p ≤ length q → {q' : List ℕ} → q' ≡ take (w + 1) q ++ (take l (drop w q) ++ drop (w + 1 + l) q) → Spliced q q' (take l (drop w q)) (w + 1) l
  lifted q h e =
      let k = asked.whole in
      let d = length-drop w q in
      record { is = e; long = length-take-le l (drop w q) (omega arith); fits = omega arith }

  pub keeps-joined : {notes' : List ℕ} → notes' ≡ take (w + 1) notes ++ (take l (drop w notes) ++ drop (w + 1 + l) notes) → length notes' ≡ length notes
      → Keeps p notes w l p' notes' (w + 1)
  keeps-joined e ln =
      let m = lifted p (omega arith) up in
      let k = lifted notes asked.room e in
      record {
        place = refl;
        front = λ u a. splice-take m u (omega arith);
        notes-front = λ q a. splice_front k q (omega arith);
        means = λ f g fs s i o. keep-joined s i o m lp k ln;
      }

  pub keeps-plain : ((i : Join) → get_or p w 0 ≡ join_code i → ⊥) → {n : ℕ} → n ≡ l → Keeps p notes w l p' (set notes (w + 1) n) (w + 1)
  keeps-plain h {n} e =
      let m = lifted p (omega arith) up in
      record {
        place = refl;
        front = λ u a. splice-take m u (omega arith);
        notes-front = λ q a. get_or-set_other notes (w + 1) q n 0 (λ z. omega arith);
        means = λ f g fs s i o. keep-plain s i o m lp h n e;
      }

-- ---- what is asked of the functions, in numbers
pub opened : {p notes : List ℕ} {w op l r : ℕ} {j : Join} {f g : Formula} {fs : List Formula} → Open p notes w op l r j f g fs → Pairing f g fs p notes w l r
opened o = pairing o.stack o.left-long o.right-long

pub open-comparable : {p notes : List ℕ} {w op l r : ℕ} {j : Join} {f g : Formula} {fs : List Formula} → Open p notes w op l r j f g fs → Comparable p notes w l r op
open-comparable {j = j} {f = f} {g = g} {fs = fs} o =
    let t = opened o in
    record {
      j = j;
      f = f;
      g = g;
      rest = encodes fs;
      compared = record { left = t.left.front; right = t.right.front; left-long = t.left-long; right-long = t.right-long; op-is = o.op-is };
      spined = t.right.spined;
      room = t.room;
      few = t.few;
    }

pub paired : {p notes : List ℕ} {w op decide l r : ℕ} {j : Join} {f g : Formula} {fs : List Formula} → Pair p notes w op decide j f g fs → l ≡ get_or notes w 0
    → r ≡ get_or notes (w + l) 0 → Pairing f g fs p notes w l r
paired {p} {notes} {w} {l = l} {g = g} {fs = fs} x e i =
    let t = top_of x.stack in
    let a = e ∙ t.note in
    let u = top_of (subst (λ (k : ℕ). Stack (g ∷ fs) p notes (w + k)) (sym a) t.others) in
    pairing x.stack a (i ∙ u.note)

pub pair-opens : {p notes : List ℕ} {w op decide l r : ℕ} {j : Join} {f g : Formula} {fs : List Formula} → Pair p notes w op decide j f g fs → l ≡ get_or notes w 0
    → r ≡ get_or notes (w + l) 0 → 2 ≤ get_or p w 0 → (get_or p (w + l) 0 ≡ decide → ⊥) → Open p notes w op l r j f g fs
pair-opens x e i pending n =
    let t = paired x e i in
    record {
      stack = x.stack;
      op-is = x.op-is;
      left-long = t.left-long;
      right-long = t.right-long;
      pending = pending;
      not-settled = λ k. n (k ∙ sym x.decide-is);
    }

-- ---- the ways out of `join_open`
module _ {p notes : List ℕ} {w op l r : ℕ} where
  pub opens_kept : {p' notes' : List ℕ} {v : ℕ} → get_or p (w + l) 0 < 2 → Keeps p notes w l p' notes' v → OpenJoins p notes w op l r p' notes' v
  opens_kept {p'} {notes'} {v} h k =
      record {
        untouched = record { front = λ u a. k.front u (omega arith); notes-front = λ q a. k.notes-front q (omega arith) };
        means =
            λ j f g fs o.
            subst (λ (x : Formula). Stack (x ∷ fs) p' notes' v) (sym (open_kept (opened o) j o.pending o.not-settled h))
            (k.means f g fs o.stack o.left-long (open-one (opened o) j o.pending o.not-settled h));
      }

  module _ (h : 2 ≤ get_or p (w + l) 0) {notes' : List ℕ} (ln : length notes' ≡ length notes) {x : Bool} (m : IsMember p notes w l r op notes' x) where
    pub opens-member : x ≡ true → OpenJoins p notes w op l r p notes' (w + l)
    opens-member e =
        record {
          untouched = record { front = λ v a. refl; notes-front = λ q a. m.below q (omega arith) };
          means = λ j f g fs o. open-member (opened o) j o.pending o.not-settled h o.op-is m ln e;
        }

    pub opens-both : OpenAsk p notes w op l r → x ≡ false → {n k : ℕ} → n ≡ 1 + l + r → k ≡ l
        → OpenJoins p notes w op l r (set p (w - 1) op) (set (set notes' (w - 1) n) w k) (w - 1)
    opens-both a e {n} {k} en ek =
        let o = a.open' in
        record {
          untouched = both-untouched (opened o) a.j o.pending o.not-settled h o.op-is m n k;
          means = λ j f g fs o. open-both (opened o) j o.pending o.not-settled h o.op-is m ln e a.some n k en ek;
        }

-- ---- the ways out of `join`
module _ {p notes : List ℕ} {w op decide l r : ℕ} (el : l ≡ get_or notes w 0) (er : r ≡ get_or notes (w + l) 0) where
  -- the left one settles it
  pub joins-settled : JoinAsk p notes w op decide → get_or p w 0 ≡ decide → {v : ℕ} {p' notes' : List ℕ} → v ≡ w + l + r - 1 → p' ≡ set p (w + l + r - 1) decide
      → notes' ≡ set notes (w + l + r - 1) 1 → JoinsPair p notes w op decide p' notes' v
  joins-settled a h {v} {p'} {notes'} ev ep en =
      let t = paired a.pair el er in
      let s = t.some_left in
      let s2 = t.some_right in
      record {
        untouched =
            record {
              front = λ u b. ap (take u) ep ∙ take-set-le u p (w + l + r - 1) decide (omega arith);
              notes-front = λ q b. ap (λ (n : List ℕ). get_or n q 0) en ∙ get_or-set_other notes (w + l + r - 1) q 1 0 (λ z. omega arith);
            };
        means =
            λ j f g fs x.
            subst (λ (k : ℕ). Stack (joined j f g ∷ fs) p' notes' k) (sym ev)
            (subst (λ (k : List ℕ). Stack (joined j f g ∷ fs) k notes' (w + l + r - 1)) (sym ep)
            (subst (λ (k : List ℕ). Stack (joined j f g ∷ fs) (set p (w + l + r - 1) decide) k (w + l + r - 1)) (sym en)
            (join-settled (paired x el er) j (h ∙ x.decide-is) decide x.decide-is)));
      }

  -- it says nothing
  pub joins-skipped : get_or p w 0 < 2 → (get_or p w 0 ≡ decide → ⊥) → JoinsPair p notes w op decide p notes (w + l)
  joins-skipped h n = record { untouched = untouched-same; means = λ j f g fs x. join-skipped (paired x el er) j h (λ e. n (e ∙ sym x.decide-is)) }

  -- the right one settles it
  pub joins-decided : get_or p (w + l) 0 ≡ decide → JoinsPair p notes w op decide p notes (w + l)
  joins-decided h = record { untouched = untouched-same; means = λ j f g fs x. join-decided (paired x el er) j (h ∙ x.decide-is) }

  -- neither
  module _ (pending : 2 ≤ get_or p w 0) (n : get_or p (w + l) 0 ≡ decide → ⊥) where
    pub joinable-opens : JoinAsk p notes w op decide → OpenAsk p notes w op l r
    joinable-opens a = record { j = a.j; f = a.f; g = a.g; others = a.others; open' = pair-opens a.pair el er pending n; some = a.some }

    pub joins-open : {p' notes' : List ℕ} {v : ℕ} → OpenJoins p notes w op l r p' notes' v → JoinsPair p notes w op decide p' notes' v
    joins-open o = record { untouched = o.untouched; means = λ j f g fs x. o.means j f g fs (pair-opens x el er pending n) }
