-- The loop from the last byte to the first, over plain lists. `SweptTo` is what it keeps; `node-ask` and `node-held` are the turn over a node,
-- `whole-ask` and `whole-held` that over a part that stays whole, `held_start` and `held-end` its ends. What was read is never longer
-- than what it became, so that what is written never reaches what is not read (`wide_of`). Assumes nothing.
use mathlib.Core.Path.{◌≡◌, refl, sym, ap, ◌∙◌, subst}
use mathlib.Core.List.{List, [], ◌∷◌, ◌++◌, append-nil}
use Prim.Native.Nat.{ℕ, suc, ◌+◌, ◌-◌, ◌<◌, ◌≤◌}
use native.Mathlib.Omega.{arith}
use lib.ListN.{length, get_or, take, drop, take-append-drop, drop_of_length-le}
use lib.Seq.{get_or-drop}
use Rattle.limits.specs.Limits.{nodes_room}
use Rattle.lists.proofs.Drops.{drop-long, unmoved, front_less, part-front}
use Rattle.kinds.specs.Kinds.{kind_of}
use Rattle.ltl.specs.Formula.{Formula, size, encode}
use Rattle.ltl.proofs.Lengths.{resolved-no-longer}
use Rattle.ltl.proofs.Decoding.{size-some, one_way, first-is}
use Rattle.nodes.specs.Begins.{Front}
use Rattle.nodes.proofs.Fronts.{front-one-way}
use Rattle.peeling.specs.Peeled.{encodes, peel, peeled}
use Rattle.peeling.proofs.Peels.{encodes_more, whole-left, whole-end, HeadAt, head_at, peeled-past}
use Rattle.outlining.specs.Outlined.{whole_kind}
use Rattle.outlining.proofs.Outlines.{PlainBack, plain_back, WholeBack, whole_back}
use Rattle.stacking.specs.Stacks.{Stack}
use Rattle.resolving.specs.declared.Seen.{Seen}
use Rattle.resolving.specs.Settles.{held_by, settled}
use Rattle.sweeping.specs.Passes.{all_settled, NodeAt, NodeAsk, NodeSettles, WholeAt, KeepWholeAsk, KeepsWhole, SweptTo, Outlining}

-- ---- what formulas become is not longer than they are
shorter : (seen : Seen) (gs : List Formula) → length (encodes (all_settled seen gs)) ≤ length (encodes gs)
shorter seen [] = omega arith
shorter seen (g ∷ gs) =
    let a = encodes_more (settled seen g) (all_settled seen gs) in
    let b = encodes_more g gs in
    let c = resolved-no-longer seen.event (held_by seen) g in
    let d = shorter seen gs in
    omega arith

pub record Wide (p notes : List ℕ) (i w : ℕ) : Type 0 where
  pub past : i ≤ w
  pub inside : w ≤ length p
  pub room : length p ≤ length notes
  pub few : length p ≤ nodes_room

module _ {f : Formula} {s m : List ℕ} {seen : Seen} {p notes : List ℕ} {i w : ℕ} (h : SweptTo f s m seen p notes i w) where
  pub wide_of : Wide p notes i w
  wide_of =
      let k = h.stack in
      let a = drop-long p _ w k.inside k.bytes in
      let b = whole-left h.formula i h.inside in
      let c = shorter seen (peeled i (f ∷ [])) in
      let d = h.long in
      record { past = omega arith; inside = k.inside; room = k.room; few = k.few }

  module _ {j : ℕ} (e : i ≡ suc j) where
    within : j < length s
    within = let a = h.inside in omega arith

    note-is : get_or notes j 0 ≡ get_or m j 0
    note-is = h.notes-front j (omega arith)

    -- ---- a byte outside the parts that stay whole
    module _ (z : get_or notes j 0 ≡ 0) where
      back : PlainBack s m j
      back = plain_back h.outlined e (sym note-is ∙ z)

      here : HeadAt f s j
      here = head_at h.formula j within

      byte-same : get_or p j 0 ≡ get_or s j 0
      byte-same = unmoved p s i j h.front (omega arith)

      byte-is : get_or p j 0 ≡ get_or (encode here.head) 0 0
      byte-is =
          let y : j + 0 ≡ j = omega arith in
          byte-same ∙ ap (λ (k : ℕ). get_or s k 0) (sym y) ∙ sym (get_or-drop j s 0 0) ∙ ap (λ (l : List ℕ). get_or l 0 0) here.front.bytes ∙ first-is here.head (encodes here.others)

      node_at : NodeAt here.head here.others (get_or p j 0) seen p notes w
      node_at =
          record {
            byte = byte-is;
            coded = here.front.coded;
            plain = ap (λ (k : ℕ). whole_kind (kind_of k)) byte-same ∙ back.kind;
            stack =
                subst (λ (l : List Formula). Stack (all_settled seen (peel l)) p notes w) here.is
                (subst (λ (k : ℕ). Stack (all_settled seen (peeled k (f ∷ []))) p notes w) e h.stack);
          }

      pub node-ask : NodeAsk (get_or p j 0) seen p notes w
      node-ask = record { g = here.head; gs = here.others; at = node_at; some = let a = wide_of.past in omega arith }

      pub node-held : {p' notes' : List ℕ} {v : ℕ} → NodeSettles (get_or p j 0) seen p notes w p' notes' v → length p' ≡ length p → SweptTo f s m seen p' notes' j v
      node-held {p'} {notes'} {v} n lp =
          let a = wide_of.past in
          let b = h.long in
          let c = h.inside in
          record {
            formula = h.formula;
            front = n.untouched.front j (omega arith) ∙ front_less p s i j h.front (omega arith);
            notes-front = λ q u. n.untouched.notes-front q (omega arith) ∙ h.notes-front q (omega arith);
            long = omega arith;
            inside = omega arith;
            outlined = back.before;
            stack = subst (λ (l : List Formula). Stack (all_settled seen l) p' notes' v) (sym here.is) (n.means here.head here.others node_at);
          }

    -- ---- the last byte of a part that stays whole, of n bytes
    module _ {n : ℕ} (k : n ≡ get_or notes j 0) (z : n ≡ 0 → ⊥) where
      whole : WholeBack s m i n
      whole = whole_back h.outlined e (sym note-is ∙ sym k) z

      starts : i - n < length s
      starts = let a = h.inside in let b = whole.place in let c = size-some whole.part in let d = whole.long in omega arith

      there : HeadAt f s (i - n)
      there = head_at h.formula (i - n) starts

      part-is : whole.part ≡ there.head
      part-is =
          let q = whole in
          (one_way q.part there.head (drop (size q.part) (drop (i - n) s)) (encodes there.others) q.coded there.front.coded
          (ap (◌++ drop (size q.part) (drop (i - n) s)) (sym q.bytes) ∙ take-append-drop (size q.part) (drop (i - n) s) ∙ there.front.bytes)).0

      begins : peeled (i - n) (f ∷ []) ≡ whole.part ∷ there.others
      begins = there.is ∙ ap (◌∷ there.others) (sym part-is)

      ends : peeled i (f ∷ []) ≡ there.others
      ends =
          let q : i ≡ i - n + size whole.part = let a = whole.place in let b = whole.long in omega arith in
          ap (λ (x : ℕ). peeled x (f ∷ [])) q ∙ peeled-past (i - n) (f ∷ []) there.others whole.part begins

      whole-at : WholeAt whole.part (all_settled seen there.others) p notes i n w
      whole-at =
          let q = whole in
          let l = q.long in
          let a = q.place in
          record {
            coded = q.coded;
            stays = q.stays;
            long = l;
            bytes = part-front p s i (i - n) n h.front (omega arith) ∙ ap (λ (x : ℕ). take x (drop (i - n) s)) l ∙ q.bytes;
            stack = subst (λ (l : List Formula). Stack (all_settled seen l) p notes w) ends h.stack;
          }

      pub whole-ask : KeepWholeAsk p notes i n w
      whole-ask =
          record {
            h = whole.part;
            fs = all_settled seen there.others;
            at = whole-at;
            fits = let a = whole.place in omega arith;
            past = wide_of.past;
          }

      pub whole-some : 0 < n
      whole-some = let a = whole.long in let b = size-some whole.part in omega arith

      pub whole-held : {p' notes' : List ℕ} {v : ℕ} → KeepsWhole p notes i n w p' notes' v → length p' ≡ length p → SweptTo f s m seen p' notes' (i - n) v
      whole-held {p'} {notes'} {v} x lp =
          let a = h.long in
          let b = h.inside in
          record {
            formula = h.formula;
            front = x.front (i - n) (omega arith) ∙ front_less p s i (i - n) h.front (omega arith);
            notes-front = λ q u. x.notes-front q u ∙ h.notes-front q (omega arith);
            long = omega arith;
            inside = omega arith;
            outlined = whole.before;
            stack =
                subst (λ (l : List Formula). Stack (all_settled seen l) p' notes' v) (sym begins)
                (x.means seen whole.part (all_settled seen there.others) whole-at);
          }

-- ---- the ends of the loop
pub held_start : (seen : Seen) {p notes : List ℕ} (o : Outlining p notes) → SweptTo o.formula p notes seen p notes (length p) (length p)
held_start seen {p} {notes} o =
    record {
      formula = o.front;
      front = refl;
      notes-front = λ q a. refl;
      long = refl;
      inside = omega arith;
      outlined = o.outlined;
      stack =
          subst (λ (l : List Formula). Stack (all_settled seen l) p notes (length p)) (sym (whole-end o.front))
          (record { bytes = drop_of_length-le p {i = length p} (omega arith); inside = omega arith; room = o.room; few = o.few; coded = tt; noted = tt });
    }

pub held-end : {f : Formula} {s m : List ℕ} {seen : Seen} {p notes : List ℕ} {i w : ℕ} → SweptTo f s m seen p notes i w → i ≡ 0 → (g : Formula) → Front s g []
    → (drop w p ≡ encode (settled seen g)) × (w ≤ length p)
held-end {f} {s} {m} {seen} {p} {notes} {i} {w} h e g x =
    let k = subst (λ (n : ℕ). Stack (all_settled seen (peeled n (f ∷ []))) p notes w) e h.stack in
    let q = (front-one-way s f g [] [] h.formula x).0 in
    (k.bytes ∙ append-nil (encode (settled seen f)) ∙ ap (λ (y : Formula). encode (settled seen y)) q, k.inside)
