-- The loop from the last byte to the first, over plain lists. `FoldedTo` is what it keeps: `folded_start` and `folded-end` are its ends,
-- `turn-ask` and `turn-done` its turn. Folding makes no formula longer, so that there is always room (`turn-ask`). Assumes nothing.
use mathlib.Core.Path.{◌≡◌, refl, sym, ap, ap₂, ◌∙◌, subst}
use mathlib.Core.Bool.{Bool, true, false}
use mathlib.Core.List.{List, [], ◌∷◌, ◌++◌, append-nil}
use Prim.Native.Nat.{ℕ, suc, ◌+◌, ◌-◌, ◌<◌, ◌≤◌}
use native.Mathlib.Omega.{arith}
use lib.ListN.{length, get_or, drop, drop_of_length-le}
use lib.Seq.{get_or-drop}
use lib.Dec.{leb}
use borrow.Author.Tests.{leb-true, leb-false}
use Rattle.limits.specs.Limits.{propositions_most, holder_codes}
use Rattle.lists.proofs.Drops.{put-below, drop-long}
use Rattle.ltl.specs.Formula.{Formula, encode}
use Rattle.ltl.proofs.Decoding.{size-some, first-is}
use Rattle.nodes.specs.Begins.{Front}
use Rattle.nodes.proofs.Fronts.{front_length, front-one-way}
use Rattle.peeling.specs.Peeled.{encodes, peel, peeled}
use Rattle.peeling.proofs.Peels.{encodes_more, whole-left, whole-end, HeadAt, head_at}
use Rattle.folded.specs.Folding.{folded}
use Rattle.folded.proofs.Lengths.{folded-no-longer, folded-within}
use Rattle.folding.specs.Results.{note_of, held_bytes, Results, PutsConstant}
use Rattle.folding.specs.Folds.{all_folded, FoldNodeAt, FoldNodeAsk, FoldsNode, FoldedTo, FoldNotedAsk}
use Rattle.folding.proofs.Notes.{note-low, note-high}
use Rattle.folding.proofs.Placed.{LowestResult, lowest-of}

-- ---- what formulas become is not longer than they are
shorter : (gs : List Formula) → length (encodes (all_folded gs)) ≤ length (encodes gs)
shorter [] = omega arith
shorter (g ∷ gs) =
    let a = encodes_more (folded g) (all_folded gs) in
    let b = encodes_more g gs in
    let c = folded-no-longer g in
    let d = shorter gs in
    omega arith

-- ---- a turn: the byte below i
module _ {f : Formula} {s p notes : List ℕ} {i w t : ℕ} (h : FoldedTo f s p notes i w t) (some : 0 < i) where
  here : HeadAt f s (i - 1)
  here = head_at h.formula (i - 1) (let a = h.inside in omega arith)

  up : suc (i - 1) ≡ i
  up = omega arith

  behind-is : peeled i (f ∷ []) ≡ peel (here.head ∷ here.others)
  behind-is = ap (λ (n : ℕ). peeled n (f ∷ [])) (sym up) ∙ ap peel here.is

  turn_at : FoldNodeAt here.head here.others (get_or s (i - 1) 0) p notes w t
  turn_at =
      let z : i - 1 + 0 ≡ i - 1 = omega arith in
      record {
        byte = ap (λ (k : ℕ). get_or s k 0) (sym z) ∙ sym (get_or-drop (i - 1) s 0 0) ∙ ap (λ (l : List ℕ). get_or l 0 0) here.front.bytes ∙ first-is here.head (encodes here.others);
        coded = here.front.coded;
        results = subst (λ (l : List Formula). Results (all_folded l) p notes w t) behind-is h.results;
      }

  pub turn-ask : FoldNodeAsk (get_or s (i - 1) 0) p notes w t
  turn-ask =
      let a = whole-left h.formula i h.inside in
      let b = shorter (peeled i (f ∷ [])) in
      let c : length (encodes (all_folded (peeled i (f ∷ [])))) ≡ length (encodes (all_folded (peel (here.head ∷ here.others)))) = ap (λ (l : List Formula). length (encodes (all_folded l))) behind-is in
      let d = h.fits in
      let e = h.beside in
      record { g = here.head; gs = here.others; at = turn_at; fits = omega arith; beside = omega arith }

  pub turn-done : {p' notes' : List ℕ} {v u : ℕ} → FoldsNode (get_or s (i - 1) 0) p notes w t p' notes' v u → length p' ≡ length p → length notes' ≡ length notes
      → FoldedTo f s p' notes' (i - 1) v u
  turn-done {p'} {notes'} {v} {u} m lp ln =
      let a = h.inside in
      let b = h.fits in
      let c = h.beside in
      record {
        formula = h.formula;
        inside = omega arith;
        fits = omega arith;
        beside = omega arith;
        results = subst (λ (l : List Formula). Results (all_folded l) p' notes' v u) (sym here.is) (m here.head here.others turn_at);
      }

-- ---- the ends of the loop
pub folded_start : {s p notes : List ℕ} (a : FoldNotedAsk s p notes) → FoldedTo a.of.formula s p notes (length s) (length p) (length notes)
folded_start {s} {p} {notes} a =
    record {
      formula = a.of.front;
      inside = omega arith;
      fits = a.of.fits;
      beside = a.beside;
      results =
          subst (λ (l : List Formula). Results (all_folded l) p notes (length p) (length notes)) (sym (whole-end a.of.front))
          (record {
            bytes = drop_of_length-le p {i = length p} (omega arith);
            inside = omega arith;
            noted = drop_of_length-le notes {i = length notes} (omega arith);
            room = omega arith;
            few = a.of.room;
          });
    }

-- all bytes are read
module _ {f : Formula} {s p notes : List ℕ} {i w t : ℕ} (h : FoldedTo f s p notes i w t) (e : i ≡ 0) where
  all : Results (folded f ∷ []) p notes w t
  all = subst (λ (n : ℕ). Results (all_folded (peeled n (f ∷ []))) p notes w t) e h.results

  last : LowestResult (folded f) [] p notes w t
  last = lowest-of all

  pub end-there : t < length notes
  end-there = last.there

  -- a constant leaves room for its byte
  pub end-room : (get_or notes t 0 < 2 → 0 < w) × (w ≤ length p)
  end-room = (room, all.inside)
    where
      room : get_or notes t 0 < 2 → 0 < w
      room l =
          let n = last.note in
          let k = note-low (folded f) (omega arith) in
          let b : drop w p ≡ [] = all.bytes ∙ ap (λ (g : Formula). held_bytes g ++ []) k.1 in
          let d = drop-long p [] w all.inside b in
          let z = front_length s f [] h.formula in
          let y = size-some f in
          let x = h.fits in
          omega arith

  end-bytes : {p' : List ℕ} {v : ℕ} → PutsConstant (get_or notes t 0) p w p' v → length p' ≡ length p → (v ≤ length p') × (drop v p' ≡ encode (folded f))
  end-bytes {p'} {v} m lp = go (leb 2 (get_or notes t 0)) refl
    where
      open' : 2 ≤ get_or notes t 0 → (v ≤ length p') × (drop v p' ≡ encode (folded f))
      open' l =
          let r = m.other l in
          let n = last.note in
          let u = note-high (folded f) (omega arith) in
          let i = all.inside in
          (omega (arith, r.0), ap₂ drop r.0 r.1 ∙ all.bytes ∙ append-nil (held_bytes (folded f)) ∙ u.bytes)

      fixed : get_or notes t 0 < 2 → (v ≤ length p') × (drop v p' ≡ encode (folded f))
      fixed l =
          let r = m.fixed l in
          let n = last.note in
          let k = note-low (folded f) (omega arith) in
          let i = all.inside in
          let z = end-room.0 l in
          let b : drop w p ≡ [] = all.bytes ∙ ap (λ (g : Formula). held_bytes g ++ []) k.1 in (
            omega (arith, r.0),
            ap₂ drop r.0 r.1 ∙ put-below p (w - 1) w (get_or notes t 0) (omega arith) i ∙ ap₂ ◌∷◌ (n ∙ ap note_of k.1) b ∙ ap encode (sym k.1),
          )

      go : (x : Bool) → leb 2 (get_or notes t 0) ≡ x → (v ≤ length p') × (drop v p' ≡ encode (folded f))
      go true q = open' (leb-true 2 (get_or notes t 0) q)
      go false q = fixed (leb-false 2 (get_or notes t 0) q)

  pub folded-end : {p' : List ℕ} {v : ℕ} → PutsConstant (get_or notes t 0) p w p' v → length p' ≡ length p → (g : Formula) → Front s g []
      → (v ≤ length p') × Front (drop v p') (folded g) []
  folded-end {p'} {v} m lp g x =
      let q = (front-one-way s f g [] [] h.formula x).0 in
      let b = end-bytes m lp in
      subst (λ (y : Formula). (v ≤ length p') × Front (drop v p') (folded y) []) q
      (b.0, record { coded = folded-within propositions_most holder_codes f h.formula.coded; bytes = b.1 ∙ sym (append-nil (encode (folded f))) })
