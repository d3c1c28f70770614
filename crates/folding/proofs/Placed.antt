-- Results one behind the other: what is known of the lowest one (`lowest-of`), and a result placed on others (`placed`). Assumes nothing.
use mathlib.Core.Path.{◌≡◌, refl, sym, ap, ◌∙◌}
use mathlib.Core.List.{List, ◌∷◌, ◌++◌, []}
use Prim.Native.Nat.{ℕ, ◌+◌, ◌<◌, ◌≤◌}
use native.Mathlib.Omega.{arith}
use lib.ListN.{length, get_or, drop, length-append}
use lib.Seq.{get_or-drop}
use Rattle.limits.specs.Limits.{nodes_room}
use Rattle.lists.proofs.Drops.{behind, drop-long}
use Rattle.ltl.specs.Formula.{Formula}
use Rattle.folding.specs.Results.{note_of, held_bytes, note_length, notes_of, held_all, Results}
use Rattle.folding.proofs.Notes.{held-length}

-- f is the lowest result
pub record LowestResult (f : Formula) (fs : List Formula) (p notes : List ℕ) (w t : ℕ) : Type 0 where
  pub note : get_or notes t 0 ≡ note_of f
  pub there : t < length notes
  pub noted : drop t notes ≡ note_of f ∷ drop (t + 1) notes
  pub bytes : drop w p ≡ held_bytes f ++ drop (w + note_length (note_of f)) p
  pub long : w + note_length (note_of f) ≤ length p
  pub few : length p ≤ nodes_room
  pub others : Results fs p notes (w + note_length (note_of f)) (t + 1)

pub lowest-of : {f : Formula} {fs : List Formula} {p notes : List ℕ} {w t : ℕ} → Results (f ∷ fs) p notes w t → LowestResult f fs p notes w t
lowest-of {f} {fs} {p} {notes} {w} {t} r =
    let a = drop-long p (held_all (f ∷ fs)) w r.inside r.bytes in
    let b = length-append (held_bytes f) (held_all fs) in
    let c = held-length f in
    let d = drop-long notes (notes_of (f ∷ fs)) t r.room r.noted in
    let e = behind p w (note_length (note_of f)) (held_bytes f) (held_all fs) r.bytes c in
    let g = behind notes t 1 (note_of f ∷ []) (notes_of fs) r.noted refl in
    let z : t + 0 ≡ t = omega arith in
    record {
      note = ap (λ (k : ℕ). get_or notes k 0) (sym z) ∙ sym (get_or-drop t notes 0 0) ∙ ap (λ (l : List ℕ). get_or l 0 0) r.noted;
      there = omega arith;
      noted = r.noted ∙ ap (note_of f ∷◌) (sym g);
      bytes = r.bytes ∙ ap (held_bytes f ++◌) (sym e);
      long = omega arith;
      few = r.few;
      others =
          record {
            bytes = e;
            inside = omega arith;
            noted = g;
            room = omega arith;
            few = r.few;
          };
    }

-- g placed on others: v is where it begins, u where its note stands
pub placed : {fs : List Formula} {p notes p' notes' : List ℕ} {w t : ℕ} → Results fs p notes w t → (g : Formula) (v u : ℕ) → drop v p' ≡ held_bytes g ++ drop w p
    → drop u notes' ≡ note_of g ∷ drop t notes → length p' ≡ length p → length notes' ≡ length notes → v ≤ w → u ≤ t → Results (g ∷ fs) p' notes' v u
placed {fs} {p} {notes} {p'} {notes'} {w} {t} r g v u b n lp ln hv hu =
    let i = r.inside in
    let k = r.room in
    let m = r.few in
    record { bytes = b ∙ ap (held_bytes g ++◌) r.bytes; inside = omega arith; noted = n ∙ ap (note_of g ∷◌) r.noted; room = omega arith; few = omega arith }
