-- What an operator makes of the two lowest results: one law for each way out of `fold_join` and `fold_until`. Assumes nothing.
use mathlib.Core.Path.{◌≡◌, refl, sym, ap, ap₂, ◌∙◌, subst}
use mathlib.Core.Bool.{Bool, true, false, not}
use mathlib.Core.List.{List, ◌∷◌, ◌++◌, append_assoc}
use Prim.Native.Nat.{ℕ, ◌+◌, ◌-◌, ◌<◌, ◌≤◌}
use native.Mathlib.Omega.{arith}
use lib.ListN.{length, get_or, set, drop, length-set}
use Rattle.limits.specs.Limits.{nodes_room}
use Rattle.lists.proofs.Drops.{put-below, drop-long}
use Rattle.kinds.specs.declared.Leaf.TheVariants.{Const}
use Rattle.kinds.specs.declared.Join.{Join}
use Rattle.kinds.specs.declared.Join.TheVariants.{And, Or}
use Rattle.kinds.specs.declared.Binary.{Binary}
use Rattle.kinds.specs.declared.Binary.TheVariants.{Joined, Until}
use Rattle.kinds.specs.Kinds.{leaf_code, join_code, binary_code}
use Rattle.ltl.specs.Formula.{Formula, two, constant, size, encode}
use Rattle.ltl.specs.Progression.{is_constant, deciding}
use Rattle.ltl.proofs.Joining.{constant-other}
use Rattle.peeling.specs.Peeled.{encodes}
use Rattle.folded.specs.Folding.{folded_two}
use Rattle.folding.specs.Results.{note_of, held_bytes, note_length, held_all, Results, TwoAsk}
use Rattle.folding.proofs.Notes.{note-constant, note-low, NoConstant, note-high, held-short, held-shorter}
use Rattle.folding.proofs.Placed.{LowestResult, lowest-of, placed}
use Rattle.folding.proofs.Becomes.{join-left, join-right, join-skip, join-keep, join-both, until-right, until-left, until-both}

-- a note below 2 that is not the deciding constant's is the other's
note-other : (j : Join) (f : Formula) → note_of f < 2 → (note_of f ≡ leaf_code (Const (deciding j)) → ⊥) → f ≡ constant (not (deciding j))
note-other And f h n = note-constant true f (omega arith)
note-other Or f h n = note-constant false f (omega arith)

-- a constant has no bytes
fixed-length : (v : Bool) → note_length (note_of (constant v)) ≡ 0
fixed-length true = refl
fixed-length false = refl

module _ {f g : Formula} {fs : List Formula} {p notes : List ℕ} {w t : ℕ} (s : Results (f ∷ (g ∷ fs)) p notes w t) where
  left : LowestResult f (g ∷ fs) p notes w t
  left = lowest-of s

  right : LowestResult g fs p notes (w + note_length (note_of f)) (t + 1)
  right = lowest-of left.others

  note-over : (x : ℕ) → drop (t + 1) (set notes (t + 1) x) ≡ x ∷ drop (t + 1 + 1) notes
  note-over x = put-below notes (t + 1) (t + 1 + 1) x (omega arith) (let h = right.there in omega arith)

  no_length : {h : Formula} (v : Bool) → h ≡ constant v → note_length (note_of h) ≡ 0
  no_length v e = ap (λ (h : Formula). note_length (note_of h)) e ∙ fixed-length v

  -- the result is one of the constants
  two-constant : (x : Bool) (n v : ℕ) → n ≡ leaf_code (Const x) → v ≡ w + note_length (note_of f) + note_length (note_of g) → Results (constant x ∷ fs) p (set notes (t + 1) n) v (t + 1)
  two-constant x n v e q =
      placed right.others (constant x) v (t + 1) (ap (λ (k : ℕ). drop k p) q) (note-over n ∙ ap (◌∷ drop (t + 1 + 1) notes) e) refl (length-set notes (t + 1) n) (omega arith) (omega arith)

  -- it is the right operand
  two-right : (v : ℕ) → v ≡ w + note_length (note_of f) → Results (g ∷ fs) p notes v (t + 1)
  two-right v q = subst (λ (k : ℕ). Results (g ∷ fs) p notes k (t + 1)) (sym q) left.others

  -- it is the left one, and the right one a constant
  two-left : (v : Bool) (n : ℕ) → g ≡ constant v → n ≡ note_of f → Results (f ∷ fs) p (set notes (t + 1) n) w (t + 1)
  two-left v n e q =
      let z = no_length v e in
      placed right.others f w (t + 1)
      (left.bytes ∙ ap (λ (k : ℕ). held_bytes f ++ drop k p) (let r : w + note_length (note_of f) ≡ w + note_length (note_of f) + note_length (note_of g) = omega arith in r))
      (note-over n ∙ ap (◌∷ drop (t + 1 + 1) notes) q) refl (length-set notes (t + 1) n) (omega arith) (omega arith)

  -- both stay
  behind-both : held_bytes f ≡ encode f → held_bytes g ≡ encode g → drop w p ≡ (encode f ++ encode g) ++ drop (w + note_length (note_of f) + note_length (note_of g)) p
  behind-both a b =
      left.bytes ∙ ap₂ ◌++◌ a (right.bytes ∙ ap (◌++ drop (w + note_length (note_of f) + note_length (note_of g)) p) b)
      ∙ sym (append_assoc (encode f) (encode g) (drop (w + note_length (note_of f) + note_length (note_of g)) p))

  two_made : 0 < w → (o : Binary) (c n : ℕ) → c ≡ binary_code o → NoConstant f → NoConstant g → n ≡ note_of f + note_of g
      → Results (two o f g ∷ fs) (set p (w - 1) c) (set notes (t + 1) n) (w - 1) (t + 1)
  two_made low o c n e a b q =
      let x = a.note in
      let y = b.note in
      placed right.others (two o f g) (w - 1) (t + 1)
      (put-below p (w - 1) w c (omega arith) s.inside ∙ ap₂ ◌∷◌ e (behind-both a.bytes b.bytes))
      (note-over n ∙ ap (◌∷ drop (t + 1 + 1) notes) (omega arith)) (length-set p (w - 1) c) (length-set notes (t + 1) n) (omega arith) (omega arith)

  -- ---- and, or
  module _ (j : Join) where
    as-join : {h : Formula} {p' notes' : List ℕ} {v : ℕ} → folded_two (Joined j) f g ≡ h → Results (h ∷ fs) p' notes' v (t + 1) → Results (folded_two (Joined j) f g ∷ fs) p' notes' v (t + 1)
    as-join {h} {p'} {notes'} {v} e = subst (λ (x : Formula). Results (x ∷ fs) p' notes' v (t + 1)) (sym e)

    left_is : (v : Bool) → get_or notes t 0 ≡ leaf_code (Const v) → f ≡ constant v
    left_is v e = note-constant v f (sym left.note ∙ e)

    right_is : (v : Bool) → get_or notes (t + 1) 0 ≡ leaf_code (Const v) → g ≡ constant v
    right_is v e = note-constant v g (sym right.note ∙ e)

    pub join-left-done : (d v : ℕ) → d ≡ leaf_code (Const (deciding j)) → get_or notes t 0 ≡ d → v ≡ w + note_length (get_or notes (t + 1) 0)
        → Results (folded_two (Joined j) f g ∷ fs) p (set notes (t + 1) d) v (t + 1)
    join-left-done d v e h q =
        let k = left_is (deciding j) (h ∙ e) in
        let z = no_length (deciding j) k in
        let n = right.note in
        as-join (join-left j f g k) (two-constant (deciding j) d v e (omega arith))

    pub join-right-done : (d v : ℕ) → d ≡ leaf_code (Const (deciding j)) → get_or notes (t + 1) 0 ≡ d → v ≡ w + note_length (get_or notes t 0) → Results (folded_two (Joined j) f g ∷ fs) p notes v (t + 1)
    join-right-done d v e h q =
        let k = right_is (deciding j) (h ∙ e) in
        let n = left.note in
        as-join (join-right j f g k) (subst (λ (x : Formula). Results (x ∷ fs) p notes v (t + 1)) k (two-right v (omega arith)))

    -- an operand's note that is below 2 and not the deciding one
    left_other : (d : ℕ) → d ≡ leaf_code (Const (deciding j)) → (get_or notes t 0 ≡ d → ⊥) → get_or notes t 0 < 2 → f ≡ constant (not (deciding j))
    left_other d e n h = let k = left.note in note-other j f (omega arith) (λ q. n (k ∙ q ∙ sym e))

    right-other : (d : ℕ) → d ≡ leaf_code (Const (deciding j)) → (get_or notes (t + 1) 0 ≡ d → ⊥) → get_or notes (t + 1) 0 < 2 → g ≡ constant (not (deciding j))
    right-other d e n h = let k = right.note in note-other j g (omega arith) (λ q. n (k ∙ q ∙ sym e))

    pub join-skip-done : (d : ℕ) → d ≡ leaf_code (Const (deciding j)) → (get_or notes t 0 ≡ d → ⊥) → get_or notes t 0 < 2 → Results (folded_two (Joined j) f g ∷ fs) p notes w (t + 1)
    join-skip-done d e n h =
        let k = left_other d e n h in
        let z = no_length (not (deciding j)) k in
        as-join (join-skip j f g k) (two-right w (omega arith))

    left_open : 2 ≤ get_or notes t 0 → NoConstant f
    left_open h = let k = left.note in note-high f (omega arith)

    pub join-keep-done : (d : ℕ) → d ≡ leaf_code (Const (deciding j)) → (get_or notes (t + 1) 0 ≡ d → ⊥) → 2 ≤ get_or notes t 0 → get_or notes (t + 1) 0 < 2
        → Results (folded_two (Joined j) f g ∷ fs) p (set notes (t + 1) (get_or notes t 0)) w (t + 1)
    join-keep-done d e n h l =
        let k = right-other d e n l in
        as-join (join-keep j f g (left_open h).tests k) (two-left (not (deciding j)) (get_or notes t 0) k left.note)

    pub join-made : 0 < w → (c n : ℕ) → c ≡ join_code j → 2 ≤ get_or notes t 0 → 2 ≤ get_or notes (t + 1) 0 → n ≡ get_or notes t 0 + get_or notes (t + 1) 0
        → Results (folded_two (Joined j) f g ∷ fs) (set p (w - 1) c) (set notes (t + 1) n) (w - 1) (t + 1)
    join-made low c n e a b q =
        let k = left.note in
        let m = right.note in
        let x = left_open a in
        let y = note-high g (omega arith) in
        as-join (join-both j f g x.tests y.tests) (two_made low (Joined j) c n e x y (omega arith))

  -- ---- until
  as-until : {h : Formula} {p' notes' : List ℕ} {v : ℕ} → folded_two Until f g ≡ h → Results (h ∷ fs) p' notes' v (t + 1) → Results (folded_two Until f g ∷ fs) p' notes' v (t + 1)
  as-until {h} {p'} {notes'} {v} e = subst (λ (x : Formula). Results (x ∷ fs) p' notes' v (t + 1)) (sym e)

  pub until-right-done : (v : ℕ) → get_or notes (t + 1) 0 < 2 → v ≡ w + note_length (get_or notes t 0) → Results (folded_two Until f g ∷ fs) p notes v (t + 1)
  until-right-done v h q =
      let m = right.note in
      let n = left.note in
      let k = note-low g (omega arith) in
      as-until (until-right f g k.0 k.1) (two-right v (omega arith))

  pub until-left-done : get_or notes t 0 ≡ 0 → Results (folded_two Until f g ∷ fs) p notes w (t + 1)
  until-left-done h =
      let k = note-constant false f (sym left.note ∙ h) in
      let z = no_length false k in
      as-until (until-left f g k) (two-right w (omega arith))

  -- true on the left stays
  pub until-true-done : 1 < w → (n : ℕ) → get_or notes t 0 < 2 → (get_or notes t 0 ≡ 0 → ⊥) → 2 ≤ get_or notes (t + 1) 0 → n ≡ get_or notes (t + 1) 0 + 2
      → Results (folded_two Until f g ∷ fs) (set (set p (w - 1) 1) (w - 2) 6) (set notes (t + 1) n) (w - 2) (t + 1)
  until-true-done low n a b h q =
      let k = left.note in
      let m = right.note in
      let e = note-constant true f (omega arith) in
      let y = note-high g (omega arith) in
      let x = y.note in
      let i = s.inside in
      let l = length-set p (w - 1) 1 in
      let d = length-set (set p (w - 1) 1) (w - 2) 6 in
      let z = no_length true e in
      let after : w + note_length (note_of f) ≡ w = omega arith in
      let size_is : size f ≡ 1 = ap size e in
      let bytes : drop (w - 2) (set (set p (w - 1) 1) (w - 2) 6) ≡ encode (two Until f g) ++ drop (w + note_length (note_of f) + note_length (note_of g)) p =
      put-below (set p (w - 1) 1) (w - 2) (w - 1) 6 (omega arith) (omega arith)
      ∙ ap (6 ∷◌)
      (put-below p (w - 1) w 1 (omega arith) i
      ∙ ap (1 ∷◌) (ap (λ (v : ℕ). drop v p) (sym after) ∙ right.bytes ∙ ap (◌++ drop (w + note_length (note_of f) + note_length (note_of g)) p) y.bytes)
      ∙ ap (λ (h : Formula). (encode h ++ encode g) ++ drop (w + note_length (note_of f) + note_length (note_of g)) p) (sym e)) in
      as-until (until-both f g (ap (is_constant false) e ∙ constant-other false) y.tests)
      (placed right.others (two Until f g) (w - 2) (t + 1) bytes (note-over n ∙ ap (◌∷ drop (t + 1 + 1) notes) (omega arith)) (d ∙ l) (length-set notes (t + 1) n) (omega arith) (omega arith))

  pub until-made : 0 < w → (c n : ℕ) → c ≡ binary_code Until → 2 ≤ get_or notes t 0 → 2 ≤ get_or notes (t + 1) 0 → n ≡ get_or notes t 0 + get_or notes (t + 1) 0
      → Results (folded_two Until f g ∷ fs) (set p (w - 1) c) (set notes (t + 1) n) (w - 1) (t + 1)
  until-made low c n e a b q =
      let k = left.note in
      let m = right.note in
      let x = note-high f (omega arith) in
      let y = note-high g (omega arith) in
      as-until (until-both f g (x.tests false) y.tests) (two_made low Until c n e x y (omega arith))

-- ---- what is asked leaves room
pub record TwoRoom (p notes : List ℕ) (w t : ℕ) : Type 0 where
  pub low : 0 < w
  pub lower : get_or notes t 0 < 2 → 1 < w
  pub there : t + 1 < length notes
  pub inside : w + note_length (get_or notes t 0) + note_length (get_or notes (t + 1) 0) ≤ length p
  pub few : length p ≤ nodes_room

pub two-room : {p notes : List ℕ} {w t : ℕ} → TwoAsk p notes w t → TwoRoom p notes w t
two-room {p} {notes} {w} {t} a =
    let s = a.results in
    let l = lowest-of s in
    let r = lowest-of l.others in
    let d = drop-long p (held_all (a.f ∷ (a.g ∷ a.others))) w s.inside s.bytes in
    let h = held-short (a.f ∷ (a.g ∷ a.others)) in
    let f = a.fits in
    let m = l.note in
    let n = r.note in
    let k = r.long in
    record { low = omega arith; lower = λ q. shorter (note-low a.f (omega arith)); there = r.there; inside = omega arith; few = s.few }
  where
    shorter : (v : Bool) × (a.f ≡ constant v) → 1 < w
    shorter k =
        let s = a.results in
        let d = drop-long p (held_all (a.f ∷ (a.g ∷ a.others))) w s.inside s.bytes in
        let h = subst (λ (x : Formula). length (held_all (x ∷ (a.g ∷ a.others))) < length (encodes (x ∷ (a.g ∷ a.others)))) (sym k.1) (held-shorter k.0 (a.g ∷ a.others)) in
        let f = a.fits in
        omega arith

-- for the search
pub ruleset room = (two-room)
