-- What a leaf and an operator with one operand make of the lowest results: one law for each way out of `fold_leaf`, `of_constant` and
-- `fold_one`. Assumes nothing.
use mathlib.Core.Path.{◌≡◌, refl, sym, ap, ap₂, ◌∙◌, subst}
use mathlib.Core.Bool.{Bool, true, false}
use mathlib.Core.List.{List, [], ◌∷◌, ◌++◌}
use mathlib.Core.Logic.{◌⊎◌, inl, inr}
use Prim.Native.Nat.{ℕ, suc, ◌+◌, ◌-◌, ◌<◌, ◌≤◌}
use native.Mathlib.Omega.{arith}
use lib.ListN.{length, get_or, set, drop, length-set}
use Rattle.limits.specs.Limits.{nodes_room}
use Rattle.lists.proofs.Drops.{put-below}
use Rattle.kinds.specs.declared.Leaf.{Leaf}
use Rattle.kinds.specs.declared.Leaf.TheVariants.{Const, Prop, Hold}
use Rattle.kinds.specs.declared.Unary.{Unary}
use Rattle.kinds.specs.declared.Unary.TheVariants.{Not, Next, Ever}
use Rattle.kinds.specs.declared.Join.{Join}
use Rattle.kinds.specs.Kinds.{leaf_code, unary_code}
use Rattle.ltl.specs.Formula.{Formula, leaf, one, constant}
use Rattle.folded.specs.Folding.{folded_one}
use Rattle.folding.specs.Results.{note_of, held_bytes, note_length, Results, MakesConstant, OneAsk}
use Rattle.folding.proofs.Notes.{note-low, note-high}
use Rattle.folding.proofs.Placed.{LowestResult, lowest-of, placed}
use Rattle.folding.proofs.Becomes.{not-constant, next-constant, ever-constant, one-open}

-- ---- a leaf
module _ {fs : List Formula} {p notes : List ℕ} {w t : ℕ} (r : Results fs p notes w t) (some : 0 < t) where
  above : t ≡ suc (t - 1)
  above = omega arith

  note-put : (x : ℕ) → drop (t - 1) (set notes (t - 1) x) ≡ x ∷ drop t notes
  note-put x = put-below notes (t - 1) t x above r.room

  pub leaf-fixed : (a : Leaf) (c : ℕ) → c ≡ leaf_code a → c < 2 → Results (leaf a ∷ fs) p (set notes (t - 1) c) w (t - 1)
  leaf-fixed (Const v) c e h = placed r (constant v) w (t - 1) refl (note-put c ∙ ap (◌∷ drop t notes) e) refl (length-set notes (t - 1) c) (omega arith) (omega arith)
  leaf-fixed (Prop i) c e h = absurd (omega arith)
  leaf-fixed (Hold k) c e h = absurd (omega arith)

  module _ (low : 0 < w) where
    byte_put : (a : Leaf) (c : ℕ) → c ≡ leaf_code a → held_bytes (leaf a) ≡ leaf_code a ∷ [] → note_of (leaf a) ≡ 2 → Results (leaf a ∷ fs) (set p (w - 1) c) (set notes (t - 1) 2) (w - 1) (t - 1)
    byte_put a c e b n =
        placed r (leaf a) (w - 1) (t - 1) (put-below p (w - 1) w c (omega arith) r.inside ∙ ap (◌∷ drop w p) e ∙ ap (◌++ drop w p) (sym b))
        (note-put 2 ∙ ap (◌∷ drop t notes) (sym n)) (length-set p (w - 1) c) (length-set notes (t - 1) 2) (omega arith) (omega arith)

    pub leaf-made : (a : Leaf) (c : ℕ) → c ≡ leaf_code a → 2 ≤ c → Results (leaf a ∷ fs) (set p (w - 1) c) (set notes (t - 1) 2) (w - 1) (t - 1)
    leaf-made (Const true) c e h = absurd (omega arith)
    leaf-made (Const false) c e h = absurd (omega arith)
    leaf-made (Prop i) c e h = byte_put (Prop i) c e refl refl
    leaf-made (Hold k) c e h = byte_put (Hold k) c e refl refl

-- ---- an operator over one
-- what it makes of a constant
pub makes-not : {o : Unary} {n : ℕ} → o ≡ Not → MakesConstant o n (1 - n)
makes-not {o} {n} e = record { means = go }
  where
    go : (v : Bool) → n ≡ leaf_code (Const v) → (x : Bool) × (folded_one o (constant v) ≡ constant x) × (1 - n ≡ leaf_code (Const x))
    go true h = (false, ap (λ (u : Unary). folded_one u (constant true)) e ∙ not-constant true, omega arith)
    go false h = (true, ap (λ (u : Unary). folded_one u (constant false)) e ∙ not-constant false, omega arith)

-- next and the temporal operators nothing else
pub makes-same : {o : Unary} {n : ℕ} → (o ≡ Next) ⊎ ((j : Join) × (o ≡ Ever j)) → MakesConstant o n n
makes-same (inl e) = record { means = λ v h. (v, ap (λ (u : Unary). folded_one u (constant v)) e ∙ next-constant v, h) }
makes-same (inr x) = record { means = λ v h. (v, ap (λ (u : Unary). folded_one u (constant v)) x.1 ∙ ever-constant x.0 v, h) }

module _ {f : Formula} {fs : List Formula} {p notes : List ℕ} {w t : ℕ} (s : Results (f ∷ fs) p notes w t) where
  lowest : LowestResult f fs p notes w t
  lowest = lowest-of s

  note-set : (x : ℕ) → drop t (set notes t x) ≡ x ∷ drop (t + 1) notes
  note-set x = put-below notes t (t + 1) x (omega arith) (let h = lowest.there in omega arith)

  pub one-fixed : (o : Unary) (r : ℕ) → get_or notes t 0 < 2 → MakesConstant o (get_or notes t 0) r → Results (folded_one o f ∷ fs) p (set notes t r) w t
  one-fixed o r h m =
      let n = lowest.note in
      let k = note-low f (omega arith) in
      let x = m.means k.0 (n ∙ ap note_of k.1) in
      subst (λ (g : Formula). Results (g ∷ fs) p (set notes t r) w t) (sym (ap (folded_one o) k.1 ∙ x.1))
      (placed lowest.others (constant x.0) w t (lowest.bytes ∙ ap (λ (g : Formula). held_bytes g ++ drop (w + note_length (note_of f)) p) k.1)
      (note-set r ∙ ap (◌∷ drop (t + 1) notes) x.2) refl (length-set notes t r) (omega arith) (omega arith))

  pub one-made : 0 < w → (o : Unary) (c n : ℕ) → c ≡ unary_code o → 2 ≤ get_or notes t 0 → n ≡ get_or notes t 0 + 1 → Results (folded_one o f ∷ fs) (set p (w - 1) c) (set notes t n) (w - 1) t
  one-made low o c n e h q =
      let k = lowest.note in
      let u = note-high f (omega arith) in
      let b = u.note in
      subst (λ (g : Formula). Results (g ∷ fs) (set p (w - 1) c) (set notes t n) (w - 1) t) (sym (one-open o f u.tests))
      (placed lowest.others (one o f) (w - 1) t
      (put-below p (w - 1) w c (omega arith) s.inside ∙ ap₂ ◌∷◌ e (lowest.bytes ∙ ap (◌++ drop (w + note_length (note_of f)) p) u.bytes))
      (note-set n ∙ ap (◌∷ drop (t + 1) notes) (omega arith)) (length-set p (w - 1) c) (length-set notes t n) (omega arith) (omega arith))

-- ---- what is asked leaves room
pub record OneRoom (p notes : List ℕ) (w t : ℕ) : Type 0 where
  pub there : t < length notes
  pub inside : w + note_length (get_or notes t 0) ≤ length p
  pub few : length p ≤ nodes_room

pub one-room : {p notes : List ℕ} {w t : ℕ} → OneAsk p notes w t → OneRoom p notes w t
one-room a = let l = lowest-of a.results in let n = l.note in let k = l.long in record { there = l.there; inside = omega arith; few = l.few }

-- for the search
pub ruleset room = (one-room)
