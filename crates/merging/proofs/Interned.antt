-- Comparing nodes is comparing trees: where each slot that two trees hold is in a row of classes, two bodies with the numbers of
-- their classes for place holders are equal only where the trees are (`shown-injective`). This is what lets the code give classes
-- by comparing what stands in two slots, once those that they hold have classes. Assumes nothing.
use mathlib.Core.Path.{◌≡◌, refl, sym, ap, ap₂, ◌∙◌}
use mathlib.Core.Bool.{false}
use mathlib.Core.List.{List, [], ◌∷◌, ◌++◌}
use mathlib.Core.Logic.{◌⊎◌, inl, inr, ⊎_elim}
use Prim.Native.Nat.{ℕ, zero, suc, ◌+◌, ◌<◌, ◌≤◌}
use native.Mathlib.Omega.{arith}
use lib.ListN.{length, get_or}
use Rattle.kinds.specs.declared.Leaf.TheVariants.{Const, Prop, Hold}
use Rattle.kinds.specs.declared.Unary.TheVariants.{Not, Next, Ever}
use Rattle.kinds.specs.declared.Join.{Join}
use Rattle.kinds.specs.declared.Binary.TheVariants.{Joined, Until}
use Rattle.ltl.specs.Formula.{Formula, leaf, one, two, constant}
use Rattle.merging.specs.Merge.{Tree, stays, negation, pair, slot, Met, met, place, shown}
use Rattle.merging.proofs.Among.{Among, here, there, In, Holds, itself, under-not, on-left, on-right, place_in}

-- what stays whole, as laying makes it
abbrev pub Whole : Formula → Type 0
Whole (leaf (Const v)) = Unit {0}
Whole (leaf (Prop i)) = Unit {0}
Whole (leaf (Hold m)) = ⊥
Whole (one Not f) = ⊥
Whole (one Next f) = Unit {0}
Whole (one (Ever j) f) = ⊥
Whole (two o f g) = ⊥

abbrev pub Made : Tree → Type 0
Made (stays f) = Whole f
Made (negation t) = Made t
Made (pair j t u) = Made t × Made u
Made (slot b t) = Unit {0}

abbrev no_met : Met
no_met = record { chain = 0; board = 0; body = stays (constant false) }

hold-place : (m n : ℕ) → ◌≡◌ {A = Formula} (leaf (Hold (suc m))) (leaf (Hold (suc n))) → m ≡ n
hold-place m n e = let q : suc m ≡ suc n = cc in omega arith

module _ (row : List Met) where
  pub shown-injective : (t u : Tree) → Made t → Made u → ((c : ℕ) (v : Tree) → Holds c v t → In c v row) → ((c : ℕ) (v : Tree) → Holds c v u → In c v row)
      → shown row t ≡ shown row u → t ≡ u
  shown-injective (stays (leaf (Const v))) (stays (leaf (Const v'))) m n h g e = ap stays e
  shown-injective (stays (leaf (Const v))) (stays (leaf (Prop i'))) m n h g e = absurd (let z : ◌≡◌ {A = ℕ} 0 1 = cc in omega arith)
  shown-injective (stays (leaf (Const v))) (stays (one Next f')) m n h g e = absurd (let z : ◌≡◌ {A = ℕ} 0 1 = cc in omega arith)
  shown-injective (stays (leaf (Const v))) (negation t') m n h g e = absurd (let z : ◌≡◌ {A = ℕ} 0 1 = cc in omega arith)
  shown-injective (stays (leaf (Const v))) (pair j' t' s') m n h g e = absurd (let z : ◌≡◌ {A = ℕ} 0 1 = cc in omega arith)
  shown-injective (stays (leaf (Const v))) (slot b' t') m n h g e = absurd (let z : ◌≡◌ {A = ℕ} 0 1 = cc in omega arith)
  shown-injective (stays (leaf (Prop i))) (stays (leaf (Const v'))) m n h g e = absurd (let z : ◌≡◌ {A = ℕ} 0 1 = cc in omega arith)
  shown-injective (stays (leaf (Prop i))) (stays (leaf (Prop i'))) m n h g e = ap stays e
  shown-injective (stays (leaf (Prop i))) (stays (one Next f')) m n h g e = absurd (let z : ◌≡◌ {A = ℕ} 0 1 = cc in omega arith)
  shown-injective (stays (leaf (Prop i))) (negation t') m n h g e = absurd (let z : ◌≡◌ {A = ℕ} 0 1 = cc in omega arith)
  shown-injective (stays (leaf (Prop i))) (pair j' t' s') m n h g e = absurd (let z : ◌≡◌ {A = ℕ} 0 1 = cc in omega arith)
  shown-injective (stays (leaf (Prop i))) (slot b' t') m n h g e = absurd (let z : ◌≡◌ {A = ℕ} 0 1 = cc in omega arith)
  shown-injective (stays (one Next f)) (stays (leaf (Const v'))) m n h g e = absurd (let z : ◌≡◌ {A = ℕ} 0 1 = cc in omega arith)
  shown-injective (stays (one Next f)) (stays (leaf (Prop i'))) m n h g e = absurd (let z : ◌≡◌ {A = ℕ} 0 1 = cc in omega arith)
  shown-injective (stays (one Next f)) (stays (one Next f')) m n h g e = ap stays e
  shown-injective (stays (one Next f)) (negation t') m n h g e = absurd (let z : ◌≡◌ {A = ℕ} 0 1 = cc in omega arith)
  shown-injective (stays (one Next f)) (pair j' t' s') m n h g e = absurd (let z : ◌≡◌ {A = ℕ} 0 1 = cc in omega arith)
  shown-injective (stays (one Next f)) (slot b' t') m n h g e = absurd (let z : ◌≡◌ {A = ℕ} 0 1 = cc in omega arith)
  shown-injective (negation t) (stays (leaf (Const v'))) m n h g e = absurd (let z : ◌≡◌ {A = ℕ} 0 1 = cc in omega arith)
  shown-injective (negation t) (stays (leaf (Prop i'))) m n h g e = absurd (let z : ◌≡◌ {A = ℕ} 0 1 = cc in omega arith)
  shown-injective (negation t) (stays (one Next f')) m n h g e = absurd (let z : ◌≡◌ {A = ℕ} 0 1 = cc in omega arith)
  shown-injective (negation t) (negation t') m n h g e = ap negation (shown-injective t t' m n (λ c v x. h c v (under-not x)) (λ c v x. g c v (under-not x)) cc)
  shown-injective (negation t) (pair j' t' s') m n h g e = absurd (let z : ◌≡◌ {A = ℕ} 0 1 = cc in omega arith)
  shown-injective (negation t) (slot b' t') m n h g e = absurd (let z : ◌≡◌ {A = ℕ} 0 1 = cc in omega arith)
  shown-injective (pair j t s) (stays (leaf (Const v'))) m n h g e = absurd (let z : ◌≡◌ {A = ℕ} 0 1 = cc in omega arith)
  shown-injective (pair j t s) (stays (leaf (Prop i'))) m n h g e = absurd (let z : ◌≡◌ {A = ℕ} 0 1 = cc in omega arith)
  shown-injective (pair j t s) (stays (one Next f')) m n h g e = absurd (let z : ◌≡◌ {A = ℕ} 0 1 = cc in omega arith)
  shown-injective (pair j t s) (negation t') m n h g e = absurd (let z : ◌≡◌ {A = ℕ} 0 1 = cc in omega arith)
  shown-injective (pair j t s) (pair j' t' s') m n h g e =
      let p : j ≡ j' = cc in
      let q = shown-injective t t' m.0 n.0 (λ c v x. h c v (on-left x)) (λ c v x. g c v (on-left x)) cc in
      let r = shown-injective s s' m.1 n.1 (λ c v x. h c v (on-right x)) (λ c v x. g c v (on-right x)) cc in
      λ i. pair (p i) (q i) (r i)
  shown-injective (pair j t s) (slot b' t') m n h g e = absurd (let z : ◌≡◌ {A = ℕ} 0 1 = cc in omega arith)
  shown-injective (slot b t) (stays (leaf (Const v'))) m n h g e = absurd (let z : ◌≡◌ {A = ℕ} 0 1 = cc in omega arith)
  shown-injective (slot b t) (stays (leaf (Prop i'))) m n h g e = absurd (let z : ◌≡◌ {A = ℕ} 0 1 = cc in omega arith)
  shown-injective (slot b t) (stays (one Next f')) m n h g e = absurd (let z : ◌≡◌ {A = ℕ} 0 1 = cc in omega arith)
  shown-injective (slot b t) (negation t') m n h g e = absurd (let z : ◌≡◌ {A = ℕ} 0 1 = cc in omega arith)
  shown-injective (slot b t) (pair j' t' s') m n h g e = absurd (let z : ◌≡◌ {A = ℕ} 0 1 = cc in omega arith)
  shown-injective (slot b t) (slot b' t') m n h g e =
      let q : place b t row ≡ place b' t' row = hold-place (place b t row) (place b' t' row) e in
      let x = h b t (itself refl refl) in
      let y = g b' t' (itself refl refl) in
      let p = place_in no_met b t x.0 row x.1 in
      let r = place_in no_met b' t' y.0 row y.1 in
      ap₂ slot (p.1 ∙ ap (λ (k : ℕ). (get_or row k no_met).board) q ∙ sym r.1) (p.2 ∙ ap (λ (k : ℕ). (get_or row k no_met).body) q ∙ sym r.2)
  shown-injective (stays (leaf (Const v))) (stays (leaf (Hold _))) m n h g e = elim n [ ]
  shown-injective (stays (leaf (Const v))) (stays (one Not f')) m n h g e = elim n [ ]
  shown-injective (stays (leaf (Const v))) (stays (one (Ever _) f')) m n h g e = elim n [ ]
  shown-injective (stays (leaf (Const v))) (stays (two _ _ _)) m n h g e = elim n [ ]
  shown-injective (stays (leaf (Prop i))) (stays (leaf (Hold _))) m n h g e = elim n [ ]
  shown-injective (stays (leaf (Prop i))) (stays (one Not f')) m n h g e = elim n [ ]
  shown-injective (stays (leaf (Prop i))) (stays (one (Ever _) f')) m n h g e = elim n [ ]
  shown-injective (stays (leaf (Prop i))) (stays (two _ _ _)) m n h g e = elim n [ ]
  shown-injective (stays (leaf (Hold _))) u m n h g e = elim m [ ]
  shown-injective (stays (one Not f)) u m n h g e = elim m [ ]
  shown-injective (stays (one Next f)) (stays (leaf (Hold _))) m n h g e = elim n [ ]
  shown-injective (stays (one Next f)) (stays (one Not f')) m n h g e = elim n [ ]
  shown-injective (stays (one Next f)) (stays (one (Ever _) f')) m n h g e = elim n [ ]
  shown-injective (stays (one Next f)) (stays (two _ _ _)) m n h g e = elim n [ ]
  shown-injective (stays (one (Ever _) f)) u m n h g e = elim m [ ]
  shown-injective (stays (two _ _ _)) u m n h g e = elim m [ ]
  shown-injective (negation t) (stays (leaf (Hold _))) m n h g e = elim n [ ]
  shown-injective (negation t) (stays (one Not f')) m n h g e = elim n [ ]
  shown-injective (negation t) (stays (one (Ever _) f')) m n h g e = elim n [ ]
  shown-injective (negation t) (stays (two _ _ _)) m n h g e = elim n [ ]
  shown-injective (pair j t s) (stays (leaf (Hold _))) m n h g e = elim n [ ]
  shown-injective (pair j t s) (stays (one Not f')) m n h g e = elim n [ ]
  shown-injective (pair j t s) (stays (one (Ever _) f')) m n h g e = elim n [ ]
  shown-injective (pair j t s) (stays (two _ _ _)) m n h g e = elim n [ ]
  shown-injective (slot b t) (stays (leaf (Hold _))) m n h g e = elim n [ ]
  shown-injective (slot b t) (stays (one Not f')) m n h g e = elim n [ ]
  shown-injective (slot b t) (stays (one (Ever _) f')) m n h g e = elim n [ ]
  shown-injective (slot b t) (stays (two _ _ _)) m n h g e = elim n [ ]
