-- Place holders counted: numbers that stand at most once each are distinct (`distinct_of`), and the place holders of a state whose
-- slots are known stand as often as in those slots (`holders-times`, for one formula `held-times`). Assumes nothing.
use mathlib.Core.Path.{◌≡◌, refl, sym, ap, ◌∙◌}
use mathlib.Core.Bool.{true, false, not}
use mathlib.Core.List.{List, [], ◌∷◌, ◌++◌}
use mathlib.Core.Option.{some}
use Prim.Native.Nat.{ℕ, zero, suc, ◌+◌, ◌<◌, ◌≤◌}
use native.Mathlib.Decide.{ℕ_discrete}
use native.Mathlib.Omega.{arith}
use lib.ListN.{length, take}
use lib.Seq.{take-suc, take-length}
use lib.Dec.{eqb}
use borrow.Author.Tests.{eq-eqb, ne_eqb}
use Rattle.lists.specs.Tests.{pick, either}
use Rattle.lists.proofs.Tests.{both_true}
use Rattle.kinds.specs.declared.Leaf.TheVariants.{Const, Prop, Hold}
use Rattle.ltl.specs.Formula.{Formula, leaf, one, two, constant}
use Rattle.network.specs.Layout.{Slot, slot_at}
use Rattle.network.proofs.Numbers.{times_in, times_held, times-both}
use Rattle.state.specs.Fields.{formula_in}
use Rattle.state.specs.Clauses.{held_by, among, distinct, held_of, holders_in}

-- how often m stands among some numbers
abbrev pub times : ℕ → List ℕ → ℕ
times m [] = 0
times m (n ∷ ns) = pick (eqb n m) 1 0 + times m ns

pub times-append : (m : ℕ) (ns ks : List ℕ) → times m (ns ++ ks) ≡ times m ns + times m ks
times-append m [] ks = omega arith
times-append m (n ∷ ns) ks = omega (arith, times-append m ns ks)

-- ---- at most once each
pub found-one : (n m : ℕ) → n ≡ m → ◌≡◌ {A = ℕ} (pick (eqb n m) 1 0) 1
unfolding pick
found-one n m e = rw (eq-eqb n m e)

among_none : (m : ℕ) (ns : List ℕ) → times m ns ≡ 0 → among m ns ≡ false
unfolding among either
among_none m [] e = refl
among_none m (n ∷ ns) e = go (ℕ_discrete m n) (λ q. among_none m ns q)
  where
    go : Dec (m ≡ n) → (times m ns ≡ 0 → among m ns ≡ false) → either (eqb m n) (among m ns) ≡ false
    go (yes q) h = absurd (omega (arith, found-one n m (sym q)))
    go (no q) h = rw (ne_eqb m n q) (h (omega arith))

pub distinct_of : (ns : List ℕ) → ((m : ℕ) → times m ns ≤ 1) → distinct ns ≡ true
unfolding distinct
distinct_of [] h = refl
distinct_of (n ∷ ns) h =
    both_true (not (among n ns)) (distinct ns)
    (ap not (among_none n ns (omega (arith, h n, found-one n n refl))))
    (distinct_of ns (λ m. omega (arith, h m)))

-- ---- in formulas, and in a state
pub held-times : (m : ℕ) (f : Formula) → times m (held_by f) ≡ times_in m f
unfolding held_by
held-times m (leaf (Const v)) = refl
held-times m (leaf (Prop i)) = refl
held-times m (leaf (Hold k)) = omega arith
held-times m (one o f) = held-times m f
held-times m (two o f g) = omega (arith, times-append m (held_by f) (held_by g), held-times m f, held-times m g)

module _ (s : List ℕ) (slots : List Slot) (reads : (k : ℕ) → k < length slots → formula_in s k ≡ some (slot_at slots k).formula) where
  holders-front : (m n : ℕ) → n ≤ length slots → times m (holders_in s n) ≡ times_held m (take n slots)
  unfolding holders_in
  holders-front m zero l = refl
  holders-front m (suc n) l =
      let t = slot_at slots n in
      let e = ap (λ o. times m (held_of o)) (reads n (omega arith)) ∙ held-times m t.formula in
      let d = ap (times_held m) (take-suc slots n (record { board = 0; formula = constant false }) (omega arith)) ∙ times-both m (take n slots) (t ∷ []) in
      omega (arith, times-append m (holders_in s n) (held_of (formula_in s n)), holders-front m n (omega arith))

  pub holders-times : (m : ℕ) → times m (holders_in s (length slots)) ≡ times_held m slots
  holders-times m = holders-front m (length slots) (omega arith) ∙ ap (times_held m) (take-length slots)
