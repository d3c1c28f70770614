-- Place holders stand at most once each, still, in a state whose slots hold no more than those of another: `held-once`.
-- Assumes nothing.
use mathlib.Core.Path.{◌≡◌, sym, ap, ◌∙◌}
use mathlib.Core.Bool.{true, false}
use mathlib.Core.List.{List, [], ◌∷◌}
use Prim.Native.Nat.{ℕ, zero, suc, ◌+◌, ◌<◌, ◌≤◌}
use native.Mathlib.Decide.{ℕ_discrete}
use native.Mathlib.Omega.{arith}
use lib.Dec.{eqb}
use borrow.Author.Tests.{eq-eqb, ne_eqb, not-true}
use Rattle.lists.specs.Tests.{pick, either}
use Rattle.lists.proofs.Tests.{no_true, both-0, both-1}
use Rattle.state.specs.Fields.{formula_in}
use Rattle.state.specs.Clauses.{among, distinct, held_of, holders_in}
use Rattle.checked.proofs.Holders.{times, times-append, found-one, distinct_of}

found_none : (n m : ℕ) → (n ≡ m → ⊥) → ◌≡◌ {A = ℕ} (pick (eqb n m) 1 0) 0
unfolding pick
found_none n m e = rw (ne_eqb n m e)

none-among : (m : ℕ) (ns : List ℕ) → among m ns ≡ false → times m ns ≡ 0
unfolding among either
none-among m [] e = omega arith
none-among m (n ∷ ns) e = go (ℕ_discrete m n) e (λ q. none-among m ns q)
  where
    go : Dec (m ≡ n) → either (eqb m n) (among m ns) ≡ false → (among m ns ≡ false → times m ns ≡ 0) → pick (eqb n m) 1 0 + times m ns ≡ 0
    go (yes q) f h = let t : either (eqb m n) (among m ns) ≡ true = rw (eq-eqb m n q) in absurd (no_true (sym f ∙ t))
    go (no q) f h =
        let t : among m ns ≡ false = rw (ne_eqb m n q) at f in
        omega (arith, h t, found_none n m (λ e. q (sym e)))

times-few : (ns : List ℕ) → distinct ns ≡ true → (m : ℕ) → times m ns ≤ 1
unfolding distinct
times-few [] e m = omega arith
times-few (n ∷ ns) e m = go (ℕ_discrete n m) (times-few ns (both-1 _ _ e) m)
  where
    none : times n ns ≡ 0
    none = none-among n ns (not-true (among n ns) (both-0 _ _ e))

    go : Dec (n ≡ m) → times m ns ≤ 1 → pick (eqb n m) 1 0 + times m ns ≤ 1
    go (yes q) h = let z : times m ns ≡ 0 = ap (λ (i : ℕ). times i ns) (sym q) ∙ none in omega (arith, found-one n m q)
    go (no q) h = omega (arith, found_none n m q)

module _ (s t : List ℕ) where
  fewer : (n m : ℕ) → ((k : ℕ) → k < n → times m (held_of (formula_in t k)) ≤ times m (held_of (formula_in s k))) → times m (holders_in t n) ≤ times m (holders_in s n)
  unfolding holders_in
  fewer zero m h = omega arith
  fewer (suc n) m h =
      omega (
        arith,
        times-append m (holders_in t n) (held_of (formula_in t n)),
        times-append m (holders_in s n) (held_of (formula_in s n)),
        fewer n m (λ k l. h k (omega arith)),
        h n (omega arith),
      )

  pub held-once : (n : ℕ) → ((m k : ℕ) → k < n → times m (held_of (formula_in t k)) ≤ times m (held_of (formula_in s k)))
      → distinct (holders_in s n) ≡ true → distinct (holders_in t n) ≡ true
  held-once n h e = distinct_of (holders_in t n) (λ m. omega (arith, fewer n m (h m), times-few (holders_in s n) e m))
