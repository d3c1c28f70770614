-- Looking for a clash: where the counters are the same (`same_step`), four records at once (`four-clear`), and four records more that have none
-- (`clear-four`). What is known where all records were looked over: no clash (`looked-clear`), or one (`looked-clash`). Assumes nothing.
use mathlib.Core.Path.{◌≡◌, refl, sym, ap, ◌∙◌, subst}
use mathlib.Core.Bool.{Bool, true, false}
use mathlib.Core.List.{List}
use Prim.Native.Nat.{ℕ, suc, ◌+◌, ◌-◌, ◌<◌, ◌≤◌, ◌^◌}
use native.Mathlib.Omega.{arith}
use native.Mathlib.Decide.{ℕ_discrete}
use lib.Dec.{eqb, ltb}
use borrow.Author.Tests.{eq-eqb, ne_eqb, ltb-true, ltb-false}
use Rattle.lists.specs.Tests.{both, either}
use Rattle.lists.proofs.Tests.{no_true}
use Rattle.recordings.specs.Records.{Record, step_from, clashes}
use Rattle.recordings.specs.Mending.{agree, NoClash}
use Rattle.recordings.specs.Recording.{count_in, record_in, records_in}
use Rattle.recordings.proofs.Neighbours.{step-zero, step-none}
use Rattle.recordings.proofs.Places.{agree-not}
use Rattle.inspecting.specs.Looked.{same_by, clash_by, any_four, ClearTo, LooksOver}

-- ---- one record
-- the step is 0 where the counters are the same, and only there
pub same_step : (a b : ℕ) → a < 2 ^ 32 → b < 2 ^ 32 → {d : ℕ} → d ≡ step_from a b → eqb d 0 ≡ eqb b a
same_step a b h k {d} e = go (ℕ_discrete b a)
  where
    go : Dec (b ≡ a) → eqb d 0 ≡ eqb b a
    go (yes z) = eq-eqb d 0 (e ∙ step-none a b h z) ∙ sym (eq-eqb b a z)
    go (no z) = ne_eqb d 0 (λ x. z (step-zero a b h k (sym e ∙ x))) ∙ sym (ne_eqb b a z)

module _ (f : ℕ → Record) (i : ℕ) where
  -- another counter is no clash
  pub clash-other : same_by f i ≡ false → clash_by f i ≡ false
  unfolding clashes both
  clash-other e = rw e refl

-- ---- four records
either-not : (a b : Bool) → either a b ≡ false → (a ≡ false) × (b ≡ false)
unfolding either
either-not true b e = (e, absurd (no_true (sym e)))
either-not false b e = (refl, e)

four-not : (p : ℕ → Bool) (i j : ℕ) → any_four p i ≡ false → i ≤ j → j < i + 4 → p j ≡ false
four-not p i j e h k = go (ℕ_discrete j i) (ℕ_discrete j (i + 1)) (ℕ_discrete j (i + 2))
  where
    go : Dec (j ≡ i) → Dec (j ≡ i + 1) → Dec (j ≡ i + 2) → p j ≡ false
    go (yes z) b c = ap p z ∙ (either-not _ _ (either-not _ _ e).0).0
    go (no a) (yes z) c = ap p z ∙ (either-not _ _ (either-not _ _ e).0).1
    go (no a) (no b) (yes z) = ap p z ∙ (either-not _ _ (either-not _ _ e).1).0
    go (no a) (no b) (no c) = let z : j ≡ i + 3 = omega arith in ap p z ∙ (either-not _ _ (either-not _ _ e).1).1

-- no counter is the same, so none clashes
pub four-clear : (f : ℕ → Record) (i : ℕ) → any_four (same_by f) i ≡ false → any_four (clash_by f) i ≡ false
unfolding either
four-clear f i e =
    rw (
      clash-other f i (four-not (same_by f) i i e (omega arith) (omega arith)),
      clash-other f (i + 1) (four-not (same_by f) i (i + 1) e (omega arith) (omega arith)),
      clash-other f (i + 2) (four-not (same_by f) i (i + 2) e (omega arith) (omega arith)),
      clash-other f (i + 3) (four-not (same_by f) i (i + 3) e (omega arith) (omega arith)),
    ) refl

-- ---- the loop
module _ {s : List ℕ} {i : ℕ} (t : ClearTo s i) where
  -- some records more
  clear-some : (m : ℕ) → ((j : ℕ) → i ≤ j → j < i + m → clash_by (record_in s) j ≡ false) → ClearTo s (i + m)
  clear-some m h = let some = t.some in record { some = omega arith; clear = λ j l. go j l (ltb (suc j) i) refl }
    where
      go : (j : ℕ) → suc j < i + m → (b : Bool) → ltb (suc j) i ≡ b → clashes (record_in s j) (record_in s (suc j)) ≡ false
      go j l true e = t.clear j (ltb-true (suc j) i e)
      go j l false e =
          let n = ltb-false (suc j) i e in
          let z : j ≡ suc j - 1 = omega arith in
          ap (λ (x : ℕ). clashes (record_in s x) (record_in s (suc j))) z ∙ h (suc j) (omega arith) l

  pub clear-four : any_four (clash_by (record_in s)) i ≡ false → ClearTo s (i + 4)
  clear-four e = clear-some 4 (λ j h k. four-not (clash_by (record_in s)) i j e h k)

-- ---- all records
module _ {s : List ℕ} {n r : ℕ} (t : LooksOver s n r) (count : n ≡ count_in s) where
  pub looked-clear : r ≡ n → NoClash (record_in s) (count_in s)
  looked-clear e = subst (λ (k : ℕ). NoClash (record_in s) k) (e ∙ count) t.clear

  pub looked-clash : (r ≡ n → ⊥) → agree (records_in s) ≡ false
  looked-clash ne =
      let few = t.few in
      let here = t.clash (omega arith) in
      let z : suc (r - 1) ≡ r = let some = here.0 in omega arith in
      agree-not (record_in s) (count_in s) (r - 1) (omega arith) (ap (λ (k : ℕ). clashes (record_in s (r - 1)) (record_in s k)) z ∙ here.1)
