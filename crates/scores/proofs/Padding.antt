-- Scores by masks, with zeros behind them for the boards that are not there: added (`added-padded`), of one proposition
-- (`one-padded`), all of them 0 (`zeros-padded`), and the choice among them (`chosen-padded`). Assumes nothing.
use mathlib.Core.Path.{◌≡◌, refl, sym, ap, ap₂, ◌∙◌}
use mathlib.Core.Bool.{true, false}
use mathlib.Core.List.{List, [], ◌∷◌, ◌++◌, map}
use mathlib.Core.Option.{Option, none, some}
use Prim.Native.Nat.{ℕ, zero, suc, ◌+◌, ◌-◌, ◌≤◌}
use native.Mathlib.Omega.{arith}
use lib.ListN.{length, get_or, set, replicate}
use lib.Dec.{eqb, ltb}
use borrow.Author.Tests.{eq-eqb, ne_eqb, le-ltb}
use Rattle.lists.specs.Tests.{pick, bit}
use Rattle.lists.specs.Runs.{padded}
use Rattle.lists.proofs.Tests.{no_true, no_bits}
use Rattle.ltl.specs.Formula.{Formula}
use Rattle.network.specs.Scores.{scores_of, highest, chosen}
use Rattle.scores.specs.Scored.{added}
use Rattle.scores.proofs.Tests.{eqb-suc}

padded-cons : (n x : ℕ) (l : List ℕ) → padded n (x ∷ l) ≡ x ∷ padded (n - 1) l
padded-cons n x l = let e : n - suc (length l) ≡ n - 1 - length l = omega arith in ap (λ (k : ℕ). x ∷ (l ++ replicate {A = ℕ} k 0)) e

-- ---- added
added-zeros : (n : ℕ) → added (replicate n 0) (replicate n 0) ≡ replicate n 0
unfolding added
added-zeros zero = refl
added-zeros (suc n) = ap (0 ∷◌) (added-zeros n)

added-cons : (x y : ℕ) (xs ys : List ℕ) → added (x ∷ xs) (y ∷ ys) ≡ (x + y) ∷ added xs ys
unfolding added
added-cons x y xs ys = refl

pub added-padded : (n : ℕ) (g h : ℕ → ℕ) (masks : List ℕ) → added (padded n (map g masks)) (padded n (map h masks)) ≡ padded n (map (λ m. g m + h m) masks)
added-padded n g h [] = added-zeros (n - 0)
added-padded n g h (m ∷ ms) =
    ap₂ added (padded-cons n (g m) (map g ms)) (padded-cons n (h m) (map h ms))
    ∙ added-cons (g m) (h m) (padded (n - 1) (map g ms)) (padded (n - 1) (map h ms))
    ∙ ap ((g m + h m) ∷◌) (added-padded (n - 1) g h ms)
    ∙ sym (padded-cons n (g m + h m) (map (λ m. g m + h m) ms))

-- ---- by the masks
-- one more board in front
padded-more : (n x : ℕ) (l : List ℕ) (g : ℕ → ℕ) (m : ℕ) (ms : List ℕ) → x ≡ g m → l ≡ padded n (map g ms) → x ∷ l ≡ padded (suc n) (map g (m ∷ ms))
padded-more n x l g m ms e h =
    let k : n ≡ suc n - 1 = omega arith in
    ap₂ ◌∷◌ e (h ∙ ap (λ (j : ℕ). padded j (map g ms)) k) ∙ sym (padded-cons (suc n) (g m) (map g ms))

pub zeros-padded : (n : ℕ) (g : ℕ → ℕ) (masks : List ℕ) → length masks ≤ n → ((b : ℕ) → g (get_or masks b 0) ≡ 0) → replicate n 0 ≡ padded n (map g masks)
zeros-padded n g [] l h = let e : n ≡ n - 0 = omega arith in ap (λ (k : ℕ). replicate {A = ℕ} k 0) e
zeros-padded zero g (m ∷ ms) l h = absurd (omega arith)
zeros-padded (suc n) g (m ∷ ms) l h = padded-more n 0 (replicate n 0) g m ms (sym (h 0)) (zeros-padded n g ms (omega arith) (λ b. h (suc b)))

-- how often proposition i occurs in itself, by a board's mask
abbrev pub occurs : ℕ → ℕ → ℕ
occurs i mask = pick (bit mask i) 1 0

occurs-yes : (i mask : ℕ) → bit mask i ≡ true → occurs i mask ≡ 1
unfolding pick
occurs-yes i mask e = rw e

occurs-no : (i mask : ℕ) → bit mask i ≡ false → occurs i mask ≡ 0
unfolding pick
occurs-no i mask e = rw e

pub one-padded : (n b i : ℕ) (masks : List ℕ) → length masks ≤ n → ((j : ℕ) → bit (get_or masks j 0) i ≡ eqb b j)
    → set (replicate n 0) b 1 ≡ padded n (map (occurs i) masks)
one-padded n b i [] l h = absurd (no_true (sym (no_bits i) ∙ h b ∙ eq-eqb b b refl))
one-padded zero b i (m ∷ ms) l h = absurd (omega arith)
one-padded (suc n) zero i (m ∷ ms) l h =
    padded-more n 1 (replicate n 0) (occurs i) m ms
    (sym (occurs-yes i m (h 0 ∙ eq-eqb 0 0 refl)))
    (zeros-padded n (occurs i) ms (omega arith) (λ j. occurs-no i (get_or ms j 0) (h (suc j) ∙ ne_eqb 0 (suc j) (λ z. omega arith))))
one-padded (suc n) (suc b) i (m ∷ ms) l h =
    padded-more n 0 (set (replicate n 0) b 1) (occurs i) m ms
    (sym (occurs-no i m (h 0 ∙ ne_eqb (suc b) 0 (λ z. omega arith))))
    (one-padded n b i ms (omega arith) (λ j. h (suc j) ∙ eqb-suc b j))

-- ---- the choice
pub highest-zeros : (place : Option ℕ) (most b k : ℕ) → highest place most b (replicate k 0) ≡ place
unfolding highest pick
highest-zeros place most b zero = refl
highest-zeros place most b (suc k) = rw (le-ltb most 0 (omega arith)) (highest-zeros place most (suc b) k)

highest-behind : (place : Option ℕ) (most b : ℕ) (counts : List ℕ) (k : ℕ) → highest place most b (counts ++ replicate k 0) ≡ highest place most b counts
unfolding highest
highest-behind place most b [] k = highest-zeros place most b k
highest-behind place most b (x ∷ xs) k =
    ap₂ (pick (ltb most x)) (highest-behind (some b) x (suc b) xs k) (highest-behind place most (suc b) xs k)

pub chosen-padded : (n : ℕ) (masks : List ℕ) (f : Formula) → highest none 0 0 (padded n (scores_of masks f)) ≡ chosen masks f
unfolding chosen
chosen-padded n masks f = highest-behind none 0 0 (scores_of masks f) (n - length (scores_of masks f))
