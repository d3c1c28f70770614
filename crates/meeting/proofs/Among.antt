-- What is in a list of numbers. `among-append` and `among_one` say it of a list that has grown; `differing-more` says that a new number
-- makes one more, `differing-few` that there are no more than there is room for. Assumes nothing.
use mathlib.Core.Path.{◌≡◌, refl, sym, ap, ◌∙◌}
use mathlib.Core.Bool.{Bool, true, false}
use mathlib.Core.Logic.{◌⊎◌, inl, inr}
use mathlib.Core.List.{List, [], ◌∷◌, ◌++◌}
use Prim.Native.Nat.{ℕ, zero, suc, ◌+◌, ◌<◌, ◌≤◌}
use native.Mathlib.Omega.{arith}
use native.Mathlib.Decide.{ℕ_discrete}
use lib.ListN.{length, get_or}
use lib.Dec.{eqb}
use borrow.Author.Tests.{eq-eqb, ne_eqb}
use Rattle.limits.specs.Limits.{slots_room}
use Rattle.lists.specs.Tests.{pick, either}
use Rattle.lists.proofs.Tests.{no_true, either-right}
use Rattle.masks.specs.Masks.{sum_to}
use Rattle.masks.proofs.Bits.{sum_same, sum-few}
use Rattle.registers.specs.Relaying.{is_among}
use Rattle.slot_sets.proofs.Bits.{either-false}
use Rattle.meeting.specs.Meeting.{differing}

-- ---- tests
pub either-assoc : (a b c : Bool) → either (either a b) c ≡ either a (either b c)
unfolding either
either-assoc true b c = refl
either-assoc false b c = refl

pub either_left : (a b : Bool) → a ≡ true → either a b ≡ true
unfolding either
either_left true b h = refl
either_left false b h = absurd (no_true h)

-- one of the two holds
pub either-cases : (a b : Bool) → either a b ≡ true → (a ≡ true) ⊎ (b ≡ true)
unfolding either
either-cases true b h = inl refl
either-cases false b h = inr h

-- ---- lists
pub among-nil : (k : ℕ) → is_among k [] ≡ false
unfolding is_among
among-nil k = refl

pub among-cons : (k x : ℕ) (xs : List ℕ) → is_among k (x ∷ xs) ≡ either (eqb k x) (is_among k xs)
unfolding is_among
among-cons k x xs = refl

pub among-append : (k : ℕ) (xs ys : List ℕ) → is_among k (xs ++ ys) ≡ either (is_among k xs) (is_among k ys)
unfolding is_among either
among-append k [] ys = refl
among-append k (x ∷ xs) ys = ap (either (eqb k x)) (among-append k xs ys) ∙ sym (either-assoc (eqb k x) (is_among k xs) (is_among k ys))

pub among_first : (k : ℕ) (xs : List ℕ) → is_among k (k ∷ xs) ≡ true
among_first k xs = among-cons k k xs ∙ either_left (eqb k k) (is_among k xs) (eq-eqb k k refl)

-- a list with one number more
pub among_one : (j : ℕ) (xs : List ℕ) (k : ℕ) → is_among j (xs ++ (k ∷ [])) ≡ either (is_among j xs) (eqb j k)
among_one j xs k = among-append j xs (k ∷ []) ∙ ap (either (is_among j xs)) (among-cons j k [] ∙ ap (either (eqb j k)) (among-nil j) ∙ either-false (eqb j k))

pub eqb-turned : (j k : ℕ) → eqb j k ≡ eqb k j
eqb-turned j k = go (ℕ_discrete j k)
  where
    go : Dec (j ≡ k) → eqb j k ≡ eqb k j
    go (yes e) = eq-eqb j k e ∙ sym (eq-eqb k j (sym e))
    go (no d) = ne_eqb j k d ∙ sym (ne_eqb k j (λ e. d (sym e)))

-- the number at a place is in the list
pub among-at : (xs : List ℕ) (i : ℕ) → i < length xs → is_among (get_or xs i 0) xs ≡ true
among-at [] i h = absurd (omega arith)
among-at (x ∷ xs) zero h = among_first x xs
among-at (x ∷ xs) (suc i) h =
    among-cons (get_or xs i 0) x xs ∙ ap (either (eqb (get_or xs i 0) x)) (among-at xs i (omega arith)) ∙ either-right (eqb (get_or xs i 0) x)

-- ---- how many
-- 1 for a test that holds
abbrev pub as_one : Bool → ℕ
as_one b = pick b 1 0

one_less : (b : Bool) → as_one b < 2
unfolding pick
one_less true = omega arith
one_less false = omega arith

-- a sum with one term more
sum_more : (n : ℕ) (f g : ℕ → ℕ) (k : ℕ) → k < n → ((i : ℕ) → (i ≡ k → ⊥) → f i ≡ g i) → f k ≡ 0 → g k ≡ 1 → sum_to n g ≡ suc (sum_to n f)
unfolding sum_to
sum_more zero f g k h e a b = absurd (omega arith)
sum_more (suc n) f g k h e a b = go (ℕ_discrete k n) (λ l. sum_more n f g k l e a b)
  where
    go : Dec (k ≡ n) → (k < n → sum_to n g ≡ suc (sum_to n f)) → sum_to n g + g n ≡ suc (sum_to n f + f n)
    go (yes q) ih =
        let s = sum_same n g f (λ i l. sym (e i (λ z. omega arith))) in
        let x : f n ≡ 0 = ap f (sym q) ∙ a in
        let y : g n ≡ 1 = ap g (sym q) ∙ b in
        omega arith
    go (no d) ih =
        let l : k < n = omega arith in
        let s = ih l in
        let t = e n (λ z. d (sym z)) in
        omega arith

module _ (xs : List ℕ) (k : ℕ) (new : is_among k xs ≡ false) where
  pub differing-more : k < slots_room → differing (xs ++ (k ∷ [])) ≡ suc (differing xs)
  unfolding differing pick either
  differing-more h = sum_more slots_room (λ i. as_one (is_among i xs)) (λ i. as_one (is_among i (xs ++ (k ∷ [])))) k h other before after
    where
      other : (i : ℕ) → (i ≡ k → ⊥) → as_one (is_among i xs) ≡ as_one (is_among i (xs ++ (k ∷ [])))
      other i d = ap as_one (sym (among_one i xs k ∙ ap (either (is_among i xs)) (ne_eqb i k d) ∙ either-false (is_among i xs)))

      before : as_one (is_among k xs) ≡ 0
      before = ap as_one new

      after : as_one (is_among k (xs ++ (k ∷ []))) ≡ 1
      after = ap as_one (among_one k xs k ∙ ap (either (is_among k xs)) (eq-eqb k k refl) ∙ either-right (is_among k xs))

pub differing-few : (xs : List ℕ) → differing xs ≤ slots_room
unfolding differing
differing-few xs = sum-few slots_room (λ i. as_one (is_among i xs)) (λ i. one_less (is_among i xs))

none-sum : (n : ℕ) → sum_to n (λ i. as_one (is_among i [])) ≡ 0
unfolding sum_to is_among pick
none-sum zero = refl
none-sum (suc n) = let e = none-sum n in omega arith

pub differing-none : differing [] ≡ 0
unfolding differing
differing-none = none-sum slots_room
