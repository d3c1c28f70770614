-- The masks' rule, read bit by bit. `exact`: where masks follow the rule, each bit below p is in exactly one of them, and no other bit
-- is in any. `owners` counts the masks that have a bit. `rule-less`: each of them is below 2 to the p. Assumes nothing.
use mathlib.Core.Path.{◌≡◌, refl, sym, ap, ◌∙◌}
use mathlib.Core.Bool.{true}
use mathlib.Core.List.{List, [], ◌∷◌}
use Prim.Native.Nat.{ℕ, zero, suc, ◌+◌, ◌-◌, ◌/◌, ◌%◌, ◌^◌, ◌<◌, ◌≤◌, max, min}
use native.Mathlib.Nat.{div-eq_of_lt, zero-div, lt_of_lt_of_le, pow-succ'}
use native.Mathlib.Omega.{arith}
use native.Mathlib.Decide.{dec_lt}
use lib.Dec.{ltb}
use lib.Pow.{pow_pos, pow_mono, ones_split, ones_lt, high}
use lib.ListN.{length, get_or}
use lib.Bits.{bit_or, and_le_l, and_le_r, or_add_and}
use borrow.Author.Tests.{lt-ltb, le-ltb, eqb-true}
use Rattle.lists.proofs.Tests.{both-0, both-1}
use Rattle.lists.specs.Tests.{pick}
use Rattle.limits.specs.Limits.{propositions_most}
use Rattle.masks.specs.Masks.{bit_at, sum_to, ones_of, sum_ones, union_with, masks_rule}
use Rattle.masks.proofs.Bits.{bit-less, or-bit}

-- how many masks have bit i
unfoldable pub owners : List ℕ → ℕ → ℕ
owners [] i = 0
owners (m ∷ ms) i = bit_at m i + owners ms i

-- 1 below p, 0 from p on
unfoldable pub below : ℕ → ℕ → ℕ
below p i = pick (ltb i p) 1 0

-- ---- the ones, counted by mask or by bit
sum-plus : (k : ℕ) (f g : ℕ → ℕ) → sum_to k f + sum_to k g ≡ sum_to k (λ i. f i + g i)
unfolding sum_to
sum-plus zero f g = refl
sum-plus (suc k) f g = omega (arith, sum-plus k f g)

sum-zero : (k : ℕ) → sum_to k (λ i. 0) ≡ 0
unfolding sum_to
sum-zero zero = refl
sum-zero (suc k) = omega (arith, sum-zero k)

pub ones-owners : (ms : List ℕ) → sum_ones ms ≡ sum_to propositions_most (owners ms)
unfolding sum_ones owners ones_of
ones-owners [] = sym (sum-zero propositions_most)
ones-owners (m ∷ ms) = ap (λ (x : ℕ). sum_to propositions_most (bit_at m) + x) (ones-owners ms) ∙ sum-plus propositions_most (bit_at m) (owners ms)

-- ---- a bit of the union is set where some mask has it
max-min : (x y z u : ℕ) → x < 2 → u ≡ min 1 (max x y + z) → y < 2 → u ≡ min 1 (x + (y + z))
max-min x y z u hx e hy = omega arith

pub union-bit : (a : ℕ) (ms : List ℕ) (i : ℕ) → bit_at (union_with a ms) i ≡ min 1 (bit_at a i + owners ms i)
unfolding union_with owners
union-bit a [] i = omega (arith, bit-less a i)
union-bit a (m ∷ ms) i =
    max-min _ _ _ _ (bit-less a i) (union-bit (bit_or a m) ms i ∙ ap (λ (x : ℕ). min 1 (x + owners ms i)) (or-bit a m i)) (bit-less m i)

-- and no mask is above it
union-least : (a : ℕ) (ms : List ℕ) → a ≤ union_with a ms
unfolding union_with
union-least a [] = omega arith
union-least a (m ∷ ms) = omega (arith, union-least (bit_or a m) ms, or_add_and a m, and_le_r a m)

union-most : (a : ℕ) (ms : List ℕ) (i : ℕ) → i < length ms → get_or ms i 0 ≤ union_with a ms
unfolding union_with
union-most a [] i l = absurd (omega arith)
union-most a (m ∷ ms) zero l = omega (arith, union-least (bit_or a m) ms, or_add_and a m, and_le_l a m)
union-most a (m ∷ ms) (suc i) l = union-most (bit_or a m) ms i (omega arith)

-- ---- the bits of 2 ^ p - 1
low_bit : (p i : ℕ) → i < p → bit_at (2 ^ p - 1) i ≡ 1
low_bit p i h =
    let j = p - suc i in
    let e : suc j + i ≡ p = omega arith in
    ap (λ (q : ℕ). bit_at (2 ^ q - 1) i) (sym e)
    ∙ ap (λ (x : ℕ). x / 2 ^ i % 2) (ones_split (suc j) i)
    ∙ ap (λ (x : ℕ). x % 2) (high (2 ^ suc j - 1) i (ones_lt i))
    ∙ odd j
  where
    odd : (j : ℕ) → (2 ^ suc j - 1) % 2 ≡ 1
    odd j = let q = pow_pos j in rw (pow-succ' 2 j) (omega arith)

high_bit : (p i : ℕ) → p ≤ i → bit_at (2 ^ p - 1) i ≡ 0
high_bit p i h = ap (λ (x : ℕ). x % 2) (div-eq_of_lt (lt_of_lt_of_le (ones_lt p) (pow_mono h)))

pub low-bits-bit : (p i : ℕ) → bit_at (2 ^ p - 1) i ≡ below p i
unfolding below pick
low-bits-bit p i =
    elim (dec_lt i p) [
      | yes h ↦ low_bit p i h ∙ simp (lt-ltb _ _ h)
      | no h ↦ high_bit p i (omega arith) ∙ simp (le-ltb i p (omega arith))
    ]

-- ---- two sums that agree, of which one is nowhere below the other, agree place by place
sum_mono : (k : ℕ) (f g : ℕ → ℕ) → ((i : ℕ) → i < k → g i ≤ f i) → sum_to k g ≤ sum_to k f
unfolding sum_to
sum_mono zero f g h = omega arith
sum_mono (suc k) f g h = omega (arith, sum_mono k f g (λ i l. h i (omega arith)), h k (omega arith))

same-places : (k : ℕ) (f g : ℕ → ℕ) → ((i : ℕ) → i < k → g i ≤ f i) → sum_to k f ≤ sum_to k g → (i : ℕ) → i < k → f i ≡ g i
unfolding sum_to
same-places zero f g h e i l = absurd (omega arith)
same-places (suc k) f g h e i l =
    let m = sum_mono k f g (λ j q. h j (omega arith)) in
    let t = h k (omega arith) in
    elim (dec_lt i k) [
      | yes q ↦ same-places k f g (λ j r. h j (omega arith)) (omega arith) i q
      | no q ↦ (let s : i ≡ k = omega arith in rw s (omega arith))
    ]

sum_below : (p k : ℕ) → sum_to k (below p) ≡ min k p
unfolding sum_to below pick
sum_below p zero = omega arith
sum_below p (suc k) =
    elim (dec_lt k p) [
      | yes h ↦ rw (sum_below p k, lt-ltb k p h) (omega arith)
      | no h ↦ (let q : p ≤ k = omega arith in rw (sum_below p k, le-ltb k p q) (omega arith))
    ]

-- ---- the rule
module _ (p : ℕ) (ms : List ℕ) (rule : masks_rule p ms ≡ true) where
  pub rule-sum : sum_ones ms ≡ p
  unfolding masks_rule
  rule-sum = eqb-true _ _ (both-0 _ _ rule)

  pub rule-union : union_with 0 ms ≡ 2 ^ p - 1
  unfolding masks_rule
  rule-union = eqb-true _ _ (both-1 _ _ rule)

  pub rule-less : (i : ℕ) → i < length ms → get_or ms i 0 < 2 ^ p
  rule-less i l = omega (arith, union-most 0 ms i l, rule-union, pow_pos p)

  pub exact : p ≤ propositions_most → (i : ℕ) → i < propositions_most → owners ms i ≡ below p i
  exact small i l = same-places propositions_most (owners ms) (below p) at_least enough i l
    where
      at_least : (j : ℕ) → j < propositions_most → below p j ≤ owners ms j
      at_least j q =
          let z : bit_at 0 j ≡ 0 = ap (λ (x : ℕ). x % 2) (zero-div (2 ^ j)) in
          let b : below p j ≡ min 1 (bit_at 0 j + owners ms j) = sym (low-bits-bit p j) ∙ ap (λ (x : ℕ). bit_at x j) (sym rule-union) ∙ union-bit 0 ms j in
          omega arith

      enough : sum_to propositions_most (owners ms) ≤ sum_to propositions_most (below p)
      enough = omega (arith, ones-owners ms, sum_below p propositions_most, rule-sum)
