-- The number of binary digits of a union of masks: how many propositions boards have. Where there is a number with which masks follow
-- their rule, it is this one (`highest-rule`). Assumes nothing.
use mathlib.Core.Path.{◌≡◌}
use mathlib.Core.List.{List}
use mathlib.Core.Bool.{true}
use Prim.Native.Nat.{ℕ, zero, suc, ◌+◌, ◌-◌, ◌*◌, ◌^◌, ◌<◌, ◌≤◌}
use native.Mathlib.Omega.{arith}
use native.Mathlib.Nat.{pow-suc, pow-le-pow_right}
use native.Mathlib.Decide.{dec_lt}
use Rattle.std.specs.Int.Count.{count_leading_zeros}
use Rattle.std.proofs.lemmas.Nat.{leading_length}
use native.Mathlib.Numerals.{sub-one}
use lib.Pow.{pow_pos}
use Rattle.masks.specs.Masks.{union_with, masks_rule}
use Rattle.masks.proofs.Exact.{rule-union}
use Rattle.spelling.specs.Count.{HighestSeen}

-- what is left of the width without its leading zeros
pub highest : (masks : List ℕ) (n p : ℕ) → n ≡ union_with 0 masks → n < 2 ^ 64 → p ≡ 64 - count_leading_zeros 64 n → HighestSeen masks p
highest masks n p e h is =
    let l = leading_length 64 n h in
    let same : p ≡ l.0 = omega (arith, l.1) in
    record {
      few = omega (arith, l.1);
      none_above = rw (same, ← e) l.2;
      seen_below = λ k. let twice : 2 ^ p ≡ 2 * 2 ^ (p - 1) = go p k in let most : 2 ^ p ≤ 2 * n + 1 = rw same l.3 in omega arith;
    }
  where
    go : (p : ℕ) → 0 < p → 2 ^ p ≡ 2 * 2 ^ (p - 1)
    go zero h = absurd (omega arith)
    go (suc p) h = rw sub-one (omega (arith, pow-suc 2 p))

-- no choice is lost: masks that follow their rule with some number of propositions have just that many
pub highest-rule : (masks : List ℕ) (p q : ℕ) → masks_rule p masks ≡ true → HighestSeen masks q → p ≡ q
highest-rule masks p q h s = go (dec_lt p q) (dec_lt q p)
  where
    union : union_with 0 masks ≡ 2 ^ p - 1
    union = rule-union p masks h

    go : Dec (p < q) → Dec (q < p) → p ≡ q
    go (yes a) b =
        let all = union in
        let low = s.seen_below (omega arith) in
        let grown = pow-le-pow_right {n = 2} (omega arith) {i = p} {j = q - 1} (omega arith) in
        let some = pow_pos p in
        absurd (omega arith)
    go (no a) (yes b) =
        let all = union in
        let high = s.none_above in
        let grown = pow-le-pow_right {n = 2} (omega arith) {i = suc q} {j = p} (omega arith) in
        let twice = pow-suc 2 q in
        let some = pow_pos q in
        absurd (omega arith)
    go (no a) (no b) = omega arith
