-- The average of some ticks. The tenths of a sum are ten times its whole ticks and those of the rest (`tenths-split`). So the code's whole
-- ticks and tenths are those of the definition (`whole_is`, `tenths-is`). They fit 64 bits (`whole-fits`): of one tick there is no rest,
-- and of more the whole ticks are at most half of the sum, and the rest at most one. Assumes nothing.
use mathlib.Core.Path.{◌≡◌, sym, ap, ◌∙◌}
use Prim.Native.Nat.{ℕ, ◌+◌, ◌*◌, ◌/◌, ◌%◌, ◌^◌, ◌<◌}
use native.Mathlib.Nat.{mod-lt, div-add-mod, mul-add-div, mul-add-mod_self_left, div-lt_iff_lt-mul, div-le_self, mod-one, mul-le-mul_right}
use native.Mathlib.Decide.{dec_lt}
use native.Mathlib.Omega.{arith}
use Rattle.tables.specs.Average.{tenths_of}

module _ (sum n : ℕ) (some : 0 < n) where
  tenths-split : tenths_of sum n ≡ 10 * (sum / n) + tenths_of (sum % n) n
  unfolding tenths_of
  tenths-split =
      let whole = div-add-mod sum n in
      let apart : 20 * sum + n ≡ (2 * n) * (10 * (sum / n)) + (20 * (sum % n) + n) = omega arith in
      ap (λ (k : ℕ). k / (2 * n)) apart ∙ mul-add-div {m = 2 * n} (omega arith) (10 * (sum / n)) (20 * (sum % n) + n)

  rest-few : tenths_of (sum % n) n < 11
  unfolding tenths_of
  rest-few = let l = mod-lt sum some in (div-lt_iff_lt-mul {k = 2 * n} {x = 20 * (sum % n) + n} {y = 11} (omega arith)).1 (omega arith)

  rest-one : n ≡ 1 → tenths_of (sum % n) n ≡ 0
  unfolding tenths_of
  rest-one e = let none = mod-one sum in rw (e, none)

  module _ (rest : ℕ) (is : rest ≡ tenths_of (sum % n) n) where
    pub whole_is : sum / n + rest / 10 ≡ tenths_of sum n / 10
    whole_is = sym (ap (λ (k : ℕ). k / 10) (tenths-split ∙ ap (λ (k : ℕ). 10 * (sum / n) + k) (sym is)) ∙ mul-add-div {m = 10} (omega arith) (sum / n) rest)

    pub tenths-is : rest % 10 ≡ tenths_of sum n % 10
    tenths-is = sym (ap (λ (k : ℕ). k % 10) (tenths-split ∙ ap (λ (k : ℕ). 10 * (sum / n) + k) (sym is)) ∙ mul-add-mod_self_left 10 (sum / n) rest)

    pub whole-fits : sum < 2 ^ 64 → sum / n + rest / 10 < 2 ^ 64
    whole-fits h =
        let whole = div-add-mod sum n in
        let few = rest-few in
        elim (dec_lt 1 n) [
          | yes l ↦ let half = mul-le-mul_right {m = 2} {n = n} (sum / n) (omega arith) in omega arith
          | no l ↦ let none = rest-one (omega arith) in let least = div-le_self sum n in omega arith
        ]
