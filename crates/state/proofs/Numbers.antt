-- A number at the front of some bytes (`field`), or behind another one (`skip`), and zeros at the front (`zero-byte`, `zero-bytes`).
-- Assumes nothing.
use mathlib.Core.Path.{◌≡◌, refl, sym, ap, ◌∙◌}
use mathlib.Core.List.{List, [], ◌++◌}
use Prim.Native.Nat.{ℕ, zero, suc, ◌+◌, ◌^◌, ◌<◌, ◌≤◌}
use native.Mathlib.Nat.{mod-eq_of_lt}
use native.Mathlib.Omega.{arith}
use lib.ListN.{get_or, replicate}
use Rattle.le.specs.Le.{le, le_at}
use Rattle.le.proofs.Laws.{le-length, le_at-behind, le_at-le}

-- a field behind other bytes
pub skip : (m v : ℕ) (x : List ℕ) (at n : ℕ) → le_at (le m v ++ x) (m + at) n ≡ le_at x at n
skip m v x at n = ap (λ (i : ℕ). le_at (le m v ++ x) (i + at) n) (sym (le-length m v)) ∙ le_at-behind (le m v) x at n

pub field : (n v : ℕ) (x : List ℕ) → v < 256 ^ n → le_at (le n v ++ x) 0 n ≡ v
field n v x h = le_at-le [] x 0 n v refl ∙ mod-eq_of_lt h

-- zeros
pub zero-byte : (i n : ℕ) (x : List ℕ) → i < n → get_or (replicate n 0 ++ x) i 0 ≡ 0
zero-byte i zero x l = absurd (omega arith)
zero-byte zero (suc n) x l = refl
zero-byte (suc i) (suc n) x l = zero-byte i n x (omega arith)

zeros-from : (w at n : ℕ) (x : List ℕ) → at + w ≤ n → le_at (replicate n 0 ++ x) at w ≡ 0
unfolding le_at
zeros-from zero at n x l = refl
zeros-from (suc w) at n x l = omega (arith, zero-byte at n x (omega arith), zeros-from w (at + 1) n x (omega arith))

pub zero-bytes : (w n : ℕ) (x : List ℕ) → w ≤ n → le_at (replicate n 0 ++ x) 0 w ≡ 0
zero-bytes w n x l = zeros-from w 0 n x (omega arith)
