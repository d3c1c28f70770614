-- Numbers put one behind the other, from a place of a list on: `number_put`. Assumes nothing.
use mathlib.Core.Path.{◌≡◌, sym, ap, ◌∙◌}
use mathlib.Core.List.{List, ◌++◌, append_assoc}
use Prim.Native.Nat.{ℕ, ◌+◌, ◌≤◌}
use native.Mathlib.Omega.{arith}
use lib.ListN.{length, take, drop, length-append}
use lib.Seq.{length-take-le}
use Rattle.lists.proofs.Stretches.{put_next}
use Rattle.le.specs.Le.{le}

-- a number more behind what stands: the bytes A from `at` on, then those of v
pub number_put : (s t A : List ℕ) (at k w v : ℕ) {u : List ℕ} → length A ≡ k → at ≤ length t → s ≡ take at t ++ (A ++ drop (at + k) t)
    → u ≡ take (at + k) s ++ (le w v ++ drop (at + k + w) s) → u ≡ take at t ++ ((A ++ le w v) ++ drop (at + (k + w)) t)
number_put s t A at k w v h l e p =
    let front : s ≡ (take at t ++ A) ++ drop (at + k) t = e ∙ sym (append_assoc (take at t) A (drop (at + k) t)) in
    let long : length (take at t ++ A) ≡ at + k = length-append (take at t) A ∙ (let n = length-take-le at t l in omega arith) in
    let same : at + k + w ≡ at + (k + w) = omega arith in
    p ∙ put_next s t (take at t ++ A) (le w v) (at + k) w front long
    ∙ ap (λ (j : ℕ). ((take at t ++ A) ++ le w v) ++ drop j t) same
    ∙ append_assoc (take at t ++ A) (le w v) (drop (at + (k + w)) t)
    ∙ append_assoc (take at t) A (le w v ++ drop (at + (k + w)) t)
    ∙ ap (take at t ++◌) (sym (append_assoc A (le w v) (drop (at + (k + w)) t)))
