-- The values of a function as a list: how many, each of them, that equal values are an equal list, and those below m and then n more, or one more.
-- Assumes nothing.
use mathlib.Core.Path.{◌≡◌, refl, sym, ap, ap₂, ◌∙◌}
use mathlib.Core.List.{List, [], ◌∷◌, ◌++◌}
use Prim.Native.Nat.{ℕ, zero, suc, ◌+◌, ◌<◌}
use native.Mathlib.Nat.{zero-add, suc-add}
use native.Mathlib.Omega.{arith}
use lib.ListN.{length, get_or, take}
use lib.Seq.{take_at}
use Rattle.lists.specs.Listed.{listed}

pub listed-length : {A : Type 0} (f : ℕ → A) (n : ℕ) → length (listed f n) ≡ n
unfolding listed
listed-length f zero = refl
listed-length f (suc n) = ap suc (listed-length (λ k. f (suc k)) n)

pub listed_at : {A : Type 0} (d : A) (f : ℕ → A) (n k : ℕ) → k < n → get_or (listed f n) k d ≡ f k
unfolding listed
listed_at d f zero k l = absurd (omega arith)
listed_at d f (suc n) zero l = refl
listed_at d f (suc n) (suc k) l = listed_at d (λ k. f (suc k)) n k (omega arith)

pub listed_same : {A : Type 0} (f g : ℕ → A) (n : ℕ) → ((k : ℕ) → k < n → f k ≡ g k) → listed f n ≡ listed g n
unfolding listed
listed_same f g zero h = refl
listed_same f g (suc n) h = ap₂ ◌∷◌ (h 0 (omega arith)) (listed_same (λ k. f (suc k)) (λ k. g (suc k)) n (λ k l. h (suc k) (omega arith)))

-- in front of another list
pub listed-front : {A : Type 0} (f : ℕ → A) (n : ℕ) (rest : List A) → take n (listed f n ++ rest) ≡ listed f n
listed-front f n rest = take_at (listed f n) rest n (listed-length f n)

-- in two parts
pub listed-both : {A : Type 0} (f : ℕ → A) (m n : ℕ) → listed f (m + n) ≡ listed f m ++ listed (λ k. f (m + k)) n
unfolding listed
listed-both f zero n = ap (listed f) (zero-add n) ∙ listed_same f (λ k. f (0 + k)) n (λ k l. ap f (sym (zero-add k)))
listed-both f (suc m) n =
    ap (listed f) (suc-add m n)
    ∙ ap (f 0 ∷◌) (listed-both (λ k. f (suc k)) m n ∙ ap (listed (λ k. f (suc k)) m ++◌) (listed_same _ _ n (λ k l. ap f (sym (suc-add m k)))))

-- one more
pub listed_more : {A : Type 0} (f : ℕ → A) (n : ℕ) → listed f (suc n) ≡ listed f n ++ (f n ∷ [])
unfolding listed
listed_more f zero = refl
listed_more f (suc n) = ap (f 0 ∷◌) (listed_more (λ k. f (suc k)) n)
