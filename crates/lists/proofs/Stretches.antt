-- A list written by stretches from its front. `put_next` puts a stretch behind what is written; `tail-put` has a callee do it that
-- is lent the rest, `tail-clear` has one clear the rest; `put_first` puts a number in front and has a callee write behind it.
-- Assumes nothing.
use mathlib.Core.Path.{◌≡◌, refl, sym, ap, ap₂, ◌∙◌}
use mathlib.Core.List.{List, [], ◌∷◌, ◌++◌, append_assoc}
use Prim.Native.Nat.{ℕ, zero, suc, ◌+◌, ◌-◌, ◌<◌}
use native.Mathlib.Omega.{arith}
use lib.ListN.{length, get_or, set, take, drop, replicate}
use lib.Seq.{take_at, drop_at, drop-drop, take-add}
use Rattle.lists.specs.Runs.{tail, tail_as}
use Rattle.lists.proofs.Parts.{lent-tail, handed-tail}

-- s is A and then what t has from there; a run x of n numbers is put behind A
pub put_next : (s t A x : List ℕ) (a n : ℕ) → s ≡ A ++ drop a t → length A ≡ a → take a s ++ (x ++ drop (a + n) s) ≡ (A ++ x) ++ drop (a + n) t
put_next s t A x a n e h =
    let back : drop (a + n) s ≡ drop (a + n) t = sym (drop-drop n a s) ∙ ap (drop n) (ap (drop a) e ∙ drop_at A (drop a t) a h) ∙ drop-drop n a t in
    ap₂ (λ (u v : List ℕ). u ++ (x ++ v)) (ap (take a) e ∙ take_at A (drop a t) a h) back ∙ sym (append_assoc A x (drop (a + n) t))

-- ---- a callee is lent what is behind A
module _ (s A B : List ℕ) (a : ℕ) (e : s ≡ A ++ B) (h : length A ≡ a) where
  -- it puts a run x of n numbers in front
  pub tail-put : (x y : List ℕ) (n : ℕ) → y ≡ x ++ drop n (tail a s) → tail_as a s y ≡ (A ++ x) ++ drop n B
  tail-put x y n k =
      handed-tail s A B a e h y ∙ ap (A ++◌) (k ∙ ap (λ (u : List ℕ). x ++ drop n u) (lent-tail s A B a e h)) ∙ sym (append_assoc A x (drop n B))

  -- it clears it
  pub tail-clear : (y : List ℕ) → y ≡ replicate (length (tail a s)) 0 → tail_as a s y ≡ A ++ replicate (length B) 0
  tail-clear y k =
      handed-tail s A B a e h y ∙ ap (A ++◌) (k ∙ ap (λ (u : List ℕ). replicate {A = ℕ} (length u) 0) (lent-tail s A B a e h))

-- the same where what is behind A is that of an older list
pub put-more : (t s A x y : List ℕ) (a n : ℕ) → length A ≡ a → s ≡ A ++ drop a t → y ≡ x ++ drop n (tail a s) → tail_as a s y ≡ (A ++ x) ++ drop (a + n) t
put-more t s A x y a n h e k = tail-put s A (drop a t) a e h x y n k ∙ ap ((A ++ x) ++◌) (drop-drop n a t)

-- a number in front
pub set_first : (p : List ℕ) (v : ℕ) → 0 < length p → set p 0 v ≡ v ∷ drop 1 p
set_first [] v h = absurd (omega arith)
set_first (x ∷ p) v h = refl

-- a number in front, and x behind it
pub put_first : (p y x : List ℕ) (v n : ℕ) → 0 < length p → y ≡ x ++ drop n (tail 1 (set p 0 v)) → tail_as 1 (set p 0 v) y ≡ (v ∷ x) ++ drop (1 + n) p
put_first p y x v n h e = put-more p (set p 0 v) (v ∷ []) x y 1 n refl (set_first p v h) e

-- ---- runs of one number
pub zeros-at : (n i : ℕ) → get_or (replicate {A = ℕ} n 0) i 0 ≡ 0
zeros-at zero i = refl
zeros-at (suc n) zero = refl
zeros-at (suc n) (suc i) = zeros-at n i

pub drop-replicate : (k n a : ℕ) → drop k (replicate n a) ≡ replicate (n - k) a
drop-replicate zero n a = let e : n ≡ n - 0 = omega arith in ap (λ (m : ℕ). replicate m a) e
drop-replicate (suc k) zero a = let e : 0 ≡ 0 - suc k = omega arith in ap (λ (m : ℕ). replicate m a) e
drop-replicate (suc k) (suc n) a = let e : n - k ≡ suc n - suc k = omega arith in drop-replicate k n a ∙ ap (λ (m : ℕ). replicate m a) e

-- ---- a run taken in two parts
pub take-two : (s : List ℕ) (at n m : ℕ) → take (n + m) (drop at s) ≡ take n (drop at s) ++ take m (drop (at + n) s)
take-two s at n m = take-add n m (drop at s) ∙ ap (λ (u : List ℕ). take n (drop at s) ++ take m u) (drop-drop n at s)

-- ---- none
pub none-long : (l : List ℕ) → length l ≡ 0 → l ≡ []
none-long [] e = refl
none-long (x ∷ l) e = absurd (omega arith)
