-- A list with a run of n numbers put in from a place on: what stands before it, in it and behind it. Assumes nothing.
use mathlib.Core.Path.{◌≡◌, sym, ap, ◌∙◌}
use mathlib.Core.List.{List, ◌++◌}
use Prim.Native.Nat.{ℕ, ◌+◌, ◌-◌, ◌<◌, ◌≤◌}
use native.Mathlib.Omega.{arith}
use lib.ListN.{length, get_or, take, drop, get_or-append}
use lib.Seq.{drop_at, take-take, take-append-le, get_or-append-add, get_or-take, get_or-drop, length-take-le}

-- x, of n numbers, put into p from a on
pub record Spliced (p p' x : List ℕ) (a n : ℕ) : Type 0 where
  pub is : p' ≡ take a p ++ (x ++ drop (a + n) p)
  pub long : length x ≡ n
  pub fits : a + n ≤ length p

module _ {p p' x : List ℕ} {a n : ℕ} (s : Spliced p p' x a n) where
  front_long : length (take a p) ≡ a
  front_long = let h = s.fits in length-take-le a p (omega arith)

  pub splice-drop : drop a p' ≡ x ++ drop (a + n) p
  splice-drop = ap (drop a) s.is ∙ drop_at (take a p) (x ++ drop (a + n) p) a front_long

  pub splice-take : (v : ℕ) → v ≤ a → take v p' ≡ take v p
  splice-take v k =
      let f = front_long in
      ap (take v) s.is ∙ take-append-le v (take a p) (x ++ drop (a + n) p) (omega arith) ∙ take-take v a p k

  splice_at : (k : ℕ) → get_or p' (a + k) 0 ≡ get_or (x ++ drop (a + n) p) k 0
  splice_at k =
      ap (λ (q : List ℕ). get_or q (a + k) 0) s.is
      ∙ ap (λ (i : ℕ). get_or (take a p ++ (x ++ drop (a + n) p)) (i + k) 0) (sym front_long)
      ∙ get_or-append-add (take a p) (x ++ drop (a + n) p) k 0

  pub splice-in : (k : ℕ) → k < n → get_or p' (a + k) 0 ≡ get_or x k 0
  splice-in k i = let l = s.long in splice_at k ∙ get_or-append x (drop (a + n) p) 0 k (omega arith)

  pub splice_front : (q : ℕ) → q < a → get_or p' q 0 ≡ get_or p q 0
  splice_front q i =
      let f = front_long in
      ap (λ (k : List ℕ). get_or k q 0) s.is ∙ get_or-append (take a p) (x ++ drop (a + n) p) 0 q (omega arith) ∙ get_or-take a p q 0 i

  pub splice-behind : (q : ℕ) → a + n ≤ q → get_or p' q 0 ≡ get_or p q 0
  splice-behind q i =
      let k = q - (a + n) in
      let u : q ≡ a + (n + k) = omega arith in
      let t : a + (n + k) ≡ (a + n) + k = omega arith in
      ap (λ (j : ℕ). get_or p' j 0) u ∙ splice_at (n + k) ∙ ap (λ (j : ℕ). get_or (x ++ drop (a + n) p) (j + k) 0) (sym s.long)
      ∙ get_or-append-add x (drop (a + n) p) k 0 ∙ get_or-drop (a + n) p k 0 ∙ ap (λ (j : ℕ). get_or p j 0) (sym (u ∙ t))
