-- A part of a list lent on and handed back: `lent` says what the part is, `handed` what the whole is with another run in the
-- part's place. `tail` is the part from a place to the end; `handed-length`, `handed-back`, `handed-front` say what the whole is when it
-- was lent and handed back. Assumes nothing.
use mathlib.Core.Path.{◌≡◌, sym, ap, ap₂, ◌∙◌}
use mathlib.Core.List.{List, ◌++◌, append-nil}
use Prim.Native.Nat.{ℕ, ◌-◌, ◌<◌, ◌≤◌}
use native.Mathlib.Omega.{arith}
use lib.ListN.{length, get_or, take, drop, length-append, length-drop, take-append-drop, drop_of_length-le, get_or-append}
use lib.Seq.{take_at, drop_at, take_all, get_or-take, length-take-le}
use Rattle.lists.specs.Runs.{tail, tail_as}

pub tail-is : (a : ℕ) (s : List ℕ) → tail a s ≡ drop a s
tail-is a s = take_all (length s - a) (drop a s) (omega (arith, length-drop a s))

pub tail-length : (a : ℕ) (s : List ℕ) → length (tail a s) ≡ length s - a
tail-length a s = ap length (tail-is a s) ∙ length-drop a s

module _ (s A B C : List ℕ) (a k : ℕ) (e : s ≡ A ++ (B ++ C)) (p : length A ≡ a) (q : length B ≡ k) where
  behind : drop a s ≡ B ++ C
  behind = ap (drop a) e ∙ drop_at A (B ++ C) a p

  pub lent : take k (drop a s) ≡ B
  lent = ap (take k) behind ∙ take_at B C k q

  pub handed : (T : List ℕ) → take a s ++ (T ++ drop k (drop a s)) ≡ A ++ (T ++ C)
  handed T = ap₂ (λ (x y : List ℕ). x ++ (T ++ y)) (ap (take a) e ∙ take_at A (B ++ C) a p) (ap (drop k) behind ∙ drop_at B C k q)

-- the same with a part that runs to the end
module _ (s A B : List ℕ) (a : ℕ) (e : s ≡ A ++ B) (p : length A ≡ a) where
  pub lent-tail : tail a s ≡ B
  lent-tail = tail-is a s ∙ ap (drop a) e ∙ drop_at A B a p

  pub handed-tail : (T : List ℕ) → tail_as a s T ≡ A ++ T
  handed-tail T =
      let h = drop_of_length-le (drop a s) {i = length s - a} (omega (arith, length-drop a s)) in
      ap₂ (λ (x y : List ℕ). x ++ (T ++ y)) (ap (take a) e ∙ take_at A B a p) h ∙ ap (A ++◌) (append-nil T)

-- a part that runs to the end, lent from whatever list
module _ (a : ℕ) (s T : List ℕ) (l : a ≤ length s) where
  handed-is : tail_as a s T ≡ take a s ++ T
  handed-is = handed-tail s (take a s) (drop a s) a (sym (take-append-drop a s)) (length-take-le a s l) T

  pub handed-length : length T ≡ length (tail a s) → length (tail_as a s T) ≡ length s
  handed-length e = ap length handed-is ∙ length-append (take a s) T ∙ (let t = tail-length a s in let u = length-take-le a s l in omega arith)

  pub handed-back : drop a (tail_as a s T) ≡ T
  handed-back = ap (drop a) handed-is ∙ drop_at (take a s) T a (length-take-le a s l)

  pub handed-front : (i : ℕ) → i < a → get_or (tail_as a s T) i 0 ≡ get_or s i 0
  handed-front i k =
      ap (λ (x : List ℕ). get_or x i 0) handed-is
      ∙ get_or-append (take a s) T 0 i (let e = length-take-le a s l in omega arith)
      ∙ get_or-take a s i 0 k
