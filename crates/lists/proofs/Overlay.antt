-- A list that is overwritten from the front, a number at a time: `overlaid i xs p` is p with the first i numbers of xs in front.
-- Every loop that writes has this as its invariant. Assumes nothing.
use mathlib.Core.Path.{◌≡◌, sym, ap, ◌∙◌}
use mathlib.Core.List.{List, [], ◌∷◌, ◌++◌, append_assoc, append-nil}
use Prim.Native.Nat.{ℕ, suc, ◌+◌, ◌<◌}
use native.Mathlib.Omega.{arith}
use native.Mathlib.Numerals.{add-one}
use lib.ListN.{length, get_or, set, take, drop, drop_of_length-le}
use lib.Seq.{take-suc, drop-cons, set_at, length-take-le, take-length}

abbrev pub overlaid : ℕ → List ℕ → List ℕ → List ℕ
overlaid i xs p = take i xs ++ drop i p

module _ (xs p : List ℕ) (i : ℕ) where
  -- one more
  pub overlaid-more : i < length xs → i < length p → set (overlaid i xs p) i (get_or xs i 0) ≡ overlaid (i + 1) xs p
  overlaid-more h k =
      rw (add-one, drop-cons p i 0 k, set_at (take i xs) (get_or p i 0) (drop (suc i) p) (get_or xs i 0) i (length-take-le i xs (omega arith)), take-suc xs i 0 h)
      (sym (append_assoc (take i xs) (get_or xs i 0 ∷ []) (drop (suc i) p)))

-- all of it
pub overlaid-all : (xs p : List ℕ) → overlaid (length xs) xs p ≡ xs ++ drop (length xs) p
overlaid-all xs p = ap (◌++ drop (length xs) p) (take-length xs)

pub overlaid-whole : (xs p : List ℕ) → length xs ≡ length p → overlaid (length xs) xs p ≡ xs
overlaid-whole xs p e =
    overlaid-all xs p ∙ ap (λ (l : List ℕ). xs ++ l) (drop_of_length-le p {i = length xs} (omega arith)) ∙ append-nil xs
