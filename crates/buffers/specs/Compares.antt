-- What a comparison of two runs of one list answers: `Compares` is the promise of `same`. Assumes nothing: this is a definition.
use Rattle.std.specs.Prelude.{ℕ, ◌≡◌, Bool, true, false, List, take, drop}

-- r says whether the same n numbers stand in p at a and at b
pub record Compares (p : List ℕ) (a b n : ℕ) (r : Bool) : Type 0 where
  pub alike : r ≡ true → take n (drop a p) ≡ take n (drop b p)
  pub differ : r ≡ false → take n (drop a p) ≡ take n (drop b p) → ⊥
