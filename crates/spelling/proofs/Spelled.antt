-- The bytes of a text, by the tests that the code makes: a dash, and one byte more of a list that is read. Assumes nothing.
use mathlib.Core.Path.{◌≡◌}
use mathlib.Core.List.{List, [], ◌∷◌}
use Rattle.std.proofs.Common.{Bool, true, false, ◌&&◌, refl}
use lib.Pointwise.{pointwise}
use lib.Dec.{eqb}
use Prim.Native.Nat.{ℕ, ◌+◌, ◌*◌, ◌<◌, ◌≤◌}
use native.Mathlib.Omega.{arith}
use lib.ListN.{length}
use borrow.Author.Tests.{ne_eqb, lt-ltb, le-leb}
use Rattle.lists.specs.Tests.{pick, both}
use Rattle.spelling.specs.declared.typed.NameStage.TheVariants.{Second, Full}
use Rattle.spelling.specs.Reading.{is_dash, digit_of, list_read, at_first, second_digit}

-- ---- a dash
-- the comparison of the bytes
pub dash_same : (t : List ℕ) → pointwise eqb t (45 ∷ []) ≡ is_dash t
unfolding is_dash both
dash_same [] = refl
dash_same (c ∷ []) = go (eqb c 45)
  where
    go : (b : Bool) → b && true ≡ b
    go true = refl
    go false = refl
dash_same (c ∷ d ∷ t) = rw (ne_eqb (length (c ∷ d ∷ t)) 1 (λ e. omega arith)) (go (eqb c 45))
  where
    go : (b : Bool) → b && false ≡ false
    go true = refl
    go false = refl

-- ---- one byte, by the tests that the code makes
module _ (c d m : ℕ) (is : d ≡ digit_of c) where
  pub first-is : d < 10 → list_read (Second d) m ≡ at_first c m
  unfolding pick
  first-is h = rw (← is, lt-ltb d 10 h)

  pub second_is : (n : ℕ) → 1 ≤ n → n ≤ 9 → d < 10 → Full (10 * n + d) ≡ second_digit c n
  unfolding pick both
  second_is n l k h = rw (← is, lt-ltb d 10 h, le-leb 1 n l, le-leb n 9 k)
