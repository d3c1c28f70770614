-- What waits while a formula is shown, closing brackets and infix signs, and the text that comes of it. Assumes nothing: these are
-- definitions.
use Rattle.std.specs.Prelude.{◌≡◌, Bool, false, List, [], ◌∷◌, ℕ, suc, eqb}
use Rattle.lists.specs.Tests.{pick}
use Rattle.kinds.specs.declared.Join.TheVariants.{And, Or}
use Rattle.kinds.specs.declared.Binary.{Binary}
use Rattle.kinds.specs.declared.Binary.TheVariants.{Joined, Until}
use Rattle.ltl.specs.Formula.{Formula}
use Rattle.text.specs.Signs.{level}
use Rattle.text.specs.Printing.{binary_sign, close_sign, shown}

-- a closing bracket, or an infix sign with the operand behind it
pub data Due : Type 0 where
  close : Due
  sign : Binary → Due

-- the byte that stands for it: of a sign the level of the text behind it
abbrev pub due_code : Due → ℕ
due_code close = 0
due_code (sign o) = suc (level o)

-- the sign before a text of this level
unfoldable pub sign_before : ℕ → ℕ
sign_before k = pick (eqb k 1) (binary_sign Until) (pick (eqb k 2) (binary_sign (Joined And)) (binary_sign (Joined Or)))

-- a closing bracket waits first
abbrev pub closes_first : List ℕ → Bool
closes_first [] = false
closes_first (x ∷ l) = eqb x 0

-- a formula has ended: what waits, the latest first, and the formulas that follow come to the text bs
pub data Trailing : List Due → List Formula → List ℕ → Type 0 where
  nothing : Trailing [] [] []
  closed : {ds : List Due} {gs : List Formula} {b bs : List ℕ} → Trailing ds gs b → bs ≡ close_sign ∷ b → Trailing (close ∷ ds) gs bs
  infixed : {o : Binary} {ds : List Due} {g : Formula} {gs : List Formula} {b bs : List ℕ} → Trailing ds gs b
      → bs ≡ binary_sign o ∷ shown g (suc (level o)) b → Trailing (sign o ∷ ds) (g ∷ gs) bs

-- a formula is to begin, at a place that takes texts of level k, or all have ended
pub data Coming : ℕ → List Due → List Formula → List ℕ → Type 0 where
  done : {k : ℕ} → Coming k [] [] []
  next : {k : ℕ} {ds : List Due} {g : Formula} {gs : List Formula} {b bs : List ℕ} → Trailing ds gs b → bs ≡ shown g k b → Coming k ds (g ∷ gs) bs
