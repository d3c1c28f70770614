-- The signs of a text, one byte each, and how tightly they bind. No other definition names a byte of a text, but the print.
-- Assumes nothing: these are definitions.
use Rattle.std.specs.Prelude.{Bool, true, false, List, [], ◌∷◌, ℕ, ◌-◌, leb, eqb}
use Rattle.lists.specs.Tests.{pick, both}
use Rattle.kinds.specs.declared.Unary.TheVariants.{Not, Next, Ever}
use Rattle.kinds.specs.declared.Join.TheVariants.{And, Or}
use Rattle.kinds.specs.declared.Binary.{Binary}
use Rattle.kinds.specs.declared.Binary.TheVariants.{Joined, Until}
use Rattle.text.specs.declared.Sign.{Sign}
use Rattle.text.specs.declared.Sign.TheVariants.{Blank, Prefix, Infix, Open, Close, Word, Letter, Digit, Other}

-- 0 to 9
unfoldable pub digit_of : ℕ → Sign
digit_of b = pick (both (leb 48 b) (leb b 57)) (Digit (b - 48)) Other

-- space, tab, line feed, carriage return; ! X F G; U & |; ( ); t f; p; digits
unfoldable pub sign_of : ℕ → Sign
sign_of b =
    pick (eqb b 32) Blank (pick (eqb b 9) Blank (pick (eqb b 10) Blank (pick (eqb b 13) Blank
    (pick (eqb b 33) (Prefix Not) (pick (eqb b 88) (Prefix Next) (pick (eqb b 70) (Prefix (Ever Or)) (pick (eqb b 71) (Prefix (Ever And))
    (pick (eqb b 85) (Infix Until) (pick (eqb b 38) (Infix (Joined And)) (pick (eqb b 124) (Infix (Joined Or))
    (pick (eqb b 40) Open (pick (eqb b 41) Close
    (pick (eqb b 116) (Word true) (pick (eqb b 102) (Word false) (pick (eqb b 112) Letter
    (digit_of b))))))))))))))))

-- what follows the first letter of a constant: rue, alse
abbrev pub spelling : Bool → List ℕ
spelling true = 114 ∷ 117 ∷ 101 ∷ []
spelling false = 97 ∷ 108 ∷ 115 ∷ 101 ∷ []

-- how tightly an infix sign binds, the tightest first: it joins a text of its level to one of the next level
abbrev pub level : Binary → ℕ
level Until = 0
level (Joined And) = 1
level (Joined Or) = 2

-- the level of a whole text, looser than every infix sign
abbrev pub loosest : ℕ
loosest = 3
