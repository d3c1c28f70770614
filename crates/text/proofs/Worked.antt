-- Worked texts: what they are texts of, where they are refused, and how formulas print. One table, one theorem, `worked-texts`, by computation.
-- Assumes nothing.
use mathlib.Core.Path.{◌≡◌, refl}
use mathlib.Core.Bool.{true}
use mathlib.Core.List.{[], ◌∷◌}
use Prim.Native.Nat.{ℕ}
use native.Mathlib.Omega.{arith}
use Rattle.lists.specs.Tests.{pick, both}
use Rattle.kinds.specs.declared.Leaf.TheVariants.{Prop}
use Rattle.kinds.specs.declared.Unary.TheVariants.{Not, Next, Ever}
use Rattle.kinds.specs.declared.Join.TheVariants.{And, Or}
use Rattle.kinds.specs.declared.Binary.TheVariants.{Joined, Until}
use Rattle.ltl.specs.Formula.{Formula, leaf, one, two, constant}
use Rattle.text.specs.Signs.{sign_of, digit_of}
use Rattle.text.specs.Grammar.{Text}
use Rattle.text.specs.Places.{RefusedAt, feed_of, line_at}
use Rattle.text.specs.Printing.{printed}
use Rattle.text.proofs.Stops.{refused-at}
use Rattle.text.proofs.Unique.{text_of}

-- proposition i
abbrev p : ℕ → Formula
p i = leaf (Prop i)

pub record WorkedTexts : Type 0 where
  -- G(!p0|!p1Up2)
  pub workshop : Text (71 ∷ 40 ∷ 33 ∷ 112 ∷ 48 ∷ 124 ∷ 33 ∷ 112 ∷ 49 ∷ 85 ∷ 112 ∷ 50 ∷ 41 ∷ []) (one (Ever And) (two (Joined Or) (one Not (p 0)) (two Until (one Not (p 1)) (p 2))))
  -- true_uXp1&Fp2
  pub no-space : Text (116 ∷ 114 ∷ 117 ∷ 101 ∷ 85 ∷ 88 ∷ 112 ∷ 49 ∷ 38 ∷ 70 ∷ 112 ∷ 50 ∷ []) (two (Joined And) (two Until (constant true) (one Next (p 1))) (one (Ever Or) (p 2)))
  -- p1Up2&p3|p4
  pub levels : Text (112 ∷ 49 ∷ 85 ∷ 112 ∷ 50 ∷ 38 ∷ 112 ∷ 51 ∷ 124 ∷ 112 ∷ 52 ∷ []) (two (Joined Or) (two (Joined And) (two Until (p 1) (p 2)) (p 3)) (p 4))
  -- p1|p2&p3Up4
  pub levels-back : Text (112 ∷ 49 ∷ 124 ∷ 112 ∷ 50 ∷ 38 ∷ 112 ∷ 51 ∷ 85 ∷ 112 ∷ 52 ∷ []) (two (Joined Or) (p 1) (two (Joined And) (p 2) (two Until (p 3) (p 4))))
  -- p6 U p7 U p8
  pub right : Text (112 ∷ 54 ∷ 32 ∷ 85 ∷ 32 ∷ 112 ∷ 55 ∷ 32 ∷ 85 ∷ 32 ∷ 112 ∷ 56 ∷ []) (two Until (p 6) (two Until (p 7) (p 8)))
  -- (p1|p2)&p3
  pub bracket : Text (40 ∷ 112 ∷ 49 ∷ 124 ∷ 112 ∷ 50 ∷ 41 ∷ 38 ∷ 112 ∷ 51 ∷ []) (two (Joined And) (two (Joined Or) (p 1) (p 2)) (p 3))
  --  \tp0\r\n
  pub blanks : Text (32 ∷ 9 ∷ 112 ∷ 48 ∷ 13 ∷ 10 ∷ []) (p 0)
  -- ((p63))
  pub brackets : Text (40 ∷ 40 ∷ 112 ∷ 54 ∷ 51 ∷ 41 ∷ 41 ∷ []) (p 63)
  -- the empty text
  pub empty : RefusedAt [] 0
  -- p64
  pub p64 : RefusedAt (112 ∷ 54 ∷ 52 ∷ []) 2
  -- trux
  pub letter : RefusedAt (116 ∷ 114 ∷ 117 ∷ 120 ∷ []) 3
  -- tr ue
  pub parted : RefusedAt (116 ∷ 114 ∷ 32 ∷ 117 ∷ 101 ∷ []) 2
  -- p 0
  pub digit-parted : RefusedAt (112 ∷ 32 ∷ 48 ∷ []) 1
  -- p
  pub digit-missing : RefusedAt (112 ∷ []) 1
  -- p00
  pub zero-zero : RefusedAt (112 ∷ 48 ∷ 48 ∷ []) 2
  -- p07
  pub zero-seven : RefusedAt (112 ∷ 48 ∷ 55 ∷ []) 2
  -- p0)
  pub shut : RefusedAt (112 ∷ 48 ∷ 41 ∷ []) 2
  -- (p0
  pub unshut : RefusedAt (40 ∷ 112 ∷ 48 ∷ []) 3
  -- ()
  pub nothing-inside : RefusedAt (40 ∷ 41 ∷ []) 1
  -- p0p1
  pub twice : RefusedAt (112 ∷ 48 ∷ 112 ∷ 49 ∷ []) 2
  -- p0&\n
  pub open-end : RefusedAt (112 ∷ 48 ∷ 38 ∷ 10 ∷ []) 4
  -- its line: the end behind a line end is on the next one
  pub open-end-line : line_at (112 ∷ 48 ∷ 38 ∷ 10 ∷ []) 4 ≡ 2
  -- G(!p0|!p1Up2)
  pub print-workshop : printed (one (Ever And) (two (Joined Or) (one Not (p 0)) (two Until (one Not (p 1)) (p 2)))) ≡ 71 ∷ 40 ∷ 33 ∷ 112 ∷ 48 ∷ 124 ∷ 33 ∷ 112 ∷ 49 ∷ 85 ∷ 112 ∷ 50 ∷ 41 ∷ []
  -- p6Up7Up8
  pub print-right : printed (two Until (p 6) (two Until (p 7) (p 8))) ≡ 112 ∷ 54 ∷ 85 ∷ 112 ∷ 55 ∷ 85 ∷ 112 ∷ 56 ∷ []
  -- (p6Up7)Up8
  pub print-left : printed (two Until (two Until (p 6) (p 7)) (p 8)) ≡ 40 ∷ 112 ∷ 54 ∷ 85 ∷ 112 ∷ 55 ∷ 41 ∷ 85 ∷ 112 ∷ 56 ∷ []
  -- p1&(p2|p63)U!(true_up4)
  pub print-mixed : printed (two (Joined And) (p 1) (two Until (two (Joined Or) (p 2) (p 63)) (one Not (two Until (constant true) (p 4))))) ≡ 112 ∷ 49 ∷ 38 ∷ 40 ∷ 112 ∷ 50 ∷ 124 ∷ 112 ∷ 54 ∷ 51 ∷ 41 ∷ 85 ∷ 33 ∷ 40 ∷ 116 ∷ 114 ∷ 117 ∷ 101 ∷ 85 ∷ 112 ∷ 52 ∷ 41 ∷ []

pub worked-texts : WorkedTexts
unfolding sign_of digit_of pick both feed_of
worked-texts =
    record {
      workshop = text_of (71 ∷ 40 ∷ 33 ∷ 112 ∷ 48 ∷ 124 ∷ 33 ∷ 112 ∷ 49 ∷ 85 ∷ 112 ∷ 50 ∷ 41 ∷ []) (one (Ever And) (two (Joined Or) (one Not (p 0)) (two Until (one Not (p 1)) (p 2)))) refl (omega arith, (omega arith, omega arith)) refl;
      no-space = text_of (116 ∷ 114 ∷ 117 ∷ 101 ∷ 85 ∷ 88 ∷ 112 ∷ 49 ∷ 38 ∷ 70 ∷ 112 ∷ 50 ∷ []) (two (Joined And) (two Until (constant true) (one Next (p 1))) (one (Ever Or) (p 2))) refl ((tt, omega arith), omega arith) refl;
      levels = text_of (112 ∷ 49 ∷ 85 ∷ 112 ∷ 50 ∷ 38 ∷ 112 ∷ 51 ∷ 124 ∷ 112 ∷ 52 ∷ []) (two (Joined Or) (two (Joined And) (two Until (p 1) (p 2)) (p 3)) (p 4)) refl (((omega arith, omega arith), omega arith), omega arith) refl;
      levels-back = text_of (112 ∷ 49 ∷ 124 ∷ 112 ∷ 50 ∷ 38 ∷ 112 ∷ 51 ∷ 85 ∷ 112 ∷ 52 ∷ []) (two (Joined Or) (p 1) (two (Joined And) (p 2) (two Until (p 3) (p 4)))) refl (omega arith, (omega arith, (omega arith, omega arith))) refl;
      right = text_of (112 ∷ 54 ∷ 32 ∷ 85 ∷ 32 ∷ 112 ∷ 55 ∷ 32 ∷ 85 ∷ 32 ∷ 112 ∷ 56 ∷ []) (two Until (p 6) (two Until (p 7) (p 8))) refl (omega arith, (omega arith, omega arith)) refl;
      bracket = text_of (40 ∷ 112 ∷ 49 ∷ 124 ∷ 112 ∷ 50 ∷ 41 ∷ 38 ∷ 112 ∷ 51 ∷ []) (two (Joined And) (two (Joined Or) (p 1) (p 2)) (p 3)) refl ((omega arith, omega arith), omega arith) refl;
      blanks = text_of (32 ∷ 9 ∷ 112 ∷ 48 ∷ 13 ∷ 10 ∷ []) (p 0) refl (omega arith) refl;
      brackets = text_of (40 ∷ 40 ∷ 112 ∷ 54 ∷ 51 ∷ 41 ∷ 41 ∷ []) (p 63) refl (omega arith) refl;
      empty = refused-at [] refl;
      p64 = refused-at (112 ∷ 54 ∷ 52 ∷ []) refl;
      letter = refused-at (116 ∷ 114 ∷ 117 ∷ 120 ∷ []) refl;
      parted = refused-at (116 ∷ 114 ∷ 32 ∷ 117 ∷ 101 ∷ []) refl;
      digit-parted = refused-at (112 ∷ 32 ∷ 48 ∷ []) refl;
      digit-missing = refused-at (112 ∷ []) refl;
      zero-zero = refused-at (112 ∷ 48 ∷ 48 ∷ []) refl;
      zero-seven = refused-at (112 ∷ 48 ∷ 55 ∷ []) refl;
      shut = refused-at (112 ∷ 48 ∷ 41 ∷ []) refl;
      unshut = refused-at (40 ∷ 112 ∷ 48 ∷ []) refl;
      nothing-inside = refused-at (40 ∷ 41 ∷ []) refl;
      twice = refused-at (112 ∷ 48 ∷ 112 ∷ 49 ∷ []) refl;
      open-end = refused-at (112 ∷ 48 ∷ 38 ∷ 10 ∷ []) refl;
      open-end-line = refl;
      print-workshop = refl;
      print-right = refl;
      print-left = refl;
      print-mixed = refl;
    }
