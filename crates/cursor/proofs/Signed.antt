-- Readers of one sign: what is read by the kind of sign, where an operand is wanted and where one has ended. Assumes nothing.
use mathlib.Core.Path.{◌≡◌, refl, sym, ap, ◌∙◌, subst}
use mathlib.Core.Bool.{true}
use mathlib.Core.List.{List}
use Prim.Native.Nat.{ℕ, zero, suc, ◌-◌}
use lib.ListN.{get_or}
use native.Mathlib.Omega.{arith}
use Rattle.text.specs.declared.Sign.{Sign}
use Rattle.text.specs.Machine.{Mode, want, got, dead, closing, wanted, follows, step, alive}
use Rattle.cursor.specs.declared.TextCursor.{TextCursor}
use Rattle.cursor.specs.declared.Token.{Token}
use Rattle.cursor.specs.declared.Token.TheVariants.{Space, Operator, Bracket, Operand, Finished, Wrong}
use Rattle.cursor.specs.declared.TextStep.{TextStep}
use Rattle.cursor.specs.Positions.{Sees, Behind, Moves}
use Rattle.cursor.specs.Readers.{WordIs, WordRead, OperandIs, OperandRead, OperatorIs, OperatorRead}
use Rattle.cursor.proofs.Moving.{moves-on, moves-ends, moves-past, ends-here}

-- ---- a closing bracket, by the brackets that are open
pub closing-zero : (d : ℕ) → d ≡ 0 → closing d ≡ dead
closing-zero zero h = refl
closing-zero (suc d) h = absurd (omega arith)

pub closing-some : (d : ℕ) → (d ≡ 0 → ⊥) → closing d ≡ got (d - 1)
closing-some zero h = absurd (h refl)
closing-some (suc d) h = let e : suc d - 1 ≡ d = omega arith in rw e

-- ---- at a byte that is the sign s
module _ {t : List ℕ} {c : TextCursor} {k s : Sign} (sees : Sees t c k) (told : k ≡ s) where
  wants-it : (d : ℕ) → step (want d) (get_or t c.byte 0) ≡ wanted s d
  wants-it d = ap (λ (z : Sign). wanted z d) (sym sees.is ∙ told)

  follows-it : (d : ℕ) → step (got d) (get_or t c.byte 0) ≡ follows s d
  follows-it d = ap (λ (z : Sign). follows z d) (sym sees.is ∙ told)

  pub operand-dead : {r : TextStep} → ((d : ℕ) → wanted s d ≡ dead) → r ≡ record { at = c; seen = Wrong } → OperandRead t c r
  operand-dead f e =
      rw e (record {
        stands = sees.stands;
        after = omega arith;
        on = λ q. absurd (q refl);
        is = λ d. ends-here t c.byte (want d) sees.there (wants-it d ∙ f d);
      })

  pub operator-dead : {r : TextStep} (d : ℕ) → follows s d ≡ dead → r ≡ record { at = c; seen = Wrong } → OperatorRead t c d r
  operator-dead d f e =
      rw e (record {
        stands = sees.stands;
        after = omega arith;
        on = λ q p. absurd (q refl);
        is = ends-here t c.byte (got d) sees.there (follows-it d ∙ f);
      })

  -- the sign was passed: what it makes of the machine is what the token says
  module _ {r : TextStep} (seen : Token) (behind : Behind t c r.at × (r.seen ≡ seen)) where
    pub operand-sign : ((d : ℕ) → alive (wanted s d) ≡ true) → ((d : ℕ) → Moves t c.byte (want d) r.at.byte (wanted s d) → OperandIs t c.byte d seen r.at.byte)
        → OperandRead t c r
    operand-sign a f =
        let n = behind.0.next in
        record {
          stands = behind.0.stands;
          after = omega arith;
          on = λ q. omega arith;
          is = λ d. subst (λ (z : Token). OperandIs t c.byte d z r.at.byte) (sym behind.1)
              (f d (moves-past t c r.at (want d) (wanted s d) behind.0 sees.there (wants-it d) (a d)));
        }

    pub operator-sign : (d : ℕ) (u : Mode) → follows s d ≡ u → alive u ≡ true → (Moves t c.byte (got d) r.at.byte u → OperatorIs t c.byte d seen r.at.byte)
        → OperatorRead t c d r
    operator-sign d u e a f =
        let n = behind.0.next in
        record {
          stands = behind.0.stands;
          after = omega arith;
          on = λ q p. omega arith;
          is = subst (λ (z : Token). OperatorIs t c.byte d z r.at.byte) (sym behind.1)
              (f (moves-past t c r.at (got d) u behind.0 sees.there (follows-it d ∙ e) a));
        }

  module _ {x : TextCursor} (behind : Behind t c x) where
    -- the first letter was passed, and then the rest of the word was read
    pub operand-word : (u : ℕ → Mode) {r : TextStep} → ((d : ℕ) → wanted s d ≡ u d) → ((d : ℕ) → alive (u d) ≡ true) → WordRead t x u r → OperandRead t c r
    operand-word u {r = r} e a w =
        let b = w.after in
        let n = behind.next in
        record { stands = w.stands; after = omega arith; on = λ q. omega arith; is = λ d. go d r.seen (w.is d) }
      where
        first : (d : ℕ) → Moves t c.byte (want d) x.byte (u d)
        first d = moves-past t c x (want d) (u d) behind sees.there (wants-it d ∙ e d) (a d)

        go : (d : ℕ) (k : Token) → WordIs t x.byte (u d) (got d) k r.at.byte → OperandIs t c.byte d k r.at.byte
        go d Space w = absurd w
        go d Operator w = absurd w
        go d Bracket w = absurd w
        go d Operand w = moves-on (first d) w
        go d Finished w = w
        go d Wrong w = moves-ends (first d) w
