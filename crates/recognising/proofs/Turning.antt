-- One turn of the check where an operand is wanted: a gap, a sign, and what the token says. What each token makes of the check is a function
-- of the token, and one law says that it is a turn (`want_turn`). Where an operand has ended the search finds the turn by itself. Assumes nothing.
use mathlib.Core.Path.{◌≡◌, ◌∙◌, subst}
use mathlib.Core.List.{List}
use Prim.Native.Nat.{ℕ, ◌+◌, ◌≤◌}
use native.Mathlib.Omega.{arith}
use native.Mathlib.Numerals.{add-one}
use Rattle.text.specs.Machine.{Mode, want}
use Rattle.cursor.specs.declared.TextCursor.{TextCursor}
use Rattle.cursor.specs.declared.Token.{Token}
use Rattle.cursor.specs.declared.Token.TheVariants.{Space, Operator, Bracket, Operand, Finished, Wrong}
use Rattle.cursor.specs.declared.TextStep.{TextStep}
use Rattle.cursor.specs.Positions.{Moves}
use Rattle.cursor.specs.Readers.{OperandIs}
use Rattle.cursor.proofs.Moving.{moves-on, moves-ends}
use Rattle.lending.specs.Following.{OperandFollows}
use Rattle.recognising.specs.declared.CheckStage.{CheckStage}
use Rattle.recognising.specs.declared.CheckStage.TheVariants.{Wanted, Ended, Accepted, Refused}
use Rattle.recognising.specs.declared.TextCheck.{TextCheck}
use Rattle.recognising.specs.Recognises.{StageIs, CheckTurn}

-- a gap in front
stage-on : (t : List ℕ) (i j y d : ℕ) (n : CheckStage) (s u : Mode) → i ≤ j → Moves t i s j u → StageIs t j u y d n → StageIs t i s y d n
stage-on t i j y d Wanted s u h m (p, q) = (moves-on m p, omega arith)
stage-on t i j y d Ended s u h m (p, q) = (moves-on m p, omega arith)
stage-on t i j y d Accepted s u h m p = m.same ∙ p
stage-on t i j y d Refused s u h m p = moves-ends m p

abbrev check_at : TextCursor → ℕ → CheckStage → TextCheck
check_at c d n = record { at = c; depth = d; stage = n }

-- the check behind each token
abbrev want_check : Token → TextCursor → ℕ → TextCheck
want_check Space c d = check_at c d Wanted
want_check Operator c d = check_at c d Wanted
want_check Bracket c d = check_at c (d + 1) Wanted
want_check Operand c d = check_at c d Ended
want_check Finished c d = check_at c d Refused
want_check Wrong c d = check_at c d Refused

-- behind a gap, whatever sign was read
pub want_turn : {t : List ℕ} {c : TextCursor} {r : TextStep} {x : TextCheck} {d : ℕ} (k : Token) → d ≤ c.byte → OperandFollows t c r → r.seen ≡ k
    → x ≡ want_check k r.at d → CheckTurn t (check_at c d Wanted) x
want_turn {t} {c} {r} {x} {d} k few o q e = rw e (go k q (subst (λ (z : Token). OperandIs t o.mid.byte d z r.at.byte) q (o.sign.is d)))
  where
    turned : (e : ℕ) (n : CheckStage) → e ≤ r.at.byte → StageIs t o.mid.byte (want d) r.at.byte e n → CheckTurn t (check_at c d Wanted) (check_at r.at e n)
    turned e n l m =
        let a = o.gap.after in
        let b = o.sign.after in
        record {
          stands = o.sign.stands;
          depth = l;
          after = omega arith;
          is = stage-on t c.byte o.mid.byte r.at.byte e n (want d) (want d) a (o.gap.wants d) m;
        }

    go : (k : Token) → r.seen ≡ k → OperandIs t o.mid.byte d k r.at.byte → CheckTurn t (check_at c d Wanted) (want_check k r.at d)
    go Space q m = let a = o.gap.after in let l = o.sign.on (λ z. cc) in turned d Wanted (omega arith) (m, l)
    go Operator q m = let a = o.gap.after in let l = o.sign.on (λ z. cc) in turned d Wanted (omega arith) (m, l)
    go Bracket q m = let a = o.gap.after in let l = o.sign.on (λ z. cc) in turned (d + 1) Wanted (omega arith) (rw (add-one d) m, l)
    go Operand q m = let a = o.gap.after in let l = o.sign.on (λ z. cc) in turned d Ended (omega arith) (m, l)
    go Finished q m = absurd m
    go Wrong q m = let a = o.gap.after in let b = o.sign.after in turned d Refused (omega arith) m
