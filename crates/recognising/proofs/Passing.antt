-- The loop of the check: how the machine has come to the position (`PassedTo`), one turn more, and the end. Assumes nothing.
use Rattle.std.specs.Prelude.{Ok, Err}
use mathlib.Core.Path.{◌≡◌, ◌∙◌, subst}
use mathlib.Core.Bool.{true}
use mathlib.Core.List.{List}
use Prim.Native.Nat.{ℕ, ◌+◌, ◌-◌, ◌≤◌, ◌<◌}
use lib.ListN.{length}
use native.Mathlib.Omega.{arith}
use Rattle.text.specs.Machine.{Mode, want, got, accepts}
use Rattle.cursor.specs.Positions.{Stands, Moves, Ends}
use Rattle.cursor.proofs.Lines.{stands-none}
use Rattle.cursor.proofs.Moving.{moves-none, moves-on, moves-ends}
use Rattle.recognising.specs.declared.CheckStage.{CheckStage}
use Rattle.recognising.specs.declared.CheckStage.TheVariants.{Wanted, Ended, Accepted, Refused}
use Rattle.recognising.specs.declared.TextCheck.{TextCheck}
use Rattle.recognising.specs.Recognises.{Recognises, mode_at, StageIs, CheckTurn}

-- from the text's start to byte j, with d brackets open, in this stage
abbrev CameBy : List ℕ → ℕ → ℕ → CheckStage → Type 0
CameBy t j d Wanted = Moves t 0 (want 0) j (want d)
CameBy t j d Ended = Moves t 0 (want 0) j (got d)
CameBy t j d Accepted = accepts t ≡ true
CameBy t j d Refused = Ends t 0 (want 0) j

-- what holds of the check before each turn and at the end
pub record PassedTo (t : List ℕ) (x : TextCheck) : Type 0 where
  pub stands : Stands t x.at
  pub depth : x.depth ≤ x.at.byte
  pub came : CameBy t x.at.byte x.depth x.stage

-- 1 for a stage that goes on
abbrev goes_on : CheckStage → ℕ
goes_on Wanted = 1
goes_on Ended = 1
goes_on Accepted = 0
goes_on Refused = 0

-- what falls from turn to turn
abbrev pub left_of : List ℕ → TextCheck → ℕ
left_of t x = (length t - x.at.byte) + goes_on x.stage

pub passed_none : (t : List ℕ) → PassedTo t (record { at = record { byte = 0; line = 1 }; depth = 0; stage = Wanted })
passed_none t = record { stands = stands-none t; depth = omega arith; came = moves-none t 0 (want 0) }

-- how the machine has come to where a turn leaves it
came-on : (t : List ℕ) (i d : ℕ) (n : CheckStage) (j e : ℕ) (m : CheckStage) → goes_on n ≡ 1 → CameBy t i d n → StageIs t i (mode_at n d) j e m → CameBy t j e m
came-on t i d Wanted j e Wanted l p (q, r) = moves-on p q
came-on t i d Wanted j e Ended l p (q, r) = moves-on p q
came-on t i d Wanted j e Accepted l p q = p.same ∙ q
came-on t i d Wanted j e Refused l p q = moves-ends p q
came-on t i d Ended j e Wanted l p (q, r) = moves-on p q
came-on t i d Ended j e Ended l p (q, r) = moves-on p q
came-on t i d Ended j e Accepted l p q = p.same ∙ q
came-on t i d Ended j e Refused l p q = moves-ends p q
came-on t i d Accepted j e m l p q = absurd (omega arith)
came-on t i d Refused j e m l p q = absurd (omega arith)

stage-less : (t : List ℕ) (i : ℕ) (s : Mode) (j e : ℕ) (m : CheckStage) → i ≤ j → j ≤ length t → StageIs t i s j e m
    → length t - j + goes_on m < length t - i + 1
stage-less t i s j e Wanted h k (q, r) = omega arith
stage-less t i s j e Ended h k (q, r) = omega arith
stage-less t i s j e Accepted h k q = omega arith
stage-less t i s j e Refused h k q = omega arith

-- one turn of a check whose stage goes on
module _ {t : List ℕ} {x r : TextCheck} (l : goes_on x.stage ≡ 1) (s : CheckTurn t x r) where
  pub passed-more : PassedTo t x → PassedTo t r
  passed-more p =
      record {
        stands = s.stands;
        depth = s.depth;
        came = came-on t x.at.byte x.depth x.stage r.at.byte r.depth r.stage l p.came s.is;
      }

  pub passed-less : left_of t r < left_of t x
  passed-less = let q = stage-less t x.at.byte (mode_at x.stage x.depth) r.at.byte r.depth r.stage s.after s.stands.within s.is in omega arith

module _ {t : List ℕ} {x : TextCheck} (p : PassedTo t x) where
  pub passed-accepted : x.stage ≡ Accepted → Recognises t (Ok tt)
  passed-accepted h = subst (CameBy t x.at.byte x.depth) h p.came

  pub passed-refused : x.stage ≡ Refused → Recognises t (Err x.at)
  passed-refused h = let q = subst (CameBy t x.at.byte x.depth) h p.came in let z = q.place in (q.refuses, omega arith, p.stands.counted)
