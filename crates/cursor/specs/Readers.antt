-- What each reader has read, in terms of the machine and for any number of open brackets. Assumes nothing: these are definitions.
use Rattle.std.specs.Prelude.{◌≡◌, true, List, ℕ, suc, ◌-◌, ◌≤◌, ◌<◌, drop}
use Rattle.text.specs.Machine.{Mode, want, got, run, final}
use Rattle.cursor.specs.declared.TextCursor.{TextCursor}
use Rattle.cursor.specs.declared.Token.{Token}
use Rattle.cursor.specs.declared.Token.TheVariants.{Space, Operator, Bracket, Operand, Finished, Wrong}
use Rattle.cursor.specs.declared.TextStep.{TextStep}
use Rattle.cursor.specs.Positions.{Stands, Moves, Ends}

-- blanks were passed, whatever was wanted
pub record GapRead (t : List ℕ) (c e : TextCursor) : Type 0 where
  pub stands : Stands t e
  pub after : c.byte ≤ e.byte
  pub wants : (d : ℕ) → Moves t c.byte (want d) e.byte (want d)
  pub gots : (d : ℕ) → Moves t c.byte (got d) e.byte (got d)

-- the rest of a word: the machine in s has come to u
abbrev pub WordIs : List ℕ → ℕ → Mode → Mode → Token → ℕ → Type 0
WordIs t i s u Space j = ⊥
WordIs t i s u Operator j = ⊥
WordIs t i s u Bracket j = ⊥
WordIs t i s u Operand j = Moves t i s j u
WordIs t i s u Finished j = ⊥
WordIs t i s u Wrong j = Ends t i s j

-- the rest of a word was read, or its place of refusal was found
pub record WordRead (t : List ℕ) (c : TextCursor) (s : ℕ → Mode) (r : TextStep) : Type 0 where
  pub stands : Stands t r.at
  pub after : c.byte ≤ r.at.byte
  pub is : (d : ℕ) → WordIs t c.byte (s d) (got d) r.seen r.at.byte

-- where an operand is wanted: a blank, a prefix sign, an opening bracket, a word
abbrev pub OperandIs : List ℕ → ℕ → ℕ → Token → ℕ → Type 0
OperandIs t i d Space j = Moves t i (want d) j (want d)
OperandIs t i d Operator j = Moves t i (want d) j (want d)
OperandIs t i d Bracket j = Moves t i (want d) j (want (suc d))
OperandIs t i d Operand j = Moves t i (want d) j (got d)
OperandIs t i d Finished j = ⊥
OperandIs t i d Wrong j = Ends t i (want d) j

-- a sign was read where an operand is wanted, or the place of refusal was found
pub record OperandRead (t : List ℕ) (c : TextCursor) (r : TextStep) : Type 0 where
  pub stands : Stands t r.at
  pub after : c.byte ≤ r.at.byte
  pub on : (r.seen ≡ Wrong → ⊥) → c.byte < r.at.byte
  pub is : (d : ℕ) → OperandIs t c.byte d r.seen r.at.byte

-- where an operand has ended and d brackets are open: a blank, an infix sign, a closing bracket, the end
abbrev pub OperatorIs : List ℕ → ℕ → ℕ → Token → ℕ → Type 0
OperatorIs t i d Space j = Moves t i (got d) j (got d)
OperatorIs t i d Operator j = Moves t i (got d) j (want d)
OperatorIs t i d Bracket j = (0 < d) × Moves t i (got d) j (got (d - 1))
OperatorIs t i d Operand j = ⊥
OperatorIs t i d Finished j = final (run (drop i t) (got d)) ≡ true
OperatorIs t i d Wrong j = Ends t i (got d) j

-- a sign was read where an operand has ended, or the text has ended, or the place of refusal was found
pub record OperatorRead (t : List ℕ) (c : TextCursor) (d : ℕ) (r : TextStep) : Type 0 where
  pub stands : Stands t r.at
  pub after : c.byte ≤ r.at.byte
  pub on : (r.seen ≡ Wrong → ⊥) → (r.seen ≡ Finished → ⊥) → c.byte < r.at.byte
  pub is : OperatorIs t c.byte d r.seen r.at.byte
