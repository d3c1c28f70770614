-- What the check of a text promises (`Recognises`), and what one turn of it does. Assumes nothing: these are definitions.
use Rattle.cursor.specs.declared.TextCursor.{TextCursor}
use Rattle.std.specs.Prelude.{◌≡◌, true, false, List, ℕ, ◌≤◌, ◌<◌, drop, Result, Ok, Err, ⊤}
use Rattle.text.specs.Places.{line_at}
use Rattle.text.specs.Machine.{Mode, want, got, dead, run, final, accepts, passed}
use Rattle.cursor.specs.Positions.{Stands, Moves, Ends}
use Rattle.recognising.specs.declared.CheckStage.{CheckStage}
use Rattle.recognising.specs.declared.CheckStage.TheVariants.{Wanted, Ended, Accepted, Refused}
use Rattle.recognising.specs.declared.TextCheck.{TextCheck}

-- the machine accepts the text; or it doesn't, the byte is where it died, or the end, and the line is that byte's
abbrev pub Recognises : List ℕ → Result ⊤ TextCursor → Type 0
Recognises t (Ok _) = accepts t ≡ true
Recognises t (Err c) = (accepts t ≡ false) × (c.byte ≡ passed t (want 0)) × (c.line ≡ line_at t c.byte)

-- the machine in s at byte i goes on to byte j, where an operand is wanted or one has ended; or it accepts; or it accepts nothing, and j
-- is the place
abbrev pub StageIs : List ℕ → ℕ → Mode → ℕ → ℕ → CheckStage → Type 0
StageIs t i s j d Wanted = Moves t i s j (want d) × (i < j)
StageIs t i s j d Ended = Moves t i s j (got d) × (i < j)
StageIs t i s j d Accepted = final (run (drop i t) s) ≡ true
StageIs t i s j d Refused = Ends t i s j

-- the machine's mode, by the stage of a check that goes on; one that is accepted or refused has no turn
abbrev pub mode_at : CheckStage → ℕ → Mode
mode_at Wanted d = want d
mode_at Ended d = got d
mode_at Accepted d = dead
mode_at Refused d = dead

-- one turn, from x to r
pub record CheckTurn (t : List ℕ) (x r : TextCheck) : Type 0 where
  pub stands : Stands t r.at
  pub depth : r.depth ≤ r.at.byte
  pub after : x.at.byte ≤ r.at.byte
  pub is : StageIs t x.at.byte (mode_at x.stage x.depth) r.at.byte r.depth r.stage
