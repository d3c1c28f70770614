-- Positions in a text, and how the machine comes from one to another. Assumes nothing: these are definitions.
use Rattle.std.specs.Prelude.{◌≡◌, false, List, ℕ, ◌+◌, ◌≤◌, ◌<◌, length, get_or, drop}
use Rattle.text.specs.declared.Sign.{Sign}
use Rattle.text.specs.Signs.{sign_of}
use Rattle.text.specs.Places.{line_at}
use Rattle.text.specs.Machine.{Mode, run, final, passed}
use Rattle.cursor.specs.declared.TextCursor.{TextCursor}

-- the position is in the text or at its end, and its line is that of its byte
pub record Stands (t : List ℕ) (c : TextCursor) : Type 0 where
  pub within : c.byte ≤ length t
  pub counted : c.line ≡ line_at t c.byte

-- a byte of the text stands at the position, and it is this sign
pub record Sees (t : List ℕ) (c : TextCursor) (k : Sign) : Type 0 where
  pub stands : Stands t c
  pub there : c.byte < length t
  pub is : k ≡ sign_of (get_or t c.byte 0)

-- the position x is the one behind the byte at c
pub record Behind (t : List ℕ) (c x : TextCursor) : Type 0 where
  pub stands : Stands t x
  pub next : x.byte ≡ c.byte + 1

-- the machine in s at byte i comes to u at byte j: it goes on to the same answer and the same place
pub record Moves (t : List ℕ) (i : ℕ) (s : Mode) (j : ℕ) (u : Mode) : Type 0 where
  pub same : final (run (drop i t) s) ≡ final (run (drop j t) u)
  pub place : i + passed (drop i t) s ≡ j + passed (drop j t) u

-- the machine in s at byte i accepts nothing of this text, and dies at byte j or is at the end there
pub record Ends (t : List ℕ) (i : ℕ) (s : Mode) (j : ℕ) : Type 0 where
  pub refuses : final (run (drop i t) s) ≡ false
  pub place : i + passed (drop i t) s ≡ j
