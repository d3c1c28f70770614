-- What a turn of a program begins with. Assumes nothing: these are definitions.
use Rattle.std.specs.Prelude.{◌≡◌, Option, Some, None, List, ℕ, length}
use Rattle.programs.specs.declared.input.Hand.{Hand}
use Rattle.programs.specs.declared.input.Taking.{Taking}
use Rattle.came.specs.Came.{file_length}
use Rattle.programs.specs.Hand.{InHand, bytes_of, Takes}

-- the file is the first of the bytes that came, and the others are in hand
pub record FileFound (piece : List ℕ) (hand : Hand) : Type 0 where
  pub within : InHand (length piece) hand
  pub file-is : hand.from ≡ file_length (bytes_of piece (record { from = 0; end = hand.end }))

abbrev pub FileInFront : List ℕ → Option Hand → Type 0
FileInFront piece (Some hand) = FileFound piece hand
FileInFront piece None = Unit {0}

-- an event was taken from the bytes that came, which begin with what was in hand before
abbrev pub EventBehind : List ℕ → List ℕ → Option Taking → Type 0
EventBehind before piece (Some taking) = Takes before piece taking
EventBehind before piece None = Unit {0}
