-- What is lent for a recording, and how many records it has once it is mended there. Assumes nothing: these are definitions.
use Rattle.std.specs.Prelude.{◌≡◌, List, ℕ, ◌+◌, ◌≤◌, length, Option, Some, None}
use Rattle.recordings.specs.Recording.{recording_length}
use Rattle.vydrulka.specs.declared.recording.RecordCounts.{RecordCounts}

-- how many records there is room for
abbrev pub records_most : ℕ
records_most = 100000

-- a recording is read into one byte more than these have; the mended one is no longer; and there is a mark a record
pub record RecordingRooms (room mended marks : List ℕ) : Type 0 where
  pub reads : length room ≡ recording_length records_most + 1
  pub writes : length mended ≡ recording_length records_most
  pub marks-all : length marks ≡ records_most

-- no more are kept than there are, and no more are there than `most`
abbrev pub CountedTo : ℕ → Option RecordCounts → Type 0
CountedTo most None = Unit {0}
CountedTo most (Some c) = (c.kept ≤ c.records) × (c.records ≤ most)
