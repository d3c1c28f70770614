-- What `mend` answers and leaves. Assumes nothing: these are definitions.
use Rattle.answers.specs.declared.Refusal.{Refusal}
use Rattle.recordings.specs.declared.Mended.{Mended}
use Rattle.std.specs.Prelude.{◌≡◌, Bool, List, [], ◌∷◌, ℕ, length, eqb, Result, Ok, Err}
use Rattle.lists.specs.Tests.{both}
use Rattle.lists.specs.Runs.{padded}
use Rattle.answers.specs.Said.{Said, accepted, refused, number_of, left}
use Rattle.recordings.specs.Mending.{marks_of, kept_of, first_stretch}
use Rattle.recordings.specs.Recording.{count_in, records_in, recording_of}
use Rattle.inspecting.specs.Looked.{inspect_says}

-- the output is as long as the recording, and there is a mark for each record
abbrev pub mend_room_ok : List ℕ → ℕ → ℕ → Bool
mend_room_ok s room list = both (eqb room (length s)) (eqb list (count_in s))

-- what is answered of this recording where so many bytes and marks are lent: 1, 4 and 20 as for every call on one (`inspect_says`)
unfoldable pub mend_says : List ℕ → ℕ → ℕ → Said
mend_says s room list =
    inspect_says (mend_room_ok s room list) s (accepted (length (kept_of (records_in s)) ∷ length (first_stretch (records_in s)) ∷ []))

-- the mended recording, and zeros behind it
abbrev pub mended_for : List ℕ → List ℕ
mended_for s = padded (length s) (recording_of (kept_of (records_in s)))

-- the enum's cases by number and values
abbrev pub said_mend : Result Mended Refusal → Said
said_mend (Err why) = refused (number_of why)
said_mend (Ok m) = accepted (m.kept ∷ m.first ∷ [])

-- the promise
pub record Mends (recording mended marks mended' marks' : List ℕ) (answer : Result Mended Refusal) : Type 0 where
  pub says : said_mend answer ≡ mend_says recording (length mended) (length marks)
  pub leaves : mended' ≡ left (mend_says recording (length mended) (length marks)) (mended_for recording) mended
  pub leaves-marks : marks' ≡ left (mend_says recording (length mended) (length marks)) (marks_of (records_in recording)) marks
