-- A recording's bytes: a header of four numbers, then the records. Assumes nothing: these are definitions.
use Rattle.std.specs.Prelude.{ℕ, ◌+◌, ◌*◌, Bool, List, [], ◌∷◌, ◌++◌, length, eqb, leb}
use Rattle.lists.specs.Tests.{both}
use Rattle.lists.specs.Listed.{listed}
use Rattle.le.specs.Le.{le, le_at}
use Rattle.recordings.specs.Records.{Record}

abbrev pub records_at : ℕ
records_at = 16

abbrev pub record_length : ℕ
record_length = 12

-- the bytes of n records and their header
abbrev pub recording_length : ℕ → ℕ
recording_length n = records_at + record_length * n

-- ---- read
-- the header: records, where they begin, the length, zero
abbrev pub count_in : List ℕ → ℕ
count_in s = le_at s 0 4

abbrev pub offset_in : List ℕ → ℕ
offset_in s = le_at s 4 4

abbrev pub total_in : List ℕ → ℕ
total_in s = le_at s 8 4

abbrev pub fourth_in : List ℕ → ℕ
fourth_in s = le_at s 12 4

-- record i
unfoldable pub record_in : List ℕ → ℕ → Record
record_in s i = record { counter = le_at s (recording_length i) 4; event = le_at s (recording_length i + 4) 8 }

-- all of them
abbrev pub records_in : List ℕ → List Record
records_in s = listed (record_in s) (count_in s)

-- ---- checks
-- there is a header, and the bytes are as many as it says
unfoldable pub total_ok : List ℕ → Bool
total_ok s = both (leb records_at (length s)) (eqb (total_in s) (length s))

-- the numbers of the header agree
unfoldable pub header_ok : List ℕ → Bool
header_ok s = both (eqb (offset_in s) records_at) (both (eqb (total_in s) (recording_length (count_in s))) (eqb (fourth_in s) 0))

-- ---- written
unfoldable pub header_of : ℕ → List ℕ
header_of n = le 4 n ++ (le 4 records_at ++ (le 4 (recording_length n) ++ le 4 0))

unfoldable pub one_record : Record → List ℕ
one_record r = le 4 r.counter ++ le 8 r.event

-- one record behind the other
unfoldable pub record_bytes : List Record → List ℕ
record_bytes [] = []
record_bytes (r ∷ rs) = one_record r ++ record_bytes rs

unfoldable pub recording_of : List Record → List ℕ
recording_of rs = header_of (length rs) ++ record_bytes rs
