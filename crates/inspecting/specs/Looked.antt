-- Tests of a record beside the one before it, of one and of four at once, what is asked and told where records are looked over for a clash, and
-- the checks of a call on a recording. Assumes nothing: these are definitions.
use Rattle.std.specs.Prelude.{◌≡◌, Bool, true, List, [], ◌∷◌, ℕ, ◌+◌, ◌-◌, ◌<◌, ◌≤◌, length, eqb}
use Rattle.lists.specs.Tests.{both, either}
use Rattle.answers.specs.Said.{Said, check, in_order}
use Rattle.recordings.specs.Records.{Record, clashes}
use Rattle.recordings.specs.Mending.{agree, NoClash}
use Rattle.recordings.specs.Recording.{recording_length, record_in, records_in, total_ok, header_ok}

-- ---- tests
-- the record at a place has the counter of the one before it
abbrev pub same_by : (ℕ → Record) → ℕ → Bool
same_by f i = eqb (f i).counter (f (i - 1)).counter

-- and another event
abbrev pub clash_by : (ℕ → Record) → ℕ → Bool
clash_by f i = clashes (f (i - 1)) (f i)

-- a test holds at one of the four places from i on
abbrev pub any_four : (ℕ → Bool) → ℕ → Bool
any_four p i = either (either (p i) (p (i + 1))) (either (p (i + 2)) (p (i + 3)))

-- ---- what is asked
-- record i is there, and one before it
pub record BesideAsk (s : List ℕ) (i : ℕ) : Type 0 where
  pub some : 0 < i
  pub room : recording_length (i + 1) ≤ length s

-- and three behind it
pub record FourAsk (s : List ℕ) (i : ℕ) : Type 0 where
  pub some : 0 < i
  pub room : recording_length (i + 4) ≤ length s

-- the first i records are looked over, i at least 1
pub record ClearTo (s : List ℕ) (i : ℕ) : Type 0 where
  pub some : 0 < i
  pub clear : NoClash (record_in s) i

-- ---- what is told
-- the first r of n records have no clash, and where these are not all the next one has
pub record LooksOver (s : List ℕ) (n r : ℕ) : Type 0 where
  pub few : r ≤ n
  pub clear : NoClash (record_in s) r
  pub clash : r < n → (0 < r) × (clash_by (record_in s) r ≡ true)

-- ---- the checks of a call on a recording
-- 1: the recording is as long as its total, and what is lent has the right lengths; 4: its header; 20: no record clashes
abbrev pub inspect_says : Bool → List ℕ → Said → Said
inspect_says lengths s answer =
    in_order
    (check 1 (both (total_ok s) lengths)
    ∷ check 4 (header_ok s)
    ∷ check 20 (agree (records_in s))
    ∷ [])
    answer
