-- What the pass over the records asks and leaves. Assumes nothing: these are definitions.
use Rattle.std.specs.Prelude.{◌≡◌, Bool, true, List, ℕ, ◌*◌, ◌<◌, ◌≤◌, length, take}
use Rattle.lists.specs.Runs.{padded}
use Rattle.lists.specs.Listed.{listed}
use Rattle.recordings.specs.declared.Mended.{Mended}
use Rattle.recordings.specs.Records.{Record, broken}
use Rattle.recordings.specs.Mending.{marks_of, not_dropped, kept_of, first_stretch, mark_by, NoClash}
use Rattle.recordings.specs.Recording.{record_length, recording_length, record_in, record_bytes}
use Rattle.sifting.specs.declared.Reached.{Reached}

-- there are as many records as marks, none of which clashes, and room for them
pub record SiftAsk (s out marks : List ℕ) : Type 0 where
  pub room : recording_length (length marks) ≤ length s
  pub out-room : record_length * length marks ≤ length out
  pub clear : NoClash (record_in s) (length marks)

-- ---- on the way
-- what is kept of the first i records
abbrev pub kept_to : List ℕ → ℕ → List Record
kept_to s i = not_dropped (listed (mark_by (record_in s)) i) (listed (record_in s) i)

-- their marks are put, and the kept ones, of which there are so many
pub record SiftedTo (s out marks : List ℕ) (i kept : ℕ) : Type 0 where
  pub count : kept ≡ length (kept_to s i)
  pub put : take (record_length * kept) out ≡ record_bytes (kept_to s i)
  pub marked : take i marks ≡ listed (mark_by (record_in s)) i

-- none of the records up to a place comes after a break
abbrev pub NoBreak : List ℕ → ℕ → Type 0
NoBreak s i = (j : ℕ) → j < i → mark_by (record_in s) j ≡ broken → ⊥

-- of n records all or, where that is asked, those up to the first break
pub record SiftsTo (s out' marks' : List ℕ) (n from : ℕ) (stop : Bool) (r : Reached) : Type 0 where
  pub few : r.place ≤ n
  pub sifted : SiftedTo s out' marks' r.place r.kept
  pub none : stop ≡ true → NoBreak s from → NoBreak s r.place
  pub stops : r.place < n → (stop ≡ true) × (mark_by (record_in s) r.place ≡ broken)

-- ---- in the end
-- of n records: how many are kept and in the first stretch, the kept ones and zeros behind them, and the marks
pub record Sifts (s out out' marks' : List ℕ) (n : ℕ) (c : Mended) : Type 0 where
  pub kept : c.kept ≡ length (kept_of (listed (record_in s) n))
  pub first : c.first ≡ length (first_stretch (listed (record_in s) n))
  pub few : c.kept ≤ n
  pub put : out' ≡ padded (length out) (record_bytes (kept_of (listed (record_in s) n)))
  pub marks : marks' ≡ marks_of (listed (record_in s) n)
