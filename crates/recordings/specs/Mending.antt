-- What mending makes of a list of records: the mark of each, those that are kept, and the first stretch; and whether the list can be mended.
-- Assumes nothing: these are definitions.
use Rattle.std.specs.Prelude.{◌≡◌, ℕ, zero, suc, ◌<◌, Bool, true, false, not, List, [], ◌∷◌, map, eqb}
use Rattle.lists.specs.Tests.{pick, both}
use Rattle.recordings.specs.Records.{Record, clashes, kept, dropped, broken, mark_of}

-- ---- marks
-- those of the records behind b
unfoldable pub marks_behind : Record → List Record → List ℕ
marks_behind b [] = []
marks_behind b (r ∷ rs) = mark_of b r ∷ marks_behind r rs

-- those of all: the first is kept, each other one is marked by the one before it
unfoldable pub marks_of : List Record → List ℕ
marks_of [] = []
marks_of (r ∷ rs) = kept ∷ marks_behind r rs

-- ---- what is left by the marks
-- whatever is not marked as dropped
unfoldable pub not_dropped : {A : Type 0} → List ℕ → List A → List A
not_dropped [] xs = []
not_dropped (m ∷ ms) [] = []
not_dropped (m ∷ ms) (x ∷ xs) = pick (eqb m dropped) (not_dropped ms xs) (x ∷ not_dropped ms xs)

-- of that, what stands before the first break
unfoldable pub before_break : {A : Type 0} → List ℕ → List A → List A
before_break [] xs = []
before_break (m ∷ ms) [] = []
before_break (m ∷ ms) (x ∷ xs) = pick (eqb m broken) [] (pick (eqb m dropped) (before_break ms xs) (x ∷ before_break ms xs))

-- ---- mending
-- the records of the mended recording
abbrev pub kept_of : List Record → List Record
kept_of rs = not_dropped (marks_of rs) rs

-- the records of the first stretch
abbrev pub first_stretch : List Record → List Record
first_stretch rs = before_break (marks_of rs) rs

-- and their events
abbrev pub first_events : List Record → List ℕ
first_events rs = map (λ r. r.event) (first_stretch rs)

-- ---- whether the list can be mended: no counter comes twice running with different events
unfoldable pub agree_behind : Record → List Record → Bool
agree_behind b [] = true
agree_behind b (r ∷ rs) = both (not (clashes b r)) (agree_behind r rs)

unfoldable pub agree : List Record → Bool
agree [] = true
agree (r ∷ rs) = agree_behind r rs

-- ---- by place, where f is the record at each
-- the mark of the record at a place
unfoldable pub mark_by : (ℕ → Record) → ℕ → ℕ
mark_by f zero = kept
mark_by f (suc i) = mark_of (f i) (f (suc i))

-- none of the first n clashes with the one before it
abbrev pub NoClash : (ℕ → Record) → ℕ → Type 0
NoClash f n = (i : ℕ) → suc i < n → clashes (f i) (f (suc i)) ≡ false
