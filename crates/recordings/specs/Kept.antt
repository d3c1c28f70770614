-- What is claimed of kept records and of a first stretch: a list with some left out (`Thinned`), records that follow each other without a
-- hole (`Steady`), and where a stretch ends (`StretchEnds`); and records whose numbers fit their bytes (`FitsRecord`). Assumes nothing: these
-- are definitions.
use Rattle.std.specs.Prelude.{◌≡◌, List, [], ◌∷◌, ◌++◌, ◌⊎◌, ℕ, ◌<◌, ◌^◌, length, replicate}
use Rattle.recordings.specs.Records.{Record, step_from, kept, broken}
use Rattle.recordings.specs.Mending.{marks_of, kept_of, first_stretch}

-- the second list is the first with some left out: none is left, the first one stays, the first one goes
pub data Thinned {A : Type 0} : List A → List A → Type 0 where
  none : Thinned [] []
  stays : (x : A) {xs ys : List A} → Thinned xs ys → Thinned (x ∷ xs) (x ∷ ys)
  goes : (x : A) {xs ys : List A} → Thinned xs ys → Thinned (x ∷ xs) ys

-- each step from one record to the next is 1
abbrev pub SteadyBehind : Record → List Record → Type 0
SteadyBehind b [] = Unit {0}
SteadyBehind b (r ∷ rs) = (step_from b.counter r.counter ≡ 1) × SteadyBehind r rs

abbrev pub Steady : List Record → Type 0
Steady [] = Unit {0}
Steady (r ∷ rs) = SteadyBehind r rs

-- nothing, or a break first
abbrev pub NoneOrBreak : List ℕ → Type 0
NoneOrBreak ms = (ms ≡ []) ⊎ ((rest : List ℕ) × (ms ≡ broken ∷ rest))

-- the kept records begin with the first stretch, and behind it there is nothing or a break
pub record StretchEnds (rs : List Record) : Type 0 where
  pub further : List Record
  pub marks : List ℕ
  pub front : kept_of rs ≡ first_stretch rs ++ further
  pub marked : marks_of (kept_of rs) ≡ replicate (length (first_stretch rs)) kept ++ marks
  pub ends : NoneOrBreak marks

-- counter and event have 32 and 64 bits
pub record FitsRecord (r : Record) : Type 0 where
  pub counter : r.counter < 2 ^ 32
  pub event : r.event < 2 ^ 64

abbrev pub AllFit : List Record → Type 0
AllFit [] = Unit {0}
AllFit (r ∷ rs) = FitsRecord r × AllFit rs
