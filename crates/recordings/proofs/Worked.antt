-- Worked records and recordings: steps with the wrap, marks, what is kept, first stretches, clashes, and the bytes of a recording. One table, one
-- theorem, `worked-recordings`, by computation. Assumes nothing.
use mathlib.Core.Path.{◌≡◌, refl}
use mathlib.Core.Bool.{true, false}
use mathlib.Core.List.{List, [], ◌∷◌}
use Prim.Native.Nat.{ℕ}
use Rattle.lists.specs.Tests.{pick, both, either}
use Rattle.lists.specs.Listed.{listed}
use Rattle.le.specs.Le.{le, le_at}
use Rattle.recordings.specs.Records.{Record, step_from, doubles, clashes, follows, mark_of}
use Rattle.recordings.specs.Mending.{marks_behind, marks_of, not_dropped, before_break, kept_of, first_stretch, first_events, agree_behind, agree}
use Rattle.recordings.specs.Recording.{record_in, records_in, total_ok, header_ok, header_of, one_record, record_bytes, recording_of}

-- a record by its counter and its event
abbrev at : ℕ → ℕ → Record
at c e = record { counter = c; event = e }

-- 8, 8 again, 9, then from 12 to 13, and 13 again
abbrev holed : List Record
holed = at 8 1 ∷ at 8 1 ∷ at 9 2 ∷ at 12 3 ∷ at 13 4 ∷ at 13 4 ∷ []

-- over the top: two below it, the top, 0
abbrev wrapped : List Record
wrapped = at 4294967294 5 ∷ at 4294967295 6 ∷ at 0 7 ∷ []

pub record WorkedRecordings : Type 0 where
  -- ---- steps
  pub step_same : step_from 8 8 ≡ 0
  pub step-next : step_from 8 9 ≡ 1
  pub step-top : step_from 4294967295 0 ≡ 1
  pub step_back : step_from 9 8 ≡ 4294967295
  pub step-over : step_from 4294967295 1 ≡ 2
  -- ---- marks
  pub none-marked : marks_of [] ≡ []
  pub one-marked : marks_of (at 77 1 ∷ []) ≡ 0 ∷ []
  pub holed-marked : marks_of holed ≡ 0 ∷ 1 ∷ 0 ∷ 2 ∷ 0 ∷ 1 ∷ []
  pub wrapped-marked : marks_of wrapped ≡ 0 ∷ 0 ∷ 0 ∷ []
  pub back-marked : marks_of (at 9 1 ∷ at 8 1 ∷ []) ≡ 0 ∷ 2 ∷ []
  pub tripled-marked : marks_of (at 5 1 ∷ at 5 1 ∷ at 5 1 ∷ []) ≡ 0 ∷ 1 ∷ 1 ∷ []
  -- ---- what is kept, and the first stretch
  pub holed-kept : kept_of holed ≡ at 8 1 ∷ at 9 2 ∷ at 12 3 ∷ at 13 4 ∷ []
  pub holed-first : first_stretch holed ≡ at 8 1 ∷ at 9 2 ∷ []
  pub holed-events : first_events holed ≡ 1 ∷ 2 ∷ []
  pub wrapped-first : first_events wrapped ≡ 5 ∷ 6 ∷ 7 ∷ []
  pub none_first : first_stretch [] ≡ []
  -- ---- clashes: one counter with two events, also behind a double and behind a break
  pub holed-agrees : agree holed ≡ true
  pub clash : agree (at 8 1 ∷ at 8 2 ∷ []) ≡ false
  pub clash-behind : agree (at 8 1 ∷ at 8 1 ∷ at 8 2 ∷ []) ≡ false
  pub clash-later : agree (at 1 1 ∷ at 5 2 ∷ at 5 3 ∷ []) ≡ false
  pub same-events : agree (at 1 1 ∷ at 2 1 ∷ []) ≡ true
  -- ---- bytes: no records, and one
  pub none-bytes : recording_of [] ≡ 0 ∷ 0 ∷ 0 ∷ 0 ∷ 16 ∷ 0 ∷ 0 ∷ 0 ∷ 16 ∷ 0 ∷ 0 ∷ 0 ∷ 0 ∷ 0 ∷ 0 ∷ 0 ∷ []
  pub one-bytes : recording_of (at 258 3 ∷ []) ≡ 1 ∷ 0 ∷ 0 ∷ 0 ∷ 16 ∷ 0 ∷ 0 ∷ 0 ∷ 28 ∷ 0 ∷ 0 ∷ 0 ∷ 0 ∷ 0 ∷ 0 ∷ 0 ∷ 2 ∷ 1 ∷ 0 ∷ 0 ∷ 3 ∷ 0 ∷ 0 ∷ 0 ∷ 0 ∷ 0 ∷ 0 ∷ 0 ∷ []
  pub one-read : records_in (recording_of (at 258 3 ∷ [])) ≡ at 258 3 ∷ []
  pub one-total : total_ok (recording_of (at 258 3 ∷ [])) ≡ true
  pub one-header : header_ok (recording_of (at 258 3 ∷ [])) ≡ true

pub worked-recordings : WorkedRecordings
unfolding pick both either listed le le_at step_from doubles clashes follows mark_of marks_behind marks_of not_dropped before_break agree_behind agree record_in total_ok header_ok header_of one_record record_bytes recording_of
worked-recordings =
    record {
      step_same = refl;
      step-next = refl;
      step-top = refl;
      step_back = refl;
      step-over = refl;
      none-marked = refl;
      one-marked = refl;
      holed-marked = refl;
      wrapped-marked = refl;
      back-marked = refl;
      tripled-marked = refl;
      holed-kept = refl;
      holed-first = refl;
      holed-events = refl;
      wrapped-first = refl;
      none_first = refl;
      holed-agrees = refl;
      clash = refl;
      clash-behind = refl;
      clash-later = refl;
      same-events = refl;
      none-bytes = refl;
      one-bytes = refl;
      one-read = refl;
      one-total = refl;
      one-header = refl;
    }
