-- What `stretch` answers and leaves. Assumes nothing: these are definitions.
use Rattle.answers.specs.declared.Refusal.{Refusal}
use Rattle.std.specs.Prelude.{◌≡◌, Bool, List, [], ◌∷◌, ℕ, ◌≤◌, length, take, eqb, Result, Ok, Err}
use Rattle.lists.specs.Runs.{padded}
use Rattle.lists.specs.Listed.{listed}
use Rattle.answers.specs.Said.{Said, accepted, refused, number_of, left}
use Rattle.recordings.specs.Mending.{first_stretch, first_events, NoClash}
use Rattle.recordings.specs.Recording.{recording_length, count_in, record_in, records_in}
use Rattle.inspecting.specs.Looked.{inspect_says}

-- there is room for an event a record
abbrev pub stretch_room_ok : List ℕ → ℕ → Bool
stretch_room_ok s room = eqb room (count_in s)

-- what is answered of this recording where room for so many events is lent: 1, 4 and 20 as for every call on one (`inspect_says`)
unfoldable pub stretch_says : List ℕ → ℕ → Said
stretch_says s room =
    inspect_says (stretch_room_ok s room) s (accepted (length (first_stretch (records_in s)) ∷ []))

-- the events of the first stretch, and zeros behind them
abbrev pub events_for : List ℕ → List ℕ
events_for s = padded (count_in s) (first_events (records_in s))

-- the enum's cases by number and values
abbrev pub said_stretch : Result ℕ Refusal → Said
said_stretch (Err why) = refused (number_of why)
said_stretch (Ok n) = accepted (n ∷ [])

-- the promise
pub record Stretches (recording events events' : List ℕ) (answer : Result ℕ Refusal) : Type 0 where
  pub says : said_stretch answer ≡ stretch_says recording (length events)
  pub leaves : events' ≡ left (stretch_says recording (length events)) (events_for recording) events

-- ---- below the call
-- there are as many records as events, none of which clashes
pub record GatherAsk (s events : List ℕ) : Type 0 where
  pub room : recording_length (length events) ≤ length s
  pub clear : NoClash (record_in s) (length events)

-- of n records: the events of the first stretch in front
pub record Gathers (s events' : List ℕ) (n r : ℕ) : Type 0 where
  pub few : r ≤ n
  pub taken : r ≡ length (first_stretch (listed (record_in s) n))
  pub put : take r events' ≡ first_events (listed (record_in s) n)
