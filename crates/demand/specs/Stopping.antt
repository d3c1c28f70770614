-- A watch's ticks by the calls one at a time: what each answers until a verdict, and how a run of them stops. Assumes nothing: these are
-- definitions.
use Rattle.std.specs.Prelude.{◌≡◌, Bool, true, false, List, [], ◌∷◌, ◌++◌, ℕ, ◌+◌, ◌^◌, ◌<◌, length, take, get_or, leb, ltb}
use Rattle.answers.specs.Said.{Said, accepted, check, in_order}
use Rattle.ltl.specs.Meaning.{Event}
use Rattle.ltl.specs.Progression.{progressed_over, verdict_of}
use Rattle.masks.specs.Masks.{union_with}
use Rattle.rules.specs.RuleFile.{masks_in_file}
use Rattle.state.specs.Form.{form_in, slots_most, nodes_most}
use Rattle.state.specs.Fields.{ticks_in}
use Rattle.state.specs.Clauses.{in_mask, among}
use Rattle.state.specs.Bytes.{nodes_of}
use Rattle.state.specs.Calls.{finished_in, next_in}
use Rattle.keeping.specs.Known.{known}
use Rattle.loading.specs.Load.{start_in}
use Rattle.course.specs.Ticked.{tick_leaves}
use Rattle.course.specs.Course.{Course}
use Rattle.course.specs.Stops.{Stops}

-- the masks cover an event: each of its bits is in one of them
abbrev pub covers : List ℕ → Event → Bool
covers masks e = in_mask e (union_with 0 masks)

-- a tick's refusals in their order, those that can come in a watch: bits in no mask, and those of the close
unfoldable pub watch_order : List ℕ → List ℕ → Event → Said
watch_order masks s e =
    in_order
    (check 12 (covers masks e)
    ∷ check 15 (ltb (ticks_in s + 1) (2 ^ 32))
    ∷ check 7 (leb (length (next_in (tick_leaves s e))) (slots_most (form_in s)))
    ∷ check 8 (leb (nodes_of (next_in (tick_leaves s e))) (nodes_most (form_in s)))
    ∷ [])
    (accepted [])

-- how a run of further events stops that goes on from a watch of a rule file under some events
pub record WatchStops (file : List ℕ) (us : List Event) (events : List ℕ) (r : Course) : Type 0 where
  -- at its end, at a verdict, or at an event whose tick is refused
  pub stops : Stops events r
  -- with no refusal, or 12, 15, 7 or 8: neither 13 nor 9
  pub number : among r.refusal (0 ∷ 12 ∷ 15 ∷ 7 ∷ 8 ∷ []) ≡ true
  -- each closed event was covered by the masks
  pub inside : (i : ℕ) → i < r.closed → covers (masks_in_file file) (get_or events i 0) ≡ true
  -- 12 is of an event that is not
  pub when-outside : r.refusal ≡ 12 → covers (masks_in_file file) (get_or events r.closed 0) ≡ false
  -- and such an event, where the run comes to it without a verdict, gets 12
  pub outside : r.closed < length events → finished_in r.leaves ≡ false → covers (masks_in_file file) (get_or events r.closed 0) ≡ false → r.refusal ≡ 12
  -- a verdict is that of one place for the events before and those that were closed
  pub verdict : finished_in r.leaves ≡ known (verdict_of (progressed_over (us ++ take r.closed events) (start_in file)))
