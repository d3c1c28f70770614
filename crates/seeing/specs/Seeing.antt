-- What a slot sees when it is stepped: its board's sample, and which of the slots that it holds are true and which are false. Assumes
-- nothing: these are definitions.
use Rattle.std.specs.Prelude.{List, [], ◌∷◌, ℕ, ◌-◌, ltb, eqb, Option, Some, None}
use Rattle.lists.specs.Tests.{pick}
use Rattle.kinds.specs.Kinds.{hold_code}
use Rattle.answers.specs.declared.Verdict.{Verdict}
use Rattle.answers.specs.declared.Verdict.TheVariants.{False, True, Pending}
use Rattle.ltl.specs.Progression.{verdict_of}
use Rattle.state.specs.Fields.{sample_in, board_of_in, stepped_in}
use Rattle.state.specs.Clauses.{held_by}
use Rattle.state.specs.Bytes.{formula_at}
use Rattle.state.specs.Calls.{ready_in}
use Rattle.slot_sets.specs.SlotSets.{with_slot}
use Rattle.resolving.specs.declared.Seen.{Seen}
use Rattle.resolving.specs.Settles.{event_alone}

-- slot m is true, false or neither
abbrev pub answer_in : List ℕ → ℕ → Verdict
answer_in s m = verdict_of (formula_at s m)

-- what is seen once slot m is seen to be so
abbrev pub told : Seen → ℕ → Verdict → Seen
told x m True = record { event = x.event; yes = with_slot x.yes m; no = x.no }
told x m False = record { event = x.event; yes = x.yes; no = with_slot x.no m }
told x m Pending = x

-- the same of some slots, one after the other
abbrev pub told_each : (ℕ → Verdict) → List ℕ → Seen → Seen
told_each answer [] x = x
told_each answer (m ∷ ms) x = told_each answer ms (told x m (answer m))

-- what slot k sees: its board's sample and each slot that it holds
abbrev pub seen_by : List ℕ → ℕ → Seen
seen_by s k = told_each (answer_in s) (held_by (formula_at s k)) (event_alone (sample_in s (board_of_in s k)))

-- where it is ready
unfoldable pub sight_in : List ℕ → ℕ → Option Seen
sight_in s k = pick (ready_in s k) (Some (seen_by s k)) None

-- ---- the pass over its bytes
-- behind a node: a place holder's slot is looked at
unfoldable pub sight_after : List ℕ → ℕ → Seen → Option Seen
sight_after s b x =
    pick (ltb b hold_code) (Some x)
    (pick (eqb (stepped_in s (b - hold_code)) 1) (Some (told x (b - hold_code) (answer_in s (b - hold_code)))) None)

abbrev pub go_on : Option Seen → (Seen → Option Seen) → Option Seen
go_on (Some x) rest = rest x
go_on None rest = None

unfoldable pub sight_over : List ℕ → List ℕ → Seen → Option Seen
sight_over s [] x = Some x
sight_over s (b ∷ l) x = go_on (sight_after s b x) (λ y. sight_over s l y)
