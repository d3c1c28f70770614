-- How a run of events stops. Assumes nothing: these are definitions.
use Rattle.std.specs.Prelude.{◌≡◌, true, false, List, ℕ, ◌<◌, ◌≤◌, length, get_or}
use Rattle.answers.specs.Said.{refused}
use Rattle.state.specs.Calls.{finished_in}
use Rattle.course.specs.Order.{tick_order}
use Rattle.course.specs.Course.{Course}

-- at its end; at a verdict, behind some closed event; or at an event whose tick is refused
pub data Stops (events : List ℕ) (r : Course) : Type 0 where
  at-end : r.closed ≡ length events → r.refusal ≡ 0 → finished_in r.leaves ≡ false → Stops events r
  at-verdict : 0 < r.closed → r.closed ≤ length events → r.refusal ≡ 0 → finished_in r.leaves ≡ true → Stops events r
  at-refusal : r.closed < length events → refused r.refusal ≡ tick_order r.leaves (get_or events r.closed 0) → 0 < r.refusal → finished_in r.leaves ≡ false → Stops events r
