-- The events of a capture from C split over two calls, as in crates/demand. Assumes nothing: these are definitions.
use Rattle.std.specs.Prelude.{◌≡◌, List, ℕ, ◌+◌}
use Rattle.answers.specs.declared.Verdict.TheVariants.{Pending}
use Rattle.answers.specs.Said.{verdict_number}
use Rattle.exported.specs.Exported.{CaptureExported}
use Rattle.demand_c.specs.FromC.{Refuses}

-- what a capture stored behind its pointers, and its answer
pub record StoredC : Type 0 where
  pub closed : ℕ
  pub verdict : ℕ
  pub stop : ℕ
  pub answer : ℕ

-- a capture does this, whatever stood behind the pointers before
pub record CapturesFromC (s second events s' second' : List ℕ) (x : StoredC) : Type 0 where
  pub closed-before : ℕ
  pub verdict-before : ℕ
  pub stop-before : ℕ
  pub captures : CaptureExported s second events s' second' closed-before verdict-before stop-before x.closed x.verdict x.stop x.answer

-- it ran to the end of its events, and there is no verdict
pub record RanThroughC (x : StoredC) : Type 0 where
  pub accepts : x.answer ≡ 0
  pub stops : x.stop ≡ 0
  pub pending : x.verdict ≡ verdict_number Pending

-- a capture of some events and further ones leaves s' and second' and stores a; one of the first ones alone leaves t and r and stores b
pub record SplitsFromC (further s' second' : List ℕ) (a : StoredC) (t r : List ℕ) (b : StoredC) : Type 0 where
  -- where the second one ran to its end without a verdict, a capture of the further events on what it left answers 0, leaves what the
  -- first one leaves and stores what it stores, but for the events that were closed before
  pub goes_on : RanThroughC b → (t' r' : List ℕ) (d : StoredC) → CapturesFromC t r further t' r' d
      → (d.answer ≡ 0) × (a ≡ record { closed = b.closed + d.closed; verdict = d.verdict; stop = d.stop; answer = d.answer }) × (s' ≡ t') × (second' ≡ r')
  -- where it stopped before, at a verdict or at a refusal, the further events change nothing
  pub stays : b.answer ≡ 0 → (RanThroughC b → ⊥) → (a ≡ b) × (s' ≡ t) × (second' ≡ r)
  -- where it was refused itself, so is the other
  pub refuses : Refuses b.answer → (a.answer ≡ b.answer) × (s' ≡ t) × (second' ≡ r)
