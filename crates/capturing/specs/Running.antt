-- The run of a capture's events, below the call: what is asked, and what it comes to. Assumes nothing: these are definitions.
use Rattle.std.specs.Prelude.{◌≡◌, List, ℕ, length, replicate}
use Rattle.state.specs.declared.Counts.{Counts}
use Rattle.state.specs.Form.{form_in, state_length}
use Rattle.storing.specs.Stores.{ZeroFrom}
use Rattle.advancing.specs.Advance.{Lent}
use Rattle.giving.specs.Give.{GoingOn}
use Rattle.capturing.specs.declared.Captured.{Captured}
use Rattle.capturing.specs.declared.running.Ran.{Ran}
use Rattle.course.specs.Course.{coursed}
use Rattle.capturing.specs.Capture.{told, values_of}

-- a watch that goes on, and a second buffer of its length
pub record RunningAsk (s : List ℕ) (c : Counts) (second : List ℕ) : Type 0 where
  pub going : GoingOn s c
  pub long : length second ≡ state_length (form_in s)

-- the same, with what each tick is lent
pub record RunAsk (s : List ℕ) (c : Counts) (second masks owner u tags : List ℕ) : Type 0 where
  pub ask : RunningAsk s c second
  pub lent : Lent s masks owner u tags

-- what the run comes to; the second buffer is zero from a place on
pub record Runs (s events s' second' : List ℕ) (r : Ran) : Type 0 where
  pub tells : values_of r.captured ≡ told (coursed s events)
  pub leaves : s' ≡ (coursed s events).leaves
  pub zeros : ZeroFrom r.used second'

-- and all of it zero once that is cleared
pub record RanAll (s second events s' second' : List ℕ) (c : Captured) : Type 0 where
  pub tells : values_of c ≡ told (coursed s events)
  pub leaves : s' ≡ (coursed s events).leaves
  pub clears : second' ≡ replicate (length second) 0
