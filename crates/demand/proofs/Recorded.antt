-- A watch of a recording, over the calls' promises: what a verdict is claimed for. A recording is mended, the stretch of the mended recording is
-- taken, and its events, as many as the call says, are captured. Then the verdict is that of one place for events of the recording's first stretch
-- alone, as many as were closed (`recorded-verdict`), and the third demand holds of the state (`recorded-demanded`). The same where the stretch is taken
-- from the recording itself (`stretched-verdict`, `stretched-demanded`). Assumes nothing.
use Rattle.std.specs.Prelude.{Ok, Err}
use mathlib.Core.Path.{◌≡◌, ap, ◌∙◌, subst}
use mathlib.Core.List.{List, ◌++◌}
use Prim.Native.Nat.{ℕ}
use lib.ListN.{take}
use Rattle.le.proofs.Laws.{Bytes}
use Rattle.ltl.specs.Meaning.{Event}
use Rattle.recordings.specs.Mending.{first_events}
use Rattle.recordings.specs.Recording.{recording_length, records_in}
use Rattle.recordings.specs.declared.Mended.{Mended}
use Rattle.mending.specs.Mend.{Mends}
use Rattle.stretching.specs.Stretch.{Stretches}
use Rattle.stretching.proofs.Mended.{mended-taken, stretch-taken}
use Rattle.capturing.specs.declared.Captured.{Captured}
use Rattle.capturing.specs.Capture.{Captures}
use Rattle.demand.specs.Called.{Watched}
use Rattle.demand.specs.Claims.{standing}
use Rattle.demand.specs.Demanded.{Demanded}
use Rattle.demand.proofs.Captured.{captured-demanded, captured-verdict}

-- ---- events that are those of a first stretch
module _ {file : List ℕ} {us : List Event} {s : List ℕ} (w : Watched file us s) (recording : List ℕ) {events second s' second' : List ℕ} {c : Captured}
    (e : events ≡ first_events (records_in recording)) (z : Captures s second events s' second' (Ok c)) where
  over-verdict : c.verdict ≡ (standing file (us ++ take c.closed (first_events (records_in recording))) s').verdict
  over-verdict = captured-verdict w z ∙ ap (λ (l : List ℕ). (standing file (us ++ take c.closed l) s').verdict) e

  over-demanded : Demanded file (us ++ take c.closed (first_events (records_in recording))) s'
  over-demanded = subst (λ (l : List ℕ). Demanded file (us ++ take c.closed l) s') e (captured-demanded w z)

-- ---- taken from the mended recording
module _ {file : List ℕ} {us : List Event} {s : List ℕ} (w : Watched file us s) {recording mended marks mended' marks' : List ℕ} {m : Mended}
    (x : Mends recording mended marks mended' marks' (Ok m)) (b : Bytes recording) {events events' : List ℕ} {n : ℕ}
    (y : Stretches (take (recording_length m.kept) mended') events events' (Ok n)) {second s' second' : List ℕ} {c : Captured}
    (z : Captures s second (take n events') s' second' (Ok c)) where
  pub recorded-verdict : c.verdict ≡ (standing file (us ++ take c.closed (first_events (records_in recording))) s').verdict
  recorded-verdict = over-verdict w recording (mended-taken x b y) z

  pub recorded-demanded : Demanded file (us ++ take c.closed (first_events (records_in recording))) s'
  recorded-demanded = over-demanded w recording (mended-taken x b y) z

-- ---- taken from the recording itself
module _ {file : List ℕ} {us : List Event} {s : List ℕ} (w : Watched file us s) {recording events events' : List ℕ} {n : ℕ} (y : Stretches recording events events' (Ok n))
    {second s' second' : List ℕ} {c : Captured} (z : Captures s second (take n events') s' second' (Ok c)) where
  pub stretched-verdict : c.verdict ≡ (standing file (us ++ take c.closed (first_events (records_in recording))) s').verdict
  stretched-verdict = over-verdict w recording (stretch-taken y).1 z

  pub stretched-demanded : Demanded file (us ++ take c.closed (first_events (records_in recording))) s'
  stretched-demanded = over-demanded w recording (stretch-taken y).1 z
