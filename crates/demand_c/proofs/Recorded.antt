-- A watch of a recording by the calls from C, as in crates/demand: mended, its stretch taken, and the events captured, each answering 0. The
-- verdict that is stored is that of one place for events of the recording's first stretch alone, as many as were closed (`c-recorded-verdict`),
-- and the third demand holds of the state (`c-recorded-demanded`). The same where the stretch is taken from the recording itself
-- (`c-stretched-verdict`, `c-stretched-demanded`). Assumes nothing.
use mathlib.Core.Path.{◌≡◌, ap, ◌∙◌, subst}
use mathlib.Core.List.{List, ◌++◌}
use Prim.Native.Nat.{ℕ}
use lib.ListN.{take}
use Rattle.le.proofs.Laws.{Bytes}
use Rattle.answers.specs.Said.{verdict_number}
use Rattle.ltl.specs.Meaning.{Event}
use Rattle.recordings.specs.Mending.{first_events}
use Rattle.recordings.specs.Recording.{recording_length, records_in}
use Rattle.stretching.proofs.Mended.{mended-taken, stretch-taken}
use Rattle.exported.specs.Exported.{CaptureExported, MendExported, StretchExported}
use Rattle.exported.proofs.Recordings.{mend-from-c, stretch-from-c}
use Rattle.demand.specs.Claims.{standing}
use Rattle.demand_c.specs.FromC.{WatchedFromC}
use Rattle.demand_c.specs.Demanded.{DemandedFromC}
use Rattle.demand_c.proofs.Captured.{c-captured-demanded, c-captured-verdict}

-- ---- events that are those of a first stretch
module _ {file : List ℕ} {us : List Event} {s : List ℕ} (w : WatchedFromC file us s) (recording : List ℕ) {events second s' second' : List ℕ} {count verdict stop count' verdict' stop' : ℕ}
    (e : events ≡ first_events (records_in recording)) (z : CaptureExported s second events s' second' count verdict stop count' verdict' stop' 0) where
  over-verdict : verdict' ≡ verdict_number (standing file (us ++ take count' (first_events (records_in recording))) s').verdict
  over-verdict = c-captured-verdict w z ∙ ap (λ (l : List ℕ). verdict_number (standing file (us ++ take count' l) s').verdict) e

  over-demanded : DemandedFromC file (us ++ take count' (first_events (records_in recording))) s'
  over-demanded = subst (λ (l : List ℕ). DemandedFromC file (us ++ take count' l) s') e (c-captured-demanded w z)

-- ---- taken from the mended recording
module _ {file : List ℕ} {us : List Event} {s : List ℕ} (w : WatchedFromC file us s) {recording mended marks mended' marks' : List ℕ} {k f kept first : ℕ}
    (x : MendExported recording mended marks mended' marks' k f kept first 0) (b : Bytes recording) {events events' : List ℕ} {g taken : ℕ}
    (y : StretchExported (take (recording_length kept) mended') events events' g taken 0) {second s' second' : List ℕ} {count verdict stop count' verdict' stop' : ℕ}
    (z : CaptureExported s second (take taken events') s' second' count verdict stop count' verdict' stop' 0) where
  these : take taken events' ≡ first_events (records_in recording)
  these = mended-taken (mend-from-c x) b (stretch-from-c y)

  pub c-recorded-verdict : verdict' ≡ verdict_number (standing file (us ++ take count' (first_events (records_in recording))) s').verdict
  c-recorded-verdict = over-verdict w recording these z

  pub c-recorded-demanded : DemandedFromC file (us ++ take count' (first_events (records_in recording))) s'
  c-recorded-demanded = over-demanded w recording these z

-- ---- taken from the recording itself
module _ {file : List ℕ} {us : List Event} {s : List ℕ} (w : WatchedFromC file us s) {recording events events' : List ℕ} {g taken : ℕ}
    (y : StretchExported recording events events' g taken 0) {second s' second' : List ℕ} {count verdict stop count' verdict' stop' : ℕ}
    (z : CaptureExported s second (take taken events') s' second' count verdict stop count' verdict' stop' 0) where
  pub c-stretched-verdict : verdict' ≡ verdict_number (standing file (us ++ take count' (first_events (records_in recording))) s').verdict
  c-stretched-verdict = over-verdict w recording (stretch-taken (stretch-from-c y)).1 z

  pub c-stretched-demanded : DemandedFromC file (us ++ take count' (first_events (records_in recording))) s'
  c-stretched-demanded = over-demanded w recording (stretch-taken (stretch-from-c y)).1 z
