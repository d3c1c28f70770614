-- Recordings over the promises of the calls from C, as in crates/stretching/proofs/Mended.antt. Where `vydrulka_mend` answers 0, mending the mended
-- recording again changes nothing (`c-mended-again`); a stretch of it has the events of the first stretch of the recording (`c-mended-stretch`),
-- and one of the recording itself begins with the same events (`c-stretch-either`). A call that answers 0 does what the call's own promise allows,
-- with the values that it stores (`mend-from-c`, `stretch-from-c`). Assumes nothing.
use Rattle.std.specs.Prelude.{Ok, Err}
use mathlib.Core.Path.{◌≡◌, sym, ap, ap₂, ◌∙◌}
use mathlib.Core.List.{List, [], ◌∷◌}
use Prim.Native.Nat.{ℕ}
use lib.ListN.{length, take}
use Rattle.lists.specs.Tests.{pick}
use Rattle.lists.specs.Runs.{padded}
use Rattle.le.proofs.Laws.{Bytes}
use Rattle.answers.specs.Said.{Said, accepted}
use Rattle.recordings.specs.Mending.{not_dropped, first_events}
use Rattle.recordings.specs.Recording.{recording_length, count_in, records_in}
use Rattle.mending.specs.Mend.{Mends}
use Rattle.stretching.specs.Stretch.{Stretches}
use Rattle.stretching.proofs.Mended.{mend-told, stretch-told, again-allowed, stretch-allowed, mended-stretch, either-allowed, stretch-either}
use Rattle.exported.specs.Exported.{value_at, MendExported, StretchExported}

-- ---- accepted
pub mend-from-c : {s mended marks mended' marks' : List ℕ} {k f kept first : ℕ} → MendExported s mended marks mended' marks' k f kept first 0
    → Mends s mended marks mended' marks' (Ok (record { kept = kept; first = first }))
unfolding value_at pick
mend-from-c {s} {mended} {marks} {k = k} {f = f} x =
    let e = mend-told s (length mended) (length marks) (sym x.says) in
    record {
      says = ap₂ (λ (a b : ℕ). accepted (a ∷ b ∷ [])) (x.gives-kept ∙ ap (λ (a : Said). value_at a 0 k) e) (x.gives-first ∙ ap (λ (a : Said). value_at a 1 f) e) ∙ sym e;
      leaves = x.leaves;
      leaves-marks = x.leaves-marks;
    }

pub stretch-from-c : {s events events' : List ℕ} {f first : ℕ} → StretchExported s events events' f first 0 → Stretches s events events' (Ok first)
unfolding value_at pick
stretch-from-c {s} {events} {f = f} x =
    let e = stretch-told s (length events) (sym x.says) in
    record { says = ap (λ (a : ℕ). accepted (a ∷ [])) (x.gives-first ∙ ap (λ (a : Said). value_at a 0 f) e) ∙ sym e; leaves = x.leaves }

-- a stretch that may be taken is
taken-from-c : {s events events' due : List ℕ} {f f' n first : ℕ} → StretchExported s events events' f f' n → Stretches s events due (Ok first)
    → (n ≡ 0) × (f' ≡ first) × (events' ≡ due)
unfolding value_at pick
taken-from-c {f = f} y p =
    let e = sym p.says in
    (y.says ∙ ap (λ (a : Said). a.number) e, y.gives-first ∙ ap (λ (a : Said). value_at a 0 f) e, y.leaves ∙ sym p.leaves)

module _ {s mended marks mended' marks' : List ℕ} {k f kept first : ℕ} (x : MendExported s mended marks mended' marks' k f kept first 0) where
  -- ---- the recording itself
  pub c-stretch-either : {events events' : List ℕ} {g g' n : ℕ} → length events ≡ count_in s → StretchExported s events events' g g' n
      → (n ≡ 0) × (g' ≡ first) × (take first events' ≡ first_events (records_in s))
  c-stretch-either {events} room y =
      let p = either-allowed (mend-from-c x) events room in
      let d = taken-from-c y p in
      (d.0, d.1, ap (take first) d.2 ∙ (stretch-either (mend-from-c x) room p).1)

  -- ---- the mended recording
  module _ (b : Bytes s) where
    pub c-mended-again : {out list out' list' : List ℕ} {h g h' g' n : ℕ} → length out ≡ recording_length kept → length list ≡ kept
        → MendExported (take (recording_length kept) mended') out list out' list' h g h' g' n
        → (n ≡ 0) × (h' ≡ kept) × (g' ≡ first) × (out' ≡ take (recording_length kept) mended') × (list' ≡ not_dropped marks' marks')
    unfolding value_at pick
    c-mended-again {out} {list} {h = h} {g = g} room count y =
        let p = again-allowed (mend-from-c x) b out list room count in
        let e = sym p.says in (
          y.says ∙ ap (λ (a : Said). a.number) e,
          y.gives-kept ∙ ap (λ (a : Said). value_at a 0 h) e,
          y.gives-first ∙ ap (λ (a : Said). value_at a 1 g) e,
          y.leaves ∙ sym p.leaves,
          y.leaves-marks ∙ sym p.leaves-marks,
        )

    pub c-mended-stretch : {events events' : List ℕ} {g g' n : ℕ} → length events ≡ kept → StretchExported (take (recording_length kept) mended') events events' g g' n
        → (n ≡ 0) × (g' ≡ first) × (events' ≡ padded kept (first_events (records_in s))) × (take first events' ≡ first_events (records_in s))
    c-mended-stretch {events} room y =
        let p = stretch-allowed (mend-from-c x) b events room in
        let d = taken-from-c y p in
        (d.0, d.1, d.2, ap (take first) d.2 ∙ (mended-stretch (mend-from-c x) b room p).2)
