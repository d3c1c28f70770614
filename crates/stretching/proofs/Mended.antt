-- A recording that `mend` was accepted of, over the calls' promises alone. The mended recording is what was left, cut to its length. Mending it
-- again changes nothing (`mended-again`); a stretch of it has the events of the first stretch of the recording (`mended-stretch`), and one of the
-- recording itself begins with the same events (`stretch-either`). That the calls may answer so: `again-allowed`, `stretch-allowed`, `either-allowed`.
-- What an accepted stretch has left in front: `stretch-taken` of any recording, `mended-taken` of the mended one. What an accepted call says:
-- `mend-told`, `stretch-told`. Assumes nothing.
use Rattle.std.specs.Prelude.{Result, Ok}
use Rattle.answers.specs.declared.Refusal.{Refusal}
use mathlib.Core.Path.{◌≡◌, sym, ap, ap₂, ◌∙◌, subst}
use mathlib.Core.Bool.{true}
use mathlib.Core.List.{List, [], ◌∷◌, ◌++◌, map, append-nil}
use Prim.Native.Nat.{ℕ, ◌-◌, ◌<◌, ◌^◌}
use native.Mathlib.Omega.{arith}
use lib.ListN.{length, take, replicate, get_or, length-map}
use lib.Seq.{take_at}
use borrow.Author.Tests.{eqb-true, eq-eqb, le-leb}
use Rattle.lists.specs.Runs.{padded}
use Rattle.lists.proofs.Tests.{both-1, both_true}
use Rattle.answers.specs.Said.{Said, accepted, left}
use Rattle.answers.proofs.Answers.{left-accepted}
use Rattle.le.proofs.Laws.{Bytes, le_at-less}
use Rattle.recordings.specs.declared.Mended.{Mended}
use Rattle.recordings.specs.Records.{Record}
use Rattle.recordings.specs.Mending.{marks_of, not_dropped, kept_of, first_stretch, first_events, agree}
use Rattle.recordings.specs.Recording.{records_at, recording_length, count_in, offset_in, total_in, fourth_in, record_in, records_in, total_ok, header_ok, recording_of}
use Rattle.recordings.proofs.Twice.{mended-twice, mended-breaks, mended-agrees, stretch-mended}
use Rattle.recordings.proofs.Places.{kept-count}
use Rattle.recordings.proofs.Bytes.{recording-length, header_read, records-read, records-fit, kept-fit}
use Rattle.inspecting.proofs.Fits.{header-long}
use Rattle.inspecting.proofs.Checks.{AllPassed, passed, says_all}
use Rattle.mending.specs.Mend.{mend_room_ok, mend_says, mended_for, Mends}
use Rattle.mending.proofs.Outcomes.{told_mend}
use Rattle.mending.proofs.Determined.{mends-determined}
use Rattle.stretching.specs.Stretch.{stretch_room_ok, stretch_says, events_for, Stretches}
use Rattle.stretching.proofs.Outcomes.{told_stretch}
use Rattle.stretching.proofs.Determined.{stretches-determined}

-- ---- accepted
mend-passed : (s : List ℕ) (room list : ℕ) → (mend_says s room list).number ≡ 0 → AllPassed (mend_room_ok s room list) s (told_mend s)
unfolding mend_says
mend-passed s room list z = passed (mend_room_ok s room list) s (told_mend s) z

mend-all : (s : List ℕ) (room list : ℕ) → AllPassed (mend_room_ok s room list) s (told_mend s) → mend_says s room list ≡ told_mend s
unfolding mend_says
mend-all s room list p = says_all _ s (told_mend s) p.total p.lengths-ok p.header p.agrees

-- what a mend says that is accepted
pub mend-told : (s : List ℕ) (room list : ℕ) → (mend_says s room list).number ≡ 0 → mend_says s room list ≡ told_mend s
mend-told s room list z = mend-all s room list (mend-passed s room list z)

stretch-all : (s : List ℕ) (room : ℕ) → AllPassed (stretch_room_ok s room) s (told_stretch s) → stretch_says s room ≡ told_stretch s
unfolding stretch_says
stretch-all s room p = says_all _ s (told_stretch s) p.total p.lengths-ok p.header p.agrees

-- what a stretch says that is accepted
pub stretch-told : (s : List ℕ) (room : ℕ) → (stretch_says s room).number ≡ 0 → stretch_says s room ≡ told_stretch s
unfolding stretch_says
stretch-told s room z = stretch-all s room (passed (stretch_room_ok s room) s (told_stretch s) z)

-- the events of some records
abbrev events_of : List Record → List ℕ
events_of rs = map (λ r. r.event) rs

events-front : (s : List ℕ) (n k : ℕ) → n ≡ length (first_stretch (records_in s)) → take n (padded k (first_events (records_in s))) ≡ first_events (records_in s)
events-front s n k e =
    take_at (first_events (records_in s)) (replicate (k - length (first_events (records_in s))) 0) n (length-map (first_stretch (records_in s)) (λ (r : Record). r.event) ∙ sym e)

pub stretch-taken : {s events events' : List ℕ} {n : ℕ} → Stretches s events events' (Ok n) → (n ≡ length (first_stretch (records_in s))) × (take n events' ≡ first_events (records_in s))
stretch-taken {s} {events} {events'} {n} y =
    let told = stretch-told s (length events) (sym (ap (λ (a : Said). a.number) y.says)) in
    let e = ap (λ (a : Said). get_or a.values 0 0) (y.says ∙ told) in
    let l = y.leaves ∙ ap (λ (a : Said). left a (events_for s) events) told ∙ left-accepted _ (events_for s) events in
    (e, ap (take n) l ∙ events-front s n (count_in s) e)

-- ---- a recording that was written: its checks
module _ (rs : List Record) (few : recording_length (length rs) < 2 ^ 32) where
  written-total : total_ok (recording_of rs) ≡ true
  unfolding total_ok
  written-total =
      let r = recording_of rs in
      let l = recording-length rs in
      both_true _ _ (le-leb records_at (length r) (omega arith)) (eq-eqb (total_in r) (length r) ((header_read rs few).total ∙ sym l))

  written-header : header_ok (recording_of rs) ≡ true
  unfolding header_ok
  written-header =
      let r = recording_of rs in
      let h = header_read rs few in
      both_true _ _ (eq-eqb (offset_in r) records_at h.offset)
      (both_true _ _ (eq-eqb (total_in r) (recording_length (count_in r)) (h.total ∙ ap recording_length (sym h.count))) (eq-eqb (fourth_in r) 0 h.fourth))

-- ---- the mended recording
module _ {s mended marks mended' marks' : List ℕ} {m : Mended} (x : Mends s mended marks mended' marks' (Ok m)) where
  passes : AllPassed (mend_room_ok s (length mended) (length marks)) s (told_mend s)
  passes = mend-passed s (length mended) (length marks) (sym (ap (λ (a : Said). a.number) x.says))

  told : mend_says s (length mended) (length marks) ≡ told_mend s
  told = mend-all s (length mended) (length marks) passes

  kept-is : m.kept ≡ length (kept_of (records_in s))
  kept-is = ap (λ (a : Said). get_or a.values 0 0) (x.says ∙ told)

  first-is : m.first ≡ length (first_stretch (records_in s))
  first-is = ap (λ (a : Said). get_or a.values 1 0) (x.says ∙ told)

  marks-are : marks' ≡ marks_of (records_in s)
  marks-are = x.leaves-marks ∙ ap (λ (a : Said). left a (marks_of (records_in s)) marks) told ∙ left-accepted _ (marks_of (records_in s)) marks

  cut-is : take (recording_length m.kept) mended' ≡ recording_of (kept_of (records_in s))
  cut-is =
      let ks = kept_of (records_in s) in
      let l = x.leaves ∙ ap (λ (a : Said). left a (mended_for s) mended) told ∙ left-accepted _ (mended_for s) mended in
      ap₂ (λ (n : ℕ) (t : List ℕ). take (recording_length n) t) kept-is l
      ∙ take_at (recording_of ks) (replicate (length s - length (recording_of ks)) 0) (recording_length (length ks)) (recording-length ks)

  -- the recording itself
  pub either-allowed : (events : List ℕ) → length events ≡ count_in s → Stretches s events (padded (count_in s) (first_events (records_in s))) (Ok m.first)
  either-allowed events room =
      let p = passes in
      let e = stretch-all s (length events) (record { total = p.total; lengths-ok = eq-eqb (length events) (count_in s) room; header = p.header; agrees = p.agrees }) in
      record {
        says = ap (λ (n : ℕ). accepted (n ∷ [])) first-is ∙ sym e;
        leaves = sym (ap (λ (a : Said). left a (events_for s) events) e ∙ left-accepted _ (events_for s) events);
      }

  pub stretch-either : {events events' : List ℕ} {answer : Result ℕ Refusal} → length events ≡ count_in s → Stretches s events events' answer
      → (answer ≡ Ok m.first) × (take m.first events' ≡ first_events (records_in s))
  stretch-either {events} {answer = answer} room y =
      let d = stretches-determined answer (Ok m.first) y (either-allowed events room) in
      (d.0, ap (take m.first) d.1 ∙ events-front s m.first (count_in s) first-is)

  module _ (b : Bytes s) where
    few : recording_length (length (kept_of (records_in s))) < 2 ^ 32
    unfolding total_ok
    few =
        let k = kept-count (record_in s) (count_in s) in
        let w = header-long s passes.total passes.header in
        let t = eqb-true (total_in s) (length s) (both-1 _ _ passes.total) in
        let top = le_at-less s 8 4 b in
        omega arith

    read_back : records_in (recording_of (kept_of (records_in s))) ≡ kept_of (records_in s)
    read_back = records-read (kept_of (records_in s)) (kept-fit (records_in s) (records-fit s b)) few

    count-back : count_in (recording_of (kept_of (records_in s))) ≡ m.kept
    count-back = (header_read (kept_of (records_in s)) few).count ∙ sym kept-is

    agrees_back : agree (records_in (recording_of (kept_of (records_in s)))) ≡ true
    agrees_back = ap agree read_back ∙ mended-agrees (records_in s) passes.agrees

    stretch-back : first_stretch (records_in (recording_of (kept_of (records_in s)))) ≡ first_stretch (records_in s)
    stretch-back = ap first_stretch read_back ∙ stretch-mended (records_in s)

    -- mended again
    pub again-allowed : (out list : List ℕ) → length out ≡ recording_length m.kept → length list ≡ m.kept
        → Mends (take (recording_length m.kept) mended') out list (take (recording_length m.kept) mended') (not_dropped marks' marks') (Ok m)
    again-allowed out list room count =
        let rs = records_in s in
        let r = recording_of (kept_of rs) in
        let long : length out ≡ length r = room ∙ ap recording_length kept-is ∙ sym (recording-length (kept_of rs)) in
        let lengths = both_true _ _ (eq-eqb (length out) (length r) long) (eq-eqb (length list) (count_in r) (count ∙ sym count-back)) in
        let e = mend-all r (length out) (length list) (record { total = written-total (kept_of rs) few; lengths-ok = lengths; header = written-header (kept_of rs) few; agrees = agrees_back }) in
        let same : kept_of (records_in r) ≡ kept_of rs = ap kept_of read_back ∙ mended-twice rs in
        let none : length r - length r ≡ 0 = omega arith in
        let bytes : mended_for r ≡ r =
        ap (λ (ks : List Record). padded (length r) (recording_of ks)) same ∙ ap (λ (k : ℕ). r ++ replicate {A = ℕ} k 0) none ∙ append-nil r in
        subst (λ (t : List ℕ). Mends t out list t (not_dropped marks' marks') (Ok m)) (sym cut-is)
        (record {
          says = ap₂ (λ (k f : ℕ). accepted (k ∷ f ∷ [])) (kept-is ∙ ap length (sym same)) (first-is ∙ ap length (sym stretch-back)) ∙ sym e;
          leaves = sym (ap (λ (a : Said). left a (mended_for r) out) e ∙ left-accepted _ (mended_for r) out ∙ bytes);
          leaves-marks = ap (λ (ms : List ℕ). not_dropped ms ms) marks-are ∙ sym (mended-breaks rs) ∙ ap marks_of (sym read_back)
              ∙ sym (ap (λ (a : Said). left a (marks_of (records_in r)) list) e ∙ left-accepted _ (marks_of (records_in r)) list);
        })

    pub mended-again : {out list out' list' : List ℕ} {answer : Result Mended Refusal} → length out ≡ recording_length m.kept → length list ≡ m.kept
        → Mends (take (recording_length m.kept) mended') out list out' list' answer
        → (answer ≡ Ok m) × (out' ≡ take (recording_length m.kept) mended') × (list' ≡ not_dropped marks' marks')
    mended-again {out} {list} {answer = answer} room count y = mends-determined answer (Ok m) y (again-allowed out list room count)

    -- its stretch
    pub stretch-allowed : (events : List ℕ) → length events ≡ m.kept
        → Stretches (take (recording_length m.kept) mended') events (padded m.kept (first_events (records_in s))) (Ok m.first)
    stretch-allowed events room =
        let rs = records_in s in
        let r = recording_of (kept_of rs) in
        let e = stretch-all r (length events)
        (record { total = written-total (kept_of rs) few; lengths-ok = eq-eqb (length events) (count_in r) (room ∙ sym count-back); header = written-header (kept_of rs) few; agrees = agrees_back }) in
        subst (λ (t : List ℕ). Stretches t events (padded m.kept (first_events rs)) (Ok m.first)) (sym cut-is)
        (record {
          says = ap (λ (n : ℕ). accepted (n ∷ [])) (first-is ∙ ap length (sym stretch-back)) ∙ sym e;
          leaves = sym (ap (λ (a : Said). left a (events_for r) events) e ∙ left-accepted _ (events_for r) events ∙ ap₂ padded count-back (ap events_of stretch-back));
        })

    pub mended-stretch : {events events' : List ℕ} {answer : Result ℕ Refusal} → length events ≡ m.kept → Stretches (take (recording_length m.kept) mended') events events' answer
        → (answer ≡ Ok m.first) × (events' ≡ padded m.kept (first_events (records_in s))) × (take m.first events' ≡ first_events (records_in s))
    mended-stretch {events} {answer = answer} room y =
        let d = stretches-determined answer (Ok m.first) y (stretch-allowed events room) in
        (d.0, d.1, ap (take m.first) d.1 ∙ events-front s m.first m.kept first-is)

    pub mended-taken : {events events' : List ℕ} {n : ℕ} → Stretches (take (recording_length m.kept) mended') events events' (Ok n) → take n events' ≡ first_events (records_in s)
    mended-taken y = (stretch-taken y).1 ∙ ap (λ (t : List ℕ). first_events (records_in t)) cut-is ∙ ap first_events read_back ∙ ap events_of (stretch-mended (records_in s))
