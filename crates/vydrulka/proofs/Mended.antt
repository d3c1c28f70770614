-- What `mend` and `stretch` answer of a recording: how many records a mended one has (`kept-within`), where a clash can be looked for
-- (`clash-within`), and how many events the first stretch has (`taken-within`). Of the counts that are told: those of some of the marks
-- (`counted-part`), and what they leave room for (`MendedFits`, `mended-fits`). Assumes nothing.
use Rattle.std.specs.Prelude.{Result, Ok, Err, Option, Some, None}
use mathlib.Core.Path.{◌≡◌, refl, sym, ap, subst, ◌∙◌}
use mathlib.Core.Bool.{Bool, true, false}
use mathlib.Core.List.{List}
use Prim.Native.Nat.{ℕ, ◌≤◌}
use native.Mathlib.Omega.{arith}
use lib.ListN.{length, take, get_or, length-take}
use borrow.Author.Tests.{eqb-true}
use Rattle.lists.specs.Tests.{both}
use Rattle.lists.proofs.Tests.{both-0, both-1}
use Rattle.answers.specs.declared.Refusal.{Refusal}
use Rattle.answers.specs.declared.Refusal.TheVariants.{Clash}
use Rattle.answers.specs.Said.{Said}
use Rattle.recordings.specs.Mending.{kept_of, first_stretch}
use Rattle.recordings.specs.Recording.{recording_length, count_in, record_in, records_in, total_ok, header_ok}
use Rattle.recordings.proofs.Places.{kept-count, first_count}
use Rattle.inspecting.proofs.Fits.{header-long}
use Rattle.inspecting.proofs.Checks.{says-1, says-4, says_all, passed}
use Rattle.recordings.specs.declared.Mended.{Mended}
use Rattle.mending.specs.Mend.{mend_room_ok, mend_says, Mends}
use Rattle.mending.proofs.Outcomes.{told_mend}
use Rattle.stretching.specs.Stretch.{stretch_room_ok, stretch_says, Stretches}
use Rattle.stretching.proofs.Outcomes.{told_stretch}
use Rattle.vydrulka.specs.declared.recording.RecordCounts.{RecordCounts}
use Rattle.vydrulka.specs.Rooms.{records_most, RecordingRooms, CountedTo}

number : Said → ℕ
number s = s.number

first : Said → ℕ
first s = get_or s.values 0 0

-- ---- mend
module _ (s mended marks mended' marks' : List ℕ) where
  abbrev rooms : Bool
  rooms = mend_room_ok s (length mended) (length marks)

  -- there is a mark a record
  marks-are : rooms ≡ true → length marks ≡ count_in s
  marks-are e = eqb-true (length marks) (count_in s) (both-1 _ _ e)

  pub kept-within : (a : Result Mended Refusal) (m : Mended) → a ≡ Ok m → Mends s mended marks mended' marks' a → m.kept ≤ length marks
  unfolding mend_says number first
  kept-within a m is x =
      let w = subst (Mends s mended marks mended' marks') is x in
      let p = passed rooms s (told_mend s) (sym (ap number w.says)) in
      let all = says_all rooms s (told_mend s) p.total p.lengths-ok p.header p.agrees in
      let e : m.kept ≡ length (kept_of (records_in s)) = ap first (w.says ∙ all) in
      let long = marks-are p.lengths-ok in
      let few = kept-count (record_in s) (count_in s) in
      omega arith

  -- header and length agree before a clash is looked for
  pub clash-within : (a : Result Mended Refusal) (r : Refusal) → a ≡ Err r → r ≡ Clash → Mends s mended marks mended' marks' a
      → recording_length (length marks) ≤ length s
  unfolding mend_says number
  clash-within a r is why x = go (both (total_ok s) rooms) refl (header_ok s) refl
    where
      clash : number (mend_says s (length mended) (length marks)) ≡ 20
      clash = sym (ap number (subst (Mends s mended marks mended' marks') (is ∙ ap Err why) x).says)

      go : (b : Bool) → both (total_ok s) rooms ≡ b → (h : Bool) → header_ok s ≡ h → recording_length (length marks) ≤ length s
      go true d true e = let long = header-long s (both-0 _ _ d) e in let m = marks-are (both-1 _ _ d) in omega arith
      go false d h e = let y = sym (ap number (says-1 rooms s (told_mend s) d)) ∙ clash in absurd (omega arith)
      go true d false e = let y = sym (ap number (says-4 rooms s (told_mend s) (both-0 _ _ d) (both-1 _ _ d) e)) ∙ clash in absurd (omega arith)

-- ---- stretch
module _ (s events events' : List ℕ) where
  pub taken-within : (a : Result ℕ Refusal) (n : ℕ) → a ≡ Ok n → Stretches s events events' a → n ≤ length events
  unfolding stretch_says number first
  taken-within a n is x =
      let w = subst (Stretches s events events') is x in
      let room = stretch_room_ok s (length events) in
      let p = passed room s (told_stretch s) (sym (ap number w.says)) in
      let all = says_all room s (told_stretch s) p.total p.lengths-ok p.header p.agrees in
      let e : n ≡ length (first_stretch (records_in s)) = ap first (w.says ∙ all) in
      let long = eqb-true (length events) (count_in s) p.lengths-ok in
      let few = first_count (record_in s) (count_in s) in
      omega arith

-- ---- counts
-- of some of the marks, and so of all
pub counted-part : (a : Option RecordCounts) (k : ℕ) (marks : List ℕ) {most : ℕ} → length marks ≡ most → CountedTo (length (take k marks)) a → CountedTo most a
counted-part None k marks e c = c
counted-part (Some n) k marks e c = let few = c.1 in let part = length-take k marks in (c.0, omega arith)

-- what was read, the mended recording and the marks stand within their rooms
pub record MendedFits (c : RecordCounts) (room mended marks : List ℕ) : Type 0 where
  pub kept : c.kept ≤ c.records
  pub reads : recording_length c.records ≤ length room
  pub writes : recording_length c.kept ≤ length mended
  pub marked : c.records ≤ length marks
  pub few : c.records ≤ records_most

pub mended-fits : (a : Option RecordCounts) {c : RecordCounts} → a ≡ Some c → CountedTo records_most a
    → {room mended marks : List ℕ} → RecordingRooms room mended marks
    → {room' mended' marks' : List ℕ} → length room' ≡ length room → length mended' ≡ length mended → length marks' ≡ length marks
    → MendedFits c room' mended' marks'
mended-fits a {c} is x r e f g =
    let n = subst (CountedTo records_most) is x in
    let k = n.0 in
    let most = n.1 in
    let i = r.reads in
    let j = r.writes in
    let l = r.marks-all in
    record { kept = k; reads = omega arith; writes = omega arith; marked = omega arith; few = most }
