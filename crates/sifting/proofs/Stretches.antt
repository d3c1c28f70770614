-- The two passes together: up to the first break what is kept is the first stretch (`first-reached`), where no break ends it all records are gone
-- through (`all-reached`), and with zeros behind them the kept records are all that is put (`sifted`). Assumes nothing.
use mathlib.Core.Path.{◌≡◌, refl, sym, ap, ◌∙◌}
use mathlib.Core.Bool.{Bool, true, false}
use mathlib.Core.List.{List, ◌++◌}
use Prim.Native.Nat.{ℕ, ◌-◌, ◌*◌, ◌<◌, ◌≤◌}
use native.Mathlib.Omega.{arith}
use native.Mathlib.Decide.{ℕ_discrete}
use lib.ListN.{length, drop, replicate, length-drop, take-append-drop}
use lib.Seq.{take_all}
use borrow.Author.Tests.{eq-eqb}
use Rattle.lists.specs.Runs.{tail, tail_as}
use Rattle.lists.specs.Listed.{listed}
use Rattle.lists.proofs.Tests.{no_true}
use Rattle.lists.proofs.Stretches.{tail-clear}
use Rattle.recordings.specs.Records.{broken}
use Rattle.recordings.specs.Mending.{not_dropped, before_break, kept_of, first_stretch, mark_by}
use Rattle.recordings.specs.Recording.{record_length, record_in, record_bytes}
use Rattle.recordings.proofs.Places.{whole, whole-all, marks-listed, stretch-whole, stretch-stops}
use Rattle.recordings.proofs.Bytes.{records-length}
use Rattle.sifting.specs.declared.Reached.{Reached}
use Rattle.sifting.specs.Sifted.{kept_to, SiftAsk, SiftsTo, Sifts}
use Rattle.sifting.proofs.Turning.{kept-least}

-- what is asked, of lists that keep their lengths
pub ask-again : {s out out' marks marks' : List ℕ} → SiftAsk s out marks → length out' ≡ length out → length marks' ≡ length marks → SiftAsk s out' marks'
ask-again a e f = let r = a.room in let o = a.out-room in record { room = omega arith; out-room = omega arith; clear = λ i h. a.clear i (omega arith) }

-- ---- up to the first break
pub first-reached : {s out marks : List ℕ} {n : ℕ} {r : Reached} → SiftsTo s out marks n 0 true r → r.kept ≡ length (first_stretch (listed (record_in s) n))
first-reached {s} {out} {marks} {n} {r} t = t.sifted.count ∙ ap length (go (ℕ_discrete r.place n))
  where
    still : whole (listed (mark_by (record_in s)) r.place) ≡ true
    still = whole-all (mark_by (record_in s)) r.place (λ j h. t.none refl (λ k l. absurd (omega arith)) j h)

    go : Dec (r.place ≡ n) → kept_to s r.place ≡ first_stretch (listed (record_in s) n)
    go (yes e) =
        sym (stretch-whole (mark_by (record_in s)) (record_in s) r.place still)
        ∙ ap (λ (k : ℕ). before_break (listed (mark_by (record_in s)) k) (listed (record_in s) k)) e
        ∙ ap (λ (ms : List ℕ). before_break ms (listed (record_in s) n)) (sym (marks-listed (record_in s) n))
    go (no e) =
        let few = t.few in
        let h : r.place < n = omega arith in
        sym (stretch-whole (mark_by (record_in s)) (record_in s) r.place still)
        ∙ sym (stretch-stops (mark_by (record_in s)) (record_in s) r.place n still h (eq-eqb (mark_by (record_in s) r.place) broken (t.stops h).1))
        ∙ ap (λ (ms : List ℕ). before_break ms (listed (record_in s) n)) (sym (marks-listed (record_in s) n))

-- ---- all of them
pub all-reached : {s out marks : List ℕ} {n from : ℕ} {r : Reached} → SiftsTo s out marks n from false r → r.place ≡ n
all-reached {s} {out} {marks} {n} {from} {r} t = go (ℕ_discrete r.place n)
  where
    go : Dec (r.place ≡ n) → r.place ≡ n
    go (yes e) = e
    go (no e) = let few = t.few in absurd (no_true (t.stops (omega arith)).0)

-- they have room where they are put
pub room_kept : {s out out₁ marks marks₁ : List ℕ} (out₂ : List ℕ) {n from : ℕ} {stop : Bool} {r : Reached} → SiftAsk s out marks → SiftsTo s out₁ marks₁ n from stop r
    → n ≡ length marks → length out₂ ≡ length out → record_length * r.kept ≤ length out₂
room_kept out₂ a t e f = let k = kept-least t.sifted in let n = t.few in let o = a.out-room in omega arith

-- ---- and zeros behind them
pub sifted : {s out out₁ out₂ cleared marks : List ℕ} {n m f from : ℕ} {r : Reached} → SiftsTo s out₁ marks m from false r → m ≡ n → f ≡ length (first_stretch (listed (record_in s) n))
    → length out₁ ≡ length out → length marks ≡ n → record_length * n ≤ length out
    → cleared ≡ replicate (length (tail (record_length * r.kept) out₁)) 0 → out₂ ≡ tail_as (record_length * r.kept) out₁ cleared
    → Sifts s out out₂ marks n (record { kept = r.kept; first = f })
sifted {s} {out} {out₁} {out₂} {cleared} {marks} {n} {m} {f} {from} {r} t count-is first long list room e p =
    let all = all-reached t ∙ count-is in
    let few = kept-least t.sifted in
    let at = record_length * r.kept in
    let same : kept_to s r.place ≡ kept_of (listed (record_in s) n) =
    ap (kept_to s) all ∙ ap (λ (ms : List ℕ). not_dropped ms (listed (record_in s) n)) (sym (marks-listed (record_in s) n)) in
    let ks = kept_of (listed (record_in s) n) in
    let front : out₁ ≡ record_bytes ks ++ drop at out₁ = sym (take-append-drop at out₁) ∙ ap (◌++ drop at out₁) (t.sifted.put ∙ ap record_bytes same) in
    let count : r.kept ≡ length ks = t.sifted.count ∙ ap length same in
    let size : length (record_bytes ks) ≡ at = records-length ks ∙ ap (record_length *◌) (sym count) in
    let rest : length (drop at out₁) ≡ length out - length (record_bytes ks) = length-drop at out₁ ∙ (let z = size in omega arith) in
    record {
      kept = count;
      first = first;
      few = omega arith;
      put = p ∙ tail-clear out₁ (record_bytes ks) (drop at out₁) at front size cleared e ∙ ap (λ (k : ℕ). record_bytes ks ++ replicate {A = ℕ} k 0) rest;
      marks = sym (take_all r.place marks (omega arith)) ∙ t.sifted.marked ∙ ap (listed (mark_by (record_in s))) all ∙ sym (marks-listed (record_in s) n);
    }
