-- A recording's bytes: how many there are, those of two lists of records (`records-both`), that they are bytes, and that a recording which is written is read back (`header_read`,
-- `records-read`). Records that are read fit their bytes (`records-fit`), and so do those that are kept (`kept-fit`). Assumes nothing.
use mathlib.Core.Path.{◌≡◌, refl, sym, ap, ap₂, ◌∙◌}
use mathlib.Core.Bool.{Bool, true, false}
use mathlib.Core.List.{List, [], ◌∷◌, ◌++◌, append_assoc}
use Prim.Native.Nat.{ℕ, zero, suc, ◌+◌, ◌*◌, ◌<◌, ◌≤◌, ◌^◌}
use native.Mathlib.Nat.{mod-eq_of_lt, add-zero}
use native.Mathlib.Omega.{arith}
use lib.ListN.{length, length-append}
use lib.Dec.{eqb}
use Rattle.lists.specs.Tests.{pick}
use Rattle.lists.specs.Listed.{listed}
use Rattle.lists.proofs.Listed.{listed_same}
use Rattle.le.specs.Le.{le, le_at}
use Rattle.le.proofs.Laws.{Bytes, le-length, le_at-front, le_at-behind, le_at-less, le_at-le, bytes-both, le_bytes, number-bytes}
use Rattle.recordings.specs.Records.{Record, dropped}
use Rattle.recordings.specs.Mending.{not_dropped, kept_of, marks_of}
use Rattle.recordings.specs.Recording.{records_at, record_length, recording_length, count_in, offset_in, total_in, fourth_in, record_in, records_in, header_of, one_record, record_bytes, recording_of}
use Rattle.recordings.specs.Kept.{FitsRecord, AllFit}

-- ---- how many
pub record-length : (r : Record) → length (one_record r) ≡ record_length
unfolding one_record le
record-length r = refl

pub records-length : (rs : List Record) → length (record_bytes rs) ≡ record_length * length rs
unfolding record_bytes
records-length [] = refl
records-length (r ∷ rs) = length-append (one_record r) (record_bytes rs) ∙ (let a = record-length r in let b = records-length rs in omega arith)

pub header-length : (n : ℕ) → length (header_of n) ≡ records_at
unfolding header_of le
header-length n = refl

pub recording-length : (rs : List Record) → length (recording_of rs) ≡ recording_length (length rs)
unfolding recording_of
recording-length rs =
    length-append (header_of (length rs)) (record_bytes rs) ∙ (let a = header-length (length rs) in let b = records-length rs in omega arith)

pub records-both : (xs ys : List Record) → record_bytes (xs ++ ys) ≡ record_bytes xs ++ record_bytes ys
unfolding record_bytes
records-both [] ys = refl
records-both (x ∷ xs) ys = ap (one_record x ++◌) (records-both xs ys) ∙ sym (append_assoc (one_record x) (record_bytes xs) (record_bytes ys))

-- ---- bytes
record-bytes : (rs : List Record) → Bytes (record_bytes rs)
unfolding record_bytes one_record
record-bytes [] = λ i. omega arith
record-bytes (r ∷ rs) = bytes-both (one_record r) (record_bytes rs) (number-bytes 4 r.counter (le 8 r.event) (le_bytes 8 r.event)) (record-bytes rs)

pub recording-bytes : (rs : List Record) → Bytes (recording_of rs)
unfolding recording_of header_of
recording-bytes rs =
    let n = length rs in
    let d = le 4 0 in
    let c = le 4 (recording_length n) ++ d in
    let b = le 4 records_at ++ c in
    bytes-both (header_of n) (record_bytes rs)
    (number-bytes 4 n b (number-bytes 4 records_at c (number-bytes 4 (recording_length n) d (le_bytes 4 0)))) (record-bytes rs)

-- ---- read back
-- the record in the bytes of records at a place
read_at : List ℕ → ℕ → Record
read_at b i = record { counter = le_at b (record_length * i) 4; event = le_at b (record_length * i + 4) 8 }

first_read : (r : Record) (b : List ℕ) → FitsRecord r → read_at (one_record r ++ b) 0 ≡ r
unfolding one_record read_at le
first_read r b fits =
    let c = le 4 r.counter in
    let v = le 8 r.event in
    let e = le_at-le [] (v ++ b) 0 4 r.counter refl ∙ mod-eq_of_lt fits.counter in
    let f = le_at-le c b 4 8 r.event refl ∙ mod-eq_of_lt fits.event in
    λ i. record { counter = e i; event = f i }

behind-read : (r : Record) (b : List ℕ) (i : ℕ) → read_at (one_record r ++ b) (suc i) ≡ read_at b i
unfolding read_at
behind-read r b i =
    let l = record-length r in
    let s = one_record r ++ b in
    let e : record_length * suc i ≡ length (one_record r) + record_length * i = omega arith in
    let g : record_length * suc i + 4 ≡ length (one_record r) + (record_length * i + 4) = omega arith in
    let c = ap (λ (k : ℕ). le_at s k 4) e ∙ le_at-behind (one_record r) b (record_length * i) 4 in
    let v = ap (λ (k : ℕ). le_at s k 8) g ∙ le_at-behind (one_record r) b (record_length * i + 4) 8 in
    λ z. record { counter = c z; event = v z }

all_read : (rs : List Record) → AllFit rs → listed (read_at (record_bytes rs)) (length rs) ≡ rs
unfolding record_bytes listed
all_read [] fits = refl
all_read (r ∷ rs) fits =
    ap₂ ◌∷◌ (first_read r (record_bytes rs) fits.0) (listed_same _ _ (length rs) (λ k l. behind-read r (record_bytes rs) k) ∙ all_read rs fits.1)

record-read : (n : ℕ) (b : List ℕ) (i : ℕ) → record_in (header_of n ++ b) i ≡ read_at b i
unfolding record_in read_at
record-read n b i =
    let l = header-length n in
    let s = header_of n ++ b in
    let e : recording_length i ≡ length (header_of n) + record_length * i = omega arith in
    let g : recording_length i + 4 ≡ length (header_of n) + (record_length * i + 4) = omega arith in
    let c = ap (λ (k : ℕ). le_at s k 4) e ∙ le_at-behind (header_of n) b (record_length * i) 4 in
    let v = ap (λ (k : ℕ). le_at s k 8) g ∙ le_at-behind (header_of n) b (record_length * i + 4) 8 in
    λ z. record { counter = c z; event = v z }

-- the numbers of the header
pub record HeaderRead (rs : List Record) : Type 0 where
  pub count : count_in (recording_of rs) ≡ length rs
  pub offset : offset_in (recording_of rs) ≡ records_at
  pub total : total_in (recording_of rs) ≡ recording_length (length rs)
  pub fourth : fourth_in (recording_of rs) ≡ 0

pub header_read : (rs : List Record) → recording_length (length rs) < 2 ^ 32 → HeaderRead rs
unfolding recording_of header_of le
header_read rs few =
    let n = length rs in
    let rest = record_bytes rs in
    let a = le 4 n in
    let b = le 4 records_at in
    let c = le 4 (recording_length n) in
    let d = le 4 0 in
    record {
      count = le_at-le [] (b ++ (c ++ d) ++ rest) 0 4 n refl ∙ mod-eq_of_lt (omega arith);
      offset = le_at-le a (c ++ d ++ rest) 4 4 records_at refl;
      total = le_at-le (a ++ b) (d ++ rest) 8 4 (recording_length n) refl ∙ mod-eq_of_lt few;
      fourth = le_at-le (a ++ b ++ c) rest 12 4 0 refl;
    }

pub records-read : (rs : List Record) → AllFit rs → recording_length (length rs) < 2 ^ 32 → records_in (recording_of rs) ≡ rs
unfolding recording_of
records-read rs fits few =
    ap (listed (record_in (recording_of rs))) (header_read rs few).count
    ∙ listed_same _ _ (length rs) (λ k l. record-read (length rs) (record_bytes rs) k)
    ∙ all_read rs fits

-- ---- numbers that fit
pub record-fits : (s : List ℕ) (i : ℕ) → Bytes s → FitsRecord (record_in s i)
unfolding record_in
record-fits s i b = record { counter = le_at-less s (recording_length i) 4 b; event = le_at-less s (recording_length i + 4) 8 b }

all_fit : (f : ℕ → Record) (n : ℕ) → ((i : ℕ) → FitsRecord (f i)) → AllFit (listed f n)
unfolding listed
all_fit f zero h = tt
all_fit f (suc n) h = (h 0, all_fit (λ k. f (suc k)) n (λ i. h (suc i)))

pub records-fit : (s : List ℕ) → Bytes s → AllFit (records_in s)
records-fit s b = all_fit (record_in s) (count_in s) (λ i. record-fits s i b)

left-fit : (ms : List ℕ) (rs : List Record) → AllFit rs → AllFit (not_dropped ms rs)
unfolding not_dropped pick
left-fit [] rs h = tt
left-fit (m ∷ ms) [] h = tt
left-fit (m ∷ ms) (r ∷ rs) h = go (eqb m dropped) _ (left-fit ms rs h.1)
  where
    go : (d : Bool) (ks : List Record) → AllFit ks → AllFit (pick d ks (r ∷ ks))
    go true ks k = k
    go false ks k = (h.0, k)

pub kept-fit : (rs : List Record) → AllFit rs → AllFit (kept_of rs)
kept-fit rs h = left-fit (marks_of rs) rs h
