-- The bytes of a report, written and read. A row has its length (`row-length`), and so a report (`report-length`). What was written is read
-- back where the numbers fit their bytes (`report-read`): a row that is read looks at its own bytes alone (`row_same`), so what stands before
-- and behind does not matter, and number by number it is a law of `le`. What was read fits (`row_fits`), and is written back (`report-is`). What
-- `rows_agree` says of bytes is said of each row (`agree-is`, `agree_of`), and it and `runs_told` are so said of a function's rows where they are
-- the bytes (`report-agree-of`, `report-agree-is`, `report-told`). Assumes nothing.
use mathlib.Core.Path.{◌≡◌, refl, sym, ap, ap₂, ◌∙◌}
use mathlib.Core.Bool.{true}
use mathlib.Core.Logic.{⊎_elim}
use mathlib.Core.List.{List, [], ◌++◌}
use Prim.Native.Nat.{ℕ, zero, suc, ◌+◌, ◌*◌, ◌^◌, ◌<◌, ◌≤◌}
use native.Mathlib.Nat.{add-zero, mod-eq_of_lt, eq-or-lt_of_le, le_of_suc-le-suc}
use native.Mathlib.Omega.{arith}
use lib.ListN.{length, take, drop, length-append}
use lib.Seq.{take_all, take-add}
use Rattle.limits.specs.Limits.{rules_most}
use Rattle.lists.proofs.Tests.{both-0, both-1, both_true}
use Rattle.lists.proofs.Stretches.{take-two}
use Rattle.le.specs.Le.{le, le_at}
use Rattle.le.proofs.Laws.{Bytes, le_at-front, le_at-behind, le_at-less, le_at-le, le-le_at, bytes-both, le_bytes, number-bytes}
use Rattle.reports.specs.declared.Row.{Row}
use Rattle.reports.specs.Bytes.{row_length, report_length, row_bytes, rows_of, report_bytes, row_at, row_in, row_agrees, rows_agree, runs_told}
use Rattle.reports.specs.Rows.{FitsRow, sum_below}
use Rattle.reports.proofs.Sums.{sum_same}

-- ---- how many bytes
pub row-length : (w : Row) → length (row_bytes w) ≡ row_length
unfolding row_bytes le
row-length w = refl

pub rows-length : (f : ℕ → Row) (n : ℕ) → length (rows_of f n) ≡ row_length * n
unfolding rows_of
rows-length f zero = refl
rows-length f (suc n) = length-append (rows_of f n) (row_bytes (f n)) ∙ (let a = rows-length f n in let b = row-length (f n) in omega arith)

pub report-length : (f : ℕ → Row) → length (report_bytes f) ≡ report_length
report-length f = rows-length f rules_most

-- equal rows are equal bytes
pub rows_same : (f g : ℕ → Row) (n : ℕ) → ((r : ℕ) → r < n → f r ≡ g r) → rows_of f n ≡ rows_of g n
unfolding rows_of
rows_same f g zero h = refl
rows_same f g (suc n) h = ap₂ ◌++◌ (rows_same f g n (λ r l. h r (omega arith))) (ap row_bytes (h n (omega arith)))

-- ---- each of them is one
row-bytes : (w : Row) → Bytes (row_bytes w)
unfolding row_bytes
row-bytes w =
    let b₆ = le 8 w.sum in
    let b₅ = le 4 w.latest ++ b₆ in
    let b₄ = le 4 w.earliest ++ b₅ in
    let b₃ = le 4 w.pendings ++ b₄ in
    let b₂ = le 4 w.trues ++ b₃ in
    let b₁ = le 4 w.falses ++ b₂ in
    number-bytes 4 w.runs b₁
    (number-bytes 4 w.falses b₂
    (number-bytes 4 w.trues b₃
    (number-bytes 4 w.pendings b₄
    (number-bytes 4 w.earliest b₅ (number-bytes 4 w.latest b₆ (le_bytes 8 w.sum))))))

rows-bytes : (f : ℕ → Row) (n : ℕ) → Bytes (rows_of f n)
unfolding rows_of
rows-bytes f zero = λ i. omega arith
rows-bytes f (suc n) = bytes-both (rows_of f n) (row_bytes (f n)) (rows-bytes f n) (row-bytes (f n))

pub report-bytes : (f : ℕ → Row) → Bytes (report_bytes f)
report-bytes f = rows-bytes f rules_most

-- ---- a row that is read looks at its own bytes alone
pub row_same : (s t : List ℕ) (x y : ℕ) → ((k n : ℕ) → k + n ≤ row_length → le_at s (x + k) n ≡ le_at t (y + k) n) → row_at s x ≡ row_at t y
unfolding row_at
row_same s t x y h =
    let first = ap (λ (j : ℕ). le_at s j 4) (sym (add-zero x)) ∙ h 0 4 (omega arith) ∙ ap (λ (j : ℕ). le_at t j 4) (add-zero y) in
    λ i.
    record {
      runs = first i;
      falses = h 4 4 (omega arith) i;
      trues = h 8 4 (omega arith) i;
      pendings = h 12 4 (omega arith) i;
      earliest = h 16 4 (omega arith) i;
      latest = h 20 4 (omega arith) i;
      sum = h 24 8 (omega arith) i;
    }

pub row-front : (s t : List ℕ) (at : ℕ) → at + row_length ≤ length s → row_at (s ++ t) at ≡ row_at s at
row-front s t at h = row_same (s ++ t) s at at (λ k n l. le_at-front s t (at + k) n (omega arith))

pub row-behind : (s t : List ℕ) (at : ℕ) → at ≡ length s → row_at (s ++ t) at ≡ row_at t 0
row-behind s t at e =
    row_same (s ++ t) t at 0 (λ k n l. ap (λ (j : ℕ). le_at (s ++ t) (j + k) n) e ∙ le_at-behind s t k n ∙ (let z : k ≡ 0 + k = omega arith in ap (λ (j : ℕ). le_at t j n) z))

-- ---- what was written is read back
-- a number that fits, behind others
number_read : (a rest : List ℕ) (at n v : ℕ) → length a ≡ at → v < 256 ^ n → le_at (a ++ (le n v ++ rest)) at n ≡ v
number_read a rest at n v e l = le_at-le a rest at n v e ∙ mod-eq_of_lt l

pub row_read : (w : Row) → FitsRow w → row_at (row_bytes w) 0 ≡ w
unfolding row_at row_bytes le
row_read w fits =
    let a₁ = le 4 w.runs in
    let a₂ = a₁ ++ le 4 w.falses in
    let a₃ = a₂ ++ le 4 w.trues in
    let a₄ = a₃ ++ le 4 w.pendings in
    let a₅ = a₄ ++ le 4 w.earliest in
    let a₆ = a₅ ++ le 4 w.latest in
    let b₆ = le 8 w.sum in
    let b₅ = le 4 w.latest ++ b₆ in
    let b₄ = le 4 w.earliest ++ b₅ in
    let b₃ = le 4 w.pendings ++ b₄ in
    let b₂ = le 4 w.trues ++ b₃ in
    let b₁ = le 4 w.falses ++ b₂ in
    λ i.
    record {
      runs = number_read [] b₁ 0 4 w.runs refl fits.runs i;
      falses = number_read a₁ b₂ 4 4 w.falses refl fits.falses i;
      trues = number_read a₂ b₃ 8 4 w.trues refl fits.trues i;
      pendings = number_read a₃ b₄ 12 4 w.pendings refl fits.pendings i;
      earliest = number_read a₄ b₅ 16 4 w.earliest refl fits.earliest i;
      latest = number_read a₅ b₆ 20 4 w.latest refl fits.latest i;
      sum = number_read a₆ [] 24 8 w.sum refl fits.sum i;
    }

rows-read : (f : ℕ → Row) (n r : ℕ) → r < n → FitsRow (f r) → row_in (rows_of f n) r ≡ f r
unfolding rows_of
rows-read f zero r l fits = absurd (omega arith)
rows-read f (suc n) r l fits =
    let k = rows-length f n in
    ⊎_elim
    (λ e. row-behind (rows_of f n) (row_bytes (f n)) (row_length * r) (omega arith) ∙ ap (λ (j : ℕ). row_at (row_bytes (f j)) 0) (sym e) ∙ row_read (f r) fits)
    (λ h. row-front (rows_of f n) (row_bytes (f n)) (row_length * r) (omega arith) ∙ rows-read f n r h fits)
    (eq-or-lt_of_le (le_of_suc-le-suc l))

pub report-read : (f : ℕ → Row) (r : ℕ) → r < rules_most → FitsRow (f r) → row_in (report_bytes f) r ≡ f r
report-read f r l fits = rows-read f rules_most r l fits

-- ---- what was read fits
pub row_fits : (s : List ℕ) (at : ℕ) → Bytes s → FitsRow (row_at s at)
unfolding row_at
row_fits s at b =
    record {
      runs = le_at-less s at 4 b;
      falses = le_at-less s (at + 4) 4 b;
      trues = le_at-less s (at + 8) 4 b;
      pendings = le_at-less s (at + 12) 4 b;
      earliest = le_at-less s (at + 16) 4 b;
      latest = le_at-less s (at + 20) 4 b;
      sum = le_at-less s (at + 24) 8 b;
    }

-- ---- and is written back
module _ (s : List ℕ) (b : Bytes s) where
  -- a number that was read, and then m bytes that follow it
  number-back : (at k n m : ℕ) {u : List ℕ} → at + (k + n) ≤ length s → u ≡ take m (drop (at + (k + n)) s)
      → le n (le_at s (at + k) n) ++ u ≡ take (n + m) (drop (at + k) s)
  number-back at k n m h e =
      let z : at + (k + n) ≡ at + k + n = omega arith in
      ap₂ ◌++◌ (le-le_at s (at + k) n b (omega arith)) (e ∙ ap (λ (j : ℕ). take m (drop j s)) z) ∙ sym (take-two s (at + k) n m)

  row_back : (at : ℕ) → at + row_length ≤ length s → row_bytes (row_at s at) ≡ take row_length (drop at s)
  unfolding row_bytes row_at
  row_back at h =
      let e₆ = le-le_at s (at + 24) 8 b (omega arith) in
      let e₅ = number-back at 20 4 8 (omega arith) e₆ in
      let e₄ = number-back at 16 4 12 (omega arith) e₅ in
      let e₃ = number-back at 12 4 16 (omega arith) e₄ in
      let e₂ = number-back at 8 4 20 (omega arith) e₃ in
      let e₁ = number-back at 4 4 24 (omega arith) e₂ in
      ap₂ ◌++◌ (le-le_at s at 4 b (omega arith)) e₁ ∙ sym (take-two s at 4 28)

  rows_back : (n : ℕ) → row_length * n ≤ length s → rows_of (row_in s) n ≡ take (row_length * n) s
  unfolding rows_of
  rows_back zero h = refl
  rows_back (suc n) h =
      let e : row_length * n + row_length ≡ row_length * suc n = omega arith in
      ap₂ ◌++◌ (rows_back n (omega arith)) (row_back (row_length * n) (omega arith))
      ∙ sym (take-add (row_length * n) row_length s)
      ∙ ap (λ (j : ℕ). take j s) e

  pub report-is : length s ≡ report_length → report_bytes (row_in s) ≡ s
  report-is e = rows_back rules_most (omega arith) ∙ take_all report_length s (omega arith)

-- ---- what is said of each row
pub agree-is : (s : List ℕ) (n : ℕ) → rows_agree s n ≡ true → (r : ℕ) → r < n → row_agrees (row_in s r) ≡ true
unfolding rows_agree
agree-is s zero e r l = absurd (omega arith)
agree-is s (suc n) e r l =
    ⊎_elim
    (λ q. ap (λ (j : ℕ). row_agrees (row_in s j)) q ∙ both-1 _ _ e)
    (λ h. agree-is s n (both-0 _ _ e) r h)
    (eq-or-lt_of_le (le_of_suc-le-suc l))

pub agree_of : (s : List ℕ) (n : ℕ) → ((r : ℕ) → r < n → row_agrees (row_in s r) ≡ true) → rows_agree s n ≡ true
unfolding rows_agree
agree_of s zero h = refl
agree_of s (suc n) h = both_true _ _ (agree_of s n (λ r l. h r (omega arith))) (h n (omega arith))

-- and of a function's rows
module _ (f : ℕ → Row) (fits : (r : ℕ) → r < rules_most → FitsRow (f r)) where
  pub report-agree-of : ((r : ℕ) → r < rules_most → row_agrees (f r) ≡ true) → rows_agree (report_bytes f) rules_most ≡ true
  report-agree-of h = agree_of (report_bytes f) rules_most (λ r l. ap row_agrees (report-read f r l (fits r l)) ∙ h r l)

  pub report-agree-is : rows_agree (report_bytes f) rules_most ≡ true → (r : ℕ) → r < rules_most → row_agrees (f r) ≡ true
  report-agree-is h r l = sym (ap row_agrees (report-read f r l (fits r l))) ∙ agree-is (report_bytes f) rules_most h r l

  pub report-told : runs_told (report_bytes f) rules_most ≡ sum_below (λ r. (f r).runs) rules_most
  report-told = sum_same _ _ rules_most (λ r l. ap (λ (w : Row). w.runs) (report-read f r l (fits r l)))
