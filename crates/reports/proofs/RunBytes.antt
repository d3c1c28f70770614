-- The runs that some bytes are. Where bytes that are whole runs stand before others, they are the runs of the first and then those of the others
-- (`runs-both`): a run that is read looks at its own bytes alone (`run-same`). Each number of a run that is read has 32 bits (`runs_fit`,
-- `runs-short`). Where each number of a list has, the runs of its bytes are that list (`runs-read`; `run-bytes` and `run-bytes-length` say that
-- these are bytes, and how many). Assumes nothing.
use mathlib.Core.Path.{◌≡◌, refl, sym, ap, ap₂, ◌∙◌}
use mathlib.Core.List.{List, [], ◌∷◌, ◌++◌}
use Prim.Native.Nat.{ℕ, ◌+◌, ◌*◌, ◌<◌, ◌≤◌}
use native.Mathlib.Nat.{add-zero, mod-eq_of_lt}
use native.Mathlib.Omega.{arith}
use lib.ListN.{length, length-append}
use Rattle.lists.specs.Listed.{listed}
use Rattle.lists.proofs.Listed.{listed-both, listed_same}
use Rattle.le.specs.Le.{le, le_at}
use Rattle.le.proofs.Laws.{Bytes, le_at-front, le_at-behind, le_at-less, le_at-le, bytes-both, le_bytes, number-bytes}
use Rattle.reports.specs.Runs.{Run, run_length, run_at, run_count, runs_in}
use Rattle.reports.specs.Nights.{Each, Short}
use Rattle.reports.specs.RunBytes.{FitsRun, one_run, run_bytes}
use Rattle.reports.proofs.Each.{each_more, each-listed}

-- ---- two lists together
run-same : (s t : List ℕ) (i j : ℕ) → ((k n : ℕ) → k + n ≤ run_length → le_at s (run_length * i + k) n ≡ le_at t (run_length * j + k) n)
    → run_at s i ≡ run_at t j
run-same s t i j h =
    let first = ap (λ (k : ℕ). le_at s k 4) (sym (add-zero (run_length * i))) ∙ h 0 4 (omega arith) ∙ ap (λ (k : ℕ). le_at t k 4) (add-zero (run_length * j)) in
    λ z. record { rule = first z; verdict = h 4 4 (omega arith) z; tick = h 8 4 (omega arith) z }

pub runs-both : (a b : List ℕ) (n : ℕ) → length a ≡ run_length * n → runs_in (a ++ b) ≡ runs_in a ++ runs_in b
runs-both a b n e =
    let whole : run_count a ≡ n = omega arith in
    let count : run_count (a ++ b) ≡ n + run_count b = let l = length-append a b in omega arith in
    ap (listed (run_at (a ++ b))) count
    ∙ listed-both (run_at (a ++ b)) n (run_count b)
    ∙ ap₂ ◌++◌ (listed_same _ _ n front ∙ ap (listed (run_at a)) (sym whole)) (listed_same _ _ (run_count b) behind)
  where
    front : (k : ℕ) → k < n → run_at (a ++ b) k ≡ run_at a k
    front k l = run-same (a ++ b) a k k (λ j w h. le_at-front a b (run_length * k + j) w (omega arith))

    behind : (k : ℕ) → k < run_count b → run_at (a ++ b) (n + k) ≡ run_at b k
    behind k l =
        run-same (a ++ b) b (n + k) k
        (λ j w h. let z : run_length * (n + k) + j ≡ length a + (run_length * k + j) = omega arith in
        ap (λ (i : ℕ). le_at (a ++ b) i w) z ∙ le_at-behind a b (run_length * k + j) w)

-- ---- their numbers
pub runs_fit : (s : List ℕ) → Bytes s → Each FitsRun (runs_in s)
runs_fit s b =
    each-listed FitsRun (run_at s) (run_count s)
    (λ k l. record { rule = le_at-less s (run_length * k) 4 b; verdict = le_at-less s (run_length * k + 4) 4 b; tick = le_at-less s (run_length * k + 8) 4 b })

pub runs-short : (s : List ℕ) → Bytes s → Each Short (runs_in s)
runs-short s b = each_more FitsRun Short (λ x h. h.tick) (runs_in s) (runs_fit s b)

-- ---- written, and read back
run_length_lem : (x : Run) → length (one_run x) ≡ run_length
unfolding one_run le
run_length_lem x = refl

pub run-bytes-length : (xs : List Run) → length (run_bytes xs) ≡ run_length * length xs
unfolding run_bytes
run-bytes-length [] = refl
run-bytes-length (x ∷ xs) = length-append (one_run x) (run_bytes xs) ∙ (let a = run_length_lem x in let b = run-bytes-length xs in omega arith)

pub run-bytes : (xs : List Run) → Bytes (run_bytes xs)
unfolding run_bytes one_run
run-bytes [] = λ i. omega arith
run-bytes (x ∷ xs) =
    let c = le 4 x.tick in
    let b = le 4 x.verdict ++ c in
    bytes-both (one_run x) (run_bytes xs) (number-bytes 4 x.rule b (number-bytes 4 x.verdict c (le_bytes 4 x.tick))) (run-bytes xs)

run-read : (x : Run) → FitsRun x → runs_in (one_run x) ≡ x ∷ []
unfolding one_run le listed
run-read x fits =
    let a = le 4 x.rule in
    let b = le 4 x.verdict in
    let c = le 4 x.tick in
    let e = le_at-le [] (b ++ c) 0 4 x.rule refl ∙ mod-eq_of_lt fits.rule in
    let f = le_at-le a c 4 4 x.verdict refl ∙ mod-eq_of_lt fits.verdict in
    let g = le_at-le (a ++ b) [] 8 4 x.tick refl ∙ mod-eq_of_lt fits.tick in
    λ i. record { rule = e i; verdict = f i; tick = g i } ∷ []

pub runs-read : (xs : List Run) → Each FitsRun xs → runs_in (run_bytes xs) ≡ xs
unfolding run_bytes listed
runs-read [] fits = refl
runs-read (x ∷ xs) fits = runs-both (one_run x) (run_bytes xs) 1 (run_length_lem x) ∙ ap₂ ◌++◌ (run-read x fits.0) (runs-read xs fits.1)
