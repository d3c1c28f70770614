-- Laws of little-endian numbers, over the width. Others use `le-length`, `le_at-less`, `le_at-same`, `le_at-front`, `le_at-behind`,
-- `le_at-drop`, `le_at-le` (what was written is read back), `le-le_at` (what was read is written back), `Bytes`, and of lists of bytes
-- `bytes-both`, `le_bytes`, `number-bytes`. Assumes nothing.
use mathlib.Core.Path.{◌≡◌, refl, sym, ap, ap₂, ◌∙◌}
use mathlib.Core.List.{List, [], ◌∷◌, ◌++◌}
use Prim.Native.Nat.{ℕ, zero, suc, ◌+◌, ◌-◌, ◌*◌, ◌/◌, ◌%◌, ◌^◌, ◌<◌, ◌≤◌}
use native.Mathlib.Nat.{one-le-pow, pow-suc, pow-le-pow_right, lt_of_lt_of_le, zero-lt-suc, mod-one}
use native.Mathlib.Numerals.{add-one}
use native.Mathlib.Omega.{arith}
use lib.Arith.{mod-mul}
use lib.ListN.{length, get_or, set, take, drop, length-append, take-append-drop, get_or-append}
use lib.Seq.{append_snoc, drop-cons, take-suc-set, drop-set-lt, get_or_at, get_or-append-add, get_or-drop}
use Rattle.le.specs.Le.{le, le_at}

-- every number of the list is a byte; past its end `get_or` gives 0
abbrev pub Bytes : List ℕ → Type 0
Bytes s = (i : ℕ) → get_or s i 0 < 256

-- ---- the bytes of a number
pub le-length : (n v : ℕ) → length (le n v) ≡ n
unfolding le
le-length zero v = refl
le-length (suc n) v = ap suc (le-length n (v / 256))

-- ---- lists of bytes: two together, the bytes of a number, and these before others
pub bytes-both : (a b : List ℕ) → Bytes a → Bytes b → Bytes (a ++ b)
bytes-both [] b h k i = k i
bytes-both (x ∷ a) b h k zero = h 0
bytes-both (x ∷ a) b h k (suc i) = bytes-both a b (λ j. h (suc j)) k i

pub le_bytes : (n v : ℕ) → Bytes (le n v)
unfolding le
le_bytes zero v i = omega arith
le_bytes (suc n) v zero = omega arith
le_bytes (suc n) v (suc i) = le_bytes n (v / 256) i

pub number-bytes : (n v : ℕ) (b : List ℕ) → Bytes b → Bytes (le n v ++ b)
number-bytes n v b h = bytes-both (le n v) b (le_bytes n v) h

-- ---- a number that is read looks at its own bytes alone
pub le_at-same : (s t : List ℕ) (at n : ℕ) → ((j : ℕ) → at ≤ j → j < at + n → get_or s j 0 ≡ get_or t j 0) → le_at s at n ≡ le_at t at n
unfolding le_at
le_at-same s t at zero h = refl
le_at-same s t at (suc n) h =
    omega (arith, h at (omega arith) (omega arith), le_at-same s t (at + 1) n (λ j a b. h j (omega arith) (omega arith)))

-- not at what stands behind them
pub le_at-front : (s t : List ℕ) (at n : ℕ) → at + n ≤ length s → le_at (s ++ t) at n ≡ le_at s at n
le_at-front s t at n h = le_at-same (s ++ t) s at n (λ j a b. get_or-append s t 0 j (omega arith))

-- nor at what stands before them
pub le_at-drop : (k : ℕ) (s : List ℕ) (at n : ℕ) → le_at (drop k s) at n ≡ le_at s (k + at) n
unfolding le_at
le_at-drop k s at zero = refl
le_at-drop k s at (suc n) =
    let e : k + (at + 1) ≡ k + at + 1 = omega arith in
    ap₂ (λ (x y : ℕ). x + 256 * y) (get_or-drop k s at 0) (le_at-drop k s (at + 1) n ∙ ap (λ (x : ℕ). le_at s x n) e)

pub le_at-behind : (s t : List ℕ) (at n : ℕ) → le_at (s ++ t) (length s + at) n ≡ le_at t at n
unfolding le_at
le_at-behind s t at zero = refl
le_at-behind s t at (suc n) =
    let e : length s + at + 1 ≡ length s + (at + 1) = omega arith in
    ap₂ (λ (x y : ℕ). x + 256 * y) (get_or-append-add s t at 0) (ap (λ (x : ℕ). le_at (s ++ t) x n) e ∙ le_at-behind s t (at + 1) n)

-- ---- it fits its bytes
pub le_at-less : (s : List ℕ) (at n : ℕ) → Bytes s → le_at s at n < 256 ^ n
unfolding le_at
le_at-less s at zero h = omega arith
le_at-less s at (suc n) h = rw pow-suc (omega (arith, h at, le_at-less s (at + 1) n h))

-- ---- what was written is read back
digits : (n v : ℕ) → v % 256 + 256 * (v / 256 % 256 ^ n) ≡ v % 256 ^ suc n
digits n v = let e = ap (λ (x : ℕ). v % x) (pow-suc 256 n) ∙ mod-mul v (one-le-pow n 256 (zero-lt-suc 255)) (zero-lt-suc 255) in omega arith

pub le_at-le : (a rest : List ℕ) (at n v : ℕ) → length a ≡ at → le_at (a ++ (le n v ++ rest)) at n ≡ v % 256 ^ n
unfolding le le_at
le_at-le a rest at zero v h = sym (mod-one v)
le_at-le a rest at (suc n) v h =
    let b = a ++ (v % 256 ∷ []) in
    let l = length-append a (v % 256 ∷ []) in
    let e = ap (λ (x : List ℕ). le_at x (at + 1) n) (sym (append_snoc a (v % 256) (le n (v / 256) ++ rest)))
    ∙ le_at-le b rest (at + 1) n (v / 256) (omega arith) in
    ap₂ (λ (x y : ℕ). x + 256 * y) (get_or_at a (v % 256) (le n (v / 256) ++ rest) 0 at h) e ∙ digits n v

-- ---- what was read is written back
pub le-le_at : (s : List ℕ) (at n : ℕ) → Bytes s → at + n ≤ length s → le n (le_at s at n) ≡ take n (drop at s)
unfolding le le_at
le-le_at s at zero b h = refl
le-le_at s at (suc n) b h =
    let l : at < length s = omega arith in
    let x = b at in
    let low : (get_or s at 0 + 256 * le_at s (at + 1) n) % 256 ≡ get_or s at 0 = omega arith in
    let high : (get_or s at 0 + 256 * le_at s (at + 1) n) / 256 ≡ le_at s (at + 1) n = omega arith in
    ap₂ ◌∷◌ low (ap (le n) high ∙ le-le_at s (at + 1) n b (omega arith) ∙ ap (λ (i : ℕ). take n (drop i s)) (add-one at))
    ∙ ap (take (suc n)) (sym (drop-cons s at 0 l))

-- ---- one turn of the loop that reads
pub number-room : (n v b : ℕ) → n ≤ 7 → v < 256 ^ n → b < 256 → v * 256 + b < 2 ^ 64
number-room n v b h p q = let l : v < 256 ^ 7 = lt_of_lt_of_le p (pow-le-pow_right {n = 256} (zero-lt-suc 255) h) in omega arith

pub number-grows : (w i v b : ℕ) → 0 < i → i ≤ w → v < 256 ^ (w - i) → b < 256 → v * 256 + b < 256 ^ (w - (i - 1))
number-grows w i v b h l p q = let e : w - (i - 1) ≡ suc (w - i) = omega arith in rw (e, pow-suc) (omega arith)

pub le_at-none : (s : List ℕ) (at n : ℕ) → n ≡ 0 → (0 ≡ le_at s at n) × (0 < 256 ^ n)
unfolding le_at
le_at-none s at n e = rw e (refl, omega arith)

pub le_at-turn : (s : List ℕ) (at w i v b : ℕ) → 0 < i → i ≤ w → v ≡ le_at s (at + i) (w - i) → b ≡ get_or s (at + (i - 1)) 0
    → v * 256 + b ≡ le_at s (at + (i - 1)) (w - (i - 1))
unfolding le_at
le_at-turn s at w i v b h l p q =
    let e : w - (i - 1) ≡ suc (w - i) = omega arith in
    let f : at + (i - 1) + 1 ≡ at + i = omega arith in
    rw (e, f) (omega arith)

-- ---- the loop that writes: the bytes before `at`, those of a number, and those from `end` on
abbrev pub spliced : List ℕ → ℕ → ℕ → ℕ → ℕ → List ℕ
spliced s at n v end = take at s ++ (le n v ++ drop end s)

pub spliced-turn : (s : List ℕ) (at w k x : ℕ) → k < w → at + w ≤ length s
    → spliced (set s (at + k) (x % 256)) (at + (k + 1)) (w - (k + 1)) (x / 256) (at + w) ≡ spliced s (at + k) (w - k) x (at + w)
unfolding le
spliced-turn s at w k x h l =
    let n = w - (k + 1) in
    let e : w - k ≡ suc n = omega arith in
    let f : at + (k + 1) ≡ suc (at + k) = omega arith in
    let in-s : at + k < length s = omega arith in
    let past : at + k < at + w = omega arith in
    rw (e, f, take-suc-set s (at + k) (x % 256) in-s, drop-set-lt (at + w) s (at + k) (x % 256) past)
    (append_snoc (take (at + k) s) (x % 256) (le n (x / 256) ++ drop (at + w) s))

pub spliced-none : (s : List ℕ) (at n v : ℕ) → n ≡ 0 → spliced s at n v at ≡ s
unfolding le
spliced-none s at n v e = rw e (take-append-drop at s)
