-- Bytes put in the place of others: how long the list stays (`put-length`), the bytes elsewhere (`put_other`), and what was put
-- (`put-field`, `put_byte`, `put-run`). Also runs of bytes that two lists have in common (`run-same`). Assumes nothing.
use mathlib.Core.Path.{◌≡◌, sym, ap, ◌∙◌}
use mathlib.Core.List.{List, ◌++◌}
use Prim.Native.Nat.{ℕ, ◌+◌, ◌-◌, ◌<◌, ◌≤◌}
use native.Mathlib.Decide.{dec_lt}
use native.Mathlib.Omega.{arith}
use lib.ListN.{length, get_or, take, drop, length-append, length-take, length-drop, get_or-append}
use lib.Seq.{length-take-le, get_or-append-add, get_or-take, get_or-drop, ext_get_or, drop-append-add}
use Rattle.le.specs.Le.{le_at}
use Rattle.le.proofs.Laws.{le_at-front, le_at-behind}
use Rattle.state.specs.Writes.{put_at}

-- a run that two lists of one length have in common
pub run-same : (s t : List ℕ) (at n : ℕ) → length t ≡ length s → ((i : ℕ) → at ≤ i → i < at + n → get_or t i 0 ≡ get_or s i 0) → take n (drop at t) ≡ take n (drop at s)
run-same s t at n e h =
    let long = length-take n (drop at t) ∙ omega (arith, length-drop at t, length-drop at s) ∙ sym (length-take n (drop at s)) in
    ext_get_or 0 (take n (drop at t)) (take n (drop at s)) long
    (λ i l.
    (let m : i < n = omega (arith, length-take n (drop at t)) in
    get_or-take n (drop at t) i 0 m ∙ get_or-drop at t i 0 ∙ h (at + i) (omega arith) (omega arith) ∙ sym (get_or-take n (drop at s) i 0 m ∙ get_or-drop at s i 0)))

module _ (at : ℕ) (xs s : List ℕ) (room : at + length xs ≤ length s) where
  abbrev back : List ℕ
  back = drop (at + length xs) s

  front_length : length (take at s) ≡ at
  front_length = length-take-le at s (omega arith)

  pub put-length : length (put_at at xs s) ≡ length s
  put-length = omega (arith, front_length, length-append (take at s) (xs ++ back), length-append xs back, length-drop (at + length xs) s)

  behind : (j : ℕ) → get_or (put_at at xs s) (at + j) 0 ≡ get_or (xs ++ back) j 0
  behind j = ap (λ (i : ℕ). get_or (put_at at xs s) (i + j) 0) (sym front_length) ∙ get_or-append-add (take at s) (xs ++ back) j 0

  pub put_byte : (j : ℕ) → j < length xs → get_or (put_at at xs s) (at + j) 0 ≡ get_or xs j 0
  put_byte j l = behind j ∙ get_or-append xs back 0 j l

  pub put_other : (i : ℕ) → (at ≤ i → i < at + length xs → ⊥) → get_or (put_at at xs s) i 0 ≡ get_or s i 0
  put_other i apart =
      elim (dec_lt i at) [
        | yes l ↦ get_or-append (take at s) (xs ++ back) 0 i (omega (arith, front_length)) ∙ get_or-take at s i 0 l
        | no l ↦
            (let m : at ≤ i = omega arith in
            let far : at + length xs ≤ i = past (apart m) in
            let j = i - (at + length xs) in
            let e : i ≡ at + (length xs + j) = omega arith in
            let f : at + length xs + j ≡ i = omega arith in
            ap (λ (n : ℕ). get_or (put_at at xs s) n 0) e ∙ behind (length xs + j) ∙ get_or-append-add xs back j 0 ∙ get_or-drop (at + length xs) s j 0 ∙ ap (λ (n : ℕ). get_or s n 0) f)
      ]
    where
      past : (i < at + length xs → ⊥) → at + length xs ≤ i
      past h = omega arith

  pub put-field : (j n : ℕ) → j + n ≤ length xs → le_at (put_at at xs s) (at + j) n ≡ le_at xs j n
  put-field j n l =
      ap (λ (i : ℕ). le_at (put_at at xs s) (i + j) n) (sym front_length) ∙ le_at-behind (take at s) (xs ++ back) j n ∙ le_at-front xs back j n l

  -- what was put, and what follows it
  pub put-run : (j : ℕ) → drop (at + j) (put_at at xs s) ≡ drop j (xs ++ back)
  put-run j = ap (λ (i : ℕ). drop (i + j) (put_at at xs s)) (sym front_length) ∙ drop-append-add (take at s) (xs ++ back) j
