-- Words put behind what stands: a byte (`put_byte`), a run (`put-run`), one behind the other (`put_both`); and a number in
-- digits (`digits-one`, `digits-two`). Assumes nothing.
use mathlib.Core.Path.{◌≡◌, refl, sym, ap, ◌∙◌, subst}
use mathlib.Core.List.{List, [], ◌∷◌, ◌++◌, append_assoc, append-nil}
use Prim.Native.Nat.{ℕ, ◌+◌, ◌<◌, ◌≤◌, ◌/◌, ◌%◌}
use native.Mathlib.Numerals.{add-one}
use native.Mathlib.Omega.{arith}
use borrow.Author.Tests.{lt-ltb, le-ltb}
use lib.ListN.{length, set, take, drop, length-append, length-set}
use lib.Seq.{take_at, take-length, take-suc-set, length-take-le}
use Rattle.lists.specs.Tests.{pick}
use Rattle.text.specs.Printing.{digits}
use Rattle.showing.specs.Shows.{Puts}

pub put_byte : (t : List ℕ) (at x : ℕ) → at < length t → Puts (x ∷ []) t at (set t at x) (at + 1)
put_byte t at x h = record { ends = refl; holds = ap (λ (n : ℕ). take n (set t at x)) (add-one at) ∙ take-suc-set t at x h }

-- one behind the other
pub put_both : {xs ys t t' t'' : List ℕ} {at r q : ℕ} → Puts xs t at t' r → Puts ys t' r t'' q → Puts (xs ++ ys) t at t'' q
put_both {xs} {ys} {t} {at = at} p q =
    let e = p.ends in
    let n = q.ends in
    let l = length-append xs ys in
    record { ends = omega arith; holds = q.holds ∙ ap (◌++ ys) p.holds ∙ append_assoc (take at t) xs ys }

-- a run that was copied there
pub put-run : (t w t' : List ℕ) (at : ℕ) → at + length w ≤ length t → t' ≡ take at t ++ (take (length w) (drop 0 w) ++ drop (at + length w) t)
    → Puts w t at t' (at + length w)
put-run t w t' at h e =
    let r = drop (at + length w) t in
    let l : length (take at t ++ w) ≡ at + length w = length-append (take at t) w ∙ ap (◌+ length w) (length-take-le at t (omega arith)) in
    let q : t' ≡ (take at t ++ w) ++ r = e ∙ ap (λ (x : List ℕ). take at t ++ (x ++ r)) (take-length w) ∙ sym (append_assoc (take at t) w r) in
    record { ends = refl; holds = ap (take (at + length w)) q ∙ take_at (take at t ++ w) r (at + length w) l }

-- two bytes
pub put_two : (t : List ℕ) (at x y : ℕ) → at + 1 < length t → Puts (x ∷ y ∷ []) t at (set (set t at x) (at + 1) y) (at + 2)
put_two t at x y h =
    let l = length-set t at x in
    let p = put_both (put_byte t at x (omega arith)) (put_byte (set t at x) (at + 1) y (omega arith)) in
    let e : at + 1 + 1 ≡ at + 2 = omega arith in
    subst (λ (r : ℕ). Puts (x ∷ y ∷ []) t at (set (set t at x) (at + 1) y) r) e p

-- nothing
pub put-none : (t : List ℕ) (at : ℕ) → Puts [] t at t at
put-none t at = record { ends = omega arith; holds = sym (append-nil (take at t)) }

-- the same word
pub put_as : {xs ys : List ℕ} → xs ≡ ys → {t t' : List ℕ} {at r : ℕ} → Puts ys t at t' r → Puts xs t at t' r
put_as e {t} {t'} {at} {r} p = subst (λ (l : List ℕ). Puts l t at t' r) (sym e) p

-- ---- a number
pub digits-one : (n : ℕ) → n < 10 → digits n ≡ (48 + n) ∷ []
unfolding pick
digits-one n h = rw (lt-ltb n 10 h)

pub digits-two : (n : ℕ) → 10 ≤ n → digits n ≡ (48 + n / 10) ∷ (48 + n % 10) ∷ []
unfolding pick
digits-two n h = rw (le-ltb n 10 h)
