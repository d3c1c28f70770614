-- A row of counts: how long it is (`row-long`), what a copy over it leaves (`put_row`), and a sum of two (`added-long`, `added-each`).
-- Assumes nothing.
use mathlib.Core.Path.{◌≡◌, refl, sym, ap, ap₂, ◌∙◌}
use mathlib.Core.List.{List, [], ◌∷◌}
use Prim.Native.Nat.{ℕ, zero, suc, ◌+◌, ◌-◌, ◌≤◌}
use native.Mathlib.Omega.{arith}
use lib.ListN.{length, get_or, take, drop, length-drop}
use lib.Seq.{drop-drop, length-take-le}
use Rattle.std.proofs.lemmas.Grind.{common_steps}
use Rattle.std.proofs.lemmas.List.{drop-take}
use Rattle.std.proofs.lemmas.Slice.{take-put_mid, drop-put_mid}
use borrow.Rule.Slice.PartMut.{put_mid}
use Rattle.limits.specs.Limits.{boards_most}
use Rattle.scores.specs.Scored.{added}
use Rattle.choices.specs.Rows.{row_at, PutsRow}

pub row-long : (at : ℕ) (rows : List ℕ) → at + boards_most ≤ length rows → length (row_at at rows) ≡ boards_most
unfolding row_at
row-long at rows h = let d = length-drop at rows in length-take-le boards_most (drop at rows) (omega arith)

-- the same behind a place, the same row there and behind the row
pub row_same : (at : ℕ) (rows rows' : List ℕ) → drop at rows' ≡ drop at rows → row_at at rows' ≡ row_at at rows
unfolding row_at
row_same at rows rows' e = ap (take boards_most) e

pub drop-same : (n at : ℕ) (rows rows' : List ℕ) → drop at rows' ≡ drop at rows → drop (at + n) rows' ≡ drop (at + n) rows
drop-same n at rows rows' e = sym (drop-drop n at rows') ∙ ap (drop n) e ∙ drop-drop n at rows

-- the counts copied over the row
pub put_row : (at k : ℕ) (rows counts : List ℕ) → k ≡ boards_most → at + boards_most ≤ length rows → length counts ≡ boards_most → PutsRow at counts rows (put_mid at k rows counts)
unfolding row_at
put_row at k rows counts e h l = record {
  row = sym (drop-take at boards_most (put_mid at k rows counts)) ∙ ap (drop at) (take-put_mid at k rows counts (at + boards_most) (omega arith) (omega arith)) ∙ grind (arith, common_steps);
  others = drop-put_mid at k rows counts (at + boards_most) (omega arith) (omega arith) (omega arith);
}

-- ---- added
pub added-long : (n : ℕ) (xs ys : List ℕ) → length xs ≡ n → length ys ≡ n → length (added xs ys) ≡ n
unfolding added
added-long n [] ys h k = h
added-long n (x ∷ xs) [] h k = absurd (omega arith)
added-long n (x ∷ xs) (y ∷ ys) h k = let r = added-long (n - 1) xs ys (omega arith) (omega arith) in omega arith

pub added-each : (xs ys : List ℕ) → length xs ≡ length ys → (b : ℕ) → get_or (added xs ys) b 0 ≡ get_or xs b 0 + get_or ys b 0
unfolding added
added-each [] [] l b = omega arith
added-each [] (y ∷ ys) l b = absurd (omega arith)
added-each (x ∷ xs) [] l b = absurd (omega arith)
added-each (x ∷ xs) (y ∷ ys) l zero = refl
added-each (x ∷ xs) (y ∷ ys) l (suc b) = added-each xs ys (omega arith) b

-- a part without scores changes none, and neither does being added to one
pub added-nothing : (xs ys : List ℕ) → length xs ≡ length ys → ((b : ℕ) → get_or ys b 0 ≡ 0) → added xs ys ≡ xs
unfolding added
added-nothing [] ys l h = refl
added-nothing (x ∷ xs) [] l h = absurd (omega arith)
added-nothing (x ∷ xs) (y ∷ ys) l h = ap₂ ◌∷◌ (let z = h 0 in omega arith) (added-nothing xs ys (omega arith) (λ b. h (suc b)))

pub nothing-added : (xs ys : List ℕ) → length xs ≡ length ys → ((b : ℕ) → get_or xs b 0 ≡ 0) → added xs ys ≡ ys
unfolding added
nothing-added [] [] l h = refl
nothing-added [] (y ∷ ys) l h = absurd (omega arith)
nothing-added (x ∷ xs) [] l h = absurd (omega arith)
nothing-added (x ∷ xs) (y ∷ ys) l h = ap₂ ◌∷◌ (let z = h 0 in omega arith) (nothing-added xs ys (omega arith) (λ b. h (suc b)))
