-- Steps and marks: the subtraction is the step (`step-wraps`), a counter one below the first (`one-before`), the step to the next record
-- (`steps_next`), and the mark as a pass reads it, where nothing clashes (`mark-read`). Assumes nothing.
use Rattle.std.proofs.Common.{◌≡◌, ℕ, zero, suc, ◌+◌, ◌%◌, ◌^◌, ◌<◌, ◌≤◌, Bool, true, false, eqb, List, sym, refl, ap, ◌∙◌, add-one, arith, eqb-true}
use borrow.Author.Tests.{eqb-false}
use Rattle.lists.specs.Tests.{pick}
use Rattle.le.proofs.Laws.{Bytes}
use Rattle.recordings.specs.Records.{Record, step_from, doubles, clashes, kept, dropped, broken, mark_of}
use Rattle.recordings.specs.Mending.{mark_by, NoClash}
use Rattle.recordings.specs.Recording.{record_in}
use Rattle.recordings.proofs.Neighbours.{doubles-same, step-none, step-doubles, follows-one, follows-not}
use Rattle.recordings.proofs.Bytes.{record-fits}
use Rattle.neighbours.specs.Steps.{step_by, mark_of_step, StepsTo}

-- ---- the step
pub step-wraps : (a b d : ℕ) → a < 2 ^ 32 → b < 2 ^ 32 → d < 2 ^ 32 → (d + a) % 2 ^ 32 ≡ b → d ≡ step_from a b
unfolding step_from
step-wraps a b d h k l e = omega arith

pub one-before : (s : List ℕ) (a b : ℕ) → a < 2 ^ 32 → b < 2 ^ 32 → a ≡ (record_in s 0).counter → (b + 1) % 2 ^ 32 ≡ a → StepsTo s 0 b
unfolding step_by step_from
one-before s a b h k x e = let y = x in omega arith

-- the next record comes after this one
pub steps_next : (s : List ℕ) (i : ℕ) {c : ℕ} → c ≡ (record_in s i).counter → StepsTo s (i + 1) c
unfolding step_by
steps_next s i e = rw add-one (ap (λ (a : ℕ). step_from a (record_in s (suc i)).counter) e)

-- ---- the mark
module _ (b r : Record) (b-fits : b.counter < 2 ^ 32) (r-fits : r.counter < 2 ^ 32) (n : clashes b r ≡ false) where
  abbrev d : ℕ
  d = step_from b.counter r.counter

  no-double : (d ≡ 0 → ⊥) → (x : Bool) → doubles b r ≡ x → doubles b r ≡ false
  no-double k true e = absurd (k (step-none _ _ b-fits (ap (λ (x : Record). x.counter) (doubles-same b r e))))
  no-double k false e = e

  mark-steps : (x y : Bool) → eqb d 0 ≡ x → eqb d 1 ≡ y → mark_of b r ≡ pick x dropped (pick y kept broken)
  unfolding mark_of pick
  mark-steps true y e f = rw (step-doubles b r b-fits r-fits n (eqb-true d 0 e)) refl
  mark-steps false true e f = rw (no-double (eqb-false d 0 e) _ refl, follows-one b r (eqb-true d 1 f)) refl
  mark-steps false false e f = rw (no-double (eqb-false d 0 e) _ refl, follows-not b r (eqb-false d 0 e) (eqb-false d 1 f)) refl

mark-by-step : (f : ℕ → Record) (n i : ℕ) → ((k : ℕ) → (f k).counter < 2 ^ 32) → NoClash f n → i < n → mark_by f i ≡ mark_of_step (step_by f i)
unfolding mark_by step_by mark_of_step pick
mark-by-step f n zero fits clear h = refl
mark-by-step f n (suc i) fits clear h = mark-steps (f i) (f (suc i)) (fits i) (fits (suc i)) (clear i h) _ _ refl refl

-- as a pass reads it: the step from the counter before to this one, and the mark of that
pub mark-read : (s : List ℕ) (before : ℕ) {n i counter d mark : ℕ} → Bytes s → NoClash (record_in s) n → i < n → StepsTo s i before
    → counter ≡ (record_in s i).counter → d ≡ step_from before counter → mark ≡ mark_of_step d → mark ≡ mark_by (record_in s) i
mark-read s before {n} {i} bytes clear h to c e m =
    m ∙ ap mark_of_step (e ∙ ap (step_from before) c ∙ to) ∙ sym (mark-by-step (record_in s) n i (λ k. (record-fits s k bytes).counter) clear h)

-- a mark keeps one record at most
pub kept-most : (m : ℕ) {k : ℕ} → k ≡ pick (eqb m dropped) 0 1 → k ≤ 1
unfolding pick
kept-most m {k} e = go (eqb m dropped) e
  where
    go : (b : Bool) → k ≡ pick b 0 1 → k ≤ 1
    go true e = omega arith
    go false e = omega arith
