-- What stands behind a reference after an accepted call and after a refusal, also one that tells more than its number. Assumes nothing.
use mathlib.Core.Path.{◌≡◌, refl, sym, ap, ◌∙◌}
use mathlib.Core.List.{List}
use Prim.Native.Nat.{ℕ, ◌<◌}
use native.Mathlib.Omega.{arith}
use lib.ListN.{get_or}
use borrow.Author.Tests.{eq-eqb, ne_eqb}
use Rattle.lists.specs.Tests.{pick}
use Rattle.answers.specs.declared.Refusal.{Refusal}
use Rattle.answers.specs.Said.{Said, accepted, refused, refused_with, number_of}
use Rattle.answers.proofs.Answers.{number-some}
use Rattle.exported.specs.Exported.{value_at, told_at}

kept : (why : Refusal) (i before : ℕ) → value_at (refused (number_of why)) i before ≡ before
unfolding value_at pick
kept why i before = let n = number-some why in rw (ne_eqb (number_of why) 0 (λ e. omega arith))

given : (vs : List ℕ) (i before : ℕ) → value_at (accepted vs) i before ≡ get_or vs i 0
unfolding value_at pick
given vs i before = refl

pub value-refused : {s : Said} (why : Refusal) (i before : ℕ) → refused (number_of why) ≡ s → before ≡ value_at s i before
value-refused why i before e = sym (kept why i before) ∙ ap (λ (x : Said). value_at x i before) e

pub value-accepted : {s : Said} (vs : List ℕ) (i before : ℕ) → accepted vs ≡ s → get_or vs i 0 ≡ value_at s i before
value-accepted vs i before e = sym (given vs i before) ∙ ap (λ (x : Said). value_at x i before) e

-- by the number alone
pub value-zero : (s : Said) (i before : ℕ) → s.number ≡ 0 → value_at s i before ≡ get_or s.values i 0
unfolding value_at pick
value-zero s i before e = rw (eq-eqb s.number 0 e)

-- a refusal that tells more gives no value
pub value-with : (n : ℕ) (vs : List ℕ) (i before : ℕ) → 0 < n → before ≡ value_at (refused_with n vs) i before
unfolding value_at pick
value-with n vs i before h = rw (ne_eqb n 0 (λ e. omega arith))

-- ---- what a refusal tells
kept-told : (why : Refusal) (i before : ℕ) → told_at (refused (number_of why)) i before ≡ before
unfolding told_at pick
kept-told why i before = let n = number-some why in rw (ne_eqb (number_of why) 0 (λ e. omega arith))

given-told : (n : ℕ) (vs : List ℕ) (i before : ℕ) → 0 < n → told_at (refused_with n vs) i before ≡ get_or vs i before
unfolding told_at pick
given-told n vs i before h = rw (ne_eqb n 0 (λ e. omega arith))

pub told-refused : {s : Said} (why : Refusal) (i before : ℕ) → refused (number_of why) ≡ s → before ≡ told_at s i before
told-refused why i before e = sym (kept-told why i before) ∙ ap (λ (x : Said). told_at x i before) e

pub told_with : {s : Said} (n : ℕ) (vs : List ℕ) (i before : ℕ) → 0 < n → refused_with n vs ≡ s → get_or vs i before ≡ told_at s i before
told_with n vs i before h e = sym (given-told n vs i before h) ∙ ap (λ (x : Said). told_at x i before) e

pub told-accepted : {s : Said} (vs : List ℕ) (i before : ℕ) → accepted vs ≡ s → before ≡ told_at s i before
unfolding told_at pick
told-accepted vs i before e = ap (λ (x : Said). told_at x i before) e
