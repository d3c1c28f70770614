-- One run more: which rule's counts and ticks it is among. It is one of rule r with verdict v where its numbers are these (`came-hit`), and
-- not otherwise (`came-miss`). Assumes nothing.
use mathlib.Core.Path.{◌≡◌, ap, ◌∙◌}
use mathlib.Core.Bool.{true, false}
use mathlib.Core.List.{List, [], ◌∷◌, ◌++◌, map, map-append}
use Prim.Native.Nat.{ℕ}
use native.Mathlib.Decide.{ℕ_discrete}
use borrow.Author.Tests.{eq-eqb, ne_eqb}
use Rattle.lists.specs.Tests.{both}
use Rattle.lists.proofs.Tests.{both_true}
use Rattle.answers.specs.declared.Verdict.{Verdict}
use Rattle.answers.specs.declared.Verdict.TheVariants.{False}
use Rattle.answers.specs.Said.{verdict_number}
use Rattle.reports.specs.Runs.{Run}
use Rattle.reports.specs.Report.{those, came_to, ticks_of}
use Rattle.reports.proofs.Those.{those-hit, those-miss}

module _ (x : Run) (v : Verdict) (r : ℕ) where
  pub came-hit : x.rule ≡ r → x.verdict ≡ verdict_number v → came_to r v x ≡ true
  came-hit e f = both_true _ _ (eq-eqb x.rule r e) (eq-eqb x.verdict (verdict_number v) f)

  pub came-miss : (x.rule ≡ r → x.verdict ≡ verdict_number v → ⊥) → came_to r v x ≡ false
  unfolding both
  came-miss n = go (ℕ_discrete x.rule r)
    where
      go : Dec (x.rule ≡ r) → came_to r v x ≡ false
      go (yes e) = rw (eq-eqb x.rule r e, ne_eqb x.verdict (verdict_number v) (n e))
      go (no e) = rw (ne_eqb x.rule r e)

module _ (xs : List Run) (x : Run) (r : ℕ) where
  -- a tick more, or none
  pub ticks-hit : x.rule ≡ r → x.verdict ≡ 0 → ticks_of r (xs ++ (x ∷ [])) ≡ ticks_of r xs ++ (x.tick ∷ [])
  ticks-hit e f = ap (λ (l : List Run). map (λ (y : Run). y.tick) l) (those-hit (came_to r False) xs x (came-hit x False r e f)) ∙ map-append (λ (y : Run). y.tick) (those (came_to r False) xs) (x ∷ [])

  pub ticks-miss : (x.rule ≡ r → x.verdict ≡ 0 → ⊥) → ticks_of r (xs ++ (x ∷ [])) ≡ ticks_of r xs
  ticks-miss n = ap (λ (l : List Run). map (λ (y : Run). y.tick) l) (those-miss (came_to r False) xs x (came-miss x False r n))
