-- The verdict before any event, in each case that the code tells apart. Assumes nothing.
use mathlib.Core.Path.{◌≡◌}
use Prim.Native.Nat.{ℕ}
use borrow.Author.Tests.{eq-eqb, ne_eqb}
use Rattle.lists.specs.Tests.{pick}
use Rattle.answers.specs.declared.Verdict.TheVariants.{False, True, Pending}
use Rattle.progress.specs.Before.{verdict_before}

pub before-longer : (first nodes : ℕ) → (nodes ≡ 1 → ⊥) → Pending ≡ verdict_before first nodes
unfolding verdict_before pick
before-longer first nodes h = rw (ne_eqb nodes 1 h)

module _ (first nodes : ℕ) (one : nodes ≡ 1) where
  pub before-false : first ≡ 0 → False ≡ verdict_before first nodes
  unfolding verdict_before pick
  before-false h = rw (eq-eqb nodes 1 one, eq-eqb first 0 h)

  pub before-true : first ≡ 1 → True ≡ verdict_before first nodes
  unfolding verdict_before pick
  before-true h = rw (eq-eqb nodes 1 one, h)

  pub before-else : (first ≡ 0 → ⊥) → (first ≡ 1 → ⊥) → Pending ≡ verdict_before first nodes
  unfolding verdict_before pick
  before-else h k = rw (eq-eqb nodes 1 one, ne_eqb first 0 h, ne_eqb first 1 k)
