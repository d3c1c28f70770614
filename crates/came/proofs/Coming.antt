-- Where an event is next in the bytes that came, its 8 bytes are there. Assumes nothing.
use mathlib.Core.Path.{◌≡◌}
use mathlib.Core.List.{List}
use Prim.Native.Nat.{ℕ, ◌≤◌}
use lib.ListN.{length}
use lib.Dec.{eqb, ltb}
use borrow.Author.Tests.{ltb-false}
use Rattle.lists.proofs.Tests.{pick-elim}
use Rattle.came.specs.declared.Next.{Next}
use Rattle.came.specs.declared.Next.TheVariants.{Event}
use Rattle.came.specs.Came.{next_in}

pub event-whole : (s : List ℕ) (e : ℕ) → next_in s ≡ Event e → 8 ≤ length s
unfolding next_in
event-whole s e =
    pick-elim (λ (n : Next). n ≡ Event e → 8 ≤ length s) (eqb (length s) 0) _ _ (λ q h. cc)
    (λ q. pick-elim (λ (n : Next). n ≡ Event e → 8 ≤ length s) (ltb (length s) 8) _ _ (λ r h. cc) (λ r h. ltb-false (length s) 8 r))
