-- Whether a watch is finished, test by test: one slot, not stepped, that is a constant. Assumes nothing.
use mathlib.Core.Path.{◌≡◌, sym}
use mathlib.Core.Bool.{false}
use mathlib.Core.List.{List}
use Prim.Native.Nat.{ℕ}
use lib.Dec.{eqb}
use borrow.Author.Tests.{eq-eqb, ne_eqb}
use Rattle.lists.specs.Tests.{both}
use Rattle.state.specs.Fields.{slots_in, stepped_in}
use Rattle.state.specs.Clauses.{is_constant_in}
use Rattle.state.specs.Calls.{finished_in}
use Rattle.records.proofs.Each.{both_false}

pub finished-many : (s : List ℕ) → (slots_in s ≡ 1 → ⊥) → false ≡ finished_in s
unfolding finished_in both
finished-many s h = rw (ne_eqb (slots_in s) 1 h)

pub finished-stepped : (s : List ℕ) → (stepped_in s 0 ≡ 0 → ⊥) → false ≡ finished_in s
unfolding finished_in both
finished-stepped s h = rw (ne_eqb (stepped_in s 0) 0 h) (sym (both_false (eqb (slots_in s) 1)))

pub finished-is : (s : List ℕ) → slots_in s ≡ 1 → stepped_in s 0 ≡ 0 → is_constant_in s 0 ≡ finished_in s
unfolding finished_in both
finished-is s e f = rw (eq-eqb (slots_in s) 1 e, eq-eqb (stepped_in s 0) 0 f)
