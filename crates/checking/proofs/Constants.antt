-- Whether a slot is a constant, by where its nodes lie. Assumes nothing.
use mathlib.Core.Path.{◌≡◌, sym, ap, ◌∙◌}
use mathlib.Core.Bool.{Bool, false}
use mathlib.Core.List.{List}
use Prim.Native.Nat.{ℕ, ◌-◌}
use native.Mathlib.Omega.{arith}
use lib.ListN.{get_or}
use lib.Dec.{leb}
use borrow.Author.Tests.{eq-eqb, ne_eqb}
use Rattle.lists.specs.Tests.{both}
use Rattle.state.specs.Fields.{length_in, slot_bytes}
use Rattle.state.specs.Clauses.{is_constant_in}
use Rattle.state.specs.Counted.{Spans}
use Rattle.records.proofs.Opened.{byte_at}

module _ {s : List ℕ} {k from to : ℕ} (x : Spans s k from to) where
  span-length : to - from ≡ length_in s k
  span-length = omega arith

  pub constant-is : to - from ≡ 1 → leb (get_or s from 0) 1 ≡ is_constant_in s k
  unfolding both
  constant-is e =
      let one : length_in s k ≡ 1 = sym span-length ∙ e in
      ap (λ (y : ℕ). leb y 1) (byte_at s k from x.from_is (omega arith))
      ∙ sym (ap (λ (y : Bool). both y (leb (get_or (slot_bytes s k) 0 0) 1)) (eq-eqb (length_in s k) 1 one))

  pub constant-not : (to - from ≡ 1 → ⊥) → false ≡ is_constant_in s k
  unfolding both
  constant-not e = sym (ap (λ (y : Bool). both y (leb (get_or (slot_bytes s k) 0 0) 1)) (ne_eqb (length_in s k) 1 (λ o. e (span-length ∙ o))))
