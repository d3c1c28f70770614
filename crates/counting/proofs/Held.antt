-- What place holders among bytes add: of one byte (`held_low`, `held_high`), of bytes one behind the other (`over-append`) and taken off
-- one by one (`over-next`), and of the bytes of a clean formula (`clean-held`), which is what the formula holds. Assumes nothing.
use mathlib.Core.Path.{◌≡◌, sym, ap, ◌∙◌}
use mathlib.Core.Bool.{true, false}
use mathlib.Core.List.{List, [], ◌∷◌, ◌++◌}
use mathlib.Core.Option.{Option}
use Prim.Native.Nat.{ℕ, ◌+◌, ◌-◌, ◌<◌, ◌≤◌}
use native.Mathlib.Numerals.{add-one}
use native.Mathlib.Omega.{arith}
use lib.ListN.{length, get_or, drop}
use lib.Seq.{drop-cons}
use borrow.Author.Tests.{lt-ltb, le-ltb}
use Rattle.kinds.proofs.Codes.{unary-low, binary-low}
use Rattle.lists.specs.Tests.{pick}
use Rattle.kinds.specs.declared.Leaf.TheVariants.{Const, Prop, Hold}
use Rattle.kinds.specs.declared.Unary.TheVariants.{Not, Next, Ever}
use Rattle.kinds.specs.declared.Binary.TheVariants.{Joined, Until}
use Rattle.kinds.specs.Kinds.{unary_code, binary_code, prop_code, hold_code}
use Rattle.ltl.specs.Formula.{Formula, leaf, one, two, encode, Coded}
use Rattle.network.proofs.Owned.{Free, Clean}
use Rattle.laying.proofs.Counting.{held}
use Rattle.counting.specs.Held.{held_at, held_over}

module _ (entry : ℕ → ℕ) where
  pub held_low : (b : ℕ) → b < hold_code → held_at entry b ≡ 0
  unfolding held_at pick
  held_low b h = rw (lt-ltb b hold_code h)

  pub held_high : (b : ℕ) → hold_code ≤ b → held_at entry b ≡ entry (b - hold_code)
  unfolding held_at pick
  held_high b h = rw (le-ltb b hold_code h)

  pub over-append : (p q : List ℕ) → held_over entry (p ++ q) ≡ held_over entry p + held_over entry q
  over-append [] q = omega arith
  over-append (b ∷ p) q = omega (arith, over-append p q)

  pub over-next : (p : List ℕ) (i : ℕ) → i < length p → held_over entry (drop i p) ≡ held_at entry (get_or p i 0) + held_over entry (drop (i + 1) p)
  over-next p i h =
      ap (held_over entry) (drop-cons p i 0 h) ∙ ap (λ (j : ℕ). held_at entry (get_or p i 0) + held_over entry (drop j p)) (sym (add-one i))

  -- ---- by the formula
  module _ (choose : Formula → Option ℕ) where
    free-over : (f : Formula) → Coded f → Free choose f → held_over entry (encode f) ≡ 0
    free-over (leaf (Const true)) w x = omega (arith, held_low 1 (omega arith))
    free-over (leaf (Const false)) w x = omega (arith, held_low 0 (omega arith))
    free-over (leaf (Prop i)) w x = omega (arith, held_low (prop_code + i) (omega arith))
    free-over (leaf (Hold m)) w x = absurd x
    free-over (one o f) w x = omega (arith, held_low (unary_code o) (unary-low o), free-over f w x)
    free-over (two o f g) w x =
        omega (arith, held_low (binary_code o) (binary-low o), over-append (encode f) (encode g), free-over f w.0 x.0, free-over g w.1 x.1)

    pub clean-held : (f : Formula) → Coded f → Clean choose f → held_over entry (encode f) ≡ held entry f
    clean-held (leaf (Const v)) w x = free-over (leaf (Const v)) w x
    clean-held (leaf (Prop i)) w x = free-over (leaf (Prop i)) w x
    clean-held (leaf (Hold m)) w x =
        let e : hold_code + m - hold_code ≡ m = omega arith in
        let q = held_high (hold_code + m) (omega arith) ∙ ap entry e in
        omega arith
    clean-held (one Not f) w x = omega (arith, held_low (unary_code Not) (unary-low Not), clean-held f w x)
    clean-held (one Next f) w x = free-over (one Next f) w x
    clean-held (one (Ever j) f) w x = free-over (one (Ever j) f) w x
    clean-held (two (Joined j) f g) w x =
        omega (arith, held_low (binary_code (Joined j)) (binary-low (Joined j)), over-append (encode f) (encode g), clean-held f w.0 x.0, clean-held g w.1 x.1)
    clean-held (two Until f g) w x = free-over (two Until f g) w x
