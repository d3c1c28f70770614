-- How many slots and nodes a layout has: the cuts, one node more for each, and those of the held slots (`laid-slots`, `laid-nodes`).
-- Assumes nothing.
use mathlib.Core.Path.{◌≡◌, refl, ◌∙◌}
use mathlib.Core.Option.{Option}
use Prim.Native.Nat.{ℕ, ◌+◌}
use native.Mathlib.Omega.{arith}
use lib.ListN.{length, length-append}
use Rattle.kinds.specs.declared.Leaf.TheVariants.{Const, Prop, Hold}
use Rattle.kinds.specs.declared.Unary.TheVariants.{Not, Next, Ever}
use Rattle.kinds.specs.declared.Binary.TheVariants.{Joined, Until}
use Rattle.ltl.specs.Formula.{Formula, leaf, one, two, size}
use Rattle.network.specs.Layout.{Laid, cut, looked, laid}
use Rattle.network.proofs.Laying.{HoldsIn}
use Rattle.state.specs.Bytes.{nodes_of}
use Rattle.cutting.specs.Cuts.{looked_as, cuts_on}
use Rattle.laying.proofs.Sizes.{looked-as}
use Rattle.laying.proofs.Appending.{nodes-both}

-- the sum over the place holders outside next and the temporal operators
abbrev pub held : (ℕ → ℕ) → Formula → ℕ
held t (leaf (Const v)) = 0
held t (leaf (Prop i)) = 0
held t (leaf (Hold m)) = t m
held t (one Not f) = held t f
held t (one Next f) = 0
held t (one (Ever j) f) = 0
held t (two (Joined j) f g) = held t f + held t g
held t (two Until f g) = 0

pub held_none : (f : Formula) → held (λ m. 0) f ≡ 0
held_none (leaf (Const v)) = refl
held_none (leaf (Prop i)) = refl
held_none (leaf (Hold m)) = refl
held_none (one Not f) = held_none f
held_none (one Next f) = refl
held_none (one (Ever j) f) = refl
held_none (two (Joined j) f g) = omega (arith, held_none f, held_none g)
held_none (two Until f g) = refl

module _ (choose : Formula → Option ℕ) (hold : ℕ → ℕ → Laid) (t : ℕ → ℕ) where
  -- a part that is looked at: what it counts where it stays, and one more where it is cut
  looked-count : (count : Laid → ℕ) → ((c k : ℕ) (x : Laid) → count (cut c k x) ≡ 1 + count x) → (f : Formula) (b k more : ℕ) → ((c n : ℕ) → count (laid choose hold f c n) ≡ cuts_on choose f c + more)
      → count (looked (choose f) b k (laid choose hold f)) ≡ looked_as (choose f) b (cuts_on choose f) (λ c. 1 + cuts_on choose f c) + more
  looked-count count one_more f b k more h =
      looked-as (λ x n. count x ≡ n + more) (choose f) b k (laid choose hold f) (cuts_on choose f) (λ c. 1 + cuts_on choose f c) (h b k)
      (λ c. one_more c k (laid choose hold f c (k + 1)) ∙ (let e = h c (k + 1) in omega arith))

  -- ---- slots
  abbrev slots_in : Laid → ℕ
  slots_in x = length x.slots

  pub laid-slots : (f : Formula) (b k : ℕ) → HoldsIn (λ m. (n : ℕ) → length (hold m n).slots ≡ t m) f → length (laid choose hold f b k).slots ≡ cuts_on choose f b + held t f
  unfolding laid cuts_on
  laid-slots (leaf (Const v)) b k h = refl
  laid-slots (leaf (Prop i)) b k h = refl
  laid-slots (leaf (Hold m)) b k h = let e = h k in omega arith
  laid-slots (one Not f) b k h = looked-count slots_in (λ c k x. omega arith) f b k (held t f) (λ c n. laid-slots f c n h)
  laid-slots (one Next f) b k h = refl
  laid-slots (one (Ever j) f) b k h = refl
  laid-slots (two (Joined j) f g) b k h =
      let x = looked (choose f) b k (laid choose hold f) in
      let y = looked (choose g) b (k + length x.slots) (laid choose hold g) in
      let l = looked-count slots_in (λ c k x. omega arith) f b k (held t f) (λ c n. laid-slots f c n h.0) in
      let r = looked-count slots_in (λ c k x. omega arith) g b (k + length x.slots) (held t g) (λ c n. laid-slots g c n h.1) in
      length-append x.slots y.slots ∙ (omega arith)
  laid-slots (two Until f g) b k h = refl

  -- ---- nodes
  abbrev nodes_in : Laid → ℕ
  nodes_in x = size x.here + nodes_of x.slots

  pub laid-nodes : (f : Formula) (b k : ℕ) → HoldsIn (λ m. (n : ℕ) → size (hold m n).here + nodes_of (hold m n).slots ≡ 1 + t m) f
      → size (laid choose hold f b k).here + nodes_of (laid choose hold f b k).slots ≡ cuts_on choose f b + (size f + held t f)
  unfolding laid cuts_on
  laid-nodes (leaf (Const v)) b k h = refl
  laid-nodes (leaf (Prop i)) b k h = refl
  laid-nodes (leaf (Hold m)) b k h = let e = h k in omega arith
  laid-nodes (one Not f) b k h =
      let e = looked-count nodes_in (λ c k x. omega arith) f b k (size f + held t f) (λ c n. laid-nodes f c n h) in
      omega arith
  laid-nodes (one Next f) b k h = omega arith
  laid-nodes (one (Ever j) f) b k h = omega arith
  laid-nodes (two (Joined j) f g) b k h =
      let x = looked (choose f) b k (laid choose hold f) in
      let y = looked (choose g) b (k + length x.slots) (laid choose hold g) in
      let l = looked-count nodes_in (λ c k x. omega arith) f b k (size f + held t f) (λ c n. laid-nodes f c n h.0) in
      let r = looked-count nodes_in (λ c k x. omega arith) g b (k + length x.slots) (size g + held t g) (λ c n. laid-nodes g c n h.1) in
      let n = nodes-both x.slots y.slots in
      omega arith
  laid-nodes (two Until f g) b k h = omega arith
