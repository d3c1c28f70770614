-- How many slots and nodes a held slot lays, with those that it holds: `relaid-slots`, `relaid-nodes`. Assumes nothing.
use mathlib.Core.Path.{◌≡◌, refl}
use mathlib.Core.List.{List}
use mathlib.Core.Option.{Option}
use Prim.Native.Nat.{ℕ, zero, suc, ◌+◌}
use native.Mathlib.Omega.{arith}
use lib.ListN.{length}
use Rattle.kinds.specs.declared.Leaf.TheVariants.{Const, Prop, Hold}
use Rattle.kinds.specs.declared.Unary.TheVariants.{Not, Next, Ever}
use Rattle.kinds.specs.declared.Binary.TheVariants.{Joined, Until}
use Rattle.ltl.specs.Formula.{Formula, leaf, one, two, size}
use Rattle.ltl.specs.Progression.{unfolded}
use Rattle.network.specs.Layout.{Slot, slot_at, relaid}
use Rattle.network.proofs.Laying.{HoldsIn}
use Rattle.state.specs.Bytes.{nodes_of}
use Rattle.cutting.specs.Cuts.{cuts_on}
use Rattle.laying.proofs.Counting.{held, laid-slots, laid-nodes}

-- what holds of every number holds of every place holder
pub holds-any : (Q : ℕ → Type 0) → ((m : ℕ) → Q m) → (f : Formula) → HoldsIn Q f
holds-any Q h (leaf (Const v)) = tt
holds-any Q h (leaf (Prop i)) = tt
holds-any Q h (leaf (Hold m)) = h m
holds-any Q h (one Not f) = holds-any Q h f
holds-any Q h (one Next f) = tt
holds-any Q h (one (Ever j) f) = tt
holds-any Q h (two (Joined j) f g) = (holds-any Q h f, holds-any Q h g)
holds-any Q h (two Until f g) = tt

module _ (choose : Formula → Option ℕ) (slots : List Slot) where
  -- at most so many levels down
  abbrev pub slots_under : ℕ → ℕ → ℕ
  slots_under zero m = 0
  slots_under (suc a) m =
      let s = slot_at slots m in 1 + (cuts_on choose (unfolded s.formula) s.board + held (slots_under a) (unfolded s.formula))

  abbrev pub nodes_under : ℕ → ℕ → ℕ
  nodes_under zero m = 0
  nodes_under (suc a) m =
      let s = slot_at slots m in cuts_on choose (unfolded s.formula) s.board + (size (unfolded s.formula) + held (nodes_under a) (unfolded s.formula))

  pub relaid-single : (a m k : ℕ) → size (relaid choose slots a m k).here ≡ 1
  unfolding relaid
  relaid-single zero m k = refl
  relaid-single (suc a) m k = refl

  pub relaid-slots : (a m k : ℕ) → length (relaid choose slots a m k).slots ≡ slots_under a m
  unfolding relaid
  relaid-slots zero m k = refl
  relaid-slots (suc a) m k =
      let s = slot_at slots m in
      let f = unfolded s.formula in
      let e = laid-slots choose (relaid choose slots a) (slots_under a) f s.board (k + 1) (holds-any (λ n. (i : ℕ) → length (relaid choose slots a n i).slots ≡ slots_under a n) (λ n i. relaid-slots a n i) f) in
      omega arith

  pub relaid-nodes : (a m k : ℕ) → nodes_of (relaid choose slots a m k).slots ≡ nodes_under a m
  unfolding relaid
  relaid-nodes zero m k = refl
  relaid-nodes (suc a) m k =
      let s = slot_at slots m in
      let f = unfolded s.formula in
      laid-nodes choose (relaid choose slots a) (nodes_under a) f s.board (k + 1)
      (holds-any (λ n. (i : ℕ) → size (relaid choose slots a n i).here + nodes_of (relaid choose slots a n i).slots ≡ 1 + nodes_under a n)
      (λ n i. omega (arith, relaid-single a n i, relaid-nodes a n i)) f)
