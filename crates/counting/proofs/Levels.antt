-- What a slot counts, in terms of what the slots count that it holds (`slots-again`, `nodes-again`), and that the first slot counts the
-- whole network that is closed to (`close-slots`, `close-nodes`), where place holders have higher numbers. Assumes nothing.
use mathlib.Core.Path.{◌≡◌, sym, ap, ◌∙◌}
use mathlib.Core.List.{List}
use mathlib.Core.Option.{Option}
use Prim.Native.Nat.{ℕ, ◌+◌, ◌<◌}
use native.Mathlib.Omega.{arith}
use lib.ListN.{length}
use Rattle.ltl.specs.Formula.{Formula, size}
use Rattle.ltl.specs.Progression.{unfolded}
use Rattle.network.specs.Layout.{Slot, Laid, laid, slot_at, relaid, close}
use Rattle.network.proofs.Laying.{HoldsIn}
use Rattle.state.specs.Bytes.{nodes_of}
use Rattle.cutting.specs.Cuts.{cuts_on}
use Rattle.laying.proofs.Counting.{held, laid-slots, laid-nodes}
use Rattle.laying.proofs.Relays.{relaid-again}
use Rattle.laying.proofs.Totals.{holds-any, slots_under, nodes_under, relaid-single, relaid-slots, relaid-nodes}

module _ (choose : Formula → Option ℕ) (slots : List Slot) where
  -- the slots that slot m and those that it holds are laid to, and their nodes
  abbrev pub slots_for : ℕ → ℕ
  slots_for m = slots_under choose slots (length slots) m

  abbrev pub nodes_for : ℕ → ℕ
  nodes_for m = nodes_under choose slots (length slots) m

  -- a slot's cuts, on its board
  abbrev pub cuts_for : Slot → ℕ
  cuts_for s = cuts_on choose (unfolded s.formula) s.board

  -- slot m laid from number k on
  abbrev laid_from : ℕ → ℕ → Laid
  laid_from m k = let s = slot_at slots m in laid choose (relaid choose slots (length slots)) (unfolded s.formula) s.board k

  from-slots : (m k : ℕ) → length (laid_from m k).slots ≡ cuts_for (slot_at slots m) + held slots_for (unfolded (slot_at slots m).formula)
  from-slots m k =
      let s = slot_at slots m in
      let n = length slots in
      let f = unfolded s.formula in
      laid-slots choose (relaid choose slots n) slots_for f s.board k
      (holds-any (λ j. (i : ℕ) → length (relaid choose slots n j i).slots ≡ slots_for j) (λ j i. relaid-slots choose slots n j i) f)

  from-nodes : (m k : ℕ) → size (laid_from m k).here + nodes_of (laid_from m k).slots
      ≡ cuts_for (slot_at slots m) + (size (unfolded (slot_at slots m).formula) + held nodes_for (unfolded (slot_at slots m).formula))
  from-nodes m k =
      let s = slot_at slots m in
      let n = length slots in
      let f = unfolded s.formula in
      laid-nodes choose (relaid choose slots n) nodes_for f s.board k
      (holds-any (λ j. (i : ℕ) → size (relaid choose slots n j i).here + nodes_of (relaid choose slots n j i).slots ≡ 1 + nodes_for j)
      (λ j i. omega (arith, relaid-single choose slots n j i, relaid-nodes choose slots n j i)) f)

  module _ (higher : (m : ℕ) → m < length slots → HoldsIn (λ n. (m < n) × (n < length slots)) (unfolded (slot_at slots m).formula)) where
    pub slots-again : (m : ℕ) → m < length slots → slots_for m ≡ 1 + (cuts_for (slot_at slots m) + held slots_for (unfolded (slot_at slots m).formula))
    slots-again m l =
        let e = relaid-slots choose slots (length slots) m 0 in
        let a = ap (λ (x : Laid). length x.slots) (relaid-again choose slots higher m 0 l) in
        let b = from-slots m (0 + 1) in
        omega arith

    pub nodes-again : (m : ℕ) → m < length slots
        → nodes_for m ≡ cuts_for (slot_at slots m) + (size (unfolded (slot_at slots m).formula) + held nodes_for (unfolded (slot_at slots m).formula))
    nodes-again m l =
        let e = relaid-nodes choose slots (length slots) m 0 in
        let a = ap (λ (x : Laid). nodes_of x.slots) (relaid-again choose slots higher m 0 l) in
        let b = from-nodes m (0 + 1) in
        omega arith

    pub close-slots : 0 < length slots → length (close choose slots) ≡ slots_for 0
    unfolding close
    close-slots l = let e = from-slots 0 1 in let a = slots-again 0 l in omega arith

    pub close-nodes : 0 < length slots → nodes_of (close choose slots) ≡ nodes_for 0
    unfolding close
    close-nodes l = from-nodes 0 1 ∙ sym (nodes-again 0 l)
