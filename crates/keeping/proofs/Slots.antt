-- A slot that a call does not touch has its formula in common (`same_reads`, `same-formula-at`, `same-constant`), so that the state
-- check's clauses about it pass after the call where they pass before (`same-record`, `same-formula`). Assumes nothing.
use mathlib.Core.Path.{◌≡◌, sym, ap, ap₂, ◌∙◌}
use mathlib.Core.Bool.{true, false}
use mathlib.Core.List.{List}
use Prim.Native.Nat.{ℕ, ◌<◌, ◌≤◌}
use native.Mathlib.Omega.{arith}
use lib.ListN.{get_or}
use lib.Dec.{leb, eqb}
use Rattle.lists.specs.Tests.{both}
use Rattle.kinds.specs.declared.Leaf.TheVariants.{Const, Prop, Hold}
use Rattle.kinds.specs.declared.Unary.TheVariants.{Not, Next, Ever}
use Rattle.kinds.specs.declared.Binary.TheVariants.{Joined, Until}
use Rattle.ltl.specs.Formula.{Formula, leaf, one, two, Within}
use Rattle.ltl.specs.Decode.{decoded, some_formula}
use Rattle.masks.specs.Masks.{sum_ones}
use Rattle.network.proofs.Laying.{HoldsIn}
use Rattle.network.proofs.Holding.{holds-map}
use Rattle.state.specs.Fields.{boards_in, slots_in, sampled_in, masks_in, board_of_in, stepped_in, formula_in}
use Rattle.state.specs.Clauses.{unfolded_own, lone_other, is_constant_in, record_ok, formula_ok}
use Rattle.state.specs.Bytes.{formula_at}
use Rattle.state.proofs.Framed.{Framed, masks-same, mask-of-same, end_same}
use Rattle.state.proofs.SameSlots.{SameSlot}
use Rattle.checked.proofs.Passing.{SlotPassing}
use Rattle.checked.proofs.Held.{slot-holds, slot_held}
use Rattle.keeping.proofs.Parts.{record_of, formula-of}

-- a flag that is not 1 is 0
pub zero_flag : (n : ℕ) → n ≤ 1 → (n ≡ 1 → ⊥) → n ≡ 0
zero_flag n a b = omega arith

-- two facts of each place holder
pub holds-both : (Q R : ℕ → Type 0) (f : Formula) → HoldsIn Q f → HoldsIn R f → HoldsIn (λ m. Q m × R m) f
holds-both Q R (leaf (Const v)) x y = tt
holds-both Q R (leaf (Prop i)) x y = tt
holds-both Q R (leaf (Hold m)) x y = (x, y)
holds-both Q R (one Not f) x y = holds-both Q R f x y
holds-both Q R (one Next f) x y = tt
holds-both Q R (one (Ever j) f) x y = tt
holds-both Q R (two (Joined j) f g) x y = (holds-both Q R f x.0 y.0, holds-both Q R g x.1 y.1)
holds-both Q R (two Until f g) x y = tt

-- ---- what it has in common
module _ {s t : List ℕ} {k : ℕ} (x : SameSlot s t k) where
  pub same_reads : formula_in t k ≡ formula_in s k
  same_reads = ap decoded x.bytes

  pub same-formula-at : formula_at t k ≡ formula_at s k
  same-formula-at = ap some_formula same_reads

  pub same-constant : is_constant_in t k ≡ is_constant_in s k
  same-constant = ap₂ (λ (n : ℕ) (b : List ℕ). both (eqb n 1) (leb (get_or b 0 0) 1)) x.size x.bytes

-- ---- its clauses pass
module _ {s t : List ℕ} (f : Framed s t) (k : ℕ) (l : k < slots_in s) (x : SameSlot s t k) (p : SlotPassing s k) where
  pub same-record : record_ok t k ≡ true
  same-record =
      let b = f.board k l in
      let n = f.boards in
      let i = f.start k l in
      let e = end_same f k in
      let m = x.mark in
      let z = x.size in
      let q = p.board-there in
      let u = p.used in
      let w = p.flag in
      let c = p.some-length in
      record_of t k (omega arith) (omega arith) (omega arith) (omega arith) (λ y. (let v = p.fills (omega arith) in omega arith))

  -- where its board, if it is stepped, has still sampled, and each stepped slot is untouched
  pub same-formula : ((b : ℕ) → b < boards_in s → sampled_in s b ≡ 1 → sampled_in t b ≡ 1) → ((m : ℕ) → m < slots_in s → stepped_in s m ≡ 1 → SameSlot s t m)
      → formula_ok t (sum_ones (masks_in t)) k (formula_in t k) ≡ true
  same-formula sampled untouched =
      let g = formula_at s k in
      let mask = mask-of-same f k l p.board-there in
      let holds = slot-holds s k p in
      let within : Within (sum_ones (masks_in t)) (slots_in t) g = rw (masks-same f, f.slots) p.within in
      formula-of t k (sum_ones (masks_in t)) g (same_reads x ∙ p.reads)
      within
      p.tidied (holds-map (λ m. (k < m) × (m < slots_in s)) (λ m. k < m) (λ m h. h.0) g holds)
      (λ e.
      (let e' : stepped_in s k ≡ 1 = sym x.mark ∙ e in
      record {
        sampled = ap (sampled_in t) (f.board k l) ∙ sampled (board_of_in s k) p.board-there (p.sampled e');
        held =
            holds-map (λ m. ((k < m) × (m < slots_in s)) × ((stepped_in s m ≡ 1) × (is_constant_in s m ≡ false))) (λ m. (stepped_in t m ≡ 1) × (is_constant_in t m ≡ false))
            (λ m h.
            (let y = untouched m h.0.1 h.1.0 in
            (y.mark ∙ h.1.0, same-constant y ∙ h.1.1)))
            g (holds-both _ _ g holds (slot_held s k p e'));
        not-lone = ap (λ (m : ℕ). lone_other m g) mask ∙ p.not-lone e';
      }))
      (λ e. (let w = p.flag in let m = x.mark in ap (λ (m : ℕ). unfolded_own m g) mask ∙ p.own (zero_flag (stepped_in s k) w (λ q. e (m ∙ q)))))
