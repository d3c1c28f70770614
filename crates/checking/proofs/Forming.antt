-- A slot's formula clause is what one pass over its nodes finds (`held-passed`), and the clauses of all slots are found one slot after
-- the other (`seen_more`, `seen-wrong`, `seen_all`). Assumes nothing.
use Rattle.std.specs.Prelude.{Option, Some, None}
use mathlib.Core.Path.{◌≡◌, refl, sym, ap, ◌∙◌, subst}
use mathlib.Core.Bool.{Bool, true, false, not}
use mathlib.Core.List.{List}
use mathlib.Core.Logic.{⊎_elim}
use mathlib.Core.Option as math
use Prim.Native.Nat.{ℕ, zero, suc, ◌+◌, ◌<◌, ◌≤◌}
use native.Mathlib.Nat.{eq-or-lt_of_le}
use native.Mathlib.Numerals.{add-one}
use native.Mathlib.Omega.{arith}
use lib.ListN.{length}
use lib.Dec.{eqb}
use borrow.Author.Tests.{lt-ltb}
use Rattle.limits.specs.Limits.{propositions_most, holder_codes}
use Rattle.lists.specs.Tests.{pick, both, either}
use Rattle.lists.proofs.Tests.{no_true, pick-elim}
use Rattle.ltl.specs.Formula.{Formula, size, Coded}
use Rattle.ltl.specs.Decode.{decoded}
use Rattle.ltl.proofs.Decoding.{decoded-is, length-encode, over-within}
use Rattle.network.specs.Tick.{holds_only}
use Rattle.state.specs.Fields.{slots_in, mask_in, sampled_in, board_of_in, stepped_in, length_in, slot_bytes, formula_in}
use Rattle.state.specs.Clauses.{each_below, distinct, shape_ok, unfolded_own, lone_other, formula_ok, held_by, held_of, holders_in}
use Rattle.slot_sets.specs.declared.SlotSet.{SlotSet}
use Rattle.slot_sets.specs.SlotSets.{has_slot, no_slots, every_slot}
use Rattle.slot_sets.proofs.SlotSets.{every-has}
use Rattle.scanning.specs.declared.Allowed.{Allowed}
use Rattle.scanning.specs.OnePass.{Fitted, at, pass, noted}
use Rattle.checking.specs.Slotted.{holdable_in, Holdable, sampled_for, own_stepped, allowed_in, held_in, formulas_ok}
use Rattle.records.proofs.Each.{each_none, each_more, each-false, both_false}
use Rattle.scanning.proofs.Passes.{stands, thereafter, noted-append}
use Rattle.scanning.proofs.Owing.{checked_text, wrong-slots, pass-is}
use Rattle.checking.proofs.Allowing.{holds-all, holds_same, own-unfolded, own-stepped, stands-so}
use Rattle.checking.proofs.Noting.{is_slots, noted-distinct}

-- ---- one slot
pub allowed-fitted : (s : List ℕ) (p : ℕ) (holdable : SlotSet) (k : ℕ) (a : Allowed) → a ≡ allowed_in s p holdable k → p ≤ propositions_most → slots_in s ≤ holder_codes → Fitted a
unfolding allowed_in
allowed-fitted s p holdable k a e h l =
    subst Fitted (sym e) (pick-elim Fitted (eqb (stepped_in s k) 1) _ _ (λ e. record { propositions = h; slots = l }) (λ e. record { propositions = h; slots = l }))

module _ (s : List ℕ) (p k : ℕ) (seen : SlotSet) where
  pub held-unsampled : sampled_for s k ≡ false → held_in s p k seen ≡ None
  unfolding sampled_for held_in pick both either
  held-unsampled h = go (eqb (stepped_in s k) 1) (eqb (sampled_in s (board_of_in s k)) 1) refl refl h (formula_in s k)
    where
      fails : (x : math.Option Formula) → eqb (stepped_in s k) 1 ≡ true → eqb (sampled_in s (board_of_in s k)) 1 ≡ false → formula_ok s p k x ≡ false
      fails math.none e q = refl
      fails (math.some f) e q = rw (e, q) (both_false (shape_ok s p k f))

      go : (x y : Bool) → eqb (stepped_in s k) 1 ≡ x → eqb (sampled_in s (board_of_in s k)) 1 ≡ y → either (not x) y ≡ false → (f : math.Option Formula)
          → pick (formula_ok s p k f) (noted (held_of f) seen) None ≡ None
      go true true e q h f = absurd (no_true (sym h))
      go true false e q h f = ap (λ (b : Bool). pick b (noted (held_of f) seen) None) (fails f e q)
      go false y e q h f = absurd (no_true (sym h))

  module _ (holdable : SlotSet) (are : Holdable s holdable) (f : Formula) (coded : Coded f) (long : length_in s k ≡ size f) where
    abbrev mask : ℕ
    mask = mask_in s (board_of_in s k)

    clause-stepped : eqb (stepped_in s k) 1 ≡ true → eqb (sampled_in s (board_of_in s k)) 1 ≡ true → stands (allowed_in s p holdable k) f ≡ formula_ok s p k (math.some f)
    unfolding allowed_in own_stepped holdable_in pick both
    clause-stepped e q =
        let a : Allowed = record { propositions = p; slots = slots_in s; slot = k; own = own_stepped mask (length_in s k); holders = holdable; temporal = true } in
        let is : allowed_in s p holdable k ≡ a = rw e in
        ap (λ (x : Allowed). stands x f) is
        ∙ stands-so a f coded (holds_only (holdable_in s) f) (not (lone_other mask f)) (λ w. holds_same p (slots_in s) (has_slot holdable) (holdable_in s) f (over-within p (slots_in s) f w) holdable-is) (own-stepped mask (length_in s k) f coded long)
        ∙ rw (e, q)
      where
        holdable-is : (m : ℕ) → m < slots_in s → has_slot holdable m ≡ holdable_in s m
        holdable-is m l = are m ∙ ap (λ (b : Bool). both b (holdable_in s m)) (lt-ltb m (slots_in s) l)

    clause-unstepped : eqb (stepped_in s k) 1 ≡ false → stands (allowed_in s p holdable k) f ≡ formula_ok s p k (math.some f)
    unfolding allowed_in pick both
    clause-unstepped e =
        let a : Allowed = record { propositions = p; slots = slots_in s; slot = k; own = mask; holders = every_slot; temporal = false } in
        let is : allowed_in s p holdable k ≡ a = rw e in
        ap (λ (x : Allowed). stands x f) is
        ∙ stands-so a f coded true (unfolded_own mask f) (λ w. holds-all (has_slot every_slot) f coded every-has) (own-unfolded mask f)
        ∙ rw e

    clause-is : sampled_for s k ≡ true → stands (allowed_in s p holdable k) f ≡ formula_ok s p k (math.some f)
    unfolding sampled_for either
    clause-is h = go (eqb (stepped_in s k) 1) refl h
      where
        go : (x : Bool) → eqb (stepped_in s k) 1 ≡ x → either (not x) (eqb (sampled_in s (board_of_in s k)) 1) ≡ true → stands (allowed_in s p holdable k) f ≡ formula_ok s p k (math.some f)
        go true e h = clause-stepped e h
        go false e h = clause-unstepped e

  pub held-passed : (holdable : SlotSet) → Holdable s holdable → length (slot_bytes s k) ≡ length_in s k → sampled_for s k ≡ true → {a : Allowed} → a ≡ allowed_in s p holdable k
      → pass a (slot_bytes s k) (at 1 0 seen) ≡ held_in s p k seen
  unfolding held_in pick
  held-passed holdable are long h so = ap (λ (x : Allowed). pass x (slot_bytes s k) (at 1 0 seen)) so ∙ pass-is (allowed_in s p holdable k) (slot_bytes s k) seen ∙ go (decoded (slot_bytes s k)) refl
    where
      go : (x : math.Option Formula) → decoded (slot_bytes s k) ≡ x → checked_text (allowed_in s p holdable k) x seen ≡ pick (formula_ok s p k x) (noted (held_of x) seen) None
      go math.none e = refl
      go (math.some f) e =
          let t = decoded-is (slot_bytes s k) f e in
          let l : length_in s k ≡ size f = sym long ∙ ap length t.1 ∙ length-encode f in
          ap (λ (b : Bool). pick b (noted (held_by f) seen) None) (clause-is holdable are f t.0 l h)

-- ---- all slots
abbrev pub formula_test : List ℕ → ℕ → ℕ → Bool
formula_test s p k = formula_ok s p k (formula_in s k)

-- what is known before slot k
pub record SeenBefore (s : List ℕ) (p k : ℕ) (seen : SlotSet) : Type 0 where
  pub each : each_below k (formula_test s p) ≡ true
  pub holders : noted (holders_in s k) no_slots ≡ Some seen

pub seen_none : {s : List ℕ} {p : ℕ} → SeenBefore s p 0 no_slots
unfolding noted holders_in
seen_none {s} {p} = record { each = each_none (formula_test s p); holders = refl }

holders-more : (s : List ℕ) (k : ℕ) → noted (holders_in s (suc k)) no_slots ≡ thereafter (noted (holders_in s k) no_slots) (λ x. noted (held_of (formula_in s k)) x)
unfolding holders_in
holders-more s k = noted-append (holders_in s k) (held_of (formula_in s k)) no_slots

holders-wrong : (s : List ℕ) (n k : ℕ) → k ≤ n → noted (holders_in s k) no_slots ≡ None → noted (holders_in s n) no_slots ≡ None
holders-wrong s zero k l e = let z : k ≡ 0 = omega arith in ap (λ (i : ℕ). noted (holders_in s i) no_slots) (sym z) ∙ e
holders-wrong s (suc n) k l e =
    ⊎_elim
    (λ q. ap (λ (i : ℕ). noted (holders_in s i) no_slots) (sym q) ∙ e)
    (λ q. holders-more s n ∙ ap (λ (h : Option SlotSet). thereafter h (λ x. noted (held_of (formula_in s n)) x)) (holders-wrong s n k (omega arith) e))
    (eq-or-lt_of_le l)

module _ {s : List ℕ} {p k : ℕ} {seen : SlotSet} (known : SeenBefore s p k seen) where
  pub seen_more : {x : SlotSet} → held_in s p k seen ≡ Some x → SeenBefore s p (k + 1) x
  unfolding held_in pick
  seen_more {x} h = go (formula_test s p k) refl h
    where
      go : (b : Bool) → formula_test s p k ≡ b → pick b (noted (held_of (formula_in s k)) seen) None ≡ Some x → SeenBefore s p (k + 1) x
      go true e q =
          record {
            each = each_more (formula_test s p) k known.each e;
            holders =
                ap (λ (i : ℕ). noted (holders_in s i) no_slots) (add-one k) ∙ holders-more s k
                ∙ ap (λ (h : Option SlotSet). thereafter h (λ y. noted (held_of (formula_in s k)) y)) known.holders ∙ q;
          }
      go false e q = absurd (wrong-slots x q)

  pub seen-wrong : (n : ℕ) → k < n → held_in s p k seen ≡ None → false ≡ formulas_ok s p n
  unfolding held_in formulas_ok pick both is_slots
  seen-wrong n l h = sym (go (formula_test s p k) refl h)
    where
      go : (b : Bool) → formula_test s p k ≡ b → pick b (noted (held_of (formula_in s k)) seen) None ≡ None → both (each_below n (formula_test s p)) (distinct (holders_in s n)) ≡ false
      go true e q =
          let w = holders-more s k ∙ ap (λ (h : Option SlotSet). thereafter h (λ y. noted (held_of (formula_in s k)) y)) known.holders ∙ q in
          let d : distinct (holders_in s n) ≡ false = sym (noted-distinct (holders_in s n)) ∙ ap is_slots (holders-wrong s n (suc k) l w) in
          ap (both (each_below n (formula_test s p))) d ∙ both_false (each_below n (formula_test s p))
      go false e q = ap (λ (b : Bool). both b (distinct (holders_in s n))) (each-false (formula_test s p) k n l e)

  pub seen_all : (n : ℕ) → k ≤ n → n ≤ k → true ≡ formulas_ok s p n
  unfolding formulas_ok both is_slots
  seen_all n l h =
      let e : k ≡ n = omega arith in
      let all : formulas_ok s p k ≡ true = rw known.each (sym (noted-distinct (holders_in s k)) ∙ ap is_slots known.holders) in
      sym (ap (formulas_ok s p) (sym e) ∙ all)
