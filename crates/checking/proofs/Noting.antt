-- Slots noted in a set: those below a number that pass a test (`Below`), and place holders noted one after the other, which succeeds exactly
-- where none stands twice (`noted-distinct`). Assumes nothing.
use Rattle.std.specs.Prelude.{Option, Some, None}
use mathlib.Core.Path.{◌≡◌, refl, sym, ap, ap₂, ◌∙◌}
use mathlib.Core.Bool.{Bool, true, false, not}
use mathlib.Core.List.{List, [], ◌∷◌}
use Prim.Native.Nat.{ℕ, ◌+◌}
use native.Mathlib.Omega.{arith}
use native.Mathlib.Decide.{ℕ_discrete, dec_lt}
use lib.Dec.{ltb, eqb}
use borrow.Author.Tests.{lt-ltb, le-ltb}
use Rattle.lists.specs.Tests.{pick, both, either}
use Rattle.slot_sets.specs.declared.SlotSet.{SlotSet}
use Rattle.slot_sets.specs.SlotSets.{has_slot, no_slots, with_slot}
use Rattle.slot_sets.proofs.SlotSets.{none_has, with-has, with-same, with-other}
use Rattle.state.specs.Clauses.{among, distinct}
use Rattle.scanning.specs.OnePass.{noted}
use Rattle.records.proofs.Each.{both_false, both-last}

-- ---- the slots below a number that pass a test, one more at a time
abbrev pub Below : (ℕ → Bool) → ℕ → SlotSet → Type 0
Below test k x = (m : ℕ) → has_slot x m ≡ both (ltb m k) (test m)

module _ (test : ℕ → Bool) where
  pub below_none : Below test 0 no_slots
  unfolding both
  below_none m = none_has m ∙ sym (ap (λ (x : Bool). both x (test m)) (le-ltb m 0 (omega arith)))

  module _ (k : ℕ) (x : SlotSet) (h : Below test k x) where
    below_other : (m : ℕ) → (k ≡ m → ⊥) → has_slot x m ≡ both (ltb m (k + 1)) (test m)
    below_other m n =
        h m ∙ ap (λ (t : Bool). both t (test m))
        (elim (dec_lt m k) [ yes l ↦ lt-ltb m k l ∙ sym (lt-ltb m (k + 1) (omega arith)) | no l ↦ le-ltb m k (omega arith) ∙ sym (le-ltb m (k + 1) (omega arith)) ])

    pub below-no : test k ≡ false → Below test (k + 1) x
    unfolding both
    below-no t m =
        elim (ℕ_discrete k m) [
          | yes e ↦ (let q : test m ≡ false = ap test (sym e) ∙ t in h m ∙ rw (q, le-ltb m k (omega arith)) (sym (both_false (ltb m (k + 1)))))
          | no n ↦ below_other m n
        ]

    pub below-yes : test k ≡ true → Below test (k + 1) (with_slot x k)
    unfolding both
    below-yes t m =
        elim (ℕ_discrete k m) [
          | yes e ↦
              (let q : test m ≡ true = ap test (sym e) ∙ t in
              ap (has_slot (with_slot x k)) (sym e) ∙ with-same x k ∙ sym (rw (q, lt-ltb m (k + 1) (omega arith))))
          | no n ↦ with-other x k m n ∙ below_other m n
        ]

-- ---- place holders noted one after the other
unfoldable pub is_slots : Option SlotSet → Bool
is_slots (Some x) = true
is_slots None = false

-- none of some slots is in the set
unfoldable pub none_in : SlotSet → List ℕ → Bool
none_in seen [] = true
none_in seen (m ∷ ms) = both (not (has_slot seen m)) (none_in seen ms)

none-empty : (ms : List ℕ) → none_in no_slots ms ≡ true
unfolding none_in both
none-empty [] = refl
none-empty (m ∷ ms) = rw (none_has m) (none-empty ms)

none_more : (seen : SlotSet) (m : ℕ) (ms : List ℕ) → none_in (with_slot seen m) ms ≡ both (none_in seen ms) (not (among m ms))
unfolding none_in among both either
none_more seen m [] = refl
none_more seen m (n ∷ ns) = ap₂ both (ap not (with-has seen m n)) (none_more seen m ns) ∙ go (has_slot seen n) (eqb m n) (none_in seen ns) (among m ns)
  where
    go : (a b c d : Bool) → both (not (either a b)) (both c (not d)) ≡ both (both (not a) c) (not (either b d))
    go true b c d = refl
    go false true true d = refl
    go false true false d = refl
    go false false c d = refl

noted-is : (ms : List ℕ) (seen : SlotSet) → is_slots (noted ms seen) ≡ both (distinct ms) (none_in seen ms)
unfolding noted is_slots distinct none_in pick both
noted-is [] seen = refl
noted-is (m ∷ ms) seen = go (has_slot seen m) (noted-is ms (with_slot seen m) ∙ ap (both (distinct ms)) (none_more seen m ms))
  where
    regroup : (d u n : Bool) → both d (both u n) ≡ both (both n d) u
    regroup true true true = refl
    regroup true true false = refl
    regroup true false true = refl
    regroup true false false = refl
    regroup false u true = refl
    regroup false u false = refl

    go : (b : Bool) → is_slots (noted ms (with_slot seen m)) ≡ both (distinct ms) (both (none_in seen ms) (not (among m ms)))
        → is_slots (pick b None (noted ms (with_slot seen m))) ≡ both (both (not (among m ms)) (distinct ms)) (both (not b) (none_in seen ms))
    go true ih = sym (both_false (both (not (among m ms)) (distinct ms)))
    go false ih = ih ∙ regroup (distinct ms) (none_in seen ms) (not (among m ms))

pub noted-distinct : (ms : List ℕ) → is_slots (noted ms no_slots) ≡ distinct ms
noted-distinct ms = noted-is ms no_slots ∙ ap (both (distinct ms)) (none-empty ms) ∙ sym (both-last (distinct ms))
