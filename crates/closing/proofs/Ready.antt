-- Whether a tick can be closed: `over-boards`, `over-slots`, `over-ticks` and `over_done` are its answers, `over-refused` and `over-passed`
-- what they tell. Assumes nothing.
use mathlib.Core.Path.{◌≡◌, refl, sym, ap, ◌∙◌}
use mathlib.Core.Bool.{Bool, true, false}
use mathlib.Core.List.{List, [], ◌∷◌}
use Prim.Native.Nat.{ℕ, ◌+◌, ◌<◌, ◌≤◌, ◌^◌}
use native.Mathlib.Omega.{arith}
use lib.Dec.{ltb}
use borrow.Author.Tests.{lt-ltb, le-ltb, ltb-true}
use Rattle.lists.specs.Tests.{both}
use Rattle.lists.proofs.Tests.{both_true}
use Rattle.answers.specs.declared.Refusal.{Refusal}
use Rattle.answers.specs.declared.Refusal.TheVariants.{Unready, Ticks}
use Rattle.answers.specs.Said.{Said, accepted, refused, number_of, Check, check, in_order}
use Rattle.answers.proofs.Answers.{number-some, order-ok, order-refused, order-done}
use Rattle.state.specs.Fields.{ticks_in}
use Rattle.state.specs.Calls.{done_in}
use Rattle.done.specs.Done.{all_sampled, all_stepped}
use Rattle.closing.specs.Close.{over_says}

first-false : (a b : Bool) → a ≡ false → both a b ≡ false
unfolding both
first-false a b e = rw e

second-false : (a b : Bool) → a ≡ true → b ≡ false → both a b ≡ false
unfolding both
second-false a b e h = rw (e, h)

module _ (s : List ℕ) where
  unready : done_in s ≡ false → refused (number_of Unready) ≡ over_says s
  unfolding over_says
  unready e = sym (order-refused 14 _ _ _ e)

  pub over-boards : all_sampled s ≡ false → refused (number_of Unready) ≡ over_says s
  unfolding done_in
  over-boards e = unready (first-false (all_sampled s) (all_stepped s) e)

  module _ (sampled : all_sampled s ≡ true) where
    pub over-slots : all_stepped s ≡ false → refused (number_of Unready) ≡ over_says s
    unfolding done_in
    over-slots e = unready (second-false (all_sampled s) (all_stepped s) sampled e)

    module _ (stepped : all_stepped s ≡ true) where
      done_ok : done_in s ≡ true
      unfolding done_in
      done_ok = both_true (all_sampled s) (all_stepped s) sampled stepped

      pub over-ticks : 4294967295 ≤ ticks_in s → refused (number_of Ticks) ≡ over_says s
      unfolding over_says
      over-ticks l = sym (order-ok 14 _ _ _ done_ok ∙ order-refused 15 _ _ _ (le-ltb (ticks_in s + 1) (2 ^ 32) (omega arith)))

      pub over_done : ticks_in s < 4294967295 → accepted [] ≡ over_says s
      unfolding over_says
      over_done l = sym (order-ok 14 _ _ _ done_ok ∙ order-ok 15 _ _ _ (lt-ltb (ticks_in s + 1) (2 ^ 32) (omega arith)) ∙ order-done _)

-- an accepted answer is no refusal
none : {A : Type 0} (why : Refusal) → accepted [] ≡ refused (number_of why) → A
none why e = let z = number-some why in let f : 0 ≡ number_of why = ap (λ (x : Said). x.number) e in absurd (omega arith)

-- where it refuses, whatever is checked behind it
pub over-refused : (d t : Bool) (why : Refusal) (cs : List Check) (x : Said) → in_order (check 14 d ∷ check 15 t ∷ []) (accepted []) ≡ refused (number_of why)
    → in_order (check 14 d ∷ check 15 t ∷ cs) x ≡ refused (number_of why)
over-refused false t why cs x e = order-refused 14 false _ _ refl ∙ sym (order-refused 14 false (check 15 t ∷ []) (accepted []) refl) ∙ e
over-refused true false why cs x e =
    order-ok 14 true _ _ refl ∙ order-refused 15 false _ _ refl ∙ sym (order-ok 14 true (check 15 false ∷ []) (accepted []) refl ∙ order-refused 15 false [] (accepted []) refl) ∙ e
over-refused true true why cs x e =
    none why (sym (order-ok 14 true (check 15 true ∷ []) (accepted []) refl ∙ order-ok 15 true [] (accepted []) refl ∙ order-done (accepted [])) ∙ e)

passed : (d t : Bool) → accepted [] ≡ in_order (check 14 d ∷ check 15 t ∷ []) (accepted []) → (d ≡ true) × (t ≡ true)
passed false t e = none Unready (e ∙ order-refused 14 false _ _ refl)
passed true false e = none Ticks (e ∙ order-ok 14 true _ _ refl ∙ order-refused 15 false _ _ refl)
passed true true e = (refl, refl)

-- where it does not
pub over-passed : (s : List ℕ) → accepted [] ≡ over_says s → (done_in s ≡ true) × (ticks_in s + 1 < 2 ^ 32)
unfolding over_says
over-passed s e = let p = passed (done_in s) (ltb (ticks_in s + 1) (2 ^ 32)) e in (p.0, ltb-true _ _ p.1)
