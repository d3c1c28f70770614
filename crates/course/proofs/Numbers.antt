-- Which numbers a tick's checks refuse with: its number tells its answer (`tick-number`), it is one of seven (`tick-these`), and where no
-- board has sampled it is not 13 (`tick-fresh`). Assumes nothing.
use mathlib.Core.Path.{◌≡◌, refl, sym, ap, ◌∙◌}
use mathlib.Core.Bool.{Bool, true, false}
use mathlib.Core.List.{List, [], ◌∷◌}
use Prim.Native.Nat.{ℕ}
use native.Mathlib.Omega.{arith}
use Rattle.lists.specs.Tests.{either}
use Rattle.lists.proofs.Tests.{pick-elim}
use Rattle.answers.specs.Said.{Said, accepted, refused, Check, in_order}
use Rattle.answers.proofs.Answers.{order-ok, order-refused}
use Rattle.masks.specs.Masks.{union_with}
use Rattle.state.specs.Fields.{masks_in}
use Rattle.state.specs.Clauses.{in_mask, among}
use Rattle.course.specs.Order.{none_sampled, tick_order}

-- ---- checks in order
order-number : (cs : List Check) → in_order cs (accepted []) ≡ refused (in_order cs (accepted [])).number
unfolding in_order
order-number [] = refl
order-number (c ∷ cs) = pick-elim (λ (a : Said). a ≡ refused a.number) c.ok (in_order cs (accepted [])) (refused c.number) (λ e. order-number cs) (λ e. refl)

-- what holds of 0 and of each check's number holds of the answer's
abbrev EachNumber : (ℕ → Type 0) → List Check → Type 0
EachNumber P [] = Unit {0}
EachNumber P (c ∷ cs) = P c.number × EachNumber P cs

order-elim : (P : ℕ → Type 0) (cs : List Check) → P 0 → EachNumber P cs → P (in_order cs (accepted [])).number
unfolding in_order
order-elim P [] z n = z
order-elim P (c ∷ cs) z n = pick-elim (λ (a : Said). P a.number) c.ok (in_order cs (accepted [])) (refused c.number) (λ e. order-elim P cs z n.1) (λ e. n.0)

-- ---- a tick's
module _ (s : List ℕ) (event : ℕ) where
  pub tick-number : tick_order s event ≡ refused (tick_order s event).number
  unfolding tick_order
  tick-number = order-number _

  pub tick-these : among (tick_order s event).number (0 ∷ 12 ∷ 13 ∷ 9 ∷ 15 ∷ 7 ∷ 8 ∷ []) ≡ true
  unfolding tick_order among either
  tick-these = order-elim (λ n. among n (0 ∷ 12 ∷ 13 ∷ 9 ∷ 15 ∷ 7 ∷ 8 ∷ []) ≡ true) _ refl (refl, (refl, (refl, (refl, (refl, (refl, tt))))))

  pub tick-fresh : none_sampled s ≡ true → (tick_order s event).number ≡ 13 → ⊥
  unfolding tick_order
  tick-fresh fresh = go (in_mask event (union_with 0 (masks_in s))) refl
    where
      go : (b : Bool) → in_mask event (union_with 0 (masks_in s)) ≡ b → (tick_order s event).number ≡ 13 → ⊥
      go true e q =
          order-elim (λ n. n ≡ 13 → ⊥) _ (λ z. omega arith) ((λ z. omega arith), ((λ z. omega arith), ((λ z. omega arith), ((λ z. omega arith), tt))))
          (ap (λ (a : Said). a.number) (sym (order-ok 12 _ _ _ e ∙ order-ok 13 _ _ _ fresh)) ∙ q)
      go false e q = let z : (tick_order s event).number ≡ 12 = ap (λ (a : Said). a.number) (order-refused 12 _ _ _ e) in omega arith
