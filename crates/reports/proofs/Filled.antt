-- Where n, e, l and s can be the count, the least, the greatest and the sum of some numbers (`CanSpan`), there are such numbers (`ticks_for`,
-- `ticks-for`). One alone is e. Of two or more the first is e, the second l, and the others are numbers from e to l whose sum is what is left
-- (`filled`): each in its turn is as high as it may be, which is l, or what remains where all that follow are e. Assumes nothing.
use mathlib.Core.Path.{◌≡◌, refl, ap, ◌∙◌}
use mathlib.Core.List.{List, [], ◌∷◌}
use Prim.Native.Nat.{ℕ, zero, suc, ◌-◌, ◌*◌, ◌≤◌, min, max}
use native.Mathlib.Nat.{suc-mul, mul-le-mul_left}
use native.Mathlib.Omega.{arith}
use lib.ListN.{length}
use Rattle.reports.specs.Report.{chosen, summed}
use Rattle.reports.specs.Nights.{Each}
use Rattle.reports.proofs.Each.{each_more}
use Rattle.reports.proofs.Figures.{min_assoc, max_assoc}
use Rattle.reports.proofs.Chosen.{chosen-one, chosen_more, chosen-absorbed}
use Rattle.reports.proofs.Spans.{CanSpan}

-- k numbers from e to l with the sum t
unfoldable pub filled : ℕ → ℕ → ℕ → ℕ → List ℕ
filled e l zero t = []
filled e l (suc k) t = min l (t - k * e) ∷ filled e l k (t - min l (t - k * e))

-- n numbers with the least e, the greatest l and the sum s
unfoldable pub ticks_for : ℕ → ℕ → ℕ → ℕ → List ℕ
ticks_for zero e l s = []
ticks_for (suc zero) e l s = e ∷ []
ticks_for (suc (suc k)) e l s = e ∷ l ∷ filled e l k (s - e - l)

-- from e to l
pub record Between (e l x : ℕ) : Type 0 where
  pub low : e ≤ x
  pub high : x ≤ l

-- numbers have this count, least, greatest and sum, and none is beyond these
pub record TicksSpan (ts : List ℕ) (n e l s : ℕ) : Type 0 where
  pub count : length ts ≡ n
  pub least : chosen min ts ≡ e
  pub greatest : chosen max ts ≡ l
  pub sum : summed ts ≡ s
  pub between : Each (Between e l) ts

-- with x taken off the sum t, k numbers from e to l can still have the rest
record Taken (e l k t x : ℕ) : Type 0 where
  here : Between e l x
  part : x ≤ t
  low : k * e ≤ t - x
  high : t - x ≤ k * l

module _ (e l : ℕ) (order : e ≤ l) where
  taken : (k t : ℕ) → suc k * e ≤ t → t ≤ suc k * l → Taken e l k t (min l (t - k * e))
  taken k t low high =
      let a = suc-mul k e in
      let b = suc-mul k l in
      let m = mul-le-mul_left k order in
      record { here = record { low = omega arith; high = omega arith }; part = omega arith; low = omega arith; high = omega arith }

  filled-length : (k t : ℕ) → length (filled e l k t) ≡ k
  unfolding filled
  filled-length zero t = refl
  filled-length (suc k) t = ap suc (filled-length k (t - min l (t - k * e)))

  filled-between : (k t : ℕ) → k * e ≤ t → t ≤ k * l → Each (Between e l) (filled e l k t)
  unfolding filled
  filled-between zero t low high = tt
  filled-between (suc k) t low high =
      let x = taken k t low high in
      (x.here, filled-between k (t - min l (t - k * e)) x.low x.high)

  filled-sum : (k t : ℕ) → k * e ≤ t → t ≤ k * l → summed (filled e l k t) ≡ t
  unfolding filled summed
  filled-sum zero t low high = omega arith
  filled-sum (suc k) t low high =
      let x = taken k t low high in
      let s = filled-sum k (t - min l (t - k * e)) x.low x.high in
      omega arith

pub ticks-for : (n e l s : ℕ) → CanSpan (suc n) e l s → TicksSpan (ticks_for (suc n) e l s) (suc n) e l s
unfolding ticks_for summed
ticks-for zero e l s span =
    record {
      count = refl;
      least = chosen-one min e;
      greatest = chosen-one max e ∙ omega arith;
      sum = omega arith;
      between = (record { low = omega arith; high = span.order }, tt);
    }
ticks-for (suc k) e l s span =
    let order = span.order in
    let t = s - e - l in
    let one : suc (suc k) - 1 ≡ suc k = omega arith in
    let a = ap (λ (m : ℕ). m * e) one ∙ suc-mul k e in
    let b = ap (λ (m : ℕ). m * l) one ∙ suc-mul k l in
    let low : k * e ≤ t = omega arith in
    let high : t ≤ k * l = omega arith in
    let ts = filled e l k t in
    let between = filled-between e l order k t low high in
    let sum = filled-sum e l order k t low high in
    record {
      count = ap (λ (m : ℕ). suc (suc m)) (filled-length e l order k t);
      least = chosen-absorbed min min_assoc e (l ∷ ts) (omega arith, each_more (Between e l) (λ x. min e x ≡ e) (λ x h. omega arith) ts between);
      greatest =
          chosen_more max e l ts
          ∙ ap (max e) (chosen-absorbed max max_assoc l ts (each_more (Between e l) (λ x. max l x ≡ l) (λ x h. omega arith) ts between))
          ∙ omega arith;
      sum = omega arith;
      between = (record { low = omega arith; high = order }, (record { low = order; high = omega arith }, between));
    }
