-- A tick up to its close is made of samples and steps: whatever giving an event comes to, their promises allow (`give-called`), also where
-- one of them is refused on the way. Assumes nothing.
use mathlib.Core.List.{List}
use Prim.Native.Nat.{ℕ, zero, suc, ◌+◌}
use lib.Bits.{bit_and}
use lib.Dec.{eqb}
use Rattle.lists.proofs.Tests.{pick-elim}
use Rattle.ltl.specs.Meaning.{Event}
use Rattle.state.specs.Fields.{boards_in, slots_in, mask_in}
use Rattle.course.specs.Given.{After, after, follow, sampled_from, stepped_below, taken_by, given_under}
use Rattle.course.specs.Ticked.{tick_leaves}
use Rattle.demand.specs.Called.{Called, nothing, sampled, stepped}
use Rattle.demand.proofs.Allowed.{sample-allowed, step-allowed}

-- what holds of a state that calls lead to holds of what follows
follow-keeps : (P : List ℕ → Type 0) (a : After) (next : List ℕ → After) → P a.leaves → ((t : List ℕ) → P t → P (next t).leaves) → P (follow a next).leaves
unfolding follow
follow-keeps P a next h more = pick-elim (λ (b : After). P b.leaves) (eqb a.says.number 0) (next a.leaves) a (λ e. more a.leaves h) (λ e. h)

module _ (s : List ℕ) (event : Event) where
  abbrev From : List ℕ → Type 0
  From t = Called s t

  sampled-called : (n i : ℕ) (t : List ℕ) → From t → From (sampled_from n event i t).leaves
  unfolding sampled_from
  sampled-called zero i t c = c
  sampled-called (suc n) i t c =
      let o = sample-allowed t i (bit_and event (mask_in t i)) in
      follow-keeps From _ (sampled_from n event (i + 1)) (sampled c i (bit_and event (mask_in t i)) o.0 o.1) (λ u d. sampled-called n (i + 1) u d)

  stepped-called : (k : ℕ) (t : List ℕ) → From t → From (stepped_below k t).leaves
  unfolding stepped_below
  stepped-called zero t c = c
  stepped-called (suc k) t c = let o = step-allowed t k in follow-keeps From _ (stepped_below k) (stepped c k o.0 o.1) (λ u d. stepped-called k u d)

  pub give-called : Called s (tick_leaves s event)
  unfolding given_under
  give-called =
      follow-keeps From _ (stepped_below (slots_in s)) (follow-keeps From (after (taken_by s event) s) (sampled_from (boards_in s) event 0) nothing (λ u d. sampled-called (boards_in s) 0 u d))
      (λ u d. stepped-called (slots_in s) u d)
