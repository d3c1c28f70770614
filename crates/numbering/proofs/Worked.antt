-- A worked value, so that what `number` asks is known to be met: a root that holds entries 1 and 0, of which entry 1 holds entry 0. Entry 1
-- comes first, since the chain to entry 0 by it is longer. Assumes nothing.
use mathlib.Core.Path.{◌≡◌, refl}
use mathlib.Core.Bool.{true, false}
use mathlib.Core.Logic.{⊎_elim}
use mathlib.Core.List.{List, [], ◌∷◌}
use Prim.Native.Nat.{ℕ, zero, suc, ◌<◌, ◌≤◌}
use native.Mathlib.Omega.{arith}
use lib.ListN.{get_or}
use lib.Dec.{eqb}
use borrow.Author.Tests.{eqb-true}
use Rattle.lists.specs.Tests.{pick, both, either}
use Rattle.lists.proofs.Tests.{no_true}
use Rattle.kinds.specs.declared.Leaf.TheVariants.{Prop, Hold}
use Rattle.kinds.specs.declared.Unary.TheVariants.{Not}
use Rattle.kinds.specs.declared.Join.TheVariants.{And}
use Rattle.ltl.specs.Formula.{Formula, leaf, one, join}
use Rattle.network.specs.Layout.{Slot}
use Rattle.registers.specs.Relaying.{holds_of, is_among}
use Rattle.registers.specs.Numbers.{holds_at, met_all, met_from, met_in, raised, chains_down, chain_in, on_level, by_level, order_in, number_by, place_in}
use Rattle.tokens.specs.Tokens.{held_in}
use Rattle.meeting.specs.Links.{LinksOf}
use Rattle.meeting.proofs.Among.{either-cases}
use Rattle.numbering.specs.Orders.{Graph}
use Rattle.numbering.proofs.Surveys.{graph-of}

abbrev root : Formula
root = join And (leaf (Hold 1)) (leaf (Hold 0))

abbrev register : List Slot
register = record { board = 0; formula = one Not (leaf (Prop 0)) } ∷ record { board = 1; formula = one Not (leaf (Hold 0)) } ∷ []

abbrev root-tokens : List ℕ
root-tokens = 3 ∷ 129 ∷ 128 ∷ []

abbrev bodies : List ℕ
bodies = 2 ∷ 64 ∷ 2 ∷ 128 ∷ []

abbrev places : List ℕ
places = 0 ∷ 2 ∷ 4 ∷ []

-- the order
pub worked-order : order_in root register ≡ 1 ∷ 0 ∷ []
unfolding order_in by_level on_level chain_in chains_down raised met_in met_from met_all holds_of is_among pick either
worked-order = refl

-- the numbers
pub worked-numbers : (number_by (order_in root register) 0 ≡ 2) × (number_by (order_in root register) 1 ≡ 1)
unfolding order_in by_level on_level chain_in chains_down raised met_in met_from met_all holds_of is_among pick either place_in
worked-numbers = (refl, refl)

-- what is asked is met
pub worked-graph : Graph root-tokens bodies places 2 root register
unfolding order_in by_level on_level chain_in chains_down raised met_in met_from met_all holds_of is_among pick both either held_in
worked-graph = graph-of (omega arith) (omega arith) begins inside refl links below falls refl every
  where
    begins : (k : ℕ) → k < 2 → get_or places k 0 ≤ get_or places (suc k) 0
    begins zero h = omega arith
    begins (suc zero) h = omega arith
    begins (suc (suc k)) h = absurd (omega arith)

    inside : (k : ℕ) → k < 2 → get_or places (suc k) 0 ≤ 4
    inside zero h = omega arith
    inside (suc zero) h = omega arith
    inside (suc (suc k)) h = absurd (omega arith)

    links : LinksOf bodies places register 2
    links zero h = refl
    links (suc zero) h = refl
    links (suc (suc k)) h = absurd (omega arith)

    below : (k : ℕ) → is_among k (holds_of root) ≡ true → k < 2
    below k h =
        ⊎_elim (λ e. let z = eqb-true k 1 e in omega arith)
        (λ x. ⊎_elim (λ e. let z = eqb-true k 0 e in omega arith) (λ e. absurd (no_true e)) (either-cases (eqb k 0) false x))
        (either-cases (eqb k 1) (either (eqb k 0) false) h)

    falls : (k m : ℕ) → k < 2 → is_among m (holds_at register k) ≡ true → m < k
    falls zero m h x = absurd (no_true x)
    falls (suc zero) m h x =
        ⊎_elim (λ e. let z = eqb-true m 0 e in omega arith) (λ e. absurd (no_true e)) (either-cases (eqb m 0) false x)
    falls (suc (suc k)) m h x = absurd (omega arith)

    every : (k : ℕ) → k < 2 → is_among k (order_in root register) ≡ true
    every zero h = refl
    every (suc zero) h = refl
    every (suc (suc k)) h = absurd (omega arith)
