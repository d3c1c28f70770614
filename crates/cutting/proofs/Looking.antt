-- An operand is looked at by its choice as a number: `looked-by` says whether it stays in a slot on the board where the code places
-- it, which `place_is` says. Assumes nothing.
use mathlib.Core.Path.{◌≡◌, refl, sym, ap, ◌∙◌}
use mathlib.Core.Bool.{Bool, true, false}
use mathlib.Core.List.{List}
use mathlib.Core.Logic.{◌⊎◌, inl, inr}
use mathlib.Core.Option.{Option, none, some}
use Prim.Native.Nat.{ℕ, ◌+◌, ◌<◌, ◌≤◌}
use native.Mathlib.Omega.{arith}
use lib.Dec.{eqb}
use borrow.Author.Tests.{eq-eqb, ne_eqb, eqb-true, eqb-false}
use Rattle.lists.proofs.Tests.{either-right}
use Rattle.lists.specs.Tests.{pick, either}
use Rattle.limits.specs.Limits.{boards_most}
use Rattle.ltl.specs.Formula.{Formula}
use Rattle.network.specs.Scores.{highest}
use Rattle.scores.specs.Choice.{code_of, picked_by, stays_on}
use Rattle.cutting.specs.Cuts.{looked_as, place_by, place_of, cut_by, Lies}

-- ---- a part stays or is cut
pub stays-none : (board : ℕ) → stays_on boards_most board ≡ true
unfolding stays_on either
stays-none board = refl

stays-own : (c : ℕ) → stays_on c c ≡ true
unfolding stays_on either
stays-own c = rw (eq-eqb c c refl) (either-right (eqb c boards_most))

-- a choice that is a board's
pub stays-board : (c board : ℕ) → (c ≡ boards_most → ⊥) → stays_on c board ≡ eqb c board
unfolding stays_on either
stays-board c board l = rw (ne_eqb c boards_most l)

-- an operand that has no choice, or whose choice is the board, stays there; another one is cut, to the board of its choice
pub looked-by : (o : Option ℕ) (b place : ℕ) (stays cut : ℕ → ℕ) (n m : ℕ) → (place ≡ b) ⊎ (o ≡ none)
    → ((c : ℕ) → o ≡ some c → c < boards_most)
    → ((c : ℕ) → (o ≡ none) ⊎ (o ≡ some c) → stays c ≡ n)
    → ((c : ℕ) → o ≡ some c → cut c ≡ m)
    → looked_as o b stays cut ≡ pick (stays_on (code_of o) place) n m
unfolding looked_as pick
looked-by none b place stays cut n m w below stay cuts = rw (stays-none place) (stay b (inl refl))
looked-by (some c) b place stays cut n m w below stay cuts = go (eqb c b) refl
  where
    same : (place ≡ b) ⊎ (some c ≡ none) → place ≡ b
    same (inl e) = e
    same (inr e) = absurd (let z : ◌≡◌ {A = ℕ} 0 1 = cc in omega arith)

    go : (t : Bool) → eqb c b ≡ t → pick t (stays b) (cut c) ≡ pick (stays_on c place) n m
    go true q =
        let e = eqb-true c b q in
        let p : place ≡ c = same w ∙ sym e in
        rw (p, stays-own c) (stay b (inr (ap some e)))
    go false q =
        let d = eqb-false c b q in
        let p = same w in
        let l = below c refl in
        rw (stays-board c place (λ e. omega arith), ne_eqb c place (λ e. d (e ∙ p))) (cuts c refl)

-- ---- one cut or none
pub cut-few : (c board : ℕ) → cut_by c board ≤ 1
unfolding cut_by pick
cut-few c board = go (stays_on c board)
  where
    go : (t : Bool) → pick t 0 1 ≤ 1
    go true = omega arith
    go false = omega arith

pub cut-more : (c board n : ℕ) → pick (stays_on c board) n (n + 1) ≡ n + cut_by c board
unfolding cut_by pick
cut-more c board n = go (stays_on c board)
  where
    go : (t : Bool) → pick t n (n + 1) ≡ n + pick t 0 1
    go true = omega arith
    go false = refl

-- ---- the board that a node is laid on
pub place-own : (on choice : ℕ) → on ≡ boards_most → place_by on choice ≡ choice
unfolding place_by pick
place-own on choice e = rw (eq-eqb on boards_most e)

pub place-given : (on choice : ℕ) → (on ≡ boards_most → ⊥) → place_by on choice ≡ on
unfolding place_by pick
place-given on choice n = rw (ne_eqb on boards_most n)

pub place_is : (choose : Formula → Option ℕ) (f g : Formula) (on b : ℕ) (counts : List ℕ) → highest none 0 0 counts ≡ choose g
    → (choose g ≡ none → choose f ≡ none) → Lies choose g on b → (place_of on counts ≡ b) ⊎ (choose f ≡ none)
place_is choose f g on b counts e h (inl (o, inl z)) = inr (h z)
place_is choose f g on b counts e h (inl (o, inr z)) = inl (place-own on (picked_by counts) o ∙ ap code_of (e ∙ z))
place_is choose f g on b counts e h (inr (o, l)) = inl (place-given on (picked_by counts) (λ q. omega arith) ∙ o)
