-- A formula folded into an array of its own, or with nothing to fold: what is asked and given on the way. Assumes nothing.
use Rattle.std.specs.Prelude.{Result}
use Rattle.answers.specs.declared.Refusal.{Refusal}
use Rattle.central.specs.declared.Progress.{Progress}
use mathlib.Core.Path.{◌≡◌, sym, subst}
use mathlib.Core.Bool.{true}
use mathlib.Core.List.{List}
use Prim.Native.Nat.{ℕ, ◌≤◌}
use native.Mathlib.Omega.{arith}
use lib.ListN.{length}
use Rattle.limits.specs.Limits.{central_nodes_most, nodes_room}
use Rattle.lists.specs.Runs.{tail}
use Rattle.lists.proofs.Parts.{tail-length}
use Rattle.ltl.specs.Formula.{Formula}
use Rattle.ltl.specs.Meaning.{Event}
use Rattle.nodes.proofs.Fronts.{front-tail}
use Rattle.folded.specs.Folding.{folded}
use Rattle.folding.specs.Bare.{bare_from}
use Rattle.folding.specs.Folds.{FoldAsk, Folds}
use Rattle.folding.proofs.Bares.{bare-stands}
use Rattle.central.specs.Folded.{FormulaGiven, FoldGiven, Outcomed, AsGiven, AsFolded}

module _ {formula p output : List ℕ} (a : FoldGiven formula p output) where
  pub given-fold : FoldAsk nodes_room formula p
  given-fold = let g = a.given in let f = g.few in let k = a.few in record { formula = g.whole; front = g.front; few = omega arith; fits = f; room = k }

  module _ {p' : List ℕ} {w : ℕ} (h : Folds formula p' w) where
    -- the formula that was folded begins inside
    pub given_inside : w ≤ length p'
    given_inside = (h.means a.given.whole a.given.front).0

    pub given-folded : length p' ≡ length p → FormulaGiven central_nodes_most (tail w p') output
    given-folded l =
        let t = tail-length w p' in
        let f = a.few in
        record { whole = folded a.given.whole; front = front-tail w p' (h.means a.given.whole a.given.front).1; few = omega arith; room = a.given.room }

module _ {formula output output' : List ℕ} {event : Event} {answer : Result Progress Refusal} where
  pub folded-given : {p : List ℕ} {w : ℕ} → Folds formula p w → AsGiven (tail w p) event output output' answer → AsFolded formula event output output' answer
  folded-given {p} {w} h g f x = g (folded f) (front-tail w p (h.means f x).1)

  pub bare-given : bare_from 0 formula ≡ true → AsGiven formula event output output' answer → AsFolded formula event output output' answer
  bare-given b g f x = subst (λ (h : Formula). Outcomed h event output output' answer) (sym (bare-stands x b)) (g f x)
