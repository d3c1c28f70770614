-- A rule folded into p, or with nothing to fold: what is asked and given on the way to its watch. Assumes nothing.
use Rattle.std.specs.Prelude.{Result, ⊤}
use Rattle.answers.specs.declared.Refusal.{Refusal}
use mathlib.Core.Path.{◌≡◌, sym, subst}
use mathlib.Core.Bool.{true}
use mathlib.Core.List.{List}
use Prim.Native.Nat.{ℕ, ◌≤◌}
use native.Mathlib.Omega.{arith}
use lib.ListN.{length}
use Rattle.limits.specs.Limits.{rule_nodes_most, nodes_room}
use Rattle.lists.specs.Runs.{tail}
use Rattle.lists.proofs.Parts.{tail-length}
use Rattle.ltl.specs.Formula.{Formula}
use Rattle.nodes.proofs.Fronts.{front-tail}
use Rattle.folded.specs.Folding.{folded}
use Rattle.folded.proofs.Lengths.{folded-within}
use Rattle.folding.specs.Bare.{bare_from}
use Rattle.folding.specs.Folds.{FoldAsk, Folds}
use Rattle.folding.proofs.Bares.{bare-stands}
use Rattle.starting.specs.Starting.{RuleGiven}
use Rattle.beginning.specs.Beginning.{RuleBegun, BeginAsk, Begun}
use Rattle.loading.specs.Begin.{BeginFoldedAsk, BegunFolded}

pub rule-fold : {masks bytes p state : List ℕ} → BeginFoldedAsk masks bytes p state → FoldAsk nodes_room bytes p
rule-fold a =
    let r = a.ask.ruled in
    let f = r.few-nodes in
    let l = a.long in
    record { formula = a.ask.rule; front = r.front; few = omega arith; fits = omega arith; room = omega arith }

module _ {masks bytes p : List ℕ} {w : ℕ} (h : Folds bytes p w) where
  -- the folded rule is a rule
  folded-ruled : length p ≡ rule_nodes_most → {rule : Formula} → RuleGiven masks bytes rule → RuleGiven masks (tail w p) (folded rule)
  folded-ruled l {rule} r =
      let t = tail-length w p in
      record {
        propositions = r.propositions;
        few-propositions = r.few-propositions;
        few-boards = r.few-boards;
        follow = r.follow;
        within = folded-within r.propositions 0 rule r.within;
        front = front-tail w p (h.means rule r.front).1;
        few-nodes = omega arith;
      }

  module _ {state : List ℕ} (a : BeginAsk masks bytes state) where
    pub folded-inside : w ≤ length p
    folded-inside = (h.means a.rule a.ruled.front).0

    pub folded-begins : length p ≡ rule_nodes_most → BeginAsk masks (tail w p) state
    folded-begins l = record { rule = folded a.rule; ruled = folded-ruled l a.ruled; long = a.long }

  pub folded-begun : {state state' : List ℕ} {answer : Result ⊤ Refusal} → length p ≡ rule_nodes_most → Begun masks (tail w p) state state' answer → BegunFolded masks bytes state state' answer
  folded-begun l b rule r = b (folded rule) (folded-ruled l r)

pub bare-begun : {masks bytes state state' : List ℕ} {answer : Result ⊤ Refusal} → bare_from 0 bytes ≡ true → Begun masks bytes state state' answer → BegunFolded masks bytes state state' answer
bare-begun {masks} {bytes} {state} {state'} {answer} e b rule r = subst (λ (x : Formula). RuleBegun masks x state state' answer) (sym (bare-stands r.front e)) (b rule r)
