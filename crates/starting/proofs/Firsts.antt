-- What the functions that put the first state ask of each other, and what they have put: `first-put`. Assumes nothing.
use mathlib.Core.Path.{◌≡◌, sym, subst}
use mathlib.Core.List.{List, []}
use Prim.Native.Nat.{ℕ, ◌≤◌}
use native.Mathlib.Omega.{arith}
use lib.ListN.{length, take}
use Rattle.limits.specs.Limits.{nodes_room}
use Rattle.ltl.specs.Formula.{Formula, size}
use Rattle.ltl.specs.Progression.{unfolded}
use Rattle.state.specs.Form.{form_in}
use Rattle.state.proofs.Forms.{slots-few, nodes-few}
use Rattle.state.specs.Calls.{first_of, loaded_state}
use Rattle.nodes.specs.Begins.{Front, Begins}
use Rattle.nodes.proofs.Fronts.{front_length, front-one-way}
use Rattle.scores.specs.Owned.{Table}
use Rattle.unfolding.specs.Unfolds.{UnfoldAsk, Unfolds, UnfoldedTo}
use Rattle.unfolding.proofs.Fronts.{written-bytes, written-front}
use Rattle.tagging.specs.declared.TaggedPart.{TaggedPart}
use Rattle.tagging.specs.Tags.{TaggedAs, Tagging}
use Rattle.storing.proofs.Zeros.{zero-none}
use Rattle.storing.specs.Stores.{LaidOut, LaidCounts, StateAsk, Stores}
use Rattle.starting.specs.Starting.{FirstAsk, Firsts}
use Rattle.starting.proofs.Rules.{first-large, first-laid}

pub whole-begins : {s : List ℕ} {f : Formula} → Front s f [] → Begins s
whole-begins {f = f} x = record { formula = f; rest = []; front = x }

module _ {state masks bytes owner : List ℕ} {board slots nodes : ℕ} {u tags : List ℕ} (ask : FirstAsk state masks bytes owner board slots nodes u tags) where
  abbrev U : Formula
  U = unfolded ask.rule

  pub first-size : size U ≤ nodes_room
  first-size = let l = first-large ask.ruled in let f = nodes-few (form_in state) in omega arith

  pub unfold-ask : UnfoldAsk u bytes
  unfold-ask = record { formula = ask.rule; front = ask.ruled.front; few = first-size; room = let s = first-size in omega arith }

  module _ {u' : List ℕ} (n : ℕ) (h : Unfolds u bytes u' n) where
    rule-unfolded : UnfoldedTo ask.rule u u' n
    rule-unfolded = h ask.rule ask.ruled.front

    front-is : Front (take n u') U []
    front-is = written-front rule-unfolded ask.ruled.front.coded

    pub tag-ask : Begins (take n u') × Table owner × (length (take n u') ≤ length tags) × (length (take n u') ≤ nodes_room)
    tag-ask =
        let e = front_length (take n u') U [] front-is in
        let s = first-size in
        (whole-begins front-is, ask.table, omega arith, omega arith)

    module _ {tags' : List ℕ} (y : TaggedPart) (m : Tagging owner (take n u') board tags' y) (kept : length tags' ≡ length tags) where
      laid-is : LaidOut (take n u') tags' (first_of masks ask.rule)
      laid-is =
          subst (λ (x : List ℕ). LaidOut x tags' (first_of masks ask.rule)) (sym (written-bytes rule-unfolded))
          (first-laid ask.ruled owner ask.owned tags' y (subst (λ (b : ℕ). TaggedAs owner U b tags' y) ask.board-is (m U [] front-is))
          (let s = first-size in omega arith))

      counts-are : LaidCounts (first_of masks ask.rule) slots nodes
      counts-are = record { slots-are = ask.slots-are; nodes-are = ask.nodes-are; few-slots = (let a = ask.few-slots in let f = slots-few (form_in state) in omega arith); few-nodes = (let a = ask.few-nodes in let f = nodes-few (form_in state) in omega arith) }

      pub state-ask : StateAsk state (length state) masks slots nodes (take n u') tags'
      state-ask = record { clean = zero-none state; network = first_of masks ask.rule; laid_out = laid-is; counts = counts-are; long = ask.long; few-boards = ask.ruled.few-boards; form-slots = ask.few-slots; form-nodes = ask.few-nodes }

      pub first-put : {state' : List ℕ} → Stores (form_in state) masks slots nodes 0 (take n u') tags' state' → Firsts (form_in state) masks bytes state'
      first-put {state'} h rule r =
          let same : ask.rule ≡ rule = (front-one-way bytes ask.rule rule [] [] ask.ruled.front r.front).0 in
          subst (λ (f : Formula). state' ≡ loaded_state (form_in state) masks f) same (h (first_of masks ask.rule) laid-is counts-are)
