-- The layout of a rule that was read, by what was counted: the board of its first slot (`board-of`), how many slots and nodes it has
-- (`first-slots`, `first-nodes`), and within the limits what putting it asks (`first-ask`). Assumes nothing.
use mathlib.Core.Path.{◌≡◌, refl, ap, ◌∙◌}
use mathlib.Core.List.{List}
use mathlib.Core.Logic.{inl}
use mathlib.Core.Option.{Option, none, some}
use Prim.Native.Nat.{ℕ, ◌+◌, ◌*◌, ◌<◌, ◌≤◌, min}
use native.Mathlib.Omega.{arith}
use lib.ListN.{length}
use lib.Dec.{eqb}
use borrow.Author.Tests.{eq-eqb, ne_eqb}
use Rattle.lists.specs.Tests.{pick}
use Rattle.limits.specs.Limits.{boards_most, nodes_room}
use Rattle.ltl.specs.Formula.{Formula, size}
use Rattle.ltl.specs.Progression.{unfolded}
use Rattle.network.specs.Scores.{highest, chosen}
use Rattle.network.specs.Layout.{no_hold, or_zero, load}
use Rattle.state.specs.declared.Form.{Form}
use Rattle.state.specs.Form.{form_in, slots_most, nodes_most}
use Rattle.state.specs.Bytes.{nodes_of}
use Rattle.state.specs.Calls.{first_of}
use Rattle.state.proofs.Forms.{nodes-few}
use Rattle.scores.specs.Owned.{Table, Owned}
use Rattle.scores.proofs.Counting.{scored-chosen}
use Rattle.cutting.specs.declared.LaidPart.{LaidPart}
use Rattle.scores.specs.Choice.{code_of}
use Rattle.cutting.specs.Cuts.{cuts_on, Parted}
use Rattle.cutting.proofs.Choices.{chosen-below}
use Rattle.cutting.proofs.Nodes.{unfolded-few}
use Rattle.laying.proofs.Counting.{held_none, laid-slots}
use Rattle.starting.specs.Starting.{RuleGiven, FirstAsk}
use Rattle.starting.proofs.Rules.{first-board, rule-within, rule-size, first-rests, holds-all, laid-out-nodes}
use Rattle.beginning.specs.Beginning.{BeginAsk}

-- ---- the board of the first slot
pub board-none : (choice : ℕ) → choice ≡ boards_most → pick (eqb choice boards_most) 0 choice ≡ 0
unfolding pick
board-none choice e = rw (eq-eqb choice boards_most e)

pub board-some : (choice : ℕ) → (choice ≡ boards_most → ⊥) → pick (eqb choice boards_most) 0 choice ≡ choice
unfolding pick
board-some choice n = rw (ne_eqb choice boards_most n)

pub board-of : (o : Option ℕ) → ((c : ℕ) → o ≡ some c → c < boards_most) → pick (eqb (code_of o) boards_most) 0 (code_of o) ≡ or_zero o
board-of none h = board-none boards_most refl
board-of (some c) h = let l = h c refl in board-some c (λ e. omega arith)

-- ---- how many slots and nodes the layout has, by the cuts that were counted
pub record Cut {masks bytes : List ℕ} {rule : Formula} (r : RuleGiven masks bytes rule) (owner : List ℕ) (x : LaidPart) : Type 0 where
  pub owned : Owned r.propositions masks owner
  pub parted : Parted owner (unfolded rule) boards_most x

module _ {masks bytes : List ℕ} {rule : Formula} {r : RuleGiven masks bytes rule} {owner : List ℕ} {x : LaidPart} (cuts : Cut r owner x) where
  cuts_are : x.cuts ≡ cuts_on (chosen masks) (unfolded rule) (first-board r)
  cuts_are = cuts.parted.cuts_are r.propositions 0 masks cuts.owned (rule-within r) (first-board r) (inl (refl, first-rests r))

  pub cuts-few : x.cuts < (nodes_room + 4) * nodes_room
  cuts-few = let w = cuts.parted.few in let s = rule-size r in let u = unfolded-few rule (omega arith) in omega arith

  pub first-slots : length (first_of masks rule) ≡ 1 + x.cuts
  unfolding load
  first-slots =
      let e = laid-slots (chosen masks) no_hold (λ m. 0) (unfolded rule) (first-board r) 1 (holds-all r (λ m. (n : ℕ) → length (no_hold m n).slots ≡ 0)) in
      let z = held_none (unfolded rule) in
      let c = cuts_are in
      omega arith

  pub first-nodes : nodes_of (first_of masks rule) ≡ size (unfolded rule) + x.cuts
  first-nodes = omega (arith, laid-out-nodes r, held_none (unfolded rule), cuts_are)

  pub first-choice : highest none 0 0 x.scores.counts ≡ chosen masks (unfolded rule)
  first-choice = scored-chosen r.propositions 0 masks cuts.parted.scored cuts.owned (rule-within r)

-- ---- a layout within the limits, by the nodes that were counted too
pub record LayoutFits (φ : Form) {masks bytes : List ℕ} {rule : Formula} (r : RuleGiven masks bytes rule) (owner : List ℕ) (x : LaidPart) (count : ℕ) : Type 0 where
  pub cut : Cut r owner x
  pub few-slots : 1 + x.cuts ≤ slots_most φ
  pub count-is : count ≡ min (size (unfolded rule)) (nodes_room + 1)
  pub few-nodes : count + x.cuts ≤ nodes_most φ

-- ---- what the counts tell
pub first-ask : {masks bytes state owner : List ℕ} (ask : BeginAsk masks bytes state) → Table owner → {x : LaidPart} {count : ℕ} → LayoutFits (form_in state) ask.ruled owner x count
    → {board : ℕ} → board ≡ pick (eqb x.choice boards_most) 0 x.choice → {u tags : List ℕ} → length u ≡ nodes_room → length tags ≡ nodes_room
    → FirstAsk state masks bytes owner board (1 + x.cuts) (count + x.cuts) u tags
first-ask {masks} {state = state} ask table fits b ul ml =
    let s = first-slots fits.cut in
    let n = first-nodes fits.cut in
    let f = nodes-few (form_in state) in
    record {
      rule = ask.rule;
      ruled = ask.ruled;
      long = ask.long;
      table = table;
      owned = fits.cut.owned;
      board-is =
          b
          ∙ ap (λ (i : ℕ). pick (eqb i boards_most) 0 i) (fits.cut.parted.choice-is ∙ ap code_of (first-choice fits.cut))
          ∙ board-of (chosen masks (unfolded ask.rule)) (λ c e. chosen-below boards_most masks ask.ruled.few-boards (unfolded ask.rule) c e);
      slots-are = omega arith;
      nodes-are = omega arith;
      few-slots = fits.few-slots;
      few-nodes = fits.few-nodes;
      u-long = ul;
      tags-long = ml;
    }
