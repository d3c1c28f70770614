-- What `begin` answers and leaves, one law for each outcome, over plain lists. Assumes nothing.
use Rattle.std.specs.Prelude.{Ok, Err}
use mathlib.Core.Path.{◌≡◌, sym, ap, ◌∙◌}
use mathlib.Core.Bool.{true}
use mathlib.Core.List.{List, []}
use Prim.Native.Nat.{ℕ, ◌+◌, ◌<◌, ◌≤◌, min}
use native.Mathlib.Omega.{arith}
use lib.ListN.{length}
use lib.Dec.{leb}
use borrow.Author.Tests.{le-leb, lt-leb}
use Rattle.limits.specs.Limits.{nodes_room}
use Rattle.answers.specs.declared.Refusal.{Refusal}
use Rattle.answers.specs.declared.Refusal.TheVariants.{Slots, Nodes}
use Rattle.answers.specs.Said.{Said, accepted, refused, left, number_of}
use Rattle.answers.proofs.Answers.{left-refused, left-accepted, order-ok, order-refused, order-done}
use Rattle.ltl.specs.Formula.{Formula, size}
use Rattle.ltl.specs.Progression.{unfolded}
use Rattle.state.specs.declared.Form.{Form}
use Rattle.state.specs.Form.{form_in, slots_most, nodes_most}
use Rattle.state.proofs.Forms.{nodes-few}
use Rattle.state.specs.Bytes.{nodes_of}
use Rattle.state.specs.Calls.{first_of, loaded_state}
use Rattle.cutting.specs.declared.LaidPart.{LaidPart}
use Rattle.starting.specs.Starting.{RuleGiven}
use Rattle.beginning.specs.Beginning.{begin_says, RuleBegun}
use Rattle.beginning.proofs.Layouts.{Cut, LayoutFits, first-slots, first-nodes}

refusal : (masks : List ℕ) (rule : Formula) (state : List ℕ) (why : Refusal) → begin_says (form_in state) masks rule ≡ refused (number_of why) → RuleBegun masks rule state state (Err why)
refusal masks rule state why e = record { says = sym e; leaves = sym (ap (λ (s : Said). left s (loaded_state (form_in state) masks rule) state) e ∙ left-refused why (loaded_state (form_in state) masks rule) state) }

slots-ok : (φ : Form) {masks bytes owner : List ℕ} {x : LaidPart} {rule : Formula} {r : RuleGiven masks bytes rule} → Cut r owner x → 1 + x.cuts ≤ slots_most φ → leb (length (first_of masks rule)) (slots_most φ) ≡ true
slots-ok φ {masks} {rule = rule} cuts few = let e = first-slots cuts in le-leb (length (first_of masks rule)) (slots_most φ) (omega arith)

module _ {masks bytes owner : List ℕ} (state : List ℕ) {x : LaidPart} {rule : Formula} {r : RuleGiven masks bytes rule} (cuts : Cut r owner x) where
  pub begun-slots : slots_most (form_in state) < 1 + x.cuts → RuleBegun masks rule state state (Err Slots)
  begun-slots l = let e = first-slots cuts in refusal masks rule state Slots (order-refused 7 _ _ _ (lt-leb (length (first_of masks rule)) (slots_most (form_in state)) (omega arith)))

  pub begun-nodes : 1 + x.cuts ≤ slots_most (form_in state) → {count : ℕ} → count ≡ min (size (unfolded rule)) (nodes_room + 1) → nodes_most (form_in state) < count + x.cuts → RuleBegun masks rule state state (Err Nodes)
  begun-nodes few c l =
      let e = first-nodes cuts in
      let f = nodes-few (form_in state) in
      refusal masks rule state Nodes (order-ok 7 _ _ _ (slots-ok (form_in state) cuts few) ∙ order-refused 8 _ _ _ (lt-leb (nodes_of (first_of masks rule)) (nodes_most (form_in state)) (omega arith)))

pub begun-done : {masks bytes owner : List ℕ} (state : List ℕ) {x : LaidPart} {count : ℕ} {rule : Formula} {r : RuleGiven masks bytes rule} → LayoutFits (form_in state) r owner x count
    → {state' : List ℕ} → state' ≡ loaded_state (form_in state) masks rule → RuleBegun masks rule state state' (Ok tt)
begun-done {masks} state {rule = rule} fits h =
    let e = first-nodes fits.cut in
    let f = nodes-few (form_in state) in
    let says : begin_says (form_in state) masks rule ≡ accepted [] =
    order-ok 7 _ _ _ (slots-ok (form_in state) fits.cut fits.few-slots) ∙ order-ok 8 _ _ _ (le-leb (nodes_of (first_of masks rule)) (nodes_most (form_in state)) (omega arith)) ∙ order-done _ in
    record { says = sym says; leaves = h ∙ sym (ap (λ (s : Said). left s (loaded_state (form_in state) masks rule) state) says ∙ left-accepted [] (loaded_state (form_in state) masks rule) state) }
