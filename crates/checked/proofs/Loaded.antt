-- Loading gives a state that passes the state check, for every rule whose layout is within the limits: `loaded-passes`.
-- Assumes nothing.
use mathlib.Core.Path.{◌≡◌}
use mathlib.Core.Bool.{true}
use mathlib.Core.List.{List}
use Prim.Native.Nat.{ℕ, ◌≤◌}
use native.Mathlib.Omega.{arith}
use lib.ListN.{length}
use Rattle.limits.specs.Limits.{boards_most, propositions_most}
use Rattle.ltl.specs.Formula.{Formula, Within}
use Rattle.masks.specs.Masks.{masks_rule}
use Rattle.network.specs.Scores.{chosen}
use Rattle.network.specs.Layout.{load}
use Rattle.network.proofs.Layouts.{each-slot}
use Rattle.network.proofs.Numbers.{load-once}
use Rattle.network.proofs.Choosing.{masks-free}
use Rattle.state.specs.declared.Form.{Form}
use Rattle.state.specs.Form.{slots_most, nodes_most}
use Rattle.state.specs.Clauses.{state_ok}
use Rattle.state.specs.Bytes.{nodes_of}
use Rattle.state.specs.Calls.{first_of, loaded_state}
use Rattle.checked.proofs.Fitting.{SlotFitting, load_fits}
use Rattle.checked.proofs.Written.{written-passes}

load-some : (masks : List ℕ) (rule : Formula) → 1 ≤ length (first_of masks rule)
unfolding load
load-some masks rule = omega arith

pub loaded-passes : (φ : Form) (masks : List ℕ) (p : ℕ) (rule : Formula) → masks_rule p masks ≡ true → 1 ≤ p → p ≤ propositions_most → 1 ≤ length masks → length masks ≤ boards_most
    → Within p 0 rule → length (first_of masks rule) ≤ slots_most φ → nodes_of (first_of masks rule) ≤ nodes_most φ → state_ok (loaded_state φ masks rule) ≡ true
loaded-passes φ masks p rule follows some-propositions few-propositions some-boards few-boards within few-slots few-nodes =
    let slots = first_of masks rule in
    let free = masks-free p masks few-propositions follows rule within in
    written-passes φ p masks follows some-propositions few-propositions some-boards few-boards slots (load-some masks rule) few-slots few-nodes
    (each-slot (SlotFitting p masks (length slots)) slots (load_fits p masks few-propositions follows rule free some-boards))
    0 (load-once (chosen masks) rule free)
