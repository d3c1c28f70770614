-- A formula that was tagged on a board stands there, to be laid: `on-board`. Assumes nothing.
use mathlib.Core.Path.{◌≡◌, refl, ◌∙◌}
use mathlib.Core.List.{List, []}
use mathlib.Core.Logic.{inr}
use Prim.Native.Nat.{ℕ, ◌<◌}
use native.Mathlib.Omega.{arith}
use lib.ListN.{get_or}
use Rattle.limits.specs.Limits.{boards_most}
use Rattle.ltl.specs.Formula.{Formula, Within}
use Rattle.network.specs.Scores.{chosen}
use Rattle.nodes.specs.Begins.{Front}
use Rattle.scores.specs.Owned.{Owned}
use Rattle.scores.specs.Choice.{picked_by}
use Rattle.cutting.proofs.Looking.{place-given}
use Rattle.tagging.specs.declared.TaggedPart.{TaggedPart}
use Rattle.tagging.specs.Tags.{TaggedAs}
use Rattle.tagging.proofs.Packing.{board-fits, tag-has}
use Rattle.laying.specs.Lays.{OnBoard}

pub on-board : {owner u tags : List ℕ} {f : Formula} {board : ℕ} (p q : ℕ) (masks : List ℕ) (y : TaggedPart) → Owned p masks owner → Within p q f → Front u f []
    → TaggedAs owner f board tags y → board < boards_most → OnBoard (chosen masks) u tags f [] board
on-board {tags = tags} {board = board} p q masks y owned within front m l =
    let b : y.board ≡ board = m.board-is ∙ place-given board (picked_by y.scores.counts) (λ e. omega arith) in
    let h = tag-has (get_or tags 0 0) y.here y.board m.tag_is (board-fits y.board (omega arith)) m.small in
    record {
      front = front;
      board-is = h.board-is ∙ b;
      here-is = h.here-is ∙ m.here-is p q masks owned within board (inr (refl, l));
      tagged = m.tagged p q masks owned within;
    }
