-- One slot unfolded and tagged: what is asked of unfolding and tagging (`unfold-ask`, `tag-ask`), and what was written (`written_is`) and
-- put (`slot-put`). Assumes nothing.
use mathlib.Core.Path.{◌≡◌, sym, ap, ◌∙◌}
use mathlib.Core.List.{List, []}
use Prim.Native.Nat.{ℕ, ◌-◌, ◌<◌, ◌≤◌}
use native.Mathlib.Omega.{arith}
use lib.ListN.{length, take, drop}
use Rattle.state.specs.declared.Counts.{Counts}
use Rattle.limits.specs.Limits.{nodes_room}
use Rattle.ltl.specs.Formula.{size}
use Rattle.masks.specs.Masks.{sum_ones}
use Rattle.network.specs.Scores.{chosen}
use Rattle.state.specs.Fields.{slots_in, masks_in, board_of_in}
use Rattle.state.specs.Bytes.{formula_at}
use Rattle.nodes.specs.Begins.{Front, Begins}
use Rattle.nodes.proofs.Fronts.{front_length}
use Rattle.scores.specs.Owned.{Table}
use Rattle.unfolding.specs.Unfolds.{UnfoldAsk, Unfolds, UnfoldedTo}
use Rattle.unfolding.proofs.Fronts.{written-bytes, written-front}
use Rattle.tagging.specs.declared.TaggedPart as tag
use Rattle.tagging.specs.Tags.{here_on, Tagging}
use Rattle.laying.proofs.Boarding.{on-board}
use Rattle.state.specs.Counted.{Spans}
use Rattle.counting.proofs.Slots.{slot-numbers, lent-front}
use Rattle.carrying.specs.Carries.{unfolded_at, PutSlotAsk, PutsSlot}
use Rattle.carrying.proofs.Coded.{slot-within}

module _ {s : List ℕ} {c : Counts} {m : ℕ} {owner u tags : List ℕ} (ask : PutSlotAsk s c m owner u tags) where
  there : m < slots_in s
  there = let e = ask.known.opened.header.slots-are in omega arith

  -- the slot's bytes, as they are lent
  module _ {from to : ℕ} (x : Spans s m from to) where
    abbrev bytes : List ℕ
    bytes = take (to - from) (drop from s)

    slot-front : Front bytes (formula_at s m) []
    slot-front = lent-front ask.known ask.there x

    pub unfold-ask : UnfoldAsk u bytes
    unfold-ask = record { formula = formula_at s m; front = slot-front; few = ask.few; room = ask.room }

    module _ {u' : List ℕ} (n : ℕ) (h : Unfolds u bytes u' n) where
      slot-unfolded : UnfoldedTo (formula_at s m) u u' n
      slot-unfolded = h (formula_at s m) slot-front

      pub written_is : n ≡ size (unfolded_at s m)
      written_is = slot-unfolded.writes

      unfolded-front : Front (take n u') (unfolded_at s m) []
      unfolded-front = written-front slot-unfolded slot-front.coded

      pub tag-ask : length u' ≡ length u → Begins (take n u') × Table owner × (length (take n u') ≤ length tags) × (length (take n u') ≤ nodes_room)
      tag-ask k =
          let e = front_length (take n u') (unfolded_at s m) [] unfolded-front in
          (record { formula = unfolded_at s m; rest = []; front = unfolded-front }, ask.known.table, omega arith, omega arith)

      pub slot-put : {board : ℕ} {tags' : List ℕ} (y : tag.TaggedPart) → board ≡ board_of_in s m → Tagging owner (take n u') board tags' y → PutsSlot s m u u' tags' n
      slot-put y b h =
          let within = slot-within s ask.known.opened.passes m there in
          let z = (slot-numbers ask.known ask.there).few-boards in
          let o = on-board (sum_ones (masks_in s)) (slots_in s) (masks_in s) y ask.known.owned within unfolded-front (h (unfolded_at s m) [] unfolded-front) (omega arith) in
          record {
            writes = written_is;
            leaves = slot-unfolded.leaves;
            stands =
                record {
                  bytes = ap (λ (i : ℕ). take i u') (sym written_is) ∙ written-bytes slot-unfolded;
                  board-is = o.board-is ∙ b;
                  here-is = o.here-is ∙ ap (here_on (chosen (masks_in s)) (unfolded_at s m)) b;
                  tagged = o.tagged;
                };
          }
