-- What was spread out is laid out to the network that the state closes to: `spread-done`. Assumes nothing.
use mathlib.Core.Path.{◌≡◌, sym, ap, ◌∙◌, subst}
use mathlib.Core.Bool.{true}
use mathlib.Core.List.{List, ◌++◌}
use mathlib.Core.Option.{Option}
use Prim.Native.Nat.{ℕ, ◌+◌, ◌-◌, ◌<◌, ◌≤◌}
use native.Mathlib.Omega.{arith}
use lib.ListN.{length, get_or, take, drop, take-append-drop}
use lib.Seq.{length-take-le, get_or-drop}
use Rattle.limits.specs.Limits.{boards_most}
use Rattle.kinds.specs.Kinds.{hold_code}
use Rattle.ltl.specs.Formula.{Formula, size}
use Rattle.network.specs.Scores.{chosen}
use Rattle.state.specs.Fields.{slots_in, masks_in, board_of_in}
use Rattle.state.specs.Clauses.{state_ok}
use Rattle.state.specs.Bytes.{network_of}
use Rattle.state.proofs.Listed.{masks-length}
use Rattle.cutting.proofs.Choices.{chosen-below}
use Rattle.tagging.specs.Packed.{ahead_in}
use Rattle.laying.specs.Lays.{OnBoard, HeldAt}
use Rattle.laying.proofs.Totals.{relaid-single}
use Rattle.checked.proofs.Passing.{passing}
use Rattle.carrying.specs.Carries.{unfolded_at}
use Rattle.carrying.proofs.Coded.{slot-coded}
use Rattle.spreading.specs.Spreads.{Spreads}
use Rattle.spreading.proofs.Room.{hold_in, root-there, lays-again, next-is}
use Rattle.spreading.proofs.Places.{StandsIn, HeldFront}
use Rattle.spreading.proofs.Turns.{Turn}

module _ (s : List ℕ) (ok : state_ok s ≡ true) where
  abbrev choose : Formula → Option ℕ
  choose = chosen (masks_in s)

  -- a slot that stands there can be laid on its board
  on-board : (w tags : List ℕ) (at m : ℕ) → m < slots_in s → StandsIn s w tags at m
      → OnBoard choose (drop at w) (drop at tags) (unfolded_at s m) (drop (size (unfolded_at s m)) (drop at w)) (board_of_in s m)
  on-board w tags at m l h =
      let n = size (unfolded_at s m) in
      record {
        front =
            record {
              coded = slot-coded s ok m l;
              bytes = sym (take-append-drop n (drop at w)) ∙ ap (◌++ drop n (drop at w)) h.stands.bytes;
            };
        board-is = h.stands.board-is;
        here-is = h.stands.here-is;
        tagged = h.stands.tagged;
      }

  -- the slot of a place holder
  held_at : (w tags : List ℕ) (m : ℕ) → get_or w 0 0 ≡ hold_code + m → HeldFront s w tags → HeldAt choose (hold_in s) w tags m
  held_at w tags m e h =
      let is : get_or w 0 0 - hold_code ≡ m = omega arith in
      let l : m < slots_in s = subst (λ (n : ℕ). n < slots_in s) is h.there in
      let at = ahead_in (get_or tags 0 0) in
      let x : StandsIn s w tags at m = subst (StandsIn s w tags at) is h.stands in
      let p = passing s ok in
      record {
        formula = unfolded_at s m;
        rest = drop (size (unfolded_at s m)) (drop at w);
        board = board_of_in s m;
        there = let a = (p.slots m l).board-there in let b = p.header.few-boards in omega arith;
        ahead = h.ahead;
        inside = let a = x.inside in omega arith;
        stands = on-board w tags at m l x;
        lays = λ k. lays-again s ok m k l;
      }

  pub spread-done : {u tags : List ℕ} {i end : ℕ} → Turn s u tags i end → end ≤ i → Spreads s u tags end
  spread-done {u} {tags} {i} {end} turn done =
      let w = take end u in
      let p = passing s ok in
      let lw = length-take-le end u (omega arith) in
      record {
        inside = omega arith;
        laid_out =
            record {
              choose = choose;
              hold = hold_in s;
              formula = unfolded_at s 0;
              rest = drop (size (unfolded_at s 0)) w;
              board = board_of_in s 0;
              source =
                  record {
                    long = omega arith;
                    held = λ j m l few e. held_at (drop j w) (drop j tags) m (first w j ∙ e) (turn.reached.held j (omega arith) (omega arith));
                    single = λ m k. relaid-single choose (network_of s) (length (network_of s)) m k;
                    boards = λ f c e. chosen-below boards_most (masks_in s) (let a = masks-length s in let b = p.header.few-boards in omega arith) f c e;
                  };
              stands = on-board w tags 0 0 (root-there s ok) turn.reached.root;
              network-is = next-is s ok;
            };
      }
    where
      first : (w : List ℕ) (j : ℕ) → get_or (drop j w) 0 0 ≡ get_or w j 0
      first w j = get_or-drop j w 0 0 ∙ ap (λ (n : ℕ). get_or w n 0) (omega arith)
