-- Where slots stand in what is spread out so far, bytes w with their tags. A slot that stands there stays when more is put behind
-- it and when a tag gets a distance (`stands-more`, `held_more`); the slot that was put last stands at the end (`stands-last`).
-- Assumes nothing.
use mathlib.Core.Path.{◌≡◌, sym, ap, ◌∙◌, subst}
use mathlib.Core.List.{List, ◌++◌}
use Prim.Native.Nat.{ℕ, ◌+◌, ◌-◌, ◌<◌, ◌≤◌}
use native.Mathlib.Omega.{arith}
use lib.ListN.{length, get_or, take, drop, length-append, length-drop, get_or-append}
use lib.Seq.{take_all, take-append-le, drop-append-le, drop_at}
use Rattle.kinds.specs.Kinds.{hold_code}
use Rattle.ltl.specs.Formula.{size, encode}
use Rattle.ltl.proofs.Decoding.{length-encode, size-some}
use Rattle.network.specs.Scores.{chosen}
use Rattle.state.specs.Fields.{slots_in, masks_in}
use Rattle.tagging.specs.Packed.{ahead_in}
use Rattle.tagging.proofs.Places.{Agree, agree-drop, tagged-same}
use Rattle.carrying.specs.Carries.{unfolded_at, SlotStands}

-- slot m stands from `at` on
pub record StandsIn (s w tags : List ℕ) (at m : ℕ) : Type 0 where
  pub inside : at + size (unfolded_at s m) ≤ length w
  pub stands : SlotStands s (drop at w) (drop at tags) m

-- the slot of a place holder at the front stands further on
pub record HeldFront (s w tags : List ℕ) : Type 0 where
  pub ahead : 0 < ahead_in (get_or tags 0 0)
  pub there : get_or w 0 0 - hold_code < slots_in s
  pub stands : StandsIn s w tags (ahead_in (get_or tags 0 0)) (get_or w 0 0 - hold_code)

module _ (s w x tags tags' : List ℕ) (agree : Agree (length w) tags tags') where
  pub stands-more : (at m : ℕ) → StandsIn s w tags at m → StandsIn s (w ++ x) tags' at m
  stands-more at m h =
      let f = unfolded_at s m in
      let d = agree-drop at (size f) (length w) tags tags' h.inside agree in
      let first = d 0 (size-some f) in
      let l = h.inside in
      record {
        inside = let e = length-append w x in omega arith;
        stands =
            record {
              bytes =
                  ap (take (size f)) (drop-append-le at w x (omega arith))
                  ∙ take-append-le (size f) (drop at w) x (let e = length-drop at w in omega arith)
                  ∙ h.stands.bytes;
              board-is = sym first.board-is ∙ h.stands.board-is;
              here-is = sym first.here-is ∙ h.stands.here-is;
              tagged = tagged-same (chosen (masks_in s)) f (drop at tags) (drop at tags') d h.stands.tagged;
            };
      }

  pub held_more : 0 < length w → ahead_in (get_or tags 0 0) ≡ ahead_in (get_or tags' 0 0) → HeldFront s w tags → HeldFront s (w ++ x) tags'
  held_more l e h =
      let b : get_or w 0 0 ≡ get_or (w ++ x) 0 0 = sym (get_or-append w x 0 0 l) in
      record {
        ahead = subst (λ (a : ℕ). 0 < a) e h.ahead;
        there = subst (λ (a : ℕ). a - hold_code < slots_in s) b h.there;
        stands =
            subst (λ (a : ℕ). StandsIn s (w ++ x) tags' a (get_or (w ++ x) 0 0 - hold_code)) e
            (subst (λ (a : ℕ). StandsIn s (w ++ x) tags' (ahead_in (get_or tags 0 0)) (a - hold_code)) b (stands-more (ahead_in (get_or tags 0 0)) (get_or w 0 0 - hold_code) h.stands));
      }

-- the slot that was put behind w
pub stands-last : (s w u tags tags' : List ℕ) (at m : ℕ) → length w ≡ at → drop at tags ≡ tags' → SlotStands s u tags' m → StandsIn s (w ++ encode (unfolded_at s m)) tags at m
stands-last s w u tags tags' at m l e h =
    let f = unfolded_at s m in
    record {
      inside = omega (arith, length-append w (encode f), length-encode f);
      stands =
          subst (λ (x : List ℕ). SlotStands s (drop at (w ++ encode f)) x m) (sym e)
          (record {
            bytes = ap (take (size f)) (drop_at w (encode f) at l) ∙ take_all (size f) (encode f) (omega (arith, length-encode f));
            board-is = h.board-is;
            here-is = h.here-is;
            tagged = h.tagged;
          });
    }
