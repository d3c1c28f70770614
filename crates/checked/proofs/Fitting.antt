-- A slot as the state check asks for it where nothing is stepped: `SlotFitting`, for masks that follow their rule. Laying gives such
-- slots: `load_fits` for a rule, `close-fits` for any network whose slots are clean, no lone propositions of other boards, and hold
-- higher numbers alone. Assumes nothing.
use mathlib.Core.Path.{◌≡◌, refl}
use mathlib.Core.Bool.{true, false}
use mathlib.Core.List.{List}
use mathlib.Core.Option.{Option, none, some}
use Prim.Native.Nat.{ℕ, suc, ◌+◌, ◌<◌, ◌≤◌}
use native.Mathlib.Omega.{arith}
use lib.ListN.{length, get_or, length-append}
use Rattle.lists.proofs.Tests.{both_true}
use Rattle.limits.specs.Limits.{propositions_most}
use Rattle.kinds.specs.declared.Leaf.TheVariants.{Const, Prop, Hold}
use Rattle.ltl.specs.Formula.{Formula, leaf, one, two, Within}
use Rattle.ltl.specs.Progression.{unfolded}
use Rattle.masks.specs.Masks.{masks_rule}
use Rattle.network.specs.Scores.{chosen}
use Rattle.network.specs.Layout.{Slot, Laid, cut, rooted, or_zero, no_hold, laid, load, slot_at, relaid, close}
use Rattle.network.proofs.Owned.{Free, OwnTop}
use Rattle.network.proofs.Laying.{HoldsIn, Kept, own-tops}
use Rattle.network.proofs.Holding.{holds-map}
use Rattle.network.proofs.Layouts.{EachSlot, each_both, SlotStanding, load-elim, close-elim}
use Rattle.network.proofs.Settling.{free-only}
use Rattle.network.proofs.Choosing.{chosen-there, masks-has, masks-below}
use Rattle.state.specs.Clauses.{tidy, unfolded_own}

module _ (p : ℕ) (masks : List ℕ) where
  -- slot n of `end`
  pub record SlotFitting (end n : ℕ) (s : Slot) : Type 0 where
    pub board-there : s.board < length masks
    pub within : Within p end s.formula
    pub tidied : tidy s.formula ≡ true
    pub above : HoldsIn (λ m. n < m) s.formula
    pub own : unfolded_own (get_or masks s.board 0) s.formula ≡ true

  -- a part of a slot on board b, with the slots that were cut out of it, numbered from k on
  record PartFitting (b k end : ℕ) (x : Laid) : Type 0 where
    within : Within p end x.here
    tidied : tidy x.here ≡ true
    above : HoldsIn (λ m. k ≤ m) x.here
    own : unfolded_own (get_or masks b 0) x.here ≡ true
    slots : EachSlot (SlotFitting end) k x.slots

  -- for every end that has room for its slots
  abbrev PartFits : ℕ → ℕ → Formula → Laid → Type 0
  PartFits b k f x = (end : ℕ) → k + length x.slots ≤ end → PartFitting b k end x

  -- the slot that a part becomes
  slot-fits : (b n k end : ℕ) (x : Laid) → b < length masks → n < k → PartFitting b k end x → SlotFitting end n (record { board = b; formula = x.here })
  slot-fits b n k end x l m r =
      record {
        board-there = l;
        within = r.within;
        tidied = r.tidied;
        above = holds-map (λ i. k ≤ i) (λ i. n < i) (λ i h. omega arith) x.here r.above;
        own = r.own;
      }

  cut_fits : (b c k : ℕ) (f g : Formula) (x : Laid) → c < length masks → PartFits c (k + 1) f x → PartFits b k g (cut c k x)
  unfolding tidy unfolded_own
  cut_fits b c k f g x l h end m =
      let r = h end (omega arith) in
      record { within = omega arith; tidied = refl; above = omega arith; own = refl; slots = (slot-fits c k (k + 1) end x l (omega arith) r, r.slots) }

  rooted-fits : (b : ℕ) (f : Formula) (x : Laid) → b < length masks → PartFits b 1 f x → EachSlot (SlotFitting (length (rooted b x))) 0 (rooted b x)
  rooted-fits b f x l h = let r = h (suc (length x.slots)) (omega arith) in (slot-fits b 0 1 (suc (length x.slots)) x l (omega arith) r, r.slots)

  module _ (few : p ≤ propositions_most) (rule : masks_rule p masks ≡ true) where
    abbrev choose : Formula → Option ℕ
    choose = chosen masks

    pub free-within : (end : ℕ) (f : Formula) → Free choose f → Within p end f
    free-within end (leaf (Const v)) x = tt
    free-within end (leaf (Prop i)) x = masks-below p masks few rule i x.0 (masks-has masks i x.0 x.1)
    free-within end (one o f) x = free-within end f x
    free-within end (two o f g) x = (free-within end f x.0, free-within end g x.1)
    free-within end (leaf (Hold _)) x = elim x [ ]

    fits_kept : Kept choose (OwnTop choose) PartFits
    unfolding tidy unfolded_own
    fits_kept =
        record {
          on-constant = λ b k v end l. record { within = tt; tidied = refl; above = tt; own = refl; slots = tt };
          on-own = λ b k i e end l.
              (let h = masks-has masks i b e in
              record { within = masks-below p masks few rule i b h; tidied = refl; above = tt; own = h; slots = tt });
          on-not = λ b k f x h end l. (let r = h end l in record { within = r.within; tidied = r.tidied; above = r.above; own = r.own; slots = r.slots });
          on-next = λ b k f free top end l.
              record { within = free-within end f free; tidied = free-only choose (λ m. false) f free; above = tt; own = refl; slots = tt };
          on-joined = λ b k j f g x y h i end l.
              (let c = length-append x.slots y.slots in
              let r = h end (omega arith) in
              let s = i end (omega arith) in
              record {
                within = (r.within, s.within);
                tidied = both_true _ _ r.tidied s.tidied;
                above = (r.above, holds-map (λ m. k + length x.slots ≤ m) (λ m. k ≤ m) (λ m q. omega arith) y.here s.above);
                own = both_true _ _ r.own s.own;
                slots = each_both (SlotFitting end) k (k + length x.slots) x.slots y.slots refl r.slots s.slots;
              });
          on-cut = λ b c k f x e h. cut_fits b c k f f x (chosen-there masks f c e) h;
        }

    -- ---- loading a rule
    pub load_fits : (formula : Formula) → Free choose formula → 0 < length masks → EachSlot (SlotFitting (length (load choose formula))) 0 (load choose formula)
    unfolding load
    load_fits formula free some-boards =
        let f = unfolded formula in
        let b = or_zero (choose f) in
        rooted-fits b f (laid choose no_hold f b 1) (there (choose f) refl) (load-elim choose (OwnTop choose) (own-tops choose) PartFits fits_kept formula free)
      where
        there : (o : Option ℕ) → choose (unfolded formula) ≡ o → or_zero o < length masks
        there none e = some-boards
        there (some c) e = chosen-there masks (unfolded formula) c e

    -- ---- closing a network
    pub close-fits : (slots : List Slot) → 0 < length slots
        → ((n : ℕ) → n < length slots → SlotStanding choose (OwnTop choose) (length slots) n (slot_at slots n))
        → ((n : ℕ) → n < length slots → (slot_at slots n).board < length masks)
        → EachSlot (SlotFitting (length (close choose slots))) 0 (close choose slots)
    unfolding close
    close-fits slots some-slots all boards =
        let s = slot_at slots 0 in
        rooted-fits s.board (unfolded s.formula) (laid choose (relaid choose slots (length slots)) (unfolded s.formula) s.board 1) (boards 0 some-slots)
        (close-elim choose (OwnTop choose) (own-tops choose) PartFits fits_kept slots some-slots all
        (λ b k m x l h. cut_fits b (slot_at slots m).board k (unfolded (slot_at slots m).formula) (leaf (Hold m)) x (boards m l) h))
