-- A rule that was read, and its layout: the board of its first slot (`first-rests`), how many nodes it has (`laid-out-nodes`), and that
-- its tagged bytes are laid out to it (`first-laid`). Assumes nothing.
use mathlib.Core.Path.{◌≡◌, refl, sym, ap, ◌∙◌}
use mathlib.Core.Bool.{Bool, true, false}
use mathlib.Core.List.{List, [], ◌++◌, append-nil}
use mathlib.Core.Logic.{◌⊎◌, inl, inr}
use mathlib.Core.Option.{Option, none, some}
use Prim.Native.Nat.{ℕ, zero, suc, ◌+◌, ◌-◌, ◌<◌, ◌≤◌}
use native.Mathlib.Omega.{arith}
use lib.ListN.{length, get_or, get_or-append}
use lib.Seq.{get_or-append-add}
use lib.Dec.{ltb}
use borrow.Author.Tests.{ltb-true, ltb-false}
use Rattle.kinds.specs.declared.Leaf.{Leaf}
use Rattle.kinds.specs.declared.Leaf.TheVariants.{Const, Prop, Hold}
use Rattle.kinds.specs.Kinds.{leaf_within, leaf_code}
use Rattle.kinds.proofs.Codes.{unary-low, binary-low}
use Rattle.limits.specs.Limits.{boards_most, propositions_most, holder_codes, rule_nodes_most}
use Rattle.ltl.specs.Formula.{Formula, leaf, one, two, size, encode, Within}
use Rattle.ltl.specs.Progression.{unfolded}
use Rattle.ltl.proofs.Decoding.{length-encode, unfolded-coded}
use Rattle.network.specs.Scores.{chosen}
use Rattle.network.specs.Layout.{no_hold, or_zero, load}
use Rattle.network.proofs.Owned.{unfolded-free}
use Rattle.network.proofs.Laying.{HoldsIn}
use Rattle.network.proofs.Holding.{free-holds}
use Rattle.network.proofs.Choosing.{masks-free}
use Rattle.state.specs.Bytes.{nodes_of}
use Rattle.state.specs.Calls.{first_of}
use Rattle.nodes.proofs.Fronts.{front_length}
use Rattle.scores.specs.Owned.{Owned}
use Rattle.cutting.specs.Cuts.{cuts_on, Rests}
use Rattle.cutting.proofs.Choices.{chosen-below}
use Rattle.nodes.specs.Begins.{Front}
use Rattle.tagging.specs.declared.TaggedPart.{TaggedPart}
use Rattle.tagging.specs.Tags.{TaggedAs}
use Rattle.laying.specs.Lays.{Source}
use Rattle.laying.proofs.Boarding.{on-board}
use Rattle.laying.proofs.Counting.{held, laid-nodes}
use Rattle.storing.specs.Stores.{LaidOut}
use Rattle.starting.specs.Starting.{RuleGiven}

-- ---- no place holder among the bytes of a formula without one
leaf-holder : (p : ℕ) → p ≤ propositions_most → (a : Leaf) → leaf_within p 0 a → (m : ℕ) → leaf_code a ≡ leaf_code (Hold m) → ⊥
leaf-holder p few (Const true) w m e = omega arith
leaf-holder p few (Const false) w m e = omega arith
leaf-holder p few (Prop j) w m e = omega arith
leaf-holder p few (Hold k) w m e = omega arith

no-holder : (p : ℕ) → p ≤ propositions_most → (f : Formula) → Within p 0 f → (i m : ℕ) → i < size f → get_or (encode f) i 0 ≡ leaf_code (Hold m) → ⊥
no-holder p few (leaf a) w zero m l e = leaf-holder p few a w m e
no-holder p few (leaf a) w (suc i) m l e = omega arith
no-holder p few (one o f) w zero m l e = let h = unary-low o in omega arith
no-holder p few (one o f) w (suc i) m l e = no-holder p few f w i m (omega arith) e
no-holder p few (two o f g) w zero m l e = let h = binary-low o in omega arith
no-holder p few (two o f g) w (suc i) m l e =
    go (ltb i (size f)) refl (λ k q. no-holder p few f w.0 i m k q) (λ k q. no-holder p few g w.1 (i - size f) m k q)
  where
    go : (t : Bool) → ltb i (size f) ≡ t → (i < size f → get_or (encode f) i 0 ≡ leaf_code (Hold m) → ⊥) → (i - size f < size g → get_or (encode g) (i - size f) 0 ≡ leaf_code (Hold m) → ⊥) → ⊥
    go true q left right =
        let k = ltb-true i (size f) q in
        let n = length-encode f in
        left k (sym (get_or-append (encode f) (encode g) 0 i (omega arith)) ∙ e)
    go false q left right =
        let k = ltb-false i (size f) q in
        let n = length-encode f in
        let j : length (encode f) + (i - size f) ≡ i = omega arith in
        right (omega arith) (sym (get_or-append-add (encode f) (encode g) (i - size f) 0) ∙ ap (λ (x : ℕ). get_or (encode f ++ encode g) x 0) j ∙ e)

-- ---- a rule that was read
module _ {masks bytes : List ℕ} {rule : Formula} (r : RuleGiven masks bytes rule) where
  abbrev pub choose : Formula → Option ℕ
  choose = chosen masks

  abbrev pub first-board : ℕ
  first-board = or_zero (choose (unfolded rule))

  pub rule-within : Within r.propositions 0 (unfolded rule)
  rule-within = unfolded-coded r.propositions 0 rule r.within

  pub rule-size : size rule ≤ rule_nodes_most
  rule-size = let e = front_length bytes rule [] r.front in omega arith

  pub first-rests : Rests choose (unfolded rule) first-board
  first-rests = go (choose (unfolded rule)) refl
    where
      go : (o : Option ℕ) → choose (unfolded rule) ≡ o → (o ≡ none) ⊎ (o ≡ some (or_zero o))
      go none e = inl refl
      go (some c) e = inr refl

  first-there : first-board < boards_most
  first-there = go (choose (unfolded rule)) refl
    where
      go : (o : Option ℕ) → choose (unfolded rule) ≡ o → or_zero o < boards_most
      go none e = omega arith
      go (some c) e = chosen-below boards_most masks r.few-boards (unfolded rule) c e

  pub holds-all : (Q : ℕ → Type 0) → HoldsIn Q (unfolded rule)
  holds-all Q = free-holds choose Q (unfolded rule) (unfolded-free choose rule (masks-free r.propositions masks r.few-propositions r.follow rule r.within))

  pub laid-out-nodes : nodes_of (first_of masks rule) ≡ cuts_on choose (unfolded rule) first-board + (size (unfolded rule) + held (λ m. 0) (unfolded rule))
  unfolding load
  laid-out-nodes =
      laid-nodes choose no_hold (λ m. 0) (unfolded rule) first-board 1 (holds-all (λ m. (n : ℕ) → size (no_hold m n).here + nodes_of (no_hold m n).slots ≡ 1 + 0))

  pub first-large : size (unfolded rule) ≤ nodes_of (first_of masks rule)
  first-large = omega (arith, laid-out-nodes)

  -- the tagged bytes are laid out to it
  module _ (owner : List ℕ) (owned : Owned r.propositions masks owner) (tags : List ℕ) (y : TaggedPart) (m : TaggedAs owner (unfolded rule) first-board tags y) (long : size (unfolded rule) ≤ length tags) where
    first-source : Source choose no_hold (encode (unfolded rule)) tags
    first-source =
        record {
          long = let e = length-encode (unfolded rule) in omega arith;
          held = λ i n l k e. absurd (no-holder r.propositions r.few-propositions (unfolded rule) rule-within i n (let z = length-encode (unfolded rule) in omega arith) e);
          single = λ n k. refl;
          boards = λ f c e. chosen-below boards_most masks r.few-boards f c e;
        }

    first-front : Front (encode (unfolded rule)) (unfolded rule) []
    first-front = record { coded = unfolded-coded propositions_most holder_codes rule r.front.coded; bytes = sym (append-nil (encode (unfolded rule))) }

    pub first-laid : LaidOut (encode (unfolded rule)) tags (first_of masks rule)
    unfolding load
    first-laid =
        record {
          choose = choose;
          hold = no_hold;
          formula = unfolded rule;
          rest = [];
          board = first-board;
          source = first-source;
          stands = on-board r.propositions 0 masks y owned rule-within first-front m first-there;
          network-is = refl;
        }
