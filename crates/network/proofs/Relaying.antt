-- Loading and closing: both lay a network whose slots are plain and hold higher numbers (`load_ok`, `close-ok`), and whose root
-- has the value of what was laid (`load-modelled`, `close-modelled`). Assumes nothing.
use mathlib.Core.Path.{◌≡◌, refl, sym, ◌∙◌}
use mathlib.Core.List.{List, [], ◌∷◌}
use mathlib.Core.Option.{Option}
use Prim.Native.Nat.{ℕ, suc, ◌+◌, ◌<◌, ◌≤◌}
use native.Mathlib.Omega.{arith}
use lib.ListN.{length, length-append}
use Rattle.kinds.specs.declared.Leaf.TheVariants.{Prop, Hold}
use Rattle.kinds.specs.declared.Unary.TheVariants.{Next}
use Rattle.ltl.specs.Formula.{Formula, leaf, one, constant}
use Rattle.ltl.specs.Meaning.{Event}
use Rattle.ltl.specs.Progression.{unfolded}
use Rattle.network.specs.Layout.{Slot, Laid, cut, laid, rooted, or_zero, no_hold, load, slot_at, relaid, close}
use Rattle.network.proofs.Owned.{Free, Clean, Headed, Plain, unfolded-headed}
use Rattle.network.proofs.Values.{Env, value, value-constant, value-free, never}
use Rattle.network.proofs.Laying.{Choice, HoldsIn, Kept, headed-tops}
use Rattle.network.proofs.Holding.{holds-map}
use Rattle.network.proofs.Layouts.{EachSlot, each_both, SlotStanding, load-elim, close-elim}
use Rattle.network.proofs.Origins.{From, from-whole, from-under, from_cut, from-beside, from-hold, Models, Modelled, modelled}

module _ (choose : Formula → Option ℕ) (choice : Choice choose) where
  -- a slot as laying leaves it: plain, and holding slots of higher numbers alone, below the end
  pub record SlotOk (end n : ℕ) (s : Slot) : Type 0 where
    pub plain : Plain choose s.board s.formula
    pub holds : HoldsIn (λ m. (n < m) × (m < end)) s.formula

  abbrev pub AllOk : ℕ → ℕ → List Slot → Type 0
  AllOk end n ss = EachSlot (SlotOk end) n ss

  -- a part as laying leaves it, for every end that has room for its slots
  abbrev pub PartOk : ℕ → ℕ → Formula → Laid → Type 0
  PartOk b k f x = (end : ℕ) → k + length x.slots ≤ end → Plain choose b x.here × HoldsIn (λ m. (k ≤ m) × (m < end)) x.here × AllOk end k x.slots

  cut_ok : (b c k : ℕ) (f g : Formula) (x : Laid) → PartOk c (k + 1) f x → PartOk b k g (cut c k x)
  cut_ok b c k f g x p end l =
      let r = p end (omega arith) in
      (tt, (omega arith, omega arith), (record { plain = r.0; holds = holds-map _ _ (λ m h. (omega arith, h.1)) x.here r.1 }, r.2))

  -- the slots that are cut are ok
  ok-kept : Kept choose (Headed choose) PartOk
  ok-kept =
      record {
        on-constant = λ b k v end l. (tt, tt, tt);
        on-own = λ b k i e end l. (e, tt, tt);
        on-not = λ b k f x p. p;
        on-next = λ b k f x y end l. ((x, y), tt, tt);
        on-joined = λ b k j f g x y p q end l.
            let c = length-append x.slots y.slots in
            let r = p end (omega arith) in
            let s = q end (omega arith) in
            ((r.0, s.0), (r.1, holds-map _ _ (λ m i. (let a = i.0 in (omega arith, i.1))) y.here s.1), each_both (SlotOk end) k (k + length x.slots) x.slots y.slots refl r.2 s.2);
        on-cut = λ b c k f x e p. cut_ok b c k f f x p;
      }

  rooted-ok : (b : ℕ) (f : Formula) (x : Laid) → PartOk b 1 f x → AllOk (length (rooted b x)) 0 (rooted b x)
  rooted-ok b f x p =
      let r = p (suc (length x.slots)) (omega arith) in
      (record { plain = r.0; holds = holds-map _ _ (λ m h. (let a = h.0 in (omega arith, h.1))) x.here r.1 }, r.2)

  -- and values are kept
  from-kept : (E : Env) → Kept choose (Headed choose) (λ b k f x. From E k f x)
  from-kept E =
      record {
        on-constant = λ b k v. from-whole E k (constant v) (λ F u. value-constant F u v ∙ sym (value-constant E u v));
        on-own = λ b k i e. from-whole E k (leaf (Prop i)) (λ F u. own F u i);
        on-not = λ b k f x p. from-under E k f x p;
        on-next = λ b k f x y. from-whole E k (one Next f) (λ F u. value-free choose F E u (one Next f) x);
        on-joined = λ b k j f g x y p q. from-beside E k j f g x y p q;
        on-cut = λ b c k f x e p. from_cut E k c f x (choice.pending f c e) p;
      }
    where
      own : (F : Env) (u : List Event) (i : ℕ) → value F u (leaf (Prop i)) ≡ value E u (leaf (Prop i))
      own F [] i = refl
      own F (e ∷ u) i = refl

  -- ---- loading a rule
  module _ (rule : Formula) (free : Free choose rule) where
    pub load_ok : AllOk (length (load choose rule)) 0 (load choose rule)
    unfolding load
    load_ok =
        let b = or_zero (choose (unfolded rule)) in
        rooted-ok b (unfolded rule) (laid choose no_hold (unfolded rule) b 1) (load-elim choose (Headed choose) (headed-tops choose choice) PartOk ok-kept rule free)

    pub load-modelled : Modelled never (unfolded rule) (load choose rule)
    unfolding load
    load-modelled =
        let b = or_zero (choose (unfolded rule)) in
        modelled never b (unfolded rule) (laid choose no_hold (unfolded rule) b 1)
        (load-elim choose (Headed choose) (headed-tops choose choice) (λ b k f x. From never k f x) (from-kept never) rule free)

  -- ---- closing a network whose slots were all stepped
  -- a stepped slot: clean, headed, and holding slots of higher numbers alone
  pub record Stepped (end n : ℕ) (s : Slot) : Type 0 where
    pub clean : Clean choose s.formula
    pub headed : Headed choose s.board s.formula
    pub holds : HoldsIn (λ m. (n < m) × (m < end)) s.formula

  module _ (slots : List Slot) (some-slots : 0 < length slots) (all : (n : ℕ) → n < length slots → Stepped (length slots) n (slot_at slots n)) where
    standing : (n : ℕ) → n < length slots → SlotStanding choose (Headed choose) (length slots) n (slot_at slots n)
    standing n l =
        let t = all n l in
        record { clean = t.clean; top = unfolded-headed choose (slot_at slots n).board (slot_at slots n).formula t.headed; holds = t.holds }

    pub close-ok : AllOk (length (close choose slots)) 0 (close choose slots)
    unfolding close
    close-ok =
        let s = slot_at slots 0 in
        rooted-ok s.board (unfolded s.formula) (laid choose (relaid choose slots (length slots)) (unfolded s.formula) s.board 1)
        (close-elim choose (Headed choose) (headed-tops choose choice) PartOk ok-kept slots some-slots standing
        (λ b k m x l p. cut_ok b (slot_at slots m).board k (unfolded (slot_at slots m).formula) (leaf (Hold m)) x p))

    module _ (E : Env) (models : Models E slots) where
      pub close-modelled : Modelled E (unfolded (slot_at slots 0).formula) (close choose slots)
      unfolding close
      close-modelled =
          let s = slot_at slots 0 in
          modelled E s.board (unfolded s.formula) (laid choose (relaid choose slots (length slots)) (unfolded s.formula) s.board 1)
          (close-elim choose (Headed choose) (headed-tops choose choice) (λ b k f x. From E k f x) (from-kept E) slots some-slots standing
          (λ b k m x l p. from-hold E k m (slot_at slots m).board (slot_at slots m).formula x (models m l) p))
