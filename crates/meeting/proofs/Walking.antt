-- A row of tokens walked, token by token. `Walk` is what the loop has done where it stands, by `walk_start`, `walk-past` (a token that is no
-- place holder) and `walk-met` (one whose entry was met, as `walk-ask` may ask it); `walk-done` is what is left at the end. Assumes nothing.
use mathlib.Core.Path.{◌≡◌, refl, sym, ap, subst, ◌∙◌}
use mathlib.Core.Bool.{Bool, true, false}
use mathlib.Core.Logic.{inl, inr, ⊎_elim}
use mathlib.Core.List.{List, [], ◌∷◌, ◌++◌}
use Prim.Native.Nat.{ℕ, zero, suc, ◌+◌, ◌-◌, ◌<◌, ◌≤◌}
use native.Mathlib.Numerals.{add-one}
use native.Mathlib.Omega.{arith}
use lib.ListN.{length, get_or, set, drop, drop_of_length-le}
use lib.Seq.{drop-cons, get_or-set_same, get_or-set_other}
use lib.Dec.{eqb, ltb}
use borrow.Author.Tests.{ltb-true}
use Rattle.kinds.specs.Kinds.{hold_code}
use Rattle.lists.specs.Tests.{pick, both, either, bit}
use Rattle.lists.proofs.Tests.{no_bits, both-0, either-right}
use Rattle.network.specs.Layout.{Slot}
use Rattle.registers.specs.Relaying.{is_among}
use Rattle.registers.specs.Numbers.{holds_at, met_all, met_from}
use Rattle.slot_sets.proofs.Bits.{either-false}
use Rattle.tokens.specs.Tokens.{text_code, held_in}
use Rattle.meeting.specs.declared.Meeting.{Meeting}
use Rattle.meeting.specs.Links.{links_at, LinksOf, SetAt}
use Rattle.meeting.specs.Meeting.{met_of, MetKept, LinksNoted, MeetAsk, Meets, WalkAsk, WalkMeets}
use Rattle.meeting.proofs.Among.{either-assoc, among-nil, among-cons, among_first, eqb-turned}
use Rattle.meeting.proofs.Entering.{linked-less, pick_yes, pick_no}

-- ---- a token
-- it is a place holder
abbrev pub holds : ℕ → Bool
holds t = both (ltb hold_code (t + 1)) (ltb t text_code)

held_more : (t : ℕ) (ts : List ℕ) → holds t ≡ true → held_in (t ∷ ts) ≡ (t - hold_code) ∷ held_in ts
unfolding held_in
held_more t ts h = pick_yes (holds t) ((t - hold_code) ∷ held_in ts) (held_in ts) h

held-past : (t : ℕ) (ts : List ℕ) → holds t ≡ false → held_in (t ∷ ts) ≡ held_in ts
unfolding held_in
held-past t ts h = pick_no (holds t) ((t - hold_code) ∷ held_in ts) (held_in ts) h

module _ (tokens : List ℕ) (i : ℕ) (h : i < length tokens) where
  next-tokens : drop i tokens ≡ get_or tokens i 0 ∷ drop (i + 1) tokens
  next-tokens = drop-cons tokens i 0 h ∙ ap (λ (k : ℕ). get_or tokens i 0 ∷ drop k tokens) (sym (add-one i))

  left-more : holds (get_or tokens i 0) ≡ true → held_in (drop i tokens) ≡ (get_or tokens i 0 - hold_code) ∷ held_in (drop (i + 1) tokens)
  left-more e = ap held_in next-tokens ∙ held_more (get_or tokens i 0) (drop (i + 1) tokens) e

  left-past : holds (get_or tokens i 0) ≡ false → held_in (drop i tokens) ≡ held_in (drop (i + 1) tokens)
  left-past e = ap held_in next-tokens ∙ held-past (get_or tokens i 0) (drop (i + 1) tokens) e

-- ---- the entries of a row met one after the other
all_nil : (meet : ℕ → List ℕ → List ℕ) (seen : List ℕ) → met_all meet [] seen ≡ seen
unfolding met_all
all_nil meet seen = refl

all_cons : (meet : ℕ → List ℕ → List ℕ) (k : ℕ) (ks seen : List ℕ)
    → met_all meet (k ∷ ks) seen ≡ met_all meet ks (pick (is_among k seen) seen (meet k (seen ++ (k ∷ []))))
unfolding met_all
all_cons meet k ks seen = refl

from_suc : (reg : List Slot) (most : ℕ) (ks seen : List ℕ) → met_from reg (suc most) ks seen ≡ met_all (λ k. met_from reg most (holds_at reg k)) ks seen
unfolding met_from
from_suc reg most ks seen = refl

-- what a row of entries comes to, where no more than `most` are held below one of them
abbrev pub walked : List Slot → ℕ → List ℕ → List ℕ → List ℕ
walked reg most ks seen = met_all (λ k. met_from reg most (holds_at reg k)) ks seen

-- ---- the loop
-- i tokens were walked
pub record Walk (tokens bodies places : List ℕ) (own : ℕ) (row₀ sets₀ : List ℕ) (m₀ : Meeting) (row sets : List ℕ) (m : Meeting) (held i : ℕ) : Type 0 where
  pub few : i ≤ length tokens
  pub state : MetKept row m
  pub row-long : length row ≡ length row₀
  pub sets-long : length sets ≡ length sets₀
  pub walks : (reg : List Slot) → LinksOf bodies places reg own → (most : ℕ) → own ≤ most
      → walked reg most (held_in (drop i tokens)) (met_of row m) ≡ walked reg most (held_in tokens) (met_of row₀ m₀)
  pub told : (k : ℕ) → either (bit held k) (is_among k (held_in (drop i tokens))) ≡ is_among k (held_in tokens)
  pub notes : (j : ℕ) → LinksNoted bodies places (met_of row₀ m₀) (met_of row m) sets₀ sets j

pub walk_start : {tokens bodies places : List ℕ} {own : ℕ} {row sets : List ℕ} {m : Meeting} → WalkAsk tokens bodies places own row sets m
    → Walk tokens bodies places own row sets m row sets m 0 0
unfolding either
walk_start {tokens = tokens} a =
    record { few = omega arith; state = a.state; row-long = refl; sets-long = refl; walks = λ reg l most h. refl; told = λ k. ap (λ (b : Bool). either b (is_among k (held_in tokens))) (no_bits k); notes = λ j. record { kept = λ x. x; new = λ x. inl x } }

module _ {tokens bodies places : List ℕ} {own : ℕ} {row₀ sets₀ : List ℕ} {m₀ : Meeting} {row sets : List ℕ} {m : Meeting} {held i : ℕ}
    (x : Walk tokens bodies places own row₀ sets₀ m₀ row sets m held i) where
  -- a token that is no place holder
  pub walk-past : i < length tokens → holds (get_or tokens i 0) ≡ false → Walk tokens bodies places own row₀ sets₀ m₀ row sets m held (i + 1)
  walk-past h e =
      let l = sym (left-past tokens i h e) in
      record { few = omega arith; state = x.state; row-long = x.row-long; sets-long = x.sets-long; walks = λ reg f most g. ap (λ (ks : List ℕ). walked reg most ks (met_of row m)) l ∙ x.walks reg f most g; told = λ k. ap (λ (ks : List ℕ). either (bit held k) (is_among k ks)) l ∙ x.told k; notes = x.notes }

  module _ (a : WalkAsk tokens bodies places own row₀ sets₀ m₀) (h : i < length tokens) (e : holds (get_or tokens i 0) ≡ true) where
    -- the entry that it stands for
    abbrev pub entry : ℕ
    entry = get_or tokens i 0 - hold_code

    pub entry-big : hold_code ≤ get_or tokens i 0
    entry-big = let l = ltb-true hold_code (get_or tokens i 0 + 1) (both-0 (ltb hold_code (get_or tokens i 0 + 1)) (ltb (get_or tokens i 0) text_code) e) in omega arith

    pub entry-less : entry < own
    entry-less =
        a.falls entry
        (sym (x.told entry)
        ∙ ap (either (bit held entry)) (ap (is_among entry) (left-more tokens i h e) ∙ among_first entry (held_in (drop (i + 1) tokens)))
        ∙ either-right (bit held entry))

    pub walk-ask : MeetAsk entry bodies places row sets m
    walk-ask =
        let l = entry-less in
        let r = a.room in
        let s = x.sets-long in
        record { linked = linked-less (suc entry) (omega arith) a.linked; state = x.state; room = omega arith }

    -- it was met
    pub walk-met : {row' sets' : List ℕ} {m' : Meeting} (held' : ℕ) → ((j : ℕ) → bit held' j ≡ either (bit held j) (eqb entry j))
        → Meets entry bodies places row sets m row' sets' m' → length row' ≡ length row → length sets' ≡ length sets
        → Walk tokens bodies places own row₀ sets₀ m₀ row' sets' m' held' (i + 1)
    walk-met {row' = row'} {sets' = sets'} {m' = m'} held' t y p q =
        record { few = omega arith; state = y.state; row-long = p ∙ x.row-long; sets-long = q ∙ x.sets-long; walks = walks; told = told; notes = notes }
      where
        walks : (reg : List Slot) → LinksOf bodies places reg own → (most : ℕ) → own ≤ most
            → walked reg most (held_in (drop (i + 1) tokens)) (met_of row' m') ≡ walked reg most (held_in tokens) (met_of row₀ m₀)
        walks reg f most g =
            let l = entry-less in
            ap (walked reg most (held_in (drop (i + 1) tokens))) (y.walks reg (λ j z. f j (omega arith)) most (omega arith))
            ∙ sym (all_cons (λ k. met_from reg most (holds_at reg k)) entry (held_in (drop (i + 1) tokens)) (met_of row m))
            ∙ ap (λ (ks : List ℕ). walked reg most ks (met_of row m)) (sym (left-more tokens i h e))
            ∙ x.walks reg f most g

        told : (k : ℕ) → either (bit held' k) (is_among k (held_in (drop (i + 1) tokens))) ≡ is_among k (held_in tokens)
        told k =
            ap (λ (b : Bool). either b (is_among k (held_in (drop (i + 1) tokens)))) (t k ∙ ap (either (bit held k)) (eqb-turned entry k))
            ∙ either-assoc (bit held k) (eqb k entry) (is_among k (held_in (drop (i + 1) tokens)))
            ∙ ap (either (bit held k)) (sym (ap (is_among k) (left-more tokens i h e) ∙ among-cons k entry (held_in (drop (i + 1) tokens))))
            ∙ x.told k

        notes : (j : ℕ) → LinksNoted bodies places (met_of row₀ m₀) (met_of row' m') sets₀ sets' j
        notes j =
            let n = x.notes j in
            let w = y.notes j in
            record { kept = λ z. w.kept (n.kept z); new = λ z. ⊎_elim (λ u. ⊎_elim inl (λ v. inr (w.kept v)) (n.new u)) inr (w.new z) }

  -- all tokens were walked, and what they hold is noted
  module _ (a : WalkAsk tokens bodies places own row₀ sets₀ m₀) (h : length tokens ≤ i) where
    none_left : held_in (drop i tokens) ≡ []
    unfolding held_in
    none_left = ap held_in (drop_of_length-le tokens {i = i} h)

    pub own_room : own < length sets
    own_room = let r = a.room in let s = x.sets-long in let f = a.linked.few in omega arith

    pub walk-done : WalkMeets tokens bodies places own row₀ sets₀ m₀ row (set sets own held) m
    walk-done = record { state = x.state; walks = from; noted = noted; notes = notes }
      where
        from : (reg : List Slot) → LinksOf bodies places reg own → (most : ℕ) → own < most → met_of row m ≡ met_from reg most (held_in tokens) (met_of row₀ m₀)
        from reg f zero g = absurd (omega arith)
        from reg f (suc most) g =
            sym (all_nil (λ k. met_from reg most (holds_at reg k)) (met_of row m))
            ∙ ap (λ (ks : List ℕ). walked reg most ks (met_of row m)) (sym none_left)
            ∙ x.walks reg f most (omega arith)
            ∙ sym (from_suc reg most (held_in tokens) (met_of row₀ m₀))

        noted : SetAt (set sets own held) own (held_in tokens)
        noted k =
            ap (λ (v : ℕ). bit v k) (get_or-set_same sets own held 0 own_room)
            ∙ sym (either-false (bit held k))
            ∙ ap (either (bit held k)) (sym (ap (is_among k) none_left ∙ among-nil k))
            ∙ x.told k

        same : (j : ℕ) → (j ≡ own → ⊥) → SetAt sets j (links_at bodies places j) → SetAt (set sets own held) j (links_at bodies places j)
        same j d s k = ap (λ (v : ℕ). bit v k) (get_or-set_other sets own j held 0 d) ∙ s k

        notes : (j : ℕ) → (j ≡ own → ⊥) → LinksNoted bodies places (met_of row₀ m₀) (met_of row m) sets₀ (set sets own held) j
        notes j d =
            let n = x.notes j in
            record { kept = λ z. same j d (n.kept z); new = λ z. ⊎_elim inl (λ v. inr (same j d v)) (n.new z) }

-- the same of what the code's variables have been given
pub walk-as : {tokens bodies places : List ℕ} {own : ℕ} {row₀ sets₀ : List ℕ} {m₀ : Meeting} {row sets : List ℕ} {m : Meeting} {held i : ℕ} {row' sets' : List ℕ} {m' : Meeting} {held' : ℕ}
    → Walk tokens bodies places own row₀ sets₀ m₀ row sets m held i → row' ≡ row → sets' ≡ sets → m' ≡ m → held' ≡ held
    → Walk tokens bodies places own row₀ sets₀ m₀ row' sets' m' held' i
walk-as {tokens = tokens} {bodies = bodies} {places = places} {own = own} {row₀ = row₀} {sets₀ = sets₀} {m₀ = m₀} {row = row} {sets = sets} {m = m} {held = held} {i = i} {row' = row'} {sets' = sets'} {m' = m'} x a b c d =
    subst (λ (z : ℕ). Walk tokens bodies places own row₀ sets₀ m₀ row' sets' m' z i) (sym d)
    (subst (λ (z : Meeting). Walk tokens bodies places own row₀ sets₀ m₀ row' sets' z held i) (sym c)
    (subst (λ (z : List ℕ). Walk tokens bodies places own row₀ sets₀ m₀ row' z m held i) (sym b)
    (subst (λ (z : List ℕ). Walk tokens bodies places own row₀ sets₀ m₀ z sets m held i) (sym a) x)))
