-- One entry met: nothing changes where it was met before (`meets-seen`); else it stands behind those met (`EntryMet`, by `entered`), and the row
-- of its tokens is walked (`entry-ask`, `meets-new`). Assumes nothing.
use mathlib.Core.Path.{◌≡◌, refl, sym, ap, ap₂, subst, ◌∙◌}
use mathlib.Core.Bool.{Bool, true, false}
use mathlib.Core.Logic.{inl, inr, ⊎_elim}
use mathlib.Core.List.{List, [], ◌∷◌, ◌++◌}
use Prim.Native.Nat.{ℕ, zero, suc, ◌+◌, ◌-◌, ◌<◌, ◌≤◌}
use native.Mathlib.Numerals.{add-one}
use native.Mathlib.Omega.{arith}
use native.Mathlib.Decide.{ℕ_discrete}
use lib.ListN.{length, get_or, set, take, drop, length-set}
use lib.Seq.{take-suc-set, take-nil}
use lib.Dec.{eqb}
use borrow.Author.Tests.{eqb-true}
use Rattle.limits.specs.Limits.{slots_room}
use Rattle.lists.specs.Tests.{pick, either, bit}
use Rattle.lists.proofs.Tests.{no_true}
use Rattle.network.specs.Layout.{Slot}
use Rattle.registers.specs.Relaying.{is_among}
use Rattle.registers.specs.Numbers.{holds_at, met_from}
use Rattle.tokens.specs.Tokens.{held_in}
use Rattle.tokens.specs.Kept.{entry_tokens}
use Rattle.meeting.specs.declared.Meeting.{Meeting}
use Rattle.meeting.specs.Links.{links_at, Linked, LinksOf, SetAt}
use Rattle.meeting.specs.Meeting.{met_of, differing, MetKept, LinksNoted, MeetAsk, Meets, WalkAsk, WalkMeets}
use Rattle.meeting.proofs.Among.{either-cases, among_one, eqb-turned, differing-more, differing-few}

-- ---- the tokens of an entry, as they are lent
drop-take : (a e : ℕ) (l : List ℕ) → drop a (take e l) ≡ take (e - a) (drop a l)
drop-take zero e l = let h : e ≡ e - 0 = omega arith in ap (λ (k : ℕ). take k l) h
drop-take (suc a) zero l = let h : 0 ≡ 0 - suc a = omega arith in ap (λ (k : ℕ). take k (drop (suc a) l)) h
drop-take (suc a) (suc e) [] = sym (take-nil (suc e - suc a))
drop-take (suc a) (suc e) (x ∷ l) = let h : e - a ≡ suc e - suc a = omega arith in drop-take a e l ∙ ap (λ (k : ℕ). take k (drop a l)) h

pub lent-tokens : (bodies places : List ℕ) (k : ℕ)
    → take (get_or places (k + 1) 0 - get_or places k 0) (drop (get_or places k 0) bodies) ≡ entry_tokens places bodies k
lent-tokens bodies places k =
    sym (ap (λ (j : ℕ). drop (get_or places k 0) (take (get_or places j 0) bodies)) (sym (add-one k)) ∙ drop-take (get_or places k 0) (get_or places (k + 1) 0) bodies)

-- fewer entries
pub linked-less : {bodies places : List ℕ} {n : ℕ} (k : ℕ) → k ≤ n → Linked bodies places n → Linked bodies places k
linked-less k h x =
    let a = x.few in
    let b = x.placed in
    record { few = omega arith; placed = omega arith; begins = λ j l. x.begins j (omega arith); inside = λ j l. x.inside j (omega arith); falls = λ j m l. x.falls j m (omega arith) }

pub pick_yes : {A : Type 0} (b : Bool) (x y : A) → b ≡ true → pick b x y ≡ x
unfolding pick
pick_yes true x y h = refl
pick_yes false x y h = absurd (no_true h)

pub pick_no : {A : Type 0} (b : Bool) (x y : A) → b ≡ false → pick b x y ≡ y
unfolding pick
pick_no true x y h = absurd (no_true (sym h))
pick_no false x y h = refl

-- ---- an entry that was met before
pub meets-seen : {k : ℕ} {bodies places row sets : List ℕ} {m : Meeting} → MeetAsk k bodies places row sets m → bit m.seen k ≡ true
    → Meets k bodies places row sets m row sets m
meets-seen {k = k} {row = row} {m = m} a h =
    record { state = a.state; walks = λ reg l most f. sym (pick_yes (is_among k (met_of row m)) (met_of row m) _ (sym (a.state.told k) ∙ h)); notes = λ j. record { kept = λ x. x; new = λ x. inl x } }

-- ---- a new one
-- m' has those of m, and k behind them
pub record EntryMet (k : ℕ) (row row' : List ℕ) (m m' : Meeting) : Type 0 where
  pub room : m.count < length row
  pub met : met_of row' m' ≡ met_of row m ++ (k ∷ [])
  pub state : MetKept row' m'

module _ {k : ℕ} {bodies places row sets : List ℕ} {m : Meeting} (a : MeetAsk k bodies places row sets m) (h : bit m.seen k ≡ false) where
  new : is_among k (met_of row m) ≡ false
  new = sym (a.state.told k) ∙ h

  -- it has a number as entries have
  pub entry-few : k < slots_room
  entry-few = let f = a.linked.few in omega arith

  -- there is room for one more
  more-few : suc (differing (met_of row m)) ≤ slots_room
  more-few = let e = differing-more (met_of row m) k new entry-few in let f = differing-few (met_of row m ++ (k ∷ [])) in omega arith

  pub entry-room : m.count < length row
  entry-room = let c = a.state.counted in let r = a.state.room in let f = more-few in omega arith

  module _ (seen : ℕ) (told : (j : ℕ) → bit seen j ≡ either (bit m.seen j) (eqb k j)) where
    abbrev grown : Meeting
    grown = record { count = m.count + 1; seen = seen }

    grown-is : met_of (set row m.count k) grown ≡ met_of row m ++ (k ∷ [])
    grown-is = ap (λ (n : ℕ). take n (set row m.count k)) (add-one m.count) ∙ take-suc-set row m.count k entry-room

    pub entered : EntryMet k row (set row m.count k) m grown
    entered =
        let c = a.state.counted in
        let d = differing-more (met_of row m) k new entry-few in
        let s = length-set row m.count k in
        let r = a.state.room in
        let e = ap differing grown-is in
        record { room = entry-room; met = grown-is; state = record { room = omega arith; counted = omega arith; told = each; below = inside } }
      where
        each : (j : ℕ) → bit seen j ≡ is_among j (met_of (set row m.count k) grown)
        each j =
            told j
            ∙ ap₂ either (a.state.told j) (eqb-turned k j)
            ∙ sym (among_one j (met_of row m) k)
            ∙ ap (is_among j) (sym grown-is)

        inside : (j : ℕ) → is_among j (met_of (set row m.count k) grown) ≡ true → j < slots_room
        inside j x =
            ⊎_elim (a.state.below j) (λ e. subst (◌< slots_room) (sym (eqb-true j k e)) entry-few)
            (either-cases (is_among j (met_of row m)) (eqb j k) (sym (among_one j (met_of row m) k) ∙ ap (is_among j) (sym grown-is) ∙ x))

-- what the row of its tokens asks
pub entry-ask : {k : ℕ} {bodies places row sets : List ℕ} {m : Meeting} {row' : List ℕ} {m' : Meeting} (tokens : List ℕ)
    → MeetAsk k bodies places row sets m → EntryMet k row row' m m' → tokens ≡ entry_tokens places bodies k → WalkAsk tokens bodies places k row' sets m'
entry-ask {k = k} tokens a x e =
    record { linked = linked-less k (omega arith) a.linked; falls = λ j h. a.linked.falls k j (omega arith) (sym (ap (λ (t : List ℕ). is_among j (held_in t)) e) ∙ h); state = x.state; room = a.room }

-- what it leaves
module _ {k : ℕ} {bodies places row sets : List ℕ} {m : Meeting} {row' : List ℕ} {m' : Meeting} {tokens row'' sets'' : List ℕ} {m'' : Meeting}
    (a : MeetAsk k bodies places row sets m) (h : bit m.seen k ≡ false) (x : EntryMet k row row' m m') (e : tokens ≡ entry_tokens places bodies k)
    (r : WalkMeets tokens bodies places k row' sets m' row'' sets'' m'') where
  fresh : is_among k (met_of row m) ≡ false
  fresh = sym (a.state.told k) ∙ h

  own-noted : SetAt sets'' k (links_at bodies places k)
  own-noted j = r.noted j ∙ ap (λ (t : List ℕ). is_among j (held_in t)) e

  notes-other : (j : ℕ) → (j ≡ k → ⊥) → LinksNoted bodies places (met_of row m) (met_of row'' m'') sets sets'' j
  notes-other j d =
      let n = r.notes j d in
      record { kept = n.kept; new = λ y. ⊎_elim (λ z. ⊎_elim inl (λ w. absurd (d (eqb-true j k w))) (either-cases (is_among j (met_of row m)) (eqb j k) (sym (among_one j (met_of row m) k) ∙ ap (is_among j) (sym x.met) ∙ z))) inr (n.new y) }

  notes-own : (j : ℕ) → j ≡ k → LinksNoted bodies places (met_of row m) (met_of row'' m'') sets sets'' j
  notes-own j d =
      let s : SetAt sets'' j (links_at bodies places j) = subst (λ (i : ℕ). SetAt sets'' i (links_at bodies places i)) (sym d) own-noted in
      record { kept = λ y. s; new = λ y. inr s }

  pub meets-new : Meets k bodies places row sets m row'' sets'' m''
  meets-new = record { state = r.state; walks = walks; notes = λ j. notes j (ℕ_discrete j k) }
    where
      walks : (reg : List Slot) → LinksOf bodies places reg (suc k) → (most : ℕ) → k < most
          → met_of row'' m'' ≡ pick (is_among k (met_of row m)) (met_of row m) (met_from reg most (holds_at reg k) (met_of row m ++ (k ∷ [])))
      walks reg l most f =
          r.walks reg (λ j y. l j (omega arith)) most f
          ∙ ap₂ (met_from reg most) (ap held_in e ∙ l k (omega arith)) x.met
          ∙ sym (pick_no (is_among k (met_of row m)) (met_of row m) _ fresh)

      notes : (j : ℕ) → Dec (j ≡ k) → LinksNoted bodies places (met_of row m) (met_of row'' m'') sets sets'' j
      notes j (yes d) = notes-own j d
      notes j (no d) = notes-other j d
