-- The entries met below a row of tokens: `MeetAsk` and `Meets` are one entry's, `WalkAsk` and `WalkMeets` those of all place holders
-- in a row. Assumes nothing: these are definitions.
use Rattle.std.specs.Prelude.{◌≡◌, true, ◌⊎◌, List, [], ◌∷◌, ◌++◌, ℕ, suc, ◌<◌, ◌≤◌, length, take}
use Rattle.limits.specs.Limits.{slots_room}
use Rattle.lists.specs.Tests.{pick, bit}
use Rattle.masks.specs.Masks.{sum_to}
use Rattle.network.specs.Layout.{Slot}
use Rattle.registers.specs.Relaying.{is_among}
use Rattle.registers.specs.Numbers.{holds_at, met_from}
use Rattle.tokens.specs.Tokens.{held_in}
use Rattle.meeting.specs.declared.Meeting.{Meeting}
use Rattle.meeting.specs.Links.{links_at, Linked, LinksOf, SetAt}

-- the entries met, in their order
abbrev pub met_of : List ℕ → Meeting → List ℕ
met_of row m = take m.count row

-- how many of the numbers that an entry may have are in the list
unfoldable pub differing : List ℕ → ℕ
differing l = sum_to slots_room (λ k. pick (is_among k l) 1 0)

-- those met stand in the row, each once, and are in the set
pub record MetKept (row : List ℕ) (m : Meeting) : Type 0 where
  pub room : slots_room ≤ length row
  pub counted : m.count ≡ differing (met_of row m)
  pub told : (k : ℕ) → bit m.seen k ≡ is_among k (met_of row m)
  pub below : (k : ℕ) → is_among k (met_of row m) ≡ true → k < slots_room

-- what each entry that is met on the way holds has been noted
pub record LinksNoted (bodies places met met' sets sets' : List ℕ) (j : ℕ) : Type 0 where
  pub kept : SetAt sets j (links_at bodies places j) → SetAt sets' j (links_at bodies places j)
  pub new : is_among j met' ≡ true → (is_among j met ≡ true) ⊎ SetAt sets' j (links_at bodies places j)

-- ---- one entry
pub record MeetAsk (k : ℕ) (bodies places row sets : List ℕ) (m : Meeting) : Type 0 where
  pub linked : Linked bodies places (suc k)
  pub state : MetKept row m
  pub room : slots_room ≤ length sets

-- the entry is met, and those below it, unless it was met before
pub record Meets (k : ℕ) (bodies places row sets : List ℕ) (m : Meeting) (row' sets' : List ℕ) (m' : Meeting) : Type 0 where
  pub state : MetKept row' m'
  pub walks : (reg : List Slot) → LinksOf bodies places reg (suc k) → (most : ℕ) → k < most
      → met_of row' m' ≡ pick (is_among k (met_of row m)) (met_of row m) (met_from reg most (holds_at reg k) (met_of row m ++ (k ∷ [])))
  pub notes : (j : ℕ) → LinksNoted bodies places (met_of row m) (met_of row' m') sets sets' j

-- ---- a row of tokens, which belong to entry `own` or to the root, whose number is then `own`
pub record WalkAsk (tokens bodies places : List ℕ) (own : ℕ) (row sets : List ℕ) (m : Meeting) : Type 0 where
  pub linked : Linked bodies places own
  pub falls : (k : ℕ) → is_among k (held_in tokens) ≡ true → k < own
  pub state : MetKept row m
  pub room : slots_room ≤ length sets

-- the entries that they hold are met, and those below them
pub record WalkMeets (tokens bodies places : List ℕ) (own : ℕ) (row sets : List ℕ) (m : Meeting) (row' sets' : List ℕ) (m' : Meeting) : Type 0 where
  pub state : MetKept row' m'
  pub walks : (reg : List Slot) → LinksOf bodies places reg own → (most : ℕ) → own < most → met_of row' m' ≡ met_from reg most (held_in tokens) (met_of row m)
  pub noted : SetAt sets' own (held_in tokens)
  pub notes : (j : ℕ) → (j ≡ own → ⊥) → LinksNoted bodies places (met_of row m) (met_of row' m') sets sets' j
