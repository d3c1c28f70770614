-- A slot is entered in a register that is kept in tokens: `EnterAsk` is what the call asks, `EntersSlot` what it promises, for every
-- register and slot that `Entering` says. Assumes nothing: these are definitions.
use Rattle.std.specs.Prelude.{◌≡◌, Bool, true, false, List, ◌++◌, ℕ, ◌+◌, ◌-◌, ◌<◌, ◌≤◌, length, get_or, set, take, drop}
use Rattle.limits.specs.Limits.{boards_most, slots_room}
use Rattle.ltl.specs.Formula.{size, Coded}
use Rattle.network.specs.Layout.{Slot, slot_at}
use Rattle.registers.specs.Register.{entry_of, entered}
use Rattle.tokens.specs.Tokens.{Spelt}
use Rattle.tokens.specs.Kept.{stamp_of, RegisterKept}
use Rattle.entering.specs.declared.Entered.{Entered}

-- the register is kept, and the slot s is to be entered: its tokens and its stamp
pub record Entering (bytes marks tokens : List ℕ) (stamp entries : ℕ) (bodies places stamps : List ℕ) (reg : List Slot) (s : Slot) : Type 0 where
  pub kept : RegisterKept bytes marks bodies places stamps reg
  pub count : entries ≡ length reg
  pub there : s.board < boards_most
  pub coded : Coded s.formula
  pub stamp-is : stamp ≡ stamp_of s.board (size s.formula)
  pub spelt : Spelt bytes marks s.formula tokens

-- there are such a register and slot, and room for one more
pub record EnterAsk (bytes marks tokens : List ℕ) (stamp entries : ℕ) (bodies places stamps : List ℕ) : Type 0 where
  pub register : List Slot
  pub slot : Slot
  pub entering : Entering bytes marks tokens stamp entries bodies places stamps register slot
  pub marked : length bytes ≤ length marks
  pub few : entries < slots_room
  pub room : get_or places entries 0 + length tokens ≤ length bodies
  pub short : length bodies < 65536
  pub placed : length places ≡ slots_room + 1
  pub stamped : length stamps ≡ slots_room

-- k is one of the entries
pub record EntryAsk (bytes marks tokens : List ℕ) (stamp : ℕ) (bodies places stamps : List ℕ) (k : ℕ) : Type 0 where
  pub entries : ℕ
  pub ask : EnterAsk bytes marks tokens stamp entries bodies places stamps
  pub below : k < entries

-- r says whether entry k is the slot
pub record EntryTold (bytes marks tokens : List ℕ) (stamp : ℕ) (bodies places stamps : List ℕ) (k : ℕ) (r : Bool) : Type 0 where
  pub is : r ≡ true → (entries : ℕ) (reg : List Slot) (s : Slot) → Entering bytes marks tokens stamp entries bodies places stamps reg s → k < entries
      → slot_at reg k ≡ s
  pub other : r ≡ false → (entries : ℕ) (reg : List Slot) (s : Slot) → Entering bytes marks tokens stamp entries bodies places stamps reg s → k < entries
      → slot_at reg k ≡ s → ⊥

-- the number is the slot's entry
abbrev pub FindsEntry : List ℕ → List ℕ → List ℕ → ℕ → ℕ → List ℕ → List ℕ → List ℕ → ℕ → Type 0
FindsEntry bytes marks tokens stamp entries bodies places stamps r =
    (reg : List Slot) (s : Slot) → Entering bytes marks tokens stamp entries bodies places stamps reg s → r ≡ entry_of s reg

-- ---- one entry more, as numbers
pub record AppendAsk (tokens : List ℕ) (entries : ℕ) (bodies places stamps : List ℕ) : Type 0 where
  pub room : get_or places entries 0 + length tokens ≤ length bodies
  pub short : length bodies < 65536
  pub placed : entries + 1 < length places
  pub stamped : entries < length stamps

-- the tokens stand behind those of the other entries, with their end and the stamp beside them; all else stays
pub record Appends (tokens : List ℕ) (stamp entries : ℕ) (bodies places stamps bodies' places' stamps' : List ℕ) : Type 0 where
  pub bodies-is : bodies' ≡ take (get_or places entries 0) bodies ++ (tokens ++ drop (get_or places entries 0 + length tokens) bodies)
  pub places_is : places' ≡ set places (entries + 1) (get_or places entries 0 + length tokens)
  pub stamps-is : stamps' ≡ set stamps entries stamp

-- ---- the promise
-- of a register and a slot: the register with the slot entered is kept, unless it has as many entries as there is room for
pub record EntersSlot (bytes marks bodies' places' stamps' : List ℕ) (reg : List Slot) (s : Slot) (r : Entered) : Type 0 where
  pub entry-is : r.entry ≡ entry_of s reg
  pub entries-is : r.entries ≡ length (entered s reg)
  pub few : r.entries ≤ slots_room
  pub kept : r.entries < slots_room → RegisterKept bytes marks bodies' places' stamps' (entered s reg)
  pub full : r.entries ≡ slots_room → r.entry ≡ slots_room - 1

-- of each that is so, and the lengths stay
pub record EntersAll (bytes marks tokens : List ℕ) (stamp entries : ℕ) (bodies places stamps bodies' places' stamps' : List ℕ) (r : Entered) : Type 0 where
  pub enters : (reg : List Slot) (s : Slot) → Entering bytes marks tokens stamp entries bodies places stamps reg s → EntersSlot bytes marks bodies' places' stamps' reg s r
  pub bodies-long : length bodies' ≡ length bodies
  pub places-long : length places' ≡ length places
  pub stamps-long : length stamps' ≡ length stamps
