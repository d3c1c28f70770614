-- Laying a slot in tokens, each part that is cut out of it being entered in the register: what it asks and gives. Assumes nothing: these
-- are definitions.
use Rattle.std.specs.Prelude.{◌≡◌, ℕ, suc, ◌+◌, ◌*◌, ◌<◌, ◌≤◌, List, length, get_or, take}
use Rattle.std.proofs.Math.Option.{Option, none, some}
use Rattle.limits.specs.Limits.{boards_most, slots_room}
use Rattle.kinds.specs.declared.Leaf.TheVariants.{Hold}
use Rattle.ltl.specs.Formula.{Formula, leaf, size}
use Rattle.network.specs.Layout.{Slot}
use Rattle.network.proofs.Laying.{HoldsIn}
use Rattle.registers.specs.Register.{Noted, entry_of, entered, laid_noted}
use Rattle.registers.specs.Relaying.{holds_of}
use Rattle.registers.specs.Outer.{outer, outer_sum}
use Rattle.registers.proofs.Members.{OneOf}
use Rattle.registers.proofs.Expanding.{Registered}
use Rattle.tokens.specs.Tokens.{Spelt}
use Rattle.tokens.specs.Kept.{RegisterKept}
use Rattle.parting.specs.Parts.{PartAt}
use Rattle.parting.specs.Tops.{HeldBy, PartSource, FromPart}
use Rattle.entering.specs.declared.Entered.{Entered}
use Rattle.separating.specs.declared.Body.{Body}

-- what all walks read: the bytes, their marks and the entries of held slots; and that every choice is a board, a place holder having none
pub record Ground (choose : Formula → Option ℕ) (bytes marks table : List ℕ) : Type 0 where
  pub source : PartSource bytes marks table
  pub entries : (m : ℕ) → get_or table m 0 < slots_room
  pub boards : (f : Formula) (c : ℕ) → choose f ≡ some c → c < boards_most
  pub free : (m : ℕ) → choose (leaf (Hold m)) ≡ none

-- the register is kept, with room for one entry more
pub record Registry (bytes marks : List ℕ) (entries : ℕ) (bodies places stamps : List ℕ) (reg : List Slot) : Type 0 where
  pub kept : RegisterKept bytes marks bodies places stamps reg
  pub registered : Registered reg
  pub count : entries ≡ length reg
  pub few : entries < slots_room
  pub short : length bodies < 65536
  pub placed : length places ≡ slots_room + 1
  pub stamped : length stamps ≡ slots_room

-- a part that is to be laid on a board: where it stands, the register before, and that desk and register have room for it
pub record LayGiven (u bytes marks table : List ℕ) (part board entries : ℕ) (desk bodies places stamps : List ℕ)
    (choose : Formula → Option ℕ) (held : ℕ → ℕ) (f : Formula) (reg : List Slot) : Type 0 where
  pub ground : Ground choose bytes marks table
  pub held_by : HeldBy held table
  pub from : FromPart u bytes part
  pub stands : PartAt choose bytes marks part f
  pub holds : HoldsIn (λ m. held m < length reg) f
  pub there : board < boards_most
  pub registry : Registry bytes marks entries bodies places stamps reg
  pub desk-room : outer f ≤ length desk
  pub desk-short : length desk < 65536
  pub bodies-room : outer_sum reg + 2 * outer f ≤ length bodies

-- there is such a part
pub record LayAsk (u bytes marks table : List ℕ) (part board entries : ℕ) (desk bodies places stamps : List ℕ) : Type 0 where
  pub choose : Formula → Option ℕ
  pub held : ℕ → ℕ
  pub formula : Formula
  pub register : List Slot
  pub given : LayGiven u bytes marks table part board entries desk bodies places stamps choose held formula register

-- a slot that holds an entry so high has no room: an entry's number is above those that it holds, so the slot's is at least `room`
pub record Deep (room : ℕ) (f : Formula) : Type 0 where
  pub entry : ℕ
  pub holds : OneOf entry (holds_of f)
  pub high : room ≤ suc entry

-- ---- the slot's own tokens
-- they stand at the front of the desk, and the register is kept
pub record BodyLaid (bytes marks : List ℕ) (z : Noted) (desk bodies places stamps : List ℕ) (r : Body) : Type 0 where
  pub entries-are : r.entries ≡ length z.register
  pub kept : RegisterKept bytes marks bodies places stamps z.register
  pub few-tokens : r.tokens ≤ length desk
  pub spelt : Spelt bytes marks z.here (take r.tokens desk)
  pub nodes-are : r.nodes ≡ size z.here

-- they were laid, or a part was cut deeper than there is room
pub record CutsTo (bytes marks : List ℕ) (room : ℕ) (z : Noted) (desk bodies places stamps : List ℕ) (r : Body) : Type 0 where
  pub few : r.entries ≤ slots_room
  pub laid : r.entries < slots_room → BodyLaid bytes marks z desk bodies places stamps r
  pub over : r.entries ≡ slots_room → Deep room z.here

-- whichever part was asked for: it is laid on the board
abbrev pub Cuts : List ℕ → List ℕ → List ℕ → List ℕ → ℕ → ℕ → ℕ → ℕ → List ℕ → List ℕ → List ℕ → List ℕ
    → List ℕ → List ℕ → List ℕ → List ℕ → Body → Type 0
Cuts u bytes marks table part board room entries desk bodies places stamps desk' bodies' places' stamps' r =
    (choose : Formula → Option ℕ) (held : ℕ → ℕ) (f : Formula) (reg : List Slot)
    → LayGiven u bytes marks table part board entries desk bodies places stamps choose held f reg
    → CutsTo bytes marks room (laid_noted choose held f board reg) desk' bodies' places' stamps' r

-- ---- the part as a slot of its own
-- it has its entry, and the register is kept
pub record SlotEntered (bytes marks : List ℕ) (s : Slot) (reg : List Slot) (bodies places stamps : List ℕ) (r : Entered) : Type 0 where
  pub entry-is : r.entry ≡ entry_of s reg
  pub entries-are : r.entries ≡ length (entered s reg)
  pub kept : RegisterKept bytes marks bodies places stamps (entered s reg)

-- it was entered, or its entry would be at least `room`
pub record LaysTo (bytes marks : List ℕ) (room : ℕ) (s : Slot) (reg : List Slot) (bodies places stamps : List ℕ) (r : Entered) : Type 0 where
  pub few : r.entries ≤ slots_room
  pub laid : r.entries < slots_room → SlotEntered bytes marks s reg bodies places stamps r
  pub over : r.entries ≡ slots_room → room ≤ entry_of s reg

-- the slot that a part is on a board, in a register
abbrev pub slot_on : ℕ → Noted → Slot
slot_on board z = record { board = board; formula = z.here }

-- whichever part was asked for: it is laid on the board, and entered
abbrev pub LaysSlot : List ℕ → List ℕ → List ℕ → List ℕ → ℕ → ℕ → ℕ → ℕ → List ℕ → List ℕ → List ℕ → List ℕ
    → List ℕ → List ℕ → List ℕ → Entered → Type 0
LaysSlot u bytes marks table part board room entries desk bodies places stamps bodies' places' stamps' r =
    (choose : Formula → Option ℕ) (held : ℕ → ℕ) (f : Formula) (reg : List Slot)
    → LayGiven u bytes marks table part board entries desk bodies places stamps choose held f reg
    → let z = laid_noted choose held f board reg in LaysTo bytes marks room (slot_on board z) z.register bodies' places' stamps' r
