-- Where laying a slot stands between two of its parts, on the desk and in the register, and what looking at the next part gives. Assumes
-- nothing: these are definitions.
use Rattle.std.specs.Prelude.{◌≡◌, ℕ, ◌+◌, ◌*◌, ◌^◌, ◌<◌, ◌≤◌, List, [], ◌∷◌, length, take, drop}
use Rattle.std.proofs.Math.Option.{Option}
use Rattle.limits.specs.Limits.{boards_most, slots_room}
use Rattle.ltl.specs.Formula.{Formula, size}
use Rattle.network.specs.Layout.{Slot}
use Rattle.network.proofs.Laying.{HoldsIn}
use Rattle.registers.specs.Register.{Noted}
use Rattle.registers.specs.Outer.{outer_sum}
use Rattle.parting.specs.Parts.{PartsAt}
use Rattle.parting.specs.Tops.{HeldBy, FromPart}
use Rattle.separating.specs.declared.SlotProgress.{SlotProgress}
use Rattle.separating.specs.Rows.{outers_of, BetweenParts}
use Rattle.separating.specs.Laying.{Ground, Registry, Deep}

-- Q holds of every slot that one of the parts holds
abbrev pub HoldsEach : (ℕ → Type 0) → List Formula → Type 0
HoldsEach Q [] = Unit {0}
HoldsEach Q (f ∷ fs) = HoldsIn Q f × HoldsEach Q fs

-- the parts ps, which are the formulas fs, are still to be looked at; z is the slot in the end, and `own` its part
pub record SlotStage (bytes marks table : List ℕ) (board own : ℕ) (z : Noted) (desk bodies places stamps : List ℕ) (x : SlotProgress)
    (choose : Formula → Option ℕ) (held : ℕ → ℕ) (ps : List ℕ) (fs : List Formula) (reg : List Slot) : Type 0 where
  pub ground : Ground choose bytes marks table
  pub held_by : HeldBy held table
  pub there : board < boards_most
  pub inside : x.rest ≤ length desk
  pub stack : drop x.rest desk ≡ ps
  pub stand : PartsAt choose bytes marks own ps fs
  pub holds : HoldsEach (λ m. held m < length reg) fs
  pub registry : Registry bytes marks x.entries bodies places stamps reg
  pub desk-room : x.written + outers_of fs ≤ length desk
  pub desk-short : length desk < 65536
  pub bodies-room : outer_sum reg + 2 * outers_of fs ≤ length bodies
  pub between : BetweenParts bytes marks choose held board z (take x.written desk) x.nodes fs reg
  pub small : size z.here < 2 ^ 32

-- the part that is next is p, and u are the bytes from its node on
pub record LookGiven (u bytes marks table : List ℕ) (p board own : ℕ) (z : Noted) (desk bodies places stamps : List ℕ) (x : SlotProgress)
    (choose : Formula → Option ℕ) (held : ℕ → ℕ) (ps : List ℕ) (f : Formula) (fs : List Formula) (reg : List Slot) : Type 0 where
  pub from : FromPart u bytes p
  pub stage : SlotStage bytes marks table board own z desk bodies places stamps x choose held (p ∷ ps) (f ∷ fs) reg

-- there is such a part, of some slot
pub record LookPartAsk (u bytes marks table : List ℕ) (p board : ℕ) (x : SlotProgress) (desk bodies places stamps : List ℕ) : Type 0 where
  pub own : ℕ
  pub slot : Noted
  pub choose : Formula → Option ℕ
  pub held : ℕ → ℕ
  pub parts : List ℕ
  pub formula : Formula
  pub formulas : List Formula
  pub register : List Slot
  pub given : LookGiven u bytes marks table p board own slot desk bodies places stamps x choose held parts formula formulas register

-- one part fewer is to be looked at, or its operands in its place
pub record Further (bytes marks table : List ℕ) (board own : ℕ) (z : Noted) (desk bodies places stamps : List ℕ) (x : SlotProgress)
    (choose : Formula → Option ℕ) (held : ℕ → ℕ) : Type 0 where
  pub parts : List ℕ
  pub formulas : List Formula
  pub register : List Slot
  pub stage : SlotStage bytes marks table board own z desk bodies places stamps x choose held parts formulas register

-- that, or there is no room, and no part is left
pub record LooksTo (bytes marks table : List ℕ) (board room own : ℕ) (z : Noted) (desk bodies places stamps : List ℕ) (x : SlotProgress)
    (choose : Formula → Option ℕ) (held : ℕ → ℕ) : Type 0 where
  pub few : x.entries ≤ slots_room
  pub further : x.entries < slots_room → Further bytes marks table board own z desk bodies places stamps x choose held
  pub over : x.entries ≡ slots_room → (x.rest ≡ length desk) × Deep room z.here

-- one token more is written, and whichever slot was being laid is further on
pub record Looks (u bytes marks table : List ℕ) (p board room : ℕ) (x : SlotProgress) (desk bodies places stamps desk' bodies' places' stamps' : List ℕ)
    (r : SlotProgress) : Type 0 where
  pub written_is : r.written ≡ x.written + 1
  pub looks : (own : ℕ) (z : Noted) (choose : Formula → Option ℕ) (held : ℕ → ℕ) (ps : List ℕ) (f : Formula) (fs : List Formula) (reg : List Slot)
      → LookGiven u bytes marks table p board own z desk bodies places stamps x choose held ps f fs reg
      → LooksTo bytes marks table board room own z desk' bodies' places' stamps' r choose held
