-- Writing a state: what is laid out, and what is written. Assumes nothing: these are definitions.
use Rattle.std.specs.Prelude.{◌≡◌, ℕ, ◌+◌, ◌-◌, ◌≤◌, List, ◌++◌, length, drop, replicate}
use Rattle.std.proofs.Math.Option.{Option}
use Rattle.limits.specs.Limits.{boards_most, slots_room, nodes_room}
use Rattle.ltl.specs.Formula.{Formula}
use Rattle.network.specs.Layout.{Slot, Laid, rooted, laid}
use Rattle.state.specs.declared.Form.{Form}
use Rattle.state.specs.Form.{form_in, slots_most, nodes_most, slot_rows, Formed}
use Rattle.state.specs.Bytes.{nodes_of, slot_records, node_bytes, state_of}
use Rattle.laying.specs.Lays.{OnBoard, Source}

-- the network that u and its tags are laid out to
pub record LaidOut (u tags : List ℕ) (network : List Slot) : Type 0 where
  pub choose : Formula → Option ℕ
  pub hold : ℕ → ℕ → Laid
  pub formula : Formula
  pub rest : List ℕ
  pub board : ℕ
  pub source : Source choose hold u tags
  pub stands : OnBoard choose u tags formula rest board
  pub network-is : network ≡ rooted board (laid choose hold formula board 1)

-- it has so many slots and nodes
pub record LaidCounts (network : List Slot) (slots nodes : ℕ) : Type 0 where
  pub slots-are : slots ≡ length network
  pub nodes-are : nodes ≡ nodes_of network
  pub few-slots : slots ≤ slots_room
  pub few-nodes : nodes ≤ nodes_room

pub record NetworkAsk (out rows : List ℕ) (slots nodes : ℕ) (u tags : List ℕ) : Type 0 where
  pub network : List Slot
  pub laid_out : LaidOut u tags network
  pub counts : LaidCounts network slots nodes
  pub room : slot_rows slots + nodes ≤ length out
  pub rows-room : slot_rows slots ≤ length rows

abbrev pub StoresNetwork : ℕ → ℕ → List ℕ → List ℕ → List ℕ → List ℕ → Type 0
StoresNetwork slots nodes u tags out out' =
    (network : List Slot) → LaidOut u tags network → LaidCounts network slots nodes
    → out' ≡ slot_records 0 network ++ (node_bytes network ++ replicate (length out - (slot_rows slots + nodes)) 0)

-- the bytes from a place on are zero
pub record ZeroFrom (used : ℕ) (s : List ℕ) : Type 0 where
  pub inside : used ≤ length s
  pub zeros : drop used s ≡ replicate (length s - used) 0

pub record StateAsk (state : List ℕ) (used : ℕ) (masks : List ℕ) (slots nodes : ℕ) (u tags : List ℕ) : Type 0 where
  pub clean : ZeroFrom used state
  pub network : List Slot
  pub laid_out : LaidOut u tags network
  pub counts : LaidCounts network slots nodes
  pub long : Formed state
  pub few-boards : length masks ≤ boards_most
  pub form-slots : slots ≤ slots_most (form_in state)
  pub form-nodes : nodes ≤ nodes_most (form_in state)

abbrev pub Stores : Form → List ℕ → ℕ → ℕ → ℕ → List ℕ → List ℕ → List ℕ → Type 0
Stores φ masks slots nodes ticks u tags state' =
    (network : List Slot) → LaidOut u tags network → LaidCounts network slots nodes → state' ≡ state_of φ masks network ticks
