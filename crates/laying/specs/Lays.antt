-- Laying over bytes: what stands where before, and what was written. Assumes nothing: these are definitions.
use Rattle.std.specs.Prelude.{◌≡◌, ℕ, ◌+◌, ◌<◌, ◌≤◌, List, ◌++◌, length, get_or, drop}
use Rattle.std.proofs.Math.Option.{Option, some}
use Rattle.state.specs.Form.{slot_rows}
use Rattle.kinds.specs.declared.Join.{Join}
use Rattle.kinds.specs.declared.Leaf.TheVariants.{Hold}
use Rattle.kinds.specs.declared.Binary.TheVariants.{Joined}
use Rattle.kinds.specs.declared.Kind.TheVariants.{Two}
use Rattle.kinds.specs.Kinds.{kind_of, leaf_code}
use Rattle.limits.specs.Limits.{boards_most, slots_room, nodes_room}
use Rattle.ltl.specs.Formula.{Formula, size, encode}
use Rattle.network.specs.Layout.{Laid, cut, rooted, looked, laid}
use Rattle.state.specs.Bytes.{nodes_of, slot_records, node_bytes}
use Rattle.nodes.specs.Begins.{Begins, Front}
use Rattle.tagging.specs.Packed.{board_in, here_in, ahead_in}
use Rattle.tagging.specs.Tags.{here_on, Tags, Tagged}
use Rattle.laying.specs.declared.Place.{Place}
use Rattle.laying.specs.declared.Lain.{Lain}

-- ---- what stands before
-- a formula that is to be laid on a board of its own: its bytes, its tag and its operands' tags
pub record OnBoard (choose : Formula → Option ℕ) (u tags : List ℕ) (f : Formula) (rest : List ℕ) (board : ℕ) : Type 0 where
  pub front : Front u f rest
  pub board-is : board_in (get_or tags 0 0) ≡ board
  pub here-is : here_in (get_or tags 0 0) ≡ here_on choose f board
  pub tagged : Tagged choose f tags

-- the slot of a place holder at the front: its formula stands further on, and is what the place holder lays
pub record HeldAt (choose : Formula → Option ℕ) (hold : ℕ → ℕ → Laid) (u tags : List ℕ) (m : ℕ) : Type 0 where
  pub formula : Formula
  pub rest : List ℕ
  pub board : ℕ
  pub there : board < boards_most
  pub ahead : 0 < ahead_in (get_or tags 0 0)
  pub inside : ahead_in (get_or tags 0 0) ≤ length u
  pub stands : OnBoard choose (drop (ahead_in (get_or tags 0 0)) u) (drop (ahead_in (get_or tags 0 0)) tags) formula rest board
  pub lays : (k : ℕ) → hold m k ≡ cut board k (laid choose hold formula board (k + 1))

-- wherever a place holder stands, its slot does; its own place holder is one node; and every choice is a board
pub record Source (choose : Formula → Option ℕ) (hold : ℕ → ℕ → Laid) (u tags : List ℕ) : Type 0 where
  pub long : length u ≤ length tags
  pub held : (i m : ℕ) → i < length u → m < slots_room → get_or u i 0 ≡ leaf_code (Hold m) → HeldAt choose hold (drop i u) (drop i tags) m
  pub single : (m k : ℕ) → size (hold m k).here ≡ 1
  pub boards : (f : Formula) (c : ℕ) → choose f ≡ some c → c < boards_most

-- there is room for what is laid
pub record Fits (x : Laid) (at : Place) (p r : ℕ) : Type 0 where
  pub here : size x.here ≤ at.gap
  pub nodes : at.gap + nodes_of x.slots ≤ p
  pub records : slot_rows (length x.slots) ≤ r
  pub slots : at.slot + length x.slots ≤ slots_room
  pub numbers : at.node + nodes_of x.slots ≤ nodes_room

-- ---- what was written: the nodes of the slot itself in front, and those of the slots cut out of it behind the gap; their records
pub record Lays (x : Laid) (at : Place) (p r p' r' : List ℕ) (y : Lain) : Type 0 where
  pub here-is : y.here ≡ size x.here
  pub slots-are : y.slots ≡ length x.slots
  pub nodes-are : y.nodes ≡ nodes_of x.slots
  pub nodes : (H M Q R : List ℕ) → p ≡ H ++ (M ++ (Q ++ R)) → length H ≡ size x.here → length H + length M ≡ at.gap → length Q ≡ nodes_of x.slots
      → p' ≡ encode x.here ++ (M ++ (node_bytes x.slots ++ R))
  pub records : (Q R : List ℕ) → r ≡ Q ++ R → length Q ≡ slot_rows (length x.slots) → r' ≡ slot_records at.node x.slots ++ R

-- ---- a part that stays in the slot
pub record CutAsk (u tags : List ℕ) (at : Place) (p r : List ℕ) : Type 0 where
  pub choose : Formula → Option ℕ
  pub hold : ℕ → ℕ → Laid
  pub formula : Formula
  pub rest : List ℕ
  pub source : Source choose hold u tags
  pub front : Front u formula rest
  pub here-is : here_in (get_or tags 0 0) ≡ here_on choose formula at.board
  pub tagged : Tagged choose formula tags
  pub fits : Fits (laid choose hold formula at.board at.slot) at (length p) (length r)

abbrev pub Cuts : List ℕ → List ℕ → Place → List ℕ → List ℕ → List ℕ → List ℕ → Lain → Type 0
Cuts u tags at p r p' r' y =
    (choose : Formula → Option ℕ) (hold : ℕ → ℕ → Laid) (f : Formula) (rest : List ℕ) → Source choose hold u tags → Front u f rest → Tagged choose f tags
    → (y.read ≡ size f) × Lays (laid choose hold f at.board at.slot) at p r p' r' y

-- ---- an operand that is looked at
pub record LookAsk (u tags : List ℕ) (at : Place) (p r : List ℕ) : Type 0 where
  pub choose : Formula → Option ℕ
  pub hold : ℕ → ℕ → Laid
  pub formula : Formula
  pub rest : List ℕ
  pub source : Source choose hold u tags
  pub front : Front u formula rest
  pub tag : Tags choose formula boards_most (get_or tags 0 0)
  pub tagged : Tagged choose formula tags
  pub fits : Fits (looked (choose formula) at.board at.slot (laid choose hold formula)) at (length p) (length r)

abbrev pub Looks : List ℕ → List ℕ → Place → List ℕ → List ℕ → List ℕ → List ℕ → Lain → Type 0
Looks u tags at p r p' r' y =
    (choose : Formula → Option ℕ) (hold : ℕ → ℕ → Laid) (f : Formula) (rest : List ℕ) → Source choose hold u tags → Front u f rest
    → Tags choose f boards_most (get_or tags 0 0) → Tagged choose f tags
    → (y.read ≡ size f) × Lays (looked (choose f) at.board at.slot (laid choose hold f)) at p r p' r' y

-- ---- a part that becomes a slot
pub record SlotAsk (u tags : List ℕ) (at : Place) (p r : List ℕ) : Type 0 where
  pub choose : Formula → Option ℕ
  pub hold : ℕ → ℕ → Laid
  pub formula : Formula
  pub rest : List ℕ
  pub board : ℕ
  pub source : Source choose hold u tags
  pub stands : OnBoard choose u tags formula rest board
  pub fits : Fits (cut board at.slot (laid choose hold formula board (at.slot + 1))) at (length p) (length r)

abbrev pub LaysSlot : List ℕ → List ℕ → Place → List ℕ → List ℕ → List ℕ → List ℕ → Lain → Type 0
LaysSlot u tags at p r p' r' y =
    (choose : Formula → Option ℕ) (hold : ℕ → ℕ → Laid) (f : Formula) (rest : List ℕ) (board : ℕ) → Source choose hold u tags → OnBoard choose u tags f rest board
    → (y.read ≡ size f) × Lays (cut board at.slot (laid choose hold f board (at.slot + 1))) at p r p' r' y

-- ---- nodes that are put as they are
pub record Plain (n : ℕ) (y : Lain) : Type 0 where
  pub read_is : y.read ≡ n
  pub here-is : y.here ≡ n
  pub slots-none : y.slots ≡ 0
  pub nodes-none : y.nodes ≡ 0

pub record WholeAsk (u tags p : List ℕ) : Type 0 where
  pub begins : Begins u
  pub tag : 0 < length tags
  pub length-is : here_in (get_or tags 0 0) ≡ size begins.formula
  pub room : size begins.formula ≤ length p

abbrev pub PutsWhole : List ℕ → List ℕ → List ℕ → Lain → Type 0
PutsWhole u p p' y = (f : Formula) (rest : List ℕ) → Front u f rest → (p' ≡ encode f ++ drop (size f) p) × Plain (size f) y

pub record IsJoin (u : List ℕ) : Type 0 where
  pub by : Join
  pub kind : kind_of (get_or u 0 0) ≡ Two (Joined by)

-- ---- the first slot of a network
pub record RootAsk (u tags p r : List ℕ) : Type 0 where
  pub choose : Formula → Option ℕ
  pub hold : ℕ → ℕ → Laid
  pub formula : Formula
  pub rest : List ℕ
  pub board : ℕ
  pub source : Source choose hold u tags
  pub stands : OnBoard choose u tags formula rest board
  pub slots : length (rooted board (laid choose hold formula board 1)) ≤ slots_room
  pub numbers : nodes_of (rooted board (laid choose hold formula board 1)) ≤ nodes_room
  pub nodes : nodes_of (rooted board (laid choose hold formula board 1)) ≤ length p
  pub records : slot_rows (length (rooted board (laid choose hold formula board 1))) ≤ length r

abbrev pub LaysRoot : List ℕ → List ℕ → List ℕ → List ℕ → List ℕ → List ℕ → Type 0
LaysRoot u tags p r p' r' =
    (choose : Formula → Option ℕ) (hold : ℕ → ℕ → Laid) (f : Formula) (rest : List ℕ) (board : ℕ) → Source choose hold u tags → OnBoard choose u tags f rest board
    → nodes_of (rooted board (laid choose hold f board 1)) ≤ length p → slot_rows (length (rooted board (laid choose hold f board 1))) ≤ length r
    → (p' ≡ node_bytes (rooted board (laid choose hold f board 1)) ++ drop (nodes_of (rooted board (laid choose hold f board 1))) p)
    × (r' ≡ slot_records 0 (rooted board (laid choose hold f board 1)) ++ drop (slot_rows (length (rooted board (laid choose hold f board 1)))) r)
