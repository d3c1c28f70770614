-- What falls from call to call: a part that stands behind another one has fewer nodes before the end of the bytes, or is a later part of
-- the same node. Assumes nothing.
use mathlib.Core.Path.{◌≡◌, ap}
use mathlib.Core.List.{List}
use Prim.Native.Nat.{ℕ, ◌+◌, ◌*◌, ◌-◌, ◌/◌, ◌%◌, ◌<◌}
use native.Mathlib.Omega.{arith}
use lib.ListN.{length, length-drop}
use Rattle.lists.specs.Runs.{tail}
use Rattle.lists.proofs.Parts.{tail-length}
use Rattle.parting.specs.Parts.{parts_room}
use Rattle.parting.specs.Tops.{FromPart}

-- how many bytes there are from a part's node on
from-length : (u bytes : List ℕ) (part : ℕ) → FromPart u bytes part → length u ≡ length bytes - part / parts_room
from-length u bytes part h = let e = ap length h in let d = length-drop (part / parts_room) bytes in omega arith

-- a part p that stands behind `part`, as the calls of the cycle measure it
pub falls-part : (u bytes : List ℕ) (part p t : ℕ) → FromPart u bytes part → part / parts_room < length bytes → p / parts_room < length bytes → part < p
    → 3 * (4 * length u - part % 4) ≡ t → 3 * (4 * length (tail (p / parts_room) bytes) - p % 4) + 2 < t
falls-part u bytes part p t h i j l e =
    let a = from-length u bytes part h in
    let b = tail-length (p / parts_room) bytes in
    omega arith
