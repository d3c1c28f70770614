-- The state of the pass as what was gathered so far, and what one sign more makes of it. Assumes nothing: these are definitions.
use Rattle.std.specs.Prelude.{◌≡◌, List, ℕ, ◌+◌, ◌^◌, ◌≤◌, ◌<◌, drop}
use Rattle.text.specs.declared.Sign.{Sign}
use Rattle.text.specs.Gathering.{Gathered, front, gathers}
use Rattle.popping.specs.Waits.{waits_of, Room, Spare}
use Rattle.building.specs.declared.gathering.Midway.{Midway}
use Rattle.building.specs.Nodes.{node_of}

-- what waits, the brackets, the digits and the bytes
abbrev pub gathered_at : List ℕ → List ℕ → List ℕ → Midway → Gathered
gathered_at levels depths l x =
    record { waits = waits_of x.edges.top levels depths; depth = x.depth; number = x.number; scale = x.scale; bytes = drop x.edges.at l }

-- the byte b is put in front of the bytes, whatever waits
pub record Fronts (b : ℕ) (l : List ℕ) (x : Midway) (m : List ℕ) (r : Midway) : Type 0 where
  pub top : r.edges.top ≡ x.edges.top
  pub at : r.edges.at + 1 ≡ x.edges.at
  pub depth : r.depth ≡ x.depth
  pub is : (levels depths : List ℕ) → gathered_at levels depths m r ≡ front b (gathered_at levels depths l x)

-- there is room for the sign s as well
pub record MoreRoom (s : Sign) (levels depths l : List ℕ) (x : Midway) : Type 0 where
  pub spare : Spare (node_of s) levels depths l x.edges
  pub shallow : x.depth + 1 < 2 ^ 64

-- the sign s is taken in: it waits, or is a byte, or has no node
pub record TakesIn (s : Sign) (levels depths l : List ℕ) (x : Midway) (levels' depths' l' : List ℕ) (r : Midway) : Type 0 where
  pub is : gathered_at levels' depths' l' r ≡ gathers s (gathered_at levels depths l x)
  pub count : r.edges.top + x.edges.at ≡ node_of s + (x.edges.top + r.edges.at)
  pub room : Room levels' depths' l' r.edges
  pub depth : r.depth ≤ x.depth + 1
