-- The two arrays as the list of signs that wait, and what popping and pushing make of it. Assumes nothing: these are definitions.
use Rattle.std.specs.Prelude.{◌≡◌, List, [], ◌∷◌, ℕ, zero, suc, ◌+◌, ◌≤◌, ◌<◌, length, get_or, drop, eqb}
use Rattle.lists.specs.Tests.{pick}
use Rattle.kinds.specs.declared.Join.TheVariants.{And, Or}
use Rattle.kinds.specs.declared.Binary.{Binary}
use Rattle.kinds.specs.declared.Binary.TheVariants.{Joined, Until}
use Rattle.text.specs.Signs.{level, loosest}
use Rattle.text.specs.Gathering.{Waiting, Popped, pops}
use Rattle.popping.specs.declared.Edges.{Edges}

-- the sign of a level; every number past 1 is read as or's
unfoldable pub sign_at : ℕ → Binary
sign_at j = pick (eqb j 0) Until (pick (eqb j 1) (Joined And) (Joined Or))

-- the first n signs of the arrays, the latest first
abbrev pub waits_of : ℕ → List ℕ → List ℕ → List Waiting
waits_of zero levels depths = []
waits_of (suc n) levels depths = record { depth = get_or depths n 0; sign = sign_at (get_or levels n 0) } ∷ waits_of n levels depths

-- what waits, and the bytes
abbrev pub popped_at : List ℕ → List ℕ → List ℕ → Edges → Popped
popped_at levels depths l x = record { waits = waits_of x.top levels depths; bytes = drop x.at l }

-- the first n levels are levels of signs
abbrev pub Levels : ℕ → List ℕ → Type 0
Levels n levels = (i : ℕ) → i < n → get_or levels i 0 < loosest

-- what waits stands in the arrays, and has room in front of the bytes
pub record Room (levels depths l : List ℕ) (x : Edges) : Type 0 where
  pub levels-room : x.top ≤ length levels
  pub depths-room : x.top ≤ length depths
  pub bytes-room : x.top ≤ x.at
  pub within : x.at ≤ length l
  pub low : Levels x.top levels

-- there is room for n more
pub record Spare (n : ℕ) (levels depths l : List ℕ) (x : Edges) : Type 0 where
  pub room : Room levels depths l x
  pub more-levels : x.top + n ≤ length levels
  pub more-depths : x.top + n ≤ length depths
  pub more_bytes : x.top + n ≤ x.at

-- signs of the depth d that bind tighter than the level k are popped, each to one byte
pub record Pops (levels depths : List ℕ) (d k : ℕ) (x : Edges) (l : List ℕ) (r : Edges) (m : List ℕ) : Type 0 where
  pub less : r.top ≤ x.top
  pub moved : r.at + x.top ≡ x.at + r.top
  pub is : popped_at levels depths m r ≡ pops (waits_of x.top levels depths) d k (drop x.at l)

-- the sign o waits at the depth d
abbrev pub pushed : Binary → ℕ → Popped → Popped
pushed o d p = record { waits = record { depth = d; sign = o } ∷ p.waits; bytes = p.bytes }

-- it does so behind those that were popped for it
pub record Pushes (o : Binary) (d : ℕ) (levels depths l : List ℕ) (x : Edges) (levels' depths' m : List ℕ) (r : Edges) : Type 0 where
  pub is : popped_at levels' depths' m r ≡ pushed o d (pops (waits_of x.top levels depths) d (suc (level o)) (drop x.at l))
  pub count : r.top + x.at ≡ 1 + (x.top + r.at)
  pub room : Room levels' depths' m r
