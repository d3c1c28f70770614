-- Where the bytes in hand stand in a piece, and that none is lost. Assumes nothing: these are definitions.
use Rattle.std.specs.Prelude.{◌≡◌, Result, Ok, Err, List, ℕ, ◌-◌, ◌≤◌, length, take, drop}
use Rattle.came.specs.declared.Next.{Next}
use Rattle.came.specs.declared.Next.TheVariants as next
use Rattle.programs.specs.declared.input.Hand.{Hand}
use Rattle.programs.specs.declared.input.Taking.{Taking}
use Rattle.programs.specs.declared.input.Taken.{Taken}
use Rattle.programs.specs.declared.input.Taken.TheVariants as taken
use Rattle.came.specs.Came.{next_in}

-- they stand within a piece of so many bytes
abbrev pub InHand : ℕ → Hand → Type 0
InHand piece hand = (hand.from ≤ hand.end) × (hand.end ≤ piece)

-- the bytes in hand
abbrev pub bytes_of : List ℕ → Hand → List ℕ
bytes_of piece hand = take (hand.end - hand.from) (drop hand.from piece)

-- a list begins with these bytes
abbrev pub Leads : List ℕ → List ℕ → Type 0
Leads before s = take (length before) s ≡ before

-- what came stands within the piece, and begins with what was in hand before
pub record Brings (before piece : List ℕ) (hand : Hand) : Type 0 where
  pub within : InHand (length piece) hand
  pub leads : Leads before (bytes_of piece hand)

-- what came behind what was in hand before, where no read has failed
abbrev pub CameBehind : {E : Type 0} → List ℕ → List ℕ → Result Hand E → Type 0
CameBehind before piece (Ok hand) = Brings before piece hand
CameBehind before piece (Err _) = Unit {0}

-- of the bytes that came, which begin with what was in hand before, this is next
pub record Tells (before : List ℕ) (next : Next) : Type 0 where
  pub all : List ℕ
  pub leads : Leads before all
  pub next-is : next_in all ≡ next

-- an event was taken: the 8 bytes of it are the first of those that came, and the others are in hand
pub record Takes (before piece : List ℕ) (taking : Taking) : Type 0 where
  pub tells : Tells before (next.Event taking.event)
  pub within : InHand (length piece) taking.rest
  pub rest-is : bytes_of piece taking.rest ≡ drop 8 tells.all

-- what was taken is what is next in the bytes that came, where no read has failed
abbrev pub TakenBehind : {E : Type 0} → List ℕ → List ℕ → Result Taken E → Type 0
TakenBehind before piece (Ok (taken.Event taking)) = Takes before piece taking
TakenBehind before piece (Ok taken.End) = Tells before next.End
TakenBehind before piece (Ok taken.Leftover) = Tells before next.Leftover
TakenBehind before piece (Err _) = Unit {0}
