-- Laying out: which parts of a formula are cut and become slots of their own. Everything here is over the function that chooses a
-- board for a part. Assumes nothing: these are definitions.
use Rattle.std.specs.Prelude.{ℕ, zero, suc, ◌+◌, false, List, [], ◌∷◌, ◌++◌, length, get_or, eqb}
use Rattle.std.proofs.Math.Option.{Option, none, some}
use Rattle.lists.specs.Tests.{pick}
use Rattle.kinds.specs.declared.Leaf.TheVariants.{Const, Prop, Hold}
use Rattle.kinds.specs.declared.Unary.{Unary}
use Rattle.kinds.specs.declared.Unary.TheVariants.{Not, Next, Ever}
use Rattle.kinds.specs.declared.Binary.{Binary}
use Rattle.kinds.specs.declared.Binary.TheVariants.{Joined, Until}
use Rattle.ltl.specs.Formula.{Formula, leaf, one, two, constant}
use Rattle.ltl.specs.Progression.{unfolded}

-- a slot: the board that it is on, and its formula
pub record Slot : Type 0 where
  pub board : ℕ
  pub formula : Formula

-- a part as it was laid: what stands in its slot, and the slots that were cut out of it, in the order of their numbers
pub record Laid : Type 0 where
  pub here : Formula
  pub slots : List Slot

-- a part that stays whole
abbrev pub whole : Formula → Laid
whole f = record { here = f; slots = [] }

abbrev pub under : Unary → Laid → Laid
under o x = record { here = one o x.here; slots = x.slots }

abbrev pub beside : Binary → Laid → Laid → Laid
beside o x y = record { here = two o x.here y.here; slots = x.slots ++ y.slots }

-- a part that becomes slot k on board b: its place holder stands for it, and the slot comes before those that it holds
abbrev pub cut : ℕ → ℕ → Laid → Laid
cut b k x = record { here = leaf (Hold k); slots = record { board = b; formula = x.here } ∷ x.slots }

-- an operand of a slot on board b is looked at, k being the next slot's number: where it stays, or its choice is b, its own operands
-- are looked at; else it is cut. `lay` is how its operands are looked at, for a board and a next number.
unfoldable pub looked : Option ℕ → ℕ → ℕ → (ℕ → ℕ → Laid) → Laid
looked none b k lay = lay b k
looked (some c) b k lay = pick (eqb c b) (lay b k) (cut c k (lay c (k + 1)))

-- the top of a slot stays, and the operands of not, and, or are looked at, left to right. Nothing below next is cut. A place holder
-- that is met lays its held slot at that point, which `hold` does.
unfoldable pub laid : (Formula → Option ℕ) → (ℕ → ℕ → Laid) → Formula → ℕ → ℕ → Laid
laid choose hold (leaf (Const v)) b k = whole (leaf (Const v))
laid choose hold (leaf (Prop i)) b k = whole (leaf (Prop i))
laid choose hold (leaf (Hold m)) b k = hold m k
laid choose hold (one Not f) b k = under Not (looked (choose f) b k (laid choose hold f))
laid choose hold (one Next f) b k = whole (one Next f)
laid choose hold (one (Ever j) f) b k = whole (one (Ever j) f)
laid choose hold (two (Joined j) f g) b k =
    let x = looked (choose f) b k (laid choose hold f) in
    beside (Joined j) x (looked (choose g) b (k + length x.slots) (laid choose hold g))
laid choose hold (two Until f g) b k = whole (two Until f g)

-- the board of the first slot: board 0 where all scores are 0
abbrev pub or_zero : Option ℕ → ℕ
or_zero none = 0
or_zero (some b) = b

-- no place holder stands in a rule
abbrev pub no_hold : ℕ → ℕ → Laid
no_hold m k = whole (leaf (Hold m))

-- slot 0 and those that it holds
abbrev pub rooted : ℕ → Laid → List Slot
rooted b x = record { board = b; formula = x.here } ∷ x.slots

-- a rule laid out: the unfolded rule is slot 0 on its chosen board
unfoldable pub load : (Formula → Option ℕ) → Formula → List Slot
load choose rule = let b = or_zero (choose (unfolded rule)) in rooted b (laid choose no_hold (unfolded rule) b 1)

-- ---- laying out again
-- slot m of a network; one that is not there is never met
abbrev pub slot_at : List Slot → ℕ → Slot
slot_at slots m = get_or slots m (record { board = 0; formula = constant false })

-- slot m, unfolded, is laid again on its board as slot k; a held slot's number is above its holder's, so that no more than
-- `most` are held one below the other
unfoldable pub relaid : (Formula → Option ℕ) → List Slot → ℕ → ℕ → ℕ → Laid
relaid choose slots zero m k = whole (leaf (Hold m))
relaid choose slots (suc most) m k =
    let s = slot_at slots m in
    cut s.board k (laid choose (relaid choose slots most) (unfolded s.formula) s.board (k + 1))

-- the network laid out again from the root: surviving slots keep their board, slots not reached vanish
unfoldable pub close : (Formula → Option ℕ) → List Slot → List Slot
close choose slots =
    let s = slot_at slots 0 in
    rooted s.board (laid choose (relaid choose slots (length slots)) (unfolded s.formula) s.board 1)
