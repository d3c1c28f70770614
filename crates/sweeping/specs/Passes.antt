-- Resolving formula bytes in place, from the last byte to the first: what is asked of each turn and given by it. Assumes nothing: these
-- are definitions.
use Rattle.std.specs.Prelude.{◌≡◌, true, false, List, [], ◌∷◌, ℕ, ◌+◌, ◌-◌, ◌<◌, ◌≤◌, length, get_or, take, drop}
use Rattle.limits.specs.Limits.{nodes_room}
use Rattle.kinds.specs.declared.Unary.TheVariants.{Next}
use Rattle.kinds.specs.Kinds.{kind_of, unary_code}
use Rattle.ltl.specs.Formula.{Formula, size, encode, Coded}
use Rattle.nodes.specs.Begins.{Front}
use Rattle.peeling.specs.Peeled.{peel, peeled}
use Rattle.outlining.specs.Outlined.{whole_kind, top_kind, Outlined}
use Rattle.stacking.specs.Stacks.{Spined, Stack, Spared}
use Rattle.resolving.specs.declared.Seen.{Seen}
use Rattle.sweeping.specs.declared.Spot.{Spot}
use Rattle.resolving.specs.Settles.{settled}

-- what each of some formulas becomes
abbrev pub all_settled : Seen → List Formula → List Formula
all_settled seen [] = []
all_settled seen (f ∷ fs) = settled seen f ∷ all_settled seen fs

-- ---- a node whose operands were resolved
-- g begins with the byte c, and does not stay whole; the results of its operands, and then of gs, are the lowest
pub record NodeAt (g : Formula) (gs : List Formula) (c : ℕ) (seen : Seen) (p notes : List ℕ) (w : ℕ) : Type 0 where
  pub byte : c ≡ get_or (encode g) 0 0
  pub coded : Coded g
  pub plain : whole_kind (kind_of c) ≡ false
  pub stack : Stack (all_settled seen (peel (g ∷ gs))) p notes w

pub record NodeAsk (c : ℕ) (seen : Seen) (p notes : List ℕ) (w : ℕ) : Type 0 where
  pub g : Formula
  pub gs : List Formula
  pub at : NodeAt g gs c seen p notes w
  pub some : 0 < w

pub record NodeSettles (c : ℕ) (seen : Seen) (p notes : List ℕ) (w : ℕ) (p' notes' : List ℕ) (v : ℕ) : Type 0 where
  pub untouched : Spared w p notes p' notes'
  pub means : (g : Formula) (gs : List Formula) → NodeAt g gs c seen p notes w → Stack (settled seen g ∷ all_settled seen gs) p' notes' v

-- ---- a part that stays whole
-- h, of n bytes, ends at i and stays whole; the results fs are the lowest
pub record WholeAt (h : Formula) (fs : List Formula) (p notes : List ℕ) (i n w : ℕ) : Type 0 where
  pub coded : Coded h
  pub stays : whole_kind (top_kind h) ≡ true
  pub long : n ≡ size h
  pub bytes : take n (drop (i - n) p) ≡ encode h
  pub stack : Stack fs p notes w

pub record KeepWholeAsk (p notes : List ℕ) (i n w : ℕ) : Type 0 where
  pub h : Formula
  pub fs : List Formula
  pub at : WholeAt h fs p notes i n w
  pub fits : n ≤ i
  pub past : i ≤ w

pub record KeepsWhole (p notes : List ℕ) (i n w : ℕ) (p' notes' : List ℕ) (v : ℕ) : Type 0 where
  pub front : (u : ℕ) → u ≤ i - n → take u p' ≡ take u p
  pub notes-front : (q : ℕ) → q < i - n → get_or notes' q 0 ≡ get_or notes q 0
  pub means : (seen : Seen) (h : Formula) (fs : List Formula) → WholeAt h fs p notes i n w → Stack (settled seen h ∷ fs) p' notes' v

-- the place where what is kept begins: behind the byte of a next
pub record KeptFrom (b a from : ℕ) : Type 0 where
  pub next : b ≡ unary_code Next → from ≡ a + 1
  pub other : (b ≡ unary_code Next → ⊥) → from ≡ a

-- of a formula of m bytes at v nothing is known but its length; what is noted elsewhere stays
pub record Forgets (p notes : List ℕ) (v m : ℕ) (notes' : List ℕ) : Type 0 where
  pub below : (q : ℕ) → q < v → get_or notes' q 0 ≡ get_or notes q 0
  pub behind : (q : ℕ) → v + m ≤ q → get_or notes' q 0 ≡ get_or notes q 0
  pub means : (f : Formula) (rest : List ℕ) → Front (drop v p) f rest → m ≡ size f → Spined notes' v f

-- ---- the loop. s and m are the bytes and the notes at its beginning, and f the formula
pub record SweptTo (f : Formula) (s m : List ℕ) (seen : Seen) (p notes : List ℕ) (i w : ℕ) : Type 0 where
  pub formula : Front s f []
  pub front : take i p ≡ take i s
  pub notes-front : (q : ℕ) → q < i → get_or notes q 0 ≡ get_or m q 0
  pub long : length p ≡ length s
  pub inside : i ≤ length s
  pub outlined : Outlined s m i
  pub stack : Stack (all_settled seen (peeled i (f ∷ []))) p notes w

pub record Turnable (seen : Seen) (p notes : List ℕ) (i w : ℕ) : Type 0 where
  pub f : Formula
  pub s : List ℕ
  pub m : List ℕ
  pub held : SweptTo f s m seen p notes i w
  pub some : 0 < i

pub record Turns (seen : Seen) (p notes : List ℕ) (i w : ℕ) (p' notes' : List ℕ) (t : Spot) : Type 0 where
  pub less : t.i < i
  pub means : (f : Formula) (s m : List ℕ) → SweptTo f s m seen p notes i w → SweptTo f s m seen p' notes' t.i t.w

-- ---- all of it: the bytes are one formula with its outline beside them, and the result stands at their end
pub record Outlining (p notes : List ℕ) : Type 0 where
  pub formula : Formula
  pub front : Front p formula []
  pub outlined : Outlined p notes (length p)
  pub room : length p ≤ length notes
  pub few : length p ≤ nodes_room

abbrev pub SettlesAll : Seen → List ℕ → List ℕ → ℕ → Type 0
SettlesAll seen p p' w = (f : Formula) → Front p f [] → (drop w p' ≡ encode (settled seen f)) × (w ≤ length p')
