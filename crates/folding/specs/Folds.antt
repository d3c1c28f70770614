-- Folding formula bytes in one loop from the last byte to the first: what is asked of each turn and given by it. Assumes nothing: these
-- are definitions.
use Rattle.std.specs.Prelude.{◌≡◌, List, [], ◌∷◌, ℕ, ◌<◌, ◌≤◌, length, get_or, drop}
use Rattle.limits.specs.Limits.{nodes_room}
use Rattle.ltl.specs.Formula.{Formula, encode, Coded}
use Rattle.nodes.specs.Begins.{Front}
use Rattle.peeling.specs.Peeled.{encodes, peel, peeled}
use Rattle.folded.specs.Folding.{folded}
use Rattle.folding.specs.Results.{Results}

-- what each of some formulas becomes
abbrev pub all_folded : List Formula → List Formula
all_folded [] = []
all_folded (f ∷ fs) = folded f ∷ all_folded fs

-- ---- a node whose operands were folded
-- g begins with the byte c; the results of its operands, and then of gs, are the lowest
pub record FoldNodeAt (g : Formula) (gs : List Formula) (c : ℕ) (p notes : List ℕ) (w t : ℕ) : Type 0 where
  pub byte : c ≡ get_or (encode g) 0 0
  pub coded : Coded g
  pub results : Results (all_folded (peel (g ∷ gs))) p notes w t

pub record FoldNodeAsk (c : ℕ) (p notes : List ℕ) (w t : ℕ) : Type 0 where
  pub g : Formula
  pub gs : List Formula
  pub at : FoldNodeAt g gs c p notes w t
  pub fits : length (encodes (all_folded (peel (g ∷ gs)))) < length p
  pub beside : length (encodes (all_folded (peel (g ∷ gs)))) < length notes

abbrev pub FoldsNode : ℕ → List ℕ → List ℕ → ℕ → ℕ → List ℕ → List ℕ → ℕ → ℕ → Type 0
FoldsNode c p notes w t p' notes' v u =
    (g : Formula) (gs : List Formula) → FoldNodeAt g gs c p notes w t → Results (folded g ∷ all_folded gs) p' notes' v u

-- ---- the loop over the bytes s of the formula f
pub record FoldedTo (f : Formula) (s p notes : List ℕ) (i w t : ℕ) : Type 0 where
  pub formula : Front s f []
  pub inside : i ≤ length s
  pub fits : length s ≤ length p
  pub beside : length s ≤ length notes
  pub results : Results (all_folded (peeled i (f ∷ []))) p notes w t

-- ---- all of it: a formula of no more than the most bytes, and room for it in p
pub record FoldAsk (most : ℕ) (s p : List ℕ) : Type 0 where
  pub formula : Formula
  pub front : Front s formula []
  pub few : length s ≤ most
  pub fits : length s ≤ length p
  pub room : length p ≤ nodes_room

pub record FoldNotedAsk (s p notes : List ℕ) : Type 0 where
  pub of : FoldAsk nodes_room s p
  pub beside : length s ≤ length notes

-- the folded formula stands at the end of p, from w on
pub record Folds (s p' : List ℕ) (w : ℕ) : Type 0 where
  pub means : (f : Formula) → Front s f [] → (w ≤ length p') × Front (drop w p') (folded f) []
