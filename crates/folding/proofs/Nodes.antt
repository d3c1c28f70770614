-- A node whose operands were folded: what its kind says of the results that are asked for, and one law for each way out of `fold_node`.
-- Assumes nothing.
use mathlib.Core.Path.{◌≡◌, sym, ap, ◌∙◌, subst}
use mathlib.Core.List.{List, [], ◌∷◌, append-nil}
use Prim.Native.Nat.{ℕ, ◌+◌, ◌-◌, ◌<◌, ◌≤◌}
use native.Mathlib.Omega.{arith}
use lib.ListN.{length, get_or}
use Rattle.lists.proofs.Drops.{drop-long}
use Rattle.kinds.specs.declared.Leaf.{Leaf}
use Rattle.kinds.specs.declared.Unary.{Unary}
use Rattle.kinds.specs.declared.Binary.{Binary}
use Rattle.kinds.specs.declared.Kind.{Kind}
use Rattle.kinds.specs.declared.Kind.TheVariants.{Zero, One, Two, NoCode}
use Rattle.kinds.specs.Kinds.{kind_of, binary_code}
use Rattle.ltl.specs.Formula.{Formula, encode}
use Rattle.nodes.proofs.Fronts.{Parts, parts-as, zero_is, single, double, no_code}
use Rattle.peeling.specs.Peeled.{encodes, peel}
use Rattle.folded.specs.Folding.{folded}
use Rattle.folding.specs.Results.{held_all, notes_of, Results, FoldsLeaf, OneAsk, FoldsOne, TwoAsk, FoldsTwo}
use Rattle.folding.specs.Folds.{all_folded, FoldNodeAt, FoldNodeAsk, FoldsNode}
use Rattle.folding.proofs.Notes.{held-short, notes-short}

-- what is asked leaves room for a byte and a note
pub record NodeRoomed (p notes : List ℕ) (w t : ℕ) : Type 0 where
  pub low : 0 < w
  pub inside : w ≤ length p
  pub note-low : 0 < t
  pub beside : t ≤ length notes

pub node-roomed : {c : ℕ} {p notes : List ℕ} {w t : ℕ} → FoldNodeAsk c p notes w t → NodeRoomed p notes w t
node-roomed {c} {p} {notes} {w} {t} a =
    let s = a.at.results in
    let fs = all_folded (peel (a.g ∷ a.gs)) in
    let d = drop-long p (held_all fs) w s.inside s.bytes in
    let e = drop-long notes (notes_of fs) t s.room s.noted in
    let x = held-short fs in
    let y = notes-short fs in
    let f = a.fits in
    let g = a.beside in
    record { low = omega arith; inside = s.inside; note-low = omega arith; beside = s.room }

-- what a formula that is the node becomes
become : (p notes : List ℕ) (v u : ℕ) (g h : Formula) (gs : List Formula) → g ≡ h → Results (folded h ∷ all_folded gs) p notes v u → Results (folded g ∷ all_folded gs) p notes v u
become p notes v u g h gs q = subst (λ (y : Formula). Results (folded y ∷ all_folded gs) p notes v u) (sym q)

-- ---- by the kind that the code found
module _ {c : ℕ} {p notes : List ℕ} {w t : ℕ} {k : Kind} (e : k ≡ kind_of c) where
  module _ {g : Formula} {gs : List Formula} (x : FoldNodeAt g gs c p notes w t) where
    at-kind : {n : Kind} → k ≡ n → Parts (encode g) [] g n
    at-kind h = parts-as (encode g) g [] (record { coded = x.coded; bytes = sym (append-nil (encode g)) }) (e ∙ ap kind_of x.byte) h

    results-as : {h : Formula} → g ≡ h → Results (all_folded (peel (h ∷ gs))) p notes w t
    results-as q = subst (λ (y : Formula). Results (all_folded (peel (y ∷ gs))) p notes w t) q x.results

    byte-as : {h : Formula} → g ≡ h → c ≡ get_or (encode h) 0 0
    byte-as q = x.byte ∙ ap (λ (y : Formula). get_or (encode y) 0 0) q

  module _ {p' notes' : List ℕ} {v : ℕ} where
    pub node-leaf : {a : Leaf} → k ≡ Zero a → FoldsLeaf c p notes w t p' notes' v → FoldsNode c p notes w t p' notes' v (t - 1)
    node-leaf {a} h m g gs x = let z = zero_is (at-kind x h) in become p' notes' v (t - 1) g _ gs z (m a (all_folded gs) (byte-as x z) (results-as x z))

    pub node-one : {o : Unary} → k ≡ One o → FoldsOne o c p notes w t p' notes' v → FoldsNode c p notes w t p' notes' v t
    node-one {o} h m g gs x = let y = single (at-kind x h) in become p' notes' v t g _ gs y.same (m _ (all_folded gs) (byte-as x y.same) (results-as x y.same))

    pub node-two : {o : Binary} → k ≡ Two o → {b : ℕ} → FoldsTwo o b p notes w t p' notes' v → (c ≡ binary_code o → b ≡ binary_code o) → FoldsNode c p notes w t p' notes' v (t + 1)
    node-two {o} h {b} m d g gs x = let y = double (at-kind x h) in become p' notes' v (t + 1) g _ gs y.same (m _ _ (all_folded gs) (d (byte-as x y.same)) (results-as x y.same))

  -- ---- what the functions of `results` ask
  pub node-one-ask : {o : Unary} → k ≡ One o → FoldNodeAsk c p notes w t → OneAsk p notes w t
  node-one-ask h a = record { f = _; others = _; results = results-as a.at (single (at-kind a.at h)).same; some = (node-roomed a).low }

  pub node-two-ask : {o : Binary} → k ≡ Two o → FoldNodeAsk c p notes w t → TwoAsk p notes w t
  node-two-ask h a =
      let y = double (at-kind a.at h) in
      record {
        f = _;
        g = _;
        others = _;
        results = results-as a.at y.same;
        fits = subst (λ (z : Formula). length (encodes (all_folded (peel (z ∷ a.gs)))) < length p) y.same a.fits;
      }

  -- a byte that is no code
  pub node-none : k ≡ NoCode → FoldsNode c p notes w t p notes w t
  node-none h g gs x = absurd (no_code (at-kind x h))
