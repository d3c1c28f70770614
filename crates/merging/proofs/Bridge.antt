-- Laying straight to trees is laying with numbers and then taking the trees: `load_tree_lem`, `close-tree`. The code lays to trees and
-- never makes the layout with numbers, which may be far larger than any buffer. Assumes nothing.
use mathlib.Core.Path.{◌≡◌, refl, sym, ap, ap₂, ◌∙◌, subst}
use mathlib.Core.Bool.{Bool, true, false}
use mathlib.Core.List.{List, [], ◌∷◌, ◌++◌}
use mathlib.Core.Option.{Option, none, some}
use Prim.Native.Nat.{ℕ, zero, suc, ◌+◌, ◌<◌, ◌≤◌}
use native.Mathlib.Omega.{arith}
use lib.ListN.{length, length-append}
use lib.Dec.{eqb}
use Rattle.lists.specs.Tests.{pick}
use Rattle.kinds.specs.declared.Leaf.TheVariants.{Const, Prop, Hold}
use Rattle.kinds.specs.declared.Unary.TheVariants.{Not, Next, Ever}
use Rattle.kinds.specs.declared.Join.{Join}
use Rattle.kinds.specs.declared.Binary.TheVariants.{Joined, Until}
use Rattle.ltl.specs.Formula.{Formula, leaf, one, two}
use Rattle.ltl.specs.Progression.{unfolded}
use Rattle.network.specs.Layout.{Slot, Laid, cut, looked, laid, slot_at, rooted, or_zero, no_hold, load, relaid, close}
use Rattle.network.proofs.Owned.{Free, Clean, unfolded-free}
use Rattle.network.proofs.Laying.{HoldsIn}
use Rattle.network.proofs.Holding.{holds-map, free-holds, unfolded-holds}
use Rattle.merging.specs.Merge.{Tree, stays, negation, pair, slot, grown, slot_on, tree_at, numbered, merged}
use Rattle.merging.specs.Lays.{looked_tree, laid_tree, relaid_tree, load_tree, close_tree}

module _ (choose : Formula → Option ℕ) (net : List Slot) where
  -- the slots stand in the network from k on
  abbrev StandsAt : ℕ → List Slot → Type 0
  StandsAt k [] = Unit {0}
  StandsAt k (s ∷ ss) = (k < length net) × (slot_at net k ≡ s) × StandsAt (k + 1) ss

  stands-left : (k : ℕ) (ss ts : List Slot) → StandsAt k (ss ++ ts) → StandsAt k ss
  stands-left k [] ts a = tt
  stands-left k (s ∷ ss) ts a = (a.0, a.1, stands-left (k + 1) ss ts a.2)

  stands-right : (k n : ℕ) (ss ts : List Slot) → n ≡ k + length ss → StandsAt k (ss ++ ts) → StandsAt n ts
  stands-right k n [] ts e a = let q : k ≡ n = omega arith in subst (λ (i : ℕ). StandsAt i ts) q a
  stands-right k n (s ∷ ss) ts e a = stands-right (k + 1) n ss ts (omega arith) a.2

  -- a part that was laid, its slots standing from k on, and the tree that it should be
  abbrev Becomes : ℕ → Laid → Tree → Type 0
  Becomes k x t = (most : ℕ) → StandsAt k x.slots → length net ≤ most + k → grown (tree_at net most) x.here ≡ t

  becomes-cut : (k b : ℕ) (x : Laid) (t : Tree) → Becomes (k + 1) x t → Becomes k (cut b k x) (slot_on b t)
  unfolding tree_at
  becomes-cut k b x t h zero a l = let i = a.0 in absurd (omega arith)
  becomes-cut k b x t h (suc most) a l =
      ap (λ (s : Slot). slot_on s.board (grown (tree_at net most) s.formula)) a.1 ∙ ap (slot_on b) (h most a.2 (omega arith))

  module _ (hold : ℕ → ℕ → Laid) (held : ℕ → Tree) (Q : ℕ → Type 0) (on-hold : (m k : ℕ) → Q m → Becomes k (hold m k) (held m)) where
    becomes-looked : (o : Option ℕ) (b k : ℕ) (lay : ℕ → ℕ → Laid) (tree : ℕ → Tree) → ((c n : ℕ) → Becomes n (lay c n) (tree c))
        → Becomes k (looked o b k lay) (looked_tree o b tree)
    unfolding looked looked_tree pick
    becomes-looked none b k lay tree h = h b k
    becomes-looked (some c) b k lay tree h = go (eqb c b)
      where
        go : (t : Bool) → Becomes k (pick t (lay b k) (cut c k (lay c (k + 1)))) (pick t (tree b) (slot_on c (tree c)))
        go true = h b k
        go false = becomes-cut k c (lay c (k + 1)) (tree c) (h c (k + 1))

    pub becomes-laid : (f : Formula) → HoldsIn Q f → (b k : ℕ) → Becomes k (laid choose hold f b k) (laid_tree choose held f b)
    unfolding laid laid_tree
    becomes-laid (leaf (Const v)) q b k most a l = refl
    becomes-laid (leaf (Prop i)) q b k most a l = refl
    becomes-laid (leaf (Hold m)) q b k most a l = on-hold m k q most a l
    becomes-laid (one Not f) q b k most a l =
        ap negation (becomes-looked (choose f) b k (laid choose hold f) (laid_tree choose held f) (λ c n. becomes-laid f q c n) most a l)
    becomes-laid (one Next f) q b k most a l = refl
    becomes-laid (one (Ever j) f) q b k most a l = refl
    becomes-laid (two (Joined j) f g) q b k most a l =
        let x = looked (choose f) b k (laid choose hold f) in
        let n = k + length x.slots in
        let y = looked (choose g) b n (laid choose hold g) in
        ap₂ (pair j)
        (becomes-looked (choose f) b k (laid choose hold f) (laid_tree choose held f) (λ c n. becomes-laid f q.0 c n) most (stands-left k x.slots y.slots a) l)
        (becomes-looked (choose g) b n (laid choose hold g) (laid_tree choose held g) (λ c n. becomes-laid g q.1 c n) most (stands-right k n x.slots y.slots refl a) (omega arith))
    becomes-laid (two Until f g) q b k most a l = refl

-- a network's own slots stand in it
own-stands : (choose : Formula → Option ℕ) (s : Slot) (ss : List Slot) → StandsAt choose (s ∷ ss) 1 ss
own-stands choose s ss = go (s ∷ []) ss refl
  where
    slot-behind : (ps : List Slot) (t : Slot) (ts : List Slot) → slot_at (ps ++ (t ∷ ts)) (length ps) ≡ t
    slot-behind [] t ts = refl
    slot-behind (p ∷ ps) t ts = slot-behind ps t ts

    regroup : (ps : List Slot) (t : Slot) (ts : List Slot) → (ps ++ (t ∷ [])) ++ ts ≡ ps ++ (t ∷ ts)
    regroup [] t ts = refl
    regroup (p ∷ ps) t ts = ap (p ∷◌) (regroup ps t ts)

    go : (ps ts : List Slot) → ps ++ ts ≡ s ∷ ss → StandsAt choose (s ∷ ss) (length ps) ts
    go ps [] e = tt
    go ps (t ∷ ts) e =
        let n = ap (λ (x : List Slot). length x) e in
        let m = length-append ps (t ∷ ts) in
        let o = length-append ps (t ∷ []) in
        let k : length (ps ++ (t ∷ [])) ≡ length ps + 1 = omega arith in (
          omega arith,
          ap (λ (x : List Slot). slot_at x (length ps)) (sym e) ∙ slot-behind ps t ts,
          subst (λ (i : ℕ). StandsAt choose (s ∷ ss) i ts) k (go (ps ++ (t ∷ [])) ts (regroup ps t ts ∙ e)),
        )

-- ---- loading
pub load_tree_lem : (choose : Formula → Option ℕ) (rule : Formula) → Free choose rule → merged (load choose rule) ≡ load_tree choose rule
unfolding load merged load_tree
load_tree_lem choose rule free =
    let b = or_zero (choose (unfolded rule)) in
    let x = laid choose no_hold (unfolded rule) b 1 in
    ap (numbered b)
    (becomes-laid choose (rooted b x) no_hold (λ m. stays (leaf (Hold m))) (λ m. ⊥) (λ m k q. absurd q) (unfolded rule)
    (free-holds choose (λ m. ⊥) (unfolded rule) (unfolded-free choose rule free)) b 1 (length (rooted b x)) (own-stands choose _ x.slots) (omega arith))

-- ---- closing
module _ (choose : Formula → Option ℕ) (slots : List Slot) (some-slots : 0 < length slots)
    (clean : (n : ℕ) → n < length slots → Clean choose (slot_at slots n).formula)
    (holds : (n : ℕ) → n < length slots → HoldsIn (λ m. (n < m) × (m < length slots)) (slot_at slots n).formula) where
  becomes-relaid : (net : List Slot) (a m k : ℕ) → m < length slots → length slots ≤ a + m → Becomes choose net k (relaid choose slots a m k) (relaid_tree choose slots a m)
  unfolding relaid relaid_tree
  becomes-relaid net zero m k l r = absurd (omega arith)
  becomes-relaid net (suc a) m k l r =
      let s = slot_at slots m in
      becomes-cut choose net k s.board (laid choose (relaid choose slots a) (unfolded s.formula) s.board (k + 1)) (laid_tree choose (relaid_tree choose slots a) (unfolded s.formula) s.board)
      (becomes-laid choose net (relaid choose slots a) (relaid_tree choose slots a) (λ n. (m < n) × (n < length slots))
      (λ n i q. (let o = q.0 in becomes-relaid net a n i q.1 (omega arith)))
      (unfolded s.formula) (unfolded-holds choose _ s.formula (clean m l) (holds m l)) s.board (k + 1))

  pub close-tree : merged (close choose slots) ≡ close_tree choose slots
  unfolding close merged close_tree
  close-tree =
      let s = slot_at slots 0 in
      let x = laid choose (relaid choose slots (length slots)) (unfolded s.formula) s.board 1 in
      ap (numbered s.board)
      (becomes-laid choose (rooted s.board x) (relaid choose slots (length slots)) (relaid_tree choose slots (length slots)) (λ n. (0 < n) × (n < length slots))
      (λ n i q. becomes-relaid (rooted s.board x) (length slots) n i q.1 (omega arith))
      (unfolded s.formula) (unfolded-holds choose _ s.formula (clean 0 some-slots) (holds 0 some-slots)) s.board 1 (length (rooted s.board x)) (own-stands choose _ x.slots) (omega arith))

-- ---- a held slot is laid once: its tree does not depend on where it is met
module _ (choose : Formula → Option ℕ) where
  looked-same : (o : Option ℕ) (b : ℕ) (x y : ℕ → Tree) → ((c : ℕ) → x c ≡ y c) → looked_tree o b x ≡ looked_tree o b y
  unfolding looked_tree
  looked-same none b x y h = h b
  looked-same (some c) b x y h = ap₂ (λ (t u : Tree). pick (eqb c b) t (slot_on c u)) (h b) (h c)

  pub laid_same : (p q : ℕ → Tree) (f : Formula) → HoldsIn (λ m. p m ≡ q m) f → (b : ℕ) → laid_tree choose p f b ≡ laid_tree choose q f b
  unfolding laid_tree
  laid_same p q (leaf (Const v)) h b = refl
  laid_same p q (leaf (Prop i)) h b = refl
  laid_same p q (leaf (Hold m)) h b = h
  laid_same p q (one Not f) h b = ap negation (looked-same (choose f) b (laid_tree choose p f) (laid_tree choose q f) (laid_same p q f h))
  laid_same p q (one Next f) h b = refl
  laid_same p q (one (Ever j) f) h b = refl
  laid_same p q (two (Joined j) f g) h b =
      ap₂ (pair j) (looked-same (choose f) b (laid_tree choose p f) (laid_tree choose q f) (laid_same p q f h.0))
      (looked-same (choose g) b (laid_tree choose p g) (laid_tree choose q g) (laid_same p q g h.1))
  laid_same p q (two Until f g) h b = refl

  pub relaid-enough : (slots : List Slot) → ((n : ℕ) → n < length slots → Clean choose (slot_at slots n).formula)
      → ((n : ℕ) → n < length slots → HoldsIn (λ m. (n < m) × (m < length slots)) (slot_at slots n).formula)
      → (a c m : ℕ) → m < length slots → length slots ≤ a + m → length slots ≤ c + m → relaid_tree choose slots a m ≡ relaid_tree choose slots c m
  unfolding relaid_tree
  relaid-enough slots clean holds zero c m l x y = absurd (omega arith)
  relaid-enough slots clean holds (suc a) zero m l x y = absurd (omega arith)
  relaid-enough slots clean holds (suc a) (suc c) m l x y =
      let s = slot_at slots m in
      ap (slot_on s.board)
      (laid_same (relaid_tree choose slots a) (relaid_tree choose slots c) (unfolded s.formula)
      (holds-map _ _ (λ n q. (let o = q.0 in relaid-enough slots clean holds a c n q.1 (omega arith) (omega arith))) (unfolded s.formula)
      (unfolded-holds choose (λ n. (m < n) × (n < length slots)) s.formula (clean m l) (holds m l)))
      s.board)
