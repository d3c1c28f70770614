-- How many slots there are: the ordered row has each slot that is met once (`ordered-once`), and two rows that have the same slots,
-- each once, are equally long (`once-length`). So a table of classes that has each slot once, in whatever order, counts the merged
-- slots exactly. Assumes nothing.
use mathlib.Core.Path.{◌≡◌, refl, sym, ap, ap₂, ◌∙◌, subst}
use mathlib.Core.Bool.{Bool, true, false}
use mathlib.Core.List.{List, [], ◌∷◌, ◌++◌}
use mathlib.Core.Logic.{◌⊎◌, inl, inr, ⊎_elim}
use Prim.Native.Nat.{ℕ, zero, suc, ◌+◌, ◌<◌, ◌≤◌}
use native.Mathlib.Omega.{arith}
use lib.ListN.{length}
use lib.Dec.{eqb}
use Rattle.lists.specs.Tests.{pick}
use Rattle.lists.proofs.Tests.{no_true}
use Rattle.merging.specs.Merge.{Tree, stays, negation, pair, slot, Met, met, is_slot, longest, is_in, firsts, level, levels, ordered}
use Rattle.merging.proofs.Same.{slot_is, slot_of}
use Rattle.merging.proofs.Among.{Among, here, there, In, split-among, is-in, none_in, firsts-only, level-part, level-only, levels-part}
use Rattle.merging.proofs.Visiting.{in_is, move}

-- each slot of the row stands in it once
abbrev pub Once : List Met → Type 0
Once [] = Unit {0}
Once (m ∷ ms) = (In m.board m.body ms → ⊥) × Once ms

-- ---- two rows
unfoldable removed : ℕ → Tree → List Met → List Met
removed b t [] = []
removed b t (m ∷ ms) = pick (is_slot b t m) ms (m ∷ removed b t ms)

removed-length : (n b : ℕ) (t : Tree) (ms : List Met) → Among n b t ms → suc (length (removed b t ms)) ≡ length ms
unfolding removed pick
removed-length n b t (m ∷ ms) a = go (is_slot b t m) refl a (λ x. removed-length n b t ms x)
  where
    go : (x : Bool) → is_slot b t m ≡ x → Among n b t (m ∷ ms) → (Among n b t ms → suc (length (removed b t ms)) ≡ length ms) → suc (length (pick x ms (m ∷ removed b t ms))) ≡ suc (length ms)
    go true e a ih = refl
    go false e (here p q r) ih = absurd (no_true (sym e ∙ slot_of b t m q r))
    go false e (there a) ih = ap suc (ih a)
removed-length n b t [] a = elim a [ ]

removed-has : (n b c : ℕ) (t u : Tree) (ms : List Met) → (b ≡ c → t ≡ u → ⊥) → Among n c u ms → Among n c u (removed b t ms)
unfolding removed pick
removed-has n b c t u (m ∷ ms) d a = go (is_slot b t m) refl a (λ x. removed-has n b c t u ms d x)
  where
    go : (x : Bool) → is_slot b t m ≡ x → Among n c u (m ∷ ms) → (Among n c u ms → Among n c u (removed b t ms)) → Among n c u (pick x ms (m ∷ removed b t ms))
    go true e (here p q r) ih = let s = slot_is b t m e in absurd (d (s.0 ∙ sym q) (s.1 ∙ sym r))
    go true e (there a) ih = a
    go false e (here p q r) ih = here p q r
    go false e (there a) ih = there (ih a)
removed-has n b c t u [] d a = elim a [ ]

pub once-few : (xs ys : List Met) → Once xs → ((n b : ℕ) (t : Tree) → Among n b t xs → In b t ys) → length xs ≤ length ys
once-few [] ys o h = omega arith
once-few (x ∷ xs) ys o h =
    let i = h x.chain x.board x.body (here refl refl refl) in
    let e = removed-length i.0 x.board x.body ys i.1 in
    let r = once-few xs (removed x.board x.body ys) o.1
    (λ n b t a. (let j = h n b t (there a) in (j.0, removed-has j.0 x.board b x.body t ys (λ p q. o.0 (move x.board b x.body t xs p q (n, a))) j.1))) in
    omega arith

pub once-length : (xs ys : List Met) → Once xs → Once ys → ((n b : ℕ) (t : Tree) → Among n b t xs → In b t ys) → ((n b : ℕ) (t : Tree) → Among n b t ys → In b t xs)
    → length xs ≡ length ys
once-length xs ys o p h g = let a = once-few xs ys o h in let b = once-few ys xs p g in omega arith

-- ---- the ordered row
firsts-new : (n b : ℕ) (t : Tree) (seen ms : List Met) → Among n b t (firsts seen ms) → is_in b t seen ≡ true → ⊥
unfolding firsts pick
firsts-new n b t seen (m ∷ ms) a e = go (is_in m.board m.body seen) refl a (λ s x y. firsts-new n b t s ms x y)
  where
    go : (x : Bool) → is_in m.board m.body seen ≡ x → Among n b t (pick x (firsts seen ms) (m ∷ firsts (m ∷ seen) ms)) → ((s : List Met) → Among n b t (firsts s ms) → is_in b t s ≡ true → ⊥) → ⊥
    go true q a ih = ih seen a e
    go false q (here p r s) ih = no_true (sym q ∙ ap₂ (λ (c : ℕ) (u : Tree). is_in c u seen) (sym r) (sym s) ∙ e)
    go false q (there a) ih = let i = is-in b t seen e in ih (m ∷ seen) a (in_is b t i.0 (m ∷ seen) (there i.1))
firsts-new n b t seen [] a e = elim a [ ]

-- each slot once, where it is first met
pub firsts-once : (seen ms : List Met) → Once (firsts seen ms)
unfolding firsts pick
firsts-once seen [] = tt
firsts-once seen (m ∷ ms) = go (is_in m.board m.body seen) (firsts-once seen ms) (firsts-once (m ∷ seen) ms)
  where
    go : (x : Bool) → Once (firsts seen ms) → Once (firsts (m ∷ seen) ms) → Once (pick x (firsts seen ms) (m ∷ firsts (m ∷ seen) ms))
    go true p q = p
    go false p q = (λ i. firsts-new i.0 m.board m.body (m ∷ seen) ms i.1 (in_is m.board m.body m.chain (m ∷ seen) (here refl refl refl)), q)

level-once : (all : List Met) (k : ℕ) (ms : List Met) → Once ms → Once (level all k ms)
unfolding level pick
level-once all k [] o = tt
level-once all k (m ∷ ms) o = go (eqb (longest m.board m.body all) k) (level-once all k ms o.1)
  where
    go : (x : Bool) → Once (level all k ms) → Once (pick x (m ∷ level all k ms) (level all k ms))
    go true p = (λ i. o.0 (i.0, level-part all i.0 m.board m.body k ms i.1), p)
    go false p = p

once-both : (xs ys : List Met) → Once xs → Once ys → ((n i b : ℕ) (t : Tree) → Among n b t xs → Among i b t ys → ⊥) → Once (xs ++ ys)
once-both [] ys o p d = p
once-both (x ∷ xs) ys o p d = (
  λ i. ⊎_elim (λ a. o.0 (i.0, a)) (λ a. d x.chain i.0 x.board x.body (here refl refl refl) a) (split-among i.0 x.board x.body xs ys i.1),
  once-both xs ys o.1 p (λ n i b t a c. d n i b t (there a) c),
)

levels-once : (all ms : List Met) (k more : ℕ) → Once ms → Once (levels all ms k more)
unfolding levels
levels-once all ms k zero o = tt
levels-once all ms k (suc more) o =
    once-both (level all k ms) (levels all ms (k + 1) more) (level-once all k ms o) (levels-once all ms (k + 1) more o)
    (λ n i b t a c. (let e = level-only all b t n k ms a in let l = (levels-part all i b t (k + 1) more ms c).1 in omega arith))

pub ordered-once : (t : Tree) → Once (ordered t)
unfolding ordered
ordered-once t = levels-once (met 1 t) (firsts [] (met 1 t)) 1 (length (met 1 t)) (firsts-once [] (met 1 t))

-- ---- the same with a weight for each slot: nodes are counted exactly
abbrev pub total : (ℕ → Tree → ℕ) → List Met → ℕ
total w [] = 0
total w (m ∷ ms) = w m.board m.body + total w ms

module _ (w : ℕ → Tree → ℕ) where
  removed-total : (n b : ℕ) (t : Tree) (ms : List Met) → Among n b t ms → w b t + total w (removed b t ms) ≡ total w ms
  unfolding removed pick
  removed-total n b t (m ∷ ms) a = go (is_slot b t m) refl a (λ x. removed-total n b t ms x)
    where
      go : (x : Bool) → is_slot b t m ≡ x → Among n b t (m ∷ ms) → (Among n b t ms → w b t + total w (removed b t ms) ≡ total w ms)
          → w b t + total w (pick x ms (m ∷ removed b t ms)) ≡ w m.board m.body + total w ms
      go true e a ih = let s = slot_is b t m e in ap (λ (x : ℕ). x + total w ms) (ap₂ w s.0 s.1)
      go false e (here p q r) ih = absurd (no_true (sym e ∙ slot_of b t m q r))
      go false e (there a) ih = let i = ih a in omega arith
  removed-total n b t [] a = elim a [ ]

  total-few : (xs ys : List Met) → Once xs → ((n b : ℕ) (t : Tree) → Among n b t xs → In b t ys) → total w xs ≤ total w ys
  total-few [] ys o h = omega arith
  total-few (x ∷ xs) ys o h =
      let i = h x.chain x.board x.body (here refl refl refl) in
      let e = removed-total i.0 x.board x.body ys i.1 in
      let r = total-few xs (removed x.board x.body ys) o.1
      (λ n b t a. (let j = h n b t (there a) in (j.0, removed-has j.0 x.board b x.body t ys (λ p q. o.0 (move x.board b x.body t xs p q (n, a))) j.1))) in
      omega arith

  pub once-total : (xs ys : List Met) → Once xs → Once ys → ((n b : ℕ) (t : Tree) → Among n b t xs → In b t ys) → ((n b : ℕ) (t : Tree) → Among n b t ys → In b t xs)
      → total w xs ≡ total w ys
  once-total xs ys o p h g = let a = total-few xs ys o h in let b = total-few ys xs p g in omega arith
