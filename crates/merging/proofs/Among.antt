-- Slots in rows: where one stands (`place_in`), and that each slot that is met stands in the ordered row (`among-ordered`), one
-- with a longer chain behind one with a shorter (`ordered-rises`). Assumes nothing.
use mathlib.Core.Path.{◌≡◌, refl, sym, ap, ap₂, ◌∙◌, subst}
use mathlib.Core.Bool.{Bool, true, false}
use mathlib.Core.List.{List, [], ◌∷◌, ◌++◌}
use mathlib.Core.Logic.{◌⊎◌, inl, inr, ⊎_elim}
use Prim.Native.Nat.{ℕ, zero, suc, ◌+◌, ◌<◌, ◌≤◌, max}
use native.Mathlib.Omega.{arith}
use native.Mathlib.Decide.{ℕ_discrete, dec_lt}
use lib.ListN.{length, get_or, length-append}
use lib.Dec.{eqb}
use borrow.Author.Tests.{eqb-true, eqb-false, eq-eqb, ne_eqb}
use Rattle.lists.specs.Tests.{pick}
use Rattle.lists.proofs.Tests.{no_true}
use Rattle.kinds.specs.declared.Join.{Join}
use Rattle.merging.specs.Merge.{Tree, stays, negation, pair, slot, Met, met, is_slot, longest, is_in, firsts, level, levels, ordered, place}
use Rattle.merging.proofs.Same.{slot_is, slot_of}

-- the slot on board b with body t is met with n holders
pub data Among (n b : ℕ) (t : Tree) : List Met → Type 0 where
  here : {m : Met} {ms : List Met} → n ≡ m.chain → b ≡ m.board → t ≡ m.body → Among n b t (m ∷ ms)
  there : {m : Met} {ms : List Met} → Among n b t ms → Among n b t (m ∷ ms)

abbrev pub In : ℕ → Tree → List Met → Type 0
In b t ms = (n : ℕ) × Among n b t ms

pub among-left : {n b : ℕ} {t : Tree} {ms : List Met} (ns : List Met) → Among n b t ms → Among n b t (ms ++ ns)
among-left ns (here p q r) = here p q r
among-left ns (there a) = there (among-left ns a)

pub among-right : {n b : ℕ} {t : Tree} (ms : List Met) {ns : List Met} → Among n b t ns → Among n b t (ms ++ ns)
among-right [] a = a
among-right (m ∷ ms) a = there (among-right ms a)

-- ---- the place of a slot
pub place_in : (d : Met) (b : ℕ) (t : Tree) (n : ℕ) (ms : List Met) → Among n b t ms
    → (place b t ms < length ms) × (b ≡ (get_or ms (place b t ms) d).board) × (t ≡ (get_or ms (place b t ms) d).body)
unfolding place pick
place_in d b t n (m ∷ ms) a = go (is_slot b t m) refl a (λ x. place_in d b t n ms x)
  where
    go : (x : Bool) → is_slot b t m ≡ x → Among n b t (m ∷ ms)
        → (Among n b t ms → (place b t ms < length ms) × (b ≡ (get_or ms (place b t ms) d).board) × (t ≡ (get_or ms (place b t ms) d).body))
        → (pick x 0 (suc (place b t ms)) < length (m ∷ ms)) × (b ≡ (get_or (m ∷ ms) (pick x 0 (suc (place b t ms))) d).board) × (t ≡ (get_or (m ∷ ms) (pick x 0 (suc (place b t ms))) d).body)
    go true e a ih = let s = slot_is b t m e in (omega arith, s.0, s.1)
    go false e (here p q r) ih = absurd (no_true (sym e ∙ slot_of b t m q r))
    go false e (there a) ih = let i = ih a in let l = i.0 in (omega arith, i.1, i.2)
place_in d b t n [] a = elim a [ ]

-- in the first of two rows
pub place-left : (b : ℕ) (t : Tree) (n : ℕ) (ms ns : List Met) → Among n b t ms → place b t (ms ++ ns) < length ms
unfolding place pick
place-left b t n (m ∷ ms) ns a = go (is_slot b t m) refl a (λ x. place-left b t n ms ns x)
  where
    go : (x : Bool) → is_slot b t m ≡ x → Among n b t (m ∷ ms) → (Among n b t ms → place b t (ms ++ ns) < length ms) → pick x 0 (suc (place b t (ms ++ ns))) < length (m ∷ ms)
    go true e a ih = omega arith
    go false e (here p q r) ih = absurd (no_true (sym e ∙ slot_of b t m q r))
    go false e (there a) ih = let i = ih a in omega arith
place-left b t n [] ns a = elim a [ ]

-- not in the first of two rows
pub place-right : (b : ℕ) (t : Tree) (ms ns : List Met) → (In b t ms → ⊥) → place b t (ms ++ ns) ≡ length ms + place b t ns
unfolding place pick
place-right b t [] ns h = omega arith
place-right b t (m ∷ ms) ns h = go (is_slot b t m) refl (place-right b t ms ns (λ a. h (a.0, there a.1)))
  where
    go : (x : Bool) → is_slot b t m ≡ x → place b t (ms ++ ns) ≡ length ms + place b t ns → pick x 0 (suc (place b t (ms ++ ns))) ≡ suc (length ms) + place b t ns
    go true e ih = let s = slot_is b t m e in absurd (h (m.chain, here refl s.0 s.1))
    go false e ih = omega arith

-- ---- the longest chain
pub longest-upper : (n b : ℕ) (t : Tree) (ms : List Met) → Among n b t ms → n ≤ longest b t ms
unfolding longest pick
longest-upper n b t (m ∷ ms) (here p q r) = rw (slot_of b t m q r) (omega arith)
longest-upper n b t (m ∷ ms) (there a) = let i = longest-upper n b t ms a in omega arith
longest-upper n b t [] x' = elim x' [ ]

max-elim : (P : ℕ → Type 0) (x y : ℕ) → P x → P y → P (max x y)
max-elim P x y p q = go (dec_lt x y)
  where
    go : Dec (x < y) → P (max x y)
    go (yes l) = let e : y ≡ max x y = omega arith in subst P e q
    go (no l) = let e : x ≡ max x y = omega arith in subst P e p

-- it is 0, or the slot is met by a chain of that length
some-longest : (b : ℕ) (t : Tree) (ms : List Met) → (longest b t ms ≡ 0) ⊎ Among (longest b t ms) b t ms
unfolding longest pick
some-longest b t [] = inl refl
some-longest b t (m ∷ ms) =
    max-elim (λ k. (k ≡ 0) ⊎ Among k b t (m ∷ ms)) (pick (is_slot b t m) m.chain 0) (longest b t ms) (first (is_slot b t m) refl) (⊎_elim (λ z. inl z) (λ a. inr (there a)) (some-longest b t ms))
  where
    first : (x : Bool) → is_slot b t m ≡ x → (pick x m.chain 0 ≡ 0) ⊎ Among (pick x m.chain 0) b t (m ∷ ms)
    first true e = let s = slot_is b t m e in inr (here refl s.0 s.1)
    first false e = inl refl

pub longest-met : (n b : ℕ) (t : Tree) (ms : List Met) → Among n b t ms → Among (longest b t ms) b t ms
longest-met n b t ms a =
    ⊎_elim (λ z. (let l = longest-upper n b t ms a in let e : n ≡ longest b t ms = omega arith in subst (λ (k : ℕ). Among k b t ms) e a)) (λ x. x) (some-longest b t ms)

-- ---- each slot that is met stands in the row
in-here : (b : ℕ) (t : Tree) (m : Met) (ms : List Met) → b ≡ m.board → t ≡ m.body → In b t (m ∷ ms)
in-here b t m ms p q = (m.chain, here refl p q)

in-there : (b : ℕ) (t : Tree) (m : Met) (ms : List Met) → In b t ms → In b t (m ∷ ms)
in-there b t m ms a = (a.0, there a.1)

pub is-in : (b : ℕ) (t : Tree) (ms : List Met) → is_in b t ms ≡ true → In b t ms
unfolding is_in pick
is-in b t [] e = absurd (no_true e)
is-in b t (m ∷ ms) e = go (is_slot b t m) refl e (λ x. is-in b t ms x)
  where
    go : (x : Bool) → is_slot b t m ≡ x → pick x true (is_in b t ms) ≡ true → (is_in b t ms ≡ true → In b t ms) → In b t (m ∷ ms)
    go true q e ih = let s = slot_is b t m q in in-here b t m ms s.0 s.1
    go false q e ih = in-there b t m ms (ih e)

-- what is met is met for a first time, or was seen
pub in-firsts : (b : ℕ) (t : Tree) (n : ℕ) (seen ms : List Met) → Among n b t ms → In b t (firsts seen ms) ⊎ In b t seen
unfolding firsts pick
in-firsts b t n seen (m ∷ ms) a = go (is_in m.board m.body seen) refl a (λ s x. in-firsts b t n s ms x)
  where
    go : (x : Bool) → is_in m.board m.body seen ≡ x → Among n b t (m ∷ ms) → ((s : List Met) → Among n b t ms → In b t (firsts s ms) ⊎ In b t s)
        → In b t (pick x (firsts seen ms) (m ∷ firsts (m ∷ seen) ms)) ⊎ In b t seen
    go true e (here p q r) ih =
        let i = is-in m.board m.body seen e in
        inr (i.0, subst (λ (c : ℕ). Among i.0 c t seen) (sym q) (subst (λ (u : Tree). Among i.0 m.board u seen) (sym r) i.1))
    go true e (there a) ih = ih seen a
    go false e (here p q r) ih = inl (in-here b t m (firsts (m ∷ seen) ms) q r)
    go false e (there a) ih =
        ⊎_elim (λ i. inl (in-there b t m (firsts (m ∷ seen) ms) i)) (λ i. was i) (ih (m ∷ seen) a)
      where
        was : In b t (m ∷ seen) → In b t (m ∷ firsts (m ∷ seen) ms) ⊎ In b t seen
        was (k, here p q r) = inl (in-here b t m (firsts (m ∷ seen) ms) q r)
        was (k, there a) = inr (k, a)
in-firsts b t n seen [] a = elim a [ ]

pub none_in : (b : ℕ) (t : Tree) → In b t [] → ⊥
none_in b t a = let i = place_in (record { chain = 0; board = b; body = t }) b t a.0 [] a.1 in let l = i.0 in omega arith

module _ (all : List Met) where
  in-level : (b : ℕ) (t : Tree) (n k : ℕ) (ms : List Met) → longest b t all ≡ k → Among n b t ms → Among n b t (level all k ms)
  unfolding level pick
  in-level b t n k (m ∷ ms) e a = go (eqb (longest m.board m.body all) k) refl a (λ x. in-level b t n k ms e x)
    where
      go : (x : Bool) → eqb (longest m.board m.body all) k ≡ x → Among n b t (m ∷ ms) → (Among n b t ms → Among n b t (level all k ms))
          → Among n b t (pick x (m ∷ level all k ms) (level all k ms))
      go true q (here p r s) ih = here p r s
      go true q (there a) ih = there (ih a)
      go false q (here p r s) ih = absurd (no_true (sym q ∙ eq-eqb (longest m.board m.body all) k (ap₂ (λ (c : ℕ) (u : Tree). longest c u all) (sym r) (sym s) ∙ e)))
      go false q (there a) ih = ih a
  in-level b t n k [] e a = elim a [ ]

  -- and no other
  pub level-only : (b : ℕ) (t : Tree) (n k : ℕ) (ms : List Met) → Among n b t (level all k ms) → longest b t all ≡ k
  unfolding level pick
  level-only b t n k (m ∷ ms) a = go (eqb (longest m.board m.body all) k) refl a (λ x. level-only b t n k ms x)
    where
      go : (x : Bool) → eqb (longest m.board m.body all) k ≡ x → Among n b t (pick x (m ∷ level all k ms) (level all k ms)) → (Among n b t (level all k ms) → longest b t all ≡ k)
          → longest b t all ≡ k
      go true q (here p r s) ih = ap₂ (λ (c : ℕ) (u : Tree). longest c u all) r s ∙ eqb-true (longest m.board m.body all) k q
      go true q (there a) ih = ih a
      go false q a ih = ih a
  level-only b t n k [] a = elim a [ ]

  in-levels : (b : ℕ) (t : Tree) (n k more : ℕ) (ms : List Met) → k ≤ longest b t all → longest b t all < k + more → Among n b t ms → Among n b t (levels all ms k more)
  unfolding levels
  in-levels b t n k zero ms l h a = absurd (omega arith)
  in-levels b t n k (suc more) ms l h a = go (ℕ_discrete (longest b t all) k) (λ l. in-levels b t n (k + 1) more ms l (omega arith) a)
    where
      go : Dec (longest b t all ≡ k) → (k + 1 ≤ longest b t all → Among n b t (levels all ms (k + 1) more)) → Among n b t (level all k ms ++ levels all ms (k + 1) more)
      go (yes e) ih = among-left (levels all ms (k + 1) more) (in-level b t n k ms e a)
      go (no e) ih = among-right (level all k ms) (ih (omega arith))

  -- one with a longer chain stands behind one with a shorter
  levels-rise : (b c : ℕ) (t u : Tree) (n k more : ℕ) (ms : List Met) → longest b t all < longest c u all → k ≤ longest b t all → longest c u all < k + more
      → Among n b t ms → place b t (levels all ms k more) < place c u (levels all ms k more)
  unfolding levels
  levels-rise b c t u n k zero ms r l h a = absurd (omega arith)
  levels-rise b c t u n k (suc more) ms r l h a = go (ℕ_discrete (longest b t all) k) (λ l. levels-rise b c t u n (k + 1) more ms r l (omega arith) a)
    where
      behind : place c u (level all k ms ++ levels all ms (k + 1) more) ≡ length (level all k ms) + place c u (levels all ms (k + 1) more)
      behind = place-right c u (level all k ms) (levels all ms (k + 1) more) (λ i. (let e = level-only c u i.0 k ms i.1 in omega arith))

      go : Dec (longest b t all ≡ k) → (k + 1 ≤ longest b t all → place b t (levels all ms (k + 1) more) < place c u (levels all ms (k + 1) more))
          → place b t (level all k ms ++ levels all ms (k + 1) more) < place c u (level all k ms ++ levels all ms (k + 1) more)
      go (yes e) ih = let p = place-left b t n (level all k ms) (levels all ms (k + 1) more) (in-level b t n k ms e a) in let q = behind in omega arith
      go (no e) ih =
          let p = place-right b t (level all k ms) (levels all ms (k + 1) more) (λ i. e (level-only b t i.0 k ms i.1)) in
          let q = behind in
          let i = ih (omega arith) in
          omega arith

-- ---- the slots in a tree
-- a slot on board c with body u stands in the tree, not below another
pub data Holds (c : ℕ) (u : Tree) : Tree → Type 0 where
  itself : {b : ℕ} {t : Tree} → c ≡ b → u ≡ t → Holds c u (slot b t)
  under-not : {t : Tree} → Holds c u t → Holds c u (negation t)
  on-left : {j : Join} {t t' : Tree} → Holds c u t → Holds c u (pair j t t')
  on-right : {j : Join} {t t' : Tree} → Holds c u t' → Holds c u (pair j t t')

-- what a tree holds is met, with the holders above it
pub holds-met : (n c : ℕ) (u t : Tree) → Holds c u t → Among n c u (met n t)
holds-met n c u (slot b t) (itself p q) = here refl p q
holds-met n c u (negation t) (under-not h) = holds-met n c u t h
holds-met n c u (pair j t t') (on-left h) = among-left (met n t') (holds-met n c u t h)
holds-met n c u (pair j t t') (on-right h) = among-right (met n t) (holds-met n c u t' h)
holds-met n c u (stays _) x'' = elim x'' [ ]

pub split-among : (n b : ℕ) (t : Tree) (ms ns : List Met) → Among n b t (ms ++ ns) → Among n b t ms ⊎ Among n b t ns
split-among n b t [] ns a = inr a
split-among n b t (m ∷ ms) ns (here p q r) = inl (here p q r)
split-among n b t (m ∷ ms) ns (there a) = ⊎_elim (λ x. inl (there x)) inr (split-among n b t ms ns a)

-- and what a slot holds that is met is met too, one holder further
pub met-closed : (k n b c : ℕ) (t u r : Tree) → Among n b t (met k r) → Holds c u t → Among (n + 1) c u (met k r)
met-closed k n b c t u (negation r) a h = met-closed k n b c t u r a h
met-closed k n b c t u (pair j r r') a h =
    ⊎_elim (λ x. among-left (met k r') (met-closed k n b c t u r x h)) (λ x. among-right (met k r) (met-closed k n b c t u r' x h)) (split-among n b t (met k r) (met k r') a)
met-closed k n b c t u (slot d r) (here p q s) h =
    there (subst (λ (i : ℕ). Among i c u (met (k + 1) r)) (ap (λ (i : ℕ). i + 1) (sym p)) (subst (λ (x : Tree). Holds c u x → Among (k + 1) c u (met (k + 1) r)) (sym s) (λ h. holds-met (k + 1) c u r h) h))
met-closed k n b c t u (slot d r) (there a) h = there (met-closed (k + 1) n b c t u r a h)
met-closed k n b c t u (stays _) a h = elim a [ ]

-- chains are not shorter than where they begin, and shorter than the row
pub met-range : (k n b : ℕ) (t r : Tree) → Among n b t (met k r) → (k ≤ n) × (n < k + length (met k r))
met-range k n b t (negation r) a = met-range k n b t r a
met-range k n b t (pair j r r') a =
    let l = length-append (met k r) (met k r') in
    ⊎_elim (λ x. (let i = met-range k n b t r x in let h = i.1 in (i.0, omega arith))) (λ x. (let i = met-range k n b t r' x in let h = i.1 in (i.0, omega arith))) (split-among n b t (met k r) (met k r') a)
met-range k n b t (slot d r) (here p q s) = (omega arith, omega arith)
met-range k n b t (slot d r) (there a) = let i = met-range (k + 1) n b t r a in let l = i.0 in let h = i.1 in (omega arith, omega arith)
met-range k n b t (stays _) a = elim a [ ]

-- ---- the ordered row
pub in-ordered : (n b : ℕ) (t r : Tree) → Among n b t (met 1 r) → In b t (ordered r)
unfolding ordered
in-ordered n b t r a =
    let all = met 1 r in
    let l = met-range 1 (longest b t all) b t r (longest-met n b t all a) in
    let x = l.0 in
    let y = l.1 in
    ⊎_elim (λ i. (i.0, in-levels all b t i.0 1 (length all) (firsts [] all) (omega arith) (omega arith) i.1)) (λ i. absurd (none_in b t i)) (in-firsts b t n [] all a)

-- a slot that is held stands behind its holder
pub ordered-rises : (n b c : ℕ) (t u r : Tree) → Among n b t (met 1 r) → Holds c u t → place b t (ordered r) < place c u (ordered r)
unfolding ordered
ordered-rises n b c t u r a h =
    let all = met 1 r in
    let k = longest b t all in
    let m = longest-met n b t all a in
    let held = met-closed 1 k b c t u r m h in
    let up = longest-upper (k + 1) c u all held in
    let l = met-range 1 k b t r m in
    let x = l.0 in
    let y = met-range 1 (longest c u all) c u r (longest-met (k + 1) c u all held) in
    let z = y.1 in
    ⊎_elim (λ i. levels-rise all b c t u i.0 1 (length all) (firsts [] all) (omega arith) (omega arith) (omega arith) i.1) (λ i. absurd (none_in b t i)) (in-firsts b t n [] all a)

-- ---- and the row has only slots that are met
pub firsts-only : (n b : ℕ) (t : Tree) (seen ms : List Met) → Among n b t (firsts seen ms) → Among n b t ms
unfolding firsts pick
firsts-only n b t seen (m ∷ ms) a = go (is_in m.board m.body seen) a (λ s x. firsts-only n b t s ms x)
  where
    go : (x : Bool) → Among n b t (pick x (firsts seen ms) (m ∷ firsts (m ∷ seen) ms)) → ((s : List Met) → Among n b t (firsts s ms) → Among n b t ms) → Among n b t (m ∷ ms)
    go true a ih = there (ih seen a)
    go false (here p q r) ih = here p q r
    go false (there a) ih = there (ih (m ∷ seen) a)
firsts-only n b t seen [] a = elim a [ ]

pub level-part : (all : List Met) (n b : ℕ) (t : Tree) (k : ℕ) (ms : List Met) → Among n b t (level all k ms) → Among n b t ms
unfolding level pick
level-part all n b t k (m ∷ ms) a = go (eqb (longest m.board m.body all) k) a (λ x. level-part all n b t k ms x)
  where
    go : (x : Bool) → Among n b t (pick x (m ∷ level all k ms) (level all k ms)) → (Among n b t (level all k ms) → Among n b t ms) → Among n b t (m ∷ ms)
    go true (here p q r) ih = here p q r
    go true (there a) ih = there (ih a)
    go false a ih = there (ih a)
level-part all n b t k [] a = elim a [ ]

pub levels-part : (all : List Met) (n b : ℕ) (t : Tree) (k more : ℕ) (ms : List Met) → Among n b t (levels all ms k more) → Among n b t ms × (k ≤ longest b t all)
unfolding levels
levels-part all n b t k zero ms a = absurd (none_in b t (n, a))
levels-part all n b t k (suc more) ms a =
    ⊎_elim (λ x. (let e = level-only all b t n k ms x in (level-part all n b t k ms x, omega arith)))
    (λ x. (let i = levels-part all n b t (k + 1) more ms x in let l = i.1 in (i.0, omega arith)))
    (split-among n b t (level all k ms) (levels all ms (k + 1) more) a)

pub ordered-met : (n b : ℕ) (t r : Tree) → Among n b t (ordered r) → Among n b t (met 1 r)
unfolding ordered
ordered-met n b t r a = firsts-only n b t [] (met 1 r) (levels-part (met 1 r) n b t 1 (length (met 1 r)) (firsts [] (met 1 r)) a).0

-- each entry of a row is in it
pub among-at : (d : Met) (i : ℕ) (ms : List Met) → i < length ms → Among (get_or ms i d).chain (get_or ms i d).board (get_or ms i d).body ms
among-at d i [] l = absurd (omega arith)
among-at d zero (m ∷ ms) l = here refl refl refl
among-at d (suc i) (m ∷ ms) l = there (among-at d i ms (omega arith))

-- a row's entry, by its number, of two rows
get_d-two : (d : Met) (i : ℕ) (ms ns : List Met) → ((i < length ms) × (get_or (ms ++ ns) i d ≡ get_or ms i d)) ⊎ ((j : ℕ) × (i ≡ length ms + j) × (get_or (ms ++ ns) i d ≡ get_or ns j d))
get_d-two d i [] ns = inr (i, omega arith, refl)
get_d-two d zero (m ∷ ms) ns = inl (omega arith, refl)
get_d-two d (suc i) (m ∷ ms) ns = ⊎_elim (λ x. (let l = x.0 in inl (omega arith, x.1))) (λ x. (let e = x.1 in inr (x.0, omega arith, x.2))) (get_d-two d i ms ns)

-- one with a longer chain stands behind the entry with number i
rise-at : (d : Met) (all : List Met) (c : ℕ) (u : Tree) (i k more : ℕ) (ms : List Met) → i < length (levels all ms k more)
    → longest (get_or (levels all ms k more) i d).board (get_or (levels all ms k more) i d).body all < longest c u all → i < place c u (levels all ms k more)
unfolding levels
rise-at d all c u i k zero ms l h = absurd (omega arith)
rise-at d all c u i k (suc more) ms l h =
    let xs = level all k ms in
    let ys = levels all ms (k + 1) more in
    let n = length-append xs ys in
    ⊎_elim
    (λ x. (let q = x.0 in
    let a = among-at d i xs q in
    let e = level-only all (get_or xs i d).board (get_or xs i d).body (get_or xs i d).chain k ms a in
    let g = subst (λ (m : Met). longest m.board m.body all < longest c u all) x.1 h in
    let p = place-right c u xs ys (λ j. (let z = level-only all c u j.0 k ms j.1 in omega arith)) in
    omega arith))
    (λ x. (let j = x.0 in
    let e = x.1 in
    let g = subst (λ (m : Met). longest m.board m.body all < longest c u all) x.2 h in
    let a = among-at d j ys (omega arith) in
    let r = levels-part all (get_or ys j d).chain (get_or ys j d).board (get_or ys j d).body (k + 1) more ms a in
    let y = r.1 in
    let p = place-right c u xs ys (λ j. (let z = level-only all c u j.0 k ms j.1 in omega arith)) in
    let ih = rise-at d all c u j (k + 1) more ms (omega arith) g in
    omega arith))
    (get_d-two d i xs ys)

-- what the slot with number i holds stands behind it
pub row-rises : (d : Met) (i c : ℕ) (u r : Tree) → i < length (ordered r) → Holds c u (get_or (ordered r) i d).body → i < place c u (ordered r)
unfolding ordered
row-rises d i c u r l h =
    let all = met 1 r in
    let row = levels all (firsts [] all) 1 (length all) in
    let b = (get_or row i d).board in
    let t = (get_or row i d).body in
    let n = (get_or row i d).chain in
    let a = firsts-only n b t [] all (levels-part all n b t 1 (length all) (firsts [] all) (among-at d i row l)).0 in
    let held = met-closed 1 (longest b t all) b c t u r (longest-met n b t all a) h in
    let up = longest-upper (longest b t all + 1) c u all held in
    rise-at d all c u i 1 (length all) (firsts [] all) l (omega arith)
