-- Meeting by a walk that goes below a slot only where it is met for the first time (`visited`) comes to the same slots in the same
-- order as meeting all (`visited-is`): the walk is as long as the network, where the tree may be 2 to the 63 slots. Assumes nothing.
use mathlib.Core.Path.{◌≡◌, refl, sym, ap, ap₂, ◌∙◌, subst}
use mathlib.Core.Bool.{Bool, true, false}
use mathlib.Core.List.{List, [], ◌∷◌, ◌++◌}
use mathlib.Core.Logic.{◌⊎◌, inl, inr, ⊎_elim}
use Prim.Native.Nat.{ℕ, zero, suc, ◌+◌, ◌<◌, ◌≤◌}
use native.Mathlib.Omega.{arith}
use lib.ListN.{length}
use Rattle.lists.specs.Tests.{pick}
use Rattle.lists.proofs.Tests.{no_true}
use Rattle.kinds.specs.declared.Join.{Join}
use Rattle.merging.specs.Merge.{Tree, stays, negation, pair, slot, Met, met, is_slot, is_in, firsts}
use Rattle.merging.proofs.Same.{slot_is, slot_of}
use Rattle.merging.proofs.Among.{Among, here, there, In, among-left, among-right, split-among, is-in, none_in}

-- the slots met, the last first, where `seen` were met before
unfoldable pub after : List Met → List Met → List Met
after seen [] = seen
after seen (m ∷ ms) = pick (is_in m.board m.body seen) (after seen ms) (after (m ∷ seen) ms)

-- the same by a walk
unfoldable pub visited : ℕ → List Met → Tree → List Met
visited n seen (stays f) = seen
visited n seen (negation t) = visited n seen t
visited n seen (pair j t u) = visited n (visited n seen t) u
visited n seen (slot b t) = pick (is_in b t seen) seen (visited (n + 1) (record { chain = n; board = b; body = t } ∷ seen) t)

abbrev size_t : Tree → ℕ
size_t (stays f) = 1
size_t (negation t) = 1 + size_t t
size_t (pair j t u) = 1 + size_t t + size_t u
size_t (slot b t) = 1 + size_t t

after_both : (seen xs ys : List Met) → after seen (xs ++ ys) ≡ after (after seen xs) ys
unfolding after pick
after_both seen [] ys = refl
after_both seen (x ∷ xs) ys = go (is_in x.board x.body seen) (after_both seen xs ys) (after_both (x ∷ seen) xs ys)
  where
    go : (b : Bool) → after seen (xs ++ ys) ≡ after (after seen xs) ys → after (x ∷ seen) (xs ++ ys) ≡ after (after (x ∷ seen) xs) ys
        → pick b (after seen (xs ++ ys)) (after (x ∷ seen) (xs ++ ys)) ≡ after (pick b (after seen xs) (after (x ∷ seen) xs)) ys
    go true p q = p
    go false p q = q

-- what was seen stays seen
after-keeps : (b : ℕ) (t : Tree) (seen ms : List Met) → In b t seen → In b t (after seen ms)
unfolding after pick
after-keeps b t seen [] i = i
after-keeps b t seen (m ∷ ms) i = go (is_in m.board m.body seen) (after-keeps b t seen ms i) (after-keeps b t (m ∷ seen) ms (i.0, there i.1))
  where
    go : (x : Bool) → In b t (after seen ms) → In b t (after (m ∷ seen) ms) → In b t (pick x (after seen ms) (after (m ∷ seen) ms))
    go true p q = p
    go false p q = q

pub move : (b c : ℕ) (t u : Tree) (ms : List Met) → b ≡ c → t ≡ u → In c u ms → In b t ms
move b c t u ms p q i = (i.0, subst (λ (x : ℕ). Among i.0 x t ms) (sym p) (subst (λ (x : Tree). Among i.0 c x ms) (sym q) i.1))

-- and what is met is seen
after-has : (n b : ℕ) (t : Tree) (seen ms : List Met) → Among n b t ms → In b t (after seen ms)
unfolding after pick
after-has n b t seen (m ∷ ms) a = go (is_in m.board m.body seen) refl a (λ s x. after-has n b t s ms x)
  where
    go : (x : Bool) → is_in m.board m.body seen ≡ x → Among n b t (m ∷ ms) → ((s : List Met) → Among n b t ms → In b t (after s ms))
        → In b t (pick x (after seen ms) (after (m ∷ seen) ms))
    go true e (here p q r) ih = after-keeps b t seen ms (move b m.board t m.body seen q r (is-in m.board m.body seen e))
    go true e (there a) ih = ih seen a
    go false e (here p q r) ih = after-keeps b t (m ∷ seen) ms (n, here p q r)
    go false e (there a) ih = ih (m ∷ seen) a
after-has n b t seen [] a = elim a [ ]

after-only : (n b : ℕ) (t : Tree) (seen ms : List Met) → Among n b t (after seen ms) → Among n b t seen ⊎ Among n b t ms
unfolding after pick
after-only n b t seen [] a = inl a
after-only n b t seen (m ∷ ms) a = go (is_in m.board m.body seen) a (λ s x. after-only n b t s ms x)
  where
    head : Among n b t (m ∷ seen) → Among n b t seen ⊎ Among n b t (m ∷ ms)
    head (here p q r) = inr (here p q r)
    head (there a) = inl a

    go : (x : Bool) → Among n b t (pick x (after seen ms) (after (m ∷ seen) ms)) → ((s : List Met) → Among n b t (after s ms) → Among n b t s ⊎ Among n b t ms)
        → Among n b t seen ⊎ Among n b t (m ∷ ms)
    go true a ih = ⊎_elim inl (λ y. inr (there y)) (ih seen a)
    go false a ih = ⊎_elim head (λ y. inr (there y)) (ih (m ∷ seen) a)

pub in_is : (b : ℕ) (t : Tree) (n : ℕ) (ms : List Met) → Among n b t ms → is_in b t ms ≡ true
unfolding is_in pick
in_is b t n (m ∷ ms) (here p q r) = rw (slot_of b t m q r)
in_is b t n (m ∷ ms) (there a) = go (is_slot b t m) (in_is b t n ms a)
  where
    go : (x : Bool) → is_in b t ms ≡ true → pick x true (is_in b t ms) ≡ true
    go true e = refl
    go false e = e
in_is b t n [] x' = elim x' [ ]

-- nothing is new where all was seen
after-seen : (seen ms : List Met) → ((n b : ℕ) (t : Tree) → Among n b t ms → In b t seen) → after seen ms ≡ seen
unfolding after pick
after-seen seen [] h = refl
after-seen seen (m ∷ ms) h =
    let i = h m.chain m.board m.body (here refl refl refl) in
    rw (in_is m.board m.body i.0 seen i.1) (after-seen seen ms (λ n b t a. h n b t (there a)))

-- what is met does not depend on the holders above
met-shift : (n k i b : ℕ) (t r : Tree) → Among i b t (met n r) → In b t (met k r)
met-shift n k i b t (negation r) a = met-shift n k i b t r a
met-shift n k i b t (pair j r s) a =
    ⊎_elim (λ x. (let y = met-shift n k i b t r x in (y.0, among-left (met k s) y.1))) (λ x. (let y = met-shift n k i b t s x in (y.0, among-right (met k r) y.1))) (split-among i b t (met n r) (met n s) a)
met-shift n k i b t (slot d r) (here p q s) = (k, here refl q s)
met-shift n k i b t (slot d r) (there a) = let y = met-shift (n + 1) (k + 1) i b t r a in (y.0, there y.1)
met-shift n k i b t (stays _) a = elim a [ ]

-- what is met below a slot that is met is met
met-below : (n k i j b c : ℕ) (t u r : Tree) → Among i b t (met n r) → Among j c u (met k t) → In c u (met n r)
met-below n k i j b c t u (negation r) a h = met-below n k i j b c t u r a h
met-below n k i j b c t u (pair o r s) a h =
    ⊎_elim (λ x. (let y = met-below n k i j b c t u r x h in (y.0, among-left (met n s) y.1))) (λ x. (let y = met-below n k i j b c t u s x h in (y.0, among-right (met n r) y.1))) (split-among i b t (met n r) (met n s) a)
met-below n k i j b c t u (slot d r) (here p q s) h =
    let y = met-shift k (n + 1) j c u r (subst (λ (x : Tree). Among j c u (met k x)) s h) in (y.0, there y.1)
met-below n k i j b c t u (slot d r) (there a) h = let y = met-below (n + 1) k i j b c t u r a h in (y.0, there y.1)
met-below n k i j b c t u (stays _) a h = elim a [ ]

-- below each slot that was seen and is smaller than s, all was seen
abbrev Full : ℕ → List Met → Type 0
Full s seen = (i b : ℕ) (t : Tree) → Among i b t seen → size_t t < s → (k j c : ℕ) (u : Tree) → Among j c u (met k t) → In c u seen

full-after : (s n : ℕ) (seen : List Met) (r : Tree) → Full s seen → Full s (after seen (met n r))
full-after s n seen r f i b t a l k j c u h =
    ⊎_elim (λ x. after-keeps c u seen (met n r) (f i b t x l k j c u h))
    (λ x. (let y = met-below n k i j b c t u r x h in after-has y.0 c u seen (met n r) y.1)) (after-only i b t seen (met n r) a)

full-less : (s r : ℕ) (seen : List Met) → r ≤ s → Full s seen → Full r seen
full-less s r seen l f i b t a m = f i b t a (omega arith)

pub visited-is : (n : ℕ) (seen : List Met) (t : Tree) → Full (size_t t) seen → visited n seen t ≡ after seen (met n t)
unfolding visited after pick
visited-is n seen (stays f) h = refl
visited-is n seen (negation t) h = visited-is n seen t (full-less (1 + size_t t) (size_t t) seen (omega arith) h)
visited-is n seen (pair j t u) h =
    ap (λ (x : List Met). visited n x u) (visited-is n seen t (full-less (1 + size_t t + size_t u) (size_t t) seen (omega arith) h))
    ∙ visited-is n (after seen (met n t)) u (full-less (1 + size_t t + size_t u) (size_t u) (after seen (met n t)) (omega arith) (full-after (1 + size_t t + size_t u) n seen t h))
    ∙ sym (after_both seen (met n t) (met n u))
visited-is n seen (slot b t) h = go (is_in b t seen) refl (visited-is (n + 1) (record { chain = n; board = b; body = t } ∷ seen) t new)
  where
    new : Full (size_t t) (record { chain = n; board = b; body = t } ∷ seen)
    new i c u (here p q r) l k j d v x = absurd (let e = ap size_t r in omega arith)
    new i c u (there a) l k j d v x = let y = h i c u a (omega arith) k j d v x in (y.0, there y.1)

    go : (x : Bool) → is_in b t seen ≡ x → visited (n + 1) (record { chain = n; board = b; body = t } ∷ seen) t ≡ after (record { chain = n; board = b; body = t } ∷ seen) (met (n + 1) t)
        → pick x seen (visited (n + 1) (record { chain = n; board = b; body = t } ∷ seen) t)
        ≡ pick x (after seen (met (n + 1) t)) (after (record { chain = n; board = b; body = t } ∷ seen) (met (n + 1) t))
    go true e ih =
        let i = is-in b t seen e in
        sym (after-seen seen (met (n + 1) t) (λ j c u a. h i.0 b t i.1 (omega arith) (n + 1) j c u a))
    go false e ih = ih

-- ---- the slots in the order of their first meeting
-- the row in front of another, turned around
abbrev pub backwards : List Met → List Met → List Met
backwards [] ys = ys
backwards (x ∷ xs) ys = backwards xs (x ∷ ys)

-- `after` has what `firsts` has, the last first
pub after-firsts : (seen ms : List Met) → after seen ms ≡ backwards (firsts seen ms) seen
unfolding after firsts pick
after-firsts seen [] = refl
after-firsts seen (m ∷ ms) = go (is_in m.board m.body seen) (after-firsts seen ms) (after-firsts (m ∷ seen) ms)
  where
    go : (x : Bool) → after seen ms ≡ backwards (firsts seen ms) seen → after (m ∷ seen) ms ≡ backwards (firsts (m ∷ seen) ms) (m ∷ seen)
        → pick x (after seen ms) (after (m ∷ seen) ms) ≡ backwards (pick x (firsts seen ms) (m ∷ firsts (m ∷ seen) ms)) seen
    go true p q = p
    go false p q = q

-- so the walk from a root meets the slots in the order that their numbers go by
pub visited-firsts : (t : Tree) → visited 1 [] t ≡ backwards (firsts [] (met 1 t)) []
visited-firsts t = visited-is 1 [] t (λ i b u a l k j c v h. none i b u a) ∙ after-firsts [] (met 1 t)
  where
    none : (i b : ℕ) (u : Tree) → Among i b u [] → {c : ℕ} {v : Tree} → In c v []
    none i b u a {c} {v} = absurd (none_in b u (i, a))
