-- The choice of two parts together: where both choose one board they choose it together, and one without scores does not matter
-- (`together-same`, `together-left`, `together-right`). So the code need not look at sixteen sums then. Assumes
-- nothing.
use mathlib.Core.Path.{◌≡◌, refl, sym, ap, ◌∙◌, subst}
use mathlib.Core.List.{List, [], ◌∷◌}
use mathlib.Core.Logic.{◌⊎◌, inl, inr, ⊎_elim}
use mathlib.Core.Option.{Option, none, some}
use Prim.Native.Nat.{ℕ, zero, suc, ◌+◌, ◌<◌, ◌≤◌}
use native.Mathlib.Omega.{arith}
use native.Mathlib.Decide.{dec_lt}
use lib.ListN.{length, get_or}
use lib.Dec.{ltb}
use borrow.Author.Tests.{lt-ltb, le-ltb}
use Rattle.lists.specs.Tests.{pick}
use Rattle.lists.proofs.Tests.{no-some}
use Rattle.limits.specs.Limits.{boards_most}
use Rattle.network.specs.Scores.{highest}
use Rattle.scores.specs.Choice.{code_of, picked_by}
use Rattle.scores.specs.Scored.{added}
use Rattle.choices.specs.Picked.{Together}
use Rattle.choices.proofs.Reading.{added-each, added-nothing, nothing-added}

-- none is over the count
abbrev Under : ℕ → List ℕ → Type 0
Under c xs = (k : ℕ) → get_or xs k 0 ≤ c

-- number j is the highest, the first of its height, and over the count
record Wins (c : ℕ) (xs : List ℕ) (j : ℕ) : Type 0 where
  over : c < get_or xs j 0
  first : (k : ℕ) → k < j → get_or xs k 0 < get_or xs j 0
  most : (k : ℕ) → get_or xs k 0 ≤ get_or xs j 0

not-less : (c x : ℕ) → (c < x → ⊥) → x ≤ c
not-less c x h = omega arith

highest-under : (p : Option ℕ) (c i : ℕ) (xs : List ℕ) → Under c xs → highest p c i xs ≡ p
unfolding highest pick
highest-under p c i [] u = refl
highest-under p c i (x ∷ xs) u = let l = u 0 in rw (le-ltb c x (omega arith)) (highest-under p c (suc i) xs (λ k. u (suc k)))

highest-wins : (p : Option ℕ) (c i : ℕ) (xs : List ℕ) (j : ℕ) → Wins c xs j → highest p c i xs ≡ some (i + j)
unfolding highest pick
highest-wins p c i [] j w = let o = w.over in absurd (omega arith)
highest-wins p c i (x ∷ xs) zero w =
    let e : i ≡ i + 0 = omega arith in
    rw (lt-ltb c x w.over) (highest-under (some i) x (suc i) xs (λ k. w.most (suc k)) ∙ ap some e)
highest-wins p c i (x ∷ xs) (suc j) w = go (dec_lt c x) (λ q d v. highest-wins q d (suc i) xs j v)
  where
    go : Dec (c < x) → ((q : Option ℕ) (d : ℕ) → Wins d xs j → highest q d (suc i) xs ≡ some (suc i + j)) → pick (ltb c x) (highest (some i) x (suc i) xs) (highest p c (suc i) xs) ≡ some (i + suc j)
    go (yes l) ih =
        let e : suc i + j ≡ i + suc j = omega arith in
        rw (lt-ltb c x l) (ih (some i) x (record { over = w.first 0 (omega arith); first = λ k h. w.first (suc k) (omega arith); most = λ k. w.most (suc k) }) ∙ ap some e)
    go (no l) ih =
        let e : suc i + j ≡ i + suc j = omega arith in
        rw (le-ltb c x (not-less c x l)) (ih p c (record { over = w.over; first = λ k h. w.first (suc k) (omega arith); most = λ k. w.most (suc k) }) ∙ ap some e)

-- one of the two holds
winner : (c : ℕ) (xs : List ℕ) → Under c xs ⊎ ((j : ℕ) × Wins c xs j)
winner c [] = inl (λ k. omega arith)
winner c (x ∷ xs) = go (dec_lt c x) (λ d. winner d xs)
  where
    under : (d : ℕ) → x ≤ d → Under d xs → Under d (x ∷ xs)
    under d l u zero = l
    under d l u (suc k) = u k

    on : (d j : ℕ) → x ≤ d → Wins d xs j → Wins d (x ∷ xs) (suc j)
    on d j l w = record { over = w.over; first = first; most = most }
      where
        first : (k : ℕ) → k < suc j → get_or (x ∷ xs) k 0 < get_or xs j 0
        first zero h = let o = w.over in omega arith
        first (suc k) h = w.first k (omega arith)

        most : (k : ℕ) → get_or (x ∷ xs) k 0 ≤ get_or xs j 0
        most zero = let o = w.over in omega arith
        most (suc k) = w.most k

    go : Dec (c < x) → ((d : ℕ) → Under d xs ⊎ ((j : ℕ) × Wins d xs j)) → Under c (x ∷ xs) ⊎ ((j : ℕ) × Wins c (x ∷ xs) j)
    go (no l) ih = ⊎_elim (λ u. inl (under c (not-less c x l) u)) (λ v. inr (suc v.0, on c v.0 (not-less c x l) v.1)) (ih c)
    go (yes l) ih =
        ⊎_elim (λ u. inr (0, record { over = l; first = λ k h. absurd (omega arith); most = under x (omega arith) u }))
        (λ v. (let w = on x v.0 (omega arith) v.1 in let o = w.over in inr (suc v.0, record { over = omega arith; first = w.first; most = w.most }))) (ih x)

same_some : (j c : ℕ) → ◌≡◌ {A = Option ℕ} (some j) (some c) → j ≡ c
same_some j c e = cc

wins-of : (xs : List ℕ) (c : ℕ) → highest none 0 0 xs ≡ some c → Wins 0 xs c
wins-of xs c e =
    ⊎_elim (λ u. absurd (no-some c (sym (highest-under none 0 0 xs u) ∙ e)))
    (λ v. (let q : 0 + v.0 ≡ v.0 = omega arith in subst (λ (j : ℕ). Wins 0 xs j) (same_some v.0 c (ap some (sym q) ∙ sym (highest-wins none 0 0 xs v.0 v.1) ∙ e)) v.1))
    (winner 0 xs)

-- ---- what the counts choose
none_of : (xs : List ℕ) → highest none 0 0 xs ≡ none → (k : ℕ) → get_or xs k 0 ≡ 0
none_of xs e k =
    ⊎_elim (λ u. (let l = u k in omega arith))
    (λ v. absurd (no-some (0 + v.0) (sym e ∙ highest-wins none 0 0 xs v.0 v.1)))
    (winner 0 xs)

-- what is above 0 is there
there : (xs : List ℕ) (c : ℕ) → 0 < get_or xs c 0 → c < length xs
there [] c l = absurd (omega arith)
there (x ∷ xs) zero l = omega arith
there (x ∷ xs) (suc c) l = let r = there xs c l in omega arith

below : (xs : List ℕ) (c : ℕ) → length xs ≡ boards_most → highest none 0 0 xs ≡ some c → c < boards_most
below xs c h e = let l = there xs c (wins-of xs c e).over in omega arith

pub picked_none : (xs : List ℕ) → length xs ≡ boards_most → picked_by xs ≡ boards_most → (k : ℕ) → get_or xs k 0 ≡ 0
picked_none xs h z = go (highest none 0 0 xs) refl z
  where
    go : (o : Option ℕ) → highest none 0 0 xs ≡ o → code_of o ≡ boards_most → (k : ℕ) → get_or xs k 0 ≡ 0
    go none e q = none_of xs e
    go (some c) e q = absurd (let l = below xs c h e in omega arith)

-- ---- two parts
module _ (xs ys : List ℕ) (h : length xs ≡ boards_most) (k : length ys ≡ boards_most) where
  joint-choice : (c : ℕ) → highest none 0 0 xs ≡ some c → highest none 0 0 ys ≡ some c → highest none 0 0 (added xs ys) ≡ some c
  joint-choice c p q =
      let v = wins-of xs c p in
      let w = wins-of ys c q in
      let z : 0 + c ≡ c = omega arith in
      let sums = added-each xs ys (h ∙ sym k) in
      highest-wins none 0 0 (added xs ys) c
      (record {
        over = (let a = v.over in let s = sums c in omega arith);
        first = λ i l. (let a = v.first i l in let b = w.first i l in let s = sums c in let t = sums i in omega arith);
        most = λ i. (let a = v.most i in let b = w.most i in let s = sums c in let t = sums i in omega arith);
      })
      ∙ ap some z

  right-none : picked_by ys ≡ boards_most → picked_by (added xs ys) ≡ picked_by xs
  right-none z = ap picked_by (added-nothing xs ys (h ∙ sym k) (picked_none ys k z))

  left-none : picked_by xs ≡ boards_most → picked_by (added xs ys) ≡ picked_by ys
  left-none z = ap picked_by (nothing-added xs ys (h ∙ sym k) (picked_none xs h z))

  both-same : picked_by xs ≡ picked_by ys → picked_by xs ≡ picked_by (added xs ys)
  both-same z = go (highest none 0 0 xs) (highest none 0 0 ys) refl refl z
    where
      go : (o u : Option ℕ) → highest none 0 0 xs ≡ o → highest none 0 0 ys ≡ u → code_of o ≡ code_of u → picked_by xs ≡ picked_by (added xs ys)
      go none u p q e = sym (right-none (ap code_of q ∙ sym e))
      go (some c) none p q e = absurd (let l = below xs c h p in omega arith)
      go (some c) (some d) p q e = ap code_of p ∙ sym (ap code_of (joint-choice c p (q ∙ ap some (sym e))))

pub together-same : (a b : ℕ) (sums : List ℕ) → a ≡ b → Together a b sums a
together-same a b sums e xs ys h k s p q = p ∙ both-same xs ys h k (sym p ∙ e ∙ q) ∙ ap picked_by (sym s)

pub together-left : (a b : ℕ) (sums : List ℕ) → b ≡ boards_most → Together a b sums a
together-left a b sums e xs ys h k s p q = p ∙ sym (right-none xs ys h k (sym q ∙ e)) ∙ ap picked_by (sym s)

pub together-right : (a b : ℕ) (sums : List ℕ) → a ≡ boards_most → Together a b sums b
together-right a b sums e xs ys h k s p q = q ∙ sym (left-none xs ys h k (sym p ∙ e)) ∙ ap picked_by (sym s)
