-- Rows of numbers: each once (`OnceOf`), where one stands (`place_of`, `place_at`), and a row that has each number below n once is n
-- long (`all-length`) and has the sum of all (`all-sum`); with numbers below n, each once, it is no longer (`once-most`). Assumes nothing.
use mathlib.Core.Path.{◌≡◌, refl, sym, ap, ◌∙◌, subst}
use mathlib.Core.Bool.{Bool, true, false}
use mathlib.Core.List.{List, [], ◌∷◌, ◌++◌}
use mathlib.Core.Logic.{◌⊎◌, ⊎_elim}
use Prim.Native.Nat.{ℕ, zero, suc, ◌+◌, ◌<◌, ◌≤◌}
use native.Mathlib.Omega.{arith}
use native.Mathlib.Decide.{ℕ_discrete}
use lib.ListN.{length, get_or}
use lib.Dec.{eqb}
use borrow.Author.Tests.{eqb-true, eq-eqb, ne_eqb}
use Rattle.lists.specs.Tests.{pick}
use Rattle.lists.proofs.Tests.{no_true}
use Rattle.registers.specs.Numbers.{place_in}
use Rattle.registers.specs.Relaying.{is_among}
use Rattle.registers.proofs.Members.{OneOf, one-here, one-there, one_split, one_none, among-is, among_of}

-- each number of the row stands in it once
abbrev pub OnceOf : List ℕ → Type 0
OnceOf [] = Unit {0}
OnceOf (k ∷ ks) = (OneOf k ks → ⊥) × OnceOf ks

pub one_at : (ks : List ℕ) (i : ℕ) → i < length ks → OneOf (get_or ks i 0) ks
one_at [] i l = absurd (omega arith)
one_at (k ∷ ks) zero l = one-here refl
one_at (k ∷ ks) (suc i) l = one-there (one_at ks i (omega arith))

-- ---- where a number stands
pub place_at : (k : ℕ) (ks : List ℕ) → OneOf k ks → (place_in k ks < length ks) × (get_or ks (place_in k ks) 0 ≡ k)
unfolding place_in pick
place_at k (n ∷ ns) a = go (eqb k n) refl a (λ x. place_at k ns x)
  where
    go : (b : Bool) → eqb k n ≡ b → OneOf k (n ∷ ns) → (OneOf k ns → (place_in k ns < length ns) × (get_or ns (place_in k ns) 0 ≡ k))
        → (pick b 0 (suc (place_in k ns)) < length (n ∷ ns)) × (get_or (n ∷ ns) (pick b 0 (suc (place_in k ns))) 0 ≡ k)
    go true e a ih = (omega arith, sym (eqb-true k n e))
    go false e (one-here q) ih = absurd (no_true (sym e ∙ eq-eqb k n q))
    go false e (one-there a) ih = let i = ih a in let l = i.0 in (omega arith, i.1)
place_at k [] a = elim a [ ]

pub place_of : (ks : List ℕ) → OnceOf ks → (i : ℕ) → i < length ks → place_in (get_or ks i 0) ks ≡ i
unfolding place_in pick
place_of [] o i l = absurd (omega arith)
place_of (k ∷ ks) o zero l = rw (eq-eqb k k refl)
place_of (k ∷ ks) o (suc i) l =
    rw (ne_eqb (get_or ks i 0) k (λ e. o.0 (subst (λ (x : ℕ). OneOf x ks) e (one_at ks i (omega arith))))) (ap suc (place_of ks o.1 i (omega arith)))

-- ---- sums
-- what the numbers of a row weigh together
abbrev pub sum_of : (ℕ → ℕ) → List ℕ → ℕ
sum_of w [] = 0
sum_of w (k ∷ ks) = w k + sum_of w ks

-- what the numbers below n weigh together
abbrev pub sum_to : (ℕ → ℕ) → ℕ → ℕ
sum_to w zero = 0
sum_to w (suc n) = w n + sum_to w n

pub sum-front : (w : ℕ → ℕ) (n : ℕ) → sum_to w (suc n) ≡ w 0 + sum_to (λ k. w (suc k)) n
sum-front w zero = refl
sum-front w (suc n) = let i = sum-front w n in omega arith

sum_ones : (ks : List ℕ) → sum_of (λ k. 1) ks ≡ length ks
sum_ones [] = refl
sum_ones (k ∷ ks) = let i = sum_ones ks in omega arith

to-ones : (n : ℕ) → sum_to (λ k. 1) n ≡ n
to-ones zero = refl
to-ones (suc n) = let i = to-ones n in omega arith

-- the row without its first k
unfoldable without : ℕ → List ℕ → List ℕ
without k [] = []
without k (n ∷ ns) = pick (eqb k n) ns (n ∷ without k ns)

without-sum : (w : ℕ → ℕ) (k : ℕ) (ks : List ℕ) → OneOf k ks → w k + sum_of w (without k ks) ≡ sum_of w ks
unfolding without pick
without-sum w k (n ∷ ns) a = go (eqb k n) refl a (λ x. without-sum w k ns x)
  where
    go : (b : Bool) → eqb k n ≡ b → OneOf k (n ∷ ns) → (OneOf k ns → w k + sum_of w (without k ns) ≡ sum_of w ns) → w k + sum_of w (pick b ns (n ∷ without k ns)) ≡ w n + sum_of w ns
    go true e a ih = ap (λ (x : ℕ). w x + sum_of w ns) (eqb-true k n e)
    go false e (one-here q) ih = absurd (no_true (sym e ∙ eq-eqb k n q))
    go false e (one-there a) ih = let i = ih a in omega arith
without-sum w k [] a = elim a [ ]

without-has : (k m : ℕ) (ks : List ℕ) → (k ≡ m → ⊥) → OneOf m ks → OneOf m (without k ks)
unfolding without pick
without-has k m (n ∷ ns) d a = go (eqb k n) refl a (λ x. without-has k m ns d x)
  where
    go : (b : Bool) → eqb k n ≡ b → OneOf m (n ∷ ns) → (OneOf m ns → OneOf m (without k ns)) → OneOf m (pick b ns (n ∷ without k ns))
    go true e (one-here q) ih = absurd (d (eqb-true k n e ∙ sym q))
    go true e (one-there a) ih = a
    go false e (one-here q) ih = one-here q
    go false e (one-there a) ih = one-there (ih a)
without-has k m [] d a = elim a [ ]

without-only : (k m : ℕ) (ks : List ℕ) → OneOf m (without k ks) → OneOf m ks
unfolding without pick
without-only k m [] a = a
without-only k m (n ∷ ns) a = go (eqb k n) a (λ x. without-only k m ns x)
  where
    go : (b : Bool) → OneOf m (pick b ns (n ∷ without k ns)) → (OneOf m (without k ns) → OneOf m ns) → OneOf m (n ∷ ns)
    go true a ih = one-there a
    go false (one-here q) ih = one-here q
    go false (one-there a) ih = one-there (ih a)

without-once : (k : ℕ) (ks : List ℕ) → OnceOf ks → OnceOf (without k ks)
unfolding without pick
without-once k [] o = tt
without-once k (n ∷ ns) o = go (eqb k n) (without-once k ns o.1)
  where
    go : (b : Bool) → OnceOf (without k ns) → OnceOf (pick b ns (n ∷ without k ns))
    go true i = o.1
    go false i = (λ a. o.0 (without-only k n ns a), i)

without_gone : (k : ℕ) (ks : List ℕ) → OnceOf ks → OneOf k (without k ks) → ⊥
unfolding without pick
without_gone k [] o a = one_none k a
without_gone k (n ∷ ns) o a = go (eqb k n) refl a (λ x. without_gone k ns o.1 x)
  where
    go : (b : Bool) → eqb k n ≡ b → OneOf k (pick b ns (n ∷ without k ns)) → (OneOf k (without k ns) → ⊥) → ⊥
    go true e a ih = o.0 (subst (λ (x : ℕ). OneOf x ns) (eqb-true k n e) a)
    go false e (one-here q) ih = no_true (sym e ∙ eq-eqb k n q)
    go false e (one-there a) ih = ih a

-- one more number behind
pub once-behind : (k : ℕ) (ks : List ℕ) → (OneOf k ks → ⊥) → OnceOf ks → OnceOf (ks ++ (k ∷ []))
once-behind k [] h o = (λ a. one_none k a, tt)
once-behind k (n ∷ ns) h o = (λ a. ⊎_elim (λ x. o.0 x) (λ x. last x) (one_split n ns (k ∷ []) a), once-behind k ns (λ a. h (one-there a)) o.1)
  where
    last : OneOf n (k ∷ []) → ⊥
    last (one-here q) = h (one-here (sym q))
    last (one-there a) = one_none n a

-- numbers below n, each once, are n at most
pub once-most : (n : ℕ) (ks : List ℕ) → OnceOf ks → ((k : ℕ) → OneOf k ks → k < n) → length ks ≤ n
once-most zero [] o below = omega arith
once-most zero (k ∷ ks) o below = let l = below k (one-here refl) in absurd (omega arith)
once-most (suc n) ks o below = go (is_among n ks) refl (λ xs p q. once-most n xs p q)
  where
    less : (xs : List ℕ) → ((k : ℕ) → OneOf k xs → k < suc n) → (OneOf n xs → ⊥) → (k : ℕ) → OneOf k xs → k < n
    less xs b h k a = split (ℕ_discrete k n)
      where
        split : Dec (k ≡ n) → k < n
        split (yes q) = absurd (h (subst (λ (x : ℕ). OneOf x xs) q a))
        split (no q) = let l = b k a in omega arith

    go : (b : Bool) → is_among n ks ≡ b → ((xs : List ℕ) → OnceOf xs → ((k : ℕ) → OneOf k xs → k < n) → length xs ≤ n) → length ks ≤ suc n
    go true e ih =
        let s = without-sum (λ k. 1) n ks (among-is n ks e) in
        let p = sum_ones ks in
        let q = sum_ones (without n ks) in
        let i = ih (without n ks) (without-once n ks o) (less (without n ks) (λ k a. below k (without-only n k ks a)) (λ a. without_gone n ks o a)) in
        omega arith
    go false e ih = let i = ih ks o (less ks below (λ a. no_true (sym e ∙ among_of n ks a))) in omega arith

-- a row that has each number below n once
pub all-sum : (w : ℕ → ℕ) (n : ℕ) (ks : List ℕ) → OnceOf ks → ((k : ℕ) → OneOf k ks → k < n) → ((k : ℕ) → k < n → OneOf k ks) → sum_of w ks ≡ sum_to w n
all-sum w zero [] o below has = refl
all-sum w zero (k ∷ ks) o below has = let l = below k (one-here refl) in absurd (omega arith)
all-sum w (suc n) ks o below has =
    let e = without-sum w n ks (has n (omega arith)) in
    let i = all-sum w n (without n ks) (without-once n ks o)
    (λ k a. less k a (ℕ_discrete k n)) (λ k l. without-has n k ks (λ q. absurd (omega arith)) (has k (omega arith))) in
    omega arith
  where
    less : (k : ℕ) → OneOf k (without n ks) → Dec (k ≡ n) → k < n
    less k a (yes q) = absurd (without_gone n ks o (subst (λ (x : ℕ). OneOf x (without n ks)) q a))
    less k a (no q) = let l = below k (without-only n k ks a) in omega arith

pub all-length : (n : ℕ) (ks : List ℕ) → OnceOf ks → ((k : ℕ) → OneOf k ks → k < n) → ((k : ℕ) → k < n → OneOf k ks) → length ks ≡ n
all-length n ks o below has = sym (sum_ones ks) ∙ all-sum (λ k. 1) n ks o below has ∙ to-ones n
