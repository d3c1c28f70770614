-- Each slot but the root is held exactly once: the numbers that laying gives out stand once each, in the order in which they are
-- given (`load-once`, `close-once`). Assumes nothing.
use mathlib.Core.Path.{◌≡◌, refl}
use mathlib.Core.List.{List, [], ◌∷◌, ◌++◌}
use mathlib.Core.Option.{Option}
use Prim.Native.Nat.{ℕ, zero, suc, ◌+◌, ◌<◌, ◌≤◌}
use native.Mathlib.Decide.{ℕ_discrete}
use native.Mathlib.Omega.{arith}
use lib.ListN.{length, length-append}
use lib.Dec.{eqb}
use borrow.Author.Tests.{eq-eqb, ne_eqb}
use Rattle.lists.specs.Tests.{pick}
use Rattle.kinds.specs.declared.Leaf.TheVariants.{Const, Prop, Hold}
use Rattle.ltl.specs.Formula.{Formula, leaf, one, two}
use Rattle.ltl.specs.Progression.{unfolded}
use Rattle.network.specs.Layout.{Slot, Laid, laid, cut, rooted, or_zero, no_hold, load, slot_at, relaid, close}
use Rattle.network.proofs.Owned.{Free, OwnTop}
use Rattle.network.proofs.Laying.{Kept, own-tops}
use Rattle.network.proofs.Layouts.{SlotStanding, load-elim, close-elim}

-- how often the place holder of slot m stands in a formula, and in all slots
abbrev pub times_in : ℕ → Formula → ℕ
times_in m (leaf (Const v)) = 0
times_in m (leaf (Prop i)) = 0
times_in m (leaf (Hold k)) = pick (eqb k m) 1 0
times_in m (one o f) = times_in m f
times_in m (two o f g) = times_in m f + times_in m g

abbrev pub times_held : ℕ → List Slot → ℕ
times_held m [] = 0
times_held m (s ∷ ss) = times_in m s.formula + times_held m ss

pub times-both : (m : ℕ) (ss ts : List Slot) → times_held m (ss ++ ts) ≡ times_held m ss + times_held m ts
times-both m [] ts = omega arith
times-both m (s ∷ ss) ts = omega (arith, times-both m ss ts)

-- 1 where m is one of the n numbers from k on
unfoldable pub given : ℕ → ℕ → ℕ → ℕ
given k zero m = 0
given k (suc n) m = pick (eqb k m) 1 0 + given (k + 1) n m

given_both : (k a b m : ℕ) → given k (a + b) m ≡ given k a m + given (k + a) b m
unfolding given
given_both k zero b m = let e : 0 + b ≡ b = omega arith in let f : k + 0 ≡ k = omega arith in rw (e, f) (omega arith)
given_both k (suc a) b m =
    let e : suc a + b ≡ suc (a + b) = omega arith in
    let f : k + suc a ≡ k + 1 + a = omega arith in
    rw (e, f) (omega (arith, given_both (k + 1) a b m))

given_below : (k n m : ℕ) → m < k → given k n m ≡ 0
unfolding given pick
given_below k zero m h = refl
given_below k (suc n) m h = rw (ne_eqb k m (λ e. omega arith)) (omega (arith, given_below (k + 1) n m (omega arith)))

-- no number is given twice
pub given-once : (k n m : ℕ) → given k n m ≤ 1
unfolding given pick
given-once k zero m = omega arith
given-once k (suc n) m = go (ℕ_discrete k m) (given-once (k + 1) n m)
  where
    go : Dec (k ≡ m) → given (k + 1) n m ≤ 1 → pick (eqb k m) 1 0 + given (k + 1) n m ≤ 1
    go (yes e) h = rw (eq-eqb k m e) (omega (arith, given_below (k + 1) n m (omega arith)))
    go (no e) h = rw (ne_eqb k m e) (omega arith)

-- a part whose slots are numbered from k on holds each of them once
abbrev Once : ℕ → ℕ → Formula → Laid → Type 0
Once b k f x = (m : ℕ) → times_in m x.here + times_held m x.slots ≡ given k (length x.slots) m

cut-once : (b c k : ℕ) (f g : Formula) (x : Laid) → Once c (k + 1) f x → Once b k g (cut c k x)
unfolding given
cut-once b c k f g x p m = omega (arith, p m)

rooted-once : (m b : ℕ) (f : Formula) (x : Laid) → Once b 1 f x → times_held m (rooted b x) ≤ 1
rooted-once m b f x p = omega (arith, p m, given-once 1 (length x.slots) m)

module _ (choose : Formula → Option ℕ) where
  free-none : (m : ℕ) (f : Formula) → Free choose f → times_in m f ≡ 0
  free-none m (leaf (Const v)) x = refl
  free-none m (leaf (Prop i)) x = refl
  free-none m (one o f) x = free-none m f x
  free-none m (two o f g) x = omega (arith, free-none m f x.0, free-none m g x.1)
  free-none m (leaf (Hold _)) x = elim x [ ]

  once-kept : Kept choose (OwnTop choose) Once
  unfolding given
  once-kept =
      record {
        on-constant = λ b k v m. refl;
        on-own = λ b k i e m. refl;
        on-not = λ b k f x p. p;
        on-next = λ b k f x y m. omega (arith, free-none m f x);
        on-joined = λ b k j f g x y p q m.
            (let c = length-append x.slots y.slots in
            rw (times-both m x.slots y.slots, c, given_both k (length x.slots) (length y.slots) m) (omega (arith, p m, q m)));
        on-cut = λ b c k f x e p. cut-once b c k f f x p;
      }

  -- loading a rule
  pub load-once : (rule : Formula) → Free choose rule → (m : ℕ) → times_held m (load choose rule) ≤ 1
  unfolding load
  load-once rule free m =
      let b = or_zero (choose (unfolded rule)) in
      rooted-once m b (unfolded rule) (laid choose no_hold (unfolded rule) b 1) (load-elim choose (OwnTop choose) (own-tops choose) Once once-kept rule free)

  -- closing a network
  pub close-once : (slots : List Slot) → 0 < length slots → ((n : ℕ) → n < length slots → SlotStanding choose (OwnTop choose) (length slots) n (slot_at slots n))
      → (m : ℕ) → times_held m (close choose slots) ≤ 1
  unfolding close
  close-once slots some-slots all m =
      let s = slot_at slots 0 in
      rooted-once m s.board (unfolded s.formula) (laid choose (relaid choose slots (length slots)) (unfolded s.formula) s.board 1)
      (close-elim choose (OwnTop choose) (own-tops choose) Once once-kept slots some-slots all
      (λ b k n x l p. cut-once b (slot_at slots n).board k (unfolded (slot_at slots n).formula) (leaf (Hold n)) x p))
