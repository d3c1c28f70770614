-- The choice of boards by masks that follow their rule is one that laying asks for: constants have none and a next has its
-- operand's (`masks-choice`); every proposition of the rule has a board (`masks-free`), whose sample shows it (`masks-own`); it is
-- the board whose mask has it (`masks-has`, `masks-mine`), and no other proposition has one (`masks-below`). A board that is chosen
-- is there (`chosen-there`). Assumes nothing.
use mathlib.Core.Path.{◌≡◌, refl, sym, ap, ◌∙◌}
use mathlib.Core.Bool.{Bool, true, false}
use mathlib.Core.List.{List, [], ◌∷◌}
use mathlib.Core.Logic.{◌⊎◌, inl, inr, ⊎_elim}
use mathlib.Core.Option.{Option, none, some}
use Prim.Native.Nat.{ℕ, zero, suc, ◌+◌, ◌*◌, ◌/◌, ◌%◌, ◌^◌, ◌<◌, ◌≤◌, min}
use native.Mathlib.Nat.{zero-div}
use native.Mathlib.Decide.{dec_lt}
use native.Mathlib.Omega.{arith}
use lib.ListN.{length, get_or, length-map}
use lib.Dec.{eqb, ltb}
use lib.Bits.{bit_and, and_shr, and_step}
use borrow.Author.Tests.{eqb-true, eqb-false, ne_eqb, lt-ltb, le-ltb}
use Rattle.lists.specs.Tests.{pick, bit}
use Rattle.limits.specs.Limits.{propositions_most}
use Rattle.lists.proofs.Tests.{no-some, pick-elim}
use Rattle.kinds.specs.declared.Leaf.{Leaf}
use Rattle.kinds.specs.declared.Leaf.TheVariants.{Const, Prop, Hold}
use Rattle.kinds.specs.declared.Unary.TheVariants.{Next}
use Rattle.answers.specs.declared.Verdict.TheVariants.{Pending}
use Rattle.ltl.specs.Formula.{Formula, leaf, one, two, constant, Within}
use Rattle.ltl.specs.Progression.{verdict_of}
use Rattle.masks.specs.Masks.{bit_at, masks_rule}
use Rattle.masks.proofs.Exact.{owners, below, union-bit, low-bits-bit, rule-union, exact}
use Rattle.network.specs.Scores.{occurrences, scores_of, highest, chosen, sample_of}
use Rattle.network.proofs.Owned.{Free}
use Rattle.network.proofs.Laying.{Choice}

-- ---- a board that is chosen is one of those that there are
highest-there : (o : Option ℕ) (count k c : ℕ) (xs : List ℕ) → highest o count k xs ≡ some c → (o ≡ some c) ⊎ (c < k + length xs)
unfolding highest
highest-there o count k c [] e = inl e
highest-there o count k c (x ∷ xs) e =
    pick-elim (λ (r : Option ℕ). r ≡ some c → (o ≡ some c) ⊎ (c < k + suc (length xs))) (ltb count x) (highest (some k) x (suc k) xs) (highest o count (suc k) xs)
    (λ t d. ⊎_elim (λ q. (let i : k ≡ c = cc in inr (omega arith))) (λ q. inr (omega arith)) (highest-there (some k) x (suc k) c xs d))
    (λ t d. ⊎_elim (λ q. inl q) (λ q. inr (omega arith)) (highest-there o count (suc k) c xs d))
    e

pub chosen-there : (masks : List ℕ) (f : Formula) (c : ℕ) → chosen masks f ≡ some c → c < length masks
unfolding chosen
chosen-there masks f c e =
    ⊎_elim (λ q. absurd (no-some c q)) (λ q. omega (arith, length-map masks (λ mask. occurrences (bit mask) f))) (highest-there none 0 0 c (scores_of masks f) e)

-- ---- all scores 0
none-highest : (masks : List ℕ) (f : Formula) → ((test : ℕ → Bool) → occurrences test f ≡ 0) → (k : ℕ) → highest none 0 k (scores_of masks f) ≡ none
unfolding highest pick
none-highest [] f h k = refl
none-highest (m ∷ ms) f h k = rw (h (bit m)) (none-highest ms f h (suc k))

constant-none : (masks : List ℕ) (v : Bool) → chosen masks (constant v) ≡ none
unfolding chosen
constant-none masks v = none-highest masks (constant v) (λ test. refl) 0

next-same : (masks : List ℕ) (f : Formula) → chosen masks (one Next f) ≡ chosen masks f
unfolding chosen
next-same masks f = refl

pub masks-choice : (masks : List ℕ) → Choice (chosen masks)
masks-choice masks = record { pending = pending; next = next }
  where
    pending : (f : Formula) (c : ℕ) → chosen masks f ≡ some c → verdict_of f ≡ Pending
    pending (leaf (Const v)) c e = absurd (no-some c (sym (constant-none masks v) ∙ e))
    pending (leaf (Prop i)) c e = refl
    pending (leaf (Hold k)) c e = refl
    pending (one o f) c e = refl
    pending (two o f g) c e = refl

    next : (f : Formula) → chosen masks (one Next f) ≡ chosen masks f
    next f = next-same masks f

-- ---- a proposition's board
-- nothing is higher than 1
kept-highest : (p : Option ℕ) (ms : List ℕ) (i k : ℕ) → highest p 1 k (scores_of ms (leaf (Prop i))) ≡ p
unfolding highest pick
kept-highest p [] i k = refl
kept-highest p (m ∷ ms) i k = go (bit m i) (kept-highest p ms i (suc k))
  where
    go : (b : Bool) → highest p 1 (suc k) (scores_of ms (leaf (Prop i))) ≡ p → pick (ltb 1 (pick b 1 0)) (highest (some k) (pick b 1 0) (suc k) (scores_of ms (leaf (Prop i)))) (highest p 1 (suc k) (scores_of ms (leaf (Prop i)))) ≡ p
    go true h = h
    go false h = h

-- the board that is chosen has the proposition in its mask
pub record Found (ms : List ℕ) (i k b : ℕ) : Type 0 where
  pub place : ℕ
  pub number : b ≡ k + place
  pub has : bit (get_or ms place 0) i ≡ true

found : (ms : List ℕ) (i k b : ℕ) → highest none 0 k (scores_of ms (leaf (Prop i))) ≡ some b → Found ms i k b
unfolding highest pick
found [] i k b e = absurd (no-some b e)
found (m ∷ ms) i k b e = go (bit m i) refl e (found ms i (suc k) b)
  where
    go : (t : Bool) → bit m i ≡ t
        → pick (ltb 0 (pick t 1 0)) (highest (some k) (pick t 1 0) (suc k) (scores_of ms (leaf (Prop i)))) (highest none 0 (suc k) (scores_of ms (leaf (Prop i)))) ≡ some b
        → (highest none 0 (suc k) (scores_of ms (leaf (Prop i))) ≡ some b → Found ms i (suc k) b) → Found (m ∷ ms) i k b
    go true q e ih =
        let r : some k ≡ some b = sym (kept-highest (some k) ms i (suc k)) ∙ e in
        let s : k ≡ b = cc in
        record { place = 0; number = omega arith; has = q }
    go false q e ih = let r = ih e in let n = r.number in record { place = suc r.place; number = omega arith; has = r.has }

pub masks-has : (masks : List ℕ) (i b : ℕ) → chosen masks (leaf (Prop i)) ≡ some b → bit (get_or masks b 0) i ≡ true
unfolding chosen
masks-has masks i b c =
    let f = found masks i 0 b c in
    let n = f.number in
    let q : b ≡ f.place = omega arith in
    ap (λ (j : ℕ). bit (get_or masks j 0) i) q ∙ f.has

-- a board whose mask has it is among its owners
owners-some : (ms : List ℕ) (i b : ℕ) → bit (get_or ms b 0) i ≡ true → 0 < owners ms i
unfolding owners bit
owners-some [] i b h = absurd (omega (arith, eqb-true (0 / 2 ^ i % 2) 1 h, zero-div (2 ^ i)))
owners-some (m ∷ ms) i zero h = omega (arith, eqb-true (m / 2 ^ i % 2) 1 h)
owners-some (m ∷ ms) i (suc b) h = omega (arith, owners-some ms i b h)

-- and is chosen where it is the only one
mine : (ms : List ℕ) (i k b : ℕ) → owners ms i ≤ 1 → bit (get_or ms b 0) i ≡ true → highest none 0 k (scores_of ms (leaf (Prop i))) ≡ some (k + b)
unfolding highest pick owners bit
mine [] i k b o h = absurd (omega (arith, owners-some [] i b h))
mine (m ∷ ms) i k zero o h = let e : k ≡ k + 0 = omega arith in rw h (kept-highest (some k) ms i (suc k) ∙ ap some e)
mine (m ∷ ms) i k (suc b) o h =
    let n = owners-some ms i b h in
    let e : suc k + b ≡ k + suc b = omega arith in
    rw (ne_eqb (m / 2 ^ i % 2) 1 (λ q. omega arith)) (mine ms i (suc k) b (omega arith) h ∙ ap some e)

-- where a mask has it, a board is chosen
homed : (ms : List ℕ) (i k : ℕ) → 0 < owners ms i → (b : ℕ) × (highest none 0 k (scores_of ms (leaf (Prop i))) ≡ some b)
unfolding highest pick owners bit
homed [] i k h = absurd (omega arith)
homed (m ∷ ms) i k h = go (eqb (m / 2 ^ i % 2) 1) refl (λ q. homed ms i (suc k) q)
  where
    go : (t : Bool) → eqb (m / 2 ^ i % 2) 1 ≡ t → (0 < owners ms i → (b : ℕ) × (highest none 0 (suc k) (scores_of ms (leaf (Prop i))) ≡ some b))
        → (b : ℕ) × (pick (ltb 0 (pick t 1 0)) (highest (some k) (pick t 1 0) (suc k) (scores_of ms (leaf (Prop i)))) (highest none 0 (suc k) (scores_of ms (leaf (Prop i)))) ≡ some b)
    go true q ih = (k, kept-highest (some k) ms i (suc k))
    go false q ih = let z = eqb-false (m / 2 ^ i % 2) 1 q in let b : m / 2 ^ i % 2 < 2 = omega arith in ih (omega arith)

-- ---- samples
pub bit-and : (a b i : ℕ) → bit b i ≡ true → bit (bit_and a b) i ≡ bit a i
unfolding bit
bit-and a b i h =
    let q = eqb-true (b / 2 ^ i % 2) 1 h in
    let s = and_shr a b i in
    let t = and_step (a / 2 ^ i) (b / 2 ^ i) in
    let c : bit_and a b / 2 ^ i % 2 ≡ a / 2 ^ i % 2 = rw (s, t, q) (odd (bit_and (a / 2 ^ i / 2) (b / 2 ^ i / 2)) (a / 2 ^ i % 2) (omega arith)) in
    rw c
  where
    odd : (x y : ℕ) → y < 2 → (x * 2 + min y 1) % 2 ≡ y
    odd x y l = omega arith

-- ---- masks that follow their rule
module _ (p : ℕ) (masks : List ℕ) (few : p ≤ propositions_most) (rule : masks_rule p masks ≡ true) where
  pub masks-own : (e : ℕ) (b i : ℕ) → chosen masks (leaf (Prop i)) ≡ some b → bit (sample_of masks e b) i ≡ bit e i
  unfolding sample_of
  masks-own e b i c = bit-and e (get_or masks b 0) i (masks-has masks i b c)

  pub masks-below : (i b : ℕ) → bit (get_or masks b 0) i ≡ true → i < p
  unfolding below pick
  masks-below i b h =
      elim (dec_lt i p) [
        | yes l ↦ l
        | no l ↦
            (let q : ltb i p ≡ false = le-ltb i p (omega arith) in
            let z : bit_at 0 i ≡ 0 = ap (λ (x : ℕ). x % 2) (zero-div (2 ^ i)) in
            let u : min 1 (bit_at 0 i + owners masks i) ≡ below p i = sym (union-bit 0 masks i) ∙ ap (λ (x : ℕ). bit_at x i) (rule-union p masks rule) ∙ low-bits-bit p i in
            let e : below p i ≡ 0 = rw q in
            absurd (omega (arith, owners-some masks i b h)))
      ]

  pub masks-mine : (i b : ℕ) → bit (get_or masks b 0) i ≡ true → chosen masks (leaf (Prop i)) ≡ some b
  unfolding chosen below pick
  masks-mine i b h =
      let l = masks-below i b h in
      let e : 0 + b ≡ b = omega arith in
      let y : ltb i p ≡ true = lt-ltb i p l in
      let o : owners masks i ≡ 1 = exact p masks rule few i (omega arith) ∙ rw y in
      mine masks i 0 b (omega arith) h ∙ ap some e

  has-owner : (i : ℕ) → i < p → 0 < owners masks i
  unfolding below pick
  has-owner i l = let x = exact p masks rule few i (omega arith) in let y : ltb i p ≡ true = lt-ltb i p l in rw (x, y) (omega arith)

  leaf-free : (a : Leaf) → Within p 0 (leaf a) → Free (chosen masks) (leaf a)
  unfolding chosen
  leaf-free (Const v) w = tt
  leaf-free (Prop i) w = homed masks i 0 (has-owner i w)
  leaf-free (Hold k) w = absurd (omega arith)

  pub masks-free : (f : Formula) → Within p 0 f → Free (chosen masks) f
  masks-free (leaf a) w = leaf-free a w
  masks-free (one o f) w = masks-free f w
  masks-free (two o f g) w = (masks-free f w.0, masks-free g w.1)
