-- Chains by raising what is held: what one raise does (`raised-none`, `raised-one`, `raised_both`, `raised-up`, `raised-has`, `raised-under`),
-- and all of them from the last entry down: a chain never falls (`down-up`), is done once its own entry comes (`down-still`), and is
-- longer than that of each holder (`down-rises`). Assumes nothing.
use mathlib.Core.Path.{◌≡◌, refl, ap, ap₂, ◌∙◌, subst}
use mathlib.Core.Bool.{Bool, true, false}
use mathlib.Core.List.{List, [], ◌∷◌, ◌++◌}
use Prim.Native.Nat.{ℕ, zero, suc, ◌+◌, ◌<◌, ◌≤◌, max}
use native.Mathlib.Omega.{arith}
use native.Mathlib.Decide.{ℕ_discrete}
use lib.ListN.{length}
use lib.Dec.{eqb}
use Rattle.lists.specs.Tests.{pick, either}
use Rattle.network.specs.Layout.{Slot, slot_at}
use Rattle.registers.specs.Relaying.{is_among}
use Rattle.registers.specs.Numbers.{holds_at, raised, chains_down}
use Rattle.registers.proofs.Expanding.{Registered}
use Rattle.registers.proofs.Members.{OneOf, among-is, among_of, among-both, among_one, holds-each}

-- ---- what is held is raised
pub raised-up : (n : ℕ) (ks : List ℕ) (chain : ℕ → ℕ) (m : ℕ) → chain m ≤ raised n ks chain m
unfolding raised pick
raised-up n ks chain m = go (is_among m ks)
  where
    go : (b : Bool) → chain m ≤ pick b (max (chain m) n) (chain m)
    go true = omega arith
    go false = omega arith

pub raised-has : (n : ℕ) (ks : List ℕ) (chain : ℕ → ℕ) (m : ℕ) → OneOf m ks → n ≤ raised n ks chain m
unfolding raised pick
raised-has n ks chain m a = rw (among_of m ks a) (omega arith)

pub raised-other : (n : ℕ) (ks : List ℕ) (chain : ℕ → ℕ) (m : ℕ) → (OneOf m ks → ⊥) → raised n ks chain m ≡ chain m
unfolding raised pick
raised-other n ks chain m h = go (is_among m ks) refl
  where
    go : (b : Bool) → is_among m ks ≡ b → pick b (max (chain m) n) (chain m) ≡ chain m
    go true e = absurd (h (among-is m ks e))
    go false e = refl

pub raised-under : (n : ℕ) (ks : List ℕ) (chain : ℕ → ℕ) (m top : ℕ) → chain m ≤ top → (OneOf m ks → n ≤ top) → raised n ks chain m ≤ top
unfolding raised pick
raised-under n ks chain m top l h = go (is_among m ks) refl
  where
    go : (b : Bool) → is_among m ks ≡ b → pick b (max (chain m) n) (chain m) ≤ top
    go true e = let q = h (among-is m ks e) in omega arith
    go false e = l

pub raised-none : (n : ℕ) (chain : ℕ → ℕ) (m : ℕ) → raised n [] chain m ≡ chain m
unfolding raised pick is_among
raised-none n chain m = refl

pub raised-one : (n k : ℕ) (chain : ℕ → ℕ) (m : ℕ) → raised n (k ∷ []) chain m ≡ pick (eqb m k) (max (chain m) n) (chain m)
unfolding raised
raised-one n k chain m = ap (λ (b : Bool). pick b (max (chain m) n) (chain m)) (among_one m k)

-- one list after the other
pub raised_both : (n : ℕ) (xs ys : List ℕ) (chain : ℕ → ℕ) (m : ℕ) → raised n (xs ++ ys) chain m ≡ raised n ys (raised n xs chain) m
unfolding raised pick either
raised_both n xs ys chain m = ap (λ (b : Bool). pick b (max (chain m) n) (chain m)) (among-both m xs ys) ∙ split (is_among m xs) (is_among m ys)
  where
    split : (a b : Bool) → pick (either a b) (max (chain m) n) (chain m) ≡ pick b (max (pick a (max (chain m) n) (chain m)) n) (pick a (max (chain m) n) (chain m))
    split true true = omega arith
    split true false = refl
    split false true = refl
    split false false = refl

-- ---- from the last entry down
module _ (reg : List Slot) (order : Registered reg) where
  pub holds-earlier : (j : ℕ) → j < length reg → (m : ℕ) → OneOf m (holds_at reg j) → m < j
  holds-earlier j l m a = holds-each (λ i. i < j) (slot_at reg j).formula (order.earlier j l) m a

  pub down-up : (j : ℕ) (chain : ℕ → ℕ) (m : ℕ) → chain m ≤ chains_down reg j chain m
  unfolding chains_down
  down-up zero chain m = omega arith
  down-up (suc j) chain m =
      let p = raised-up (chain j + 1) (holds_at reg j) chain m in
      let q = down-up j (raised (chain j + 1) (holds_at reg j) chain) m in
      omega arith

  pub down-still : (j : ℕ) (chain : ℕ → ℕ) (m : ℕ) → j ≤ length reg → j ≤ m → chains_down reg j chain m ≡ chain m
  unfolding chains_down
  down-still zero chain m l h = refl
  down-still (suc j) chain m l h =
      down-still j (raised (chain j + 1) (holds_at reg j) chain) m (omega arith) (omega arith)
      ∙ raised-other (chain j + 1) (holds_at reg j) chain m (λ a. (let q = holds-earlier j (omega arith) m a in absurd (omega arith)))

  -- an entry's chain is longer than that of each that holds it
  pub down-rises : (j : ℕ) (chain : ℕ → ℕ) (i k : ℕ) → j ≤ length reg → i < j → OneOf k (holds_at reg i) → chains_down reg j chain i + 1 ≤ chains_down reg j chain k
  unfolding chains_down
  down-rises zero chain i k l h a = absurd (omega arith)
  down-rises (suc j) chain i k l h a = go (ℕ_discrete i j) (λ q. down-rises j next i k (omega arith) q a)
    where
      next : ℕ → ℕ
      next = raised (chain j + 1) (holds_at reg j) chain

      go : Dec (i ≡ j) → (i < j → chains_down reg j next i + 1 ≤ chains_down reg j next k) → chains_down reg j next i + 1 ≤ chains_down reg j next k
      go (yes e) ih =
          let still = down-still j next i (omega arith) (omega arith) in
          let same = raised-other (chain j + 1) (holds_at reg j) chain i (λ x. (let q = holds-earlier j (omega arith) i x in absurd (omega arith))) in
          let at = ap chain e in
          let has = raised-has (chain j + 1) (holds_at reg j) chain k (subst (λ (x : ℕ). OneOf k (holds_at reg x)) e a) in
          let up = down-up j next k in
          omega arith
      go (no e) ih = ih (omega arith)

  pub down-has : (j : ℕ) (chain : ℕ → ℕ) (m n : ℕ) → n ≤ chain m → n ≤ chains_down reg j chain m
  down-has j chain m n l = let u = down-up j chain m in omega arith

  -- only the chains of entries matter
  pub down-same : (j : ℕ) (f g : ℕ → ℕ) → ((m : ℕ) → m < length reg → f m ≡ g m) → j ≤ length reg → (m : ℕ) → m < length reg → chains_down reg j f m ≡ chains_down reg j g m
  unfolding chains_down raised
  down-same zero f g h l m k = h m k
  down-same (suc j) f g h l m k =
      down-same j (raised (f j + 1) (holds_at reg j) f) (raised (g j + 1) (holds_at reg j) g)
      (λ i q. ap₂ (λ (x y : ℕ). pick (is_among i (holds_at reg j)) (max x (y + 1)) x) (h i q) (h j (omega arith))) (omega arith) m k
