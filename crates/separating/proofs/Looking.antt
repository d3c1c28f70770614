-- A part that is looked at, by its choice as a number: it stays (`looked-stays`), or becomes a slot of its own, which is entered
-- (`looked-cut`). An entry's number is above those that it holds (`entry-above`). What stands in a slot is no longer than the formula that
-- was laid (`laid-size`), and each number in it has a code (`laid-coded`). Assumes nothing.
use mathlib.Core.Path.{◌≡◌, refl, sym, subst}
use mathlib.Core.Bool.{Bool, true, false}
use mathlib.Core.List.{List}
use mathlib.Core.Option.{Option, none, some}
use Prim.Native.Nat.{ℕ, ◌<◌, ◌≤◌}
use native.Mathlib.Omega.{arith}
use lib.ListN.{length}
use lib.Dec.{eqb}
use borrow.Author.Tests.{eqb-true, eq-eqb}
use Rattle.lists.specs.Tests.{pick, either}
use Rattle.limits.specs.Limits.{boards_most, holder_codes}
use Rattle.kinds.specs.declared.Leaf.TheVariants.{Const, Prop, Hold}
use Rattle.kinds.specs.declared.Unary.TheVariants.{Not, Next, Ever}
use Rattle.kinds.specs.declared.Binary.TheVariants.{Joined, Until}
use Rattle.ltl.specs.Formula.{Formula, leaf, one, two, size, Coded}
use Rattle.ltl.proofs.Decoding.{size-some}
use Rattle.network.specs.Layout.{Slot}
use Rattle.registers.specs.Register.{Noted, entry_of, entered, enter, noted, looked_noted, laid_noted}
use Rattle.registers.specs.Relaying.{holds_of}
use Rattle.registers.proofs.Members.{OneOf}
use Rattle.registers.proofs.Entering.{entry-below, entry-stands}
use Rattle.registers.proofs.Growing.{longer-length, noted_more, looked-more, laid_more}
use Rattle.registers.proofs.Earlier.{Earlier, earlier-entry, enter-earlier}
use Rattle.scores.specs.Choice.{code_of, stays_on}

-- ---- by its choice
-- where the choice lets it stay it is laid on its holder's board
pub looked-stays : (o : Option ℕ) (b : ℕ) (reg : List Slot) (lay : ℕ → List Slot → Noted) → ((c : ℕ) → o ≡ some c → c < boards_most)
    → stays_on (code_of o) b ≡ true → looked_noted o b reg lay ≡ lay b reg
unfolding looked_noted stays_on either pick
looked-stays none b reg lay l e = refl
looked-stays (some c) b reg lay l e = go (eqb c boards_most) (eqb c b) refl e
  where
    go : (s t : Bool) → eqb c boards_most ≡ s → either s t ≡ true → pick t (lay b reg) (noted c (lay c reg).here (lay c reg).register) ≡ lay b reg
    go true t p q = absurd (let m = eqb-true c boards_most p in let n = l c refl in omega arith)
    go false true p q = refl
    go false false p q = absurd (let z : ◌≡◌ {A = ℕ} 0 1 = cc in omega arith)

-- a choice that is cut is a board
pub record CutToBoard (o : Option ℕ) (choice : ℕ) : Type 0 where
  pub chosen_is : o ≡ some choice
  pub there : choice < boards_most

-- by the test that says so
pub cut-to : (o : Option ℕ) (b : ℕ) → ((c : ℕ) → o ≡ some c → c < boards_most) → stays_on (code_of o) b ≡ false → CutToBoard o (code_of o)
unfolding stays_on either
cut-to none b l e = absurd (let p = eq-eqb boards_most boards_most refl in let z : ◌≡◌ {A = ℕ} 0 1 = cc in omega arith)
cut-to (some c) b l e = record { chosen_is = refl; there = l c refl }

-- where the choice cuts it, it is laid on its choice and entered, unless a place holder is all that it is
pub looked-cut : (o : Option ℕ) (b : ℕ) (reg : List Slot) (lay : ℕ → List Slot → Noted) → ((c : ℕ) → o ≡ some c → c < boards_most)
    → stays_on (code_of o) b ≡ false → let x = lay (code_of o) reg in looked_noted o b reg lay ≡ noted (code_of o) x.here x.register
unfolding looked_noted stays_on either pick
looked-cut none b reg lay l e = absurd (let p = eq-eqb boards_most boards_most refl in let z : ◌≡◌ {A = ℕ} 0 1 = cc in omega arith)
looked-cut (some c) b reg lay l e = go (eqb c boards_most) (eqb c b) e
  where
    go : (s t : Bool) → either s t ≡ false → pick t (lay b reg) (noted c (lay c reg).here (lay c reg).register) ≡ noted c (lay c reg).here (lay c reg).register
    go true t q = absurd (let z : ◌≡◌ {A = ℕ} 0 1 = cc in omega arith)
    go false true q = absurd (let z : ◌≡◌ {A = ℕ} 0 1 = cc in omega arith)
    go false false q = refl

-- a formula that is no place holder is entered as it was laid
module _ (choose : Formula → Option ℕ) (held : ℕ → ℕ) where
  pub laid-enters : (f : Formula) (b c : ℕ) (reg r : List Slot) → ((m : ℕ) → f ≡ leaf (Hold m) → ⊥)
      → noted c (laid_noted choose held f b reg).here r ≡ enter (record { board = c; formula = (laid_noted choose held f b reg).here }) r
  unfolding laid_noted
  laid-enters (leaf (Const v)) b c reg r h = refl
  laid-enters (leaf (Prop i)) b c reg r h = refl
  laid-enters (leaf (Hold m)) b c reg r h = absurd (h m refl)
  laid-enters (one Not f) b c reg r h = refl
  laid-enters (one Next f) b c reg r h = refl
  laid-enters (one (Ever j) f) b c reg r h = refl
  laid-enters (two (Joined j) f g) b c reg r h = refl
  laid-enters (two Until f g) b c reg r h = refl

-- ---- what an entry holds is below it
pub entry-above : (reg r : List Slot) (b : ℕ) (f : Formula) → Earlier reg (record { here = f; register = r }) → (k : ℕ) → OneOf k (holds_of f)
    → k < entry_of (record { board = b; formula = f }) r
entry-above reg r b f e k h =
    let s : Slot = record { board = b; formula = f } in
    let x = enter-earlier reg r b f e in
    earlier-entry (entered s r) x.registered (entry_of s r) (entry-below s r) k
    (subst (λ (t : Slot). OneOf k (holds_of t.formula)) (sym (entry-stands s r)) h)

-- ---- how large
module _ (choose : Formula → Option ℕ) (held : ℕ → ℕ) where
  -- what stands for a part that was cut is one node
  noted-size : (b : ℕ) (f : Formula) (reg : List Slot) → size (noted b f reg).here ≤ size f
  noted-size b (leaf (Const v)) reg = omega arith
  noted-size b (leaf (Prop i)) reg = omega arith
  noted-size b (leaf (Hold k)) reg = omega arith
  noted-size b (one o f) reg = let z = size-some (one o f) in omega arith
  noted-size b (two o f g) reg = let z = size-some (two o f g) in omega arith

  -- what stands for a part is no longer than the part is on any board
  looked-size : (o : Option ℕ) (b : ℕ) (reg : List Slot) (lay : ℕ → List Slot → Noted) (n : ℕ) → ((c : ℕ) → size (lay c reg).here ≤ n)
      → size (looked_noted o b reg lay).here ≤ n
  unfolding looked_noted pick
  looked-size none b reg lay n h = h b
  looked-size (some c) b reg lay n h = go (eqb c b)
    where
      go : (t : Bool) → size (pick t (lay b reg) (noted c (lay c reg).here (lay c reg).register)).here ≤ n
      go true = h b
      go false = let x = h c in let y = noted-size c (lay c reg).here (lay c reg).register in omega arith

  -- a slot is no longer than the formula that was laid
  pub laid-size : (f : Formula) (b : ℕ) (reg : List Slot) → size (laid_noted choose held f b reg).here ≤ size f
  unfolding laid_noted
  laid-size (leaf (Const v)) b reg = omega arith
  laid-size (leaf (Prop i)) b reg = omega arith
  laid-size (leaf (Hold m)) b reg = omega arith
  laid-size (one Not f) b reg = let x = looked-size (choose f) b reg (laid_noted choose held f) (size f) (λ c. laid-size f c reg) in omega arith
  laid-size (one Next f) b reg = omega arith
  laid-size (one (Ever j) f) b reg = omega arith
  laid-size (two (Joined j) f g) b reg =
      let r = (looked_noted (choose f) b reg (laid_noted choose held f)).register in
      let x = looked-size (choose f) b reg (laid_noted choose held f) (size f) (λ c. laid-size f c reg) in
      let y = looked-size (choose g) b r (laid_noted choose held g) (size g) (λ c. laid-size g c r) in
      omega arith
  laid-size (two Until f g) b reg = omega arith

  -- ---- codes, where the register has no more entries than there are codes
  noted-coded : (b : ℕ) (f : Formula) (reg : List Slot) → Coded f → length (noted b f reg).register ≤ holder_codes → Coded (noted b f reg).here
  noted-coded b (leaf (Const v)) reg w l = let e = entry-below (record { board = b; formula = leaf (Const v) }) reg in omega arith
  noted-coded b (leaf (Prop i)) reg w l = let e = entry-below (record { board = b; formula = leaf (Prop i) }) reg in omega arith
  noted-coded b (leaf (Hold k)) reg w l = w
  noted-coded b (one o f) reg w l = let e = entry-below (record { board = b; formula = one o f }) reg in omega arith
  noted-coded b (two o f g) reg w l = let e = entry-below (record { board = b; formula = two o f g }) reg in omega arith

  looked-coded : (o : Option ℕ) (b : ℕ) (reg : List Slot) (lay : ℕ → List Slot → Noted)
      → ((c : ℕ) → length (lay c reg).register ≤ holder_codes → Coded (lay c reg).here)
      → length (looked_noted o b reg lay).register ≤ holder_codes → Coded (looked_noted o b reg lay).here
  unfolding looked_noted pick
  looked-coded none b reg lay h l = h b l
  looked-coded (some c) b reg lay h l = go (eqb c b) l
    where
      go : (t : Bool) → length (pick t (lay b reg) (noted c (lay c reg).here (lay c reg).register)).register ≤ holder_codes
          → Coded (pick t (lay b reg) (noted c (lay c reg).here (lay c reg).register)).here
      go true m = h b m
      go false m =
          let x = lay c reg in
          let n = longer-length x.register (noted c x.here x.register).register (noted_more c x.here x.register) in
          noted-coded c x.here x.register (h c (omega arith)) m

  module _ (below : (m : ℕ) → held m < holder_codes) where
    -- a slot's numbers have codes where the formula's have
    pub laid-coded : (f : Formula) (b : ℕ) (reg : List Slot) → Coded f → length (laid_noted choose held f b reg).register ≤ holder_codes
        → Coded (laid_noted choose held f b reg).here
    unfolding laid_noted
    laid-coded (leaf (Const v)) b reg w l = w
    laid-coded (leaf (Prop i)) b reg w l = w
    laid-coded (leaf (Hold m)) b reg w l = below m
    laid-coded (one Not f) b reg w l = looked-coded (choose f) b reg (laid_noted choose held f) (λ c n. laid-coded f c reg w n) l
    laid-coded (one Next f) b reg w l = w
    laid-coded (one (Ever j) f) b reg w l = w
    laid-coded (two (Joined j) f g) b reg w l =
        let x = looked_noted (choose f) b reg (laid_noted choose held f) in
        let y = looked_noted (choose g) b x.register (laid_noted choose held g) in
        let m = looked-more (choose g) b x.register (laid_noted choose held g) (λ c. laid_more choose held g c x.register) in
        let n = longer-length x.register y.register m in (
          looked-coded (choose f) b reg (laid_noted choose held f) (λ c i. laid-coded f c reg w.0 i) (omega arith),
          looked-coded (choose g) b x.register (laid_noted choose held g) (λ c i. laid-coded g c x.register w.1 i) l,
        )
    laid-coded (two Until f g) b reg w l = w
