-- How many nodes stand outside next while a network is laid with a register: laying a part adds no more than twice those of the part
-- (`laid-outer`), unfolding leaves less than two for each node (`unfolded-outer`), so that root and register together have no more than
-- four for each node of the rule (`load-outer`) or of the network (`close-outer`, `entries-outer`). Assumes nothing.
use mathlib.Core.Path.{◌≡◌}
use mathlib.Core.Bool.{Bool, true, false}
use mathlib.Core.List.{List, [], ◌∷◌, ◌++◌}
use mathlib.Core.Option.{Option, none, some}
use Prim.Native.Nat.{ℕ, suc, ◌+◌, ◌*◌, ◌<◌, ◌≤◌}
use native.Mathlib.Omega.{arith}
use lib.ListN.{length}
use lib.Dec.{eqb}
use Rattle.lists.specs.Tests.{pick}
use Rattle.kinds.specs.declared.Leaf.TheVariants.{Const, Prop, Hold}
use Rattle.kinds.specs.declared.Unary.TheVariants.{Not, Next, Ever}
use Rattle.kinds.specs.declared.Binary.TheVariants.{Joined, Until}
use Rattle.ltl.specs.Formula.{Formula, leaf, one, two, size}
use Rattle.ltl.specs.Progression.{unfolded}
use Rattle.network.specs.Layout.{Slot, or_zero}
use Rattle.registers.specs.Register.{Noted, entered, noted, looked_noted, laid_noted}
use Rattle.registers.specs.Relaying.{Entries, held_from, slot_noted, one_more, entries_of, reached_in, load_noted, close_noted}
use Rattle.registers.specs.Numbers.{size_sum}
use Rattle.registers.specs.Outer.{outer, outer_sum}
use Rattle.registers.proofs.Entering.{Enters, known, new, enters}

-- what stands in the slot and in the register
abbrev pub outer_of : Noted → ℕ
outer_of x = outer x.here + outer_sum x.register

pub outer-some : (f : Formula) → 0 < outer f
outer-some (leaf a) = omega arith
outer-some (one Not f) = omega arith
outer-some (one Next f) = omega arith
outer-some (one (Ever j) f) = omega arith
outer-some (two (Joined j) f g) = omega arith
outer-some (two Until f g) = omega arith

-- no formula has more outside next than it has
pub outer-size : (f : Formula) → outer f ≤ size f
outer-size (leaf a) = omega arith
outer-size (one Not f) = let i = outer-size f in omega arith
outer-size (one Next f) = omega arith
outer-size (one (Ever j) f) = omega arith
outer-size (two (Joined j) f g) = let i = outer-size f in let k = outer-size g in omega arith
outer-size (two Until f g) = omega arith

pub outer-behind : (xs ys : List Slot) → outer_sum (xs ++ ys) ≡ outer_sum xs + outer_sum ys
outer-behind [] ys = omega arith
outer-behind (x ∷ xs) ys = let i = outer-behind xs ys in omega arith

one-slot : (s : Slot) → outer_sum (s ∷ []) ≡ outer s.formula
one-slot s = omega arith

pub entered-outer : (s : Slot) (reg : List Slot) → outer_sum (entered s reg) ≤ outer_sum reg + outer s.formula
entered-outer s reg = go (enters s reg)
  where
    go : {k : ℕ} {r : List Slot} → Enters s reg k r → outer_sum r ≤ outer_sum reg + outer s.formula
    go (known l e) = omega arith
    go (new h) = let n = outer-behind reg (s ∷ []) in let o = one-slot s in omega arith

pub noted-outer : (b : ℕ) (f : Formula) (reg : List Slot) → outer_of (noted b f reg) ≤ 1 + outer f + outer_sum reg
noted-outer b (leaf (Const v)) reg = let i = entered-outer (record { board = b; formula = leaf (Const v) }) reg in omega arith
noted-outer b (leaf (Prop p)) reg = let i = entered-outer (record { board = b; formula = leaf (Prop p) }) reg in omega arith
noted-outer b (leaf (Hold k)) reg = omega arith
noted-outer b (one o f) reg = let i = entered-outer (record { board = b; formula = one o f }) reg in omega arith
noted-outer b (two o f g) reg = let i = entered-outer (record { board = b; formula = two o f g }) reg in omega arith

-- the register alone
pub noted-register-outer : (b : ℕ) (f : Formula) (reg : List Slot) → outer_sum (noted b f reg).register ≤ outer f + outer_sum reg
noted-register-outer b (leaf (Const v)) reg = let i = entered-outer (record { board = b; formula = leaf (Const v) }) reg in omega arith
noted-register-outer b (leaf (Prop p)) reg = let i = entered-outer (record { board = b; formula = leaf (Prop p) }) reg in omega arith
noted-register-outer b (leaf (Hold k)) reg = omega arith
noted-register-outer b (one o f) reg = let i = entered-outer (record { board = b; formula = one o f }) reg in omega arith
noted-register-outer b (two o f g) reg = let i = entered-outer (record { board = b; formula = two o f g }) reg in omega arith

pub looked-outer : (o : Option ℕ) (b : ℕ) (reg : List Slot) (lay : ℕ → List Slot → Noted) (n : ℕ) → ((c : ℕ) → outer_of (lay c reg) + 1 ≤ outer_sum reg + n) → outer_of (looked_noted o b reg lay) ≤ outer_sum reg + n
unfolding looked_noted pick
looked-outer none b reg lay n h = let i = h b in omega arith
looked-outer (some c) b reg lay n h = go (eqb c b)
  where
    go : (t : Bool) → outer_of (pick t (lay b reg) (noted c (lay c reg).here (lay c reg).register)) ≤ outer_sum reg + n
    go true = let i = h b in omega arith
    go false = let i = h c in let k = noted-outer c (lay c reg).here (lay c reg).register in omega arith

pub laid-outer : (choose : Formula → Option ℕ) (held : ℕ → ℕ) (f : Formula) (b : ℕ) (reg : List Slot) → outer_of (laid_noted choose held f b reg) + 1 ≤ outer_sum reg + 2 * outer f
unfolding laid_noted
laid-outer choose held (leaf (Const v)) b reg = omega arith
laid-outer choose held (leaf (Prop i)) b reg = omega arith
laid-outer choose held (leaf (Hold m)) b reg = omega arith
laid-outer choose held (one Not f) b reg =
    let i = looked-outer (choose f) b reg (laid_noted choose held f) (2 * outer f) (λ c. laid-outer choose held f c reg) in omega arith
laid-outer choose held (one Next f) b reg = omega arith
laid-outer choose held (one (Ever j) f) b reg = omega arith
laid-outer choose held (two (Joined j) f g) b reg =
    let x = looked_noted (choose f) b reg (laid_noted choose held f) in
    let i = looked-outer (choose f) b reg (laid_noted choose held f) (2 * outer f) (λ c. laid-outer choose held f c reg) in
    let k = looked-outer (choose g) b x.register (laid_noted choose held g) (2 * outer g) (λ c. laid-outer choose held g c x.register) in
    omega arith
laid-outer choose held (two Until f g) b reg = omega arith

pub unfolded-outer : (f : Formula) → outer (unfolded f) + 1 ≤ 2 * size f
unfolded-outer (leaf a) = omega arith
unfolded-outer (one Not f) = let i = unfolded-outer f in omega arith
unfolded-outer (one Next f) = omega arith
unfolded-outer (one (Ever j) f) = let i = unfolded-outer f in omega arith
unfolded-outer (two (Joined j) f g) = let i = unfolded-outer f in let k = unfolded-outer g in omega arith
unfolded-outer (two Until f g) = let i = unfolded-outer f in let k = unfolded-outer g in omega arith

-- ---- a rule
pub load-outer : (choose : Formula → Option ℕ) (rule : Formula) → outer_of (load_noted choose rule) ≤ 4 * size rule
unfolding load_noted
load-outer choose rule =
    let i = laid-outer choose (λ m. m) (unfolded rule) (or_zero (choose (unfolded rule))) [] in
    let k = unfolded-outer rule in
    omega arith

-- ---- a network
pub slot-outer : (choose : Formula → Option ℕ) (i : ℕ) (s : Slot) (e : Entries) → outer_sum (slot_noted choose i s e).register ≤ outer_sum e.register + 4 * size s.formula
slot-outer choose i s e =
    let x = laid_noted choose (held_from i e.numbers) (unfolded s.formula) s.board e.register in
    let l = laid-outer choose (held_from i e.numbers) (unfolded s.formula) s.board e.register in
    let u = unfolded-outer s.formula in
    let n = noted-register-outer s.board x.here x.register in
    omega arith

pub entries-outer : (choose : Formula → Option ℕ) (reached : ℕ → Bool) (i : ℕ) (ss : List Slot) → outer_sum (entries_of choose reached i ss).register ≤ 4 * size_sum ss
unfolding entries_of pick size_sum
entries-outer choose reached i [] = omega arith
entries-outer choose reached i (s ∷ ss) = go (reached i) (entries-outer choose reached (suc i) ss)
  where
    go : (b : Bool) → outer_sum (entries_of choose reached (suc i) ss).register ≤ 4 * size_sum ss
        → outer_sum (pick b (one_more (slot_noted choose (suc i) s (entries_of choose reached (suc i) ss)) (entries_of choose reached (suc i) ss).numbers)
        (record { numbers = 0 ∷ (entries_of choose reached (suc i) ss).numbers; register = (entries_of choose reached (suc i) ss).register })).register ≤ 4 * (size s.formula + size_sum ss)
    go true h = let k = slot-outer choose (suc i) s (entries_of choose reached (suc i) ss) in omega arith
    go false h = omega arith

pub close-outer : (choose : Formula → Option ℕ) (slots : List Slot) → 0 < length slots → outer_of (close_noted choose slots) ≤ 4 * size_sum slots
unfolding close_noted size_sum
close-outer choose [] l = absurd (omega arith)
close-outer choose (s ∷ ss) l =
    let e = entries_of choose (reached_in (s ∷ ss)) 1 ss in
    let i = laid-outer choose (held_from 1 e.numbers) (unfolded s.formula) s.board e.register in
    let u = unfolded-outer s.formula in
    let n = entries-outer choose (reached_in (s ∷ ss)) 1 ss in
    omega arith
