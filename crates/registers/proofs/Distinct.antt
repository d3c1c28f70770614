-- Each slot stands once in a register, whatever is laid: `laid-apart`, `noted-apart`, `looked-apart`, `entries-apart`, `load_apart`,
-- `close-apart`. Nothing is asked of the formulas. Assumes nothing.
use mathlib.Core.Bool.{Bool, true, false}
use mathlib.Core.List.{List, [], ◌∷◌}
use mathlib.Core.Option.{Option, none, some}
use Prim.Native.Nat.{ℕ, suc}
use lib.Dec.{eqb}
use Rattle.lists.specs.Tests.{pick}
use Rattle.kinds.specs.declared.Leaf.TheVariants.{Const, Prop, Hold}
use Rattle.kinds.specs.declared.Unary.TheVariants.{Not, Next, Ever}
use Rattle.kinds.specs.declared.Binary.TheVariants.{Joined, Until}
use Rattle.ltl.specs.Formula.{Formula, leaf, one, two}
use Rattle.ltl.specs.Progression.{unfolded}
use Rattle.network.specs.Layout.{Slot, slot_at, or_zero}
use Rattle.registers.specs.Register.{Noted, noted, looked_noted, laid_noted}
use Rattle.registers.specs.Relaying.{Entries, held_from, slot_noted, one_more, entries_of, reached_in, others, load_noted, close_noted}
use Rattle.registers.proofs.Entering.{Apart, apart_none, apart-entered}

pub noted-apart : (b : ℕ) (f : Formula) (reg : List Slot) → Apart reg → Apart (noted b f reg).register
noted-apart b (leaf (Const v)) reg a = apart-entered (record { board = b; formula = leaf (Const v) }) reg a
noted-apart b (leaf (Prop i)) reg a = apart-entered (record { board = b; formula = leaf (Prop i) }) reg a
noted-apart b (leaf (Hold k)) reg a = a
noted-apart b (one o f) reg a = apart-entered (record { board = b; formula = one o f }) reg a
noted-apart b (two o f g) reg a = apart-entered (record { board = b; formula = two o f g }) reg a

pub looked-apart : (o : Option ℕ) (b : ℕ) (reg : List Slot) (lay : ℕ → List Slot → Noted) → ((c : ℕ) → Apart (lay c reg).register) → Apart (looked_noted o b reg lay).register
unfolding looked_noted pick
looked-apart none b reg lay h = h b
looked-apart (some c) b reg lay h = go (eqb c b)
  where
    go : (t : Bool) → Apart (pick t (lay b reg) (noted c (lay c reg).here (lay c reg).register)).register
    go true = h b
    go false = noted-apart c (lay c reg).here (lay c reg).register (h c)

module _ (choose : Formula → Option ℕ) where
  pub laid-apart : (held : ℕ → ℕ) (f : Formula) (b : ℕ) (reg : List Slot) → Apart reg → Apart (laid_noted choose held f b reg).register
  unfolding laid_noted
  laid-apart held (leaf (Const v)) b reg a = a
  laid-apart held (leaf (Prop i)) b reg a = a
  laid-apart held (leaf (Hold m)) b reg a = a
  laid-apart held (one Not f) b reg a = looked-apart (choose f) b reg (laid_noted choose held f) (λ c. laid-apart held f c reg a)
  laid-apart held (one Next f) b reg a = a
  laid-apart held (one (Ever j) f) b reg a = a
  laid-apart held (two (Joined j) f g) b reg a =
      let x = looked_noted (choose f) b reg (laid_noted choose held f) in
      looked-apart (choose g) b x.register (laid_noted choose held g)
      (λ c. laid-apart held g c x.register (looked-apart (choose f) b reg (laid_noted choose held f) (λ d. laid-apart held f d reg a)))
  laid-apart held (two Until f g) b reg a = a

  pub slot_apart : (i : ℕ) (s : Slot) (e : Entries) → Apart e.register → Apart (slot_noted choose i s e).register
  slot_apart i s e a =
      let x = laid_noted choose (held_from i e.numbers) (unfolded s.formula) s.board e.register in
      noted-apart s.board x.here x.register (laid-apart (held_from i e.numbers) (unfolded s.formula) s.board e.register a)

  pub entries-apart : (reached : ℕ → Bool) (i : ℕ) (ss : List Slot) → Apart (entries_of choose reached i ss).register
  unfolding entries_of pick
  entries-apart reached i [] = apart_none
  entries-apart reached i (s ∷ ss) = go (reached i) (entries-apart reached (suc i) ss)
    where
      go : (t : Bool) → Apart (entries_of choose reached (suc i) ss).register
          → Apart
          (pick t (one_more (slot_noted choose (suc i) s (entries_of choose reached (suc i) ss)) (entries_of choose reached (suc i) ss).numbers)
          (record { numbers = 0 ∷ (entries_of choose reached (suc i) ss).numbers; register = (entries_of choose reached (suc i) ss).register })).register
      go true a = slot_apart (suc i) s (entries_of choose reached (suc i) ss) a
      go false a = a

  pub load_apart : (rule : Formula) → Apart (load_noted choose rule).register
  unfolding load_noted
  load_apart rule = laid-apart (λ m. m) (unfolded rule) (or_zero (choose (unfolded rule))) [] apart_none

  pub close-apart : (slots : List Slot) → Apart (close_noted choose slots).register
  unfolding close_noted
  close-apart slots =
      let e = entries_of choose (reached_in slots) 1 (others slots) in
      laid-apart (held_from 1 e.numbers) (unfolded (slot_at slots 0).formula) (slot_at slots 0).board e.register (entries-apart (reached_in slots) 1 (others slots))
