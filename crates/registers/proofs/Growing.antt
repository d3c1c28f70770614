-- The register only grows at its end, whatever is laid: `laid_more`, `noted_more`, `looked-more`, `entries-more`. Assumes nothing.
use mathlib.Core.Path.{◌≡◌, refl, sym, ap, ◌∙◌}
use mathlib.Core.Bool.{Bool, true, false}
use mathlib.Core.List.{List, [], ◌∷◌, ◌++◌, append_assoc, append-nil}
use mathlib.Core.Option.{Option, none, some}
use Prim.Native.Nat.{ℕ, suc, ◌+◌, ◌≤◌}
use native.Mathlib.Omega.{arith}
use lib.ListN.{length, length-append}
use lib.Dec.{eqb}
use Rattle.lists.specs.Tests.{pick}
use Rattle.kinds.specs.declared.Leaf.TheVariants.{Const, Prop, Hold}
use Rattle.kinds.specs.declared.Unary.TheVariants.{Not, Next, Ever}
use Rattle.kinds.specs.declared.Binary.TheVariants.{Joined, Until}
use Rattle.ltl.specs.Formula.{Formula, leaf, one, two}
use Rattle.ltl.specs.Progression.{unfolded}
use Rattle.network.specs.Layout.{Slot, slot_at}
use Rattle.registers.specs.Register.{Noted, entered, noted, looked_noted, laid_noted}
use Rattle.registers.specs.Relaying.{Entries, one_more, held_from, slot_noted, entries_of, reached_in, others, close_noted}
use Rattle.registers.proofs.Entering.{entered-more}

-- a register is another one with entries put behind it
pub record Longer (reg after : List Slot) : Type 0 where
  pub more : List Slot
  pub is : after ≡ reg ++ more

pub longer-same : (reg : List Slot) → Longer reg reg
longer-same reg = record { more = []; is = sym (append-nil reg) }

pub longer-on : (a b c : List Slot) → Longer a b → Longer b c → Longer a c
longer-on a b c p q =
    record { more = p.more ++ q.more; is = q.is ∙ ap (◌++ q.more) p.is ∙ append_assoc a p.more q.more }

pub longer-length : (reg after : List Slot) → Longer reg after → length reg ≤ length after
longer-length reg after p = let e = ap (λ (x : List Slot). length x) p.is in let n = length-append reg p.more in omega arith

pub longer-entered : (s : Slot) (reg : List Slot) → Longer reg (entered s reg)
longer-entered s reg = let e = entered-more s reg in record { more = e.0; is = e.1 }

pub noted_more : (b : ℕ) (f : Formula) (reg : List Slot) → Longer reg (noted b f reg).register
noted_more b (leaf (Const v)) reg = longer-entered (record { board = b; formula = leaf (Const v) }) reg
noted_more b (leaf (Prop i)) reg = longer-entered (record { board = b; formula = leaf (Prop i) }) reg
noted_more b (leaf (Hold k)) reg = longer-same reg
noted_more b (one o f) reg = longer-entered (record { board = b; formula = one o f }) reg
noted_more b (two o f g) reg = longer-entered (record { board = b; formula = two o f g }) reg

pub looked-more : (o : Option ℕ) (b : ℕ) (reg : List Slot) (lay : ℕ → List Slot → Noted) → ((c : ℕ) → Longer reg (lay c reg).register) → Longer reg (looked_noted o b reg lay).register
unfolding looked_noted pick
looked-more none b reg lay h = h b
looked-more (some c) b reg lay h = go (eqb c b)
  where
    go : (t : Bool) → Longer reg (pick t (lay b reg) (noted c (lay c reg).here (lay c reg).register)).register
    go true = h b
    go false = longer-on reg (lay c reg).register _ (h c) (noted_more c (lay c reg).here (lay c reg).register)

module _ (choose : Formula → Option ℕ) where
  pub laid_more : (held : ℕ → ℕ) (f : Formula) (b : ℕ) (reg : List Slot) → Longer reg (laid_noted choose held f b reg).register
  unfolding laid_noted
  laid_more held (leaf (Const v)) b reg = longer-same reg
  laid_more held (leaf (Prop i)) b reg = longer-same reg
  laid_more held (leaf (Hold m)) b reg = longer-same reg
  laid_more held (one Not f) b reg = looked-more (choose f) b reg (laid_noted choose held f) (λ c. laid_more held f c reg)
  laid_more held (one Next f) b reg = longer-same reg
  laid_more held (one (Ever j) f) b reg = longer-same reg
  laid_more held (two (Joined j) f g) b reg =
      let x = looked_noted (choose f) b reg (laid_noted choose held f) in
      longer-on reg x.register _ (looked-more (choose f) b reg (laid_noted choose held f) (λ c. laid_more held f c reg))
      (looked-more (choose g) b x.register (laid_noted choose held g) (λ c. laid_more held g c x.register))
  laid_more held (two Until f g) b reg = longer-same reg

  pub slot-more : (i : ℕ) (s : Slot) (e : Entries) → Longer e.register (slot_noted choose i s e).register
  slot-more i s e =
      let x = laid_noted choose (held_from i e.numbers) (unfolded s.formula) s.board e.register in
      longer-on e.register x.register _ (laid_more (held_from i e.numbers) (unfolded s.formula) s.board e.register) (noted_more s.board x.here x.register)

  -- the slots of a row: what those behind the first one have entered stays
  pub entries-more : (reached : ℕ → Bool) (i : ℕ) (s : Slot) (ss : List Slot) → Longer (entries_of choose reached (suc i) ss).register (entries_of choose reached i (s ∷ ss)).register
  unfolding entries_of pick
  entries-more reached i s ss = go (reached i)
    where
      go : (t : Bool) → Longer (entries_of choose reached (suc i) ss).register
          (pick t (one_more (slot_noted choose (suc i) s (entries_of choose reached (suc i) ss)) (entries_of choose reached (suc i) ss).numbers)
          (record { numbers = 0 ∷ (entries_of choose reached (suc i) ss).numbers; register = (entries_of choose reached (suc i) ss).register })).register
      go true = slot-more (suc i) s (entries_of choose reached (suc i) ss)
      go false = longer-same (entries_of choose reached (suc i) ss).register

  -- there is a number for each slot
  pub entries-length : (reached : ℕ → Bool) (i : ℕ) (ss : List Slot) → length (entries_of choose reached i ss).numbers ≡ length ss
  unfolding entries_of pick
  entries-length reached i [] = refl
  entries-length reached i (s ∷ ss) = go (reached i) (entries-length reached (suc i) ss)
    where
      go : (t : Bool) → length (entries_of choose reached (suc i) ss).numbers ≡ length ss
          → length (pick t (one_more (slot_noted choose (suc i) s (entries_of choose reached (suc i) ss)) (entries_of choose reached (suc i) ss).numbers)
          (record { numbers = 0 ∷ (entries_of choose reached (suc i) ss).numbers; register = (entries_of choose reached (suc i) ss).register })).numbers ≡ suc (length ss)
      go true e = ap suc e
      go false e = ap suc e

  -- and the root's layout leaves those of the slots behind it
  pub close_more : (slots : List Slot) → Longer (entries_of choose (reached_in slots) 1 (others slots)).register (close_noted choose slots).register
  unfolding close_noted
  close_more slots =
      let e = entries_of choose (reached_in slots) 1 (others slots) in
      laid_more (held_from 1 e.numbers) (unfolded (slot_at slots 0).formula) (slot_at slots 0).board e.register
