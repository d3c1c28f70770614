-- A register: slots told apart, each entered once. A place holder in an entry stands for another entry, one that was entered before it.
-- Laying with a register at hand enters each part that is cut. Everything here is over the function that chooses a board for a part.
-- Assumes nothing: these are definitions.
use Rattle.std.specs.Prelude.{ℕ, suc, Bool, List, [], ◌∷◌, eqb}
use Rattle.std.proofs.Math.Option.{Option, none, some}
use Rattle.lists.specs.Tests.{pick, both}
use Rattle.kinds.specs.declared.Leaf.TheVariants.{Const, Prop, Hold}
use Rattle.kinds.specs.declared.Unary.{Unary}
use Rattle.kinds.specs.declared.Unary.TheVariants.{Not, Next, Ever}
use Rattle.kinds.specs.declared.Join.{Join}
use Rattle.kinds.specs.declared.Binary.TheVariants.{Joined, Until}
use Rattle.ltl.specs.Formula.{Formula, leaf, one, two, join, same}
use Rattle.network.specs.Layout.{Slot}

-- slots on one board with equal nodes
unfoldable pub same_slot : Slot → Slot → Bool
same_slot s t = both (eqb s.board t.board) (same s.formula t.formula)

-- the entry of a slot: where it stands, or behind the last one
unfoldable pub entry_of : Slot → List Slot → ℕ
entry_of s [] = 0
entry_of s (t ∷ ts) = pick (same_slot s t) 0 (suc (entry_of s ts))

-- the register with a slot entered, behind the others unless it is there
unfoldable pub entered : Slot → List Slot → List Slot
entered s [] = s ∷ []
entered s (t ∷ ts) = pick (same_slot s t) (t ∷ ts) (t ∷ entered s ts)

-- a part as it was laid: what stands in its slot, and the register then
pub record Noted : Type 0 where
  pub here : Formula
  pub register : List Slot

-- a part that becomes a slot of its own: it is entered, and its place holder stands for its entry
abbrev pub enter : Slot → List Slot → Noted
enter s reg = record { here = leaf (Hold (entry_of s reg)); register = entered s reg }

-- the same on board b, where a part that is one place holder is left out: it only passes another's answer on
abbrev pub noted : ℕ → Formula → List Slot → Noted
noted b (leaf (Const v)) reg = enter (record { board = b; formula = leaf (Const v) }) reg
noted b (leaf (Prop i)) reg = enter (record { board = b; formula = leaf (Prop i) }) reg
noted b (leaf (Hold k)) reg = record { here = leaf (Hold k); register = reg }
noted b (one o f) reg = enter (record { board = b; formula = one o f }) reg
noted b (two o f g) reg = enter (record { board = b; formula = two o f g }) reg

abbrev pub under_noted : Unary → Noted → Noted
under_noted o x = record { here = one o x.here; register = x.register }

-- an operand of a slot on board b is looked at, as `looked` does (crates/network/specs/Layout.antt)
unfoldable pub looked_noted : Option ℕ → ℕ → List Slot → (ℕ → List Slot → Noted) → Noted
looked_noted none b reg lay = lay b reg
looked_noted (some c) b reg lay = pick (eqb c b) (lay b reg) (let x = lay c reg in noted c x.here x.register)

-- the two operands of a join, the left one first
abbrev pub beside_noted : Join → Formula → Noted → Noted
beside_noted j f y = record { here = join j f y.here; register = y.register }

-- a formula in a slot on board b, as `laid` does; a place holder that is met stands for the entry of its slot, which is there
-- already: `held` says which
unfoldable pub laid_noted : (Formula → Option ℕ) → (ℕ → ℕ) → Formula → ℕ → List Slot → Noted
laid_noted choose held (leaf (Const v)) b reg = record { here = leaf (Const v); register = reg }
laid_noted choose held (leaf (Prop i)) b reg = record { here = leaf (Prop i); register = reg }
laid_noted choose held (leaf (Hold m)) b reg = record { here = leaf (Hold (held m)); register = reg }
laid_noted choose held (one Not f) b reg = under_noted Not (looked_noted (choose f) b reg (laid_noted choose held f))
laid_noted choose held (one Next f) b reg = record { here = one Next f; register = reg }
laid_noted choose held (one (Ever j) f) b reg = record { here = one (Ever j) f; register = reg }
laid_noted choose held (two (Joined j) f g) b reg =
    let x = looked_noted (choose f) b reg (laid_noted choose held f) in
    beside_noted j x.here (looked_noted (choose g) b x.register (laid_noted choose held g))
laid_noted choose held (two Until f g) b reg = record { here = two Until f g; register = reg }
