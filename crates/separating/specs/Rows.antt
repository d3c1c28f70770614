-- Parts that are looked at one after the other, the register handed on; what they are in tokens; and where laying a slot stands between
-- two of its parts. Assumes nothing: these are definitions.
use Rattle.std.specs.Prelude.{◌≡◌, List, [], ◌∷◌, ◌++◌, ℕ, ◌+◌}
use Rattle.std.proofs.Math.Option.{Option}
use Rattle.ltl.specs.Formula.{Formula, size}
use Rattle.network.specs.Layout.{Slot}
use Rattle.registers.specs.Register.{Noted, looked_noted, laid_noted}
use Rattle.registers.specs.Relaying.{holds_of}
use Rattle.registers.specs.Outer.{outer}
use Rattle.registers.proofs.Members.{OneOf}
use Rattle.tokens.specs.Tokens.{SpellsFrom, Spelt}

-- what stands for some parts in their slot, and the register then
pub record LookedRow : Type 0 where
  pub heres : List Formula
  pub register : List Slot

-- ---- over a row of formulas: all their nodes
abbrev pub sizes_of : List Formula → ℕ
sizes_of [] = 0
sizes_of (f ∷ fs) = size f + sizes_of fs

-- how many tokens they take
abbrev pub outers_of : List Formula → ℕ
outers_of [] = 0
outers_of (f ∷ fs) = outer f + outers_of fs

-- the entries that they hold
abbrev pub holds_all : List Formula → List ℕ
holds_all [] = []
holds_all (f ∷ fs) = holds_of f ++ holds_all fs

-- ---- the parts looked at
module _ (choose : Formula → Option ℕ) (held : ℕ → ℕ) (b : ℕ) where
  -- one part: what stands for it in the slot on b, and the register then
  abbrev pub looked_at : Formula → List Slot → Noted
  looked_at f reg = looked_noted (choose f) b reg (laid_noted choose held f)

  -- some parts one after the other, each with the register that the last one has left
  abbrev pub looked_all : List Formula → List Slot → LookedRow
  looked_all [] reg = record { heres = []; register = reg }
  looked_all (f ∷ fs) reg =
      let x = looked_at f reg in
      let y = looked_all fs x.register in
      record { heres = x.here ∷ y.heres; register = y.register }

-- ---- in tokens: a is those of some formulas, one after the other, and then c
abbrev pub SpellsAll : List ℕ → List ℕ → List Formula → List ℕ → List ℕ → Type 0
SpellsAll bytes marks [] a c = a ≡ c
SpellsAll bytes marks (f ∷ fs) a c = (b : List ℕ) × SpellsFrom bytes marks f a b × SpellsAll bytes marks fs b c

-- ---- between two parts: z is the slot in the end; `written` is what is written, of so many nodes; the parts fs are still to be looked
-- at. What is written and what they will write is the whole
pub record BetweenParts (bytes marks : List ℕ) (choose : Formula → Option ℕ) (held : ℕ → ℕ) (b : ℕ) (z : Noted)
    (written : List ℕ) (nodes : ℕ) (fs : List Formula) (reg : List Slot) : Type 0 where
  pub register-is : (looked_all choose held b fs reg).register ≡ z.register
  pub spells : (ts : List ℕ) → SpellsAll bytes marks (looked_all choose held b fs reg).heres ts [] → Spelt bytes marks z.here (written ++ ts)
  pub nodes-are : nodes + sizes_of (looked_all choose held b fs reg).heres ≡ size z.here
  pub holds : (k : ℕ) → OneOf k (holds_all (looked_all choose held b fs reg).heres) → OneOf k (holds_of z.here)
