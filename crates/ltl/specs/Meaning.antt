-- What a formula means over endless traces: Definition 1 of Colombo and Falcone, with "and", "eventually" and "always" read
-- directly. Assumes nothing: these are definitions.
use Rattle.std.specs.Prelude.{◌≡◌, ℕ, zero, suc, ◌<◌, ◌≤◌, true, false, List, [], ◌∷◌, ◌⊎◌}
use Rattle.lists.specs.Tests.{bit}
use Rattle.kinds.specs.declared.Leaf.TheVariants.{Const, Prop, Hold}
use Rattle.kinds.specs.declared.Unary.TheVariants.{Not, Next, Ever}
use Rattle.kinds.specs.declared.Join.TheVariants.{And, Or}
use Rattle.kinds.specs.declared.Binary.TheVariants.{Joined, Until}
use Rattle.ltl.specs.Formula.{Formula, leaf, one, two}

-- an event: bit i says that proposition i holds at that tick
abbrev pub Event : Type 0
Event = ℕ

-- an endless trace: an event for each tick
abbrev pub Trace : Type 0
Trace = ℕ → Event

-- the trace w meets the formula at tick i. Ever by or is eventually: at some tick from i on; ever by and is always: at every tick
-- from i on. A place holder stands in networks only, never in a rule: nothing meets one.
abbrev pub Meets : Trace → ℕ → Formula → Type 0
Meets w i (leaf (Const true)) = Unit {0}
Meets w i (leaf (Const false)) = ⊥
Meets w i (leaf (Prop p)) = bit (w i) p ≡ true
Meets w i (leaf (Hold k)) = ⊥
Meets w i (one Not f) = Meets w i f → ⊥
Meets w i (one Next f) = Meets w (suc i) f
Meets w i (one (Ever Or) f) = (k : ℕ) × (i ≤ k) × Meets w k f
Meets w i (one (Ever And) f) = (k : ℕ) → i ≤ k → Meets w k f
Meets w i (two (Joined And) f g) = Meets w i f × Meets w i g
Meets w i (two (Joined Or) f g) = Meets w i f ⊎ Meets w i g
Meets w i (two Until f g) = (k : ℕ) × (i ≤ k) × Meets w k g × ((l : ℕ) → i ≤ l → l < k → Meets w l f)

-- the trace meets the formula
abbrev pub Satisfies : Trace → Formula → Type 0
Satisfies w f = Meets w 0 f

-- some events, and then the trace
abbrev pub continued : List Event → Trace → Trace
continued [] w i = w i
continued (e ∷ us) w zero = e
continued (e ∷ us) w (suc i) = continued us w i
