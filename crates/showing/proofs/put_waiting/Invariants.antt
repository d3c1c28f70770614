-- Each bracket that waits is put, and at the end the sign behind them. Assumes nothing.
use mathlib.Core.List.{List}
use Prim.Native.Nat.{ℕ}
use Rattle.ltl.specs.Formula.{Formula}
use Rattle.showing.specs.Shows.{Shown}
use Rattle.showing.proofs.put_waiting.Given as goal

abbrev pub invariant-loop-first : goal.invariant-loop-first
invariant-loop-first l = (gs : List Formula) (whole : List ℕ) → Shown l.initial.text l.dues l.at l.top gs whole → Shown l.text l.dues l.end l.first gs whole
