-- A plain byte and two stores. Assumes nothing.
use mathlib.Core.Path.{ap₂}
use mathlib.Core.List.{List}
use Prim.Native.Nat.{ℕ, ◌-◌}
use lib.ListN.{set}
use Rattle.unfolding.proofs.put_join.Goals as goal

pub returns : goal.returns
returns c =
    let a = c.args in
    (c.put_plain.ensures.0, ap₂ (λ (l : List ℕ) (v : ℕ). set (set l a.k v) (a.k - 1) 0) c.put_plain.ensures.1 c.narrow.ensures)
