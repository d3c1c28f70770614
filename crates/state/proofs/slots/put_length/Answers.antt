-- Two bytes behind the start. Assumes nothing.
use mathlib.Core.Path.{sym, ap, ◌∙◌}
use mathlib.Core.List.{◌++◌}
use Prim.Native.Nat.{ℕ, ◌+◌}
use lib.ListN.{take, drop}
use Rattle.le.specs.Le.{le}
use Rattle.le.proofs.Laws.{le-length}
use Rattle.state.specs.Counted.{record_of}
use Rattle.state.proofs.slots.put_length.Goals as goal

pub returns : goal.returns
returns c =
    let a = c.args in let at = record_of a.c a.k + 4 in
    c.put_u16.ensures ∙ ap (λ (i : ℕ). take at a.s.now ++ (le 2 a.n ++ drop (at + i) a.s.now)) (sym (le-length 2 a.n))
