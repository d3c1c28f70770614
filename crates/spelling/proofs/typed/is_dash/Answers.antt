-- The text is the one byte. Assumes nothing.
use mathlib.Core.Path.{ap, ◌∙◌}
use mathlib.Core.List.{List}
use Prim.Native.Nat.{ℕ}
use lib.Pointwise.{pointwise}
use lib.Dec.{eqb}
use Rattle.spelling.proofs.Spelled.{dash_same}
use Rattle.spelling.proofs.typed.is_dash.Goals as goal

pub returns : goal.returns
returns c = let e = c.as_slice.ensures in c.eq.ensures ∙ ap (λ (x : List ℕ). pointwise eqb c.args.text.now x) e ∙ dash_same c.args.text.now
