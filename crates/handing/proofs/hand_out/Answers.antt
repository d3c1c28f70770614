-- `handing::hand_out` meets its contract: a copy of the formula, and zeros behind it. No loop. Assumes nothing.
use mathlib.Core.Path.{refl, ap, ◌∙◌}
use mathlib.Core.List.{◌++◌}
use Prim.Native.Nat.{ℕ}
use lib.ListN.{length, drop, replicate, length-drop}
use Rattle.lists.proofs.Stretches.{tail-clear}
use Rattle.handing.proofs.hand_out.Goals as goal

pub returns : goal.returns
returns c =
    let text = c.args.text.now in
    let formula = c.args.formula.now in
    tail-clear c.copy.new.to text (drop (length text) formula) (length text) c.copy.ensures refl c.clear.new.p c.clear.ensures
    ∙ ap (λ (n : ℕ). text ++ replicate {A = ℕ} n 0) (length-drop (length text) formula)
