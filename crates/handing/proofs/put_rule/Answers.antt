-- `handing::put_rule` meets its contract: what is lent on is what stands behind the masks. No loop. Assumes nothing.
use mathlib.Core.Path.{ap, ◌∙◌}
use native.Mathlib.Omega.{arith}
use lib.ListN.{length}
use Rattle.lists.specs.Runs.{padded}
use Rattle.lists.proofs.Parts.{tail-is, tail-length}
use Rattle.rules.specs.RuleFile.{file_formula_at}
use Rattle.handing.proofs.put_rule.Goals as goal

pub hand_out-requires : goal.hand_out-requires
hand_out-requires c = let p = c.requires in let t = tail-length (file_formula_at c.args.b) c.args.file.now in omega arith

pub returns : goal.returns
returns c =
    let a = c.args in
    (c.copy_masks.ensures, c.hand_out.ensures ∙ ap (padded (length a.formula.now)) (tail-is (file_formula_at a.b) a.file.now))
