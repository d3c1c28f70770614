-- The count decides. The byte in front tells the verdict. Assumes nothing.
use mathlib.Core.Path.{ap, ◌∙◌}
use Prim.Native.Nat.{ℕ}
use Rattle.lists.specs.Runs.{padded}
use Rattle.ltl.specs.Formula.{encode}
use Rattle.ltl.specs.Progression.{progressed}
use Rattle.verdicts.specs.Verdicts.{verdict_byte}
use Rattle.verdicts.proofs.Firsts.{verdict-first, first_of}
use Rattle.central.proofs.Outcomes.{outcome-nodes, outcome-progressed}
use native.Mathlib.Omega.{arith}
use Rattle.central.proofs.progress_folded.Goals as goal

pub returns-then-unfolded-gt-CENTRAL_NODES_MOST : goal.returns-then-unfolded-gt-CENTRAL_NODES_MOST
returns-then-unfolded-gt-CENTRAL_NODES_MOST c = λ g x. outcome-nodes g _ _ (c.count_unfolded-unfolded.ensures g x) c.if-unfolded-gt-CENTRAL_NODES_MOST.true

pub progress_into-n-requires : goal.progress_into-n-requires
progress_into-n-requires c = let a = c.requires in let n = c.count_unfolded-unfolded.ensures a.whole a.front in let h = c.if-unfolded-gt-CENTRAL_NODES_MOST.false in let r = a.room in record { whole = a.whole; front = a.front; long = omega arith; room = omega arith; few = omega arith }

pub returns : goal.returns
returns c = λ g x. let o = c.progress_into-n.ensures in let b = o.bytes g x in outcome-progressed g _ _ (c.count_unfolded-unfolded.ensures g x) c.if-unfolded-gt-CENTRAL_NODES_MOST.false _ _ _ (b ∙ ap (λ (n : ℕ). padded n (encode (progressed c.args.event g))) c.requires.room) (o.count g x) (c.verdict.ensures ∙ ap verdict_byte (first_of (progressed c.args.event g) _ _ b) ∙ verdict-first (progressed c.args.event g))
