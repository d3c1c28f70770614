-- A constant has a note alone. Assumes nothing.
use Rattle.folding.proofs.Made.{leaf-fixed, leaf-made}
use Rattle.folding.proofs.results.fold_leaf.Goals as goal

pub returns-then-c-lt2 : goal.returns-then-c-lt2
returns-then-c-lt2 c = λ a fs e r. rw c.from.ensures (leaf-fixed r c.requires.2 a _ e c.if-c-lt2.true)

pub returns : goal.returns
returns c = λ a fs e r. leaf-made r c.requires.2 c.requires.0 a _ e c.if-c-lt2.false
