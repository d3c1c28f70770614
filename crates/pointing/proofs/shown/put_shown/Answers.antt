use Rattle.std.proofs.Common.{rules}
use Rattle.pointing.specs.Columns.{shown_byte}
use Rattle.pointing.proofs.Columns.{changed-by}
use Rattle.pointing.proofs.shown.put_shown.Goals as goal

pub returns : goal.returns
returns g c = changed-by shown_byte _ _ _ _ (λ x y r. search rules) c.put_each.ensures
