use Rattle.std.proofs.Common.{rules}
use Rattle.records.proofs.Each.{union-all}
use Rattle.records.proofs.zeros.Goals as goal

pub returns : goal.returns
returns c = search (rules, union-all)
