use Rattle.std.proofs.Common.{◌≡◌, ◌∙◌, rules, sum_by}
use lib.Count.{ones}
use Rattle.masks.proofs.Bits.{sum_ones_is}
use Rattle.masks.proofs.sum_ones.Goals as goal

pub returns : goal.returns
returns c =
    let by_chain : c.sum.result ≡ sum_by ones c.args.masks.now = search rules in
    by_chain ∙ sum_ones_is c.args.masks.now (λ i l. search rules)
