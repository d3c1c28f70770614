use Rattle.std.proofs.Common.{◌≡◌, ◌∙◌, rules, bit_or, fold}
use Rattle.masks.proofs.Bits.{union_is}
use Rattle.masks.proofs.union.Goals as goal

pub returns : goal.returns
returns c =
    let by_chain : c.fold.result ≡ fold bit_or 0 c.args.masks.now = search rules in
    by_chain ∙ union_is 0 c.args.masks.now
