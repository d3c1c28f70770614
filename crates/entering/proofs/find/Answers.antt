use Rattle.std.proofs.Common.{arith}
use Rattle.entering.proofs.Finding.{passed_none, passed-more, found_at, found_none}
use Rattle.entering.proofs.find.Goals as goal

pub loop-k-init : goal.loop-k-init
loop-k-init c = passed_none _ _ _ _ _ _ _ _

pub is_entry-requires : goal.is_entry-requires
is_entry-requires c = record { entries = c.args.entries; ask = c.requires; below = (omega arith) }

pub returns-then-is_entry : goal.returns-then-is_entry
returns-then-is_entry c =
    let l = c.loop-k in
    found_at _ _ _ _ _ _ _ _ l.k (omega arith) l.invariant c.is_entry.result c.if-is_entry.true c.is_entry.ensures

pub loop-k-preserved : goal.loop-k-preserved
loop-k-preserved c =
    let l = c.loop-k in
    passed-more _ _ _ _ _ _ _ _ l.k (omega arith) l.invariant c.is_entry.result c.if-is_entry.false c.is_entry.ensures

pub returns : goal.returns
returns c = found_none _ _ _ _ _ _ _ _ c.loop-k.k (omega arith) c.loop-k.invariant
