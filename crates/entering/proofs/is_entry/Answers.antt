-- Another stamp, or another number of tokens, is another slot; else the tokens tell. Assumes nothing.
use native.Mathlib.Omega.{arith}
use Rattle.entering.proofs.Finding.{entry-begins, entry-stamp, entry-count, entry-asks, entry-tokens}
use Rattle.entering.proofs.is_entry.Goals as goal

pub returns-then-stamps-k : goal.returns-then-stamps-k
returns-then-stamps-k c = entry-stamp _ _ _ _ _ _ _ _ (λ e. let d = c.if-stamps-k.true in omega arith)

pub overflow_sub-end : goal.overflow_sub-end
overflow_sub-end c = let p = c.requires in entry-begins _ _ _ _ _ _ _ _ c.from-from.result c.from-end.result c.from-from.ensures c.from-end.ensures p

pub returns-then-end-from : goal.returns-then-end-from
returns-then-end-from c = entry-count _ _ _ _ _ _ _ _ c.from-from.result c.from-end.result c.from-from.ensures c.from-end.ensures c.if-end-from.true

pub same_tokens-requires : goal.same_tokens-requires
same_tokens-requires c =
    entry-asks c.args.bytes.now c.args.marks.now c.args.tokens.now c.args.stamp c.args.bodies.now c.args.places.now c.args.stamps.now c.args.k
    c.from-from.result c.from-end.result c.from-from.ensures c.from-end.ensures c.if-end-from.false c.requires

pub returns : goal.returns
returns c =
    entry-tokens _ _ _ _ _ _ _ _ c.from-from.result c.from-end.result c.from-from.ensures c.from-end.ensures c.if-end-from.false
    c.if-stamps-k.false c.same_tokens.result c.same_tokens.ensures
