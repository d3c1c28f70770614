-- At each turn the tokens so far are written in front, and nothing behind them has changed. Assumes nothing.
use Rattle.setting.proofs.Writing.{Writing}
use Rattle.setting.proofs.put_nodes.Given as goal

abbrev pub invariant-loop-t : goal.invariant-loop-t
invariant-loop-t l = Writing l.bytes l.marks l.numbers l.tokens l.initial.out l.out l.w l.t-index
