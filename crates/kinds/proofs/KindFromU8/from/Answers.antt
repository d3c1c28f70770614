-- Each named code is one arm of the match; a byte that is none of them is 9 or more, which is what `of_range` asks. Assumes nothing.
use Rattle.std.proofs.Common.{sym}
use Rattle.kinds.proofs.Codes.{kind-const, kind-unary, kind-binary}
use Rattle.kinds.proofs.KindFromU8.from.Goals as goal

pub returns-in-0 : goal.returns-in-0
returns-in-0 c = rw c.in-0.is (sym (kind-const _))

pub returns-in-1 : goal.returns-in-1
returns-in-1 c = rw c.in-1.is (sym (kind-const _))

pub returns-in-2 : goal.returns-in-2
returns-in-2 c = rw c.in-2.is (sym (kind-unary _))

pub returns-in-3 : goal.returns-in-3
returns-in-3 c = rw c.in-3.is (sym (kind-binary _))

pub returns-in-4 : goal.returns-in-4
returns-in-4 c = rw c.in-4.is (sym (kind-binary _))

pub returns-in-5 : goal.returns-in-5
returns-in-5 c = rw c.in-5.is (sym (kind-unary _))

pub returns-in-6 : goal.returns-in-6
returns-in-6 c = rw c.in-6.is (sym (kind-binary _))

pub returns-in-7 : goal.returns-in-7
returns-in-7 c = rw c.in-7.is (sym (kind-unary _))

pub returns-in-8 : goal.returns-in-8
returns-in-8 c = rw c.in-8.is (sym (kind-unary _))
