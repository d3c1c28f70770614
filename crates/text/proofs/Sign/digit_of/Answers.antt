-- Below the digits, among them, above them. Assumes nothing.
use mathlib.Core.Path.{sym}
use Rattle.text.proofs.Signs.{digit_low, digit-is, digit-high}
use Rattle.text.proofs.Sign.digit_of.Goals as goal

pub returns-then-b-lt48 : goal.returns-then-b-lt48
returns-then-b-lt48 c = sym (digit_low _ c.if-b-lt48.true)

pub returns-then-b-lt58 : goal.returns-then-b-lt58
returns-then-b-lt58 c = sym (digit-is _ c.if-b-lt48.false c.if-b-lt58.true)

pub returns : goal.returns
returns c = sym (digit-high _ c.if-b-lt48.false c.if-b-lt58.false)
