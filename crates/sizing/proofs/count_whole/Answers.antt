-- The end of the part that begins at the place is found, and its byte says how the sum is kept behind it. Assumes nothing.
use mathlib.Core.Path.{◌≡◌, sym, ap, ◌∙◌}
use Prim.Native.Nat.{◌+◌}
use native.Mathlib.Omega.{arith}
use lib.ListN.{get_or}
use Rattle.kinds.specs.Kinds.{kind_of}
use Rattle.sizing.specs.Sums.{ever_kind, SumsPart}
use Rattle.sizing.proofs.Counts.{part_room, whole-begins, whole_part, whole-next, whole-ever, whole-until}
use Rattle.sizing.proofs.count_whole.Goals as goal

pub operand_end-requires : goal.operand_end-requires
operand_end-requires c = whole-begins c.requires

pub overflow_add-end : goal.overflow_add-end
overflow_add-end c =
    let part : SumsPart c.args.s.now c.args.i (c.args.i + c.operand_end.result) c.args.count = whole_part c.requires c.operand_end.ensures in
    let r = part_room (part) in omega arith

pub returns-then-s-i-eq-NEXT : goal.returns-then-s-i-eq-NEXT
returns-then-s-i-eq-NEXT c = whole-next c.requires c.operand_end.ensures c.if-s-i-eq-NEXT.true

pub count_ever-requires : goal.count_ever-requires
count_ever-requires c =
    let kind : c.is_ever.result ≡ ever_kind (kind_of (get_or c.args.s.now c.args.i 0)) = c.is_ever.ensures ∙ ap ever_kind c.from.ensures in
    whole-ever c.requires c.operand_end.ensures (sym (kind) ∙ c.if-is_ever.true)

pub overflow_add-result-3 : goal.overflow_add-result-3
overflow_add-result-3 c =
    let part : SumsPart c.args.s.now c.args.i (c.args.i + c.operand_end.result) c.args.count = whole_part c.requires c.operand_end.ensures in
    let r = part_room (part) in let l = c.requires.small in omega arith

pub returns : goal.returns
returns c =
    let kind : c.is_ever.result ≡ ever_kind (kind_of (get_or c.args.s.now c.args.i 0)) = c.is_ever.ensures ∙ ap ever_kind c.from.ensures in
    whole-until c.requires c.operand_end.ensures (sym (kind) ∙ c.if-is_ever.false) c.if-s-i-eq-NEXT.false
