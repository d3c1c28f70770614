-- Each way out is one law of Outcomes. No loop. Assumes nothing.
use native.Mathlib.Omega.{arith}
use Rattle.parsing.proofs.Outcomes.{too_many, all_read}
use Rattle.parsing.proofs.parse_text.Goals as goal

pub returns-then-n-gt-RULE_NODES_MOST : goal.returns-then-n-gt-RULE_NODES_MOST
returns-then-n-gt-RULE_NODES_MOST c = let a = c.requires in too_many a.room a.accepted c.count_nodes-n.ensures c.if-n-gt-RULE_NODES_MOST.true

pub build_into-requires : goal.build_into-requires
build_into-requires c = let a = c.requires in let l = c.if-n-gt-RULE_NODES_MOST.false in let m = a.room in record { count = c.count_nodes-n.ensures; few = omega arith; room = a.room }

pub returns : goal.returns
returns c =
    let a = c.requires in
    all_read a.room a.accepted c.count_nodes-n.ensures c.if-n-gt-RULE_NODES_MOST.false c.build_into.ensures
