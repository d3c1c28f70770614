-- Each way out is one law of Outcomes. No loop. Assumes nothing.
use Rattle.parsing.proofs.Outcomes.{length-wrong, no_text}
use Rattle.parsing.proofs.parse.Goals as goal

pub returns-then-formula-ne-RULE_NODES_MOST : goal.returns-then-formula-ne-RULE_NODES_MOST
returns-then-formula-ne-RULE_NODES_MOST c = length-wrong c.if-formula-ne-RULE_NODES_MOST.true

pub parse_text-requires : goal.parse_text-requires
parse_text-requires c = record { accepted = rw c.in-Ok.is at c.recognise-found.ensures; room = c.if-formula-ne-RULE_NODES_MOST.false }

pub returns-in-Err : goal.returns-in-Err
returns-in-Err c = no_text c.if-formula-ne-RULE_NODES_MOST.false _ (rw c.in-Err.is at c.recognise-found.ensures)
