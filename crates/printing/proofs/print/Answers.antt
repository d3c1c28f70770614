-- Each check of the code decides one check of `print_says`, in the same order, and a refusal has written nothing. Assumes nothing.
use mathlib.Core.Path.{◌≡◌, sym, ◌∙◌}
use mathlib.Core.Bool.{true}
use lib.ListN.{length}
use lib.Dec.{eqb}
use borrow.Author.Tests.{eq-eqb, ne_eqb}
use Rattle.limits.specs.Limits.{rule_nodes_most, text_length}
use Rattle.lists.specs.Tests.{in_range}
use Rattle.printing.proofs.Outcomes.{PrintPassed, print-length, print-range, print-formula, printable, print-printed}
use Rattle.printing.proofs.print.Goals as goal

pub returns-then-text-ne-TEXT_LENGTH : goal.returns-then-text-ne-TEXT_LENGTH
returns-then-text-ne-TEXT_LENGTH c = print-length _ _ (ne_eqb _ _ c.if-text-ne-TEXT_LENGTH.true)

pub returns-then-not-nodes_ok : goal.returns-then-not-nodes_ok
returns-then-not-nodes_ok c =
    let room-holds : eqb (length c.args.text.now) text_length ≡ true = eq-eqb _ _ c.if-text-ne-TEXT_LENGTH.false in
    print-range _ _ (room-holds) (sym c.nodes_ok.ensures ∙ c.if-not-nodes_ok.true)

pub returns-then-not-is_rule : goal.returns-then-not-is_rule
returns-then-not-is_rule c =
    let room-holds : eqb (length c.args.text.now) text_length ≡ true = eq-eqb _ _ c.if-text-ne-TEXT_LENGTH.false in
    let range-holds : in_range rule_nodes_most (length c.args.formula.now) ≡ true = sym c.nodes_ok.ensures ∙ c.if-not-nodes_ok.false in
    print-formula _ _ (room-holds) (range-holds) (sym c.is_rule.ensures ∙ c.if-not-is_rule.true)

pub print_rule-requires : goal.print_rule-requires
print_rule-requires c =
    let room-holds : eqb (length c.args.text.now) text_length ≡ true = eq-eqb _ _ c.if-text-ne-TEXT_LENGTH.false in
    let range-holds : in_range rule_nodes_most (length c.args.formula.now) ≡ true = sym c.nodes_ok.ensures ∙ c.if-not-nodes_ok.false in
    let passed : let a = c.args in PrintPassed a.formula.now (length a.text.now) = record { space = room-holds; count = range-holds; rule = sym c.is_rule.ensures ∙ c.if-not-is_rule.false } in
    printable _ (passed)

pub returns : goal.returns
returns c =
    let room-holds : eqb (length c.args.text.now) text_length ≡ true = eq-eqb _ _ c.if-text-ne-TEXT_LENGTH.false in
    let range-holds : in_range rule_nodes_most (length c.args.formula.now) ≡ true = sym c.nodes_ok.ensures ∙ c.if-not-nodes_ok.false in
    let passed : let a = c.args in PrintPassed a.formula.now (length a.text.now) = record { space = room-holds; count = range-holds; rule = sym c.is_rule.ensures ∙ c.if-not-is_rule.false } in
    print-printed _ _ (passed) c.print_rule.ensures
