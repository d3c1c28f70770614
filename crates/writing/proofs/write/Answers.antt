-- Each check of the code decides one check of `write_says`, in the same order, and a refusal has written nothing. Assumes nothing.
use mathlib.Core.Path.{◌≡◌, sym, ◌∙◌}
use mathlib.Core.Bool.{true}
use lib.ListN.{length}
use lib.Dec.{eqb}
use borrow.Author.Tests.{eq-eqb, ne_eqb}
use Rattle.ltl.specs.Decode.{is_rule}
use Rattle.masks.specs.Masks.{masks_rule}
use Rattle.rules.specs.RuleFile.{file_most, counts_ok}
use Rattle.rules.proofs.Passed.{CountsPassed, counts-passed}
use Rattle.rules.proofs.WriteOutcomes.{write-length, write-range, write-masks, write-formula, write-written}
use Rattle.writing.proofs.write.Goals as goal

pub returns-then-file-ne-FILE_MOST : goal.returns-then-file-ne-FILE_MOST
returns-then-file-ne-FILE_MOST c = write-length _ _ _ _ (ne_eqb _ _ c.if-file-ne-FILE_MOST.true)

pub returns-then-not-counts_ok : goal.returns-then-not-counts_ok
returns-then-not-counts_ok c =
    let room-holds : eqb (length c.args.file.now) file_most ≡ true = eq-eqb _ _ c.if-file-ne-FILE_MOST.false in
    write-range _ _ _ _ (room-holds) (sym c.counts_ok.ensures ∙ c.if-not-counts_ok.true)

pub follow_rule-requires : goal.follow_rule-requires
follow_rule-requires c =
    let counts-hold : let a = c.args in counts_ok (length a.masks.now) a.propositions (length a.formula.now) ≡ true = sym c.counts_ok.ensures ∙ c.if-not-counts_ok.false in
    let counts-told : let a = c.args in CountsPassed (length a.masks.now) a.propositions (length a.formula.now) = counts-passed _ _ _ (counts-hold) in
    let k = counts-told in (k.boards-few, k.propositions-few)

pub returns-then-not-follow_rule : goal.returns-then-not-follow_rule
returns-then-not-follow_rule c =
    let room-holds : eqb (length c.args.file.now) file_most ≡ true = eq-eqb _ _ c.if-file-ne-FILE_MOST.false in
    let counts-hold : let a = c.args in counts_ok (length a.masks.now) a.propositions (length a.formula.now) ≡ true = sym c.counts_ok.ensures ∙ c.if-not-counts_ok.false in
    write-masks _ _ _ _ (room-holds) (counts-hold) (sym c.follow_rule.ensures ∙ c.if-not-follow_rule.true)

pub returns-then-not-is_rule : goal.returns-then-not-is_rule
returns-then-not-is_rule c =
    let room-holds : eqb (length c.args.file.now) file_most ≡ true = eq-eqb _ _ c.if-file-ne-FILE_MOST.false in
    let counts-hold : let a = c.args in counts_ok (length a.masks.now) a.propositions (length a.formula.now) ≡ true = sym c.counts_ok.ensures ∙ c.if-not-counts_ok.false in
    let masks-hold : let a = c.args in masks_rule a.propositions a.masks.now ≡ true = sym c.follow_rule.ensures ∙ c.if-not-follow_rule.false in
    write-formula _ _ _ _ (room-holds) (counts-hold) (masks-hold) (sym c.is_rule.ensures ∙ c.if-not-is_rule.true)

pub put_file-requires : goal.put_file-requires
put_file-requires c =
    let counts-hold : let a = c.args in counts_ok (length a.masks.now) a.propositions (length a.formula.now) ≡ true = sym c.counts_ok.ensures ∙ c.if-not-counts_ok.false in
    let counts-told : let a = c.args in CountsPassed (length a.masks.now) a.propositions (length a.formula.now) = counts-passed _ _ _ (counts-hold) in
    let k = counts-told in (c.if-file-ne-FILE_MOST.false, k.boards-few, k.propositions-few, k.nodes-few)

pub returns : goal.returns
returns c =
    let room-holds : eqb (length c.args.file.now) file_most ≡ true = eq-eqb _ _ c.if-file-ne-FILE_MOST.false in
    let counts-hold : let a = c.args in counts_ok (length a.masks.now) a.propositions (length a.formula.now) ≡ true = sym c.counts_ok.ensures ∙ c.if-not-counts_ok.false in
    let masks-hold : let a = c.args in masks_rule a.propositions a.masks.now ≡ true = sym c.follow_rule.ensures ∙ c.if-not-follow_rule.false in
    let formula-holds : let a = c.args in is_rule a.propositions a.formula.now ≡ true = sym c.is_rule.ensures ∙ c.if-not-is_rule.false in
    write-written _ _ _ _ (record { space = room-holds; counts = counts-hold; rule = masks-hold; text = formula-holds }) _ _ c.put_file.ensures.0 c.put_file.ensures.1
