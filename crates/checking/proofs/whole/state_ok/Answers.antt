-- A clause that fails fails the check (`clause-fails` and its like); the last one decides (`clauses-hold`). What each clause that
-- passed tells is said at the place behind it. Assumes nothing.
use mathlib.Core.Path.{◌≡◌, sym, ap, ◌∙◌}
use mathlib.Core.Bool.{true}
use borrow.Author.Tests.{ne_eqb}
use native.Mathlib.Omega.{arith}
use Rattle.state.specs.Form.{Formed, form_in, state_length}
use Rattle.state.specs.Fields.{start_in}
use Rattle.state.specs.Clauses.{each_below, record_ok, board_ok, header_ok, gap_ok}
use Rattle.state.specs.Counted.{Header, Sized}
use Rattle.checking.specs.Slotted.{formulas_ok}
use Rattle.checking.proofs.Masked.{MasksRuled, propositions-none, propositions-some}
use Rattle.records.proofs.Passed.{clause-fails, header-sized, header-some}
use Rattle.checking.proofs.Assembled.{boards-fail, records-fail, formulas-fail, gaps-fail, clauses-hold}
use Rattle.checking.proofs.whole.state_ok.Goals as goal

pub returns-then-s-length : goal.returns-then-s-length
returns-then-s-length c =
    let long-is : c.length.result ≡ state_length (form_in c.args.s.now) = c.length.ensures ∙ ap state_length c.from-form.ensures in
    sym (clause-fails _ 0 (ne_eqb _ _ (λ e. c.if-s-length.true (e ∙ sym (long-is)))))

pub counts_of-c-requires : goal.counts_of-c-requires
counts_of-c-requires c =
    let long-is : c.length.result ≡ state_length (form_in c.args.s.now) = c.length.ensures ∙ ap state_length c.from-form.ensures in
    c.if-s-length.false ∙ long-is

pub header_ok-requires : goal.header_ok-requires
header_ok-requires c =
    let long-is : c.length.result ≡ state_length (form_in c.args.s.now) = c.length.ensures ∙ ap state_length c.from-form.ensures in
    (c.if-s-length.false ∙ long-is, c.counts_of-c.ensures)

pub returns-then-not-header_ok : goal.returns-then-not-header_ok
returns-then-not-header_ok c = sym (clause-fails _ 1 (sym c.header_ok.ensures ∙ c.if-not-header_ok.true))

pub propositions-p-requires : goal.propositions-p-requires
propositions-p-requires c =
    let long-is : c.length.result ≡ state_length (form_in c.args.s.now) = c.length.ensures ∙ ap state_length c.from-form.ensures in
    let long : Formed c.args.s.now = c.if-s-length.false ∙ long-is in
    let header : Header c.args.s.now c.counts_of-c.result = c.counts_of-c.ensures in
    let header_ok : header_ok c.args.s.now ≡ true = sym c.header_ok.ensures ∙ c.if-not-header_ok.false in
    let sized : Sized c.args.s.now c.counts_of-c.result = header-sized _ _ (header) (long) (header_ok) in
    (long, (header).boards-are, (sized).few-boards)

pub returns-then-p-lt1 : goal.returns-then-p-lt1
returns-then-p-lt1 c = let e = c.propositions-p.ensures in sym (clause-fails _ 2 (propositions-none _ (omega arith)))

pub boards_ok-requires : goal.boards_ok-requires
boards_ok-requires c =
    let long-is : c.length.result ≡ state_length (form_in c.args.s.now) = c.length.ensures ∙ ap state_length c.from-form.ensures in
    let long : Formed c.args.s.now = c.if-s-length.false ∙ long-is in
    let header : Header c.args.s.now c.counts_of-c.result = c.counts_of-c.ensures in
    let header_ok : header_ok c.args.s.now ≡ true = sym c.header_ok.ensures ∙ c.if-not-header_ok.false in
    let sized : Sized c.args.s.now c.counts_of-c.result = header-sized _ _ (header) (long) (header_ok) in
    (long, (sized).few-boards)

pub returns-then-not-boards_ok : goal.returns-then-not-boards_ok
returns-then-not-boards_ok c =
    let header : Header c.args.s.now c.counts_of-c.result = c.counts_of-c.ensures in
    sym (boards-fail _ _ (header) (sym c.boards_ok.ensures ∙ c.if-not-boards_ok.true))

pub start_of-requires : goal.start_of-requires
start_of-requires c =
    let header : Header c.args.s.now c.counts_of-c.result = c.counts_of-c.ensures in
    let long-is : c.length.result ≡ state_length (form_in c.args.s.now) = c.length.ensures ∙ ap state_length c.from-form.ensures in
    let long : Formed c.args.s.now = c.if-s-length.false ∙ long-is in
    let header_ok : header_ok c.args.s.now ≡ true = sym c.header_ok.ensures ∙ c.if-not-header_ok.false in
    let sized : Sized c.args.s.now c.counts_of-c.result = header-sized _ _ (header) (long) (header_ok) in
    (sized, header-some _ _ (header) (header_ok))

pub returns-then-start_of-ne0 : goal.returns-then-start_of-ne0
returns-then-start_of-ne0 c = sym (clause-fails _ 4 (ne_eqb _ _ (λ q. c.if-start_of-ne0.true (c.start_of.ensures.0 ∙ q))))

pub records_ok-requires : goal.records_ok-requires
records_ok-requires c =
    let header : Header c.args.s.now c.counts_of-c.result = c.counts_of-c.ensures in
    let long-is : c.length.result ≡ state_length (form_in c.args.s.now) = c.length.ensures ∙ ap state_length c.from-form.ensures in
    let long : Formed c.args.s.now = c.if-s-length.false ∙ long-is in
    let header_ok : header_ok c.args.s.now ≡ true = sym c.header_ok.ensures ∙ c.if-not-header_ok.false in
    let sized : Sized c.args.s.now c.counts_of-c.result = header-sized _ _ (header) (long) (header_ok) in
    sized

pub returns-then-not-records_ok : goal.returns-then-not-records_ok
returns-then-not-records_ok c =
    let header : Header c.args.s.now c.counts_of-c.result = c.counts_of-c.ensures in
    sym (records-fail _ _ (header) (sym c.records_ok.ensures ∙ c.if-not-records_ok.true))

pub formulas_ok-requires : goal.formulas_ok-requires
formulas_ok-requires c =
    let header : Header c.args.s.now c.counts_of-c.result = c.counts_of-c.ensures in
    let long-is : c.length.result ≡ state_length (form_in c.args.s.now) = c.length.ensures ∙ ap state_length c.from-form.ensures in
    let long : Formed c.args.s.now = c.if-s-length.false ∙ long-is in
    let header_ok : header_ok c.args.s.now ≡ true = sym c.header_ok.ensures ∙ c.if-not-header_ok.false in
    let sized : Sized c.args.s.now c.counts_of-c.result = header-sized _ _ (header) (long) (header_ok) in
    let records-ok : each_below c.counts_of-c.result.slots (record_ok c.args.s.now) ≡ true = sym c.records_ok.ensures ∙ c.if-not-records_ok.false in
    let ruled : MasksRuled c.args.s.now c.propositions-p.result = propositions-some _ _ c.propositions-p.ensures c.if-p-lt1.false in
    (sized, records-ok, (ruled).few)

pub returns-then-not-formulas_ok : goal.returns-then-not-formulas_ok
returns-then-not-formulas_ok c =
    let ruled : MasksRuled c.args.s.now c.propositions-p.result = propositions-some _ _ c.propositions-p.ensures c.if-p-lt1.false in
    let header : Header c.args.s.now c.counts_of-c.result = c.counts_of-c.ensures in
    let r = ruled in sym (formulas-fail _ _ (header) _ r.sum (sym c.formulas_ok.ensures ∙ c.if-not-formulas_ok.true))

pub gaps_ok-requires : goal.gaps_ok-requires
gaps_ok-requires c =
    let header : Header c.args.s.now c.counts_of-c.result = c.counts_of-c.ensures in
    let long-is : c.length.result ≡ state_length (form_in c.args.s.now) = c.length.ensures ∙ ap state_length c.from-form.ensures in
    let long : Formed c.args.s.now = c.if-s-length.false ∙ long-is in
    let header_ok : header_ok c.args.s.now ≡ true = sym c.header_ok.ensures ∙ c.if-not-header_ok.false in
    let sized : Sized c.args.s.now c.counts_of-c.result = header-sized _ _ (header) (long) (header_ok) in
    let records-ok : each_below c.counts_of-c.result.slots (record_ok c.args.s.now) ≡ true = sym c.records_ok.ensures ∙ c.if-not-records_ok.false in
    (sized, records-ok)

pub returns-then-not-gaps_ok : goal.returns-then-not-gaps_ok
returns-then-not-gaps_ok c =
    let header : Header c.args.s.now c.counts_of-c.result = c.counts_of-c.ensures in
    sym (gaps-fail _ _ (header) (sym c.gaps_ok.ensures ∙ c.if-not-gaps_ok.true))

pub rest_ok-requires : goal.rest_ok-requires
rest_ok-requires c =
    let header : Header c.args.s.now c.counts_of-c.result = c.counts_of-c.ensures in
    let long-is : c.length.result ≡ state_length (form_in c.args.s.now) = c.length.ensures ∙ ap state_length c.from-form.ensures in
    let long : Formed c.args.s.now = c.if-s-length.false ∙ long-is in
    let header_ok : header_ok c.args.s.now ≡ true = sym c.header_ok.ensures ∙ c.if-not-header_ok.false in
    let sized : Sized c.args.s.now c.counts_of-c.result = header-sized _ _ (header) (long) (header_ok) in
    sized

pub returns : goal.returns
returns c =
    let ruled : MasksRuled c.args.s.now c.propositions-p.result = propositions-some _ _ c.propositions-p.ensures c.if-p-lt1.false in
    let header : Header c.args.s.now c.counts_of-c.result = c.counts_of-c.ensures in
    let long-is : c.length.result ≡ state_length (form_in c.args.s.now) = c.length.ensures ∙ ap state_length c.from-form.ensures in
    let long : Formed c.args.s.now = c.if-s-length.false ∙ long-is in
    let header_ok : header_ok c.args.s.now ≡ true = sym c.header_ok.ensures ∙ c.if-not-header_ok.false in
    let boards-ok : each_below c.counts_of-c.result.boards (board_ok c.args.s.now) ≡ true = sym c.boards_ok.ensures ∙ c.if-not-boards_ok.false in
    let start_none : start_in c.args.s.now 0 ≡ 0 = sym c.start_of.ensures.0 ∙ c.if-start_of-ne0.false in
    let records-ok : each_below c.counts_of-c.result.slots (record_ok c.args.s.now) ≡ true = sym c.records_ok.ensures ∙ c.if-not-records_ok.false in
    let formulas-ok : formulas_ok c.args.s.now c.propositions-p.result c.counts_of-c.result.slots ≡ true = sym c.formulas_ok.ensures ∙ c.if-not-formulas_ok.false in
    let gaps-ok : each_below c.counts_of-c.result.slots (gap_ok c.args.s.now) ≡ true = sym c.gaps_ok.ensures ∙ c.if-not-gaps_ok.false in
    let r = ruled in
    c.rest_ok.ensures
    ∙ clauses-hold _ _ (header) _ r.sum (long) (header_ok) r.holds (boards-ok) (start_none) (records-ok) (formulas-ok) (gaps-ok)
