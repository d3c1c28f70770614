-- One law of `Outcomes` for each way out. Assumes nothing.
use Rattle.std.proofs.lemmas.Result.{err_from_is_err_and}
use mathlib.Core.Path.{refl, sym, ap, subst, ◌∙◌}
use lib.Seq.{length-take-le}
use Rattle.state.specs.Form.{state_length, Formed}
use Rattle.rules.specs.Read.{said_read, Reads}
use Rattle.loading.proofs.Outcomes.{RuleRead, load-length, load_read, read_whole, read-begins, read-begun}
use native.Mathlib.Omega.{arith}
use Rattle.loading.proofs.load.Goals as goal

pub returns-then-state-length : goal.returns-then-state-length
returns-then-state-length c = load-length _ _ (λ e. c.if-state-length.true (e ∙ sym (c.length.ensures ∙ ap state_length c.from-form.ensures)))

pub slice_bounds-masks-end : goal.slice_bounds-masks-end
slice_bounds-masks-end c =
    let r : RuleRead c.args.file.now c.read.new.masks c.read.new.formula c.in_ok-c.c = read_whole refl refl c.in_ok-c.ensures in
    let l = c.read.auto.masks in omega arith

pub slice_bounds-begin_rule-end : goal.slice_bounds-begin_rule-end
slice_bounds-begin_rule-end c =
    let r : RuleRead c.args.file.now c.read.new.masks c.read.new.formula c.in_ok-c.c = read_whole refl refl c.in_ok-c.ensures in
    let l = c.read.auto.masks in sym (length-take-le _ _ (omega arith))

pub slice_bounds-formula-end : goal.slice_bounds-formula-end
slice_bounds-formula-end c =
    let r : RuleRead c.args.file.now c.read.new.masks c.read.new.formula c.in_ok-c.c = read_whole refl refl c.in_ok-c.ensures in
    let l = c.read.auto.formula in omega arith

pub slice_bounds-begin_rule-end-2 : goal.slice_bounds-begin_rule-end-2
slice_bounds-begin_rule-end-2 c =
    let r : RuleRead c.args.file.now c.read.new.masks c.read.new.formula c.in_ok-c.c = read_whole refl refl c.in_ok-c.ensures in
    let l = c.read.auto.formula in sym (length-take-le _ _ (omega arith))

pub begin_rule-requires : goal.begin_rule-requires
begin_rule-requires c =
    let formed : Formed c.args.state.now = c.if-state-length.false ∙ c.length.ensures ∙ ap state_length c.from-form.ensures in
    let r : RuleRead c.args.file.now c.read.new.masks c.read.new.formula c.in_ok-c.c = read_whole refl refl c.in_ok-c.ensures in
    read-begins formed r

pub returns-in_err-c : goal.returns-in_err-c
returns-in_err-c c =
    let formed : Formed c.args.state.now = c.if-state-length.false ∙ c.length.ensures ∙ ap state_length c.from-form.ensures in
    let p = err_from_is_err_and c.from_residual.result c.from_residual.ensures.1 in rw (p.1, p.2) (load_read _ _ formed _ c.in_err-c.ensures.says)

pub returns : goal.returns
returns c =
    let formed : Formed c.args.state.now = c.if-state-length.false ∙ c.length.ensures ∙ ap state_length c.from-form.ensures in
    let r : RuleRead c.args.file.now c.read.new.masks c.read.new.formula c.in_ok-c.c = read_whole refl refl c.in_ok-c.ensures in
    read-begun formed r c.begin_rule.ensures
