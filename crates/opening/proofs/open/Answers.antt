-- One case of the promise for each way out; behind the check the state is opened with its counts (`opened`). Assumes nothing.
use mathlib.Core.Path.{◌≡◌, sym, ◌∙◌}
use mathlib.Core.Bool.{true}
use Rattle.state.specs.Clauses.{state_ok}
use Rattle.state.specs.Opened.{Opened}
use Rattle.records.proofs.Passed.{passed_length}
use Rattle.opening.proofs.open.Goals as goal

pub returns-then-not-state_ok : goal.returns-then-not-state_ok
returns-then-not-state_ok c = sym c.state_ok.ensures ∙ c.if-not-state_ok.true

pub counts_of-c-requires : goal.counts_of-c-requires
counts_of-c-requires c =
    let passes : state_ok c.args.s.now ≡ true = sym c.state_ok.ensures ∙ c.if-not-state_ok.false in
    passed_length _ passes

pub finished-requires : goal.finished-requires
finished-requires c =
    let passes : state_ok c.args.s.now ≡ true = sym c.state_ok.ensures ∙ c.if-not-state_ok.false in
    let opened : Opened c.args.s.now c.counts_of-c.result = record { passes = passes; header = c.counts_of-c.ensures } in
    opened

pub returns-then-finished : goal.returns-then-finished
returns-then-finished c =
    let passes : state_ok c.args.s.now ≡ true = sym c.state_ok.ensures ∙ c.if-not-state_ok.false in
    let opened : Opened c.args.s.now c.counts_of-c.result = record { passes = passes; header = c.counts_of-c.ensures } in
    (opened, sym c.finished.ensures ∙ c.if-finished.true)

pub returns : goal.returns
returns c =
    let passes : state_ok c.args.s.now ≡ true = sym c.state_ok.ensures ∙ c.if-not-state_ok.false in
    let opened : Opened c.args.s.now c.counts_of-c.result = record { passes = passes; header = c.counts_of-c.ensures } in
    (opened, sym c.finished.ensures ∙ c.if-finished.false)
