-- Each check has its answer, a law of proofs/Ready.antt. Assumes nothing.
use mathlib.Core.Path.{◌≡◌, sym, ◌∙◌}
use mathlib.Core.Bool.{true}
use Rattle.records.proofs.Opened.{opened-sized}
use Rattle.done.specs.Done.{all_sampled, all_stepped}
use Rattle.closing.proofs.Ready.{over-boards, over-slots, over-ticks, over_done}
use native.Mathlib.Omega.{arith}
use Rattle.closing.proofs.over.Goals as goal

pub all_sampled-requires : goal.all_sampled-requires
all_sampled-requires c = opened-sized c.requires

pub returns-then-not-all_sampled : goal.returns-then-not-all_sampled
returns-then-not-all_sampled c = over-boards _ (sym c.all_sampled.ensures ∙ c.if-not-all_sampled.true)

pub all_stepped-requires : goal.all_stepped-requires
all_stepped-requires c = opened-sized c.requires

pub returns-then-not-all_stepped : goal.returns-then-not-all_stepped
returns-then-not-all_stepped c =
    let sampled : all_sampled c.args.state.now ≡ true = sym c.all_sampled.ensures ∙ c.if-not-all_sampled.false in
    over-slots _ (sampled) (sym c.all_stepped.ensures ∙ c.if-not-all_stepped.true)

pub ticks_of-requires : goal.ticks_of-requires
ticks_of-requires c = (opened-sized c.requires).long

pub returns-then-ticks_of-ge4294967295 : goal.returns-then-ticks_of-ge4294967295
returns-then-ticks_of-ge4294967295 c =
    let sampled : all_sampled c.args.state.now ≡ true = sym c.all_sampled.ensures ∙ c.if-not-all_sampled.false in
    let stepped : all_stepped c.args.state.now ≡ true = sym c.all_stepped.ensures ∙ c.if-not-all_stepped.false in
    over-ticks _ (sampled) (stepped) (let e = c.ticks_of.ensures in let l = c.if-ticks_of-ge4294967295.true in omega arith)

pub returns : goal.returns
returns c =
    let sampled : all_sampled c.args.state.now ≡ true = sym c.all_sampled.ensures ∙ c.if-not-all_sampled.false in
    let stepped : all_stepped c.args.state.now ≡ true = sym c.all_stepped.ensures ∙ c.if-not-all_stepped.false in
    over_done _ (sampled) (stepped) (let e = c.ticks_of.ensures in let l = c.if-ticks_of-ge4294967295.false in omega arith)
