-- What each check that was passed tells, at the place behind it; one law of proofs/Outcomes.antt for each way out. Assumes nothing.
use mathlib.Core.Path.{sym, ◌∙◌}
use Prim.Native.Nat.{◌<◌}
use Rattle.state.specs.Fields.{slots_in}
use Rattle.records.proofs.Opened.{opened-sized}
use Rattle.settling.proofs.Outcomes.{refused-nowhere, refused-already, refused-unready, done}
use native.Mathlib.Omega.{arith}
use Rattle.settling.proofs.step_going.Goals as goal

pub returns-then-c-slot : goal.returns-then-c-slot
returns-then-c-slot c = let p = c.requires in let q = p.0.header.slots-are in refused-nowhere _ _ p.0.passes p.1 (omega arith)

pub mark_of-requires : goal.mark_of-requires
mark_of-requires c = let p = c.requires in (opened-sized p.0, omega arith)

pub returns-then-mark_of-ne0 : goal.returns-then-mark_of-ne0
returns-then-mark_of-ne0 c =
    let there : let a = c.args in a.slot < slots_in a.state.now = let q = c.requires.0.header.slots-are in omega arith in
    let p = c.requires in refused-already _ _ p.0.passes p.1 (there) (λ q. c.if-mark_of-ne0.true (c.mark_of.ensures ∙ q))

pub sight_of-sight-requires : goal.sight_of-sight-requires
sight_of-sight-requires c = (c.requires.0, omega arith)

pub returns-in_default : goal.returns-in_default
returns-in_default c =
    let there : let a = c.args in a.slot < slots_in a.state.now = let q = c.requires.0.header.slots-are in omega arith in
    let p = c.requires in
    refused-unready _ _ p.0.passes p.1 (there) (sym c.mark_of.ensures ∙ c.if-mark_of-ne0.false) (sym c.sight_of-sight.ensures ∙ c.in_default.is)

pub put_stepped-requires : goal.put_stepped-requires
put_stepped-requires c = (c.requires.0, omega arith)

pub returns : goal.returns
returns c =
    let there : let a = c.args in a.slot < slots_in a.state.now = let q = c.requires.0.header.slots-are in omega arith in
    let p = c.requires in
    done _ _ p.0.passes p.1 (there) (sym c.mark_of.ensures ∙ c.if-mark_of-ne0.false) c.in-Some.seen (sym c.sight_of-sight.ensures ∙ c.in-Some.is) _ c.put_stepped.ensures
