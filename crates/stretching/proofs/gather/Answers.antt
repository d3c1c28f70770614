use mathlib.Core.Path.{ap, ◌∙◌}
use Prim.Native.Nat.{ℕ}
use native.Mathlib.Omega.{arith}
use lib.Dec.{eqb}
use Rattle.lists.specs.Tests.{pick}
use Rattle.recordings.specs.Records.{mark_byte, dropped}
use Rattle.neighbours.proofs.Steps.{steps_next, mark-read, kept-most}
use Rattle.stretching.proofs.Gathering.{unbroken, gather_none, gather-few, gather-more, gather-stops, gather-done}
use Rattle.stretching.proofs.gather.Goals as goal

pub loop-i-init : goal.loop-i-init
loop-i-init c = record { gathered = gather_none _ _; steps = c.before_at-before.ensures; bytes = λ j. let z = c.type_inv.recording j in omega arith }

pub returns-in-Broken : goal.returns-in-Broken
returns-in-Broken c =
    let t = c.loop-i.invariant in let h = c.loop-i-test.true in
    let m = mark-read c.args.recording.now c.loop-i.before t.bytes c.requires.clear h (t.steps h) c.counter_at-counter.ensures c.step.ensures c.mark_of-mark.ensures in
    gather-stops t.gathered m h (ap mark_byte c.in-Broken.is)

pub bounds-events-kept : goal.bounds-events-kept
bounds-events-kept c = let k = gather-few c.loop-i.invariant.gathered in omega arith

pub overflow_add-kept : goal.overflow_add-kept
overflow_add-kept c =
    let k = gather-few c.loop-i.invariant.gathered in
    let o = kept-most _ c.kept_by-kept.ensures in omega arith

pub loop-i-preserved : goal.loop-i-preserved
loop-i-preserved c =
    let t = c.loop-i.invariant in let h = c.loop-i-test.true in
    let s = c.args.recording.now in
    let k = gather-few t.gathered in
    let m = mark-read s c.loop-i.before t.bytes c.requires.clear h (t.steps h) c.counter_at-counter.ensures c.step.ensures c.mark_of-mark.ensures in
    record {
      gathered = gather-more t.gathered m (unbroken _ c.in_default.not-Broken) (omega arith) c.event_at.ensures (c.kept_by-kept.ensures ∙ ap (λ (b : ℕ). pick (eqb b dropped) 0 1) c.from.ensures);
      steps = λ l. steps_next s c.loop-i.i c.counter_at-counter.ensures;
      bytes = t.bytes;
    }

pub returns : goal.returns
returns c = gather-done c.loop-i.invariant.gathered (omega arith)
