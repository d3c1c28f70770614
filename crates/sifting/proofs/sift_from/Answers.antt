use mathlib.Core.Path.{◌≡◌, refl, sym, ◌∙◌}
use native.Mathlib.Omega.{arith}
use Rattle.recordings.specs.Records.{Record}
use Rattle.recordings.specs.Recording.{record_in}
use Rattle.neighbours.proofs.Steps.{steps_next, mark-read, kept-most}
use Rattle.sifting.proofs.Turning.{kept-least, sift-more, none_more, reach-stop, reach-end}
use Rattle.sifting.proofs.sift_from.Goals as goal

pub loop-i-init : goal.loop-i-init
loop-i-init c =
    record { sifted = c.requires.1; steps = c.before_at-before.ensures; none = λ e h. h; bytes = λ j. let z = c.type_inv.recording j in omega arith }

pub returns-then-stops_at : goal.returns-then-stops_at
returns-then-stops_at c =
    let t = c.loop-i.invariant in let h = c.loop-i-test.true in
    let m = mark-read c.args.recording.now c.loop-i.before t.bytes c.requires.0.clear h (t.steps h) c.counter_at-counter.ensures c.step-step.ensures refl in
    reach-stop t.sifted t.none h m (sym c.stops_at.ensures ∙ c.if-stops_at.true)

pub put_record-requires : goal.put_record-requires
put_record-requires c = let k = kept-least c.loop-i.invariant.sifted in let o = c.requires.0.out-room in omega arith

pub overflow_add-kept : goal.overflow_add-kept
overflow_add-kept c = let k = kept-least c.loop-i.invariant.sifted in let o = kept-most _ c.kept_by-kept.ensures in omega arith

pub loop-i-preserved : goal.loop-i-preserved
loop-i-preserved c =
    let t = c.loop-i.invariant in let h = c.loop-i-test.true in
    let s = c.args.recording.now in let i = c.loop-i.i in
    let k = kept-least t.sifted in let o = c.requires.0.out-room in
    let m = mark-read s c.loop-i.before t.bytes c.requires.0.clear h (t.steps h) c.counter_at-counter.ensures c.step-step.ensures refl in
    let same : ◌≡◌ {A = Record} (record { counter = c.counter_at-counter.result; event = c.event_at-event.result }) (record_in s i) =
    λ z. record { counter = c.counter_at-counter.ensures z; event = c.event_at-event.ensures z } in
    record {
      sifted = sift-more t.sifted (c.from-byte.ensures ∙ c.mark_of-mark.ensures ∙ m) (omega arith) same c.put_record.ensures (omega arith) c.kept_by-kept.ensures;
      steps = λ x. steps_next s i c.counter_at-counter.ensures;
      none = none_more s t.none m (sym c.stops_at.ensures ∙ c.if-stops_at.false);
      bytes = t.bytes;
    }

pub returns : goal.returns
returns c = let t = c.loop-i.invariant in reach-end t.sifted t.none (omega arith)
