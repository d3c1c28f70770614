use mathlib.Core.Path.{◌≡◌, refl, sym, ap, ◌∙◌}
use mathlib.Core.List.{[], ◌∷◌}
use mathlib.Core.Logic.{⊎_elim}
use Prim.Native.Nat.{ℕ, ◌<◌, ◌≤◌, ◌^◌}
use native.Mathlib.Omega.{arith}
use lib.ListN.{length}
use lib.Seq.{length-take-le}
use Rattle.state.specs.Opened.{Opened}
use Rattle.records.proofs.Opened.{opened-sized}
use Rattle.ticking.proofs.Lending.{end_of, ends-inside}
use Rattle.capturing.proofs.Turns.{came-nowhere, turn-room, turn-copied, turn-asks, turn_inside, turn-ends, turn-refused, closed-opened, closed-formed, turn-finished, next-zeros, turn_more}
use Rattle.capturing.proofs.running.run.Goals as goal

pub loop-closed-init : goal.loop-closed-init
loop-closed-init c = (came-nowhere _ c.requires, refl, refl, refl)

pub slice_bounds-copy-end : goal.slice_bounds-copy-end
slice_bounds-copy-end c = let i = c.loop-closed.invariant.0.clean.inside in omega arith

pub slice_bounds-copy-end-in-loop-closed : goal.slice_bounds-copy-end-in-loop-closed
slice_bounds-copy-end-in-loop-closed c = sym (length-take-le _ _ c.loop-closed.invariant.0.clean.inside)

pub copy-requires : goal.copy-requires
copy-requires c = turn-room c.loop-closed.invariant.0

pub tick-stop-requires : goal.tick-stop-requires
tick-stop-requires c = let i = c.loop-closed.invariant in turn-asks i.0 c.requires (turn-copied i.0 c.copy.ensures) i.1 i.2

pub returns-in_default : goal.returns-in_default
returns-in_default c =
    let w = c.loop-closed.invariant.0 in
    let r = turn-refused w c.loop-closed-test.true c.tick-stop.ensures _ c.in_default.is in
    record { tells = r.0; leaves = r.1; zeros = c.tick-stop.ensures.zeros }

pub counts_of-next-requires : goal.counts_of-next-requires
counts_of-next-requires c = closed-formed c.loop-closed.invariant.0 c.loop-closed-test.true c.tick-stop.ensures c.in-Ok.is

pub overflow_add-counts : goal.overflow_add-counts
overflow_add-counts c =
    let w = c.loop-closed.invariant.0 in
    let few : length c.loop-closed.state < 2 ^ 64 = let l = w.long in let g = c.well_formed in omega arith in
    let i = turn_inside w in
    omega arith

pub overflow_add-next : goal.overflow_add-next
overflow_add-next c =
    let w = c.loop-closed.invariant.0 in
    let few : length c.loop-closed.state < 2 ^ 64 = let l = w.long in let g = c.well_formed in omega arith in
    let opened : Opened c.tick-stop.new.state c.counts_of-next.result =
    closed-opened w c.loop-closed-test.true c.tick-stop.ensures c.in-Ok.is c.counts_of-next.ensures in
    let ends : end_of c.counts_of-next.result ≤ length c.loop-closed.state = let e = ends-inside (opened-sized opened) in let l = c.tick-stop.auto.state in omega arith in
    omega arith

pub finished-requires : goal.finished-requires
finished-requires c = closed-opened c.loop-closed.invariant.0 c.loop-closed-test.true c.tick-stop.ensures c.in-Ok.is c.counts_of-next.ensures

pub verdict-requires : goal.verdict-requires
verdict-requires c = (closed-opened c.loop-closed.invariant.0 c.loop-closed-test.true c.tick-stop.ensures c.in-Ok.is c.counts_of-next.ensures, sym c.finished.ensures ∙ c.if-finished.true)

pub returns-then-finished : goal.returns-then-finished
returns-then-finished c =
    let w = c.loop-closed.invariant.0 in
    let opened : Opened c.tick-stop.new.state c.counts_of-next.result =
    closed-opened w c.loop-closed-test.true c.tick-stop.ensures c.in-Ok.is c.counts_of-next.ensures in
    let ends : end_of c.counts_of-next.result ≤ length c.loop-closed.state = let e = ends-inside (opened-sized opened) in let l = c.tick-stop.auto.state in omega arith in
    let end-inside : c.farther-used.result ≤ length c.loop-closed.state =
    let a = turn_inside w in let b = ends in ⊎_elim (λ e. omega arith) (λ e. omega arith) c.farther-used.ensures.2 in
    let second-long : length c.tick-stop.new.second ≡ length c.loop-closed.state = c.tick-stop.auto.second ∙ c.copy.auto.to ∙ w.second-long in
    let l = c.loop-closed-test.true in
    let t = c.tick-stop.ensures in
    let g = c.in-Ok.is in
    let r = turn-finished w l t g (sym c.finished.ensures ∙ c.if-finished.true) _ c.verdict.ensures in
    record {
      tells = r.0;
      leaves = r.1;
      zeros = next-zeros w l t g c.counts_of-next.ensures _ c.farther-used.ensures.0 c.farther-used.ensures.1 end-inside second-long;
    }

pub loop-closed-preserved : goal.loop-closed-preserved
loop-closed-preserved c =
    let w = c.loop-closed.invariant.0 in
    let opened : Opened c.tick-stop.new.state c.counts_of-next.result =
    closed-opened w c.loop-closed-test.true c.tick-stop.ensures c.in-Ok.is c.counts_of-next.ensures in
    let ends : end_of c.counts_of-next.result ≤ length c.loop-closed.state = let e = ends-inside (opened-sized opened) in let l = c.tick-stop.auto.state in omega arith in
    let end-inside : c.farther-used.result ≤ length c.loop-closed.state =
    let a = turn_inside w in let b = ends in ⊎_elim (λ e. omega arith) (λ e. omega arith) c.farther-used.ensures.2 in
    let second-long : length c.tick-stop.new.second ≡ length c.loop-closed.state = c.tick-stop.auto.second ∙ c.copy.auto.to ∙ w.second-long in
    let i = c.loop-closed.invariant in (
      turn_more w c.loop-closed-test.true c.tick-stop.ensures c.in-Ok.is c.counts_of-next.ensures _ c.farther-used.ensures.0 c.farther-used.ensures.1 end-inside second-long
          (sym c.finished.ensures ∙ c.if-finished.false),
      c.tick-stop.auto.u ∙ i.1,
      c.tick-stop.auto.tags ∙ i.2,
      c.tick-stop.auto.second ∙ c.copy.auto.to ∙ i.3,
    )

pub returns : goal.returns
returns c =
    let l = c.loop-closed in
    let r = turn-ends l.invariant.0 c.loop-closed-test.false in
    let all : length c.args.events.now ≡ l.closed = omega arith in
    record { tells = ap (λ (n : ℕ). n ∷ 2 ∷ 0 ∷ []) all ∙ r.0; leaves = r.1; zeros = l.invariant.0.second-clean }
