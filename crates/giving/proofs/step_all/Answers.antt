use Rattle.std.proofs.lemmas.Result.{err_from_is_err_and}
use mathlib.Core.Path.{◌≡◌, refl, sym, ap, ◌∙◌}
use Prim.Native.Nat.{◌-◌}
use Rattle.answers.specs.declared.Refusal.TheVariants.{State}
use Rattle.course.specs.Given.{After, follow, stepped_below}
use Rattle.giving.specs.Give.{passing}
use Rattle.giving.proofs.Kept.{gives-going, gives_same, stepped_same, stepped_kept, kept-reads, kept-going, strayed}
use Rattle.keeping.proofs.Kept.{StepKept}
use Rattle.giving.proofs.Following.{comes-by, comes-ends, stepped-more, stepped-ends, broken, passes_on}
use native.Mathlib.Omega.{arith}
use Rattle.giving.proofs.step_all.Goals as goal

pub loop-k-init : goal.loop-k-init
loop-k-init c = (c.requires, refl, refl)

pub step_going-requires : goal.step_going-requires
step_going-requires c = let g = c.loop-k.invariant.0 in (g.opened, g.unfinished)

pub returns-in_err-step_going : goal.returns-in_err-step_going
returns-in_err-step_going c =
    let l = c.loop-k in
    let p = err_from_is_err_and c.from_residual.result c.from_residual.ensures.1 in
    rw (p.1, p.2)
    (gives_same l.invariant.0 (stepped_same c.in_err-step_going.ensures _ refl)
    (comes-by _ _ _ _ l.invariant.1 (comes-ends _ _ passing _ _ refl (stepped-ends _ _ l.k _ (omega arith) _ _ refl c.in_err-step_going.ensures))))

pub strays-requires : goal.strays-requires
strays-requires c =
    let kept : StepKept c.step_going.new.state c.args.c (c.loop-k.k - 1) = stepped_kept c.in_ok-step_going.ensures refl c.loop-k.invariant.0 in
    kept-reads (kept)

pub returns-then-strays : goal.returns-then-strays
returns-then-strays c =
    let kept : StepKept c.step_going.new.state c.args.c (c.loop-k.k - 1) = stepped_kept c.in_ok-step_going.ensures refl c.loop-k.invariant.0 in
    let below : follow (stepped_below (c.loop-k.k - 1) c.step_going.new.state) passing ≡ follow (stepped_below c.loop-k.k c.loop-k.state) passing = let l = c.loop-k in sym (ap (λ (a : After). follow a passing) (stepped-more _ _ l.k _ (omega (arith, c.loop-k-test.true)) _ refl c.in_ok-step_going.ensures)) in
    let l = c.loop-k in let n = kept in
    strayed n State
    (comes-by _ _ _ _ (below ∙ l.invariant.1) (broken (l.k - 1) _ (n.fails (sym c.strays.ensures ∙ c.if-strays.true))))

pub loop-k-preserved : goal.loop-k-preserved
loop-k-preserved c =
    let kept : StepKept c.step_going.new.state c.args.c (c.loop-k.k - 1) = stepped_kept c.in_ok-step_going.ensures refl c.loop-k.invariant.0 in
    let below : follow (stepped_below (c.loop-k.k - 1) c.step_going.new.state) passing ≡ follow (stepped_below c.loop-k.k c.loop-k.state) passing = let l = c.loop-k in sym (ap (λ (a : After). follow a passing) (stepped-more _ _ l.k _ (omega (arith, c.loop-k-test.true)) _ refl c.in_ok-step_going.ensures)) in
    let l = c.loop-k in
    (kept-going (kept) (sym c.strays.ensures ∙ c.if-strays.false), below ∙ l.invariant.1, c.step_going.auto.state ∙ l.invariant.2)

pub returns : goal.returns
returns c = let l = c.loop-k in gives-going l.invariant.0 (comes-by _ _ _ _ l.invariant.1 (passes_on l.k _ (omega arith) l.invariant.0.opened.passes))
