use Rattle.std.proofs.lemmas.Result.{err_from_is_err_and}
use mathlib.Core.Path.{refl, sym, ap, ◌∙◌}
use Prim.Native.Nat.{ℕ}
use lib.Bits.{bit_and}
use Rattle.records.proofs.Opened.{opened-sized}
use Rattle.course.specs.Given.{sampled_from}
use Rattle.giving.proofs.Kept.{gives-going, gives_same, sampled-same, sampled-going}
use Rattle.giving.proofs.Following.{comes-by, sampled-more, sampled-ends, sampled-all}
use native.Mathlib.Nat.{sub-zero}
use native.Mathlib.Omega.{arith}
use Rattle.giving.proofs.sample_all.Goals as goal

pub loop-i-init : goal.loop-i-init
loop-i-init c = let a = c.args in (c.requires, ap (λ (n : ℕ). sampled_from n a.event 0 a.state.now) (sub-zero a.c.boards), refl)

pub mask_of-requires : goal.mask_of-requires
mask_of-requires c = let z = opened-sized c.loop-i.invariant.0.opened in let f = z.few-boards in let l = c.loop-i-test.true in (z.long, omega arith)

pub sample_going-requires : goal.sample_going-requires
sample_going-requires c = let g = c.loop-i.invariant.0 in (g.opened, g.unfinished)

pub returns-in_err-sample_going : goal.returns-in_err-sample_going
returns-in_err-sample_going c =
    let a = c.args in let i = c.loop-i.invariant in
    let p = err_from_is_err_and c.from_residual.result c.from_residual.ensures.1 in
    rw (p.1, p.2)
    (gives_same i.0 (sampled-same c.in_err-sample_going.ensures _ refl)
    (comes-by _ _ _ _ i.1 (sampled-ends _ _ _ _ _ _ c.loop-i-test.true (ap (bit_and a.event) c.mask_of.ensures) _ _ refl c.in_err-sample_going.ensures)))

pub loop-i-preserved : goal.loop-i-preserved
loop-i-preserved c =
    let a = c.args in let i = c.loop-i.invariant in (
      sampled-going c.in_ok-sample_going.ensures refl i.0,
      sym (sampled-more _ _ _ _ _ _ c.loop-i-test.true (ap (bit_and a.event) c.mask_of.ensures) _ refl c.in_ok-sample_going.ensures) ∙ i.1,
      c.sample_going.auto.state ∙ i.2,
    )

pub returns : goal.returns
returns c = let i = c.loop-i.invariant in gives-going i.0 (comes-by _ _ _ _ i.1 (sampled-all _ _ _ _ c.loop-i-test.false))
