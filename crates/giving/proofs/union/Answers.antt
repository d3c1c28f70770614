use mathlib.Core.Path.{refl, sym, ap, ◌∙◌}
use Prim.Native.Nat.{ℕ, ◌+◌}
use native.Mathlib.Omega.{arith}
use lib.Bits.{bit_or}
use lib.ListN.{drop}
use Rattle.lists.specs.Listed.{listed}
use Rattle.lists.proofs.Listed.{listed-length, listed_at}
use Rattle.masks.specs.Masks.{union_with}
use Rattle.state.specs.Fields.{mask_in}
use Rattle.giving.proofs.Following.{union_more, union-all}
use Rattle.giving.proofs.union.Goals as goal

pub loop-i-init : goal.loop-i-init
loop-i-init c = refl

pub loop-i-preserved : goal.loop-i-preserved
loop-i-preserved c =
    let a = c.args in
    let k = c.loop-i in
    let f = mask_in a.state.now in
    let l = listed-length f a.boards in
    let m = c.mask_of-all.ensures ∙ sym (listed_at 0 f a.boards k.i c.loop-i-test.true) in
    ap (λ (x : ℕ). union_with (bit_or k.all x) (drop (k.i + 1) (listed f a.boards))) m ∙ sym (union_more (listed f a.boards) k.i k.all (omega arith)) ∙ k.invariant

pub returns : goal.returns
returns c =
    let a = c.args in
    let l = listed-length (mask_in a.state.now) a.boards in
    sym (union-all (listed (mask_in a.state.now) a.boards) c.loop-i.i c.loop-i.all (omega arith)) ∙ c.loop-i.invariant
