use mathlib.Core.Path.{sym, ap₂, ◌∙◌}
use mathlib.Core.List.{List, ◌++◌}
use Prim.Native.Nat.{ℕ, ◌*◌}
use native.Mathlib.Omega.{arith}
use lib.ListN.{get_or, take, drop}
use lib.Seq.{length-take-le}
use Rattle.le.specs.Le.{le}
use Rattle.rules.specs.RuleFile.{mask_bytes}
use Rattle.lists.proofs.Stretches.{put_next}
use Rattle.rules.proofs.Files.{mask_bytes-length, mask_bytes-none, mask_bytes-more}
use Rattle.filing.proofs.put_masks.Goals as goal

pub loop-i-init : goal.loop-i-init
loop-i-init c = mask_bytes-none c.args.out.now

pub loop-i-preserved : goal.loop-i-preserved
loop-i-preserved c =
    let i = c.loop-i.i in
    let ms = c.args.masks.now in
    let out = c.args.out.now in
    let l = mask_bytes-length (take i ms) in
    let m = length-take-le i ms (omega arith) in
    c.put_u64.ensures
    ∙ put_next c.loop-i.out out (mask_bytes (take i ms)) (le 8 (get_or ms i 0)) (8 * i) 8 c.loop-i.invariant (omega arith)
    ∙ ap₂ (λ (u : List ℕ) (j : ℕ). u ++ drop j out) (sym (mask_bytes-more ms i c.loop-i-test.true)) (omega arith)
