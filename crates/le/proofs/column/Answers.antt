use Rattle.std.proofs.Common.{◌≡◌, ℕ, ◌++◌, List, length, set, drop, sym, ap, ap₂, ◌∙◌, arith}
use Rattle.lists.specs.Listed.{listed}
use Rattle.lists.proofs.Listed.{listed-length, listed_at}
use Rattle.lists.proofs.Overlay.{overlaid, overlaid-more, overlaid-all}
use Rattle.le.proofs.column.Invariants.{row}
use Rattle.le.proofs.column.Goals as goal

pub loop-i-preserved : goal.loop-i-preserved
loop-i-preserved c =
    let k = c.loop-i in
    let a = c.args in
    let xs = listed (row a.s.now a.at a.step) a.n in
    let l = listed-length (row a.s.now a.at a.step) a.n in
    let v = c.u64_at.ensures ∙ sym (listed_at 0 (row a.s.now a.at a.step) a.n k.i c.loop-i-test.true) in
    ap₂ (λ (m : List ℕ) (x : ℕ). set m k.i x) k.invariant v ∙ overlaid-more xs a.out.now k.i (omega arith) (omega arith)

pub returns : goal.returns
returns c =
    let a = c.args in
    let xs = listed (row a.s.now a.at a.step) a.n in
    let l = listed-length (row a.s.now a.at a.step) a.n in
    let e : c.loop-i.i ≡ length xs = omega arith in
    c.loop-i.invariant ∙ ap (λ (j : ℕ). overlaid j xs a.out.now) e ∙ overlaid-all xs a.out.now ∙ ap (λ (j : ℕ). xs ++ drop j a.out.now) l
