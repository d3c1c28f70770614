-- A node, or a part that stays whole: a law for each. Assumes nothing.
use Prim.Native.Nat.{ℕ, suc, ◌-◌, ◌<◌}
use mathlib.Core.Path.{◌≡◌, sym, ◌∙◌}
use native.Mathlib.Omega.{arith}
use Rattle.sweeping.proofs.Passes.{wide_of, node-ask, node-held, whole-ask, whole-some, whole-held}
use Rattle.sweeping.proofs.turn.Goals as goal

before : {i : ℕ} → 0 < i → i ≡ suc (i - 1)
before h = omega arith

pub offset_bounds-notes-j : goal.offset_bounds-notes-j
offset_bounds-notes-j c = let k = wide_of c.requires.held in omega arith

pub bounds-notes-j : goal.bounds-notes-j
bounds-notes-j c = let k = wide_of c.requires.held in omega arith

pub bounds-p-j : goal.bounds-p-j
bounds-p-j c = let k = wide_of c.requires.held in omega arith

pub settle_node-requires : goal.settle_node-requires
settle_node-requires c = node-ask c.requires.held (before c.requires.some) (sym c.from-n.ensures ∙ c.if-n-eq0.true)

pub returns-then-n-eq0 : goal.returns-then-n-eq0
returns-then-n-eq0 c =
    let x = c.settle_node in
    record { less = omega arith; means = λ f s m h. node-held h (before c.requires.some) (sym c.from-n.ensures ∙ c.if-n-eq0.true) x.ensures x.auto.p }

pub keep_whole-requires : goal.keep_whole-requires
keep_whole-requires c = whole-ask c.requires.held (before c.requires.some) c.from-n.ensures c.if-n-eq0.false

pub returns : goal.returns
returns c =
    let first = before c.requires.some in
    let b = whole-some c.requires.held first c.from-n.ensures c.if-n-eq0.false in
    let x = c.keep_whole in
    record { less = omega arith; means = λ f s m h. whole-held h first c.from-n.ensures c.if-n-eq0.false x.ensures x.auto.p }
