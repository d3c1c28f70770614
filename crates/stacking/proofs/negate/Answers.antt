-- Not of the lowest result: a law for each way out. Assumes nothing.
use mathlib.Core.Path.{refl, ap, ◌∙◌}
use Prim.Native.Nat.{◌+◌, ◌-◌}
use lib.ListN.{get_or}
use lib.Seq.{take-set-le, get_or-set_other}
use Rattle.stacking.proofs.Stacks.{top_of, negate-constant, negate-pending}
use native.Mathlib.Omega.{arith}
use Rattle.stacking.proofs.negate.Goals as goal

pub bounds-p-w : goal.bounds-p-w
bounds-p-w c = let t = top_of c.requires.stack in omega arith

pub bounds-p-w-then-a-lt2 : goal.bounds-p-w-then-a-lt2
bounds-p-w-then-a-lt2 c = let t = top_of c.requires.stack in omega arith

pub returns-then-a-lt2 : goal.returns-then-a-lt2
returns-then-a-lt2 c =
    let a = c.args in
    record {
      untouched = record { front = λ v h. take-set-le v a.p.now a.w (1 - get_or a.p.now a.w 0) (omega arith); notes-front = λ q h. refl };
      means = λ f fs s. negate-constant s c.if-a-lt2.true;
    }

pub bounds-notes-w : goal.bounds-notes-w
bounds-notes-w c = let t = top_of c.requires.stack in omega arith

pub overflow_add-n : goal.overflow_add-n
overflow_add-n c = let t = top_of c.requires.stack in let w = c.from-n.ensures in omega arith

pub narrow-requires : goal.narrow-requires
narrow-requires c = let t = top_of c.requires.stack in let w = c.from-n.ensures in omega arith

pub returns : goal.returns
returns c =
    let a = c.args in
    let x = c.requires.some in
    let n = c.narrow in
    record {
      untouched = record { front = λ u h. take-set-le u a.p.now (a.w - 1) 2 (omega arith); notes-front = λ q h. get_or-set_other a.notes.now (a.w - 1) q n.result 0 (λ e. omega arith) };
      means = λ f fs s. negate-pending s x c.if-a-lt2.false n.result (n.ensures ∙ ap (◌+ 1) c.from-n.ensures);
    }
