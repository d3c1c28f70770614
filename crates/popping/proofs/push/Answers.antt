-- Tighter signs and those of its own level go first; then the sign waits. Assumes nothing.
use native.Mathlib.Omega.{arith}
use Rattle.text.proofs.Signs.{level-low}
use Rattle.popping.proofs.Pushes.{pushes}
use Rattle.popping.proofs.push.Goals as goal

pub overflow_add-j : goal.overflow_add-j
overflow_add-j c = let e = c.level_of-j.ensures in let f = level-low c.args.o in omega arith

pub pop-p-requires : goal.pop-p-requires
pop-p-requires c = c.requires.room

pub returns : goal.returns
returns c =
    let e = c.level_of-j.ensures in
    pushes c.args.o _ _ _ c.requires e (omega arith) c.pop-p.ensures c.pop-p.auto.out
