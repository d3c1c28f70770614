-- A token is a code, a place holder or a text, and each is written by its law. Assumes nothing.
use mathlib.Core.Path.{sym, subst}
use mathlib.Core.List.{List}
use Prim.Native.Nat.{ℕ}
use native.Mathlib.Omega.{arith}
use Rattle.setting.proofs.Spelling.{put-code, put-holder, put_next}
use Rattle.setting.proofs.Writing.{Puts, code-done}
use Rattle.setting.proofs.put_token.Goals as goal

pub bounds-out-0 : goal.bounds-out-0
bounds-out-0 c = grind (arith, put-code)

pub returns-then-t-lt-HOLDERS : goal.returns-then-t-lt-HOLDERS
returns-then-t-lt-HOLDERS c = code-done c.args.out.now _ _ (grind (arith, put-code)) (put-code _ _ _ _ c.if-t-lt-HOLDERS.true)

pub overflow_add-out : goal.overflow_add-out
overflow_add-out c = grind (arith, put-holder)

pub bounds-out-0-then-t-lt-TEXTS : goal.bounds-out-0-then-t-lt-TEXTS
bounds-out-0-then-t-lt-TEXTS c = grind (arith, put-holder)

pub returns-then-t-lt-TEXTS : goal.returns-then-t-lt-TEXTS
returns-then-t-lt-TEXTS c = code-done c.args.out.now _ _ (grind (arith, put-holder)) (put-holder _ _ _ _ c.if-t-lt-HOLDERS.false c.if-t-lt-TEXTS.true)

pub put_text-requires : goal.put_text-requires
put_text-requires c = (c.requires.0.text c.if-t-lt-TEXTS.false, grind (arith, put_next))

pub returns : goal.returns
returns c =
    subst (λ (x : List ℕ). Puts x c.args.out.now c.put_text.new.out c.put_text.result) (sym (put_next _ _ _ _ c.if-t-lt-TEXTS.false)) c.put_text.ensures
