use mathlib.Core.Path.{◌≡◌, ◌∙◌}
use mathlib.Core.Logic.{inl}
use Prim.Native.Nat.{◌-◌, ◌*◌, ◌+◌, ◌%◌, ◌<◌}
use lib.ListN.{length, get_or}
use Rattle.limits.specs.Limits.{boards_most}
use Rattle.scores.specs.Scored.{counts_below}
use Rattle.scores.proofs.Highest.{last_board, before_more, before-key, key-first, key-higher, key-not, key-none, key-board}
use native.Mathlib.Omega.{arith}
use borrow.Author.Rules.{rules}
use Rattle.scores.proofs.Scores.choice.Goals as goal
use Rattle.scores.proofs.Scores.choice.Goals.{then-most-key, else-most-key}

pub loop-b-init : goal.loop-b-init
loop-b-init c = (inl (omega arith), key-first _)

pub returns-then-most-lt-KEY_BOARDS-clause-is : goal.returns-then-most-lt-KEY_BOARDS-clause-is
returns-then-most-lt-KEY_BOARDS-clause-is c =
    let d = c.loop-b in
    let e : d.b ≡ boards_most = omega arith in
    key-none d.most c.args.self.counts (omega arith) c.if-most-lt-KEY_BOARDS.true ∙ rw e at d.invariant.1

pub returns-clause-is : goal.returns-clause-is
returns-clause-is c =
    let d = c.loop-b in
    let e : d.b ≡ boards_most = omega arith in
    key-board d.most c.args.self.counts (omega arith) c.if-most-lt-KEY_BOARDS.false ∙ rw e at d.invariant.1

pub loop-b-preserved : goal.loop-b-preserved
loop-b-preserved c =
    let k = c.loop-b.invariant in
    let b = c.loop-b.b in
    let most = c.loop-b.most in
    let counts = c.args.self.counts in
    let l = c.requires b in
    let long : length counts ≡ boards_most = search rules in
    let i : b < length counts = omega arith in
    let key = get_or counts b 0 % counts_below * boards_most + (last_board - b) in
    let e : key ≡ get_or counts b 0 * boards_most + (last_board - b) = omega arith in (
      elim c.if-most-key.branch [
        | then-most-key w ↦ rw w.most-is (before-key b (get_or counts b 0) key (omega arith) e)
        | else-most-key w ↦ rw w.most-is (before_more b most k.0)
      ],
      elim c.if-most-key.branch [
        | then-most-key w ↦ rw w.most-is (key-higher most b counts i long key e k.0 w.if-most-key.true ∙ k.1)
        | else-most-key w ↦ rw w.most-is (key-not most b counts i long key e w.if-most-key.false ∙ k.1)
      ],
    )
