-- The scores of one board, stored from the first board on: `alone_to own b` is what the loop has after b turns. Where `own` is no
-- board nothing is scored. And the choice by them: that board (`alone-board`, `alone-stays`, `picked-alone`). Assumes nothing.
use mathlib.Core.Path.{◌≡◌, refl, sym, ap, ◌∙◌}
use mathlib.Core.Bool.{Bool, true, false}
use mathlib.Core.List.{List, [], ◌∷◌}
use mathlib.Core.Option.{none, some}
use Prim.Native.Nat.{ℕ, zero, suc, ◌+◌, ◌<◌, ◌≤◌}
use native.Mathlib.Omega.{arith}
use native.Mathlib.Decide.{ℕ_discrete}
use lib.ListN.{get_or, set, replicate}
use lib.Seq.{get_or-set_other}
use lib.Dec.{ltb}
use borrow.Author.Tests.{lt-ltb, le-ltb, ltb-true, ltb-false}
use Rattle.lists.specs.Tests.{pick}
use Rattle.limits.specs.Limits.{boards_most}
use Rattle.network.specs.Scores.{highest}
use Rattle.lists.proofs.Stretches.{zeros-at}
use Rattle.scores.specs.Choice.{code_of, picked_by}
use Rattle.scores.specs.Scored.{none_scored, one_scored}
use Rattle.scores.proofs.Padding.{highest-zeros}

unfoldable pub alone_to : ℕ → ℕ → List ℕ
alone_to own b = pick (ltb own b) (one_scored own) none_scored

passed : (own b : ℕ) → own < b → alone_to own b ≡ one_scored own
unfolding alone_to pick
passed own b l = rw (lt-ltb own b l)

ahead : (own b : ℕ) → b ≤ own → alone_to own b ≡ none_scored
unfolding alone_to pick
ahead own b l = rw (le-ltb own b l)

-- a 0 stored where one stands
set-zero : (xs : List ℕ) (b : ℕ) → get_or xs b 0 ≡ 0 → set xs b 0 ≡ xs
set-zero [] b e = refl
set-zero (x ∷ xs) zero e = ap (◌∷ xs) (sym e)
set-zero (x ∷ xs) (suc b) e = ap (x ∷◌) (set-zero xs b e)

pub alone-none : (own : ℕ) → none_scored ≡ alone_to own 0
alone-none own = sym (ahead own 0 (omega arith))

pub alone-own : (own b : ℕ) → b ≡ own → set (alone_to own b) b 1 ≡ alone_to own (b + 1)
alone-own own b e = rw (ahead own b (omega arith), passed own (b + 1) (omega arith), e)

pub alone-other : (own b : ℕ) → (b ≡ own → ⊥) → set (alone_to own b) b 0 ≡ alone_to own (b + 1)
alone-other own b n = go (ltb own b) refl
  where
    go : (t : Bool) → ltb own b ≡ t → set (alone_to own b) b 0 ≡ alone_to own (b + 1)
    go true e =
        let l = ltb-true own b e in
        rw (passed own b l, passed own (b + 1) (omega arith))
        (set-zero (one_scored own) b (get_or-set_other none_scored own b 1 0 n ∙ zeros-at boards_most b))
    go false e =
        let l = ltb-false own b e in
        rw (ahead own b l, ahead own (b + 1) (omega arith)) (set-zero none_scored b (zeros-at boards_most b))

pub alone-all : (own : ℕ) → own ≤ boards_most → alone_to own boards_most ≡ one_scored own
alone-all own l = go (ℕ_discrete own boards_most)
  where
    go : Dec (own ≡ boards_most) → alone_to own boards_most ≡ one_scored own
    go (yes e) = rw e (ahead boards_most boards_most (omega arith))
    go (no n) = passed own boards_most (omega arith)

-- ---- the choice by them
one-highest : (own b n : ℕ) → own < n → highest none 0 b (set (replicate n 0) own 1) ≡ some (own + b)
unfolding highest pick
one-highest own b zero l = absurd (omega arith)
one-highest zero b (suc n) l = highest-zeros (some b) 1 (suc b) n ∙ ap some (omega arith)
one-highest (suc own) b (suc n) l = one-highest own (suc b) n (omega arith) ∙ ap some (omega arith)

pub alone-board : (own : ℕ) → own < boards_most → highest none 0 0 (one_scored own) ≡ some own
alone-board own l = one-highest own 0 boards_most l ∙ ap some (omega arith)

pub alone-stays : highest none 0 0 (one_scored boards_most) ≡ none
alone-stays = highest-zeros none 0 0 boards_most

-- as a number
pub picked-alone : (own : ℕ) → own ≤ boards_most → own ≡ picked_by (one_scored own)
picked-alone own l = go (ℕ_discrete own boards_most)
  where
    go : Dec (own ≡ boards_most) → own ≡ picked_by (one_scored own)
    go (yes e) = rw e (sym (ap code_of alone-stays))
    go (no n) = sym (ap code_of (alone-board own (omega arith)))
