-- Calls made one after the other: an accepted one is followed by the rest (`follow-accepted`), a refused one is the last
-- (`follow-refused`). From that, one turn and the end of the boards' samples and of the slots' steps. Assumes nothing.
use mathlib.Core.Path.{◌≡◌, refl, ap, ◌∙◌}
use mathlib.Core.List.{List, []}
use Prim.Native.Nat.{ℕ, suc, ◌+◌, ◌<◌}
use native.Mathlib.Omega.{arith}
use lib.Bits.{bit_and}
use borrow.Author.Tests.{ne_eqb, eq-eqb}
use Rattle.lists.specs.Tests.{pick}
use Rattle.answers.specs.Said.{Said, accepted}
use Rattle.state.specs.Fields.{mask_in}
use Rattle.state.specs.Calls.{sample_says, sample_leaves, step_says, step_leaves}
use Rattle.course.specs.Given.{After, after, follow, sampled_from, stepped_below}

-- ---- what follows a call
pub follow-accepted : (a : After) (next : List ℕ → After) → a.says ≡ accepted [] → follow a next ≡ next a.leaves
unfolding follow pick
follow-accepted a next e = rw (eq-eqb a.says.number 0 (ap (λ (x : Said). x.number) e))

pub follow-refused : (a : After) (next : List ℕ → After) → 0 < a.says.number → follow a next ≡ a
unfolding follow pick
follow-refused a next h = rw (ne_eqb a.says.number 0 (λ e. omega arith))

-- ---- the boards
-- a board's part of the event
abbrev pub part_of : List ℕ → ℕ → ℕ → ℕ
part_of s event i = bit_and event (mask_in s i)

pub sampled-done : (event i : ℕ) (s : List ℕ) → sampled_from 0 event i s ≡ after (accepted []) s
unfolding sampled_from
sampled-done event i s = refl

module _ (n event i : ℕ) (s : List ℕ) where
  -- board i's sample
  abbrev sampled : After
  sampled = after (sample_says s i (part_of s event i)) (sample_leaves s i (part_of s event i))

  sampled-turn : sampled_from (suc n) event i s ≡ follow sampled (sampled_from n event (i + 1))
  unfolding sampled_from
  sampled-turn = refl

  pub sampled-more : sample_says s i (part_of s event i) ≡ accepted [] → sampled_from (suc n) event i s ≡ sampled_from n event (i + 1) (sample_leaves s i (part_of s event i))
  sampled-more e = sampled-turn ∙ follow-accepted sampled (sampled_from n event (i + 1)) e

  pub sampled-refused : 0 < (sample_says s i (part_of s event i)).number → sampled_from (suc n) event i s ≡ sampled
  sampled-refused h = sampled-turn ∙ follow-refused sampled (sampled_from n event (i + 1)) h

-- ---- the slots
pub stepped-done : (s : List ℕ) → stepped_below 0 s ≡ after (accepted []) s
unfolding stepped_below
stepped-done s = refl

module _ (k : ℕ) (s : List ℕ) where
  -- slot k's step
  abbrev stepped : After
  stepped = after (step_says s k) (step_leaves s k)

  stepped-turn : stepped_below (suc k) s ≡ follow stepped (stepped_below k)
  unfolding stepped_below
  stepped-turn = refl

  pub stepped-more : step_says s k ≡ accepted [] → stepped_below (suc k) s ≡ stepped_below k (step_leaves s k)
  stepped-more e = stepped-turn ∙ follow-accepted stepped (stepped_below k) e

  pub stepped-refused : 0 < (step_says s k).number → stepped_below (suc k) s ≡ stepped
  stepped-refused h = stepped-turn ∙ follow-refused stepped (stepped_below k) h
