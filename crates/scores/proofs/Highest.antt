-- The highest score, found from the first board on, with the best board and its count in one number, a key: one turn of the loop
-- (`key-higher`, `key-not`), and its end (`key-none`, `key-board`). Assumes nothing.
use mathlib.Core.Path.{◌≡◌, refl, sym, ap, ◌∙◌}
use mathlib.Core.List.{List}
use mathlib.Core.Logic.{◌⊎◌, inl, inr}
use mathlib.Core.Option.{Option, none, some}
use Prim.Native.Nat.{ℕ, ◌+◌, ◌-◌, ◌*◌, ◌/◌, ◌%◌, ◌<◌, ◌≤◌}
use native.Mathlib.Numerals.{add-one}
use native.Mathlib.Omega.{arith}
use native.Mathlib.Decide.{ℕ_discrete}
use lib.ListN.{length, drop, get_or, drop_of_length-le}
use lib.Seq.{drop-cons}
use lib.Dec.{ltb}
use borrow.Author.Tests.{lt-ltb, le-ltb}
use Rattle.lists.specs.Tests.{pick}
use Rattle.limits.specs.Limits.{boards_most}
use Rattle.network.specs.Scores.{highest}

module _ (place : Option ℕ) (most b : ℕ) (counts : List ℕ) where
  highest-turn : b < length counts
      → highest place most b (drop b counts)
      ≡ pick (ltb most (get_or counts b 0)) (highest (some b) (get_or counts b 0) (b + 1) (drop (b + 1) counts)) (highest place most (b + 1) (drop (b + 1) counts))
  unfolding highest
  highest-turn h = rw (drop-cons counts b 0 h, add-one b)

  highest-higher : b < length counts → most < get_or counts b 0
      → highest (some b) (get_or counts b 0) (b + 1) (drop (b + 1) counts) ≡ highest place most b (drop b counts)
  unfolding pick
  highest-higher h k = sym (highest-turn h ∙ simp (lt-ltb _ _ k))

  highest-not : b < length counts → get_or counts b 0 ≤ most
      → highest place most (b + 1) (drop (b + 1) counts) ≡ highest place most b (drop b counts)
  unfolding pick
  highest-not h k = sym (highest-turn h ∙ simp (le-ltb _ _ k))

  highest-done : length counts ≤ b → highest place most b (drop b counts) ≡ place
  unfolding highest
  highest-done h = rw (drop_of_length-le counts h)

-- ---- keys
-- the last board that a key has room for
abbrev pub last_board : ℕ
last_board = boards_most - 1

-- the count is a sixteenth of the key; behind it stands how far the board is from the last one. A key without a count has no board
unfoldable pub key_board : ℕ → Option ℕ
key_board key = pick (ltb key boards_most) none (some (last_board - key % boards_most))

-- the key of a board before board b, or of none
abbrev pub Before : ℕ → ℕ → Type 0
Before b key = (key < boards_most) ⊎ (boards_most - b ≤ key % boards_most)

in-none : (key : ℕ) → key < boards_most → key_board key ≡ none
unfolding key_board pick
in-none key l = rw (lt-ltb key boards_most l)

in-board : (key : ℕ) → boards_most ≤ key → key_board key ≡ some (last_board - key % boards_most)
unfolding key_board pick
in-board key l = rw (le-ltb key boards_most l)

pub before_more : (b key : ℕ) → Before b key → Before (b + 1) key
before_more b key (inl l) = inl l
before_more b key (inr l) = inr (omega arith)

pub before-key : (b x key : ℕ) → b < boards_most → key ≡ x * boards_most + (last_board - b) → Before (b + 1) key
before-key b x key l e = inr (omega arith)

module _ (most b : ℕ) (counts : List ℕ) (h : b < length counts) (few : length counts ≡ boards_most) (key : ℕ) (e : key ≡ get_or counts b 0 * boards_most + (last_board - b)) where
  pub key-higher : Before b most → most < key
      → highest (key_board key) (key / boards_most) (b + 1) (drop (b + 1) counts) ≡ highest (key_board most) (most / boards_most) b (drop b counts)
  key-higher w l = go (ℕ_discrete (get_or counts b 0) 0)
    where
      under : Before b most → (get_or counts b 0 ≡ 0 → ⊥) → most / boards_most < get_or counts b 0
      under (inl k) n = omega arith
      under (inr k) n = omega arith

      go : Dec (get_or counts b 0 ≡ 0) → highest (key_board key) (key / boards_most) (b + 1) (drop (b + 1) counts) ≡ highest (key_board most) (most / boards_most) b (drop b counts)
      go (yes z) =
          let i : key / boards_most ≡ most / boards_most = omega arith in
          let j : key_board key ≡ key_board most = in-none key (omega arith) ∙ sym (in-none most (omega arith)) in
          rw (i, j) (highest-not (key_board most) (most / boards_most) b counts h (omega arith))
      go (no n) =
          let i : key / boards_most ≡ get_or counts b 0 = omega arith in
          let a : last_board - key % boards_most ≡ b = omega arith in
          let j : key_board key ≡ some b = in-board key (omega arith) ∙ ap some a in
          rw (i, j) (highest-higher (key_board most) (most / boards_most) b counts h (under w n))

  pub key-not : key ≤ most → highest (key_board most) (most / boards_most) (b + 1) (drop (b + 1) counts) ≡ highest (key_board most) (most / boards_most) b (drop b counts)
  key-not l = highest-not (key_board most) (most / boards_most) b counts h (omega arith)

-- the first of them, and what the last one tells
pub key-first : (counts : List ℕ) → highest (key_board 0) (0 / boards_most) 0 (drop 0 counts) ≡ highest none 0 0 counts
unfolding key_board pick
key-first counts = refl

pub key-none : (most : ℕ) (counts : List ℕ) → length counts ≤ boards_most → most < boards_most → none ≡ highest (key_board most) (most / boards_most) boards_most (drop boards_most counts)
key-none most counts l k = sym (highest-done (key_board most) (most / boards_most) boards_most counts l ∙ in-none most k)

pub key-board : (most : ℕ) (counts : List ℕ) → length counts ≤ boards_most → boards_most ≤ most → some (last_board - most % boards_most) ≡ highest (key_board most) (most / boards_most) boards_most (drop boards_most counts)
key-board most counts l k = sym (highest-done (key_board most) (most / boards_most) boards_most counts l ∙ in-board most k)
