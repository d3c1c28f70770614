-- Where a slot's stretch ends (`next-end`, `last_end`), and that stretches in which their slots lie stand one behind the other
-- (`stretch-apart`). Assumes nothing.
use mathlib.Core.Path.{◌≡◌, ap}
use mathlib.Core.List.{List}
use Prim.Native.Nat.{ℕ, zero, suc, ◌+◌, ◌-◌, ◌<◌, ◌≤◌}
use native.Mathlib.Omega.{arith}
use borrow.Author.Tests.{lt-ltb, le-ltb}
use Rattle.lists.specs.Tests.{pick}
use Rattle.state.specs.Fields.{slots_in, nodes_in, start_in, stretch_end}
use Rattle.state.specs.Counted.{InStretch}

pub next-end : (s : List ℕ) (k : ℕ) → k + 1 < slots_in s → stretch_end s k ≡ start_in s (k + 1)
unfolding stretch_end pick
next-end s k h = rw (lt-ltb (k + 1) (slots_in s) h)

pub last_end : (s : List ℕ) (k : ℕ) → slots_in s ≤ k + 1 → stretch_end s k ≡ nodes_in s
unfolding stretch_end pick
last_end s k h = rw (le-ltb (k + 1) (slots_in s) h)

module _ (s : List ℕ) (all : (k : ℕ) → k < slots_in s → InStretch s k) where
  stretch-order : (d j : ℕ) → j + 1 + d < slots_in s → stretch_end s j ≤ start_in s (j + 1 + d)
  stretch-order zero j l =
      let e : j + 1 + 0 ≡ j + 1 = omega arith in
      let h = ap (start_in s) e in
      omega (arith, next-end s j (omega arith))
  stretch-order (suc d) j l =
      let m = j + 1 + d in
      let e : m + 1 ≡ j + 1 + suc d = omega arith in
      let h = ap (start_in s) e in
      omega (arith, stretch-order d j (omega arith), (all m (omega arith)).used, next-end s m (omega arith))

  pub stretch-apart : (j k : ℕ) → j < k → k < slots_in s → stretch_end s j ≤ start_in s k
  stretch-apart j k a l =
      let e : j + 1 + (k - (j + 1)) ≡ k = omega arith in
      let h = ap (start_in s) e in
      omega (arith, stretch-order (k - (j + 1)) j (omega arith))
