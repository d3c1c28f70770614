-- The places in the header (`unequal-boards`, `unequal-slots`, `places-last`), and where a slot's stretch ends (`end-next`, `end-last`),
-- test by test. Assumes nothing.
use mathlib.Core.Path.{◌≡◌, ap₂}
use mathlib.Core.Bool.{false}
use mathlib.Core.List.{List}
use Prim.Native.Nat.{ℕ, ◌+◌, ◌<◌, ◌≤◌}
use native.Mathlib.Omega.{arith}
use lib.Dec.{eqb}
use borrow.Author.Tests.{eq-eqb, ne_eqb, lt-ltb, le-ltb}
use Rattle.lists.specs.Tests.{pick, both}
use Rattle.state.specs.declared.Counts.{Counts}
use Rattle.state.specs.Form.{form_in, boards_at, slots_at}
use Rattle.state.specs.Fields.{boards_in, slots_in, boards_offset_in, slots_offset_in, nodes_offset_in, nodes_from, start_in, stretch_end}
use Rattle.state.specs.Clauses.{places_ok}
use Rattle.state.specs.Counted.{Header}

-- ---- the places
module _ (s : List ℕ) where
  pub unequal-boards : (boards_offset_in s ≡ boards_at → ⊥) → false ≡ places_ok s
  unfolding places_ok both
  unequal-boards h = rw (ne_eqb (boards_offset_in s) boards_at h)

  module _ (boards : boards_offset_in s ≡ boards_at) where
    pub unequal-slots : (slots_offset_in s ≡ slots_at (form_in s) (boards_in s) → ⊥) → false ≡ places_ok s
    unfolding places_ok both
    unequal-slots h = rw (eq-eqb (boards_offset_in s) boards_at boards, ne_eqb (slots_offset_in s) (slots_at (form_in s) (boards_in s)) h)

    pub places-last : slots_offset_in s ≡ slots_at (form_in s) (boards_in s) → {n p : ℕ} → n ≡ nodes_offset_in s → p ≡ nodes_from s → eqb n p ≡ places_ok s
    unfolding places_ok both
    places-last slots e f = rw (eq-eqb (boards_offset_in s) boards_at boards, eq-eqb (slots_offset_in s) (slots_at (form_in s) (boards_in s)) slots) (ap₂ eqb e f)

-- ---- a stretch's end
module _ {s : List ℕ} {c : Counts} (h : Header s c) (k : ℕ) where
  pub end-next : k + 1 < c.slots → {r : ℕ} → r ≡ start_in s (k + 1) → r ≡ stretch_end s k
  unfolding stretch_end pick
  end-next l e = let q = h.slots-are in rw (lt-ltb (k + 1) (slots_in s) (omega arith)) e

  pub end-last : c.slots ≤ k + 1 → c.nodes ≡ stretch_end s k
  unfolding stretch_end pick
  end-last l = let q = h.slots-are in rw (le-ltb (k + 1) (slots_in s) (omega arith)) h.nodes-are
