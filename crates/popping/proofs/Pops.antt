-- The last sign of the arrays is popped, or stays, as the definition says. `Popping` is the invariant of `pop`; others use `popped-room`.
-- Assumes nothing.
use mathlib.Core.Path.{◌≡◌, refl, sym, ap, ◌∙◌, subst}
use mathlib.Core.List.{List, ◌∷◌}
use Prim.Native.Nat.{ℕ, zero, suc, ◌+◌, ◌-◌, ◌≤◌, ◌<◌}
use lib.ListN.{length, get_or, set, drop, length-set}
use native.Mathlib.Omega.{arith}
use borrow.Author.Tests.{lt-ltb, le-ltb, eq-eqb, ne_eqb}
use Rattle.lists.specs.Tests.{pick, both}
use Rattle.lists.proofs.Drops.{put-below}
use Rattle.kinds.specs.Kinds.{binary_code}
use Rattle.text.specs.Signs.{level, loosest}
use Rattle.text.specs.Gathering.{Waiting, pops}
use Rattle.popping.specs.declared.Edges.{Edges}
use Rattle.popping.specs.Waits.{sign_at, waits_of, Levels, Room, Pops}

-- the level of a level's sign
level-at : (j : ℕ) → j < loosest → level (sign_at j) ≡ j
unfolding sign_at pick
level-at zero h = refl
level-at (suc zero) h = refl
level-at (suc (suc zero)) h = refl
level-at (suc (suc (suc n))) h = absurd (omega arith)

module _ (levels depths : List ℕ) where
  -- the last sign of the arrays is the first of the list
  last-is : (n : ℕ) → 0 < n
      → waits_of n levels depths ≡ record { depth = get_or depths (n - 1) 0; sign = sign_at (get_or levels (n - 1) 0) } ∷ waits_of (n - 1) levels depths
  last-is zero h = absurd (omega arith)
  last-is (suc n) h = let e : suc n - 1 ≡ n = omega arith in rw e

  -- nothing waits
  pop-none : (n d k : ℕ) (b : List ℕ) → n ≤ 0 → record { waits = waits_of n levels depths; bytes = b } ≡ pops (waits_of n levels depths) d k b
  pop-none zero d k b h = refl
  pop-none (suc n) d k b h = absurd (omega arith)

  module _ (n d k : ℕ) (b : List ℕ) (h : 0 < n) where
    -- it stays where the definition lets it stay
    stays : pops (record { depth = get_or depths (n - 1) 0; sign = sign_at (get_or levels (n - 1) 0) } ∷ waits_of (n - 1) levels depths) d k b
        ≡ record { waits = record { depth = get_or depths (n - 1) 0; sign = sign_at (get_or levels (n - 1) 0) } ∷ waits_of (n - 1) levels depths; bytes = b }
        → record { waits = waits_of n levels depths; bytes = b } ≡ pops (waits_of n levels depths) d k b
    stays e =
        ap (λ (w : List Waiting). record { waits = w; bytes = b }) (last-is n h) ∙ sym e ∙ ap (λ (w : List Waiting). pops w d k b) (sym (last-is n h))

    -- it stands at another depth
    pop-other : (get_or depths (n - 1) 0 ≡ d → ⊥) → record { waits = waits_of n levels depths; bytes = b } ≡ pops (waits_of n levels depths) d k b
    unfolding pick both
    pop-other e = stays (rw (ne_eqb (get_or depths (n - 1) 0) d e))

    module _ (low : Levels n levels) where
      -- it binds no tighter
      pop-loose : get_or depths (n - 1) 0 ≡ d → k ≤ get_or levels (n - 1) 0 → record { waits = waits_of n levels depths; bytes = b } ≡ pops (waits_of n levels depths) d k b
      unfolding pick both
      pop-loose e l =
          stays (rw (eq-eqb (get_or depths (n - 1) 0) d e, level-at (get_or levels (n - 1) 0) (low (n - 1) (omega arith)), le-ltb (get_or levels (n - 1) 0) k l))

      -- it is popped
      pop-one : get_or depths (n - 1) 0 ≡ d → get_or levels (n - 1) 0 < k
          → pops (waits_of n levels depths) d k b ≡ pops (waits_of (n - 1) levels depths) d k (binary_code (sign_at (get_or levels (n - 1) 0)) ∷ b)
      unfolding pick both
      pop-one e l =
          ap (λ (w : List Waiting). pops w d k b) (last-is n h)
          ∙ rw (eq-eqb (get_or depths (n - 1) 0) d e, level-at (get_or levels (n - 1) 0) (low (n - 1) (omega arith)), lt-ltb (get_or levels (n - 1) 0) k l)

-- what is still to be popped, in front of the bytes that are there, is what was to be popped at first
pub record Popping (levels depths : List ℕ) (d k top₀ at₀ : ℕ) (l : List ℕ) (top at : ℕ) (m : List ℕ) : Type 0 where
  pub less : top ≤ top₀
  pub moved : at + top₀ ≡ at₀ + top
  pub long : length m ≡ length l
  pub is : pops (waits_of top levels depths) d k (drop at m) ≡ pops (waits_of top₀ levels depths) d k (drop at₀ l)
  pub room : Room levels depths l (record { top = top₀; at = at₀ })

-- at first nothing is popped
pub popping-none : (levels depths : List ℕ) (d k : ℕ) (l : List ℕ) (x : Edges) → Room levels depths l x
    → Popping levels depths d k x.top x.at l x.top x.at l
popping-none levels depths d k l x r = record { less = omega arith; moved = omega arith; long = refl; is = refl; room = r }

module _ {levels depths : List ℕ} {d k top₀ at₀ : ℕ} {l : List ℕ} {top at : ℕ} {m : List ℕ} (p : Popping levels depths d k top₀ at₀ l top at m) where
  -- no more is popped, and t signs wait
  abbrev Done : ℕ → Type 0
  Done t = Pops levels depths d k (record { top = top₀; at = at₀ }) l (record { top = t; at = at }) m

  done : {t : ℕ} → t ≡ top → record { waits = waits_of top levels depths; bytes = drop at m } ≡ pops (waits_of top levels depths) d k (drop at m) → Done t
  done t e = subst Done (sym t) (record { less = p.less; moved = p.moved; is = e ∙ p.is })

  low : Levels top levels
  low i h = let e = p.less in p.room.low i (omega arith)

  -- each way out
  pub popped-none : top ≤ 0 → Done 0
  popped-none h = done (omega arith) (pop-none levels depths top d k (drop at m) h)

  pub popped-other : 0 < top → (get_or depths (top - 1) 0 ≡ d → ⊥) → Done (top - 1 + 1)
  popped-other h e = done (omega arith) (pop-other levels depths top d k (drop at m) h e)

  pub popped-loose : 0 < top → get_or depths (top - 1) 0 ≡ d → k ≤ get_or levels (top - 1) 0 → Done (top - 1 + 1)
  popped-loose h e b = done (omega arith) (pop-loose levels depths top d k (drop at m) h low e b)

  -- one turn: the last sign's byte goes in front
  pub popping-more : 0 < top → get_or depths (top - 1) 0 ≡ d → get_or levels (top - 1) 0 < k → (c : ℕ) → c ≡ binary_code (sign_at (get_or levels (top - 1) 0))
      → Popping levels depths d k top₀ at₀ l (top - 1) (at - 1) (set m (at - 1) c)
  popping-more h e b c q =
      let a = p.less in
      let o = p.moved in
      let n = p.long in
      let u = p.room.bytes-room in
      let v = p.room.within in
      record {
        less = omega arith;
        moved = omega arith;
        long = length-set m (at - 1) c ∙ p.long;
        is = ap (λ (y : List ℕ). pops (waits_of (top - 1) levels depths) d k y)
            (put-below m (at - 1) at c (omega arith) (omega arith) ∙ ap (λ (y : ℕ). y ∷ drop at m) q)
            ∙ sym (pop-one levels depths top d k (drop at m) h low e b) ∙ p.is;
        room = p.room;
      }

-- what popping leaves has room
pub popped-room : {levels depths : List ℕ} {d k : ℕ} {x : Edges} {l : List ℕ} {r : Edges} {m : List ℕ} → Room levels depths l x → Pops levels depths d k x l r m
    → length m ≡ length l → Room levels depths m r
popped-room room p n =
    let a = p.less in
    let o = p.moved in
    let s = room.levels-room in
    let t = room.depths-room in
    let u = room.bytes-room in
    let v = room.within in
    record { levels-room = omega arith; depths-room = omega arith; bytes-room = omega arith; within = omega arith; low = λ i h. room.low i (omega arith) }
