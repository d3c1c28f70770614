-- The line of a position: behind a line feed it is the next one (`stands-line`), behind another byte the same (`stands_same`). It is at most
-- one more than the byte (`stands-few`). Others use `stands-none`. Assumes nothing.
use mathlib.Core.Path.{◌≡◌, refl}
use mathlib.Core.Bool.{Bool, true, false}
use mathlib.Core.List.{List, [], ◌∷◌, ◌++◌}
use Prim.Native.Nat.{ℕ, ◌+◌, ◌≤◌, ◌<◌}
use lib.ListN.{length, get_or, take, length-take}
use lib.Dec.{eqb}
use lib.Seq.{take-suc}
use native.Mathlib.Omega.{arith}
use native.Mathlib.Numerals.{add-one}
use borrow.Author.Tests.{eq-eqb, ne_eqb}
use Rattle.lists.specs.Tests.{pick}
use Rattle.text.specs.Places.{feed_of, feeds}
use Rattle.cursor.specs.declared.TextCursor.{TextCursor}
use Rattle.cursor.specs.Positions.{Stands, Behind}

feed-few : (b : ℕ) → feed_of b ≤ 1
unfolding feed_of pick
feed-few b = go (eqb b 10)
  where
    go : (z : Bool) → pick z 1 0 ≤ 1
    go true = omega arith
    go false = omega arith

feed-is : (b : ℕ) → b ≡ 10 → feed_of b ≡ 1
unfolding feed_of pick
feed-is b e = rw (eq-eqb b 10 e)

feed-not : (b : ℕ) → (b ≡ 10 → ⊥) → feed_of b ≡ 0
unfolding feed_of pick
feed-not b e = rw (ne_eqb b 10 e)

feeds-few : (t : List ℕ) → feeds t ≤ length t
feeds-few [] = omega arith
feeds-few (c ∷ t) = let p = feed-few c in let q = feeds-few t in omega arith

feeds-append : (a b : List ℕ) → feeds (a ++ b) ≡ feeds a + feeds b
feeds-append [] b = omega arith
feeds-append (c ∷ a) b = let q = feeds-append a b in omega arith

feeds-more : (t : List ℕ) (i : ℕ) → i < length t → feeds (take (i + 1) t) ≡ feeds (take i t) + feed_of (get_or t i 0)
feeds-more t i h =
    let q = feeds-append (take i t) (get_or t i 0 ∷ []) in
    rw (add-one i, take-suc t i 0 h) (omega arith)

pub stands-none : (t : List ℕ) → Stands t (record { byte = 0; line = 1 })
stands-none t = record { within = omega arith; counted = refl }

pub stands-few : {t : List ℕ} {c : TextCursor} → Stands t c → c.line ≤ 1 + c.byte
stands-few {t = t} {c = c} s =
    let p = feeds-few (take c.byte t) in
    let q = length-take c.byte t in
    let l = s.counted in
    let w = s.within in
    omega arith

module _ {t : List ℕ} {c : TextCursor} (s : Stands t c) (h : c.byte < length t) {n : ℕ} where
  stands-past : n ≡ c.line + feed_of (get_or t c.byte 0) → Behind t c (record { byte = c.byte + 1; line = n })
  stands-past e =
      let m = feeds-more t c.byte h in
      let l = s.counted in
      record { stands = record { within = omega arith; counted = omega arith }; next = refl }

  pub stands-line : get_or t c.byte 0 ≡ 10 → n ≡ c.line + 1 → Behind t c (record { byte = c.byte + 1; line = n })
  stands-line b q = let f = feed-is (get_or t c.byte 0) b in stands-past (omega arith)

  pub stands_same : (get_or t c.byte 0 ≡ 10 → ⊥) → n ≡ c.line → Behind t c (record { byte = c.byte + 1; line = n })
  stands_same b q = let f = feed-not (get_or t c.byte 0) b in stands-past (omega arith)
