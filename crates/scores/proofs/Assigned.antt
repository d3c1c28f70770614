-- A proposition's owner, assigned mask by mask: the last board whose mask has it. `assigned-more` is one turn of the loop over the
-- masks; `owns` is what the table is once all masks were looked at. Assumes nothing.
use mathlib.Core.Path.{◌≡◌, refl, sym, ap, ◌∙◌}
use mathlib.Core.Bool.{Bool, true, false}
use mathlib.Core.List.{List, [], ◌∷◌}
use Prim.Native.Nat.{ℕ, zero, suc, ◌+◌, ◌<◌, ◌≤◌}
use native.Mathlib.Omega.{arith}
use native.Mathlib.Numerals.{add-one}
use lib.ListN.{length, get_or, drop, drop_of_length-le}
use lib.Seq.{drop-cons}
use lib.Dec.{eqb}
use borrow.Author.Tests.{lt-ltb, eq-eqb, ne_eqb}
use Rattle.lists.proofs.Tests.{no_bits}
use Rattle.lists.specs.Tests.{pick, bit}
use Rattle.masks.specs.Masks.{masks_rule, bit_at}
use Rattle.masks.proofs.Bits.{bit-less}
use Rattle.masks.proofs.Exact.{owners, below, exact}
use Rattle.limits.specs.Limits.{boards_most, propositions_most}
use Rattle.scores.specs.Owned.{Table, Owned, Owns}
use Rattle.scores.proofs.Tests.{bit-yes, bit-no, eqb-suc}

-- the owner of proposition i, which is x before the masks of the boards from b on are looked at
unfoldable pub assigned : ℕ → ℕ → List ℕ → ℕ → ℕ
assigned x b [] i = x
assigned x b (m ∷ ms) i = assigned (pick (bit m i) b x) (suc b) ms i

pub assigned-more : (x b : ℕ) (masks : List ℕ) (i : ℕ) → b < length masks
    → assigned (pick (bit (get_or masks b 0) i) b x) (b + 1) (drop (b + 1) masks) i ≡ assigned x b (drop b masks) i
unfolding assigned
assigned-more x b masks i h = rw (drop-cons masks b 0 h, add-one b)

pub assigned-done : (x b : ℕ) (masks : List ℕ) (i : ℕ) → length masks ≤ b → assigned x b (drop b masks) i ≡ x
unfolding assigned
assigned-done x b masks i h = rw (drop_of_length-le masks h)

-- a board that is there
assigned-few : (x b n : ℕ) (masks : List ℕ) (i : ℕ) → x < n → b + length masks ≤ n → assigned x b masks i < n
unfolding assigned pick
assigned-few x b n [] i h l = h
assigned-few x b n (m ∷ ms) i h l =
    go (bit m i) (assigned-few b (suc b) n ms i (omega arith) (omega arith)) (assigned-few x (suc b) n ms i h (omega arith))
  where
    go : (t : Bool) → assigned b (suc b) ms i < n → assigned x (suc b) ms i < n → assigned (pick t b x) (suc b) ms i < n
    go true p q = p
    go false p q = q

-- ---- a proposition that no mask has
assigned-kept : (masks : List ℕ) (i x b : ℕ) → ((j : ℕ) → bit (get_or masks j 0) i ≡ false) → assigned x b masks i ≡ x
unfolding assigned pick
assigned-kept [] i x b h = refl
assigned-kept (m ∷ ms) i x b h = rw (h 0) (assigned-kept ms i x (suc b) (λ j. h (suc j)))

none_has : (masks : List ℕ) (i : ℕ) → owners masks i ≡ 0 → (j : ℕ) → bit (get_or masks j 0) i ≡ false
unfolding owners
none_has [] i h j = no_bits i
none_has (m ∷ ms) i h zero = bit-no m i (omega arith)
none_has (m ∷ ms) i h (suc j) = none_has ms i (omega arith) j

-- ---- a proposition that one mask has
pub record AssignedOnce (masks : List ℕ) (i x b : ℕ) : Type 0 where
  pub place : ℕ
  pub number : assigned x b masks i ≡ b + place
  pub has : (j : ℕ) → bit (get_or masks j 0) i ≡ eqb place j

assigned-once : (masks : List ℕ) (i x b : ℕ) → owners masks i ≡ 1 → AssignedOnce masks i x b
unfolding owners assigned pick
assigned-once [] i x b h = absurd (omega arith)
assigned-once (m ∷ ms) i x b h = go (bit_at m i) refl (λ q. assigned-once ms i x (suc b) q)
  where
    go : (n : ℕ) → bit_at m i ≡ n → (owners ms i ≡ 1 → AssignedOnce ms i x (suc b)) → AssignedOnce (m ∷ ms) i x b
    go zero e ih =
        let r = ih (omega arith) in
        let q = bit-no m i e in
        let n = r.number in
        record {
          place = suc r.place;
          number = ap (λ (t : Bool). assigned (pick t b x) (suc b) ms i) q ∙ omega arith;
          has = λ j. behind r.place r.has q j;
        }
      where
        behind : (k : ℕ) → ((j : ℕ) → bit (get_or ms j 0) i ≡ eqb k j) → bit m i ≡ false → (j : ℕ) → bit (get_or (m ∷ ms) j 0) i ≡ eqb (suc k) j
        behind k g q zero = q ∙ sym (ne_eqb (suc k) 0 (λ z. omega arith))
        behind k g q (suc j) = g j ∙ sym (eqb-suc k j)
    go (suc zero) e ih =
        let z = none_has ms i (omega arith) in
        let q = bit-yes m i e in
        record {
          place = 0;
          number = ap (λ (t : Bool). assigned (pick t b x) (suc b) ms i) q ∙ assigned-kept ms i b (suc b) z ∙ omega arith;
          has = λ j. here z q j;
        }
      where
        here : ((j : ℕ) → bit (get_or ms j 0) i ≡ false) → bit m i ≡ true → (j : ℕ) → bit (get_or (m ∷ ms) j 0) i ≡ eqb 0 j
        here z q zero = q ∙ sym (eq-eqb 0 0 refl)
        here z q (suc j) = z j ∙ sym (ne_eqb 0 (suc j) (λ e. omega arith))
    go (suc (suc n)) e ih = let l = bit-less m i in absurd (omega arith)

-- ---- the table
module _ (masks before owner : List ℕ) (few : length masks ≤ boards_most) (t : Table before) (long : length owner ≡ length before)
    (each : (i : ℕ) → get_or owner i 0 ≡ assigned (get_or before i 0) 0 masks i) where
  has_one : (p : ℕ) → p ≤ propositions_most → masks_rule p masks ≡ true → (i : ℕ) → i < p → owners masks i ≡ 1
  unfolding below pick
  has_one p l rule i h = exact p masks rule l i (omega arith) ∙ rw (lt-ltb i p h)

  owned : (p : ℕ) → p ≤ propositions_most → masks_rule p masks ≡ true → Owned p masks owner
  owned p l rule = record { few = few; has = has }
    where
      has : (i b : ℕ) → i < p → bit (get_or masks b 0) i ≡ eqb (get_or owner i 0) b
      has i b h =
          let x = assigned-once masks i (get_or before i 0) 0 (has_one p l rule i h) in
          let e : x.place ≡ get_or owner i 0 = omega (arith, x.number, each i) in
          x.has b ∙ ap (λ (k : ℕ). eqb k b) e

  pub owns : Owns masks before owner
  owns =
      record {
        table =
            record {
              long = long ∙ t.long;
              boards = λ i. rw (each i) (assigned-few (get_or before i 0) 0 boards_most masks i (t.boards i) (omega arith));
            };
        owned = owned;
        kept = λ i h. each i ∙ assigned-kept masks i (get_or before i 0) 0 h;
      }
