-- A mask is shown as the text that its board is typed as (`shown_typed`): the mask of the propositions below a place is the mask's
-- part below it (`below-mask`). So it is read back (`shown-back`). And a list with one proposition more, as it is put (`list_put`).
-- Assumes nothing.
use mathlib.Core.Path.{◌≡◌, refl, sym, ap, subst, ◌∙◌}
use mathlib.Core.Bool.{Bool, true, false}
use Rattle.std.specs.Prelude.{Option, Some, None}
use mathlib.Core.List.{List, [], ◌∷◌, ◌++◌, map, append-nil, append_assoc}
use Prim.Native.Nat.{ℕ, zero, suc, ◌+◌, ◌*◌, ◌/◌, ◌%◌, ◌^◌, ◌<◌, ◌≤◌}
use native.Mathlib.Omega.{arith}
use native.Mathlib.Nat.{mod-lt, mod-one, mod-eq_of_lt, one-mul}
use native.Mathlib.Numerals.{add-one}
use lib.ListN.{length, length-append}
use lib.Bits.{bit_or, or_shifted_r}
use lib.Pow.{pow_pos, mod-pow-add}
use lib.Dec.{eqb}
use borrow.Author.Tests.{eqb-true, eqb-false, eq-eqb, ne_eqb}
use Rattle.lists.specs.Tests.{pick, bit}
use Rattle.lists.proofs.Tests.{pick-elim}
use Rattle.limits.specs.Limits.{propositions_most}
use Rattle.masks.specs.Masks.{union_with}
use Rattle.masks.proofs.Bits.{bit-less}
use Rattle.spelling.specs.Typed.{name_of, more_text, list_text, Propositions, mask_of, Typed, none, some, TypedAs, seen_below, board_text}
use Rattle.spelling.specs.Shown.{next_text}
use Rattle.spelling.proofs.Readings.{typed_one}

-- ---- the mask of a list with one proposition more
union_more : (is : List ℕ) (a k : ℕ) → union_with a (map (λ i. 2 ^ i) (is ++ (k ∷ []))) ≡ bit_or (union_with a (map (λ i. 2 ^ i) is)) (2 ^ k)
unfolding union_with
union_more [] a k = refl
union_more (i ∷ is) a k = union_more is (bit_or a (2 ^ i)) k

-- ---- the propositions below a place
next-part : (m k : ℕ) → m % 2 ^ suc k ≡ (m / 2 ^ k % 2) * 2 ^ k + m % 2 ^ k
next-part m k = let e : 1 + k ≡ suc k = omega arith in subst (λ (x : ℕ). m % 2 ^ x ≡ (m / 2 ^ k % 2) * 2 ^ k + m % 2 ^ k) e (mod-pow-add m 1 k)

bit-one : (m k : ℕ) → bit m k ≡ true → m / 2 ^ k % 2 ≡ 1
unfolding bit
bit-one m k h = eqb-true (m / 2 ^ k % 2) 1 h

bit-none : (m k : ℕ) → bit m k ≡ false → m / 2 ^ k % 2 ≡ 0
unfolding bit
bit-none m k h = let l = bit-less m k in let n = eqb-false (m / 2 ^ k % 2) 1 h in omega arith

below-mask : (m k : ℕ) → mask_of (seen_below m k) ≡ m % 2 ^ k
unfolding union_with
below-mask m zero = sym (mod-one m)
below-mask m (suc k) =
    pick-elim (λ (x : List ℕ). mask_of (seen_below m k ++ x) ≡ m % 2 ^ suc k) (bit m k) (k ∷ []) []
    (λ q.
    union_more (seen_below m k) 0 k
    ∙ ap (λ (x : ℕ). bit_or x (2 ^ k)) (below-mask m k)
    ∙ ap (bit_or (m % 2 ^ k)) (sym (one-mul (2 ^ k)))
    ∙ or_shifted_r 1 k (m % 2 ^ k) (mod-lt m (pow_pos k))
    ∙ ap (λ (x : ℕ). x * 2 ^ k + m % 2 ^ k) (sym (bit-one m k q))
    ∙ sym (next-part m k))
    (λ q.
    ap mask_of (append-nil (seen_below m k))
    ∙ below-mask m k
    ∙ sym (ap (λ (x : ℕ). x * 2 ^ k + m % 2 ^ k) (bit-none m k q) ∙ omega arith)
    ∙ sym (next-part m k))

few-more : (is : List ℕ) (k : ℕ) → Propositions is → k < propositions_most → Propositions (is ++ (k ∷ []))
few-more [] k h l = (l, tt)
few-more (i ∷ is) k h l = (h.0, few-more is k h.1 l)

-- each is below the place
below-few : (m k : ℕ) → k ≤ propositions_most → Propositions (seen_below m k)
below-few m zero h = tt
below-few m (suc k) h =
    pick-elim (λ (x : List ℕ). Propositions (seen_below m k ++ x)) (bit m k) (k ∷ []) []
    (λ q. few-more (seen_below m k) k (below-few m k (omega arith)) (omega arith))
    (λ q. subst Propositions (sym (append-nil (seen_below m k))) (below-few m k (omega arith)))

-- ---- boards
-- a mask that is not 0 has a proposition
list-shown : (m : ℕ) (is : List ℕ) → Propositions is → mask_of is ≡ m → (m ≡ 0 → ⊥) → Typed (list_text is) m
unfolding union_with
list-shown m [] h e ne = absurd (ne (sym e))
list-shown m (i ∷ is) h e ne = some i is h refl (sym e)

pub shown_typed : (m : ℕ) → m < 2 ^ 64 → Typed (board_text m) m
unfolding board_text
shown_typed m h =
    pick-elim (λ (t : List ℕ). Typed t m) (eqb m 0) (45 ∷ []) (list_text (seen_below m propositions_most)) (λ q. none refl (eqb-true m 0 q))
    (λ q. list-shown m (seen_below m propositions_most) (below-few m propositions_most (omega arith)) (below-mask m propositions_most ∙ mod-eq_of_lt h) (eqb-false m 0 q))

-- what is shown is read back as the mask
pub shown-back : (m : ℕ) (r : Option ℕ) → m < 2 ^ 64 → TypedAs (board_text m) r → r ≡ Some m
shown-back m (Some k) h t = ap Some (typed_one (board_text m) k m t (shown_typed m h))
shown-back m None h n = absurd (n m (shown_typed m h))

-- ---- a list as it is put
more-text : (is : List ℕ) (k : ℕ) → more_text (is ++ (k ∷ [])) ≡ more_text is ++ (44 ∷ name_of k)
more-text [] k = ap (λ (x : List ℕ). 44 ∷ x) (append-nil (name_of k))
more-text (i ∷ is) k = ap (λ (x : List ℕ). 44 ∷ (name_of i ++ x)) (more-text is k) ∙ ap (λ (x : List ℕ). 44 ∷ x) (sym (append_assoc (name_of i) (more_text is) (44 ∷ name_of k)))

-- the next proposition goes behind a comma, unless nothing is there yet
list-more : (is : List ℕ) (k start at : ℕ) → at ≡ start + length (list_text is)
    → list_text (is ++ (k ∷ [])) ≡ list_text is ++ pick (eqb at start) (name_of k) (44 ∷ name_of k)
unfolding pick name_of
list-more [] k start at e = rw (eq-eqb at start (omega arith)) (append-nil (name_of k))
list-more (i ∷ is) k start at e =
    let long = length-append (name_of i) (more_text is) in
    rw (ne_eqb at start (λ same. omega arith))
    (ap (λ (x : List ℕ). name_of i ++ x) (more-text is k) ∙ sym (append_assoc (name_of i) (more_text is) (44 ∷ name_of k)))

pub below_more : (m i start at : ℕ) → at ≡ start + length (list_text (seen_below m i)) → list_text (seen_below m (i + 1)) ≡ list_text (seen_below m i) ++ next_text m start at i
unfolding next_text pick
below_more m i start at e = ap (λ (k : ℕ). list_text (seen_below m k)) (add-one i) ∙ go (bit m i)
  where
    go : (b : Bool) → list_text (seen_below m i ++ pick b (i ∷ []) []) ≡ list_text (seen_below m i) ++ pick b (pick (eqb at start) (name_of i) (44 ∷ name_of i)) []
    go true = list-more (seen_below m i) i start at e
    go false = ap list_text (append-nil (seen_below m i)) ∙ sym (append-nil (list_text (seen_below m i)))

-- the list with the next proposition put behind it
pub list_put : (m i start : ℕ) (out reached out' : List ℕ) → start ≡ length out → reached ≡ out ++ list_text (seen_below m i)
    → out' ≡ reached ++ next_text m start (length reached) i → out' ≡ out ++ list_text (seen_below m (i + 1))
list_put m i start out reached out' s p q =
    let next = next_text m start (length reached) i in
    let long = length-append out (list_text (seen_below m i)) in
    let more = below_more m i start (length reached) (ap length p ∙ omega arith) in
    q ∙ ap (λ (x : List ℕ). x ++ next) p ∙ append_assoc out (list_text (seen_below m i)) next ∙ ap (λ (x : List ℕ). out ++ x) (sym more)
