-- The formulas behind a place: their bytes are those from the place on (`peeled-drop`, `whole_drop`), a formula is peeled off by as many
-- bytes as it has (`peel-through`, `peeled-past`), and where bytes are left one of them begins there (`head_at`). Assumes nothing.
use mathlib.Core.Path.{◌≡◌, refl, sym, ap, ◌∙◌, subst}
use mathlib.Core.List.{List, [], ◌∷◌, append_assoc}
use Prim.Native.Nat.{ℕ, zero, suc, ◌+◌, ◌<◌, ◌≤◌}
use native.Mathlib.Nat.{add-zero, add-suc}
use native.Mathlib.Omega.{arith}
use lib.ListN.{length, drop, length-append, length-drop}
use lib.Seq.{drop-drop}
use native.Mathlib.Numerals.{add-one}
use Rattle.ltl.specs.Formula.{Formula, leaf, one, two, size, encode}
use Rattle.ltl.proofs.Decoding.{size-some, length-encode}
use Rattle.nodes.specs.Begins.{Front}
use Rattle.peeling.specs.Peeled.{encodes, Codeds, peel, peeled}

-- ---- the bytes
peel-drop : (fs : List Formula) → drop 1 (encodes fs) ≡ encodes (peel fs)
peel-drop [] = refl
peel-drop (leaf a ∷ fs) = refl
peel-drop (one o f ∷ fs) = refl
peel-drop (two o f g ∷ fs) = append_assoc (encode f) (encode g) (encodes fs)

pub peeled-drop : (n : ℕ) (fs : List Formula) → drop n (encodes fs) ≡ encodes (peeled n fs)
peeled-drop zero fs = refl
peeled-drop (suc n) fs =
    ap (λ (i : ℕ). drop i (encodes fs)) (sym (add-one n)) ∙ sym (drop-drop 1 n (encodes fs)) ∙ ap (drop 1) (peeled-drop n fs) ∙ peel-drop (peeled n fs)

-- the length of several
pub encodes_more : (f : Formula) (fs : List Formula) → length (encodes (f ∷ fs)) ≡ size f + length (encodes fs)
encodes_more f fs = length-append (encode f) (encodes fs) ∙ ap (◌+ length (encodes fs)) (length-encode f)

none_left : (fs : List Formula) → length (encodes fs) ≤ 0 → fs ≡ []
none_left [] h = refl
none_left (f ∷ fs) h = absurd (let e = encodes_more f fs in let z = size-some f in omega arith)

-- behind the last byte there is none
pub all-peeled : (n : ℕ) (fs : List Formula) → length (encodes fs) ≤ n → peeled n fs ≡ []
all-peeled n fs h =
    let d = length-drop n (encodes fs) in
    let e : length (drop n (encodes fs)) ≡ length (encodes (peeled n fs)) = ap length (peeled-drop n fs) in
    none_left (peeled n fs) (omega arith)

-- ---- over several bytes
pub peeled-add : (m n : ℕ) (fs : List Formula) → peeled (m + n) fs ≡ peeled n (peeled m fs)
peeled-add m zero fs = ap (λ (i : ℕ). peeled i fs) (add-zero m)
peeled-add m (suc n) fs = ap (λ (i : ℕ). peeled i fs) (add-suc m n) ∙ ap peel (peeled-add m n fs)

pub peel-through : (g : Formula) (fs : List Formula) → peeled (size g) (g ∷ fs) ≡ fs
peel-through (leaf a) fs = refl
peel-through (one o f) fs = peeled-add 1 (size f) (one o f ∷ fs) ∙ peel-through f fs
peel-through (two o f g) fs =
    peeled-add (1 + size f) (size g) (two o f g ∷ fs)
    ∙ ap (peeled (size g)) (peeled-add 1 (size f) (two o f g ∷ fs) ∙ peel-through f (g ∷ fs)) ∙ peel-through g fs

-- past the one that begins at a place
pub peeled-past : (i : ℕ) (fs gs : List Formula) (g : Formula) → peeled i fs ≡ g ∷ gs → peeled (i + size g) fs ≡ gs
peeled-past i fs gs g e = peeled-add i (size g) fs ∙ ap (peeled (size g)) e ∙ peel-through g gs

-- ---- codes
codeds-peel : (fs : List Formula) → Codeds fs → Codeds (peel fs)
codeds-peel [] c = tt
codeds-peel (leaf a ∷ fs) c = c.1
codeds-peel (one o f ∷ fs) c = c
codeds-peel (two o f g ∷ fs) c = (c.0.0, (c.0.1, c.1))

pub codeds-peeled : (n : ℕ) (fs : List Formula) → Codeds fs → Codeds (peeled n fs)
codeds-peeled zero fs c = c
codeds-peeled (suc n) fs c = codeds-peel (peeled n fs) (codeds-peeled n fs c)

-- ---- one whole formula
-- the formula that begins at a place, and those behind it
pub record HeadAt (f : Formula) (s : List ℕ) (i : ℕ) : Type 0 where
  pub head : Formula
  pub others : List Formula
  pub is : peeled i (f ∷ []) ≡ head ∷ others
  pub front : Front (drop i s) head (encodes others)

module _ {s : List ℕ} {f : Formula} (x : Front s f []) where
  pub whole_drop : (i : ℕ) → drop i s ≡ encodes (peeled i (f ∷ []))
  whole_drop i = ap (drop i) x.bytes ∙ peeled-drop i (f ∷ [])

  pub whole-codeds : (i : ℕ) → Codeds (peeled i (f ∷ []))
  whole-codeds i = codeds-peeled i (f ∷ []) (x.coded, tt)

  -- how many bytes are left
  pub whole-left : (i : ℕ) → i ≤ length s → i + length (encodes (peeled i (f ∷ []))) ≡ length s
  whole-left i h = let d = length-drop i s in let e = ap length (whole_drop i) in omega arith

  -- behind the last byte there is none
  pub whole-end : peeled (length s) (f ∷ []) ≡ []
  whole-end = let e = ap length x.bytes in all-peeled (length s) (f ∷ []) (omega arith)

  pub head_at : (i : ℕ) → i < length s → HeadAt f s i
  head_at i h = go (peeled i (f ∷ [])) refl
    where
      go : (gs : List Formula) → peeled i (f ∷ []) ≡ gs → HeadAt f s i
      go [] e = absurd (let l = whole-left i (omega arith) in let k = ap (λ (gs : List Formula). length (encodes gs)) e in omega arith)
      go (g ∷ gs) e =
          record {
            head = g;
            others = gs;
            is = e;
            front = record { coded = (subst (λ (l : List Formula). Codeds l) e (whole-codeds i)).0; bytes = whole_drop i ∙ ap encodes e };
          }
