-- The formulas down the right operands of one that is joined: `OnSpine` says that one of them stands at a place. What is noted of the
-- whole is noted of each (`spine-noted`), and may be noted there (`spine-put`). Assumes nothing.
use mathlib.Core.Path.{◌≡◌, refl, sym, ap, ◌∙◌, subst}
use mathlib.Core.List.{List, ◌∷◌, ◌++◌, append_assoc}
use Prim.Native.Nat.{ℕ, ◌+◌, ◌<◌, ◌≤◌}
use native.Mathlib.Omega.{arith}
use lib.ListN.{length, set, drop}
use Rattle.lists.proofs.Drops.{behind}
use lib.Seq.{get_or-set_same, get_or-set_other}
use Rattle.kinds.specs.declared.Join.{Join}
use Rattle.kinds.specs.Kinds.{join_code}
use Rattle.ltl.specs.Formula.{Formula, join, size, encode}
use Rattle.ltl.proofs.Decoding.{size-some, length-encode}
use Rattle.nodes.specs.Begins.{Front}
use Rattle.stacking.specs.Stacks.{Spined}
use Rattle.stacking.proofs.Stacks.{spined-same}

-- h stands at `at`: it is g at `from`, or stands so in the right operand
pub data OnSpine (j : Join) : ℕ → Formula → ℕ → Formula → Type 0 where
  here : {from at : ℕ} {g h : Formula} → from ≡ at → g ≡ h → OnSpine j from g at h
  deeper : {from at : ℕ} {a b h : Formula} → OnSpine j (from + 1 + size a) b at h → OnSpine j from (join j a b) at h

-- they end at one place
pub spine-ends : {j : Join} {from at : ℕ} {g h : Formula} → OnSpine j from g at h → (at + size h ≡ from + size g) × (from ≤ at)
spine-ends (here e i) = let k = ap size i in (omega arith, omega arith)
spine-ends (deeper x) = let k = spine-ends x in (omega arith, omega arith)

-- one further down
more-at : {j : Join} {from at : ℕ} {g k a b : Formula} → OnSpine j from g at k → k ≡ join j a b → OnSpine j from g (at + 1 + size a) b
more-at {j} {from} {at} {g} {k} {a} {b} (here e i) q =
    subst (λ (x : Formula). OnSpine j from x (at + 1 + size a) b) (sym (i ∙ q)) (deeper (here (ap (λ (n : ℕ). n + 1 + size a) e) refl))
more-at (deeper x) q = deeper (more-at x q)

pub spine-more : {j : Join} {from at : ℕ} {g a b : Formula} → OnSpine j from g at (join j a b) → OnSpine j from g (at + 1 + size a) b
spine-more x = more-at x refl

-- the right operand stands behind the left one
right-front : (p : List ℕ) (from : ℕ) (j : Join) (a b : Formula) (rest : List ℕ) → Front (drop from p) (join j a b) rest → Front (drop (from + 1 + size a) p) b rest
right-front p from j a b rest x =
    let e : from + 1 + size a ≡ from + (1 + size a) = omega arith in
    let l = length-encode a in
    record {
      coded = x.coded.1;
      bytes =
          ap (λ (i : ℕ). drop i p) e
          ∙ behind p from (1 + size a) (join_code j ∷ encode a) (encode b ++ rest) (x.bytes ∙ ap (join_code j ∷◌) (append_assoc (encode a) (encode b) rest)) (omega arith);
    }

-- what stands there
pub spine-front : (p : List ℕ) {j : Join} {from at : ℕ} {g h : Formula} {rest : List ℕ} → OnSpine j from g at h → Front (drop from p) g rest → Front (drop at p) h rest
spine-front p {rest = rest} (here {from = from} {h = h} e i) x =
    subst (λ (k : ℕ). Front (drop k p) h rest) e (subst (λ (y : Formula). Front (drop from p) y rest) i x)
spine-front p {j = j} {rest = rest} (deeper {from = from} {a = a} {b = b} x) y = spine-front p x (right-front p from j a b rest y)

module _ (notes : List ℕ) where
  pub spine-noted : {j : Join} {from at : ℕ} {g h : Formula} → OnSpine j from g at h → Spined notes from g → Spined notes at h
  spine-noted {h = h} (here {from = from} e i) s = subst (λ (k : ℕ). Spined notes k h) e (subst (λ (x : Formula). Spined notes from x) i s)
  spine-noted (deeper x) s = spine-noted x s.1

  -- noting the length of a left operand
  put-at : {j : Join} {from at : ℕ} {g l a b : Formula} → OnSpine j from g at l → l ≡ join j a b → (n : ℕ) → n ≡ size a → at + 1 < length notes → Spined notes from g
      → Spined (set notes (at + 1) n) from g
  put-at {j} {from} {at} {g} {l} {a} {b} (here e i) q n k h s =
      let w = i ∙ q in
      subst (λ (x : Formula). Spined (set notes (at + 1) n) from x) (sym w)
      (subst (λ (m : ℕ). Spined (set notes (at + 1) n) m (join j a b)) (sym e) (
        (λ _. get_or-set_same notes (at + 1) n 0 h ∙ k),
        spined-same b notes (set notes (at + 1) n) (at + 1 + size a) (λ q u v. let z = size-some a in get_or-set_other notes (at + 1) q n 0 (λ w. omega arith))
            (subst (λ (m : ℕ). Spined notes m (join j a b)) e (subst (λ (x : Formula). Spined notes from x) w s)).1,
      ))
  put-at {at = at} (deeper {from = from} {a = c} x) q n k h s =
      let o = (spine-ends x).1 in
      let z = size-some c in
      let m = get_or-set_other notes (at + 1) (from + 1) n 0 (λ w. omega arith) in
      ((λ u. m ∙ s.0 (omega arith)), put-at x q n k h s.1)

  pub spine-put : {j : Join} {from at : ℕ} {g a b : Formula} → OnSpine j from g at (join j a b) → (n : ℕ) → n ≡ size a → at + 1 < length notes → Spined notes from g
      → Spined (set notes (at + 1) n) from g
  spine-put x n k h s = put-at x refl n k h s
