-- A result that stands at the end of some bytes, moved to the front (`fronted`), and the rest cleared (`rewrite-done`). Assumes nothing.
use mathlib.Core.Path.{◌≡◌, sym, ap, ◌∙◌}
use mathlib.Core.List.{List, ◌++◌}
use Prim.Native.Nat.{ℕ, ◌-◌, ◌≤◌}
use native.Mathlib.Omega.{arith}
use lib.ListN.{length, take, drop, replicate, length-append, length-drop}
use lib.Seq.{drop_at, take_all}
use Rattle.lists.specs.Runs.{tail, padded}
use Rattle.lists.proofs.Parts.{tail-is, handed-tail}
use Rattle.ltl.specs.Formula.{Formula, size, encode}
use Rattle.ltl.proofs.Decoding.{length-encode}
use Rattle.resolving.specs.declared.Seen.{Seen}
use Rattle.resolving.specs.Settles.{settled}
use Rattle.sweeping.specs.Passes.{SettlesAll}
use Rattle.rewriting.specs.Rewritten.{Fronted, FrontedAs, Rewritten}

-- moved to the front
pub fronted : (seen : Seen) (p p₁ p₂ : List ℕ) (w n : ℕ) → SettlesAll seen p p₁ w → n ≡ length p₁ - w → p₂ ≡ take n (drop w p₁) ++ drop n p₁ → Fronted seen p p₂ n
fronted seen p p₁ p₂ w n s e m f x =
    let g = settled seen f in
    let d = (s f x).0 in
    let i = (s f x).1 in
    let l = length-drop w p₁ in
    let k : length (drop w p₁) ≡ size g = ap length d ∙ length-encode g in
    let q : n ≡ size g = omega arith in
    let t : take n (drop w p₁) ≡ encode g = take_all n (drop w p₁) (omega arith) ∙ d in
    let b : p₂ ≡ encode g ++ drop n p₁ = m ∙ ap (◌++ drop n p₁) t in
    record { count = q; bytes = b ∙ ap (encode g ++◌) (sym (ap (drop n) b ∙ drop_at (encode g) (drop n p₁) n (length-encode g ∙ sym q))) }

-- the bytes behind it
pub fronted-fits : {g : Formula} {p : List ℕ} {n : ℕ} → FrontedAs g p n → n ≤ length p
fronted-fits {g} {p} {n} x =
    let a : length p ≡ length (encode g ++ drop n p) = ap length x.bytes in
    let b = length-append (encode g) (drop n p) in
    let c = length-encode g in
    let d = x.count in
    omega arith

-- the rest cleared
pub cleared : (g : Formula) (p z : List ℕ) (n : ℕ) → FrontedAs g p n → z ≡ replicate (length (tail n p)) 0
    → take n p ++ (z ++ drop (length p - n) (drop n p)) ≡ padded (length p) (encode g)
cleared g p z n x q =
    let l = length-encode g in
    let k = x.count in
    let a = handed-tail p (encode g) (drop n p) n x.bytes (l ∙ sym k) z in
    let t : length (tail n p) ≡ length p - length (encode g) = ap length (tail-is n p) ∙ length-drop n p ∙ ap (length p -◌) (k ∙ sym l) in
    a ∙ ap (encode g ++◌) (q ∙ ap (λ (i : ℕ). replicate i 0) t)

-- all of it: the result at the front, and zeros up to the end
pub rewrite-done : (seen : Seen) (p p₁ z : List ℕ) (n : ℕ) → Fronted seen p p₁ n → length p₁ ≡ length p → z ≡ replicate (length (tail n p₁)) 0
    → Rewritten seen p (take n p₁ ++ (z ++ drop (length p₁ - n) (drop n p₁))) n
rewrite-done seen p p₁ z n r l q =
    record {
      bytes = λ f x. cleared (settled seen f) p₁ z n (r f x) q ∙ ap (λ (j : ℕ). padded j (encode (settled seen f))) l;
      count = λ f x. (r f x).count;
    }
