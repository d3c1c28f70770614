-- Two runs of one list compared. They differ where a number does (`compared-apart`), and where the first and the last are alike what is
-- between them says whether all are (`compared-between`). Assumes nothing.
use Rattle.std.proofs.Common.{◌≡◌, ℕ, suc, ◌+◌, ◌-◌, ◌<◌, ◌≤◌, Bool, false, List, [], ◌∷◌, ◌++◌, length, get_or, take, drop, Decides, eqb, sym, ap, ap₂, ◌∙◌, arith}
use Rattle.std.proofs.lemmas.Bool.{false≢true}
use Rattle.std.proofs.lemmas.Bool.Decides.{Decides-eqb}
use Rattle.std.proofs.lemmas.List.{drop-take, take-take, drop-drop}
use Rattle.std.proofs.lemmas.Slice.Eq.{slice_eq-Decides}
use native.Mathlib.Numerals.{add-one}
use lib.Pointwise.{pointwise}
use lib.ListN.{length-drop}
use lib.Seq.{get_or-take, get_or-drop, drop-cons, take-suc}
use Rattle.buffers.specs.Compares.{Compares}

-- a number of a run is one of the list
run_at : (p : List ℕ) (at n i : ℕ) → i < n → get_or (take n (drop at p)) i 0 ≡ get_or p (at + i) 0
run_at p at n i h = get_or-take n (drop at p) i 0 h ∙ get_or-drop at p i 0

pub compared-apart : (p : List ℕ) (a b n i : ℕ) → i < n → (get_or p (a + i) 0 ≡ get_or p (b + i) 0 → ⊥) → Compares p a b n false
compared-apart p a b n i h d =
    record { alike = λ e. absurd (false≢true e); differ = λ e s. d (sym (run_at p a n i h) ∙ ap (λ (x : List ℕ). get_or x i 0) s ∙ run_at p b n i h) }

-- the m numbers between the first and the last of a run
abbrev between : List ℕ → ℕ → ℕ → List ℕ
between p at m = take m (drop (at + 1) p)

between_is : (p : List ℕ) (at m : ℕ) → between p at m ≡ take m (drop 1 (take (1 + (m + 1)) (drop at p)))
between_is p at m =
    sym (ap (take m) (drop-take 1 (m + 1) (drop at p)) ∙ take-take m (m + 1) (drop 1 (drop at p)) (omega arith) ∙ ap (take m) (drop-drop 1 at p))

run_is : (p : List ℕ) (at m : ℕ) → at + suc (suc m) ≤ length p → take (suc (suc m)) (drop at p) ≡ get_or p at 0 ∷ (between p at m ++ (get_or p (at + suc m) 0 ∷ []))
run_is p at m h =
    let d = length-drop (suc at) p in
    let e : suc at + m ≡ at + suc m = omega arith in
    let last = get_or-drop (suc at) p m 0 ∙ ap (λ (k : ℕ). get_or p k 0) e in
    ap (take (suc (suc m))) (drop-cons p at 0 (omega arith))
    ∙ ap (get_or p at 0 ∷◌) (take-suc (drop (suc at) p) m 0 (omega arith) ∙ ap (λ (x : ℕ). take m (drop (suc at) p) ++ (x ∷ [])) last)
    ∙ ap (λ (k : ℕ). get_or p at 0 ∷ (take m (drop k p) ++ (get_or p (at + suc m) 0 ∷ []))) (sym (add-one at))

between-says : (p : List ℕ) (a b m : ℕ) (r : Bool) → a + suc (suc m) ≤ length p → b + suc (suc m) ≤ length p
    → get_or p a 0 ≡ get_or p b 0 → get_or p (a + suc m) 0 ≡ get_or p (b + suc m) 0 → Decides r (between p a m ≡ between p b m) → Compares p a b (suc (suc m)) r
between-says p a b m r h k first last d = record {
  alike = λ t. run_is p a m h
      ∙ ap (get_or p a 0 ∷◌) (ap₂ (λ (x : List ℕ) (y : ℕ). x ++ (y ∷ [])) (d.0 t) last)
      ∙ ap (λ (x : ℕ). x ∷ (between p b m ++ (get_or p (b + suc m) 0 ∷ []))) first
      ∙ sym (run_is p b m k);
  differ = λ f s. let e : 1 + (m + 1) ≡ suc (suc m) = omega arith in
      let t = between_is p a m ∙ ap (λ (n : ℕ). take m (drop 1 (take n (drop a p)))) e ∙ ap (λ (x : List ℕ). take m (drop 1 x)) s
      ∙ sym (ap (λ (n : ℕ). take m (drop 1 (take n (drop b p)))) e) ∙ sym (between_is p b m) in
      false≢true (sym f ∙ d.1 t);
}

pub compared-between : (p : List ℕ) (a b n m : ℕ) (r : Bool) → n ≡ suc (suc m) → a + n ≤ length p → b + n ≤ length p
    → get_or p a 0 ≡ get_or p b 0 → get_or p (a + (n - 1)) 0 ≡ get_or p (b + (n - 1)) 0
    → r ≡ pointwise eqb (take (a + (n - 1) - (a + 1)) (drop (a + 1) p)) (take (b + (n - 1) - (b + 1)) (drop (b + 1) p)) → Compares p a b n r
compared-between p a b n m r e h k first last d =
    let f : n - 1 ≡ suc m = omega arith in
    let u : a + (n - 1) - (a + 1) ≡ m = omega arith in
    let v : b + (n - 1) - (b + 1) ≡ m = omega arith in
    rw e (between-says p a b m r (omega arith) (omega arith) first (rw f at last) (slice_eq-Decides Decides-eqb (between p a m) (between p b m) r (rw (u, v) at d)))
