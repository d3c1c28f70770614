-- Bytes put one after the other, each changed by a function. Assumes nothing.
use mathlib.Core.Path.{◌≡◌, sym, ap, subst, ◌∙◌}
use mathlib.Core.List.{List, [], ◌∷◌, ◌++◌, map, append_assoc}
use Prim.Native.Nat.{ℕ, ◌+◌, ◌<◌}
use native.Mathlib.Numerals.{add-one}
use Rattle.std.specs.List.{AllZip}
use Rattle.std.proofs.lemmas.Slice.Zip.{AllZip-map, all_zipped_more}
use lib.ListN.{length, take, get_or}
use lib.Seq.{take-suc}

-- bytes are put, each as R relates it
abbrev pub Changed : (ℕ → ℕ → Type 0) → List ℕ → List ℕ → List ℕ → Type 0
Changed R bytes out₀ out = (put : List ℕ) × AllZip R bytes put × (out ≡ out₀ ++ put)

module _ (R : ℕ → ℕ → Type 0) (bytes out₀ : List ℕ) where
  pub changed-more : (out out' : List ℕ) (i x : ℕ) → i < length bytes → R (get_or bytes i 0) x → out' ≡ out ++ (x ∷ []) → Changed R (take i bytes) out₀ out
      → Changed R (take (i + 1) bytes) out₀ out'
  changed-more out out' i x l r e c = (
    c.0 ++ (x ∷ []),
    subst (λ (ys : List ℕ). AllZip R ys (c.0 ++ (x ∷ []))) (sym (ap (λ (k : ℕ). take k bytes) (add-one i) ∙ take-suc bytes i 0 l)) (all_zipped_more R (take i bytes) c.0 (get_or bytes i 0) x c.1 r),
    e ∙ ap (λ (a : List ℕ). a ++ (x ∷ [])) c.2 ∙ append_assoc out₀ c.0 (x ∷ []),
  )

-- bytes that a function changes
pub changed-by : (f : ℕ → ℕ) (R : ℕ → ℕ → Type 0) (bytes out out' : List ℕ) → ((x y : ℕ) → R x y → y ≡ f x) → Changed R bytes out out' → out' ≡ out ++ map f bytes
changed-by f R bytes out out' by c = c.2 ∙ ap (λ (xs : List ℕ). out ++ xs) (AllZip-map f bytes c.0 (go bytes c.0 c.1))
  where
    go : (xs ys : List ℕ) → AllZip R xs ys → AllZip (λ x y. y ≡ f x) xs ys
    go [] [] h = tt
    go [] (y ∷ ys) h = h
    go (x ∷ xs) [] h = h
    go (x ∷ xs) (y ∷ ys) h = (by x y h.0, go xs ys h.1)
