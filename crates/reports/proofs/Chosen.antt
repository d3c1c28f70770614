-- What an operation chooses of the numbers of a list that has some. It has each property that all of them have and that the operation keeps
-- (`chosen-elim`); it is one of them (`chosen-among`); put together with any of them it is itself (`chosen-bounds`); and the first is chosen where
-- that holds of the first (`chosen-absorbed`). With the lower of two numbers for the operation this says that the least is not above any of them,
-- with the higher that the greatest is not below any (`Spans.antt`). Assumes nothing.
use mathlib.Core.Path.{◌≡◌, sym, ap, subst, ◌∙◌}
use mathlib.Core.Logic.{◌⊎◌, inl, inr, ⊎_elim}
use mathlib.Core.List.{List, [], ◌∷◌}
use Prim.Native.Nat.{ℕ}
use lib.ListN.{length}
use Rattle.reports.specs.Report.{chosen}
use Rattle.reports.specs.Nights.{Each}
use Rattle.reports.proofs.Figures.{Assoc, Comm, of-first, of_some}
use Rattle.reports.proofs.Each.{each_more}

-- an operation that gives one of its two numbers
abbrev pub Picks : (ℕ → ℕ → ℕ) → Type 0
Picks op = (a b : ℕ) → (op a b ≡ a) ⊎ (op a b ≡ b)

-- the number is one of a list
abbrev pub Among : ℕ → List ℕ → Type 0
Among x [] = ⊥
Among x (y ∷ ys) = (x ≡ y) ⊎ Among x ys

module _ (op : ℕ → ℕ → ℕ) where
  pub chosen-one : (t : ℕ) → chosen op (t ∷ []) ≡ t
  unfolding chosen
  chosen-one t = of-first op 0 t 0

  pub chosen_more : (t u : ℕ) (us : List ℕ) → chosen op (t ∷ u ∷ us) ≡ op t (chosen op (u ∷ us))
  unfolding chosen
  chosen_more t u us = of_some op 0 t (length us) (chosen op (u ∷ us))

  pub chosen-elim : (P : ℕ → Type 0) → ((a b : ℕ) → P a → P b → P (op a b)) → (t : ℕ) (ts : List ℕ) → Each P (t ∷ ts) → P (chosen op (t ∷ ts))
  chosen-elim P keeps t [] h = subst P (sym (chosen-one t)) h.0
  chosen-elim P keeps t (u ∷ us) h = subst P (sym (chosen_more t u us)) (keeps t (chosen op (u ∷ us)) h.0 (chosen-elim P keeps u us h.1))

  pub chosen-among : Picks op → (t : ℕ) (ts : List ℕ) → Among (chosen op (t ∷ ts)) (t ∷ ts)
  chosen-among picks t [] = inl (chosen-one t)
  chosen-among picks t (u ∷ us) =
      let c = chosen op (u ∷ us) in
      ⊎_elim
      (λ e. inl (chosen_more t u us ∙ e))
      (λ e. inr (subst (λ (x : ℕ). Among x (u ∷ us)) (sym (chosen_more t u us ∙ e)) (chosen-among picks u us)))
      (picks t c)

  module _ (assoc : Assoc op) where
    pub chosen-absorbed : (t : ℕ) (ts : List ℕ) → Each (λ x. op t x ≡ t) ts → chosen op (t ∷ ts) ≡ t
    chosen-absorbed t [] h = chosen-one t
    chosen-absorbed t (u ∷ us) h =
        chosen_more t u us ∙ chosen-elim (λ x. op t x ≡ t) (λ a b p q. sym (assoc t a b) ∙ ap (λ (z : ℕ). op z b) p ∙ q) u us h

    pub chosen-bounds : Comm op → ((a : ℕ) → op a a ≡ a) → (t : ℕ) (ts : List ℕ) → Each (λ x. op (chosen op (t ∷ ts)) x ≡ chosen op (t ∷ ts)) (t ∷ ts)
    chosen-bounds comm idem t [] = (ap (λ (c : ℕ). op c t) (chosen-one t) ∙ idem t ∙ sym (chosen-one t), tt)
    chosen-bounds comm idem t (u ∷ us) =
        let c = chosen op (u ∷ us) in
        let first = comm (op t c) t ∙ sym (assoc t t c) ∙ ap (λ (z : ℕ). op z c) (idem t) in
        subst (λ (d : ℕ). Each (λ x. op d x ≡ d) (t ∷ u ∷ us)) (sym (chosen_more t u us))
        (first, each_more (λ x. op c x ≡ c) (λ x. op (op t c) x ≡ op t c) (λ x e. assoc t c x ∙ ap (op t) e) (u ∷ us) (chosen-bounds comm idem u us))
