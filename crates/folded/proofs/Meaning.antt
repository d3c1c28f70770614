-- Folding keeps the meaning: a trace meets the folded formula at a tick exactly where it meets the formula (`folded_keeps`). First what
-- one node becomes (`folded-one-keeps`, `folded-join-keeps`, `folded-until-keeps`), then operands. Assumes nothing.
use mathlib.Core.Path.{◌≡◌, sym, subst}
use mathlib.Core.Bool.{Bool, true, false}
use mathlib.Core.Logic.Iff
use mathlib.Core.Logic.{inl, inr, ⊎_elim, ◌↔◌}
use Prim.Native.Nat.{ℕ, suc}
use native.Mathlib.Nat.{eq-or-lt_of_le}
use native.Mathlib.Omega.{arith}
use Rattle.kinds.specs.declared.Unary.{Unary}
use Rattle.kinds.specs.declared.Unary.TheVariants.{Not, Next, Ever}
use Rattle.kinds.specs.declared.Join.{Join}
use Rattle.kinds.specs.declared.Join.TheVariants.{And, Or}
use Rattle.kinds.specs.declared.Binary.{Binary}
use Rattle.kinds.specs.declared.Binary.TheVariants.{Joined, Until}
use Rattle.ltl.specs.Formula.{Formula, leaf, one, two, constant, join}
use Rattle.ltl.specs.Meaning.{Trace, Meets}
use Rattle.folded.specs.Folding.{folded_one, folded_two, folded}
use Rattle.folded.proofs.Cases.{either_is, of_constant, folded-one-cases, folded-join-cases, folded-until-cases}

module _ (w : Trace) where
  abbrev Same : ℕ → Formula → Formula → Type 0
  Same i f g = Meets w i f ↔ Meets w i g

  -- equal formulas
  keep : {f g : Formula} (i : ℕ) → f ≡ g → Meets w i g → Meets w i f
  keep i e = subst (λ (x : Formula). Meets w i x) (sym e)

  -- a constant is met at every tick or at none
  always-same : (v : Bool) (i k : ℕ) → Meets w i (constant v) → Meets w k (constant v)
  always-same true i k h = tt
  always-same false i k h = absurd h

  -- ---- a node with one operand
  one-constant : (i : ℕ) (o : Unary) (v : Bool) → Same i (constant (of_constant o v)) (one o (constant v))
  one-constant i Not true = (λ h. absurd h, λ h. h tt)
  one-constant i Not false = (λ h x. x, λ h. tt)
  one-constant i Next v = (always-same v i (suc i), always-same v (suc i) i)
  one-constant i (Ever Or) v = (λ h. (i, omega arith, h), λ h. always-same v h.0 i h.2)
  one-constant i (Ever And) v = (λ h k l. always-same v i k h, λ h. h i (omega arith))

  folded-one-keeps : (i : ℕ) (o : Unary) (f : Formula) → Same i (folded_one o f) (one o f)
  folded-one-keeps i o f =
      folded-one-cases (λ x. Same i x (one o f)) o f (λ v e. subst (λ (x : Formula). Same i (constant (of_constant o v)) (one o x)) (sym e) (one-constant i o v)) (λ n. Iff.rfl)

  one_same : (o : Unary) (f g : Formula) → ((i : ℕ) → Same i f g) → (i : ℕ) → Same i (one o f) (one o g)
  one_same Not f g p i = (λ h x. h ((p i).1 x), λ h x. h ((p i).0 x))
  one_same Next f g p i = p (suc i)
  one_same (Ever Or) f g p i = (λ h. (h.0, h.1, (p h.0).0 h.2), λ h. (h.0, h.1, (p h.0).1 h.2))
  one_same (Ever And) f g p i = (λ h k l. (p k).0 (h k l), λ h k l. (p k).1 (h k l))

  -- ---- a node with two operands
  folded-join-keeps : (i : ℕ) (j : Join) (l r : Formula) → Same i (folded_two (Joined j) l r) (join j l r)
  folded-join-keeps i And l r =
      folded-join-cases (λ x. Same i x (join And l r)) And l r
      (λ e. (λ h. absurd h, λ h. keep i (sym e) h.0))
      (λ e. (λ h. absurd h, λ h. keep i (sym e) h.1))
      (λ e. (λ h. (keep i e tt, h), λ h. h.1))
      (λ e. (λ h. (h, keep i e tt), λ h. h.0))
      (λ n m. Iff.rfl)
  folded-join-keeps i Or l r =
      folded-join-cases (λ x. Same i x (join Or l r)) Or l r
      (λ e. (λ h. inl (keep i e h), λ h. tt))
      (λ e. (λ h. inr (keep i e h), λ h. tt))
      (λ e. (λ h. inr h, λ h. ⊎_elim (λ x. absurd (keep i (sym e) x)) (λ x. x) h))
      (λ e. (λ h. inl h, λ h. ⊎_elim (λ x. x) (λ x. absurd (keep i (sym e) x)) h))
      (λ n m. Iff.rfl)

  -- the right operand at this tick is until at this tick
  until-now : (i : ℕ) (f g : Formula) → Meets w i g → Meets w i (two Until f g)
  until-now i f g h = (i, omega arith, h, λ l a b. absurd (omega arith))

  -- a right operand that is a constant is met now where it is met later; with false on the left there is no later
  folded-until-keeps : (i : ℕ) (f g : Formula) → Same i (folded_two Until f g) (two Until f g)
  folded-until-keeps i f g =
      folded-until-cases (λ x. Same i x (two Until f g)) f g
      (λ e. (until-now i f g, λ h. (let c = either_is g e in keep i c.1 (always-same c.0 h.0 i (keep h.0 (sym c.1) h.2)))))
      (λ e. (until-now i f g, λ h. ⊎_elim (λ q. subst (λ (k : ℕ). Meets w k g) (sym q) h.2) (λ q. absurd (keep i (sym e) (h.3 i (omega arith) q))) (eq-or-lt_of_le h.1)))
      (λ n m. Iff.rfl)

  two-same : (o : Binary) (f g f' g' : Formula) → ((i : ℕ) → Same i f f') → ((i : ℕ) → Same i g g') → (i : ℕ) → Same i (two o f g) (two o f' g')
  two-same (Joined And) f g f' g' p q i = (λ h. ((p i).0 h.0, (q i).0 h.1), λ h. ((p i).1 h.0, (q i).1 h.1))
  two-same (Joined Or) f g f' g' p q i = (⊎_elim (λ h. inl ((p i).0 h)) (λ h. inr ((q i).0 h)), ⊎_elim (λ h. inl ((p i).1 h)) (λ h. inr ((q i).1 h)))
  two-same Until f g f' g' p q i = (
    λ h. (h.0, h.1, (q h.0).0 h.2, λ l a b. (p l).0 (h.3 l a b)),
    λ h. (h.0, h.1, (q h.0).1 h.2, λ l a b. (p l).1 (h.3 l a b)),
  )

  -- ---- the whole formula
  pub folded_keeps : (f : Formula) (i : ℕ) → Meets w i (folded f) ↔ Meets w i f
  folded_keeps (leaf a) i = Iff.rfl
  folded_keeps (one o f) i = Iff.trans (folded-one-keeps i o (folded f)) (one_same o (folded f) f (λ k. folded_keeps f k) i)
  folded_keeps (two (Joined j) f g) i =
      Iff.trans (folded-join-keeps i j (folded f) (folded g)) (two-same (Joined j) (folded f) (folded g) f g (λ k. folded_keeps f k) (λ k. folded_keeps g k) i)
  folded_keeps (two Until f g) i =
      Iff.trans (folded-until-keeps i (folded f) (folded g)) (two-same Until (folded f) (folded g) f g (λ k. folded_keeps f k) (λ k. folded_keeps g k) i)
