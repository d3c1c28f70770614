-- A tick keeps the value of every slot: once all slots are stepped, in whatever order, each has the value that it had before, with
-- the tick's event taken off (`tick-models`). A slot is given by the slots that it holds, which have higher numbers, so that the
-- order does not enter. `stepped-holds`: what a step still holds. Assumes nothing.
use mathlib.Core.Path.{◌≡◌, refl, sym, ap, ap₂, ◌∙◌}
use mathlib.Core.Bool.{Bool, true, false}
use mathlib.Core.List.{List, [], ◌∷◌}
use mathlib.Core.Option.{Option, some}
use Prim.Native.Nat.{ℕ, zero, suc, ◌+◌, ◌<◌, ◌≤◌}
use native.Mathlib.Omega.{arith}
use lib.ListN.{length}
use Rattle.lists.specs.Tests.{bit}
use Rattle.kinds.specs.declared.Leaf.TheVariants.{Const, Prop, Hold}
use Rattle.kinds.specs.declared.Unary.TheVariants.{Not, Next}
use Rattle.kinds.specs.declared.Binary.TheVariants.{Joined}
use Rattle.answers.specs.declared.Verdict.{Verdict}
use Rattle.answers.specs.declared.Verdict.TheVariants.{False, True, Pending}
use Rattle.ltl.specs.Formula.{Formula, leaf, one, two}
use Rattle.ltl.specs.Meaning.{Event}
use Rattle.ltl.specs.Progression.{resolved, filled, filled_by, verdict_of}
use Rattle.ltl.proofs.Joining.{joined-elim, negated-elim}
use Rattle.network.specs.Layout.{Slot, slot_at}
use Rattle.network.specs.Tick.{verdict_at, AllMarked}
use Rattle.ltl.proofs.Verdicts.{known, opposite, together}
use Rattle.network.proofs.Owned.{Plain, stepped-clean, stepped-headed}
use Rattle.network.proofs.Values.{Env, value, value-constant, value-joined, value-negated, value-free}
use Rattle.network.proofs.Laying.{Choice, HoldsIn}
use Rattle.network.proofs.Origins.{Models}
use Rattle.network.proofs.Holding.{holds-map, free-holds}
use Rattle.network.proofs.Relaying.{AllOk, Stepped}
use Rattle.network.proofs.Settling.{slot_ok, settled_slot, Partly}

-- the environment with an event taken off
abbrev pub shifted : Event → Env → Env
shifted e E u k = E (e ∷ u) k

-- a step holds no slot that was not held before, and none that is constant
pub stepped-holds : (choose : Formula → Option ℕ) (s : Event) (held : ℕ → Verdict) (Q : ℕ → Type 0) (b : ℕ) (f : Formula) → Plain choose b f → HoldsIn Q f
    → HoldsIn (λ m. Q m × (held m ≡ Pending)) (resolved s (filled held f))
stepped-holds choose s held Q b (leaf (Const v)) p x = tt
stepped-holds choose s held Q b (leaf (Prop i)) p x = tt
stepped-holds choose s held Q b (leaf (Hold m)) p x = go (held m) refl
  where
    go : (v : Verdict) → held m ≡ v → HoldsIn (λ m. Q m × (held m ≡ Pending)) (resolved s (leaf (filled_by v m)))
    go True e = tt
    go False e = tt
    go Pending e = (x, e)
stepped-holds choose s held Q b (one Not f) p x =
    negated-elim (λ g. HoldsIn (λ m. Q m × (held m ≡ Pending)) g) (resolved s (filled held f)) (λ e. tt) (λ e. tt) (stepped-holds choose s held Q b f p x)
stepped-holds choose s held Q b (one Next f) p x = free-holds choose (λ m. Q m × (held m ≡ Pending)) f p.0
stepped-holds choose s held Q b (two (Joined j) f g) p x =
    let l = stepped-holds choose s held Q b f p.0 x.0 in
    let r = stepped-holds choose s held Q b g p.1 x.1 in
    joined-elim (λ h. HoldsIn (λ m. Q m × (held m ≡ Pending)) h) j (resolved s (filled held f)) (resolved s (filled held g)) (λ e. tt) (λ e. tt) (λ e. r) (λ e. l) (λ m. r) (l, r)
stepped-holds choose s held Q b (one (Rattle.kinds.specs.declared.Unary.TheVariants.Ever _) f) p x = elim p [ ]
stepped-holds choose s held Q b (two Rattle.kinds.specs.declared.Binary.TheVariants.Until f g) p x = elim p [ ]

-- ---- the value of a held slot, filled in
filled-value : (E : Env) (e s : Event) (m : ℕ) (g : Formula) → ((u : List Event) → value (shifted e E) u g ≡ E (e ∷ u) m)
    → (u : List Event) → value (shifted e E) u (resolved s (leaf (filled_by (verdict_of g) m))) ≡ E (e ∷ u) m
filled-value E e s m (leaf (Const true)) h u = h u
filled-value E e s m (leaf (Const false)) h u = h u
filled-value E e s m (leaf (Prop i)) h [] = h []
filled-value E e s m (leaf (Prop i)) h (d ∷ u) = refl
filled-value E e s m (leaf (Hold k)) h [] = h []
filled-value E e s m (leaf (Hold k)) h (d ∷ u) = refl
filled-value E e s m (one o f) h [] = h []
filled-value E e s m (one o f) h (d ∷ u) = refl
filled-value E e s m (two o f g) h [] = h []
filled-value E e s m (two o f g) h (d ∷ u) = refl

module _ (choose : Formula → Option ℕ) (choice : Choice choose) (sampled : Event → ℕ → Event)
    (own : (e : Event) (b i : ℕ) → choose (leaf (Prop i)) ≡ some b → bit (sampled e b) i ≡ bit e i) where
  -- the value of a stepped slot
  step_value : (E : Env) (e : Event) (held : ℕ → Verdict) (b : ℕ) (f : Formula) → Plain choose b f
      → HoldsIn (λ m. (u : List Event) → value (shifted e E) u (resolved (sampled e b) (leaf (filled_by (held m) m))) ≡ E (e ∷ u) m) f
      → (u : List Event) → value (shifted e E) u (resolved (sampled e b) (filled held f)) ≡ value E (e ∷ u) f
  step_value E e held b (leaf (Const v)) p x u = value-constant (shifted e E) u v
  step_value E e held b (leaf (Prop i)) p x u = value-constant (shifted e E) u (bit (sampled e b) i) ∙ ap known (own e b i p)
  step_value E e held b (leaf (Hold m)) p x u = x u
  step_value E e held b (one Not f) p x u =
      value-negated (shifted e E) u (resolved (sampled e b) (filled held f)) ∙ ap opposite (step_value E e held b f p x u)
  step_value E e held b (one Next f) p x u = value-free choose (shifted e E) E u f p.0
  step_value E e held b (two (Joined j) f g) p x u =
      value-joined (shifted e E) u j (resolved (sampled e b) (filled held f)) (resolved (sampled e b) (filled held g))
      ∙ ap₂ (together j) (step_value E e held b f p.0 x.0 u) (step_value E e held b g p.1 x.1 u)
  step_value E e held b (one (Rattle.kinds.specs.declared.Unary.TheVariants.Ever _) f) p x u = elim p [ ]
  step_value E e held b (two Rattle.kinds.specs.declared.Binary.TheVariants.Until f g) p x u = elim p [ ]

  -- ---- a tick whose slots are all stepped
  module _ (E : Env) (e : Event) (before : List Slot) (ok : AllOk choose choice (length before) 0 before) (models : Models E before)
      (last : List Slot) (marks : List Bool) (partly : Partly choose choice (sampled e) before ok last marks) (all : AllMarked last marks) where
    many : length last ≡ length before
    many = partly.many

    slot_is : (k : ℕ) → k < length before → slot_at last k ≡ settled_slot choose choice (sampled e) before ok last k
    slot_is k l = let n = many in partly.done k l (all k (omega arith))

    pub tick-stepped : (n : ℕ) → n < length last → Stepped choose choice (length last) n (slot_at last n)
    tick-stepped n l =
        let m = many in
        let i : n < length before = omega arith in
        let o = slot_ok choose choice (sampled e) before ok n i in
        let b = (slot_at before n).board in
        let f = (slot_at before n).formula in
        rw (slot_is n i, m)
        (record {
          clean = stepped-clean choose (sampled e b) (verdict_at last) b f o.plain;
          headed = stepped-headed choose (sampled e b) (verdict_at last) b f o.plain;
          holds =
              holds-map (λ m. ((n < m) × (m < length before)) × (verdict_at last m ≡ Pending)) (λ m. (n < m) × (m < length before)) (λ m h. h.0)
              (resolved (sampled e b) (filled (verdict_at last) f))
              (stepped-holds choose (sampled e b) (verdict_at last) (λ m. (n < m) × (m < length before)) b f o.plain o.holds);
        })

    -- from the highest number down: a slot that holds slots whose values are right has the right value itself
    value-from : (d k : ℕ) → length before ≤ k + d → k < length before → (u : List Event) → value (shifted e E) u (slot_at last k).formula ≡ E (e ∷ u) k
    value-from zero k h l u = absurd (omega arith)
    value-from (suc d) k h l u =
        let b = (slot_at before k).board in
        let f = (slot_at before k).formula in
        let o = slot_ok choose choice (sampled e) before ok k l in
        ap (λ (s : Slot). value (shifted e E) u s.formula) (slot_is k l)
        ∙ step_value E e (verdict_at last) b f o.plain
        (holds-map (λ m. (k < m) × (m < length before)) (λ m. (u : List Event) → value (shifted e E) u (resolved (sampled e b) (leaf (filled_by (verdict_at last m) m))) ≡ E (e ∷ u) m)
        (λ m q. (let a = q.0 in filled-value E e (sampled e b) m (slot_at last m).formula (value-from d m (omega arith) q.1))) f o.holds)
        u
        ∙ sym (models k l (e ∷ u))

    pub tick-models : Models (shifted e E) last
    tick-models n l u = let m = many in sym (value-from (length before) n (omega arith) (omega arith) u)
