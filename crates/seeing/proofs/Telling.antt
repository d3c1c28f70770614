-- What a slot sees of the slots that it holds is what they are. So a sight tells whether the slot is ready (`sight-waits`), and where it
-- is, that it settles as the definition of a step says (`sight-sees`). Assumes nothing.
use Rattle.std.specs.Prelude.{Option, Some, None}
use mathlib.Core.Path.{◌≡◌, refl, sym, ap, ap₂, ◌∙◌, subst}
use mathlib.Core.Bool.{Bool, true, false}
use mathlib.Core.List.{List, [], ◌∷◌, ◌++◌}
use mathlib.Core.Logic.{◌⊎◌, inl, inr}
use Prim.Native.Nat.{ℕ}
use native.Mathlib.Decide.{ℕ_discrete}
use native.Mathlib.Omega.{arith}
use Rattle.lists.specs.Tests.{pick}
use Rattle.lists.proofs.Tests.{no_true}
use Rattle.kinds.specs.declared.Leaf.TheVariants.{Const, Prop, Hold}
use Rattle.kinds.specs.declared.Unary.TheVariants.{Not, Next, Ever}
use Rattle.kinds.specs.declared.Binary.TheVariants.{Joined, Until}
use Rattle.answers.specs.declared.Verdict.{Verdict}
use Rattle.answers.specs.declared.Verdict.TheVariants.{False, True, Pending}
use Rattle.answers.specs.Said.{verdict_number}
use Rattle.ltl.specs.Formula.{Formula, leaf, one, two}
use Rattle.ltl.specs.Progression.{resolved}
use Rattle.network.proofs.Laying.{HoldsIn}
use Rattle.network.proofs.Settling.{filled-same}
use Rattle.state.specs.Fields.{sample_in, board_of_in}
use Rattle.state.specs.Clauses.{held_by}
use Rattle.state.specs.Bytes.{formula_at}
use Rattle.state.specs.Calls.{ready_in, stepped_to}
use Rattle.slot_sets.specs.SlotSets.{has_slot}
use Rattle.slot_sets.proofs.SlotSets.{none_has, with-same, with-other}
use Rattle.resolving.specs.declared.Seen.{Seen}
use Rattle.resolving.specs.Settles.{event_alone, settled}
use Rattle.resolving.specs.Settles as settles
use Rattle.seeing.specs.Seeing.{answer_in, told, told_each, seen_by, sight_in}

-- ---- one slot told
told-other : (x : Seen) (n m : ℕ) (v : Verdict) → (n ≡ m → ⊥) → settles.held_by (told x n v) m ≡ settles.held_by x m
told-other x n m True d = rw (with-other x.yes n m d)
told-other x n m False d = rw (with-other x.no n m d)
told-other x n m Pending d = refl

-- what is seen to be pending or false is not among the true
not-true : (b : Bool) (other : Verdict) → (pick b True other ≡ Pending) ⊎ (pick b True other ≡ False) → b ≡ false
unfolding pick
not-true true other (inl e) = let n = ap verdict_number e in absurd (omega arith)
not-true true other (inr e) = let n = ap verdict_number e in absurd (omega arith)
not-true false other e = refl

told_same : (x : Seen) (m : ℕ) (v : Verdict) → (settles.held_by x m ≡ Pending) ⊎ (settles.held_by x m ≡ v) → settles.held_by (told x m v) m ≡ v
unfolding pick
told_same x m True h = rw (with-same x.yes m)
told_same x m False h = rw (not-true (has_slot x.yes m) (pick (has_slot x.no m) False Pending) h, with-same x.no m)
told_same x m Pending (inl e) = e
told_same x m Pending (inr e) = e

told-event : (x : Seen) (m : ℕ) (v : Verdict) → (told x m v).event ≡ x.event
told-event x m True = refl
told-event x m False = refl
told-event x m Pending = refl

module _ (answer : ℕ → Verdict) where
  -- nothing is seen that is not so
  abbrev Honest : Seen → Type 0
  Honest x = (m : ℕ) → (settles.held_by x m ≡ Pending) ⊎ (settles.held_by x m ≡ answer m)

  told-kept : (x : Seen) (n m : ℕ) → settles.held_by x m ≡ answer m → settles.held_by (told x n (answer n)) m ≡ answer m
  told-kept x n m h =
      elim (ℕ_discrete n m) [
        | yes e ↦
            subst (λ (i : ℕ). settles.held_by (told x n (answer n)) i ≡ answer i) e
            (told_same x n (answer n) (inr (subst (λ (i : ℕ). settles.held_by x i ≡ answer i) (sym e) h)))
        | no d ↦ told-other x n m (answer n) d ∙ h
      ]

  told-honest : (x : Seen) (n : ℕ) → Honest x → Honest (told x n (answer n))
  told-honest x n h m = go (ℕ_discrete n m) (h m)
    where
      go : Dec (n ≡ m) → (settles.held_by x m ≡ Pending) ⊎ (settles.held_by x m ≡ answer m)
          → (settles.held_by (told x n (answer n)) m ≡ Pending) ⊎ (settles.held_by (told x n (answer n)) m ≡ answer m)
      go (yes e) q = inr (subst (λ (i : ℕ). settles.held_by (told x n (answer n)) i ≡ answer i) e (told_same x n (answer n) (h n)))
      go (no d) (inl q) = inl (told-other x n m (answer n) d ∙ q)
      go (no d) (inr q) = inr (told-other x n m (answer n) d ∙ q)

  -- ---- some slots told, one after the other
  each-kept : (ms : List ℕ) (x : Seen) (m : ℕ) → settles.held_by x m ≡ answer m → settles.held_by (told_each answer ms x) m ≡ answer m
  each-kept [] x m h = h
  each-kept (n ∷ ms) x m h = each-kept ms (told x n (answer n)) m (told-kept x n m h)

  each-event : (ms : List ℕ) (x : Seen) → (told_each answer ms x).event ≡ x.event
  each-event [] x = refl
  each-event (n ∷ ms) x = each-event ms (told x n (answer n)) ∙ told-event x n (answer n)

  pub each_append : (ms ns : List ℕ) (x : Seen) → told_each answer ns (told_each answer ms x) ≡ told_each answer (ms ++ ns) x
  each_append [] ns x = refl
  each_append (m ∷ ms) ns x = each_append ms ns (told x m (answer m))

-- a fact of each of some numbers
abbrev Each : (ℕ → Type 0) → List ℕ → Type 0
Each Q [] = Unit {0}
Each Q (m ∷ ms) = Q m × Each Q ms

each_both : (Q : ℕ → Type 0) (ms ns : List ℕ) → Each Q (ms ++ ns) → Each Q ms × Each Q ns
each_both Q [] ns h = (tt, h)
each_both Q (m ∷ ms) ns h = let b = each_both Q ms ns h.1 in ((h.0, b.0), b.1)

held-each : (Q : ℕ → Type 0) (f : Formula) → Each Q (held_by f) → HoldsIn Q f
unfolding held_by
held-each Q (leaf (Const v)) h = tt
held-each Q (leaf (Prop i)) h = tt
held-each Q (leaf (Hold m)) h = h.0
held-each Q (one Not f) h = held-each Q f h
held-each Q (one Next f) h = tt
held-each Q (one (Ever j) f) h = tt
held-each Q (two (Joined j) f g) h = let b = each_both Q (held_by f) (held_by g) h in (held-each Q f b.0, held-each Q g b.1)
held-each Q (two Until f g) h = tt

told-each : (answer : ℕ → Verdict) (ms : List ℕ) (x : Seen) → Honest answer x → Each (λ m. settles.held_by (told_each answer ms x) m ≡ answer m) ms
told-each answer [] x h = tt
told-each answer (m ∷ ms) x h =
    (each-kept answer ms (told x m (answer m)) m (told_same x m (answer m) (h m)), told-each answer ms (told x m (answer m)) (told-honest answer x m h))

alone-honest : (answer : ℕ → Verdict) (event : ℕ) → Honest answer (event_alone event)
unfolding pick
alone-honest answer event m = inl (rw (none_has m))

-- ---- what the slot becomes
seen_settles : (s : List ℕ) (k : ℕ) → settled (seen_by s k) (formula_at s k) ≡ stepped_to s k
unfolding stepped_to
seen_settles s k =
    let f = formula_at s k in
    let x = event_alone (sample_in s (board_of_in s k)) in
    let a : ℕ → Verdict = answer_in s in
    ap₂ resolved (each-event a (held_by f) x)
    (filled-same (settles.held_by (seen_by s k)) a f
    (held-each (λ m. settles.held_by (seen_by s k) m ≡ a m) f (told-each a (held_by f) x (alone-honest a (sample_in s (board_of_in s k))))))

-- ---- what a sight tells
-- what is seen, where a sight waits that of nothing
abbrev seen_in : Seen → Option Seen → Seen
seen_in x None = x
seen_in x (Some y) = y

abbrev waiting : Option Seen → Bool
waiting None = true
waiting (Some x) = false

pub sight-waits : (s : List ℕ) (k : ℕ) → sight_in s k ≡ None → ready_in s k ≡ false
unfolding sight_in pick
sight-waits s k e = go (ready_in s k) e
  where
    go : (b : Bool) → pick b (Some (seen_by s k)) None ≡ None → b ≡ false
    go true e = sym (ap waiting e)
    go false e = refl

pub sight-sees : (s : List ℕ) (k : ℕ) (x : Seen) → sight_in s k ≡ Some x → (ready_in s k ≡ true) × (settled x (formula_at s k) ≡ stepped_to s k)
unfolding sight_in pick
sight-sees s k x e = go (ready_in s k) e
  where
    go : (b : Bool) → pick b (Some (seen_by s k)) None ≡ Some x → (b ≡ true) × (settled x (formula_at s k) ≡ stepped_to s k)
    go true e = (refl, ap (λ (y : Seen). settled y (formula_at s k)) (sym (ap (seen_in x) e)) ∙ seen_settles s k)
    go false e = absurd (no_true (sym (ap waiting e)))
