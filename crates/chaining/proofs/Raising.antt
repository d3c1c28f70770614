-- Chains raised. `raise-more` is one turn over a set's numbers, the lowest one first; `Raising` is what the entries from j on have raised, by
-- `raising-start` and `raising-more`, and `raising-done` is what is left at the end. Assumes nothing.
use mathlib.Core.Path.{◌≡◌, refl, sym, ap, ap₂, subst, ◌∙◌}
use mathlib.Core.Bool.{Bool, true, false}
use mathlib.Core.List.{List}
use Prim.Native.Nat.{ℕ, suc, ◌+◌, ◌-◌, ◌<◌, ◌≤◌, max}
use native.Mathlib.Omega.{arith}
use native.Mathlib.Decide.{ℕ_discrete}
use lib.ListN.{length, get_or, set, replicate, length-replicate}
use lib.Seq.{get_or-set_same, get_or-set_other}
use Rattle.limits.specs.Limits.{slots_room}
use Rattle.lists.specs.Tests.{pick, bit}
use Rattle.lists.proofs.Tests.{no_bits, pick-elim}
use Rattle.lists.proofs.Stretches.{zeros-at}
use Rattle.ltl.specs.Formula.{Formula}
use Rattle.network.specs.Layout.{Slot}
use Rattle.registers.specs.Relaying.{holds_of, is_among}
use Rattle.registers.specs.Numbers.{holds_at, raised, chains_down, chain_in}
use Rattle.scores.proofs.Clearing.{cleared, Lowest, own-more}
use Rattle.scores.proofs.Tests.{bit-yes}
use Rattle.chaining.specs.Chains.{chain_at, SetIs, Raises, Chains}

-- ---- one set
-- a number that is not the lowest is in the set still
same_test : (a b : Bool) → ◌≡◌ {A = ℕ} (pick a 1 0) (pick b 1 0) → a ≡ b
unfolding pick
same_test true true e = refl
same_test true false e = absurd (omega arith)
same_test false true e = absurd (omega arith)
same_test false false e = refl

cleared-same : (left p : ℕ) → 0 < left → p < slots_room → Lowest left p → (m : ℕ) → (m ≡ p → ⊥) → bit (cleared left) m ≡ bit left m
cleared-same left p z h l m d =
    let zs : List ℕ = replicate slots_room 0 in
    let s : length zs ≡ slots_room = length-replicate {A = ℕ} slots_room 0 in
    let e = own-more zs left p 1 z (omega arith) l m in
    let a : get_or zs m 0 ≡ 0 = zeros-at slots_room m in
    let b : get_or (set zs p 1) m 0 ≡ 0 = get_or-set_other zs p m 1 0 d ∙ a in
    same_test (bit (cleared left) m) (bit left m) (ap (pick (bit (cleared left) m) 1) (sym b) ∙ e ∙ ap (pick (bit left m) 1) a)

-- what the set's numbers have yet to raise
abbrev pub raised_by : ℕ → ℕ → List ℕ → ℕ → ℕ
raised_by left c chain m = pick (bit left m) (max (get_or chain m 0) c) (get_or chain m 0)

pub raise-more : (chain : List ℕ) (left p c x : ℕ) → 0 < left → p < slots_room → p < length chain → Lowest left p → x ≡ max (get_or chain p 0) c → (m : ℕ)
    → raised_by (cleared left) c (set chain p x) m ≡ raised_by left c chain m
unfolding pick
raise-more chain left p c x z h k l e m = go (ℕ_discrete m p)
  where
    twice : (b : Bool) → x ≡ pick b (max x c) x
    twice true = omega arith
    twice false = refl

    go : Dec (m ≡ p) → raised_by (cleared left) c (set chain p x) m ≡ raised_by left c chain m
    go (yes q) =
        ap (raised_by (cleared left) c (set chain p x)) q
        ∙ ap (λ (y : ℕ). pick (bit (cleared left) p) (max y c) y) (get_or-set_same chain p x 0 k)
        ∙ sym (twice (bit (cleared left) p))
        ∙ e
        ∙ ap (λ (b : Bool). pick b (max (get_or chain p 0) c) (get_or chain p 0)) (sym (bit-yes left p l.0))
        ∙ ap (raised_by left c chain) (sym q)
    go (no d) =
        ap₂ (λ (b : Bool) (y : ℕ). pick b (max y c) y) (cleared-same left p z h l m d) (get_or-set_other chain p m x 0 d)

-- nothing is left
pub raise-done : (c : ℕ) (chain : List ℕ) (m : ℕ) → raised_by 0 c chain m ≡ get_or chain m 0
unfolding pick
raise-done c chain m = rw (no_bits m)

-- ---- all entries
-- what a register's chains ask of the sets
pub record SetsOf (sets : List ℕ) (n : ℕ) (f : Formula) (reg : List Slot) : Type 0 where
  pub long : n ≡ length reg
  pub root : SetIs (get_or sets n 0) (holds_of f)
  pub each : (j : ℕ) → j < n → SetIs (get_or sets j 0) (holds_at reg j)

-- the entries from j on have raised what they hold
pub record Raising (sets : List ℕ) (n : ℕ) (chain₀ chain : List ℕ) (j : ℕ) : Type 0 where
  pub few : j ≤ n
  pub long : length chain ≡ length chain₀
  pub low : (m : ℕ) → get_or chain m 0 + j ≤ n + 1
  pub come : (f : Formula) (reg : List Slot) → SetsOf sets n f reg → (m : ℕ) → chains_down reg j (chain_at chain) m ≡ chain_in f reg m

-- a set that raises chains is the numbers of a list that does
raised_by_lem : (s c : ℕ) (chain chain' ks : List ℕ) → ((k : ℕ) → bit s k ≡ is_among k ks) → Raises s c chain chain' → chain_at chain' ≡ raised c ks (chain_at chain)
unfolding raised
raised_by_lem s c chain chain' ks t r = λ i m. each m i
  where
    each : (m : ℕ) → get_or chain' m 0 ≡ pick (is_among m ks) (max (get_or chain m 0) c) (get_or chain m 0)
    each m = r m ∙ ap (λ (b : Bool). pick b (max (get_or chain m 0) c) (get_or chain m 0)) (t m)

-- no chain is longer than both
raise-low : (s c : ℕ) (chain chain' : List ℕ) (most : ℕ) → Raises s c chain chain' → c ≤ most → ((m : ℕ) → get_or chain m 0 ≤ most) → (m : ℕ) → get_or chain' m 0 ≤ most
raise-low s c chain chain' most r h l m =
    let x : get_or chain m 0 ≤ most = l m in
    subst (◌≤ most) (sym (r m)) (pick-elim (◌≤ most) (bit s m) (max (get_or chain m 0) c) (get_or chain m 0) (λ e. omega arith) (λ e. x))

-- the root has raised what it holds
pub raising-start : (sets : List ℕ) (n : ℕ) (before chain : List ℕ) → ((m : ℕ) → get_or before m 0 ≡ 0) → Raises (get_or sets n 0) 1 before chain
    → Raising sets n chain chain n
unfolding chain_in
raising-start sets n before chain z r = record { few = omega arith; long = refl; low = low; come = come }
  where
    low : (m : ℕ) → get_or chain m 0 + n ≤ n + 1
    low m = let h = raise-low (get_or sets n 0) 1 before chain 1 r (omega arith) (λ k. let e = z k in omega arith) m in omega arith

    none : chain_at before ≡ (λ (m : ℕ). 0)
    none = λ i m. z m i

    come : (f : Formula) (reg : List Slot) → SetsOf sets n f reg → (m : ℕ) → chains_down reg n (chain_at chain) m ≡ chain_in f reg m
    come f reg s m =
        ap₂ (λ (k : ℕ) (g : ℕ → ℕ). chains_down reg k g m) s.long (raised_by_lem (get_or sets n 0) 1 before chain (holds_of f) s.root r ∙ ap (raised 1 (holds_of f)) none)

module _ {sets : List ℕ} {n : ℕ} {chain₀ : List ℕ} where
  -- one more
  pub raising-more : {chain : List ℕ} {j : ℕ} (chain' : List ℕ) (c : ℕ) → Raising sets n chain₀ chain j → 0 < j → c ≡ get_or chain (j - 1) 0 + 1
      → Raises (get_or sets (j - 1) 0) c chain chain' → length chain' ≡ length chain → Raising sets n chain₀ chain' (j - 1)
  unfolding chains_down
  raising-more {chain = chain} {j = j} chain' c x h e r l =
      let f = x.few in
      record { few = omega arith; long = l ∙ x.long; low = low; come = come }
    where
      low : (m : ℕ) → get_or chain' m 0 + (j - 1) ≤ n + 1
      low m =
          let b = x.low (j - 1) in
          let f = x.few in
          let k = raise-low (get_or sets (j - 1) 0) c chain chain' (n + 1 - (j - 1)) r (omega arith) (λ i. let y = x.low i in omega arith) m in
          omega arith

      one_more : (reg : List Slot) (i : ℕ) (g : ℕ → ℕ) (m : ℕ) → chains_down reg (suc i) g m ≡ chains_down reg i (raised (g i + 1) (holds_at reg i) g) m
      one_more reg i g m = refl

      come : (f : Formula) (reg : List Slot) → SetsOf sets n f reg → (m : ℕ) → chains_down reg (j - 1) (chain_at chain') m ≡ chain_in f reg m
      come f reg s m =
          let k = x.few in
          let z : suc (j - 1) ≡ j = omega arith in
          ap (λ (g : ℕ → ℕ). chains_down reg (j - 1) g m) (raised_by_lem (get_or sets (j - 1) 0) c chain chain' (holds_at reg (j - 1)) (s.each (j - 1) (omega arith)) r ∙ ap (λ (b : ℕ). raised b (holds_at reg (j - 1)) (chain_at chain)) e)
          ∙ sym (one_more reg (j - 1) (chain_at chain) m)
          ∙ ap (λ (i : ℕ). chains_down reg i (chain_at chain) m) z
          ∙ x.come f reg s m

  -- all have
  pub raising-done : {chain : List ℕ} {j : ℕ} → Raising sets n chain₀ chain j → j ≤ 0 → Chains sets n chain
  unfolding chains_down
  raising-done {chain = chain} {j = j} x h f reg a b d m =
      let z : 0 ≡ j = omega arith in
      ap (λ (i : ℕ). chains_down reg i (chain_at chain) m) z ∙ x.come f reg (record { long = a; root = b; each = d }) m
