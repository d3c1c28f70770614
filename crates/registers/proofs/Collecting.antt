-- The slots of a network entered, the last one first: the entry of a reached slot, expanded, is that slot laid again, and each entry
-- stands in such a one (`collected`). What a slot holds stands in its tree (`laid-inside`), so that each of them stands in the root's
-- (`reached-inside`). Assumes nothing.
use mathlib.Core.Path.{◌≡◌, refl, sym, ap, ◌∙◌, subst}
use mathlib.Core.Bool.{Bool, true, false}
use mathlib.Core.List.{List, [], ◌∷◌}
use mathlib.Core.Logic.{◌⊎◌, ⊎_elim}
use mathlib.Core.Option.{Option, none, some}
use Prim.Native.Nat.{ℕ, zero, suc, ◌+◌, ◌-◌, ◌<◌, ◌≤◌}
use native.Mathlib.Omega.{arith}
use native.Mathlib.Decide.{dec_lt}
use lib.ListN.{length, get_or}
use lib.Dec.{eqb}
use Rattle.lists.specs.Tests.{pick}
use Rattle.lists.proofs.Tests.{no_true}
use Rattle.kinds.specs.declared.Leaf.TheVariants.{Const, Prop, Hold}
use Rattle.kinds.specs.declared.Unary.TheVariants.{Not, Next, Ever}
use Rattle.kinds.specs.declared.Binary.TheVariants.{Joined, Until}
use Rattle.ltl.specs.Formula.{Formula, leaf, one, two}
use Rattle.ltl.specs.Progression.{unfolded}
use Rattle.network.specs.Layout.{Slot, slot_at}
use Rattle.network.proofs.Owned.{Clean}
use Rattle.network.proofs.Laying.{HoldsIn}
use Rattle.network.proofs.Holding.{holds-map, unfolded-holds}
use Rattle.merging.specs.Merge.{Tree, stays, negation, pair, slot, slot_on}
use Rattle.merging.specs.Lays.{looked_tree, laid_tree, relaid_tree}
use Rattle.merging.proofs.Bridge.{laid_same, relaid-enough}
use Rattle.registers.specs.Register.{Noted, noted, laid_noted}
use Rattle.registers.specs.Relaying.{holds_of, reached_in, Entries, entry_in, held_from, slot_noted, one_more, entries_of}
use Rattle.registers.proofs.Growing.{longer-same}
use Rattle.registers.proofs.Expanding.{Grows, grows-entry, grows-longer, grows-below, Registered, Inside, inside-slot, inside-not, inside-left, inside-right, Occurs, occurs-longer}
use Rattle.registers.proofs.Carrying.{Carries, Stood, carries-noted, carries-laid, registered-none}
use Rattle.registers.proofs.Members.{OneOf, one-here, one-there, one_left, one_right, one_split, one_none, holds-each, holds-all}
use Rattle.registers.proofs.Reaching.{reached-held, reached-holder, holds-higher}

-- ---- what stands in a slot
pub inside-slot-on : (b c : ℕ) (t u : Tree) → Inside b t u → Inside b t (slot_on c u)
inside-slot-on b c t (slot d u) i = i
inside-slot-on b c t (negation u) i = inside-slot i
inside-slot-on b c t (pair j u v) i = inside-slot i
inside-slot-on b c t (stays _) i = elim i [ ]

inside-looked : (o : Option ℕ) (d b : ℕ) (t : Tree) (lay : ℕ → Tree) → ((c : ℕ) → Inside b t (lay c)) → Inside b t (looked_tree o d lay)
unfolding looked_tree pick
inside-looked none d b t lay h = h d
inside-looked (some c) d b t lay h = go (eqb c d)
  where
    go : (x : Bool) → Inside b t (pick x (lay d) (slot_on c (lay c)))
    go true = h d
    go false = inside-slot-on b c t (lay c) (h c)

pub laid-inside : (choose : Formula → Option ℕ) (trees : ℕ → Tree) (f : Formula) (d m b : ℕ) (t : Tree) → OneOf m (holds_of f) → Inside b t (trees m) → Inside b t (laid_tree choose trees f d)
unfolding holds_of laid_tree
laid-inside choose trees (leaf (Const v)) d m b t a i = absurd (one_none m a)
laid-inside choose trees (leaf (Prop p)) d m b t a i = absurd (one_none m a)
laid-inside choose trees (leaf (Hold k)) d m b t (one-here e) i = subst (λ (x : ℕ). Inside b t (trees x)) e i
laid-inside choose trees (leaf (Hold k)) d m b t (one-there a) i = absurd (one_none m a)
laid-inside choose trees (one Not f) d m b t a i = inside-not (inside-looked (choose f) d b t (laid_tree choose trees f) (λ c. laid-inside choose trees f c m b t a i))
laid-inside choose trees (one Next f) d m b t a i = absurd (one_none m a)
laid-inside choose trees (one (Ever j) f) d m b t a i = absurd (one_none m a)
laid-inside choose trees (two (Joined j) f g) d m b t a i =
    ⊎_elim (λ x. inside-left (inside-looked (choose f) d b t (laid_tree choose trees f) (λ c. laid-inside choose trees f c m b t x i)))
    (λ x. inside-right (inside-looked (choose g) d b t (laid_tree choose trees g) (λ c. laid-inside choose trees g c m b t x i))) (one_split m (holds_of f) (holds_of g) a)
laid-inside choose trees (two Until f g) d m b t a i = absurd (one_none m a)

-- unfolding loses no place holder
pub unfolded-has : (f : Formula) (m : ℕ) → OneOf m (holds_of f) → OneOf m (holds_of (unfolded f))
unfolding holds_of
unfolded-has (leaf (Const v)) m a = a
unfolded-has (leaf (Prop i)) m a = a
unfolded-has (leaf (Hold k)) m a = a
unfolded-has (one Not f) m a = unfolded-has f m a
unfolded-has (one Next f) m a = a
unfolded-has (one (Ever j) f) m a = absurd (one_none m a)
unfolded-has (two (Joined j) f g) m a =
    ⊎_elim (λ x. one_left (holds_of (unfolded g)) (unfolded-has f m x)) (λ x. one_right (holds_of (unfolded f)) (unfolded-has g m x)) (one_split m (holds_of f) (holds_of g) a)
unfolded-has (two Until f g) m a = absurd (one_none m a)

-- a slot's tree is a slot, and stands for an entry
grows-hold : (reg : List Slot) (f : Formula) (b : ℕ) (t : Tree) → Grows reg f (slot b t) → f ≡ leaf (Hold (entry_in f))
grows-hold reg f b t g = go g
  where
    go : {f : Formula} → Grows reg f (slot b t) → f ≡ leaf (Hold (entry_in f))
    go (grows-entry l e h) = refl

entry_of : (reg : List Slot) (f : Formula) (b : ℕ) (t : Tree) → Grows reg f (slot_on b t) → f ≡ leaf (Hold (entry_in f))
entry_of reg f b (stays g) x = grows-hold reg f b (stays g) x
entry_of reg f b (negation u) x = grows-hold reg f b (negation u) x
entry_of reg f b (pair j u v) x = grows-hold reg f b (pair j u v) x
entry_of reg f b (slot c u) x = grows-hold reg f c u x

module _ (choose : Formula → Option ℕ) (slots : List Slot) where
  -- slot m laid again
  abbrev pub relaid_at : ℕ → Tree
  relaid_at m = relaid_tree choose slots (length slots) m

  -- the root's tree
  abbrev pub root_tree : Tree
  root_tree = laid_tree choose relaid_at (unfolded (slot_at slots 0).formula) (slot_at slots 0).board

  -- the slots from i on, entered
  pub record Collected (i : ℕ) (ss : List Slot) (e : Entries) : Type 0 where
    pub registered : Registered e.register
    pub stood : (j : ℕ) → j < length ss → reached_in slots (i + j) ≡ true → Grows e.register (leaf (Hold (get_or e.numbers j 0))) (relaid_at (i + j))
    pub seen : (k : ℕ) → k < length e.register → (j : ℕ) × (j < length ss) × (reached_in slots (i + j) ≡ true) × Occurs e.register k (relaid_at (i + j))

  module _ (clean : (n : ℕ) → n < length slots → Clean choose (slot_at slots n).formula)
      (holds : (n : ℕ) → n < length slots → HoldsIn (λ m. (n < m) × (m < length slots)) (slot_at slots n).formula) where
    relaid-more : (a m : ℕ) → suc a ≡ length slots → m < length slots → relaid_tree choose slots (suc a) m ≡ slot_on (slot_at slots m).board (laid_tree choose relaid_at (unfolded (slot_at slots m).formula) (slot_at slots m).board)
    unfolding relaid_tree
    relaid-more a m e l =
        let s = slot_at slots m in
        ap (slot_on s.board)
        (laid_same choose (relaid_tree choose slots a) relaid_at (unfolded s.formula)
        (holds-map _ _ (λ n q. (let o = q.0 in relaid-enough choose slots clean holds a (length slots) n q.1 (omega arith) (omega arith))) (unfolded s.formula)
        (unfolded-holds choose (λ n. (m < n) × (n < length slots)) s.formula (clean m l) (holds m l)))
        s.board)

    pub relaid-is : (m : ℕ) → m < length slots → relaid_at m ≡ slot_on (slot_at slots m).board (laid_tree choose relaid_at (unfolded (slot_at slots m).formula) (slot_at slots m).board)
    relaid-is m l = go (length slots) refl
      where
        go : (n : ℕ) → n ≡ length slots → relaid_at m ≡ slot_on (slot_at slots m).board (laid_tree choose relaid_at (unfolded (slot_at slots m).formula) (slot_at slots m).board)
        go zero e = absurd (omega arith)
        go (suc a) e = ap (λ (x : ℕ). relaid_tree choose slots x m) (sym e) ∙ relaid-more a m e l

    -- what a reached slot in front of them holds stands for their entries
    pub stood-all : (n i : ℕ) (ss : List Slot) (e : Entries) → Collected i ss e → n < i → i ≤ suc n → i + length ss ≡ length slots → reached_in slots n ≡ true
        → Stood (held_from i e.numbers) relaid_at e.register (unfolded (slot_at slots n).formula)
    stood-all n i ss e c l h t r =
        unfolded-holds choose (λ m. Grows e.register (leaf (Hold (held_from i e.numbers m))) (relaid_at m)) (slot_at slots n).formula (clean n (omega arith))
        (holds-all (λ m. Grows e.register (leaf (Hold (held_from i e.numbers m))) (relaid_at m)) (slot_at slots n).formula
        (λ m a. (let q = holds-each (λ m. (n < m) × (m < length slots)) (slot_at slots n).formula (holds n (omega arith)) m a in
        let p = q.0 in
        let o = q.1 in
        let z : i + (m - i) ≡ m = omega arith in
        let reach = reached-held slots (holds-higher slots holds) n m (omega arith) r a in
        subst (λ (x : ℕ). Grows e.register (leaf (Hold (get_or e.numbers (m - i) 0))) (relaid_at x)) z
        (c.stood (m - i) (omega arith) (subst (λ (x : ℕ). reached_in slots x ≡ true) (sym z) reach)))))

    -- so these entries are there
    pub held_below : (n i : ℕ) (ss : List Slot) (e : Entries) → Collected i ss e → n < i → i ≤ suc n → i + length ss ≡ length slots → reached_in slots n ≡ true
        → HoldsIn (λ m. held_from i e.numbers m < length e.register) (unfolded (slot_at slots n).formula)
    held_below n i ss e c l h t r =
        holds-map (λ m. Grows e.register (leaf (Hold (held_from i e.numbers m))) (relaid_at m)) (λ m. held_from i e.numbers m < length e.register) (λ m g. grows-below e.register g)
        (unfolded (slot_at slots n).formula) (stood-all n i ss e c l h t r)

    -- and the entry of each reached slot is
    pub number-below : (i : ℕ) (ss : List Slot) (e : Entries) → Collected i ss e → (j : ℕ) → j < length ss → reached_in slots (i + j) ≡ true → get_or e.numbers j 0 < length e.register
    number-below i ss e c j l r = grows-below e.register (c.stood j l r)

    -- one more slot, which is reached
    collected-more : (i : ℕ) (s : Slot) (ss : List Slot) (e : Entries) → Collected (suc i) ss e → slot_at slots i ≡ s → suc i + length ss ≡ length slots → reached_in slots i ≡ true
        → Collected i (s ∷ ss) (one_more (slot_noted choose (suc i) s e) e.numbers)
    collected-more i s ss e c at t r = record { registered = d.registered; stood = stood; seen = seen }
      where
        x : Noted
        x = laid_noted choose (held_from (suc i) e.numbers) (unfolded s.formula) s.board e.register

        y : Noted
        y = noted s.board x.here x.register

        laid : Tree
        laid = laid_tree choose relaid_at (unfolded s.formula) s.board

        stands : Stood (held_from (suc i) e.numbers) relaid_at e.register (unfolded s.formula)
        stands = subst (λ (q : Slot). Stood (held_from (suc i) e.numbers) relaid_at e.register (unfolded q.formula)) at (stood-all i (suc i) ss e c (omega arith) (omega arith) t r)

        d : Carries e.register (slot_on s.board laid) y
        d = carries-noted e.register x.register s.board x.here laid (carries-laid choose (held_from (suc i) e.numbers) relaid_at (unfolded s.formula) s.board e.register c.registered stands)

        is : slot_on s.board laid ≡ relaid_at i
        is = sym (relaid-is i (omega arith) ∙ ap (λ (q : Slot). slot_on q.board (laid_tree choose relaid_at (unfolded q.formula) q.board)) at)

        own : Grows y.register (leaf (Hold (entry_in y.here))) (relaid_at i)
        own = subst (λ (q : Tree). Grows y.register (leaf (Hold (entry_in y.here))) q) is (subst (λ (q : Formula). Grows y.register q (slot_on s.board laid)) (entry_of y.register y.here s.board laid d.tree) d.tree)

        stood : (j : ℕ) → j < length (s ∷ ss) → reached_in slots (i + j) ≡ true → Grows y.register (leaf (Hold (get_or (entry_in y.here ∷ e.numbers) j 0))) (relaid_at (i + j))
        stood zero l q = let z : i ≡ i + 0 = omega arith in subst (λ (n : ℕ). Grows y.register (leaf (Hold (entry_in y.here))) (relaid_at n)) z own
        stood (suc j) l q =
            let z : suc i + j ≡ i + suc j = omega arith in
            subst (λ (n : ℕ). Grows y.register (leaf (Hold (get_or e.numbers j 0))) (relaid_at n)) z
            (grows-longer e.register y.register d.longer (c.stood j (omega arith) (subst (λ (n : ℕ). reached_in slots n ≡ true) (sym z) q)))

        seen : (k : ℕ) → k < length y.register → (j : ℕ) × (j < length (s ∷ ss)) × (reached_in slots (i + j) ≡ true) × Occurs y.register k (relaid_at (i + j))
        seen k l = go (dec_lt k (length e.register))
          where
            go : Dec (k < length e.register) → (j : ℕ) × (j < length (s ∷ ss)) × (reached_in slots (i + j) ≡ true) × Occurs y.register k (relaid_at (i + j))
            go (yes q) =
                let v = c.seen k q in
                let j = v.0 in
                let m = v.1 in
                let z : suc i + j ≡ i + suc j = omega arith in (
                  suc j,
                  omega arith,
                  subst (λ (n : ℕ). reached_in slots n ≡ true) z v.2,
                  occurs-longer e.register y.register d.longer k (relaid_at (suc i + j)) (relaid_at (i + suc j)) (λ b w p. subst (λ (n : ℕ). Inside b w (relaid_at n)) z p) v.3,
                )
            go (no q) =
                let z : i ≡ i + 0 = omega arith in (
                  0,
                  omega arith,
                  subst (λ (n : ℕ). reached_in slots n ≡ true) z r,
                  occurs-longer y.register y.register (longer-same y.register) k (slot_on s.board laid) (relaid_at (i + 0)) (λ b w p. subst (λ (q : Tree). Inside b w q) (is ∙ ap relaid_at z) p) (d.seen k (omega arith) l),
                )

    -- one that is not reached
    collected-past : (i : ℕ) (s : Slot) (ss : List Slot) (e : Entries) → Collected (suc i) ss e → reached_in slots i ≡ false
        → Collected i (s ∷ ss) (record { numbers = 0 ∷ e.numbers; register = e.register })
    collected-past i s ss e c r = record { registered = c.registered; stood = stood; seen = seen }
      where
        stood : (j : ℕ) → j < length (s ∷ ss) → reached_in slots (i + j) ≡ true → Grows e.register (leaf (Hold (get_or (0 ∷ e.numbers) j 0))) (relaid_at (i + j))
        stood zero l q = let z : i + 0 ≡ i = omega arith in absurd (no_true (sym r ∙ subst (λ (n : ℕ). reached_in slots n ≡ true) z q))
        stood (suc j) l q =
            let z : suc i + j ≡ i + suc j = omega arith in
            subst (λ (n : ℕ). Grows e.register (leaf (Hold (get_or e.numbers j 0))) (relaid_at n)) z (c.stood j (omega arith) (subst (λ (n : ℕ). reached_in slots n ≡ true) (sym z) q))

        seen : (k : ℕ) → k < length e.register → (j : ℕ) × (j < length (s ∷ ss)) × (reached_in slots (i + j) ≡ true) × Occurs e.register k (relaid_at (i + j))
        seen k l =
            let v = c.seen k l in
            let j = v.0 in
            let m = v.1 in
            let z : suc i + j ≡ i + suc j = omega arith in
            (suc j, omega arith, subst (λ (n : ℕ). reached_in slots n ≡ true) z v.2, subst (λ (n : ℕ). Occurs e.register k (relaid_at n)) z v.3)

    pub collected : (i : ℕ) (ss : List Slot) → ((j : ℕ) → j < length ss → slot_at slots (i + j) ≡ slot_at ss j) → i + length ss ≡ length slots → Collected i ss (entries_of choose (reached_in slots) i ss)
    unfolding entries_of pick
    collected i [] at t = record { registered = registered-none; stood = λ j l. absurd (omega arith); seen = λ k l. absurd (omega arith) }
    collected i (s ∷ ss) at t =
        go (reached_in slots i) refl
        (collected (suc i) ss (λ j l. (let z : suc i + j ≡ i + suc j = omega arith in ap (λ (n : ℕ). slot_at slots n) z ∙ at (suc j) (omega arith))) (omega arith))
      where
        go : (b : Bool) → reached_in slots i ≡ b → Collected (suc i) ss (entries_of choose (reached_in slots) (suc i) ss)
            → Collected i (s ∷ ss)
            (pick b (one_more (slot_noted choose (suc i) s (entries_of choose (reached_in slots) (suc i) ss)) (entries_of choose (reached_in slots) (suc i) ss).numbers)
            (record { numbers = 0 ∷ (entries_of choose (reached_in slots) (suc i) ss).numbers; register = (entries_of choose (reached_in slots) (suc i) ss).register }))
        go true e c =
            let z : i ≡ i + 0 = omega arith in
            collected-more i s ss (entries_of choose (reached_in slots) (suc i) ss) c (ap (λ (n : ℕ). slot_at slots n) z ∙ at 0 (omega arith)) (omega arith) e
        go false e c = collected-past i s ss (entries_of choose (reached_in slots) (suc i) ss) c e

    -- ---- below the root
    inside-from : (most m : ℕ) → m ≤ most → m < length slots → 0 < m → reached_in slots m ≡ true → (b : ℕ) (t : Tree) → Inside b t (relaid_at m) → Inside b t root_tree
    inside-from zero m l h p r b t i = absurd (omega arith)
    inside-from (suc most) m l h p r b t i =
        ⊎_elim (λ e. absurd (omega arith))
        (λ v. (let q = v.before in
        let n = v.holder in
        let s = slot_at slots n in
        let laid = laid-inside choose relaid_at (unfolded s.formula) s.board m b t (unfolded-has s.formula m v.holds) i in
        step n (λ pos. inside-from most n (omega arith) v.there pos v.reaches b t (subst (λ (x : Tree). Inside b t x) (sym (relaid-is n v.there)) (inside-slot-on b s.board t (laid_tree choose relaid_at (unfolded s.formula) s.board) laid))) laid))
        (reached-holder slots (holds-higher slots holds) m r)
      where
        step : (n : ℕ) → (0 < n → Inside b t root_tree) → Inside b t (laid_tree choose relaid_at (unfolded (slot_at slots n).formula) (slot_at slots n).board) → Inside b t root_tree
        step zero up laid = laid
        step (suc n) up laid = up (omega arith)

    pub reached-inside : (m : ℕ) → m < length slots → 0 < m → reached_in slots m ≡ true → (b : ℕ) (t : Tree) → Inside b t (relaid_at m) → Inside b t root_tree
    reached-inside m l p r b t i = inside-from m m (omega arith) l p r b t i
