-- A merged network is as laying leaves one (`merged-ok`), and has the values of the network that it was merged from
-- (`merged-modelled`). Assumes nothing.
use mathlib.Core.Path.{◌≡◌, refl, sym, ap, ap₂, ◌∙◌, subst}
use mathlib.Core.Bool.{Bool, true, false}
use mathlib.Core.List.{List, [], ◌∷◌, ◌++◌, map}
use mathlib.Core.Logic.{◌⊎◌, inl, inr, ⊎_elim}
use mathlib.Core.Option.{Option, none, some}
use Prim.Native.Nat.{ℕ, zero, suc, ◌+◌, ◌<◌, ◌≤◌}
use native.Mathlib.Omega.{arith}
use lib.ListN.{length, get_or, length-map}
use Rattle.kinds.specs.declared.Leaf.TheVariants.{Const, Prop, Hold}
use Rattle.kinds.specs.declared.Unary.TheVariants.{Not, Next, Ever}
use Rattle.kinds.specs.declared.Binary.TheVariants.{Joined, Until}
use Rattle.answers.specs.declared.Verdict.{Verdict}
use Rattle.answers.specs.declared.Verdict.TheVariants.{Pending}
use Rattle.ltl.specs.Formula.{Formula, leaf, one, two, constant}
use Rattle.ltl.specs.Meaning.{Event}
use Rattle.ltl.specs.Progression.{verdict_of}
use Rattle.network.specs.Layout.{Slot, slot_at}
use Rattle.network.proofs.Owned.{Plain}
use Rattle.network.proofs.Values.{Env, value}
use Rattle.network.proofs.Laying.{Choice, HoldsIn}
use Rattle.network.proofs.Holding.{holds-map}
use Rattle.network.proofs.Layouts.{EachSlot}
use Rattle.network.proofs.Origins.{Models, Modelled}
use Rattle.network.proofs.Relaying.{SlotOk, AllOk}
use Rattle.merging.specs.Merge.{Tree, stays, negation, pair, slot, grown, slot_on, tree_at, Met, met, ordered, place, shown, slot_of, numbered, merged}
use Rattle.merging.proofs.Among.{Among, here, there, Holds, place_in, holds-met, met-closed, in-ordered, ordered-met, among-at, row-rises}
use Rattle.merging.proofs.Valued.{tree_value, OkTree, grown-ok, met-ok, shown-plain, shown-holds, shown-value, grown-value, tree-ok, tree-value, slot_ok}

abbrev no_met : Met
no_met = record { chain = 0; board = 0; body = stays (constant false) }

each_of : (P : ℕ → Slot → Type 0) (n : ℕ) (ss : List Slot) → ((i : ℕ) → i < length ss → P (n + i) (slot_at ss i)) → EachSlot P n ss
each_of P n [] h = tt
each_of P n (s ∷ ss) h =
    let z : n + 0 ≡ n = omega arith in
    (subst (λ (i : ℕ). P i s) z (h 0 (omega arith)), each_of P (n + 1) ss (λ i l. (let q : n + suc i ≡ n + 1 + i = omega arith in subst (λ (j : ℕ). P j (slot_at ss i)) q (h (suc i) (omega arith)))))

map_at : (row ms : List Met) (i : ℕ) → i < length ms → slot_at (map (slot_of row) ms) i ≡ slot_of row (get_or ms i no_met)
map_at row [] i l = absurd (omega arith)
map_at row (m ∷ ms) zero l = refl
map_at row (m ∷ ms) (suc i) l = map_at row ms i (omega arith)

map-length : (row ms : List Met) → length (map (slot_of row) ms) ≡ length ms
map-length row [] = refl
map-length row (m ∷ ms) = ap suc (map-length row ms)

module _ (choose : Formula → Option ℕ) (choice : Choice choose) (b : ℕ) (r : Tree) (o : OkTree choose b r) where
  abbrev row : List Met
  row = ordered r

  abbrev at : ℕ → Met
  at i = get_or (ordered r) i no_met

  -- what an entry holds is met
  entry-ok : (i : ℕ) → i < length (ordered r) → OkTree choose (at i).board (at i).body
  entry-ok i l = met-ok choose 1 (at i).chain b (at i).board (at i).body r o (ordered-met (at i).chain (at i).board (at i).body r (among-at no_met i (ordered r) l))

  held-met : (i c : ℕ) (u : Tree) → i < length (ordered r) → Holds c u (at i).body → Among ((at i).chain + 1) c u (met 1 r)
  held-met i c u l h =
      met-closed 1 (at i).chain (at i).board c (at i).body u r (ordered-met (at i).chain (at i).board (at i).body r (among-at no_met i (ordered r) l)) h

  -- where a slot that is met stands in the row
  placed : (n c : ℕ) (u : Tree) → Among n c u (met 1 r) → (place c u (ordered r) < length (ordered r)) × (u ≡ (at (place c u (ordered r))).body)
  placed n c u a = let i = in-ordered n c u r a in let p = place_in no_met c u i.0 (ordered r) i.1 in (p.0, p.2)

  count : length (numbered b r) ≡ suc (length (ordered r))
  unfolding numbered
  count = ap suc (map-length (ordered r) (ordered r))

  pub numbered-ok : AllOk choose choice (length (numbered b r)) 0 (numbered b r)
  unfolding numbered
  numbered-ok =
      let n = map-length (ordered r) (ordered r) in
      let end = suc (length (map (slot_of (ordered r)) (ordered r))) in (
        record {
          plain = shown-plain choose (ordered r) b r o;
          holds = shown-holds choose (ordered r) (λ m. (0 < m) × (m < end)) b r o (λ c u h. (let p = placed 1 c u (holds-met 1 c u r h) in let l = p.0 in (omega arith, omega arith)));
        },
        each_of (SlotOk choose choice end) 1 (map (slot_of (ordered r)) (ordered r)) (λ i l. each i (omega arith)),
      )
    where
      each : (i : ℕ) → i < length (ordered r) → SlotOk choose choice (suc (length (map (slot_of (ordered r)) (ordered r)))) (1 + i) (slot_at (map (slot_of (ordered r)) (ordered r)) i)
      each i l =
          let n = map-length (ordered r) (ordered r) in
          let end = suc (length (map (slot_of (ordered r)) (ordered r))) in
          subst (λ (s : Slot). SlotOk choose choice end (1 + i) s) (sym (map_at (ordered r) (ordered r) i l))
          (record {
            plain = shown-plain choose (ordered r) (at i).board (at i).body (entry-ok i l);
            holds = shown-holds choose (ordered r) (λ m. (1 + i < m) × (m < end)) (at i).board (at i).body (entry-ok i l)
                (λ c u h. (let p = placed ((at i).chain + 1) c u (held-met i c u l h) in let x = p.0 in let y = row-rises no_met i c u r l h in (omega arith, omega arith)));
          })

  -- ---- values
  abbrev env : Env
  env [] k = verdict_of (slot_at (numbered b r) k).formula
  env (e ∷ us) zero = tree_value e us r
  env (e ∷ us) (suc k) = tree_value e us (at k).body

  env-held : (n c : ℕ) (u : Tree) (e : Event) (us : List Event) → Among n c u (met 1 r) → env (e ∷ us) (suc (place c u (ordered r))) ≡ tree_value e us u
  env-held n c u e us a = let p = placed n c u a in ap (tree_value e us) (sym p.1)

  pub numbered-models : Models env (numbered b r)
  unfolding numbered
  numbered-models m l [] = refl
  numbered-models zero l (e ∷ us) = sym (shown-value choose (ordered r) env e us b r o (λ c u h. env-held 1 c u e us (holds-met 1 c u r h)))
  numbered-models (suc i) l (e ∷ us) =
      let n = map-length (ordered r) (ordered r) in
      let k : i < length (ordered r) = omega arith in
      sym (ap (λ (s : Slot). value env (e ∷ us) s.formula) (map_at (ordered r) (ordered r) i k)
      ∙ shown-value choose (ordered r) env e us (at i).board (at i).body (entry-ok i k) (λ c u h. env-held ((at i).chain + 1) c u e us (held-met i c u k h)))

-- ---- a network merged
module _ (choose : Formula → Option ℕ) (choice : Choice choose) (slots : List Slot) (some-slots : 0 < length slots)
    (ok : AllOk choose choice (length slots) 0 slots) where
  abbrev first : Slot
  first = slot_at slots 0

  abbrev root : Tree
  root = grown (tree_at slots (length slots)) first.formula

  root_ok : OkTree choose first.board root
  root_ok =
      let s = slot_ok choose choice slots ok 0 some-slots in
      grown-ok choose first.board (tree_at slots (length slots)) first.formula s.plain
      (holds-map _ _ (λ n q. tree-ok choose choice slots ok (length slots) n q.1 (omega arith)) first.formula s.holds)

  pub merged-ok : AllOk choose choice (length (merged slots)) 0 (merged slots)
  unfolding merged
  merged-ok = numbered-ok choose choice first.board root root_ok

  -- the top stays: so does a verdict
  slot-on-pending : (row : List Met) (c : ℕ) (t : Tree) → verdict_of (shown row (slot_on c t)) ≡ Pending
  slot-on-pending row c (stays f) = refl
  slot-on-pending row c (negation t) = refl
  slot-on-pending row c (pair j t u) = refl
  slot-on-pending row c (slot d t) = refl

  held-pending : (row : List Met) (most m : ℕ) → verdict_of (shown row (tree_at slots most m)) ≡ Pending
  unfolding tree_at
  held-pending row zero m = refl
  held-pending row (suc most) m = slot-on-pending row (slot_at slots m).board (grown (tree_at slots most) (slot_at slots m).formula)

  top-verdict : (row : List Met) (most : ℕ) (f : Formula) → verdict_of (shown row (grown (tree_at slots most) f)) ≡ verdict_of f
  top-verdict row most (leaf (Const v)) = refl
  top-verdict row most (leaf (Prop i)) = refl
  top-verdict row most (leaf (Hold m)) = held-pending row most m
  top-verdict row most (one Not f) = refl
  top-verdict row most (one Next f) = refl
  top-verdict row most (one (Ever j) f) = refl
  top-verdict row most (two (Joined j) f g) = refl
  top-verdict row most (two Until f g) = refl

  module _ (E : Env) (f : Formula) (m : Modelled E f slots) where
    top-value : (us : List Event) → env choose choice first.board root root_ok us 0 ≡ value E us f
    unfolding numbered
    top-value [] = top-verdict (ordered root) (length slots) first.formula ∙ sym (m.models 0 some-slots []) ∙ m.root []
    top-value (e ∷ us) =
        let s = slot_ok choose choice slots ok 0 some-slots in
        sym (grown-value choose m.env e us first.board (tree_at slots (length slots)) first.formula s.plain
        (holds-map _ _ (λ n q. tree-value choose choice slots ok m.env m.models e us (length slots) n q.1 (omega arith)) first.formula s.holds))
        ∙ sym (m.models 0 some-slots (e ∷ us)) ∙ m.root (e ∷ us)

    pub merged-modelled : Modelled E f (merged slots)
    unfolding merged
    merged-modelled =
        record {
          env = env choose choice first.board root root_ok;
          models = numbered-models choose choice first.board root root_ok;
          root = top-value;
        }
