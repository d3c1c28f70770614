-- Meeting the entries below a root is meeting the slots in its tree: `row-met` says that the two rows correspond, entry by entry
-- (`RowOf`), and `entry-test` that a test of entries is the test of their slots. Assumes nothing.
use mathlib.Core.Path.{◌≡◌, refl, sym, ap, ap₂, ◌∙◌, subst}
use mathlib.Core.Bool.{Bool, true, false}
use mathlib.Core.List.{List, [], ◌∷◌, ◌++◌, append-nil}
use mathlib.Core.Logic.{◌⊎◌, ⊎_elim}
use Prim.Native.Nat.{ℕ, zero, suc, ◌+◌, ◌≤◌}
use native.Mathlib.Omega.{arith}
use lib.ListN.{length}
use lib.Dec.{eqb}
use borrow.Author.Tests.{eqb-true, eq-eqb}
use Rattle.lists.specs.Tests.{pick, either}
use Rattle.lists.proofs.Tests.{test-eq}
use Rattle.kinds.specs.declared.Leaf.TheVariants.{Const, Prop, Hold}
use Rattle.kinds.specs.declared.Unary.TheVariants.{Not, Next, Ever}
use Rattle.kinds.specs.declared.Binary.TheVariants.{Joined, Until}
use Rattle.ltl.specs.Formula.{Formula, leaf, one, two}
use Rattle.network.specs.Layout.{Slot}
use Rattle.merging.specs.Merge.{Tree, slot, Met, met, is_slot, is_in, firsts}
use Rattle.merging.proofs.Same.{slot_is, slot_of}
use Rattle.merging.proofs.Visiting.{visited, backwards, visited-firsts}
use Rattle.registers.specs.Relaying.{holds_of, is_among}
use Rattle.registers.specs.Numbers.{holds_at, met_from, met_in}
use Rattle.registers.proofs.Entering.{Apart}
use Rattle.registers.proofs.Expanding.{Staying, Grows, grows-whole, grows-not, grows-pair, grows-entry, grows_same, grows_one, grows-below, Registered, depth, grows-depth}
use Rattle.registers.proofs.Walking.{from-none, from_one, from-both}
use Rattle.registers.proofs.Members.{OneOf, one-here, one-there, one_left, one_right, one_split, one_none, among-is, among_of}

-- entries and slots met correspond, one by one
pub data RowOf (reg : List Slot) : List ℕ → List Met → Type 0 where
  row-none : RowOf reg [] []
  row_more : {k : ℕ} {m : Met} {ks : List ℕ} {ms : List Met} → Grows reg (leaf (Hold k)) (slot m.board m.body) → RowOf reg ks ms → RowOf reg (k ∷ ks) (m ∷ ms)

pub row-both : {reg : List Slot} {ks ls : List ℕ} {ms ns : List Met} → RowOf reg ks ms → RowOf reg ls ns → RowOf reg (ks ++ ls) (ms ++ ns)
row-both row-none q = q
row-both (row_more g p) q = row_more g (row-both p q)

pub hold-one : (k n : ℕ) → ◌≡◌ {A = Formula} (leaf (Hold k)) (leaf (Hold n)) → k ≡ n
hold-one k n e = cc

pub slot-board : (b c : ℕ) (t u : Tree) → slot b t ≡ slot c u → b ≡ c
slot-board b c t u e = cc

pub slot-body : (b c : ℕ) (t u : Tree) → slot b t ≡ slot c u → t ≡ u
slot-body b c t u e = cc

-- ---- one test for entries and slots
pub entry-test : (reg : List Slot) → Apart reg → (k n b : ℕ) (t : Tree) (m : Met) → Grows reg (leaf (Hold k)) (slot b t) → Grows reg (leaf (Hold n)) (slot m.board m.body)
    → eqb k n ≡ is_slot b t m
entry-test reg a k n b t m g h = test-eq (eqb k n) (is_slot b t m) to from
  where
    to : eqb k n ≡ true → is_slot b t m ≡ true
    to e =
        let q = grows_same reg g (subst (λ (x : ℕ). Grows reg (leaf (Hold x)) (slot m.board m.body)) (sym (eqb-true k n e)) h) in
        slot_of b t m (slot-board b m.board t m.body q) (slot-body b m.board t m.body q)

    from : is_slot b t m ≡ true → eqb k n ≡ true
    from e =
        let s = slot_is b t m e in
        eq-eqb k n (hold-one k n (grows_one reg a (subst (λ (x : Tree). Grows reg (leaf (Hold k)) x) (ap₂ slot s.0 s.1) g) h))

-- ---- the walk
-- the slots met, the last one first
data BackRow (reg : List Slot) : List ℕ → List Met → Type 0 where
  back_none : BackRow reg [] []
  back_more : {k : ℕ} {m : Met} {ks : List ℕ} {ms : List Met} → Grows reg (leaf (Hold k)) (slot m.board m.body) → BackRow reg ks ms → BackRow reg (ks ++ (k ∷ [])) (m ∷ ms)

backwards-behind : (ms : List Met) (ns : List Met) → backwards ms ns ≡ backwards ms [] ++ ns
backwards-behind [] ns = refl
backwards-behind (m ∷ ms) ns =
    backwards-behind ms (m ∷ ns) ∙ sym (regroup (backwards ms []) m ns) ∙ ap (◌++ ns) (sym (backwards-behind ms (m ∷ [])))
  where
    regroup : (xs : List Met) (x : Met) (ys : List Met) → (xs ++ (x ∷ [])) ++ ys ≡ xs ++ (x ∷ ys)
    regroup [] x ys = refl
    regroup (y ∷ xs) x ys = ap (y ∷◌) (regroup xs x ys)

backwards-twice : (xs ys zs : List Met) → backwards (backwards xs ys) zs ≡ backwards ys (xs ++ zs)
backwards-twice [] ys zs = refl
backwards-twice (x ∷ xs) ys zs = backwards-twice xs (x ∷ ys) zs

back-row : {reg : List Slot} {ks : List ℕ} {ms : List Met} → BackRow reg ks ms → RowOf reg ks (backwards ms [])
back-row back_none = row-none
back-row {reg} (back_more {k} {m} {ks} {ms} g r) =
    subst (λ (x : List Met). RowOf reg (ks ++ (k ∷ [])) x) (sym (backwards-behind ms (m ∷ []))) (row-both (back-row r) (row_more g row-none))

as-pick : (x y : Bool) → either x y ≡ pick x true y
unfolding either pick
as-pick true y = refl
as-pick false y = refl

module _ (reg : List Slot) (apart : Apart reg) where
  back_in : (k b : ℕ) (t : Tree) → Grows reg (leaf (Hold k)) (slot b t) → {ks : List ℕ} {ms : List Met} → BackRow reg ks ms → is_among k ks ≡ is_in b t ms
  unfolding is_among is_in
  back_in k b t g back_none = refl
  back_in k b t g (back_more {k = n} {m = m} {ks = ks} {ms = ms} h r) =
      behind n ks ∙ ap₂ (λ (x y : Bool). either x y) (entry-test reg apart k n b t m g h) (back_in k b t g r) ∙ as-pick (is_slot b t m) (is_in b t ms)
    where
      behind : (n : ℕ) (ks : List ℕ) → is_among k (ks ++ (n ∷ [])) ≡ either (eqb k n) (is_among k ks)
      behind n ks =
          test-eq (is_among k (ks ++ (n ∷ []))) (is_among k (n ∷ ks))
          (λ e. among_of k (n ∷ ks) (⊎_elim (λ a. one-there a) (λ a. first a) (one_split k ks (n ∷ []) (among-is k (ks ++ (n ∷ [])) e))))
          (λ e. among_of k (ks ++ (n ∷ [])) (last (among-is k (n ∷ ks) e)))
        where
          first : OneOf k (n ∷ []) → OneOf k (n ∷ ks)
          first (one-here e) = one-here e
          first (one-there a) = absurd (one_none k a)

          last : OneOf k (n ∷ ks) → OneOf k (ks ++ (n ∷ []))
          last (one-here e) = one_right ks (one-here e)
          last (one-there a) = one_left (n ∷ []) a

  whole-none : (f : Formula) → Staying f → holds_of f ≡ []
  unfolding holds_of
  whole-none (leaf (Const v)) s = refl
  whole-none (leaf (Prop i)) s = refl
  whole-none (leaf (Hold m)) s = absurd s
  whole-none (one Not f) s = absurd s
  whole-none (one Next f) s = refl
  whole-none (one (Ever j) f) s = refl
  whole-none (two (Joined j) f g) s = absurd s
  whole-none (two Until f g) s = refl

  back-visited : (most n : ℕ) {f : Formula} {t : Tree} → Grows reg f t → depth t ≤ most → (ks : List ℕ) (ms : List Met) → BackRow reg ks ms → BackRow reg (met_from reg most (holds_of f) ks) (visited n ms t)
  unfolding holds_of visited pick
  back-visited most n (grows-whole {f} s) l ks ms r =
      subst (λ (x : List ℕ). BackRow reg x ms) (sym (ap (λ (x : List ℕ). met_from reg most x ks) (whole-none f s) ∙ from-none reg most ks)) r
  back-visited most n (grows-not g) l ks ms r = back-visited most n g l ks ms r
  back-visited most n (grows-pair {f = f} {g = f'} {t = t} {u = u} g h) l ks ms r =
      subst (λ (x : List ℕ). BackRow reg x (visited n (visited n ms t) u)) (sym (from-both reg most (holds_of f) (holds_of f') ks))
      (back-visited most n h (omega arith) (met_from reg most (holds_of f) ks) (visited n ms t) (back-visited most n g (omega arith) ks ms r))
  back-visited most n (grows-entry {k = k} {b = b} {f = f} {t = t} l e g) d ks ms r = go most d (λ i q xs ys x. back-visited i (n + 1) g q xs ys x)
    where
      go : (i : ℕ) → suc (depth t) ≤ i → ((i : ℕ) → depth t ≤ i → (xs : List ℕ) (ys : List Met) → BackRow reg xs ys → BackRow reg (met_from reg i (holds_of f) xs) (visited (n + 1) ys t))
          → BackRow reg (met_from reg i (k ∷ []) ks) (pick (is_in b t ms) ms (visited (n + 1) (record { chain = n; board = b; body = t } ∷ ms) t))
      go zero d ih = absurd (omega arith)
      go (suc i) d ih =
          let whole = grows-entry {k = k} {b = b} {f = f} {t = t} l e g in
          let m : Met = record { chain = n; board = b; body = t } in
          subst (λ (x : List ℕ). BackRow reg x (pick (is_in b t ms) ms (visited (n + 1) (m ∷ ms) t))) (sym (from_one reg i k ks ∙ ap (λ (x : Bool). pick x ks (met_from reg i (holds_at reg k) (ks ++ (k ∷ [])))) (back_in k b t whole r)))
          (choice (is_in b t ms) (subst (λ (s : Slot). BackRow reg (met_from reg i (holds_of s.formula) (ks ++ (k ∷ []))) (visited (n + 1) (m ∷ ms) t)) (sym e) (ih i (omega arith) (ks ++ (k ∷ [])) (m ∷ ms) (back_more whole r))))
        where
          choice : (x : Bool) → BackRow reg (met_from reg i (holds_at reg k) (ks ++ (k ∷ []))) (visited (n + 1) (record { chain = n; board = b; body = t } ∷ ms) t)
              → BackRow reg (pick x ks (met_from reg i (holds_at reg k) (ks ++ (k ∷ [])))) (pick x ms (visited (n + 1) (record { chain = n; board = b; body = t } ∷ ms) t))
          choice true y = r
          choice false y = y

-- ---- below a root
pub row-met : (reg : List Slot) → Registered reg → (root : Formula) (t : Tree) → Grows reg root t → RowOf reg (met_in root reg) (firsts [] (met 1 t))
unfolding met_in
row-met reg r root t g =
    let d = grows-depth reg r (length reg) g (grows-below reg g) in
    let fs = firsts [] (met 1 t) in
    subst (λ (x : List Met). RowOf reg (met_from reg (suc (length reg)) (holds_of root) []) x)
    (ap (λ (x : List Met). backwards x []) (visited-firsts t) ∙ backwards-twice fs [] [] ∙ append-nil fs)
    (back-row (back-visited reg r.apart (suc (length reg)) 1 g (omega arith) [] [] back_none))
