-- A register kept in tokens: the empty one (`kept-none`); its entries stand in their order (`kept-up`) inside the bodies (`kept-inside`),
-- and one more is put behind them (`kept_more`). Assumes nothing.
use mathlib.Core.Path.{◌≡◌, refl, sym, ap, ap₂, ◌∙◌, subst}
use mathlib.Core.Bool.{false}
use mathlib.Core.Logic.{⊎_elim}
use mathlib.Core.List.{List, [], ◌∷◌, ◌++◌}
use Prim.Native.Nat.{ℕ, zero, suc, ◌+◌, ◌-◌, ◌<◌, ◌≤◌}
use native.Mathlib.Nat.{add-zero, add-suc, le_of_eq, eq-or-lt_of_le}
use native.Mathlib.Omega.{arith}
use lib.ListN.{length, get_or, set, take, drop, length-append, length-drop, get_or-append}
use lib.Seq.{get_or-append_seam, get_or-set_same, get_or-set_other, take_at, take-append-add, drop_at, length-take-le}
use Rattle.limits.specs.Limits.{boards_most}
use Rattle.lists.proofs.Drops.{front_less}
use Rattle.ltl.specs.Formula.{size, constant, Coded}
use Rattle.network.specs.Layout.{Slot, slot_at}
use Rattle.tokens.specs.Tokens.{Spelt}
use Rattle.tokens.specs.Kept.{stamp_of, entry_tokens, EntryKept, RegisterKept}

-- ---- no entry yet
pub kept-none : (bytes marks bodies places stamps : List ℕ) → get_or places 0 0 ≡ 0 → RegisterKept bytes marks bodies places stamps []
kept-none bytes marks bodies places stamps e = record { first = e; each = λ k h. absurd (omega arith) }

-- ---- where entries stand
module _ (bytes marks bodies places stamps : List ℕ) (reg : List Slot) (x : RegisterKept bytes marks bodies places stamps reg) where
  up_by : (j n : ℕ) → j + n ≤ length reg → get_or places j 0 ≤ get_or places (j + n) 0
  up_by j zero h = le_of_eq (ap (λ (k : ℕ). get_or places k 0) (sym (add-zero j)))
  up_by j (suc n) h =
      let a = up_by j n (omega arith) in
      let b = (x.each (j + n) (omega arith)).begins in
      let c = ap (λ (k : ℕ). get_or places k 0) (add-suc j n) in
      omega arith

  pub kept-up : (j k : ℕ) → j ≤ k → k ≤ length reg → get_or places j 0 ≤ get_or places k 0
  kept-up j k h l =
      let e : j + (k - j) ≡ k = omega arith in
      subst (λ (m : ℕ). get_or places j 0 ≤ get_or places m 0) e (up_by j (k - j) (omega arith))

  pub kept-inside : (k : ℕ) → k ≤ length reg → get_or places k 0 ≤ length bodies
  kept-inside zero h = let e = x.first in omega arith
  kept-inside (suc k) h = (x.each k h).inside

-- ---- one entry more
-- these tokens with this stamp have been put behind n entries; what stood before them stays
pub record EntryAdded (bodies places stamps tokens : List ℕ) (stamp n : ℕ) (bodies' places' stamps' : List ℕ) : Type 0 where
  pub front : take (get_or places n 0) bodies' ≡ take (get_or places n 0) bodies
  pub body : drop (get_or places n 0) (take (get_or places n 0 + length tokens) bodies') ≡ tokens
  pub long : length bodies' ≡ length bodies
  pub placed : (k : ℕ) → k ≤ n → get_or places' k 0 ≡ get_or places k 0
  pub ended : get_or places' (suc n) 0 ≡ get_or places n 0 + length tokens
  pub stamped : (k : ℕ) → k < n → get_or stamps' k 0 ≡ get_or stamps k 0
  pub stamp-is : get_or stamps' n 0 ≡ stamp

-- by what is written
pub entry-added : (bodies places stamps tokens : List ℕ) (stamp n : ℕ) (bodies' places' stamps' : List ℕ) → get_or places n 0 + length tokens ≤ length bodies → n + 1 < length places → n < length stamps
    → bodies' ≡ take (get_or places n 0) bodies ++ (tokens ++ drop (get_or places n 0 + length tokens) bodies)
    → places' ≡ set places (n + 1) (get_or places n 0 + length tokens)
    → stamps' ≡ set stamps n stamp
    → EntryAdded bodies places stamps tokens stamp n bodies' places' stamps'
entry-added bodies places stamps tokens stamp n bodies' places' stamps' room h k e p q =
    record {
      front = ap (take at) e ∙ take_at A (tokens ++ C) at long-a;
      body = ap (λ (l : List ℕ). drop at (take (at + length tokens) l)) e ∙ inner;
      long = ap length e ∙ whole;
      placed = λ j l. ap (λ (r : List ℕ). get_or r j 0) p ∙ get_or-set_other places (n + 1) j _ 0 (λ z. absurd (omega arith));
      ended = let z : suc n ≡ n + 1 = omega arith in ap (λ (j : ℕ). get_or places' j 0) z ∙ ap (λ (r : List ℕ). get_or r (n + 1) 0) p ∙ get_or-set_same places (n + 1) _ 0 h;
      stamped = λ j l. ap (λ (r : List ℕ). get_or r j 0) q ∙ get_or-set_other stamps n j _ 0 (λ z. absurd (omega arith));
      stamp-is = ap (λ (r : List ℕ). get_or r n 0) q ∙ get_or-set_same stamps n stamp 0 k;
    }
  where
    at : ℕ
    at = get_or places n 0

    A : List ℕ
    A = take at bodies

    C : List ℕ
    C = drop (at + length tokens) bodies

    long-a : length A ≡ at
    long-a = length-take-le at bodies (omega arith)

    inner : drop at (take (at + length tokens) (A ++ (tokens ++ C))) ≡ tokens
    inner =
        ap (λ (j : ℕ). drop at (take (j + length tokens) (A ++ (tokens ++ C)))) (sym long-a)
        ∙ ap (drop at) (take-append-add A (tokens ++ C) (length tokens) ∙ ap (A ++◌) (take_at tokens C (length tokens) refl))
        ∙ drop_at A tokens at long-a

    whole : length (A ++ (tokens ++ C)) ≡ length bodies
    whole =
        let u = length-append A (tokens ++ C) in
        let v = length-append tokens C in
        let w = length-drop (at + length tokens) bodies in
        let l = long-a in
        omega arith

module _ (bytes marks bodies places stamps : List ℕ) (reg : List Slot) (x : RegisterKept bytes marks bodies places stamps reg) where
  module _ (tokens : List ℕ) (stamp : ℕ) (bodies' places' stamps' : List ℕ) (a : EntryAdded bodies places stamps tokens stamp (length reg) bodies' places' stamps') where
    -- an entry that was there
    kept-old : (k : ℕ) → k < length reg → EntryKept bytes marks bodies' places' stamps' k (slot_at reg k)
    kept-old k h =
        let e = x.each k h in
        let p = a.placed k (omega arith) in
        let q = a.placed (suc k) h in
        let i = e.inside in
        let b = e.begins in
        let l = a.long in
        let front : take (get_or places (suc k) 0) bodies ≡ take (get_or places (suc k) 0) bodies' =
        front_less bodies bodies' (get_or places (length reg) 0) (get_or places (suc k) 0) (sym a.front) (kept-up bytes marks bodies places stamps reg x (suc k) (length reg) h (omega arith)) in
        let own : entry_tokens places bodies k ≡ entry_tokens places' bodies' k =
        ap₂ (λ (s t : ℕ). drop s (take t bodies)) (sym p) (sym q) ∙ ap (drop (get_or places' k 0)) (ap (λ (t : ℕ). take t bodies) q ∙ front ∙ ap (λ (t : ℕ). take t bodies') (sym q)) in
        record {
          there = e.there;
          coded = e.coded;
          stamp-is = a.stamped k h ∙ e.stamp-is;
          begins = omega arith;
          inside = omega arith;
          spelt = subst (Spelt bytes marks (slot_at reg k).formula) own e.spelt;
        }

    -- the new one
    kept_new : (s : Slot) → s.board < boards_most → Coded s.formula → stamp ≡ stamp_of s.board (size s.formula) → Spelt bytes marks s.formula tokens
        → get_or places (length reg) 0 + length tokens ≤ length bodies → EntryKept bytes marks bodies' places' stamps' (length reg) s
    kept_new s h c e t room =
        let p = a.placed (length reg) (omega arith) in
        let q = a.ended in
        let l = a.long in
        let own : tokens ≡ entry_tokens places' bodies' (length reg) = sym a.body ∙ ap₂ (λ (s t : ℕ). drop s (take t bodies')) (sym p) (sym q) in
        record {
          there = h;
          coded = c;
          stamp-is = a.stamp-is ∙ e;
          begins = omega arith;
          inside = omega arith;
          spelt = subst (Spelt bytes marks s.formula) own t;
        }

    pub kept_more : (s : Slot) → s.board < boards_most → Coded s.formula → stamp ≡ stamp_of s.board (size s.formula) → Spelt bytes marks s.formula tokens
        → get_or places (length reg) 0 + length tokens ≤ length bodies → RegisterKept bytes marks bodies' places' stamps' (reg ++ (s ∷ []))
    kept_more s h c e t room =
        record {
          first = a.placed 0 (omega arith) ∙ x.first;
          each = λ k l. let n = length-append reg (s ∷ []) in ⊎_elim (last k) (old k) (eq-or-lt_of_le (few k (omega arith)));
        }
      where
        none : Slot
        none = record { board = 0; formula = constant false }

        few : (k : ℕ) → k < length reg + 1 → k ≤ length reg
        few k l = omega arith

        old : (k : ℕ) → k < length reg → EntryKept bytes marks bodies' places' stamps' k (slot_at (reg ++ (s ∷ [])) k)
        old k l = subst (EntryKept bytes marks bodies' places' stamps' k) (sym (get_or-append reg (s ∷ []) none k l)) (kept-old k l)

        last : (k : ℕ) → k ≡ length reg → EntryKept bytes marks bodies' places' stamps' k (slot_at (reg ++ (s ∷ [])) k)
        last k z =
            subst (λ (j : ℕ). EntryKept bytes marks bodies' places' stamps' j (slot_at (reg ++ (s ∷ [])) j)) (sym z)
            (subst (EntryKept bytes marks bodies' places' stamps' (length reg)) (sym (get_or-append_seam reg s [] none)) (kept_new s h c e t room))
