-- The pass over a slot's bytes finds exactly a formula in which what may stand stands, and notes its place holders: `pass-is`. Behind
-- each node as many operands are owed as in the language (`Behind`, `owing`, `owing-few`), so that a pass that succeeds is over a formula
-- (`pass-scans`). Assumes nothing.
use Rattle.std.specs.Prelude.{Option, Some, None}
use mathlib.Core.Path.{◌≡◌, refl, sym, ap, ◌∙◌}
use mathlib.Core.Bool.{Bool, true, false, not}
use mathlib.Core.List.{List, [], ◌∷◌, append-nil}
use mathlib.Core.Option as math
use Prim.Native.Nat.{ℕ, ◌+◌, ◌-◌, ◌<◌, ◌≤◌}
use native.Mathlib.Numerals.{add-one}
use native.Mathlib.Omega.{arith}
use lib.ListN.{length, drop, get_or, drop_of_length-le}
use lib.Seq.{drop-cons}
use lib.Dec.{ltb}
use borrow.Author.Tests.{ltb-true, ltb-false, eq-eqb}
use Rattle.limits.specs.Limits.{propositions_most, holder_codes}
use Rattle.lists.specs.Tests.{pick, both, bit}
use Rattle.lists.proofs.Tests.{no_true}
use Rattle.kinds.specs.declared.Leaf.{Leaf}
use Rattle.kinds.specs.declared.Leaf.TheVariants.{Const, Prop, Hold}
use Rattle.kinds.specs.declared.Unary.TheVariants.{Not, Next, Ever}
use Rattle.kinds.specs.declared.Binary.TheVariants.{Joined, Until}
use Rattle.kinds.specs.declared.Kind.{Kind}
use Rattle.kinds.specs.Kinds.{kind_of, operands, leaf_coded}
use Rattle.kinds.proofs.Codes.{CodeOf, is_zero, is_one, is_two, is_none, code, operands-few}
use Rattle.ltl.specs.Formula.{Formula, leaf, encode, leaf_over, node_over, over}
use Rattle.ltl.specs.Decode.{decoded, over_alone, is_formula}
use Rattle.ltl.proofs.Decoding.{decoded-is, within-over}
use Rattle.owing.specs.Scan.{scan}
use Rattle.owing.proofs.Scans.{scan-is, turn, turn_end}
use Rattle.slot_sets.specs.declared.SlotSet.{SlotSet}
use Rattle.slot_sets.specs.SlotSets.{has_slot, with_slot}
use Rattle.scanning.specs.declared.Allowed.{Allowed}
use Rattle.scanning.specs.declared.Pass.{Pass}
use Rattle.scanning.specs.OnePass.{at, holder_ok, leaf_outside, outside_after, inside_after, pass_after, go_on, ended, pass}
use Rattle.scanning.proofs.Passes.{checked, thereafter, thereafter-slots, pass-ends, pass-outside}

-- ---- a pass that succeeds is one over a formula of the language
off-on : (y : Pass) → ◌≡◌ {A = Option Pass} None (Some y) → ⊥
off-on y e = let z : ◌≡◌ {A = ℕ} 0 1 = cc in omega arith

on-owed : (n m : ℕ) (seen : SlotSet) (y : Pass) → ◌≡◌ {A = Option Pass} (Some (at n m seen)) (Some y) → n + m ≡ y.outer + y.inner
on-owed n m seen y e = let f : at n m seen ≡ y = cc in ap (λ (x : Pass). x.outer + x.inner) f

on-owed-if : (b : Bool) (n m : ℕ) (seen : SlotSet) (y : Pass) → pick b (Some (at n m seen)) None ≡ Some y → n + m ≡ y.outer + y.inner
unfolding pick
on-owed-if true n m seen y e = on-owed n m seen y e
on-owed-if false n m seen y e = absurd (off-on y e)

-- behind a node of the language, with n operands owed beside it, as many are owed as there
record Behind (k : Kind) (n : ℕ) (y : Pass) : Type 0 where
  stands : node_over propositions_most holder_codes k ≡ true
  owed : n + operands k ≡ y.outer + y.inner

leaf-stands : (a : Leaf) → leaf_coded a → leaf_over propositions_most holder_codes a ≡ true
unfolding over
leaf-stands a c = within-over propositions_most holder_codes (leaf a) c

inside-behind : (p b : ℕ) {k : Kind} → CodeOf b k → (m n : ℕ) (seen : SlotSet) (y : Pass) → inside_after p k m n seen ≡ Some y → Behind k (n + m) y
unfolding pick
inside-behind p b (is_zero {a = a} e c) m n seen y h =
    let o = on-owed-if (leaf_over p 0 a) n (m + 0) seen y h in record { stands = leaf-stands a c; owed = omega arith }
inside-behind p b (is_one {o = o} e) m n seen y h = let o = on-owed n (m + 1) seen y h in record { stands = refl; owed = omega arith }
inside-behind p b (is_two {o = o} e) m n seen y h = let o = on-owed n (m + 2) seen y h in record { stands = refl; owed = omega arith }
inside-behind p b is_none m n seen y h = absurd (off-on y h)

leaf-outside-behind : (a : Allowed) (l : Leaf) (n : ℕ) (seen : SlotSet) (y : Pass) → leaf_outside a l n seen ≡ Some y → n + 0 ≡ y.outer + y.inner
leaf-outside-behind a (Const v) n seen y h = on-owed n 0 seen y h
leaf-outside-behind a (Prop i) n seen y h = on-owed-if (both (ltb i a.propositions) (bit a.own i)) n 0 seen y h
leaf-outside-behind a (Hold m) n seen y h = on-owed-if (both (holder_ok a m) (not (has_slot seen m))) n 0 (with_slot seen m) y h

outside_behind : (a : Allowed) (b : ℕ) {k : Kind} → CodeOf b k → (n : ℕ) (seen : SlotSet) (y : Pass) → outside_after a k n seen ≡ Some y → Behind k n y
outside_behind a b (is_zero {a = l} e c) n seen y h = record { stands = leaf-stands l c; owed = leaf-outside-behind a l n seen y h }
outside_behind a b (is_one {o = Not} e) n seen y h = let o = on-owed (n + 1) 0 seen y h in record { stands = refl; owed = omega arith }
outside_behind a b (is_one {o = Next} e) n seen y h = record { stands = refl; owed = on-owed n 1 seen y h }
outside_behind a b (is_one {o = Ever j} e) n seen y h = record { stands = refl; owed = on-owed-if a.temporal n 1 seen y h }
outside_behind a b (is_two {o = Joined j} e) n seen y h = let o = on-owed (n + 2) 0 seen y h in record { stands = refl; owed = omega arith }
outside_behind a b (is_two {o = Until} e) n seen y h = record { stands = refl; owed = on-owed-if a.temporal n 2 seen y h }
outside_behind a b is_none n seen y h = absurd (off-on y h)

record Owing (k : Kind) (x y : Pass) : Type 0 where
  some : 0 < x.outer + x.inner
  behind : Behind k (x.outer + x.inner - 1) y

owing : (a : Allowed) (b : ℕ) (x y : Pass) → pass_after a (kind_of b) x ≡ Some y → Owing (kind_of b) x y
unfolding pass_after pick
owing a b x y h = go (ltb 0 x.inner) refl (ltb x.outer 1) refl h
  where
    go : (i : Bool) → ltb 0 x.inner ≡ i → (o : Bool) → ltb x.outer 1 ≡ o
        → pick i (inside_after a.propositions (kind_of b) (x.inner - 1) x.outer x.seen) (pick o None (outside_after a (kind_of b) (x.outer - 1) x.seen)) ≡ Some y
        → Owing (kind_of b) x y
    go true p o q h =
        let z = ltb-true 0 x.inner p in
        let e : x.outer + x.inner - 1 ≡ x.outer + (x.inner - 1) = omega arith in
        record { some = omega arith; behind = rw e (inside-behind a.propositions b (code b) (x.inner - 1) x.outer x.seen y h) }
    go false p true q h = absurd (off-on y h)
    go false p false q h =
        let z = ltb-false 0 x.inner p in
        let w = ltb-false x.outer 1 q in
        let e : x.outer + x.inner - 1 ≡ x.outer - 1 = omega arith in
        record { some = omega arith; behind = rw e (outside_behind a b (code b) (x.outer - 1) x.seen y h) }

-- and so at most one more than before it
pub owing-few : (a : Allowed) (b : ℕ) (x y : Pass) → pass_after a (kind_of b) x ≡ Some y → y.outer + y.inner ≤ x.outer + x.inner + 1
owing-few a b x y h = let w = owing a b x y h in let s = w.some in let o = w.behind.owed in let f = operands-few (kind_of b) in omega arith

pub wrong-slots : (r : SlotSet) → ◌≡◌ {A = Option SlotSet} None (Some r) → ⊥
wrong-slots r e = let z : ◌≡◌ {A = ℕ} 0 1 = cc in omega arith

ended-owes : (x : Pass) (r : SlotSet) → ended x ≡ Some r → x.outer + x.inner ≡ 0
unfolding ended pick
ended-owes x r h = go (ltb 0 x.outer) refl (ltb 0 x.inner) refl h
  where
    go : (o : Bool) → ltb 0 x.outer ≡ o → (i : Bool) → ltb 0 x.inner ≡ i → pick o None (pick i None (Some x.seen)) ≡ Some r → x.outer + x.inner ≡ 0
    go true p i q h = absurd (wrong-slots r h)
    go false p true q h = absurd (wrong-slots r h)
    go false p false q h = let y = ltb-false 0 x.outer p in let z = ltb-false 0 x.inner q in omega arith

pass-scans : (a : Allowed) (l : List ℕ) (x : Pass) (r : SlotSet) → pass a l x ≡ Some r → scan propositions_most holder_codes l (x.outer + x.inner) ≡ true
unfolding pass pick
pass-scans a [] x r h = turn_end propositions_most holder_codes [] 0 (x.outer + x.inner) (omega arith) ∙ eq-eqb (x.outer + x.inner) 0 (ended-owes x r h)
pass-scans a (b ∷ l) x r h = go (pass_after a (kind_of b) x) refl h (λ y. pass-scans a l y r)
  where
    go : (z : Option Pass) → pass_after a (kind_of b) x ≡ z → go_on z (λ y. pass a l y) ≡ Some r
        → ((y : Pass) → pass a l y ≡ Some r → scan propositions_most holder_codes l (y.outer + y.inner) ≡ true) → scan propositions_most holder_codes (b ∷ l) (x.outer + x.inner) ≡ true
    go (Some y) e h ih =
        let w = owing a b x y e in
        let s = w.some in
        turn propositions_most holder_codes (b ∷ l) 0 (x.outer + x.inner) (omega arith) (λ q. omega arith) ∙ rw (w.behind.stands, w.behind.owed) (ih y h)
    go None e h ih = absurd (wrong-slots r h)

-- ---- the pass is the formula's clause
abbrev pub checked_text : Allowed → math.Option Formula → SlotSet → Option SlotSet
checked_text a math.none seen = None
checked_text a (math.some f) seen = checked a f seen

pub pass-is : (a : Allowed) (l : List ℕ) (seen : SlotSet) → pass a l (at 1 0 seen) ≡ checked_text a (decoded l) seen
unfolding is_formula
pass-is a l seen = go (decoded l) refl
  where
    none-fails : (h : Option SlotSet) → pass a l (at 1 0 seen) ≡ h → decoded l ≡ math.none → h ≡ None
    none-fails None e q = refl
    none-fails (Some r) e q =
        let t : is_formula propositions_most holder_codes l ≡ true = sym (scan-is propositions_most holder_codes l) ∙ pass-scans a l (at 1 0 seen) r e in
        absurd (no_true (ap (over_alone propositions_most holder_codes) (sym q) ∙ t))

    go : (x : math.Option Formula) → decoded l ≡ x → pass a l (at 1 0 seen) ≡ checked_text a x seen
    go math.none q = none-fails (pass a l (at 1 0 seen)) refl q
    go (math.some f) q =
        let t = decoded-is l f q in
        ap (λ (k : List ℕ). pass a k (at 1 0 seen)) (t.1 ∙ sym (append-nil (encode f)))
        ∙ pass-outside a f 0 seen [] t.0
        ∙ ap (λ (h : SlotSet → Option SlotSet). thereafter (checked a f seen) h) (λ i s. pass-ends a s i)
        ∙ thereafter-slots (checked a f seen)

-- ---- one turn of the loop, over plain lists
module _ (a : Allowed) (s : List ℕ) (i : ℕ) (x : Pass) where
  pub turn-next : i < length s → (y : Pass) → pass_after a (kind_of (get_or s i 0)) x ≡ Some y → pass a (drop i s) x ≡ pass a (drop (i + 1) s) y
  unfolding pass
  turn-next h y e = rw (drop-cons s i 0 h, add-one, e)

  pub turn-off : i < length s → pass_after a (kind_of (get_or s i 0)) x ≡ None → pass a (drop i s) x ≡ None
  unfolding pass
  turn-off h e = rw (drop-cons s i 0 h, e)

  pub turn-ended : length s ≤ i → pass a (drop i s) x ≡ ended x
  unfolding pass
  turn-ended h = rw (drop_of_length-le s h)

-- what a turn of the loop goes by
pub ruleset turns = (owing-few, turn-next, turn-off, turn-ended)
