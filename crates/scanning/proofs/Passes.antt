-- The pass over a slot's bytes, where a formula stands in front: inside next and the temporal operators it takes one operand off what is
-- owed if it is a rule's (`pass-inside`), outside if what may stand there stands, and its place holders are noted (`pass-outside`).
-- Assumes nothing.
use Rattle.std.specs.Prelude.{Option, Some, None}
use mathlib.Core.Path.{◌≡◌, refl, sym, ap, ◌∙◌}
use mathlib.Core.Bool.{Bool, true, false, not}
use mathlib.Core.List.{List, [], ◌∷◌, ◌++◌, append_assoc}
use Prim.Native.Nat.{ℕ, suc, ◌+◌, ◌-◌}
use native.Mathlib.Numerals.{add-one}
use native.Mathlib.Omega.{arith}
use lib.Dec.{ltb}
use borrow.Author.Tests.{ltb-true, lt-ltb, le-ltb}
use Rattle.lists.specs.Tests.{pick, both, bit}
use Rattle.lists.proofs.Tests.{both-0, both-1}
use Rattle.kinds.specs.declared.Leaf.{Leaf}
use Rattle.kinds.specs.declared.Leaf.TheVariants.{Const, Prop, Hold}
use Rattle.kinds.specs.declared.Unary.TheVariants.{Not, Next, Ever}
use Rattle.kinds.specs.declared.Binary.{Binary}
use Rattle.kinds.specs.declared.Binary.TheVariants.{Joined, Until}
use Rattle.kinds.specs.declared.Kind.{Kind}
use Rattle.kinds.specs.Kinds.{kind_of, leaf_code, unary_code, binary_code, operands}
use Rattle.kinds.proofs.Codes.{kind-leaf, kind-unary, kind-binary}
use Rattle.ltl.specs.Formula.{Formula, leaf, one, two, encode, leaf_over, node_over, over, Coded}
use Rattle.ltl.proofs.Owing.{Owes, owed-front, tested, pick-both, acts-tested}
use Rattle.state.specs.Clauses.{held_by}
use Rattle.slot_sets.specs.declared.SlotSet.{SlotSet}
use Rattle.slot_sets.specs.SlotSets.{has_slot, with_slot}
use Rattle.scanning.specs.declared.Allowed.{Allowed}
use Rattle.scanning.specs.declared.Pass.{Pass}
use Rattle.scanning.specs.OnePass.{at, holder_ok, leaf_outside, outside_after, inside_after, pass_after, go_on, ended, pass, noted}

-- ---- what may stand, by the formula
-- inside next and the temporal operators as in a rule, `over p 0`
unfoldable pub leaf_stands : Allowed → Leaf → Bool
leaf_stands a (Const v) = true
leaf_stands a (Prop i) = both (ltb i a.propositions) (bit a.own i)
leaf_stands a (Hold m) = holder_ok a m

unfoldable pub stands : Allowed → Formula → Bool
stands a (leaf l) = leaf_stands a l
stands a (one Not f) = stands a f
stands a (one Next f) = over a.propositions 0 f
stands a (one (Ever j) f) = both a.temporal (over a.propositions 0 f)
stands a (two (Joined j) f g) = both (stands a f) (stands a g)
stands a (two Until f g) = both a.temporal (both (over a.propositions 0 f) (over a.propositions 0 g))

-- a formula that may stand, with its place holders noted
abbrev pub checked : Allowed → Formula → SlotSet → Option SlotSet
checked a f seen = pick (stands a f) (noted (held_by f) seen) None

abbrev pub thereafter : Option SlotSet → (SlotSet → Option SlotSet) → Option SlotSet
thereafter (Some x) rest = rest x
thereafter None rest = None

-- ---- tests, and place holders noted one after the other
thereafter-wrong : (h : Option SlotSet) → thereafter h (λ s. None) ≡ None
thereafter-wrong (Some x) = refl
thereafter-wrong None = refl

thereafter-more : (h : Option SlotSet) (g k : SlotSet → Option SlotSet) → thereafter h (λ s. thereafter (g s) k) ≡ thereafter (thereafter h g) k
thereafter-more (Some x) g k = refl
thereafter-more None g k = refl

pub thereafter-slots : (h : Option SlotSet) → thereafter h (λ s. Some s) ≡ h
thereafter-slots (Some x) = refl
thereafter-slots None = refl

thereafter-pick : (b : Bool) (h : Option SlotSet) (k : SlotSet → Option SlotSet) → thereafter (pick b h None) k ≡ pick b (thereafter h k) None
unfolding pick
thereafter-pick true h k = refl
thereafter-pick false h k = refl

go_on-pick : (b : Bool) (x : Pass) (h : Pass → Option SlotSet) → go_on (pick b (Some x) None) h ≡ pick b (h x) None
unfolding pick
go_on-pick true x h = refl
go_on-pick false x h = refl

pub noted-append : (xs ys : List ℕ) (seen : SlotSet) → noted (xs ++ ys) seen ≡ thereafter (noted xs seen) (λ s. noted ys s)
unfolding noted pick
noted-append [] ys seen = refl
noted-append (m ∷ xs) ys seen =
    ap (pick (has_slot seen m) None) (noted-append xs ys (with_slot seen m)) ∙ go (has_slot seen m) (noted xs (with_slot seen m))
  where
    go : (b : Bool) (h : Option SlotSet) → pick b None (thereafter h (λ s. noted ys s)) ≡ thereafter (pick b None h) (λ s. noted ys s)
    go true h = refl
    go false h = refl

-- ---- one node
pass-cons : (a : Allowed) (b : ℕ) (l : List ℕ) (x : Pass) → pass a (b ∷ l) x ≡ go_on (pass_after a (kind_of b) x) (λ y. pass a l y)
unfolding pass
pass-cons a b l x = refl

after-inside : (a : Allowed) (k : Kind) (n m : ℕ) (seen : SlotSet) → pass_after a k (at n (suc m) seen) ≡ inside_after a.propositions k m n seen
unfolding pass_after pick
after-inside a k n m seen = let e : suc m - 1 ≡ m = omega arith in rw (lt-ltb 0 (suc m) (omega arith), e)

after-outside : (a : Allowed) (k : Kind) (n : ℕ) (seen : SlotSet) → pass_after a k (at (suc n) 0 seen) ≡ outside_after a k n seen
unfolding pass_after pick
after-outside a k n seen = let e : suc n - 1 ≡ n = omega arith in rw (le-ltb (suc n) 1 (omega arith), e)

-- the end
pub pass-ends : (a : Allowed) (seen : SlotSet) → pass a [] (at 0 0 seen) ≡ Some seen
unfolding pass ended pick
pass-ends a seen = refl

-- ---- a formula in front, inside: by the law of the operands owed
inside-owes : (a : Allowed) (n : ℕ) (seen : SlotSet) → Owes (tested a.propositions 0 None) (λ l m. pass a l (at n m seen))
inside-owes a n seen = record {
  turn = λ b m l.
      pass-cons a b l (at n (suc m) seen)
      ∙ ap (λ (x : Option Pass). go_on x (λ y. pass a l y)) (after-inside a (kind_of b) n m seen)
      ∙ go_on-pick (node_over a.propositions 0 (kind_of b)) (at n (m + operands (kind_of b)) seen) (λ y. pass a l y);
}

pass-inside : (a : Allowed) (f : Formula) (n m : ℕ) (seen : SlotSet) (l : List ℕ) → Coded f
    → pass a (encode f ++ l) (at n (suc m) seen) ≡ pick (over a.propositions 0 f) (pass a l (at n m seen)) None
pass-inside a f n m seen l c = owed-front (inside-owes a n seen) f m l c ∙ acts-tested a.propositions 0 None f (pass a l (at n m seen))

over-two : (p s : ℕ) (o : Binary) (f g : Formula) → over p s (two o f g) ≡ both (over p s f) (over p s g)
unfolding over
over-two p s o f g = refl

-- no place holder stands inside
inside-holds-none : (p : ℕ) (f : Formula) → over p 0 f ≡ true → held_by f ≡ []
unfolding over leaf_over held_by
inside-holds-none p (leaf (Const v)) e = refl
inside-holds-none p (leaf (Prop i)) e = refl
inside-holds-none p (leaf (Hold k)) e = let z = ltb-true k 0 e in absurd (omega arith)
inside-holds-none p (one o f) e = inside-holds-none p f e
inside-holds-none p (two o f g) e = rw (inside-holds-none p f (both-0 (over p 0 f) (over p 0 g) e), inside-holds-none p g (both-1 (over p 0 f) (over p 0 g) e))

-- ---- a formula in front, outside
cons-outside : (a : Allowed) (b n : ℕ) (seen : SlotSet) (l : List ℕ) → pass a (b ∷ l) (at (suc n) 0 seen) ≡ go_on (outside_after a (kind_of b) n seen) (λ y. pass a l y)
cons-outside a b n seen l = pass-cons a b l (at (suc n) 0 seen) ∙ ap (λ (x : Option Pass). go_on x (λ y. pass a l y)) (after-outside a (kind_of b) n seen)

outside-leaf : (a : Allowed) (v : Leaf) (n : ℕ) (seen : SlotSet) (l : List ℕ)
    → go_on (leaf_outside a v n seen) (λ y. pass a l y) ≡ thereafter (checked a (leaf v) seen) (λ s. pass a l (at n 0 s))
unfolding pick both stands leaf_stands held_by noted
outside-leaf a (Const v) n seen l = refl
outside-leaf a (Prop i) n seen l =
    let x = both (ltb i a.propositions) (bit a.own i) in
    go_on-pick x (at n 0 seen) (λ y. pass a l y) ∙ sym (thereafter-pick x (Some seen) (λ s. pass a l (at n 0 s)))
outside-leaf a (Hold m) n seen l = go (holder_ok a m) (has_slot seen m)
  where
    go : (x y : Bool) → go_on (pick (both x (not y)) (Some (at n 0 (with_slot seen m))) None) (λ y. pass a l y)
        ≡ thereafter (pick x (pick y None (Some (with_slot seen m))) None) (λ s. pass a l (at n 0 s))
    go true true = refl
    go true false = refl
    go false y = refl

-- what a formula that stands inside leaves
inside-checked : (p : ℕ) (f : Formula) (seen : SlotSet) (h : SlotSet → Option SlotSet) → pick (over p 0 f) (h seen) None ≡ thereafter (pick (over p 0 f) (noted (held_by f) seen) None) h
unfolding pick noted
inside-checked p f seen h = go (over p 0 f) refl
  where
    go : (x : Bool) → over p 0 f ≡ x → pick x (h seen) None ≡ thereafter (pick x (noted (held_by f) seen) None) h
    go true e = rw (inside-holds-none p f e)
    go false e = refl

temporal-checked : (t o : Bool) (u v : Option SlotSet) (k : SlotSet → Option SlotSet) → pick o u None ≡ thereafter (pick o v None) k
    → pick t (pick o u None) None ≡ thereafter (pick (both t o) v None) k
unfolding pick both
temporal-checked true o u v k e = e
temporal-checked false o u v k e = refl

two-checked : (x y : Bool) (f g : List ℕ) (seen : SlotSet) (k : SlotSet → Option SlotSet)
    → thereafter (pick x (noted f seen) None) (λ s. thereafter (pick y (noted g s) None) k) ≡ thereafter (pick (both x y) (noted (f ++ g) seen) None) k
unfolding pick both
two-checked true true f g seen k = thereafter-more (noted f seen) (λ s. noted g s) k ∙ ap (λ (h : Option SlotSet). thereafter h k) (sym (noted-append f g seen))
two-checked true false f g seen k = thereafter-wrong (noted f seen)
two-checked false y f g seen k = refl

-- a temporal operator's operands stand inside
temporal-one : (a : Allowed) (f : Formula) (n : ℕ) (seen : SlotSet) (l : List ℕ) → Coded f
    → go_on (pick a.temporal (Some (at n 1 seen)) None) (λ y. pass a (encode f ++ l) y)
    ≡ thereafter (pick (both a.temporal (over a.propositions 0 f)) (noted (held_by f) seen) None) (λ s. pass a l (at n 0 s))
temporal-one a f n seen l c =
    let o = over a.propositions 0 f in
    let rest : SlotSet → Option SlotSet = λ s. pass a l (at n 0 s) in
    go_on-pick a.temporal (at n 1 seen) (λ y. pass a (encode f ++ l) y)
    ∙ ap (λ (h : Option SlotSet). pick a.temporal h None) (pass-inside a f n 0 seen l c)
    ∙ temporal-checked a.temporal o (rest seen) (noted (held_by f) seen) rest (inside-checked a.propositions f seen rest)

temporal-two : (a : Allowed) (f g : Formula) (n : ℕ) (seen : SlotSet) (l : List ℕ) → Coded f × Coded g
    → go_on (pick a.temporal (Some (at n 2 seen)) None) (λ y. pass a ((encode f ++ encode g) ++ l) y)
    ≡ thereafter (pick (both a.temporal (both (over a.propositions 0 f) (over a.propositions 0 g))) (noted (held_by f ++ held_by g) seen) None) (λ s. pass a l (at n 0 s))
unfolding held_by
temporal-two a f g n seen l c =
    let p = a.propositions in
    let rest : SlotSet → Option SlotSet = λ s. pass a l (at n 0 s) in
    go_on-pick a.temporal (at n 2 seen) (λ y. pass a ((encode f ++ encode g) ++ l) y)
    ∙ ap (λ (h : Option SlotSet). pick a.temporal h None)
    (ap (λ (k : List ℕ). pass a k (at n 2 seen)) (append_assoc (encode f) (encode g) l)
    ∙ pass-inside a f n 1 seen (encode g ++ l) c.0
    ∙ ap (λ (h : Option SlotSet). pick (over p 0 f) h None) (pass-inside a g n 0 seen l c.1)
    ∙ pick-both (over p 0 f) (over p 0 g) (rest seen) None)
    ∙ temporal-checked a.temporal (both (over p 0 f) (over p 0 g)) (rest seen) (noted (held_by f ++ held_by g) seen) rest (until-checked p f g seen rest)
  where
    until-checked : (p : ℕ) (f g : Formula) (seen : SlotSet) (h : SlotSet → Option SlotSet)
        → pick (both (over p 0 f) (over p 0 g)) (h seen) None ≡ thereafter (pick (both (over p 0 f) (over p 0 g)) (noted (held_by f ++ held_by g) seen) None) h
    until-checked p f g seen h =
        rw (← over-two p 0 Until f g) (inside-checked p (two Until f g) seen h)

pub pass-outside : (a : Allowed) (f : Formula) (n : ℕ) (seen : SlotSet) (l : List ℕ) → Coded f
    → pass a (encode f ++ l) (at (suc n) 0 seen) ≡ thereafter (checked a f seen) (λ s. pass a l (at n 0 s))
unfolding stands held_by
pass-outside a (leaf v) n seen l c = cons-outside a (leaf_code v) n seen l ∙ rw (kind-leaf v c) (outside-leaf a v n seen l)
pass-outside a (one Not f) n seen l c = cons-outside a 2 n seen (encode f ++ l) ∙ rw (kind-unary Not, add-one) (pass-outside a f n seen l c)
pass-outside a (one Next f) n seen l c =
    cons-outside a 5 n seen (encode f ++ l)
    ∙ rw (kind-unary Next) (pass-inside a f n 0 seen l c ∙ inside-checked a.propositions f seen (λ s. pass a l (at n 0 s)))
pass-outside a (one (Ever j) f) n seen l c = cons-outside a (unary_code (Ever j)) n seen (encode f ++ l) ∙ rw (kind-unary (Ever j)) (temporal-one a f n seen l c)
pass-outside a (two (Joined j) f g) n seen l c =
    let e : n + 2 ≡ suc (suc n) = omega arith in
    cons-outside a (binary_code (Joined j)) n seen ((encode f ++ encode g) ++ l)
    ∙ rw (kind-binary (Joined j), e, append_assoc (encode f) (encode g) l)
    (pass-outside a f (suc n) seen (encode g ++ l) c.0
    ∙ ap (λ (h : SlotSet → Option SlotSet). thereafter (checked a f seen) h) (λ i s. pass-outside a g n s l c.1 i)
    ∙ two-checked (stands a f) (stands a g) (held_by f) (held_by g) seen (λ s. pass a l (at n 0 s)))
pass-outside a (two Until f g) n seen l c =
    cons-outside a 6 n seen ((encode f ++ encode g) ++ l) ∙ rw (kind-binary Until) (temporal-two a f g n seen l c)
