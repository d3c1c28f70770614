-- What may stand in a slot's formula, clause by clause: the one test of the pass is the clauses of the state check together
-- (`stands-is`; `stands-so` with the last two as they are for a slot that is stepped, or for one that is not). Assumes nothing.
use mathlib.Core.Path.{◌≡◌, refl, sym, ap, ap₂, ◌∙◌}
use mathlib.Core.Bool.{Bool, true, false, not}
use Prim.Native.Nat.{ℕ, ◌-◌, ◌^◌, ◌<◌}
use native.Mathlib.Omega.{arith}
use lib.Dec.{ltb, eqb}
use borrow.Author.Tests.{le-ltb, eq-eqb, ne_eqb}
use Rattle.limits.specs.Limits.{propositions_most, holder_codes}
use Rattle.lists.specs.Tests.{pick, both, bit}
use Rattle.lists.proofs.Tests.{both-0, both-1, both_true}
use Rattle.kinds.specs.declared.Leaf.TheVariants.{Const, Prop, Hold}
use Rattle.kinds.specs.declared.Unary.TheVariants.{Not, Next, Ever}
use Rattle.kinds.specs.declared.Binary.TheVariants.{Joined, Until}
use Rattle.ltl.specs.Formula.{Formula, leaf, one, two, size, Within, leaf_over, over, Coded}
use Rattle.ltl.proofs.Decoding.{size-some}
use Rattle.network.specs.Tick.{holds_only}
use Rattle.state.specs.Clauses.{tidy, unfolded_own, lone_other}
use Rattle.slot_sets.specs.SlotSets.{has_slot}
use Rattle.slot_sets.proofs.Bits.{bit-all}
use Rattle.scanning.specs.declared.Allowed.{Allowed}
use Rattle.records.proofs.Each.{both_false, both-last}
use Rattle.scanning.proofs.Passes.{leaf_stands, stands}

-- ---- tests regrouped
swap : (a b c d : Bool) → both (both a b) (both c d) ≡ both (both a c) (both b d)
unfolding both
swap true true c d = refl
swap true false true d = refl
swap true false false d = refl
swap false b c d = refl

zip-five : (a b c d e a' b' c' d' e' : Bool)
    → both (both a (both b (both c (both d e)))) (both a' (both b' (both c' (both d' e'))))
    ≡ both (both a a') (both (both b b') (both (both c c') (both (both d d') (both e e'))))
zip-five a b c d e a' b' c' d' e' =
    swap a (both b (both c (both d e))) a' (both b' (both c' (both d' e')))
    ∙ ap (both (both a a'))
    (swap b (both c (both d e)) b' (both c' (both d' e'))
    ∙ ap (both (both b b')) (swap c (both d e) c' (both d' e') ∙ ap (both (both c c')) (swap d e d' e')))

put_last : (t a b c d : Bool) → both t (both a (both b (both c d))) ≡ both a (both b (both c (both d t)))
unfolding both
put_last t true true true true = sym (both-last t)
put_last t true true true false = both_false t
put_last t true true false d = both_false t
put_last t true false c d = both_false t
put_last t false b c d = both_false t

three-and : (a b c x : Bool) → both (both a (both b c)) x ≡ both a (both b (both c x))
unfolding both
three-and true true c x = refl
three-and true false c x = refl
three-and false b c x = refl

-- ---- a formula without place holders
holds-any : (t : ℕ → Bool) (f : Formula) → holds_only (λ m. false) f ≡ true → holds_only t f ≡ true
unfolding holds_only
holds-any t (leaf (Const v)) e = refl
holds-any t (leaf (Prop i)) e = refl
holds-any t (leaf (Hold m)) e = absurd (let z : ◌≡◌ {A = ℕ} 0 1 = cc in omega arith)
holds-any t (one o f) e = holds-any t f e
holds-any t (two o f g) e = both_true (holds_only t f) (holds_only t g) (holds-any t f (both-0 _ _ e)) (holds-any t g (both-1 _ _ e))

none-held : (t u : ℕ → Bool) (f : Formula) → holds_only (λ m. false) f ≡ both (holds_only (λ m. false) f) (both (holds_only t f) (holds_only u f))
unfolding both
none-held t u f = go (holds_only (λ m. false) f) refl
  where
    go : (x : Bool) → holds_only (λ m. false) f ≡ x → x ≡ both x (both (holds_only t f) (holds_only u f))
    go true e = sym (both_true (holds_only t f) (holds_only u f) (holds-any t f e) (holds-any u f e))
    go false e = refl

over_none : (p s : ℕ) (f : Formula) → over p 0 f ≡ both (over p s f) (holds_only (λ m. false) f)
unfolding over leaf_over holds_only both
over_none p s (leaf (Const v)) = refl
over_none p s (leaf (Prop i)) = both-last (ltb i p)
over_none p s (leaf (Hold m)) = le-ltb m 0 (omega arith) ∙ sym (both_false (ltb m s))
over_none p s (one o f) = over_none p s f
over_none p s (two o f g) = ap₂ both (over_none p s f) (over_none p s g) ∙ swap (over p s f) (holds_only (λ m. false) f) (over p s g) (holds_only (λ m. false) g)

-- as it stands inside next and the temporal operators
inside_is : (p s : ℕ) (t u : ℕ → Bool) (f : Formula)
    → over p 0 f ≡ both (over p s f) (both (holds_only (λ m. false) f) (both (holds_only t f) (holds_only u f)))
inside_is p s t u f = over_none p s f ∙ ap (both (over p s f)) (none-held t u f)

-- ---- the test, clause by clause
-- outside next: propositions of a mask alone, and temporal operators where they may stand
unfoldable pub outside_own : Bool → ℕ → Formula → Bool
outside_own temporal own (leaf (Const v)) = true
outside_own temporal own (leaf (Prop i)) = bit own i
outside_own temporal own (leaf (Hold m)) = true
outside_own temporal own (one Not f) = outside_own temporal own f
outside_own temporal own (one Next f) = true
outside_own temporal own (one (Ever j) f) = temporal
outside_own temporal own (two (Joined j) f g) = both (outside_own temporal own f) (outside_own temporal own g)
outside_own temporal own (two Until f g) = temporal

module _ (a : Allowed) where
  abbrev pub above : ℕ → Bool
  above m = ltb a.slot m

  abbrev pub held : ℕ → Bool
  held m = has_slot a.holders m

  abbrev clauses : Formula → Bool
  clauses f =
      both (over a.propositions a.slots f)
      (both (tidy f)
      (both (holds_only above f)
      (both (holds_only held f) (outside_own a.temporal a.own f))))

  temporal-is : (f : Formula) → both a.temporal (over a.propositions 0 f)
      ≡ both (over a.propositions a.slots f) (both (holds_only (λ m. false) f) (both (holds_only above f) (both (holds_only held f) a.temporal)))
  temporal-is f =
      ap (both a.temporal) (inside_is a.propositions a.slots above held f)
      ∙ put_last a.temporal (over a.propositions a.slots f) (holds_only (λ m. false) f) (holds_only above f) (holds_only held f)

  pub stands-is : (f : Formula) → stands a f ≡ clauses f
  unfolding stands leaf_stands over leaf_over tidy holds_only outside_own both
  stands-is (leaf (Const v)) = refl
  stands-is (leaf (Prop i)) = refl
  stands-is (leaf (Hold m)) = ap (λ (x : Bool). both (ltb m a.slots) (both (above m) x)) (both-last (held m))
  stands-is (one Not f) = stands-is f
  stands-is (one Next f) =
      inside_is a.propositions a.slots above held f
      ∙ ap (λ (x : Bool). both (over a.propositions a.slots f) (both (holds_only (λ m. false) f) (both (holds_only above f) x))) (both-last (holds_only held f))
  stands-is (one (Ever j) f) = temporal-is f
  stands-is (two (Joined j) f g) =
      ap₂ both (stands-is f) (stands-is g)
      ∙ zip-five
      (over a.propositions a.slots f) (tidy f) (holds_only above f) (holds_only held f) (outside_own a.temporal a.own f)
      (over a.propositions a.slots g) (tidy g) (holds_only above g) (holds_only held g) (outside_own a.temporal a.own g)
  stands-is (two Until f g) = temporal-is (two Until f g)

-- ---- the clauses of a slot
-- a test that holds of every slot, and of the slots below a number
pub holds-all : (t : ℕ → Bool) (f : Formula) → Coded f → ((m : ℕ) → m < holder_codes → t m ≡ true) → holds_only t f ≡ true
unfolding holds_only
holds-all t (leaf (Const v)) w h = refl
holds-all t (leaf (Prop i)) w h = refl
holds-all t (leaf (Hold m)) w h = h m w
holds-all t (one o f) w h = holds-all t f w h
holds-all t (two o f g) w h = both_true (holds_only t f) (holds_only t g) (holds-all t f w.0 h) (holds-all t g w.1 h)

pub holds_same : (p s : ℕ) (t u : ℕ → Bool) (f : Formula) → Within p s f → ((m : ℕ) → m < s → t m ≡ u m) → holds_only t f ≡ holds_only u f
unfolding holds_only
holds_same p s t u (leaf (Const v)) w h = refl
holds_same p s t u (leaf (Prop i)) w h = refl
holds_same p s t u (leaf (Hold m)) w h = h m w
holds_same p s t u (one o f) w h = holds_same p s t u f w h
holds_same p s t u (two o f g) w h = ap₂ both (holds_same p s t u f w.0 h) (holds_same p s t u g w.1 h)

-- every proposition, and temporal operators too
own-all : (own : ℕ) (f : Formula) → Coded f → ((i : ℕ) → i < propositions_most → bit own i ≡ true) → outside_own true own f ≡ true
unfolding outside_own
own-all own (leaf (Const v)) w h = refl
own-all own (leaf (Prop i)) w h = h i w
own-all own (leaf (Hold m)) w h = refl
own-all own (one Not f) w h = own-all own f w h
own-all own (one Next f) w h = refl
own-all own (one (Ever j) f) w h = refl
own-all own (two (Joined j) f g) w h = both_true (outside_own true own f) (outside_own true own g) (own-all own f w.0 h) (own-all own g w.1 h)
own-all own (two Until f g) w h = refl

pub own-unfolded : (mask : ℕ) (f : Formula) → outside_own false mask f ≡ unfolded_own mask f
unfolding outside_own unfolded_own
own-unfolded mask (leaf (Const v)) = refl
own-unfolded mask (leaf (Prop i)) = refl
own-unfolded mask (leaf (Hold m)) = refl
own-unfolded mask (one Not f) = own-unfolded mask f
own-unfolded mask (one Next f) = refl
own-unfolded mask (one (Ever j) f) = refl
own-unfolded mask (two (Joined j) f g) = ap₂ both (own-unfolded mask f) (own-unfolded mask g)
own-unfolded mask (two Until f g) = refl

double-not : (b : Bool) → b ≡ not (not b)
double-not true = refl
double-not false = refl

-- a stepped slot of one node has its own board's propositions alone, a longer one any
own-longer : (mask n : ℕ) (f : Formula) → Coded f → (n ≡ 1 → ⊥) → outside_own true (pick (eqb n 1) mask (2 ^ 64 - 1)) f ≡ true
unfolding pick
own-longer mask n f w h = rw (ne_eqb n 1 h) (own-all (2 ^ 64 - 1) f w (bit-all 64))

pub own-stepped : (mask n : ℕ) (f : Formula) → Coded f → n ≡ size f → outside_own true (pick (eqb n 1) mask (2 ^ 64 - 1)) f ≡ not (lone_other mask f)
unfolding lone_other outside_own pick
own-stepped mask n (leaf (Const v)) w e = refl
own-stepped mask n (leaf (Prop i)) w e = rw (eq-eqb n 1 e) (double-not (bit mask i))
own-stepped mask n (leaf (Hold m)) w e = refl
own-stepped mask n (one o f) w e = let z = size-some f in own-longer mask n (one o f) w (λ q. omega arith)
own-stepped mask n (two o f g) w e = let z = size-some f in own-longer mask n (two o f g) w (λ q. omega arith)

-- the clauses of the state check, of which the last two are those of a stepped slot or of one that is not
module _ (a : Allowed) (f : Formula) (coded : Coded f) (held-last own-last : Bool) where
  pub stands-so : (over a.propositions a.slots f ≡ true → holds_only (held a) f ≡ held-last) → outside_own a.temporal a.own f ≡ own-last
      → stands a f ≡ both (both (over a.propositions a.slots f) (both (tidy f) (holds_only (above a) f))) (both held-last own-last)
  unfolding both
  stands-so h o = stands-is a f ∙ go (over a.propositions a.slots f) h ∙ sym (three-and (over a.propositions a.slots f) (tidy f) (holds_only (above a) f) (both held-last own-last))
    where
      go : (x : Bool) → (x ≡ true → holds_only (held a) f ≡ held-last)
          → both x (both (tidy f) (both (holds_only (above a) f) (both (holds_only (held a) f) (outside_own a.temporal a.own f))))
          ≡ both x (both (tidy f) (both (holds_only (above a) f) (both held-last own-last)))
      go true h = rw (h refl, o)
      go false h = refl
