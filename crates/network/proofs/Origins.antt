-- A laid network keeps the values of what it was laid from. Each slot is laid from a formula, its origin; an environment that gives
-- each new slot the value of its origin gives every slot's formula that value too (`From`, `modelled`). Assumes nothing.
use mathlib.Core.Path.{◌≡◌, refl, sym, ap, ap₂, ◌∙◌, subst}
use mathlib.Core.Bool.{false}
use mathlib.Core.List.{List, [], ◌∷◌, ◌++◌}
use Prim.Native.Nat.{ℕ, zero, suc, ◌+◌, ◌<◌}
use native.Mathlib.Omega.{arith}
use lib.ListN.{length, get_or, length-append}
use Rattle.kinds.specs.declared.Leaf.TheVariants.{Hold}
use Rattle.kinds.specs.declared.Unary.TheVariants.{Not}
use Rattle.kinds.specs.declared.Join.{Join}
use Rattle.kinds.specs.declared.Binary.TheVariants.{Joined}
use Rattle.answers.specs.declared.Verdict.TheVariants.{Pending}
use Rattle.ltl.specs.Formula.{Formula, leaf, one, two, constant}
use Rattle.ltl.specs.Meaning.{Event}
use Rattle.ltl.specs.Progression.{unfolded, verdict_of}
use Rattle.network.specs.Layout.{Slot, Laid, whole, under, beside, cut, rooted, slot_at}
use Rattle.ltl.proofs.Verdicts.{opposite, together}
use Rattle.network.proofs.Values.{Env, value, value-unfolded}

-- ---- environments and origins
-- F gives the slots from k on the values that E gives their origins
abbrev pub Agrees : Env → Env → ℕ → List Formula → Type 0
Agrees F E k [] = Unit {0}
Agrees F E k (o ∷ os) = ((u : List Event) → F u k ≡ value E u o) × Agrees F E (k + 1) os

-- under F each slot's formula has the value of its origin under E
abbrev pub Keeps : Env → Env → List Slot → List Formula → Type 0
Keeps F E [] [] = Unit {0}
Keeps F E [] (o ∷ os) = ⊥
Keeps F E (s ∷ ss) [] = ⊥
Keeps F E (s ∷ ss) (o ∷ os) = ((u : List Event) → value F u s.formula ≡ value E u o) × Keeps F E ss os

pub agrees-left : (F E : Env) (k : ℕ) (os ps : List Formula) → Agrees F E k (os ++ ps) → Agrees F E k os
agrees-left F E k [] ps a = tt
agrees-left F E k (o ∷ os) ps a = (a.0, agrees-left F E (k + 1) os ps a.1)

pub agrees-right : (F E : Env) (k n : ℕ) (os ps : List Formula) → n ≡ k + length os → Agrees F E k (os ++ ps) → Agrees F E n ps
agrees-right F E k n [] ps e a = let q : k ≡ n = omega arith in subst (λ (i : ℕ). Agrees F E i ps) q a
agrees-right F E k n (o ∷ os) ps e a = agrees-right F E (k + 1) n os ps (omega arith) a.1

pub keeps-both : (F E : Env) (ss ts : List Slot) (os ps : List Formula) → Keeps F E ss os → Keeps F E ts ps → Keeps F E (ss ++ ts) (os ++ ps)
keeps-both F E [] ts [] ps a b = b
keeps-both F E (s ∷ ss) ts (o ∷ os) ps a b = (a.0, keeps-both F E ss ts os ps a.1 b)
keeps-both F E [] ts (o ∷ os) ps a b = elim a [ ]
keeps-both F E (s ∷ ss) ts [] ps a b = elim a [ ]

pub keeps-length : (F E : Env) (ss : List Slot) (os : List Formula) → Keeps F E ss os → length os ≡ length ss
keeps-length F E [] [] a = refl
keeps-length F E (s ∷ ss) (o ∷ os) a = ap suc (keeps-length F E ss os a.1)
keeps-length F E [] (o ∷ os) a = elim a [ ]
keeps-length F E (s ∷ ss) [] a = elim a [ ]

-- ---- a part that was laid from f, its slots numbered from k on
pub record From (E : Env) (k : ℕ) (f : Formula) (x : Laid) : Type 0 where
  pub origins : List Formula
  pub count : length origins ≡ length x.slots
  pub here : (F : Env) → Agrees F E k origins → (u : List Event) → value F u x.here ≡ value E u f
  pub slots : (F : Env) → Agrees F E k origins → Keeps F E x.slots origins

module _ (E : Env) (k : ℕ) where
  -- the value of what stays whole does not depend on slots
  pub from-whole : (f : Formula) → ((F : Env) (u : List Event) → value F u f ≡ value E u f) → From E k f (whole f)
  from-whole f h = record { origins = []; count = refl; here = λ F a u. h F u; slots = λ F a. tt }

  pub from-under : (f : Formula) (x : Laid) → From E k f x → From E k (one Not f) (under Not x)
  from-under f x p = record { origins = p.origins; count = p.count; here = here; slots = p.slots }
    where
      here : (F : Env) → Agrees F E k p.origins → (u : List Event) → value F u (one Not x.here) ≡ value E u (one Not f)
      here F a [] = refl
      here F a (e ∷ u) = ap opposite (p.here F a (e ∷ u))

-- a part that is cut: no constant, so that it is pending before any event, as its place holder is
pub from_cut : (E : Env) (k b : ℕ) (f : Formula) (x : Laid) → verdict_of f ≡ Pending → From E (k + 1) f x → From E k f (cut b k x)
from_cut E k b f x v p =
    record {
      origins = f ∷ p.origins;
      count = ap suc p.count;
      here = here;
      slots = λ F a. (p.here F a.1, p.slots F a.1);
    }
  where
    here : (F : Env) → Agrees F E k (f ∷ p.origins) → (u : List Event) → value F u (leaf (Hold k)) ≡ value E u f
    here F a [] = sym v
    here F a (e ∷ u) = a.0 (e ∷ u)

-- two parts side by side
pub from-beside : (E : Env) (k : ℕ) (j : Join) (f g : Formula) (x y : Laid) → From E k f x → From E (k + length x.slots) g y → From E k (two (Joined j) f g) (beside (Joined j) x y)
from-beside E k j f g x y p q =
    record {
      origins = p.origins ++ q.origins;
      count = length-append p.origins q.origins ∙ ap₂ ◌+◌ p.count q.count ∙ sym (length-append x.slots y.slots);
      here = here;
      slots = λ F a. keeps-both F E x.slots y.slots p.origins q.origins (p.slots F (left F a)) (q.slots F (right F a));
    }
  where
    left : (F : Env) → Agrees F E k (p.origins ++ q.origins) → Agrees F E k p.origins
    left F a = agrees-left F E k p.origins q.origins a

    right : (F : Env) → Agrees F E k (p.origins ++ q.origins) → Agrees F E (k + length x.slots) q.origins
    right F a = agrees-right F E k (k + length x.slots) p.origins q.origins (let c = p.count in omega arith) a

    here : (F : Env) → Agrees F E k (p.origins ++ q.origins) → (u : List Event) → value F u (two (Joined j) x.here y.here) ≡ value E u (two (Joined j) f g)
    here F a [] = refl
    here F a (e ∷ u) = ap₂ (together j) (p.here F (left F a) (e ∷ u)) (q.here F (right F a) (e ∷ u))

-- a place holder that lays its held slot m again: the slot's origin is its formula, unfolded
pub from-hold : (E : Env) (k m b : ℕ) (f : Formula) (x : Laid) → ((u : List Event) → E u m ≡ value E u f) → From E (k + 1) (unfolded f) x → From E k (leaf (Hold m)) (cut b k x)
from-hold E k m b f x h p =
    record {
      origins = unfolded f ∷ p.origins;
      count = ap suc p.count;
      here = here;
      slots = λ F a. (p.here F a.1, p.slots F a.1);
    }
  where
    here : (F : Env) → Agrees F E k (unfolded f ∷ p.origins) → (u : List Event) → value F u (leaf (Hold k)) ≡ value E u (leaf (Hold m))
    here F a [] = refl
    here F a (e ∷ u) = a.0 (e ∷ u) ∙ value-unfolded E (e ∷ u) f ∙ sym (h (e ∷ u))

-- ---- the environment of a whole network
abbrev pub env_of : Env → List Formula → Env
env_of E os u n = value E u (get_or os n (constant false))

-- from n on, where n origins come before
agrees_from : (E : Env) (all os : List Formula) (n : ℕ) → ((i : ℕ) → get_or all (n + i) (constant false) ≡ get_or os i (constant false)) → Agrees (env_of E all) E n os
agrees_from E all [] n h = tt
agrees_from E all (o ∷ os) n h =
    let z : n + 0 ≡ n = omega arith in (
      λ u. ap (value E u) (ap (λ (i : ℕ). get_or all i (constant false)) (sym z) ∙ h 0),
      agrees_from E all os (n + 1) (λ i. (let q : n + 1 + i ≡ n + suc i = omega arith in ap (λ (j : ℕ). get_or all j (constant false)) q ∙ h (suc i))),
    )

pub agrees-of : (E : Env) (os : List Formula) → Agrees (env_of E os) E 0 os
agrees-of E os = agrees_from E os os 0 (λ i. (let q : 0 + i ≡ i = omega arith in ap (λ (j : ℕ). get_or os j (constant false)) q))

-- the slots from k on have the values that F gives their numbers
models-from : (F E : Env) (k : ℕ) (ss : List Slot) (os : List Formula) → Agrees F E k os → Keeps F E ss os → (i : ℕ) → i < length ss
    → (u : List Event) → F u (k + i) ≡ value F u (slot_at ss i).formula
models-from F E k [] [] a b i l u = absurd (omega arith)
models-from F E k (s ∷ ss) (o ∷ os) a b zero l u = let q : k + 0 ≡ k = omega arith in ap (F u) q ∙ a.0 u ∙ sym (b.0 u)
models-from F E k (s ∷ ss) (o ∷ os) a b (suc i) l u =
    let q : k + suc i ≡ k + 1 + i = omega arith in ap (F u) q ∙ models-from F E (k + 1) ss os a.1 b.1 i (omega arith) u
models-from F E k [] (o ∷ os) a b i l u = elim b [ ]
models-from F E k (s ∷ ss) [] a b i l u = elim b [ ]

-- each slot has the value that the environment gives its number
abbrev pub Models : Env → List Slot → Type 0
Models E slots = (m : ℕ) → m < length slots → (u : List Event) → E u m ≡ value E u (slot_at slots m).formula

-- a network laid from f: an environment that it models, in which slot 0 has the value of f
pub record Modelled (E : Env) (f : Formula) (slots : List Slot) : Type 0 where
  pub env : Env
  pub models : Models env slots
  pub root : (u : List Event) → env u 0 ≡ value E u f

pub modelled : (E : Env) (b : ℕ) (f : Formula) (x : Laid) → From E 1 f x → Modelled E f (rooted b x)
modelled E b f x p =
    let F = env_of E (f ∷ p.origins) in
    let a = agrees-of E (f ∷ p.origins) in
    record {
      env = F;
      models = λ m l u. (let q : 0 + m ≡ m = omega arith in ap (F u) (sym q) ∙ models-from F E 0 (rooted b x) (f ∷ p.origins) a (p.here F a.1, p.slots F a.1) m l u);
      root = a.0;
    }
