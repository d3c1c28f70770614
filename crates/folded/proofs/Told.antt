-- A rule that is folded before it is progressed: no verdict comes later for it (`folded-in-time`), and none is different
-- (`folded-agrees`). The verdict over some events goes operand by operand, in Kleene's logic of three values (`after-negated`,
-- `after-joined`); there the member rule is that saying a thing twice is saying it once. `NoLater` orders the verdicts: pending, then
-- what it may become. Every node keeps that order, and what folding makes of a node is no later than the node. Assumes nothing.
use mathlib.Core.Path.{◌≡◌, refl, sym, ap, ap₂, ◌∙◌}
use mathlib.Core.Bool.{Bool, true, false, not}
use mathlib.Core.List.{List, [], ◌∷◌, ◌++◌}
use Prim.Native.Nat.{ℕ}
use native.Mathlib.Omega.{arith}
use Rattle.kinds.specs.declared.Leaf.TheVariants.{Const, Prop, Hold}
use Rattle.kinds.specs.declared.Unary.{Unary}
use Rattle.kinds.specs.declared.Unary.TheVariants.{Not, Next, Ever}
use Rattle.kinds.specs.declared.Join.{Join}
use Rattle.kinds.specs.declared.Join.TheVariants.{And, Or}
use Rattle.kinds.specs.declared.Binary.{Binary}
use Rattle.kinds.specs.declared.Binary.TheVariants.{Joined, Until}
use Rattle.answers.specs.declared.Verdict.{Verdict}
use Rattle.answers.specs.declared.Verdict.TheVariants.{False, Pending}
use Rattle.ltl.specs.Formula.{Formula, leaf, one, two, constant, join}
use Rattle.ltl.specs.Meaning.{Event}
use Rattle.ltl.specs.Progression.{negated, deciding, member, joined, progressed, progressed_over, verdict_of}
use Rattle.ltl.proofs.Joining.{pending, joined-cases, Member, whole, on_left, on_right, member_is}
use Rattle.ltl.proofs.Verdicts.{known, opposite, together, opposite-known, together-left, together-right, together-skip, together-keep, together-same, together-again, together-swap}
use Rattle.folded.specs.Folding.{is_either, folded_one, folded_two, folded}
use Rattle.folded.proofs.Cases.{either_is, either-not, constant-injective, negated-cases, of_constant, folded-one-cases, folded-join-cases, folded-until-cases}
use Rattle.folded.proofs.Later.{NoLater, still, told, together-absorb, later_trans, later-between, opposite-later, later-right, together-later, later-known}

-- ---- the verdict over some events
abbrev after : List Event → Formula → Verdict
after us f = verdict_of (progressed_over us f)

-- a constant stays
over-constant : (us : List Event) (v : Bool) → progressed_over us (constant v) ≡ constant v
over-constant [] v = refl
over-constant (e ∷ us) v = over-constant us v

after-constant : (us : List Event) (v : Bool) → after us (constant v) ≡ known v
after-constant us v = ap verdict_of (over-constant us v)

after_is : (us : List Event) (f : Formula) (v : Bool) → f ≡ constant v → after us f ≡ known v
after_is us f v e = ap (after us) e ∙ after-constant us v

-- not
negated-by : (us : List Event) (f : Formula) → (is_either f ≡ false → after us (one Not f) ≡ opposite (after us f)) → after us (negated f) ≡ opposite (after us f)
negated-by us f h =
    negated-cases (λ x. after us x ≡ opposite (after us f)) f
    (λ q. after-constant us false ∙ sym (ap opposite (after_is us f true q) ∙ opposite-known true))
    (λ q. after-constant us true ∙ sym (ap opposite (after_is us f false q) ∙ opposite-known false))
    h

after-negated : (us : List Event) (f : Formula) → after us (negated f) ≡ opposite (after us f)
unfolding opposite
after-negated [] f = negated-by [] f (λ n. sym (ap opposite (pending f (either-not f n))))
after-negated (e ∷ us) f = negated-by (e ∷ us) f (λ n. after-negated us (progressed e f))

-- and, or: first where an operand is a constant
module _ (us : List Event) (j : Join) (l r : Formula) where
  settled-left : l ≡ constant (deciding j) → together j (after us l) (after us r) ≡ after us (constant (deciding j))
  settled-left q =
      ap (λ (v : Verdict). together j v (after us r)) (after_is us l (deciding j) q) ∙ together-left j (after us r) ∙ sym (after-constant us (deciding j))

  settled-right : r ≡ constant (deciding j) → together j (after us l) (after us r) ≡ after us (constant (deciding j))
  settled-right q = ap (together j (after us l)) (after_is us r (deciding j) q) ∙ together-right j (after us l) ∙ sym (after-constant us (deciding j))

  skipped-left : l ≡ constant (not (deciding j)) → together j (after us l) (after us r) ≡ after us r
  skipped-left q = ap (λ (v : Verdict). together j v (after us r)) (after_is us l (not (deciding j)) q) ∙ together-skip j (after us r)

  skipped-right : r ≡ constant (not (deciding j)) → together j (after us l) (after us r) ≡ after us l
  skipped-right q = ap (together j (after us l)) (after_is us r (not (deciding j)) q) ∙ together-keep j (after us l)

  joined_by : (member j l r ≡ true → verdict_of l ≡ Pending → verdict_of r ≡ Pending → together j (after us l) (after us r) ≡ after us r)
      → (verdict_of l ≡ Pending → verdict_of r ≡ Pending → together j (after us l) (after us r) ≡ after us (join j l r))
      → together j (after us l) (after us r) ≡ after us (joined j l r)
  joined_by m h = joined-cases (λ x. together j (after us l) (after us r) ≡ after us x) j l r settled-left settled-right skipped-left skipped-right m h

-- a member says nothing new, where the verdict of a join is that of its operands
after-member : (us : List Event) (j : Join) → ((f g : Formula) → together j (after us f) (after us g) ≡ after us (join j f g))
    → {l r : Formula} → Member j l r → together j (after us l) (after us r) ≡ after us r
after-member us j h {r = r} (whole q) = ap (λ (x : Formula). together j (after us x) (after us r)) q ∙ together-same j (after us r)
after-member us j h (on_left {f = f} {g = g} q) =
    ap₂ (together j) (ap (after us) q) (sym (h f g)) ∙ together-again j (after us f) (after us g) ∙ h f g
after-member us j h {l = l} (on_right {f = f} {g = g} m) =
    ap (together j (after us l)) (sym (h f g)) ∙ together-swap j (after us l) (after us f) (after us g) ∙ ap (together j (after us f)) (after-member us j h m) ∙ h f g

after-joined : (us : List Event) (j : Join) (l r : Formula) → together j (after us l) (after us r) ≡ after us (joined j l r)
after-joined [] j l r =
    joined_by [] j l r (λ m p q. ap₂ (together j) p q ∙ together-same j Pending ∙ sym q) (λ p q. ap₂ (together j) p q ∙ together-same j Pending)
after-joined (e ∷ us) j l r =
    joined_by (e ∷ us) j l r
    (λ m p q. after-member (e ∷ us) j (λ f g. after-joined us j (progressed e f) (progressed e g)) (member_is j l r m))
    (λ p q. after-joined us j (progressed e l) (progressed e r))

-- until: its right operand now, or its left one now and itself from the next event on
after-until : (e : Event) (us : List Event) (f g : Formula)
    → after (e ∷ us) (two Until f g) ≡ together Or (after (e ∷ us) g) (together And (after (e ∷ us) f) (after us (two Until f g)))
after-until e us f g =
    let u = two Until f g in
    sym (ap (together Or (after (e ∷ us) g)) (after-joined us And (progressed e f) u) ∙ after-joined us Or (progressed e g) (joined And (progressed e f) u))

-- ---- every node keeps the order
one_later : (o : Unary) (f g : Formula) → ((us : List Event) → NoLater (after us f) (after us g)) → (us : List Event) → NoLater (after us (one o f)) (after us (one o g))
one_later o f g h [] = still
one_later Not f g h (e ∷ us) = later-between (after-negated us (progressed e f)) (opposite-later (h (e ∷ us))) (sym (after-negated us (progressed e g)))
one_later Next f g h (e ∷ us) = h us
one_later (Ever j) f g h (e ∷ us) =
    later-between (sym (after-joined us j (progressed e f) (one (Ever j) f)))
    (together-later j (h (e ∷ us)) (one_later (Ever j) f g h us))
    (after-joined us j (progressed e g) (one (Ever j) g))

two-later : (o : Binary) (f g f' g' : Formula) → ((us : List Event) → NoLater (after us f) (after us f')) → ((us : List Event) → NoLater (after us g) (after us g'))
    → (us : List Event) → NoLater (after us (two o f g)) (after us (two o f' g'))
two-later o f g f' g' h k [] = still
two-later (Joined j) f g f' g' h k (e ∷ us) =
    later-between (sym (after-joined us j (progressed e f) (progressed e g))) (together-later j (h (e ∷ us)) (k (e ∷ us))) (after-joined us j (progressed e f') (progressed e g'))
two-later Until f g f' g' h k (e ∷ us) =
    later-between (after-until e us f g)
    (together-later Or (k (e ∷ us)) (together-later And (h (e ∷ us)) (two-later Until f g f' g' h k us)))
    (sym (after-until e us f' g'))

-- ---- what folding makes of a node is no later than the node
one-constant : (o : Unary) (v : Bool) (us : List Event) → NoLater (after us (one o (constant v))) (known (of_constant o v))
one-constant o v [] = still
one-constant Not v (e ∷ us) = told (after-negated us (constant v) ∙ ap opposite (after-constant us v) ∙ opposite-known v)
one-constant Next v (e ∷ us) = told (after-constant us v)
one-constant (Ever j) v (e ∷ us) =
    later-between (sym (after-joined us j (constant v) (one (Ever j) (constant v))))
    (together-later j (told (after-constant us v)) (one-constant (Ever j) v us))
    (together-same j (known v))

folded-one-later : (us : List Event) (o : Unary) (f : Formula) → NoLater (after us (one o f)) (after us (folded_one o f))
folded-one-later us o f =
    folded-one-cases (λ x. NoLater (after us (one o f)) (after us x)) o f
    (λ v q. later-between (ap (λ (x : Formula). after us (one o x)) q) (one-constant o v us) (sym (after-constant us (of_constant o v))))
    (λ n. told refl)

folded-join-later : (us : List Event) (j : Join) (l r : Formula) → NoLater (after us (join j l r)) (after us (folded_two (Joined j) l r))
folded-join-later [] j l r = still
folded-join-later (e ∷ us) j l r =
    let s = sym (after-joined us j (progressed e l) (progressed e r)) in
    folded-join-cases (λ x. NoLater (after (e ∷ us) (join j l r)) (after (e ∷ us) x)) j l r
    (λ q. told (s ∙ settled-left (e ∷ us) j l r q))
    (λ q. told (s ∙ settled-right (e ∷ us) j l r q))
    (λ q. told (s ∙ skipped-left (e ∷ us) j l r q))
    (λ q. told (s ∙ skipped-right (e ∷ us) j l r q))
    (λ n m. told refl)

until-constant : (f : Formula) (v : Bool) (us : List Event) → NoLater (after us (two Until f (constant v))) (known v)
until-constant f v [] = still
until-constant f v (e ∷ us) =
    later-between (after-until e us f (constant v))
    (together-later Or (told (after-constant us v)) (later-right And (after (e ∷ us) f) (until-constant f v us)))
    (together-absorb (after (e ∷ us) f) (known v))

until-false : (g : Formula) (us : List Event) → NoLater (after us (two Until (constant false) g)) (after us g)
until-false g [] = still
until-false g (e ∷ us) =
    let x = after us (two Until (constant false) g) in
    let s : together And (after us (constant false)) x ≡ False = ap (λ (v : Verdict). together And v x) (after-constant us false) ∙ together-left And x in
    told (after-until e us (constant false) g ∙ ap (together Or (after (e ∷ us) g)) s ∙ together-keep Or (after (e ∷ us) g))

folded-until-later : (us : List Event) (f g : Formula) → NoLater (after us (two Until f g)) (after us (folded_two Until f g))
folded-until-later us f g =
    folded-until-cases (λ x. NoLater (after us (two Until f g)) (after us x)) f g
    (λ q. (let c = either_is g q in later-between (ap (λ (x : Formula). after us (two Until f x)) c.1) (until-constant f c.0 us) (sym (after_is us g c.0 c.1))))
    (λ q. later_trans (told (ap (λ (x : Formula). after us (two Until x g)) q)) (until-false g us))
    (λ n m. told refl)

folded-later : (f : Formula) (us : List Event) → NoLater (after us f) (after us (folded f))
folded-later (leaf a) us = told refl
folded-later (one o f) us = later_trans (one_later o f (folded f) (λ vs. folded-later f vs) us) (folded-one-later us o (folded f))
folded-later (two (Joined j) f g) us =
    later_trans (two-later (Joined j) f g (folded f) (folded g) (λ vs. folded-later f vs) (λ vs. folded-later g vs) us) (folded-join-later us j (folded f) (folded g))
folded-later (two Until f g) us =
    later_trans (two-later Until f g (folded f) (folded g) (λ vs. folded-later f vs) (λ vs. folded-later g vs) us) (folded-until-later us (folded f) (folded g))

-- ---- never later
pending-unknown : (v : Bool) → Pending ≡ known v → ⊥
pending-unknown true e = let z : ◌≡◌ {A = ℕ} 0 1 = cc in omega arith
pending-unknown false e = let z : ◌≡◌ {A = ℕ} 0 1 = cc in omega arith

-- a known verdict is that of one constant
known_is : (v : Bool) (f : Formula) → verdict_of f ≡ known v → f ≡ constant v
known_is true (leaf (Const true)) e = refl
known_is true (leaf (Const false)) e = absurd (let z : ◌≡◌ {A = ℕ} 0 1 = cc in omega arith)
known_is false (leaf (Const true)) e = absurd (let z : ◌≡◌ {A = ℕ} 0 1 = cc in omega arith)
known_is false (leaf (Const false)) e = refl
known_is v (leaf (Prop i)) e = absurd (pending-unknown v e)
known_is v (leaf (Hold k)) e = absurd (pending-unknown v e)
known_is v (one o f) e = absurd (pending-unknown v e)
known_is v (two o f g) e = absurd (pending-unknown v e)

pub folded-in-time : (us : List Event) (f : Formula) (v : Bool) → progressed_over us f ≡ constant v → progressed_over us (folded f) ≡ constant v
folded-in-time us f v e = known_is v (progressed_over us (folded f)) (later-known v (later_trans (told (sym (ap verdict_of e))) (folded-later f us)))

-- ---- never different
over-append : (us vs : List Event) (f : Formula) → progressed_over (us ++ vs) f ≡ progressed_over vs (progressed_over us f)
over-append [] vs f = refl
over-append (e ∷ us) vs f = over-append us vs (progressed e f)

pub folded-agrees : (us vs : List Event) (f : Formula) (v x : Bool) → progressed_over us (folded f) ≡ constant v → progressed_over (us ++ vs) f ≡ constant x → v ≡ x
folded-agrees us vs f v x e d =
    constant-injective v x
    (sym (over-append us vs (folded f) ∙ ap (progressed_over vs) e ∙ over-constant vs v) ∙ folded-in-time (us ++ vs) f x d)
