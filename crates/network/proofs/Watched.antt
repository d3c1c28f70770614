-- The split network gives the verdict of one place: after each close the root's verdict is that of the whole rule progressed over
-- the same events, whatever the order of the steps within each tick (`watch-verdict`). Before the close the network says nothing.
-- With the soundness of progression: where it says true, every endless continuation of the events meets the rule, and where it
-- says false, none does (`watch-true`, `watch-false`). Assumes nothing.
use mathlib.Core.Path.{◌≡◌, refl, sym, ap, ◌∙◌, subst}
use mathlib.Core.Bool.{true, false}
use mathlib.Core.List.{List, [], ◌∷◌, ◌++◌, append_assoc, append-nil}
use mathlib.Core.Option.{Option, some}
use Prim.Native.Nat.{ℕ, ◌<◌}
use native.Mathlib.Omega.{arith}
use lib.ListN.{length}
use Rattle.lists.specs.Tests.{bit}
use Rattle.kinds.specs.declared.Leaf.TheVariants.{Const, Prop, Hold}
use Rattle.answers.specs.declared.Verdict.TheVariants.{False, True}
use Rattle.ltl.specs.Formula.{Formula, leaf, one, two, constant}
use Rattle.ltl.specs.Meaning.{Event, Trace, Satisfies, continued}
use Rattle.ltl.specs.Progression.{progressed_over, verdict_of}
use Rattle.ltl.proofs.Soundness.{true-is-kept, false-is-kept}
use Rattle.network.specs.Layout.{Slot, slot_at, load, close}
use Rattle.network.specs.Tick.{Ticks, Watch, begun, ticked}
use Rattle.network.proofs.Owned.{Free}
use Rattle.network.proofs.Values.{Env, value, value-unfolded, value-over, never}
use Rattle.network.proofs.Laying.{Choice}
use Rattle.network.proofs.Origins.{Models}
use Rattle.network.proofs.Relaying.{AllOk, load_ok, load-modelled, close-ok, close-modelled}
use Rattle.network.proofs.Settling.{partly-start, partly-steps}
use Rattle.network.proofs.Ticking.{shifted, tick-stepped, tick-models}

-- a formula by its verdict
true-is : (f : Formula) → verdict_of f ≡ True → f ≡ constant true
true-is (leaf (Const true)) e = refl
true-is (leaf (Const false)) e = absurd (let z : ◌≡◌ {A = ℕ} 0 1 = cc in omega arith)
true-is (leaf (Prop i)) e = absurd (let z : ◌≡◌ {A = ℕ} 0 1 = cc in omega arith)
true-is (leaf (Hold k)) e = absurd (let z : ◌≡◌ {A = ℕ} 0 1 = cc in omega arith)
true-is (one o f) e = absurd (let z : ◌≡◌ {A = ℕ} 0 1 = cc in omega arith)
true-is (two o f g) e = absurd (let z : ◌≡◌ {A = ℕ} 0 1 = cc in omega arith)

false-is : (f : Formula) → verdict_of f ≡ False → f ≡ constant false
false-is (leaf (Const true)) e = absurd (let z : ◌≡◌ {A = ℕ} 0 1 = cc in omega arith)
false-is (leaf (Const false)) e = refl
false-is (leaf (Prop i)) e = absurd (let z : ◌≡◌ {A = ℕ} 0 1 = cc in omega arith)
false-is (leaf (Hold k)) e = absurd (let z : ◌≡◌ {A = ℕ} 0 1 = cc in omega arith)
false-is (one o f) e = absurd (let z : ◌≡◌ {A = ℕ} 0 1 = cc in omega arith)
false-is (two o f g) e = absurd (let z : ◌≡◌ {A = ℕ} 0 1 = cc in omega arith)

load-some : (choose : Formula → Option ℕ) (rule : Formula) → 0 < length (load choose rule)
unfolding load
load-some choose rule = omega arith

close-some : (choose : Formula → Option ℕ) (slots : List Slot) → 0 < length (close choose slots)
unfolding close
close-some choose slots = omega arith

module _ (choose : Formula → Option ℕ) (choice : Choice choose) (sampled : Event → ℕ → Event)
    (own : (e : Event) (b i : ℕ) → choose (leaf (Prop i)) ≡ some b → bit (sampled e b) i ≡ bit e i) (rule : Formula) (free : Free choose rule) where
  -- what holds of a network after some events
  pub record Sound (us : List Event) (slots : List Slot) : Type 0 where
    pub some-slots : 0 < length slots
    pub ok : AllOk choose choice (length slots) 0 slots
    pub env : Env
    pub models : Models env slots
    pub root : (u : List Event) → env u 0 ≡ value never (us ++ u) rule

  sound-tick : (us : List Event) (before after : List Slot) → Sound us before → (e : Event) → Ticks choose (sampled e) before after → Sound (us ++ (e ∷ [])) after
  sound-tick us before after s e t =
      let E = s.env in
      let partly = partly-steps choose choice (sampled e) before s.ok t.steps (partly-start choose choice (sampled e) before s.ok) in
      let stepped = tick-stepped choose choice sampled own E e before s.ok s.models t.last t.marks partly t.all in
      let models = tick-models choose choice sampled own E e before s.ok s.models t.last t.marks partly t.all in
      let n = partly.many in
      let p = s.some-slots in
      let some-last : 0 < length t.last = omega arith in
      let m = close-modelled choose choice t.last some-last stepped (shifted e E) models in
      subst (λ (x : List Slot). Sound (us ++ (e ∷ [])) x) (sym t.closes)
      (record {
        some-slots = close-some choose t.last;
        ok = close-ok choose choice t.last some-last stepped;
        env = m.env;
        models = m.models;
        root = λ u.
            m.root u ∙ value-unfolded (shifted e E) u (slot_at t.last 0).formula ∙ sym (models 0 some-last u) ∙ s.root (e ∷ u)
            ∙ ap (λ (x : List Event). value never x rule) (sym (append_assoc us (e ∷ []) u));
      })

  pub watch-sound : {us : List Event} {slots : List Slot} → Watch choose sampled rule us slots → Sound us slots
  watch-sound begun =
      let m = load-modelled choose choice rule free in
      record {
        some-slots = load-some choose rule;
        ok = load_ok choose choice rule free;
        env = m.env;
        models = m.models;
        root = λ u. m.root u ∙ value-unfolded never u rule;
      }
  watch-sound (ticked {us = us} {before = before} {after = after} w e t) = sound-tick us before after (watch-sound w) e t

  -- after each close the verdict is that of one place
  pub watch-verdict : {us : List Event} {slots : List Slot} → Watch choose sampled rule us slots → verdict_of (slot_at slots 0).formula ≡ verdict_of (progressed_over us rule)
  watch-verdict {us} {slots} w =
      let s = watch-sound w in
      sym (s.models 0 s.some-slots []) ∙ s.root [] ∙ ap (λ (x : List Event). value never x rule) (append-nil us) ∙ sym (value-over us rule)

  -- true: every endless continuation of the events meets the rule
  pub watch-true : {us : List Event} {slots : List Slot} → Watch choose sampled rule us slots → verdict_of (slot_at slots 0).formula ≡ True → (w : Trace) → Satisfies (continued us w) rule
  watch-true {us} w e = true-is-kept us rule (true-is (progressed_over us rule) (sym (watch-verdict w) ∙ e))

  -- false: none does
  pub watch-false : {us : List Event} {slots : List Slot} → Watch choose sampled rule us slots → verdict_of (slot_at slots 0).formula ≡ False → (w : Trace) → Satisfies (continued us w) rule → ⊥
  watch-false {us} w e = false-is-kept us rule (false-is (progressed_over us rule) (sym (watch-verdict w) ∙ e))
