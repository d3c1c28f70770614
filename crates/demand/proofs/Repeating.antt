-- A watch can be repeated: the same rule file and the same events lead to the same bytes, whatever was called in each tick, in whatever order
-- (`watches-same`). So the tick at which a rule falls depends on nothing else. Assumes nothing.
use mathlib.Core.Path.{◌≡◌, refl, sym, ap, ◌∙◌, subst}
use mathlib.Core.List.{List, [], ◌∷◌, ◌++◌}
use Prim.Native.Nat.{ℕ}
use native.Mathlib.Omega.{arith}
use lib.ListN.{length, get_or, drop, length-append}
use Rattle.ltl.specs.Meaning.{Event}
use Rattle.rules.specs.RuleFile.{masks_in_file}
use Rattle.state.specs.declared.Form.{Form}
use Rattle.state.specs.Form.{form_in}
use Rattle.state.specs.Calls.{loaded_state}
use Rattle.state.proofs.Forms.{form-one}
use Rattle.loading.specs.Load.{start_in}
use Rattle.demand.specs.Called.{Ticked, Watched, begun, ticked}
use Rattle.demand.proofs.Loaded.{load-accepted}
use Rattle.demand.proofs.Agreeing.{event-same}

-- no event, and one more
none_more : (us : List Event) (e : Event) → [] ≡ us ++ (e ∷ []) → ⊥
none_more us e h = let n = ap length h in omega (arith, length-append us (e ∷ []))

-- as many events and one more, on both sides
last-same : (us vs : List Event) (d e : Event) → us ++ (d ∷ []) ≡ vs ++ (e ∷ []) → (us ≡ vs) × (d ≡ e)
last-same [] [] d e h = (refl, ap (λ (l : List Event). get_or l 0 0) h)
last-same [] (v ∷ vs) d e h = absurd (none_more vs e (ap (λ (l : List Event). drop 1 l) h))
last-same (u ∷ us) [] d e h = absurd (none_more us d (ap (λ (l : List Event). drop 1 l) (sym h)))
last-same (u ∷ us) (v ∷ vs) d e h =
    let r = last-same us vs d e (ap (λ (l : List Event). drop 1 l) h) in
    let q : u ≡ v = ap (λ (l : List Event). get_or l 0 0) h in
    ((λ i. q i ∷ r.0 i), r.1)

pub watches-same : {file : List ℕ} {us vs : List Event} {s r : List ℕ} → Watched file us s → Watched file vs r → us ≡ vs → s ≡ r
watches-same {file} (begun {before = b} {s = s} l) (begun {before = c} {s = r} m) h =
    (load-accepted file b s l).state-is ∙ ap (λ (φ : Form). loaded_state φ (masks_in_file file) (start_in file)) (form-one (form_in b) (form_in c)) ∙ sym (load-accepted file c r m).state-is
watches-same (begun l) (ticked {us = vs} v e y) h = absurd (none_more vs e h)
watches-same (ticked {us = us} w d x) (begun m) h = absurd (none_more us d (sym h))
watches-same {file} (ticked {us = us} {s = s} {s' = a} w d x) (ticked {us = vs} {s = r} {s' = b} v e y) h =
    let q = last-same us vs d e h in
    let z = subst (λ (t : List ℕ). Ticked (masks_in_file file) t e b) (sym (watches-same w v q.0)) y in
    event-same file us s w d a b x (subst (λ (f : Event). Ticked (masks_in_file file) s f b) (sym q.1) z)
