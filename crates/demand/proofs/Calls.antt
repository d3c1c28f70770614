-- Whatever calls do that meet their promises, they do to the state what the definitions say that the promises cite (`called`). And the
-- other way for accepted samples and steps (`made`). Assumes nothing.
use Rattle.std.specs.Prelude.{Ok, Err}
use mathlib.Core.Path.{refl, sym, ◌∙◌, subst}
use mathlib.Core.List.{List}
use Prim.Native.Nat.{ℕ}
use Rattle.watching.specs.Watch.{Calls, none, sample, step}
use Rattle.watching.specs.Claims.{Accepted}
use Rattle.demand.specs.Called.{Called, nothing, sampled, stepped, asked, closed, load-refused, close-refused, write-refused, parse-refused, print-refused, central-refused, read-refused, capture-refused, capture-second-refused, report-refused, add-refused, mend-refused, mend-marks-refused}
use Rattle.demand.specs.Claims.{AllAccepted}
use Rattle.parsing.proofs.Outcomes.{parse-keeps}
use Rattle.reporting.proofs.Outcomes.{report-keeps}
use Rattle.keeping.proofs.Refused.{refused-leaves}

pub called : {s t : List ℕ} → Called s t → Calls s t
called nothing = none
called {s} (sampled c board bits answer p) = subst (λ (t : List ℕ). Calls s t) (sym p.leaves) (sample (called c) board bits)
called {s} (stepped c slot answer p) = subst (λ (t : List ℕ). Calls s t) (sym p.leaves) (step (called c) slot)
called (asked c answer p) = called c
called (closed c second second' answer p) = called c
called {s} (load-refused {t = t} c file why p) = subst (λ (u : List ℕ). Calls s u) (sym (p.leaves ∙ refused-leaves why _ _ t p.says)) (called c)
called {s} (close-refused {t = t} c other why p) = subst (λ (u : List ℕ). Calls s u) (sym (p.leaves ∙ refused-leaves why _ _ t p.says)) (called c)
called {s} (write-refused {t = t} c masks q formula why p) = subst (λ (u : List ℕ). Calls s u) (sym (p.leaves ∙ refused-leaves why _ _ t p.says)) (called c)
called {s} (parse-refused c text answer r p) = subst (λ (u : List ℕ). Calls s u) (sym (parse-keeps p r)) (called c)
called {s} (print-refused {t = t} c formula why p) = subst (λ (u : List ℕ). Calls s u) (sym (p.leaves ∙ refused-leaves why _ _ t p.says)) (called c)
called {s} (central-refused {t = t} c formula event why p) = subst (λ (u : List ℕ). Calls s u) (sym (p.leaves ∙ refused-leaves why _ _ t p.says)) (called c)
called {s} (read-refused {t = t} c file masks masks' why p) = subst (λ (u : List ℕ). Calls s u) (sym (p.leaves-formula ∙ refused-leaves why _ _ t p.says)) (called c)
called {s} (capture-refused {t = t} c second second' events why p) = subst (λ (u : List ℕ). Calls s u) (sym (p.leaves ∙ refused-leaves why _ _ t p.says)) (called c)
called {s} (capture-second-refused {t = t} c other other' events why p) = subst (λ (u : List ℕ). Calls s u) (sym (p.leaves-second ∙ refused-leaves why _ _ t p.says)) (called c)
called {s} (report-refused c runs answer r p) = subst (λ (u : List ℕ). Calls s u) (sym (report-keeps p r)) (called c)
called {s} (add-refused {t = t} c night why p) = subst (λ (u : List ℕ). Calls s u) (sym (p.leaves ∙ refused-leaves why _ _ t p.says)) (called c)
called {s} (mend-refused {t = t} c recording marks marks' why p) = subst (λ (u : List ℕ). Calls s u) (sym (p.leaves ∙ refused-leaves why _ _ t p.says)) (called c)
called {s} (mend-marks-refused {t = t} c recording mended mended' why p) = subst (λ (u : List ℕ). Calls s u) (sym (p.leaves-marks ∙ refused-leaves why _ _ t p.says)) (called c)

-- accepted calls over the definitions are allowed by the promises
pub made : {s t : List ℕ} (c : Calls s t) → Accepted c → (d : Called s t) × AllAccepted d
made none a = (nothing, tt)
made (sample c board bits) a = let d = made c a.0 in (sampled d.0 board bits (Ok tt) (record { says = sym a.1; leaves = refl }), (d.1, refl))
made (step c k) a = let d = made c a.0 in (stepped d.0 k (Ok tt) (record { says = sym a.1; leaves = refl }), (d.1, refl))
