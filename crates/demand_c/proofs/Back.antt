-- And the other way: samples and steps are calls from C, whatever was refused between them (`back-to-c`); so a tick is a tick from C and a
-- watch is a watch from C (`watched-to-c`). Assumes nothing.
use mathlib.Core.Path.{sym, ap, ◌∙◌, subst}
use mathlib.Core.List.{List}
use mathlib.Core.Logic.{inl, inr, ⊎_elim}
use Prim.Native.Nat.{ℕ}
use Rattle.answers.specs.Said.{Said, said_outcome}
use Rattle.ltl.specs.Meaning.{Event}
use Rattle.demand.specs.Called.{Called, nothing, sampled, stepped, asked, closed, load-refused, close-refused, write-refused, parse-refused, print-refused, central-refused, read-refused, capture-refused, capture-second-refused, report-refused, add-refused, mend-refused, mend-marks-refused, Gave, Ticked, Watched, begun, ticked}
use Rattle.parsing.proofs.Outcomes.{parse-keeps}
use Rattle.reporting.proofs.Outcomes.{report-keeps}
use Rattle.keeping.proofs.Refused.{refused-leaves}
use Rattle.demand_c.specs.FromC as from
use Rattle.demand_c.specs.FromC.{CalledFromC, GaveFromC, TickedFromC, WatchedFromC}
use Rattle.demand_c.proofs.Watches.{zero-done}

-- calls from C, in which nothing was given but this
record BackToC (s t : List ℕ) (Given : ℕ → ℕ → Type 0) : Type 0 where
  calls : CalledFromC s t
  given : (b v : ℕ) → GaveFromC calls b v → Given b v

back-to-c : {s t : List ℕ} (c : Called s t) → BackToC s t (Gave c)
back-to-c nothing = record { calls = from.nothing; given = λ b v g. g }
back-to-c (sampled c board bits answer p) =
    let r = back-to-c c in
    record {
      calls = from.sampled r.calls board bits (said_outcome answer).number (record { says = ap (λ (a : Said). a.number) p.says; leaves = p.leaves });
      given = λ b v. ⊎_elim (λ g. inl (r.given b v g)) (λ h. inr (zero-done answer (sym h.0), h.1, h.2));
    }
back-to-c (stepped c slot answer p) =
    let r = back-to-c c in
    record { calls = from.stepped r.calls slot (said_outcome answer).number (record { says = ap (λ (a : Said). a.number) p.says; leaves = p.leaves }); given = r.given }
back-to-c (asked c answer p) = back-to-c c
back-to-c (closed c second second' answer p) = back-to-c c
back-to-c {s} (load-refused {t = t} c file why p) = subst (λ (u : List ℕ). BackToC s u (Gave c)) (sym (p.leaves ∙ refused-leaves why _ _ t p.says)) (back-to-c c)
back-to-c {s} (close-refused {t = t} c other why p) = subst (λ (u : List ℕ). BackToC s u (Gave c)) (sym (p.leaves ∙ refused-leaves why _ _ t p.says)) (back-to-c c)
back-to-c {s} (write-refused {t = t} c masks q formula why p) = subst (λ (u : List ℕ). BackToC s u (Gave c)) (sym (p.leaves ∙ refused-leaves why _ _ t p.says)) (back-to-c c)
back-to-c {s} (parse-refused c text answer r p) = subst (λ (u : List ℕ). BackToC s u (Gave c)) (sym (parse-keeps p r)) (back-to-c c)
back-to-c {s} (print-refused {t = t} c formula why p) = subst (λ (u : List ℕ). BackToC s u (Gave c)) (sym (p.leaves ∙ refused-leaves why _ _ t p.says)) (back-to-c c)
back-to-c {s} (central-refused {t = t} c formula event why p) = subst (λ (u : List ℕ). BackToC s u (Gave c)) (sym (p.leaves ∙ refused-leaves why _ _ t p.says)) (back-to-c c)
back-to-c {s} (read-refused {t = t} c file masks masks' why p) = subst (λ (u : List ℕ). BackToC s u (Gave c)) (sym (p.leaves-formula ∙ refused-leaves why _ _ t p.says)) (back-to-c c)
back-to-c {s} (capture-refused {t = t} c second second' events why p) = subst (λ (u : List ℕ). BackToC s u (Gave c)) (sym (p.leaves ∙ refused-leaves why _ _ t p.says)) (back-to-c c)
back-to-c {s} (capture-second-refused {t = t} c other other' events why p) = subst (λ (u : List ℕ). BackToC s u (Gave c)) (sym (p.leaves-second ∙ refused-leaves why _ _ t p.says)) (back-to-c c)
back-to-c {s} (report-refused c runs answer r p) = subst (λ (u : List ℕ). BackToC s u (Gave c)) (sym (report-keeps p r)) (back-to-c c)
back-to-c {s} (add-refused {t = t} c night why p) = subst (λ (u : List ℕ). BackToC s u (Gave c)) (sym (p.leaves ∙ refused-leaves why _ _ t p.says)) (back-to-c c)
back-to-c {s} (mend-refused {t = t} c recording marks marks' why p) = subst (λ (u : List ℕ). BackToC s u (Gave c)) (sym (p.leaves ∙ refused-leaves why _ _ t p.says)) (back-to-c c)
back-to-c {s} (mend-marks-refused {t = t} c recording mended mended' why p) = subst (λ (u : List ℕ). BackToC s u (Gave c)) (sym (p.leaves-marks ∙ refused-leaves why _ _ t p.says)) (back-to-c c)

ticked-to-c : {masks s : List ℕ} {e : Event} {s' : List ℕ} → Ticked masks s e s' → TickedFromC masks s e s'
ticked-to-c x =
    let r = back-to-c x.calls in
    record {
      last = x.last;
      calls = r.calls;
      given = λ b v g. x.given b v (r.given b v g);
      second = x.second;
      closes = record { says = ap (λ (a : Said). a.number) x.closes.says; leaves = x.closes.leaves };
    }

pub watched-to-c : {file : List ℕ} {us : List Event} {s : List ℕ} → Watched file us s → WatchedFromC file us s
watched-to-c (begun {before = before} l) = from.begun {before = before} (record { says = ap (λ (a : Said). a.number) l.says; leaves = l.leaves })
watched-to-c (ticked w e x) = from.ticked (watched-to-c w) e (ticked-to-c x)
