-- Calls from C are calls (`from-c`), with nothing given that was not given from C (`gave-from-c`); so a tick from C is a tick (`ticked-from-c`) and a
-- watch from C is a watch (`watched-from-c`). Assumes nothing.
use Rattle.std.specs.Prelude.{Result, Ok, Err, ⊤}
use Rattle.answers.specs.declared.Refusal.{Refusal}
use mathlib.Core.Path.{◌≡◌, refl, ap, ◌∙◌, subst}
use mathlib.Core.List.{List}
use mathlib.Core.Logic.{inl, inr, ⊎_elim}
use Prim.Native.Nat.{ℕ}
use native.Mathlib.Omega.{arith}
use Rattle.answers.specs.Said.{said_outcome}
use Rattle.answers.proofs.Answers.{number-some}
use Rattle.ltl.specs.Meaning.{Event}
use Rattle.loading.specs.Load.{LoadsRule}
use Rattle.closing.specs.Close.{Closes}
use Rattle.demand.specs.Called as call
use Rattle.demand.specs.Called.{Called, Gave, Ticked, Watched}
use Rattle.demand_c.specs.FromC.{CalledFromC, nothing, sampled, stepped, asked, closed, load-refused, close-refused, write-refused, parse-refused, print-refused, central-refused, read-refused, capture-refused, capture-second-refused, report-refused, add-refused, mend-refused, mend-marks-refused, GaveFromC, TickedFromC, WatchedFromC, begun, ticked}
use Rattle.demand_c.proofs.Same.{sample-same, step_same, close-same, load_same, load-refusal, close-refusal, write-refusal, parse-refusal, print-refusal, central-refusal, read-refusal, capture-refusal, report-refusal, add-refusal, mend-refusal}

-- asking changes nothing, so it may be left out
abbrev pub from-c : {s t : List ℕ} → CalledFromC s t → Called s t
from-c nothing = call.nothing
from-c (sampled c board bits n p) = let r = sample-same p in call.sampled (from-c c) board bits r.0 r.1
from-c (stepped c slot n p) = let r = step_same p in call.stepped (from-c c) slot r.0 r.1
from-c (asked c verdict ticks slots nodes verdict' ticks' slots' nodes' n p) = from-c c
from-c (closed c second second' n p) = let r = close-same p in call.closed (from-c c) second second' r.0 r.1
from-c (load-refused c file n refuses p) = let r = load-refusal p refuses in call.load-refused (from-c c) file r.0 r.1
from-c (close-refused c other n refuses p) = let r = close-refusal p refuses in call.close-refused (from-c c) other r.0 r.1
from-c (write-refused c masks q formula written written' n refuses p) = let r = write-refusal p refuses in call.write-refused (from-c c) masks q formula r.0 r.1
from-c (parse-refused c text nodes line byte nodes' line' byte' n refuses p) = let r = parse-refusal p refuses in call.parse-refused (from-c c) text r.0 r.1 r.2
from-c (print-refused c formula count count' n refuses p) = let r = print-refusal p refuses in call.print-refused (from-c c) formula r.0 r.1
from-c (central-refused c formula event verdict nodes verdict' nodes' n refuses p) = let r = central-refusal p refuses in call.central-refused (from-c c) formula event r.0 r.1
from-c (read-refused c file masks masks' boards propositions nodes boards' propositions' nodes' n refuses p) =
    let r = read-refusal p refuses in
    call.read-refused (from-c c) file masks masks' r.0 r.1
from-c (capture-refused c second second' events count verdict stop count' verdict' stop' n refuses p) =
    let r = capture-refusal p refuses in
    call.capture-refused (from-c c) second second' events r.0 r.1
from-c (capture-second-refused c other other' events count verdict stop count' verdict' stop' n refuses p) =
    let r = capture-refusal p refuses in
    call.capture-second-refused (from-c c) other other' events r.0 r.1
from-c (report-refused c runs place place' n refuses p) = let r = report-refusal p refuses in call.report-refused (from-c c) runs r.0 r.1 r.2
from-c (add-refused c night n refuses p) = let r = add-refusal p refuses in call.add-refused (from-c c) night r.0 r.1
from-c (mend-refused c recording marks marks' kept first kept' first' n refuses p) =
    let r = mend-refusal p refuses in
    call.mend-refused (from-c c) recording marks marks' r.0 r.1
from-c (mend-marks-refused c recording mended mended' kept first kept' first' n refuses p) =
    let r = mend-refusal p refuses in
    call.mend-marks-refused (from-c c) recording mended mended' r.0 r.1

pub gave-from-c : {s t : List ℕ} (c : CalledFromC s t) (b v : ℕ) → Gave (from-c c) b v → GaveFromC c b v
gave-from-c nothing b v g = g
gave-from-c (sampled c board bits n p) b v g =
    ⊎_elim (λ h. inl (gave-from-c c b v h)) (λ h. inr ((sample-same p).2 ∙ ap (λ (a : Result ⊤ Refusal). (said_outcome a).number) h.0, h.1, h.2)) g
gave-from-c (stepped c slot n p) b v g = gave-from-c c b v g
gave-from-c (asked c verdict ticks slots nodes verdict' ticks' slots' nodes' n p) b v g = gave-from-c c b v g
gave-from-c (closed c second second' n p) b v g = gave-from-c c b v g
gave-from-c (load-refused c file n refuses p) b v g = gave-from-c c b v g
gave-from-c (close-refused c other n refuses p) b v g = gave-from-c c b v g
gave-from-c (write-refused c masks q formula written written' n refuses p) b v g = gave-from-c c b v g
gave-from-c (parse-refused c text nodes line byte nodes' line' byte' n refuses p) b v g = gave-from-c c b v g
gave-from-c (print-refused c formula count count' n refuses p) b v g = gave-from-c c b v g
gave-from-c (central-refused c formula event verdict nodes verdict' nodes' n refuses p) b v g = gave-from-c c b v g
gave-from-c (read-refused c file masks masks' boards propositions nodes boards' propositions' nodes' n refuses p) b v g = gave-from-c c b v g
gave-from-c (capture-refused c second second' events count verdict stop count' verdict' stop' n refuses p) b v g = gave-from-c c b v g
gave-from-c (capture-second-refused c other other' events count verdict stop count' verdict' stop' n refuses p) b v g = gave-from-c c b v g
gave-from-c (report-refused c runs place place' n refuses p) b v g = gave-from-c c b v g
gave-from-c (add-refused c night n refuses p) b v g = gave-from-c c b v g
gave-from-c (mend-refused c recording marks marks' kept first kept' first' n refuses p) b v g = gave-from-c c b v g
gave-from-c (mend-marks-refused c recording mended mended' kept first kept' first' n refuses p) b v g = gave-from-c c b v g

-- a call that answers 0 is done
pub zero-done : (answer : Result ⊤ Refusal) → 0 ≡ (said_outcome answer).number → answer ≡ Ok tt
zero-done (Err why) e = absurd (omega (arith, number-some why))
zero-done (Ok _) e = refl

abbrev pub ticked-from-c : {masks s : List ℕ} {e : Event} {s' : List ℕ} → TickedFromC masks s e s' → Ticked masks s e s'
ticked-from-c {masks} {s} {e} {s'} x =
    let r = close-same x.closes in
    record {
      last = x.last;
      calls = from-c x.calls;
      given = λ b v g. x.given b v (gave-from-c x.calls b v g);
      second = x.second;
      closes = subst (λ (a : Result ⊤ Refusal). Closes x.last x.second s' a) (zero-done r.0 r.2) r.1;
    }

pub watched-from-c : {file : List ℕ} {us : List Event} {s : List ℕ} → WatchedFromC file us s → Watched file us s
watched-from-c {file} (begun {before = before} {s = s} l) =
    let r = load_same l in
    call.begun (subst (λ (a : Result ⊤ Refusal). LoadsRule file before s a) (zero-done r.0 r.2) r.1)
watched-from-c (ticked w e x) = call.ticked (watched-from-c w) e (ticked-from-c x)
