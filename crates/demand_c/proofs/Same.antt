-- Whatever an exported function's promise allows, the call's own promise allows, with an outcome of the same number: `sample-same`, `step_same`,
-- `close-same`, `load_same`, of an accepted capture `capture-same`; of a refusal `load-refusal`, `close-refusal`, `write-refusal`, `parse-refusal`,
-- `print-refusal`, `central-refusal`, `read-refusal`, `capture-refusal`, `report-refusal`, `add-refusal`, `mend-refusal`. Assumes nothing.
use Rattle.std.specs.Prelude.{Result, Ok, Err, ⊤}
use mathlib.Core.Path.{◌≡◌, refl, sym, ap, ◌∙◌, subst}
use mathlib.Core.List.{List}
use mathlib.Core.Logic.{⊎_elim}
use Prim.Native.Nat.{ℕ, ◌<◌}
use native.Mathlib.Omega.{arith}
use lib.ListN.{length}
use Rattle.lists.specs.Tests.{pick}
use Rattle.answers.specs.declared.Refusal.{Refusal}
use Rattle.answers.specs.declared.Refusal.TheVariants.{Length, Version, Range, Offset, Masks, Formula, Nodes, State, Finished, Clash}
use Rattle.answers.specs.Said.{Said, refused, number_of, verdict_number, said_outcome}
use Rattle.answers.proofs.Answers.{number-some}
use Rattle.ltl.specs.Meaning.{Event}
use Rattle.loading.specs.Load.{LoadsRule}
use Rattle.taking.specs.Sample.{Samples}
use Rattle.settling.specs.Step.{StepsSlot}
use Rattle.closing.specs.Close.{Closes}
use Rattle.rules.specs.Read.{read_says, Reads}
use Rattle.rules.specs.Write.{write_says, Writes}
use Rattle.parsing.specs.declared.ParseError.{ParseError}
use Rattle.parsing.specs.Parse.{said_parse, Parses}
use Rattle.parsing.proofs.Outcomes.{parse-answers}
use Rattle.printing.specs.Print.{print_says, Prints}
use Rattle.central.specs.Central.{central_says, Centrally}
use Rattle.capturing.specs.declared.Captured.{Captured}
use Rattle.capturing.specs.Capture.{capture_says, Captures}
use Rattle.reporting.specs.declared.ReportError.{ReportError}
use Rattle.reporting.specs.Report.{said_report, Reports}
use Rattle.reporting.proofs.Outcomes.{report-answers}
use Rattle.adding.specs.Add.{add_says, AddsReport}
use Rattle.mending.specs.Mend.{mend_says, Mends}
use Rattle.exported.specs.Exported.{value_at, ReadExported, WriteExported, ParseExported, PrintExported, CentralExported, LoadExported, SampleExported, StepExported, CloseExported, CaptureExported, ReportExported, AddExported, MendExported}
use Rattle.demand.proofs.Allowed.{Either, order-either, sample-outcome, step-outcome, close-outcome, load-outcome}
use Rattle.demand.proofs.Capturing.{CaptureCase, may-run, not-run, capture-case, capture-exists}
use Rattle.demand_c.specs.FromC.{Refuses}

-- the outcome of a call without values that has this number
number-of : (a : Said) (answer : Result ⊤ Refusal) (n : ℕ) → said_outcome answer ≡ a → n ≡ a.number → n ≡ (said_outcome answer).number
number-of a answer n e h = h ∙ ap (λ (b : Said). b.number) (sym e)

pub sample-same : {s s' : List ℕ} {board bits n : ℕ} → SampleExported s board bits s' n → (answer : Result ⊤ Refusal) × Samples s board bits s' answer × (n ≡ (said_outcome answer).number)
sample-same {s} {s'} {board} {bits} {n} x =
    let r = sample-outcome s board bits in
    (r.0, record { says = r.1; leaves = x.leaves }, number-of _ r.0 n r.1 x.says)

pub step_same : {s s' : List ℕ} {slot n : ℕ} → StepExported s slot s' n → (answer : Result ⊤ Refusal) × StepsSlot s slot s' answer × (n ≡ (said_outcome answer).number)
step_same {s} {s'} {slot} {n} x = let r = step-outcome s slot in (r.0, record { says = r.1; leaves = x.leaves }, number-of _ r.0 n r.1 x.says)

pub close-same : {s second second' : List ℕ} {n : ℕ} → CloseExported s second second' n → (answer : Result ⊤ Refusal) × Closes s second second' answer × (n ≡ (said_outcome answer).number)
close-same {s} {second} {second'} {n} x =
    let r = close-outcome s (length second) in
    (r.0, record { says = r.1; leaves = x.leaves }, number-of _ r.0 n r.1 x.says)

pub load_same : {file s s' : List ℕ} {n : ℕ} → LoadExported file s s' n → (answer : Result ⊤ Refusal) × LoadsRule file s s' answer × (n ≡ (said_outcome answer).number)
load_same {file} {s} {s'} {n} x = let r = load-outcome file (length s) in (r.0, record { says = r.1; leaves = x.leaves }, number-of _ r.0 n r.1 x.says)

-- an outcome with a refusal's number is a refusal, and one with 0 is none
pub outcome-refused : (answer : Result ⊤ Refusal) (n : ℕ) → n ≡ (said_outcome answer).number → Refuses n → (why : Refusal) × (answer ≡ Err why)
outcome-refused (Err why) n e r = (why, refl)
outcome-refused (Ok _) n e r = absurd (r e)

pub load-refusal : {file s s' : List ℕ} {n : ℕ} → LoadExported file s s' n → Refuses n → (why : Refusal) × LoadsRule file s s' (Err why)
load-refusal {file} {s} {s'} {n} x refuses =
    let r = load_same x in
    let q = outcome-refused r.0 n r.2 refuses in
    (q.0, subst (λ (a : Result ⊤ Refusal). LoadsRule file s s' a) q.1 r.1)

pub close-refusal : {s second second' : List ℕ} {n : ℕ} → CloseExported s second second' n → Refuses n → (why : Refusal) × Closes s second second' (Err why)
close-refusal {s} {second} {second'} {n} x refuses =
    let r = close-same x in
    let q = outcome-refused r.0 n r.2 refuses in
    (q.0, subst (λ (a : Result ⊤ Refusal). Closes s second second' a) q.1 r.1)

-- the same of a call with values
either-refused : (a : Said) (vs : List ℕ) (n : ℕ) → Either a vs → n ≡ a.number → Refuses n → (why : Refusal) × (refused (number_of why) ≡ a)
either-refused a vs n e says refuses = ⊎_elim (λ h. absurd (refuses (says ∙ ap (λ (b : Said). b.number) h))) (λ r. (r.0, sym r.1)) e

pub write-refusal : {masks : List ℕ} {p : ℕ} {formula file file' : List ℕ} {written written' n : ℕ} → WriteExported masks p formula file file' written written' n → Refuses n
    → (why : Refusal) × Writes masks p formula file file' (Err why)
unfolding write_says
write-refusal {n = n} x refuses =
    let r = either-refused _ _ n (order-either _ ((Length, refl), ((Range, refl), ((Masks, refl), ((Formula, refl), tt)))) _) x.says refuses in
    (r.0, record { says = r.1; leaves = x.leaves })

pub parse-refusal : {text formula formula' : List ℕ} {nodes line byte nodes' line' byte' n : ℕ} → ParseExported text formula formula' nodes line byte nodes' line' byte' n
    → Refuses n → (answer : Result ℕ ParseError) × (0 < (said_parse answer).number) × Parses text formula formula' answer
parse-refusal x refuses = parse-answers x.parses (λ e. refuses (x.says ∙ e))

pub print-refusal : {formula text text' : List ℕ} {count count' n : ℕ} → PrintExported formula text text' count count' n → Refuses n
    → (why : Refusal) × Prints formula text text' (Err why)
unfolding print_says
print-refusal {n = n} x refuses =
    let r = either-refused _ _ n (order-either _ ((Length, refl), ((Range, refl), ((Formula, refl), tt))) _) x.says refuses in
    (r.0, record { says = r.1; leaves = x.leaves })

pub central-refusal : {formula : List ℕ} {event : Event} {output output' : List ℕ} {verdict nodes verdict' nodes' n : ℕ} → CentralExported formula event output output' verdict nodes verdict' nodes' n
    → Refuses n → (why : Refusal) × Centrally formula event output output' (Err why)
unfolding central_says
central-refusal {n = n} x refuses =
    let r = either-refused _ _ n (order-either _ ((Length, refl), ((Formula, refl), ((Nodes, refl), tt))) _) x.says refuses in
    (r.0, record { says = r.1; leaves = x.leaves })

pub read-refusal : {file masks formula masks' formula' : List ℕ} {boards propositions nodes boards' propositions' nodes' n : ℕ}
    → ReadExported file masks formula masks' formula' boards propositions nodes boards' propositions' nodes' n → Refuses n → (why : Refusal) × Reads file masks formula masks' formula' (Err why)
unfolding read_says
read-refusal {n = n} x refuses =
    let r =
    either-refused _ _ n (order-either _ ((Length, refl), ((Version, refl), ((Range, refl), ((Offset, refl), ((Masks, refl), ((Formula, refl), tt)))))) _) x.says refuses in
    (r.0, record { says = r.1; leaves-masks = x.leaves-masks; leaves-formula = x.leaves-formula })

pub capture-refusal : {s second events s' second' : List ℕ} {count verdict stop count' verdict' stop' n : ℕ} → CaptureExported s second events s' second' count verdict stop count' verdict' stop' n → Refuses n
    → (why : Refusal) × Captures s second events s' second' (Err why)
unfolding capture_says
capture-refusal {n = n} x refuses =
    let r = either-refused _ _ n (order-either _ ((Length, refl), ((State, refl), ((Finished, refl), tt))) _) x.says refuses in
    (r.0, record { says = r.1; leaves = x.leaves; leaves-second = x.leaves-second })

pub report-refusal : {runs report report' : List ℕ} {place place' n : ℕ} → ReportExported runs report report' place place' n → Refuses n
    → (answer : Result ⊤ ReportError) × (0 < (said_report answer).number) × Reports runs report report' answer
report-refusal {runs} {report} x refuses =
    let r = report-answers runs (length report) (λ e. refuses (x.says ∙ e)) in
    (r.0, r.1, record { says = r.2; leaves = x.leaves })

pub add-refusal : {total night total' : List ℕ} {n : ℕ} → AddExported total night total' n → Refuses n → (why : Refusal) × AddsReport total night total' (Err why)
unfolding add_says
add-refusal {n = n} x refuses =
    let r = either-refused _ _ n (order-either _ ((Length, refl), ((Range, refl), ((Offset, refl), tt))) _) x.says refuses in
    (r.0, record { says = r.1; leaves = x.leaves })

pub mend-refusal : {recording mended marks mended' marks' : List ℕ} {kept first kept' first' n : ℕ} → MendExported recording mended marks mended' marks' kept first kept' first' n → Refuses n
    → (why : Refusal) × Mends recording mended marks mended' marks' (Err why)
unfolding mend_says
mend-refusal {n = n} x refuses =
    let r = either-refused _ _ n (order-either _ ((Length, refl), ((Offset, refl), ((Clash, refl), tt))) _) x.says refuses in
    (r.0, record { says = r.1; leaves = x.leaves; leaves-marks = x.leaves-marks })

-- ---- an accepted capture, and what it stored behind its pointers
pub record CaptureSame (s second events s' second' : List ℕ) (count verdict stop : ℕ) : Type 0 where
  pub told : Captured
  pub captures : Captures s second events s' second' (Ok told)
  pub count-is : count ≡ told.closed
  pub verdict-is : verdict ≡ verdict_number told.verdict
  pub stop_is : stop ≡ (said_outcome told.stop).number

pub capture-same : {s second events s' second' : List ℕ} {count verdict stop count' verdict' stop' : ℕ} → CaptureExported s second events s' second' count verdict stop count' verdict' stop' 0
    → CaptureSame s second events s' second' count' verdict' stop'
unfolding value_at pick
capture-same {s} {second} {events} {s'} {second'} {count} {verdict} {stop} {count'} {verdict'} {stop'} x = go (capture-case s second)
  where
    go : CaptureCase s second → CaptureSame s second events s' second' count' verdict' stop'
    go (may-run m) =
        let r = capture-exists m events in
        let e = sym r.1.says in
        record {
          told = r.0;
          captures = record { says = r.1.says; leaves = x.leaves; leaves-second = x.leaves-second };
          count-is = x.gives-closed ∙ ap (λ (a : Said). value_at a 0 count) e;
          verdict-is = x.gives-verdict ∙ ap (λ (a : Said). value_at a 1 verdict) e;
          stop_is = x.gives-stop ∙ ap (λ (a : Said). value_at a 2 stop) e;
        }
    go (not-run why f) = let n = x.says ∙ ap (λ (a : Said). a.number) (sym (f events).says) in absurd (omega (arith, number-some why))
