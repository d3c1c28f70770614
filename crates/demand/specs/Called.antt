-- A watch by the calls' promises: what happens to a state where every call does something that its promise allows, whatever program
-- makes it. Begun by loading a rule file, then a tick for each event. A tick has the event of which every board was given its part.
-- Assumes nothing: these are definitions.
use Rattle.telling.specs.declared.Standing.{Standing}
use Rattle.std.specs.Prelude.{◌≡◌, List, [], ◌∷◌, ◌++◌, ◌⊎◌, ℕ, ◌<◌, Result, Ok, Err, ⊤}
use Rattle.answers.specs.declared.Refusal.{Refusal}
use Rattle.ltl.specs.Meaning.{Event}
use Rattle.network.specs.Scores.{sample_of}
use Rattle.rules.specs.RuleFile.{masks_in_file}
use Rattle.rules.specs.Read.{Reads}
use Rattle.rules.specs.Write.{Writes}
use Rattle.parsing.specs.declared.ParseError.{ParseError}
use Rattle.parsing.specs.Parse.{said_parse, Parses}
use Rattle.printing.specs.Print.{Prints}
use Rattle.central.specs.Central.{Centrally}
use Rattle.telling.specs.Ask.{Asks}
use Rattle.taking.specs.Sample.{Samples}
use Rattle.settling.specs.Step.{StepsSlot}
use Rattle.closing.specs.Close.{Closes}
use Rattle.loading.specs.Load.{LoadsRule}
use Rattle.capturing.specs.Capture.{Captures}
use Rattle.reporting.specs.declared.ReportError.{ReportError}
use Rattle.reporting.specs.Report.{said_report, Reports}
use Rattle.adding.specs.Add.{AddsReport}
use Rattle.mending.specs.Mend.{Mends}

-- any number of calls on one state, with any numbers and buffers, each with any outcome that its promise allows: samples and steps;
-- asking and closing, which only read the state; and each call that was lent the state's buffer to write it and was refused. A refused
-- capture was lent it as its state or as its second buffer, a refused mend as its mended recording or as its marks
pub data Called (s : List ℕ) : List ℕ → Type 0 where
  nothing : Called s s
  sampled : {t t' : List ℕ} → Called s t → (board bits : ℕ) (answer : Result ⊤ Refusal) → Samples t board bits t' answer → Called s t'
  stepped : {t t' : List ℕ} → Called s t → (slot : ℕ) (answer : Result ⊤ Refusal) → StepsSlot t slot t' answer → Called s t'
  asked : {t : List ℕ} → Called s t → (answer : Result Standing Refusal) → Asks t answer → Called s t
  closed : {t : List ℕ} → Called s t → (second second' : List ℕ) (answer : Result ⊤ Refusal) → Closes t second second' answer → Called s t
  load-refused : {t t' : List ℕ} → Called s t → (file : List ℕ) (why : Refusal) → LoadsRule file t t' (Err why) → Called s t'
  close-refused : {t t' : List ℕ} → Called s t → (other : List ℕ) (why : Refusal) → Closes other t t' (Err why) → Called s t'
  write-refused : {t t' : List ℕ} → Called s t → (masks : List ℕ) (p : ℕ) (formula : List ℕ) (why : Refusal) → Writes masks p formula t t' (Err why) → Called s t'
  parse-refused : {t t' : List ℕ} → Called s t → (text : List ℕ) (answer : Result ℕ ParseError) → 0 < (said_parse answer).number → Parses text t t' answer → Called s t'
  print-refused : {t t' : List ℕ} → Called s t → (formula : List ℕ) (why : Refusal) → Prints formula t t' (Err why) → Called s t'
  central-refused : {t t' : List ℕ} → Called s t → (formula : List ℕ) (event : Event) (why : Refusal) → Centrally formula event t t' (Err why) → Called s t'
  read-refused : {t t' : List ℕ} → Called s t → (file masks masks' : List ℕ) (why : Refusal) → Reads file masks t masks' t' (Err why) → Called s t'
  capture-refused : {t t' : List ℕ} → Called s t → (second second' events : List ℕ) (why : Refusal) → Captures t second events t' second' (Err why) → Called s t'
  capture-second-refused : {t t' : List ℕ} → Called s t → (other other' events : List ℕ) (why : Refusal) → Captures other t events other' t' (Err why) → Called s t'
  report-refused : {t t' : List ℕ} → Called s t → (runs : List ℕ) (answer : Result ⊤ ReportError) → 0 < (said_report answer).number → Reports runs t t' answer → Called s t'
  add-refused : {t t' : List ℕ} → Called s t → (night : List ℕ) (why : Refusal) → AddsReport t night t' (Err why) → Called s t'
  mend-refused : {t t' : List ℕ} → Called s t → (recording marks marks' : List ℕ) (why : Refusal) → Mends recording t marks t' marks' (Err why) → Called s t'
  mend-marks-refused : {t t' : List ℕ} → Called s t → (recording mended mended' : List ℕ) (why : Refusal) → Mends recording mended t mended' t' (Err why) → Called s t'

-- board b was given the bits v: one of these calls was that sample, and it was accepted
abbrev pub Gave : {s t : List ℕ} → Called s t → ℕ → ℕ → Type 0
Gave nothing b v = ⊥
Gave (sampled c board bits answer p) b v = Gave c b v ⊎ ((answer ≡ Ok tt) × (b ≡ board) × (v ≡ bits))
Gave (stepped c slot answer p) b v = Gave c b v
Gave (asked c answer p) b v = Gave c b v
Gave (closed c second second' answer p) b v = Gave c b v
Gave (load-refused c file why p) b v = Gave c b v
Gave (close-refused c other why p) b v = Gave c b v
Gave (write-refused c masks q formula why p) b v = Gave c b v
Gave (parse-refused c text answer r p) b v = Gave c b v
Gave (print-refused c formula why p) b v = Gave c b v
Gave (central-refused c formula event why p) b v = Gave c b v
Gave (read-refused c file masks masks' why p) b v = Gave c b v
Gave (capture-refused c second second' events why p) b v = Gave c b v
Gave (capture-second-refused c other other' events why p) b v = Gave c b v
Gave (report-refused c runs answer r p) b v = Gave c b v
Gave (add-refused c night why p) b v = Gave c b v
Gave (mend-refused c recording marks marks' why p) b v = Gave c b v
Gave (mend-marks-refused c recording mended mended' why p) b v = Gave c b v

-- whatever a board was given was its part of the event: the bits of the event that are in the board's mask
abbrev pub GivenBy : {s t : List ℕ} → List ℕ → Event → Called s t → Type 0
GivenBy masks e c = (b v : ℕ) → Gave c b v → v ≡ sample_of masks e b

-- what a board was given in both was the same
abbrev pub SameGiven : {s t r u : List ℕ} → Called s t → Called r u → Type 0
SameGiven c d = (b v w : ℕ) → Gave c b v → Gave d b w → v ≡ w

-- a tick from s to s' under an event: some calls, in any order, by which each board was given its part of the event, and an accepted close.
-- A close is accepted only where every board has sampled, so each was given its part once.
pub record Ticked (masks : List ℕ) (s : List ℕ) (e : Event) (s' : List ℕ) : Type 0 where
  pub last : List ℕ
  pub calls : Called s last
  pub given : GivenBy masks e calls
  pub second : List ℕ
  pub closes : Closes last second s' (Ok tt)

-- a watch: begun by an accepted load of the file, whatever the state's buffer held before, then ticks; its events and its state
pub data Watched (file : List ℕ) : List Event → List ℕ → Type 0 where
  begun : {before s : List ℕ} → LoadsRule file before s (Ok tt) → Watched file [] s
  ticked : {us : List Event} {s s' : List ℕ} → Watched file us s → (e : Event) → Ticked (masks_in_file file) s e s' → Watched file (us ++ (e ∷ [])) s'
