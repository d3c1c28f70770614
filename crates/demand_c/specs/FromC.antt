-- A watch by the calls from C: as in crates/demand, over the exported functions' promises. An answer is a number, 0 where the call is accepted.
-- Assumes nothing: these are definitions.
use Rattle.std.specs.Prelude.{◌≡◌, List, [], ◌∷◌, ◌++◌, ◌⊎◌, ℕ}
use Rattle.ltl.specs.Meaning.{Event}
use Rattle.network.specs.Scores.{sample_of}
use Rattle.rules.specs.RuleFile.{masks_in_file}
use Rattle.exported.specs.Exported.{ReadExported, WriteExported, ParseExported, PrintExported, CentralExported, LoadExported, SampleExported, StepExported, CloseExported, AskExported, CaptureExported, ReportExported, AddExported, MendExported}

-- the number is a refusal's
abbrev pub Refuses : ℕ → Type 0
Refuses n = n ≡ 0 → ⊥

-- any number of calls on one state, with any numbers and buffers, and whatever stood behind the pointers to single numbers: samples and
-- steps; asking and closing, which only read the state; and each call that was lent the state's buffer to write it and was refused. A refused
-- capture was lent it as its state or as its second buffer, a refused mend as its mended recording or as its marks
pub data CalledFromC (s : List ℕ) : List ℕ → Type 0 where
  nothing : CalledFromC s s
  sampled : {t t' : List ℕ} → CalledFromC s t → (board bits n : ℕ) → SampleExported t board bits t' n → CalledFromC s t'
  stepped : {t t' : List ℕ} → CalledFromC s t → (slot n : ℕ) → StepExported t slot t' n → CalledFromC s t'
  asked : {t : List ℕ} → CalledFromC s t → (verdict ticks slots nodes verdict' ticks' slots' nodes' n : ℕ) → AskExported t verdict ticks slots nodes verdict' ticks' slots' nodes' n → CalledFromC s t
  closed : {t : List ℕ} → CalledFromC s t → (second second' : List ℕ) (n : ℕ) → CloseExported t second second' n → CalledFromC s t
  load-refused : {t t' : List ℕ} → CalledFromC s t → (file : List ℕ) (n : ℕ) → Refuses n → LoadExported file t t' n → CalledFromC s t'
  close-refused : {t t' : List ℕ} → CalledFromC s t → (other : List ℕ) (n : ℕ) → Refuses n → CloseExported other t t' n → CalledFromC s t'
  write-refused : {t t' : List ℕ} → CalledFromC s t → (masks : List ℕ) (p : ℕ) (formula : List ℕ) (written written' n : ℕ) → Refuses n → WriteExported masks p formula t t' written written' n → CalledFromC s t'
  parse-refused : {t t' : List ℕ} → CalledFromC s t → (text : List ℕ) (nodes line byte nodes' line' byte' n : ℕ) → Refuses n → ParseExported text t t' nodes line byte nodes' line' byte' n → CalledFromC s t'
  print-refused : {t t' : List ℕ} → CalledFromC s t → (formula : List ℕ) (count count' n : ℕ) → Refuses n → PrintExported formula t t' count count' n → CalledFromC s t'
  central-refused : {t t' : List ℕ} → CalledFromC s t → (formula : List ℕ) (event verdict nodes verdict' nodes' n : ℕ) → Refuses n → CentralExported formula event t t' verdict nodes verdict' nodes' n → CalledFromC s t'
  read-refused : {t t' : List ℕ} → CalledFromC s t → (file masks masks' : List ℕ) (boards propositions nodes boards' propositions' nodes' n : ℕ) → Refuses n → ReadExported file masks t masks' t' boards propositions nodes boards' propositions' nodes' n → CalledFromC s t'
  capture-refused : {t t' : List ℕ} → CalledFromC s t → (second second' events : List ℕ) (count verdict stop count' verdict' stop' n : ℕ) → Refuses n → CaptureExported t second events t' second' count verdict stop count' verdict' stop' n → CalledFromC s t'
  capture-second-refused : {t t' : List ℕ} → CalledFromC s t → (other other' events : List ℕ) (count verdict stop count' verdict' stop' n : ℕ) → Refuses n → CaptureExported other t events other' t' count verdict stop count' verdict' stop' n → CalledFromC s t'
  report-refused : {t t' : List ℕ} → CalledFromC s t → (runs : List ℕ) (place place' n : ℕ) → Refuses n → ReportExported runs t t' place place' n → CalledFromC s t'
  add-refused : {t t' : List ℕ} → CalledFromC s t → (night : List ℕ) (n : ℕ) → Refuses n → AddExported t night t' n → CalledFromC s t'
  mend-refused : {t t' : List ℕ} → CalledFromC s t → (recording marks marks' : List ℕ) (kept first kept' first' n : ℕ) → Refuses n → MendExported recording t marks t' marks' kept first kept' first' n → CalledFromC s t'
  mend-marks-refused : {t t' : List ℕ} → CalledFromC s t → (recording mended mended' : List ℕ) (kept first kept' first' n : ℕ) → Refuses n → MendExported recording mended t mended' t' kept first kept' first' n → CalledFromC s t'

-- board b was given the bits v: one of these calls was that sample, and it answered 0
abbrev pub GaveFromC : {s t : List ℕ} → CalledFromC s t → ℕ → ℕ → Type 0
GaveFromC nothing b v = ⊥
GaveFromC (sampled c board bits n p) b v = GaveFromC c b v ⊎ ((n ≡ 0) × (b ≡ board) × (v ≡ bits))
GaveFromC (stepped c slot n p) b v = GaveFromC c b v
GaveFromC (asked c verdict ticks slots nodes verdict' ticks' slots' nodes' n p) b v = GaveFromC c b v
GaveFromC (closed c second second' n p) b v = GaveFromC c b v
GaveFromC (load-refused c file n r p) b v = GaveFromC c b v
GaveFromC (close-refused c other n r p) b v = GaveFromC c b v
GaveFromC (write-refused c masks q formula written written' n r p) b v = GaveFromC c b v
GaveFromC (parse-refused c text nodes line byte nodes' line' byte' n r p) b v = GaveFromC c b v
GaveFromC (print-refused c formula count count' n r p) b v = GaveFromC c b v
GaveFromC (central-refused c formula event verdict nodes verdict' nodes' n r p) b v = GaveFromC c b v
GaveFromC (read-refused c file masks masks' boards propositions nodes boards' propositions' nodes' n r p) b v = GaveFromC c b v
GaveFromC (capture-refused c second second' events count verdict stop count' verdict' stop' n r p) b v = GaveFromC c b v
GaveFromC (capture-second-refused c other other' events count verdict stop count' verdict' stop' n r p) b v = GaveFromC c b v
GaveFromC (report-refused c runs place place' n r p) b v = GaveFromC c b v
GaveFromC (add-refused c night n r p) b v = GaveFromC c b v
GaveFromC (mend-refused c recording marks marks' kept first kept' first' n r p) b v = GaveFromC c b v
GaveFromC (mend-marks-refused c recording mended mended' kept first kept' first' n r p) b v = GaveFromC c b v

-- whatever a board was given was its part of the event
abbrev pub GivenByC : {s t : List ℕ} → List ℕ → Event → CalledFromC s t → Type 0
GivenByC masks e c = (b v : ℕ) → GaveFromC c b v → v ≡ sample_of masks e b

-- what a board was given in both was the same
abbrev pub SameGivenFromC : {s t r u : List ℕ} → CalledFromC s t → CalledFromC r u → Type 0
SameGivenFromC c d = (b v w : ℕ) → GaveFromC c b v → GaveFromC d b w → v ≡ w

-- a tick from s to s' under an event: some calls by which each board was given its part of the event, and a close that answers 0
pub record TickedFromC (masks : List ℕ) (s : List ℕ) (e : Event) (s' : List ℕ) : Type 0 where
  pub last : List ℕ
  pub calls : CalledFromC s last
  pub given : GivenByC masks e calls
  pub second : List ℕ
  pub closes : CloseExported last second s' 0

-- a watch: begun by a load of the file that answers 0, whatever the state's buffer held before, then ticks; its events and its state
pub data WatchedFromC (file : List ℕ) : List Event → List ℕ → Type 0 where
  begun : {before s : List ℕ} → LoadExported file before s 0 → WatchedFromC file [] s
  ticked : {us : List Event} {s s' : List ℕ} → WatchedFromC file us s → (e : Event) → TickedFromC (masks_in_file file) s e s' → WatchedFromC file (us ++ (e ∷ [])) s'
