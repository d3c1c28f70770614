-- The exported functions' promises, over the same definitions as the calls' own: the buffers, and the values behind references.
-- Assumes nothing: these are definitions.
use Rattle.std.specs.Prelude.{◌≡◌, ℕ, List, length, get_or, eqb}
use Rattle.limits.specs.Limits.{boards_most, rule_nodes_most, text_length, central_nodes_most}
use Rattle.lists.specs.Tests.{pick}
use Rattle.lists.specs.Runs.{padded}
use Rattle.answers.specs.Said.{Said, left}
use Rattle.ltl.specs.Formula.{encode}
use Rattle.ltl.specs.Progression.{progressed}
use Rattle.rules.specs.RuleFile.{file_most, masks_in_file, formula_in_file, file_of}
use Rattle.rules.specs.Read.{read_says}
use Rattle.rules.specs.Write.{write_says}
use Rattle.ltl.specs.Decode.{formula_of}
use Rattle.text.specs.Printing.{printed}
use Rattle.parsing.specs.Parse.{ParseSays}
use Rattle.printing.specs.Print.{print_says}
use Rattle.central.specs.Central.{start_of, central_says}
use Rattle.state.specs.Form.{form_in}
use Rattle.state.specs.Calls.{loaded_state, ask_says, sample_says, sample_leaves, step_says, step_leaves, close_says, close_leaves}
use Rattle.loading.specs.Load.{start_in, load_says}
use Rattle.capturing.specs.Capture.{capture_says, capture_leaves, capture_second}
use Rattle.reporting.specs.Report.{report_says, report_for}
use Rattle.adding.specs.Add.{add_says, sum_for}
use Rattle.recordings.specs.Mending.{marks_of}
use Rattle.recordings.specs.Recording.{records_in}
use Rattle.mending.specs.Mend.{mend_says, mended_for}
use Rattle.stretching.specs.Stretch.{stretch_says, events_for}

-- what stands behind a reference afterwards: an accepted call's value, and what stood there before a refusal
unfoldable pub value_at : Said → ℕ → ℕ → ℕ
value_at s i before = pick (eqb s.number 0) (get_or s.values i 0) before

pub record ReadExported (file masks formula masks' formula' : List ℕ) (boards propositions nodes boards' propositions' nodes' answer : ℕ) : Type 0 where
  pub says : answer ≡ (read_says file (length masks) (length formula)).number
  pub leaves-masks : masks' ≡ left (read_says file (length masks) (length formula)) (padded boards_most (masks_in_file file)) masks
  pub leaves-formula : formula' ≡ left (read_says file (length masks) (length formula)) (padded rule_nodes_most (formula_in_file file)) formula
  pub gives-boards : boards' ≡ value_at (read_says file (length masks) (length formula)) 0 boards
  pub gives-propositions : propositions' ≡ value_at (read_says file (length masks) (length formula)) 1 propositions
  pub gives-nodes : nodes' ≡ value_at (read_says file (length masks) (length formula)) 2 nodes

pub record WriteExported (masks : List ℕ) (p : ℕ) (formula file file' : List ℕ) (written written' answer : ℕ) : Type 0 where
  pub says : answer ≡ (write_says masks p formula (length file)).number
  pub leaves : file' ≡ left (write_says masks p formula (length file)) (padded file_most (file_of masks p formula)) file
  pub gives-length : written' ≡ value_at (write_says masks p formula (length file)) 0 written

-- what stands behind a reference that a refusal tells by afterwards: what it tells, and what stood there before every other answer
unfoldable pub told_at : Said → ℕ → ℕ → ℕ
told_at s i before = pick (eqb s.number 0) before (get_or s.values i before)

pub record ParseExported (text formula formula' : List ℕ) (nodes line byte nodes' line' byte' answer : ℕ) : Type 0 where
  pub said : Said
  pub parses : ParseSays rule_nodes_most text formula said formula'
  pub says : answer ≡ said.number
  pub gives-nodes : nodes' ≡ value_at said 0 nodes
  pub gives_line : line' ≡ told_at said 0 line
  pub gives-byte : byte' ≡ told_at said 1 byte

pub record PrintExported (formula text text' : List ℕ) (count count' answer : ℕ) : Type 0 where
  pub says : answer ≡ (print_says formula (length text)).number
  pub leaves : text' ≡ left (print_says formula (length text)) (padded text_length (printed (formula_of formula))) text
  pub gives-length : count' ≡ value_at (print_says formula (length text)) 0 count

pub record CentralExported (formula : List ℕ) (event : ℕ) (output output' : List ℕ) (verdict nodes verdict' nodes' answer : ℕ) : Type 0 where
  pub says : answer ≡ (central_says formula event (length output)).number
  pub leaves : output' ≡ left (central_says formula event (length output)) (padded central_nodes_most (encode (progressed event (start_of formula)))) output
  pub gives-verdict : verdict' ≡ value_at (central_says formula event (length output)) 0 verdict
  pub gives-length : nodes' ≡ value_at (central_says formula event (length output)) 1 nodes

pub record LoadExported (file state state' : List ℕ) (answer : ℕ) : Type 0 where
  pub says : answer ≡ (load_says file (length state)).number
  pub leaves : state' ≡ left (load_says file (length state)) (loaded_state (form_in state) (masks_in_file file) (start_in file)) state

pub record SampleExported (state : List ℕ) (board bits : ℕ) (state' : List ℕ) (answer : ℕ) : Type 0 where
  pub says : answer ≡ (sample_says state board bits).number
  pub leaves : state' ≡ sample_leaves state board bits

pub record StepExported (state : List ℕ) (slot : ℕ) (state' : List ℕ) (answer : ℕ) : Type 0 where
  pub says : answer ≡ (step_says state slot).number
  pub leaves : state' ≡ step_leaves state slot

pub record CloseExported (state second second' : List ℕ) (answer : ℕ) : Type 0 where
  pub says : answer ≡ (close_says state (length second)).number
  pub leaves : second' ≡ close_leaves state second

pub record AskExported (state : List ℕ) (verdict ticks slots nodes verdict' ticks' slots' nodes' answer : ℕ) : Type 0 where
  pub says : answer ≡ (ask_says state).number
  pub gives-verdict : verdict' ≡ value_at (ask_says state) 0 verdict
  pub gives-ticks : ticks' ≡ value_at (ask_says state) 1 ticks
  pub gives-slots : slots' ≡ value_at (ask_says state) 2 slots
  pub gives-nodes : nodes' ≡ value_at (ask_says state) 3 nodes

pub record CaptureExported (state second events state' second' : List ℕ) (closed verdict stop closed' verdict' stop' answer : ℕ) : Type 0 where
  pub says : answer ≡ (capture_says state (length second) events).number
  pub leaves : state' ≡ capture_leaves state (length second) events
  pub leaves-second : second' ≡ capture_second state second events
  pub gives-closed : closed' ≡ value_at (capture_says state (length second) events) 0 closed
  pub gives-verdict : verdict' ≡ value_at (capture_says state (length second) events) 1 verdict
  pub gives-stop : stop' ≡ value_at (capture_says state (length second) events) 2 stop

pub record ReportExported (runs report report' : List ℕ) (place place' answer : ℕ) : Type 0 where
  pub says : answer ≡ (report_says runs (length report)).number
  pub leaves : report' ≡ left (report_says runs (length report)) (report_for runs) report
  pub gives-place : place' ≡ told_at (report_says runs (length report)) 0 place

pub record AddExported (total night total' : List ℕ) (answer : ℕ) : Type 0 where
  pub says : answer ≡ (add_says total night).number
  pub leaves : total' ≡ left (add_says total night) (sum_for total night) total

pub record MendExported (recording mended marks mended' marks' : List ℕ) (kept first kept' first' answer : ℕ) : Type 0 where
  pub says : answer ≡ (mend_says recording (length mended) (length marks)).number
  pub leaves : mended' ≡ left (mend_says recording (length mended) (length marks)) (mended_for recording) mended
  pub leaves-marks : marks' ≡ left (mend_says recording (length mended) (length marks)) (marks_of (records_in recording)) marks
  pub gives-kept : kept' ≡ value_at (mend_says recording (length mended) (length marks)) 0 kept
  pub gives-first : first' ≡ value_at (mend_says recording (length mended) (length marks)) 1 first

pub record StretchExported (recording events events' : List ℕ) (first first' answer : ℕ) : Type 0 where
  pub says : answer ≡ (stretch_says recording (length events)).number
  pub leaves : events' ≡ left (stretch_says recording (length events)) (events_for recording) events
  pub gives-first : first' ≡ value_at (stretch_says recording (length events)) 0 first
