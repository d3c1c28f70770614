-- What a call answers stays within the buffer that it is about. Assumes nothing.
use Rattle.std.specs.Prelude.{Result, Ok, Err, ⊤}
use Rattle.answers.specs.declared.Refusal.{Refusal}
use mathlib.Core.Path.{◌≡◌, refl, sym, ap, subst, ◌∙◌}
use mathlib.Core.List.{List, [], ◌∷◌}
use Prim.Native.Nat.{ℕ, suc, ◌+◌, ◌*◌, ◌/◌, ◌≤◌, ◌<◌}
use native.Mathlib.Omega.{arith}
use lib.ListN.{length, get_or}
use lib.Dec.{eqb}
use borrow.Author.Tests.{eqb-false}
use Rattle.lists.specs.Tests.{pick}
use Rattle.lists.proofs.Tests.{pick-elim}
use Rattle.lists.proofs.Listed.{listed-length}
use Rattle.limits.specs.Limits.{boards_most, rule_nodes_most, text_length}
use Rattle.answers.specs.Said.{Said, accepted, refused, refused_with, in_order}
use Rattle.rules.specs.declared.RuleCounts.{RuleCounts}
use Rattle.rules.specs.RuleFile.{file_most, total_of, boards_in_file, propositions_in_file, nodes_in_file}
use Rattle.rules.specs.Read.{read_says, Reads}
use Rattle.rules.specs.Write.{write_says, Writes}
use Rattle.rules.proofs.Passed.{counts-passed}
use Rattle.rules.proofs.ReadOutcomes.{read-passed}
use Rattle.rules.proofs.WriteOutcomes.{write-passed}
use Rattle.parsing.specs.declared.ParseError.{ParseError}
use Rattle.parsing.specs.Parse.{ParseSays, length-refused, text-refused, range-refused, parsed, Parses}
use Rattle.printing.specs.Print.{print_says, Prints}
use Rattle.nodes.proofs.Wholes.{whole}
use Rattle.printing.proofs.Outcomes.{print-passed, printable, says-printed}
use Rattle.ltl.specs.Formula.{Formula}
use Rattle.nodes.proofs.Fronts.{front_length}
use Rattle.text.specs.Printing.{printed}
use Rattle.text.proofs.Prints.{printed-few}
use Rattle.reports.specs.Runs.{Run, run_length, run_at, run_count, runs_in, is_known, known_front}
use Rattle.reporting.specs.declared.ReportError.{ReportError}
use Rattle.reporting.specs.declared.ReportError.TheVariants.{NoRun}
use Rattle.reporting.specs.Report.{run_lengths_ok, report_says, Reports}

-- ---- numbers and values of an answer
first : Said → ℕ
first s = get_or s.values 0 0

-- ---- write
says-written : (masks : List ℕ) (p : ℕ) (formula : List ℕ) (room : ℕ) → (write_says masks p formula room).number ≡ 0
    → write_says masks p formula room ≡ accepted (total_of (length masks) (length formula) ∷ [])
unfolding write_says in_order pick
says-written masks p formula room z = let o = write-passed masks p formula room z in rw (o.space, o.counts, o.rule, o.text)

pub written-few : (masks : List ℕ) (p : ℕ) (formula file file' : List ℕ) (a : Result ℕ Refusal) (n : ℕ) → a ≡ Ok n → Writes masks p formula file file' a → n ≤ file_most
unfolding first
written-few masks p formula file file' a n is x =
    let w = subst (Writes masks p formula file file') is x in
    let zero : (write_says masks p formula (length file)).number ≡ 0 = sym (ap (λ (s : Said). s.number) w.says) in
    let k = counts-passed (length masks) p (length formula) (write-passed masks p formula (length file) zero).counts in
    let e : n ≡ total_of (length masks) (length formula) = ap first (w.says ∙ says-written masks p formula (length file) zero) in
    omega arith

-- ---- read
says-rule : (file : List ℕ) (m f : ℕ) → (read_says file m f).number ≡ 0 → read_says file m f ≡ accepted (boards_in_file file ∷ propositions_in_file file ∷ nodes_in_file file ∷ [])
unfolding read_says in_order pick
says-rule file m f z = let o = read-passed file m f z in rw (o.lengths, o.version, o.counts, o.offsets, o.masks, o.formula)

pub read-few : (file masks formula masks' formula' : List ℕ) (a : Result RuleCounts Refusal) (c : RuleCounts) → a ≡ Ok c → Reads file masks formula masks' formula' a
    → (c.boards ≤ boards_most) × (c.nodes ≤ rule_nodes_most)
read-few file masks formula masks' formula' a c is x =
    let r = subst (Reads file masks formula masks' formula') is x in
    let zero : (read_says file (length masks) (length formula)).number ≡ 0 = sym (ap (λ (s : Said). s.number) r.says) in
    let k = counts-passed (boards_in_file file) (propositions_in_file file) (nodes_in_file file) (read-passed file (length masks) (length formula) zero).counts in
    let e = r.says ∙ says-rule file (length masks) (length formula) zero in
    let b : c.boards ≡ boards_in_file file = ap (λ (s : Said). get_or s.values 0 0) e in
    let n : c.nodes ≡ nodes_in_file file = ap (λ (s : Said). get_or s.values 2 0) e in
    (omega arith, omega arith)

-- ---- parse
parsed-said : {most : ℕ} {t d e : List ℕ} {s : Said} → ParseSays most t d s e → s.number ≡ 0 → first s ≤ most
unfolding first
parsed-said (length-refused h) z = absurd (omega arith)
parsed-said (text-refused l x) z = absurd (omega arith)
parsed-said (range-refused l x h) z = absurd (omega arith)
parsed-said (parsed l x h) z = h

pub parsed-few : (t d e : List ℕ) (a : Result ℕ ParseError) (n : ℕ) → a ≡ Ok n → Parses t d e a → n ≤ rule_nodes_most
unfolding first
parsed-few t d e a n is x = parsed-said (subst (Parses t d e) is x) refl

-- ---- print
pub printed-within : (s text text' : List ℕ) (a : Result ℕ Refusal) (n : ℕ) → a ≡ Ok n → Prints s text text' a → n ≤ text_length
unfolding first
printed-within s text text' a n is x =
    let p = subst (Prints s text text') is x in
    let zero : (print_says s (length text)).number ≡ 0 = sym (ap (λ (x : Said). x.number) p.says) in
    let o = print-passed s (length text) zero in
    let bytes = printable text o in
    let r = whole s o.rule in
    let long = front_length s r.formula-is [] r.front in
    let few = bytes.few in
    let short = printed-few r.formula-is in
    let e : n ≡ length (printed r.formula-is) = ap first (p.says ∙ says-printed s text o) ∙ ap (λ (f : Formula). length (printed f)) r.same in
    omega arith

-- ---- report
front-few : (xs : List Run) → known_front xs ≤ length xs
unfolding known_front
front-few [] = omega arith
front-few (x ∷ xs) =
    pick-elim (λ (n : ℕ). n ≤ suc (length xs)) (is_known x) (suc (known_front xs)) 0 (λ q. let few = front-few xs in omega arith) (λ q. omega arith)

-- a place that is told is that of a run
place-said : (s : List ℕ) (room : ℕ) → (report_says s room).number ≡ 19 → first (report_says s room) < length (runs_in s)
unfolding report_says in_order first
place-said s room =
    pick-elim (λ (a : Said). a.number ≡ 19 → first a < length (runs_in s)) (run_lengths_ok s room)
    (pick (eqb (known_front (runs_in s)) (length (runs_in s))) (accepted []) (refused_with 19 (known_front (runs_in s) ∷ []))) (refused 1)
    (λ q.
    pick-elim (λ (a : Said). a.number ≡ 19 → first a < length (runs_in s)) (eqb (known_front (runs_in s)) (length (runs_in s))) (accepted [])
    (refused_with 19 (known_front (runs_in s) ∷ [])) (λ e z. absurd (omega arith))
    (λ e z. let few = front-few (runs_in s) in let less = eqb-false (known_front (runs_in s)) (length (runs_in s)) e in omega arith))
    (λ q z. absurd (omega arith))

pub no-run-within : (runs report report' : List ℕ) (a : Result ⊤ ReportError) (k : ℕ) → a ≡ Err (NoRun k) → Reports runs report report' a → run_length * k + run_length ≤ length runs
unfolding first
no-run-within runs report report' a k is x =
    let r = subst (Reports runs report report') is x in
    let number : (report_says runs (length report)).number ≡ 19 = sym (ap (λ (s : Said). s.number) r.says) in
    let place : k ≡ first (report_says runs (length report)) = ap first r.says in
    let less = place-said runs (length report) number in
    let long : length (runs_in runs) ≡ length runs / run_length = listed-length (run_at runs) (run_count runs) in
    omega arith
