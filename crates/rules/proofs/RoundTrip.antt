-- Reading and writing together, as the promises `Reads` and `Writes` say it. `written_read`: a file that was written is read back as
-- the rule that it was written from. `read-written`: a rule that was read is written back as the file's bytes. Assumes nothing.
use Rattle.std.specs.Prelude.{Result, Ok, Err}
use Rattle.answers.specs.declared.Refusal.{Refusal}
use mathlib.Core.Path.{◌≡◌, refl, sym, ap, ap₂, ◌∙◌, subst}
use mathlib.Core.Bool.{true}
use mathlib.Core.List.{List, ◌++◌, append_assoc}
use Prim.Native.Nat.{ℕ, ◌-◌, ◌*◌, ◌^◌, ◌<◌, ◌≤◌}
use native.Mathlib.Omega.{arith}
use lib.ListN.{length, get_or, take, drop, replicate, length-append, length-drop, take-append-drop}
use lib.Seq.{take_at, drop_at, drop-drop}
use borrow.Author.Tests.{eq-eqb, eqb-true, le-leb}
use Rattle.limits.specs.Limits.{boards_most, rule_nodes_most}
use Rattle.lists.specs.Runs.{padded}
use Rattle.lists.specs.Listed.{listed}
use Rattle.lists.proofs.Listed.{listed-length}
use Rattle.answers.specs.Said.{Said}
use Rattle.ltl.specs.Decode.{is_rule}
use Rattle.lists.proofs.Tests.{both_true}
use Rattle.masks.specs.Masks.{masks_rule}
use Rattle.le.specs.Le.{le_at}
use Rattle.le.proofs.Laws.{Bytes}
use Rattle.rules.specs.declared.RuleCounts.{RuleCounts}
use Rattle.rules.specs.RuleFile.{masks_at, file_formula_at, file_most, file_header, mask_bytes, file_of, counts_ok, total_of, boards_in_file, propositions_in_file, nodes_in_file, mask_in_file, masks_in_file, formula_in_file}
use Rattle.rules.specs.Read.{read_lengths_ok, offsets_ok, said_read, Reads}
use Rattle.rules.specs.Write.{said_write, Writes}
use Rattle.rules.proofs.Files.{Fields, mask_bytes-length, header-length, file_of-length, header-fields, masks-written, header_is, masks-rewritten}
use Rattle.rules.proofs.Passed.{lengths-passed, CountsPassed, counts-passed, offsets-passed}
use Rattle.rules.proofs.ReadOutcomes.{ReadPassed, read-passed, read-rule}
use Rattle.rules.proofs.WriteOutcomes.{write-passed, write-written}
use Rattle.rules.proofs.Determined.{reads-determined, writes-determined}

-- ---- the file of a rule is read as the rule
module _ (masks : List ℕ) (p : ℕ) (formula : List ℕ) (words : (i : ℕ) → get_or masks i 0 < 2 ^ 64) (counts : CountsPassed (length masks) p (length formula)) where
  file-fields : Fields (file_of masks p formula) (length masks) p (length formula)
  unfolding file_of
  file-fields = header-fields (length masks) p (length formula) (mask_bytes masks ++ formula) counts.boards-few counts.propositions-few counts.nodes-few

  file-masks : masks_in_file (file_of masks p formula) ≡ masks
  unfolding file_of
  file-masks =
      let h = file_header (length masks) p (length formula) in
      ap (listed (mask_in_file (file_of masks p formula))) file-fields.boards-is
      ∙ masks-written h masks formula masks_at (header-length (length masks) p (length formula)) words

  file-formula : formula_in_file (file_of masks p formula) ≡ formula
  unfolding file_of
  file-formula =
      let b = length masks in
      let h = file_header b p (length formula) in
      let l = length-append h (mask_bytes masks) in
      let hl = header-length b p (length formula) in
      let ml = mask_bytes-length masks in
      ap₂ (λ (i : ℕ) (u : List ℕ). drop (file_formula_at i) u) file-fields.boards-is (sym (append_assoc h (mask_bytes masks) formula))
      ∙ drop_at (h ++ mask_bytes masks) formula (file_formula_at b) (omega arith)

  file-passed : masks_rule p masks ≡ true → is_rule p formula ≡ true → counts_ok (length masks) p (length formula) ≡ true
      → ReadPassed (file_of masks p formula) boards_most rule_nodes_most
  unfolding read_lengths_ok offsets_ok
  file-passed rule text ok =
      let k = file-fields in
      let l = file_of-length masks p formula in
      let whole : length (file_of masks p formula) ≡ le_at (file_of masks p formula) 12 4 = omega arith in
      let headed : masks_at ≤ length (file_of masks p formula) = omega arith in
      record {
        lengths = both_true _ _ refl (both_true _ _ refl (both_true _ _ (le-leb _ _ headed) (eq-eqb _ _ whole)));
        version = eq-eqb _ _ k.version-is;
        counts = rw (k.boards-is, k.propositions-is, k.nodes-is) ok;
        offsets = rw (k.boards-is, k.nodes-is) (both_true _ _ (eq-eqb _ _ k.masks-offset-is) (both_true _ _ (eq-eqb _ _ k.formula-offset-is) (eq-eqb _ _ k.total-is)));
        masks = ap₂ masks_rule k.propositions-is file-masks ∙ rule;
        formula = ap₂ is_rule k.propositions-is file-formula ∙ text;
      }

pub written_read : (masks : List ℕ) (p : ℕ) (formula file file' : List ℕ) (n : ℕ) → ((i : ℕ) → get_or masks i 0 < 2 ^ 64)
    → Writes masks p formula file file' (Ok n)
    → (m f m' f' : List ℕ) (answer : Result RuleCounts Refusal) → length m ≡ boards_most → length f ≡ rule_nodes_most → Reads (take n file') m f m' f' answer
    → (answer ≡ Ok (record { boards = length masks; propositions = p; nodes = length formula })) × (m' ≡ padded boards_most masks) × (f' ≡ padded rule_nodes_most formula)
written_read masks p formula file file' n words w m f m' f' answer em ef r =
    let q = write-passed masks p formula (length file) (sym (ap (λ (s : Said). s.number) w.says)) in
    let F = file_of masks p formula in
    let d = writes-determined masks p formula file file' (padded file_most F) (Ok n) _ w
    (write-written masks p formula file q (total_of (length masks) (length formula)) (padded file_most F) refl refl) in
    let total : n ≡ total_of (length masks) (length formula) = ap (λ (a : Result ℕ Refusal). get_or (said_write a).values 0 0) d.0 in
    let whole : take n file' ≡ F = ap₂ take total d.1 ∙ take_at F (replicate (file_most - length F) 0) _ (file_of-length masks p formula) in
    let c = counts-passed _ _ _ q.counts in
    let o = file-passed masks p formula words c q.rule q.text q.counts in
    let k = file-fields masks p formula words c in
    let passed : ReadPassed F (length m) (length f) = rw (em, ef) o in
    let built = read-rule F m f passed
    (record { boards = length masks; propositions = p; nodes = length formula }) (padded boards_most masks) (padded rule_nodes_most formula)
    (sym k.boards-is) (sym k.propositions-is) (sym k.nodes-is)
    (sym (ap (padded boards_most) (file-masks masks p formula words c))) (sym (ap (padded rule_nodes_most) (file-formula masks p formula words c))) in
    reads-determined F m f m' f' _ _ answer _ (subst (λ (u : List ℕ). Reads u m f m' f' answer) whole r) built

-- ---- the file of a rule that was read is the file
module _ (file m f : List ℕ) (bytes : Bytes file) (o : ReadPassed file (length m) (length f)) where
  formula-length : length (formula_in_file file) ≡ nodes_in_file file
  formula-length =
      let s = lengths-passed file (length m) (length f) o.lengths in
      let t = offsets-passed file o.offsets in
      omega (arith, length-drop (file_formula_at (boards_in_file file)) file)

  read-fields : Fields file (boards_in_file file) (propositions_in_file file) (nodes_in_file file)
  read-fields =
      let t = offsets-passed file o.offsets in
      record {
        version-is = eqb-true _ _ o.version;
        boards-is = refl;
        propositions-is = refl;
        nodes-is = refl;
        masks-offset-is = t.masks-offset;
        formula-offset-is = t.formula-offset;
        total-is = t.total;
      }

  read-file : file_of (masks_in_file file) (propositions_in_file file) (formula_in_file file) ≡ file
  unfolding file_of
  read-file =
      let s = lengths-passed file (length m) (length f) o.lengths in
      let t = offsets-passed file o.offsets in
      let b = boards_in_file file in
      let h = ap₂ (λ (i j : ℕ). file_header i (propositions_in_file file) j) (listed-length (mask_in_file file) b) formula-length
      ∙ header_is file bytes s.headed b (propositions_in_file file) (nodes_in_file file) read-fields in
      let v : mask_bytes (masks_in_file file) ++ formula_in_file file ≡ drop masks_at file =
      ap₂ ◌++◌ (masks-rewritten file masks_at b bytes (omega arith)) (sym (drop-drop (8 * b) masks_at file)) ∙ take-append-drop (8 * b) (drop masks_at file) in
      ap₂ ◌++◌ h v ∙ take-append-drop masks_at file

  read-total : total_of (length (masks_in_file file)) (length (formula_in_file file)) ≡ length file
  read-total =
      let s = lengths-passed file (length m) (length f) o.lengths in
      let t = offsets-passed file o.offsets in
      omega (arith, listed-length (mask_in_file file) (boards_in_file file), formula-length)

pub read-written : (file m f m' f' : List ℕ) (c : RuleCounts) → Bytes file → Reads file m f m' f' (Ok c)
    → (out out' : List ℕ) (answer : Result ℕ Refusal) → length out ≡ file_most
    → Writes (take c.boards m') c.propositions (take c.nodes f') out out' answer
    → (answer ≡ Ok (length file)) × (take (length file) out' ≡ file)
read-written file m f m' f' c bytes r out out' answer room w =
    let o = read-passed file (length m) (length f) (sym (ap (λ (s : Said). s.number) r.says)) in
    let ms = masks_in_file file in
    let p = propositions_in_file file in
    let fs = formula_in_file file in
    let fl = formula-length file m f bytes o in
    let ml = listed-length (mask_in_file file) (boards_in_file file) in
    let d = reads-determined file m f m' f' (padded boards_most ms) (padded rule_nodes_most fs) (Ok c) _ r
    (read-rule file m f o (record { boards = boards_in_file file; propositions = p; nodes = nodes_in_file file }) (padded boards_most ms) (padded rule_nodes_most fs) refl refl refl refl refl) in
    let v = ap (λ (a : Result RuleCounts Refusal). (said_read a).values) d.0 in
    let eb : c.boards ≡ boards_in_file file = ap (λ (l : List ℕ). get_or l 0 0) v in
    let ep : c.propositions ≡ p = ap (λ (l : List ℕ). get_or l 1 0) v in
    let en : c.nodes ≡ nodes_in_file file = ap (λ (l : List ℕ). get_or l 2 0) v in
    let em : take c.boards m' ≡ ms = ap₂ take eb d.1 ∙ take_at ms (replicate (boards_most - length ms) 0) (boards_in_file file) ml in
    let ef : take c.nodes f' ≡ fs = ap₂ take en d.2 ∙ take_at fs (replicate (rule_nodes_most - length fs) 0) (nodes_in_file file) fl in
    let w₁ = subst (λ (u : List ℕ). Writes u c.propositions (take c.nodes f') out out' answer) em w in
    let w₂ = subst (λ (u : ℕ). Writes ms u (take c.nodes f') out out' answer) ep w₁ in
    let w₃ = subst (λ (u : List ℕ). Writes ms p u out out' answer) ef w₂ in
    let counts : counts_ok (length ms) p (length fs) ≡ true = ap₂ (λ (i j : ℕ). counts_ok i p j) ml fl ∙ o.counts in
    let F = file_of ms p fs in
    let whole = read-file file m f bytes o in
    let e = writes-determined ms p fs out out' (padded file_most F) answer _ w₃
    (write-written ms p fs out (record { space = eq-eqb _ _ room; counts = counts; rule = o.masks; text = o.formula }) (total_of (length ms) (length fs)) (padded file_most F) refl refl) in (
      e.0 ∙ ap Ok (read-total file m f bytes o),
      ap (take (length file)) (e.1 ∙ ap (padded file_most) whole) ∙ take_at file (replicate (file_most - length file) 0) (length file) refl,
    )
