-- The header's refusals are those of `read_says`; behind it each check of the code decides one more, in the same order, and a refusal has
-- written nothing: what is known behind each check stands at its place. Assumes nothing.
use Rattle.std.proofs.lemmas.Result.{err_from_is_err_and}
use mathlib.Core.Path.{◌≡◌, refl, sym, ap, ap₂, subst, ◌∙◌}
use mathlib.Core.Bool.{Bool}
use mathlib.Core.List.{List}
use Prim.Native.Nat.{ℕ, ◌≤◌}
use native.Mathlib.Omega.{arith}
use lib.ListN.{length, drop}
use Rattle.limits.specs.Limits.{boards_most, propositions_most, rule_nodes_most}
use Rattle.lists.specs.Runs.{padded}
use Rattle.lists.specs.Listed.{listed}
use Rattle.ltl.specs.Decode.{is_rule}
use Rattle.masks.specs.Masks.{masks_rule}
use Rattle.rules.specs.declared.RuleCounts.{RuleCounts}
use Rattle.rules.specs.RuleFile.{file_formula_at, total_of, propositions_in_file, mask_in_file, masks_in_file, formula_in_file}
use Rattle.rules.specs.Read.{Reads}
use Rattle.rules.specs.Head.{HeadPassed, HeadRead}
use Rattle.rules.proofs.Files.{found-length, found-padded}
use Rattle.rules.proofs.Passed.{LengthsPassed, lengths-passed, counts-passed, offsets-passed}
use Rattle.rules.proofs.ReadOutcomes.{read-refused, read-masks, read-formula, read-rule}
use Rattle.reading.proofs.read.Goals as goal

-- ---- what a header that passed tells
lengths : {file : List ℕ} {m f : ℕ} {c : RuleCounts} → HeadPassed file m f c → LengthsPassed file m f
lengths h = lengths-passed _ _ _ h.lengths

pub record HeadTold (file : List ℕ) (c : RuleCounts) : Type 0 where
  pub boards-few : c.boards ≤ boards_most
  pub propositions-few : c.propositions ≤ propositions_most
  pub nodes-few : c.nodes ≤ rule_nodes_most
  pub total : length file ≡ total_of c.boards c.nodes

told : {file : List ℕ} {m f : ℕ} {c : RuleCounts} → HeadPassed file m f c → HeadTold file c
told h =
    let s = lengths h in
    let k = counts-passed _ _ _ h.counts in
    let t = offsets-passed _ h.offsets in
    let b = h.boards-are in
    let p = h.propositions-are in
    let n = h.nodes-are in
    record { boards-few = omega arith; propositions-few = omega arith; nodes-few = omega arith; total = omega arith }

-- ---- the checks of the contract, behind the code's tests that decide them
module _ {file : List ℕ} {m f : ℕ} {c : RuleCounts} (h : HeadPassed file m f c) where
  masks-are : {x y : Bool} → x ≡ masks_rule c.propositions (listed (mask_in_file file) c.boards) → x ≡ y → masks_rule (propositions_in_file file) (masks_in_file file) ≡ y
  masks-are e q = rw (← h.propositions-are, ← h.boards-are) (sym e ∙ q)

  formula-is : {x y : Bool} → x ≡ is_rule c.propositions (drop (file_formula_at c.boards) file) → x ≡ y → is_rule (propositions_in_file file) (formula_in_file file) ≡ y
  formula-is e q = rw (← h.propositions-are, ← h.boards-are) (sym e ∙ q)

pub returns-in_err-c : goal.returns-in_err-c
returns-in_err-c c = let p = err_from_is_err_and c.from_residual.result c.from_residual.ensures.1 in rw (p.1, p.2) (read-refused _ _ _ _ c.in_err-c.ensures)

pub masks_ok-requires : goal.masks_ok-requires
masks_ok-requires c =
    let a = c.args in
    let h = c.in_ok-c.ensures in
    let t = told h in
    (omega arith, refl, t.boards-few, t.propositions-few)

pub returns-then-not-masks_ok : goal.returns-then-not-masks_ok
returns-then-not-masks_ok c =
    let a = c.args in
    let h = c.in_ok-c.ensures in
    read-masks _ _ _ h (masks-are h c.masks_ok.ensures.0 c.if-not-masks_ok.true)

pub formula_ok-requires : goal.formula_ok-requires
formula_ok-requires c =
    let a = c.args in
    let h = c.in_ok-c.ensures in
    let t = told h in
    omega arith

pub returns-then-not-formula_ok : goal.returns-then-not-formula_ok
returns-then-not-formula_ok c =
    let a = c.args in
    let h = c.in_ok-c.ensures in
    read-formula _ _ _ h (masks-are h c.masks_ok.ensures.0 c.if-not-masks_ok.false) (formula-is h c.formula_ok.ensures c.if-not-formula_ok.true)

pub put_rule-requires : goal.put_rule-requires
put_rule-requires c =
    let a = c.args in
    let h = c.in_ok-c.ensures in
    let t = told h in
    let s = lengths h in
    (found-length a.file.now _ c.in_ok-c.c.boards c.masks_ok.ensures.1 t.boards-few ∙ sym s.masks-room, omega arith, omega arith)

pub returns : goal.returns
returns c =
    let a = c.args in
    let h = c.in_ok-c.ensures in
    let f = a.file.now in
    let e = h.boards-are in
    read-rule _ _ _
    (record {
      lengths = h.lengths;
      version = h.version;
      counts = h.counts;
      offsets = h.offsets;
      masks = masks-are h c.masks_ok.ensures.0 c.if-not-masks_ok.false;
      formula = formula-is h c.formula_ok.ensures c.if-not-formula_ok.false;
    }) _ _ _
    e h.propositions-are h.nodes-are
    (c.put_rule.ensures.0 ∙ found-padded f _ _ c.masks_ok.ensures.1 ∙ ap (λ (i : ℕ). padded boards_most (listed (mask_in_file f) i)) e)
    (c.put_rule.ensures.1 ∙ ap₂ (λ (n : ℕ) (u : List ℕ). padded n u) (lengths h).formula-room (ap (λ (i : ℕ). drop (file_formula_at i) f) e))
