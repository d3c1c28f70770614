-- What `read` answers and leaves by the check that decides, one law for each outcome, over plain lists, in the order of the checks;
-- what an accepted call's checks told (`read-passed`), and what it leaves (`read-rule`). Assumes nothing.
use Rattle.std.specs.Prelude.{Ok, Err}
use mathlib.Core.Path.{◌≡◌, sym, ap, ◌∙◌}
use mathlib.Core.Bool.{true, false}
use mathlib.Core.List.{List, [], ◌∷◌}
use Prim.Native.Nat.{ℕ}
use native.Mathlib.Omega.{arith}
use lib.ListN.{length}
use lib.Dec.{eqb}
use Rattle.limits.specs.Limits.{boards_most, rule_nodes_most}
use Rattle.lists.specs.Tests.{pick}
use Rattle.lists.specs.Runs.{padded}
use Rattle.answers.specs.declared.Refusal.{Refusal}
use Rattle.answers.specs.declared.Refusal.TheVariants.{Length, Version, Range, Offset, Masks, Formula}
use Rattle.answers.specs.Said.{Said, accepted, refused, left, number_of, in_order}
use Rattle.answers.proofs.Answers.{left-refused, order-passed}
use Rattle.ltl.specs.Decode.{is_rule}
use Rattle.masks.specs.Masks.{masks_rule}
use Rattle.rules.specs.declared.RuleCounts.{RuleCounts}
use Rattle.rules.specs.RuleFile.{version, counts_ok, version_in_file, boards_in_file, propositions_in_file, nodes_in_file, masks_in_file, formula_in_file}
use Rattle.rules.specs.Read.{read_lengths_ok, offsets_ok, read_says, Reads}
use Rattle.rules.specs.Head.{HeadPassed}

-- ---- refusals by the header
module _ (file : List ℕ) (m f : ℕ) where
  pub head-length : read_lengths_ok file m f ≡ false → refused (number_of Length) ≡ read_says file m f
  unfolding read_says in_order pick
  head-length h = rw h

  module _ (o₁ : read_lengths_ok file m f ≡ true) where
    pub head-version : eqb (version_in_file file) version ≡ false → refused (number_of Version) ≡ read_says file m f
    unfolding read_says in_order pick
    head-version h = rw (o₁, h)

    module _ (o₂ : eqb (version_in_file file) version ≡ true) where
      pub head-range : counts_ok (boards_in_file file) (propositions_in_file file) (nodes_in_file file) ≡ false → refused (number_of Range) ≡ read_says file m f
      unfolding read_says in_order pick
      head-range h = rw (o₁, o₂, h)

      module _ (o₃ : counts_ok (boards_in_file file) (propositions_in_file file) (nodes_in_file file) ≡ true) where
        pub head-offset : offsets_ok file ≡ false → refused (number_of Offset) ≡ read_says file m f
        unfolding read_says in_order pick
        head-offset h = rw (o₁, o₂, o₃, h)

-- ---- refusals
module _ (file masks formula : List ℕ) where
  pub read-refused : (why : Refusal) → refused (number_of why) ≡ read_says file (length masks) (length formula) → Reads file masks formula masks formula (Err why)
  read-refused why e =
      let leaves : (x y : List ℕ) → y ≡ left (read_says file (length masks) (length formula)) x y = λ x y. sym (ap (λ (s : Said). left s x y) (sym e) ∙ left-refused why x y) in
      record { says = e; leaves-masks = leaves _ masks; leaves-formula = leaves _ formula }

  module _ {c : RuleCounts} (h : HeadPassed file (length masks) (length formula) c) where
    pub read-masks : masks_rule (propositions_in_file file) (masks_in_file file) ≡ false → Reads file masks formula masks formula (Err Masks)
    unfolding read_says in_order pick
    read-masks e = read-refused Masks (rw (h.lengths, h.version, h.counts, h.offsets, e))

    module _ (o₅ : masks_rule (propositions_in_file file) (masks_in_file file) ≡ true) where
      pub read-formula : is_rule (propositions_in_file file) (formula_in_file file) ≡ false → Reads file masks formula masks formula (Err Formula)
      unfolding read_says in_order pick
      read-formula e = read-refused Formula (rw (h.lengths, h.version, h.counts, h.offsets, o₅, e))

-- ---- all checks passed
pub record ReadPassed (file : List ℕ) (m f : ℕ) : Type 0 where
  pub lengths : read_lengths_ok file m f ≡ true
  pub version : eqb (version_in_file file) version ≡ true
  pub counts : counts_ok (boards_in_file file) (propositions_in_file file) (nodes_in_file file) ≡ true
  pub offsets : offsets_ok file ≡ true
  pub masks : masks_rule (propositions_in_file file) (masks_in_file file) ≡ true
  pub formula : is_rule (propositions_in_file file) (formula_in_file file) ≡ true

pub read-passed : (file : List ℕ) (m f : ℕ) → (read_says file m f).number ≡ 0 → ReadPassed file m f
unfolding read_says
read-passed file m f e =
    let q = order-passed _ _ (omega arith, (omega arith, (omega arith, (omega arith, (omega arith, (omega arith, tt)))))) e in
    record { lengths = q.0; version = q.1.0; counts = q.1.1.0; offsets = q.1.1.1.0; masks = q.1.1.1.1.0; formula = q.1.1.1.1.1.0 }

read_says-rule : (file : List ℕ) (m f : ℕ) → ReadPassed file m f → read_says file m f ≡ accepted (boards_in_file file ∷ propositions_in_file file ∷ nodes_in_file file ∷ [])
unfolding read_says in_order pick
read_says-rule file m f o = rw (o.lengths, o.version, o.counts, o.offsets, o.masks, o.formula)

pub read-rule : (file masks formula : List ℕ) → ReadPassed file (length masks) (length formula) → (c : RuleCounts) (masks' formula' : List ℕ)
    → c.boards ≡ boards_in_file file → c.propositions ≡ propositions_in_file file → c.nodes ≡ nodes_in_file file
    → masks' ≡ padded boards_most (masks_in_file file) → formula' ≡ padded rule_nodes_most (formula_in_file file)
    → Reads file masks formula masks' formula' (Ok c)
unfolding left pick
read-rule file masks formula o c masks' formula' b p n m f =
    let e = read_says-rule file (length masks) (length formula) o in
    record { says = rw (b, p, n) (sym e); leaves-masks = rw e m; leaves-formula = rw e f }
