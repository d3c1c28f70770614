-- What the checks of `read` and `write` tell of numbers: the lengths (`lengths-passed`), the counts (`counts-passed`) and the offsets
-- (`offsets-passed`). Assumes nothing.
use mathlib.Core.Path.{◌≡◌}
use mathlib.Core.Bool.{true}
use mathlib.Core.List.{List}
use Prim.Native.Nat.{ℕ, ◌≤◌}
use lib.ListN.{length}
use borrow.Author.Tests.{eqb-true, leb-true}
use Rattle.limits.specs.Limits.{boards_most, propositions_most, rule_nodes_most}
use Rattle.lists.proofs.Tests.{both-0, both-1}
use Rattle.rules.specs.RuleFile.{masks_at, file_formula_at, counts_ok, total_of, boards_in_file, nodes_in_file, masks_offset_in_file, formula_offset_in_file, total_in_file}
use Rattle.rules.specs.Read.{read_lengths_ok, offsets_ok}

pub record LengthsPassed (file : List ℕ) (m f : ℕ) : Type 0 where
  pub masks-room : m ≡ boards_most
  pub formula-room : f ≡ rule_nodes_most
  pub headed : masks_at ≤ length file
  pub whole : length file ≡ total_in_file file

pub lengths-passed : (file : List ℕ) (m f : ℕ) → read_lengths_ok file m f ≡ true → LengthsPassed file m f
unfolding read_lengths_ok
lengths-passed file m f e =
    let a = both-1 _ _ e in
    let b = both-1 _ _ a in
    record { masks-room = eqb-true _ _ (both-0 _ _ e); formula-room = eqb-true _ _ (both-0 _ _ a); headed = leb-true _ _ (both-0 _ _ b); whole = eqb-true _ _ (both-1 _ _ b) }

pub record CountsPassed (b p n : ℕ) : Type 0 where
  pub boards-some : 1 ≤ b
  pub boards-few : b ≤ boards_most
  pub propositions-some : 1 ≤ p
  pub propositions-few : p ≤ propositions_most
  pub nodes-some : 1 ≤ n
  pub nodes-few : n ≤ rule_nodes_most

pub counts-passed : (b p n : ℕ) → counts_ok b p n ≡ true → CountsPassed b p n
unfolding counts_ok
counts-passed b p n e =
    let x = both-0 _ _ e in
    let t = both-1 _ _ e in
    let y = both-0 _ _ t in
    let z = both-1 _ _ t in
    record {
      boards-some = leb-true _ _ (both-0 _ _ x);
      boards-few = leb-true _ _ (both-1 _ _ x);
      propositions-some = leb-true _ _ (both-0 _ _ y);
      propositions-few = leb-true _ _ (both-1 _ _ y);
      nodes-some = leb-true _ _ (both-0 _ _ z);
      nodes-few = leb-true _ _ (both-1 _ _ z);
    }

pub record OffsetsPassed (file : List ℕ) : Type 0 where
  pub masks-offset : masks_offset_in_file file ≡ masks_at
  pub formula-offset : formula_offset_in_file file ≡ file_formula_at (boards_in_file file)
  pub total : total_in_file file ≡ total_of (boards_in_file file) (nodes_in_file file)

pub offsets-passed : (file : List ℕ) → offsets_ok file ≡ true → OffsetsPassed file
unfolding offsets_ok
offsets-passed file e =
    let a = both-1 _ _ e in
    record { masks-offset = eqb-true _ _ (both-0 _ _ e); formula-offset = eqb-true _ _ (both-0 _ _ a); total = eqb-true _ _ (both-1 _ _ a) }
