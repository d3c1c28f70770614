-- Each check of the code decides one check of `read_says`, in the same order: what is known behind each stands at its place. Assumes
-- nothing.
use mathlib.Core.Path.{◌≡◌, sym, ◌∙◌}
use mathlib.Core.Bool.{true}
use native.Mathlib.Omega.{arith}
use borrow.Author.Tests.{eq-eqb, ne_eqb}
use Rattle.rules.specs.RuleFile.{counts_ok, boards_in_file, propositions_in_file, nodes_in_file}
use Rattle.rules.proofs.Passed.{lengths-passed, counts-passed}
use Rattle.rules.proofs.ReadOutcomes.{head-length, head-version, head-range, head-offset}
use Rattle.rules.proofs.checks.head_of.Goals as goal

pub returns-then-not-lengths_ok : goal.returns-then-not-lengths_ok
returns-then-not-lengths_ok c = head-length _ _ _ (sym c.lengths_ok.ensures ∙ c.if-not-lengths_ok.true)

pub u16_at-requires : goal.u16_at-requires
u16_at-requires c = let h = (lengths-passed _ _ _ (sym c.lengths_ok.ensures ∙ c.if-not-lengths_ok.false)).headed in omega arith

pub returns-then-u16_at-ne-VERSION : goal.returns-then-u16_at-ne-VERSION
returns-then-u16_at-ne-VERSION c = head-version _ _ _ (sym c.lengths_ok.ensures ∙ c.if-not-lengths_ok.false) (ne_eqb _ _ (λ e. c.if-u16_at-ne-VERSION.true (c.u16_at.ensures ∙ e)))

pub u16_at-b-requires : goal.u16_at-b-requires
u16_at-b-requires c = let h = (lengths-passed _ _ _ (sym c.lengths_ok.ensures ∙ c.if-not-lengths_ok.false)).headed in omega arith

pub u16_at-p-requires : goal.u16_at-p-requires
u16_at-p-requires c = let h = (lengths-passed _ _ _ (sym c.lengths_ok.ensures ∙ c.if-not-lengths_ok.false)).headed in omega arith

pub u16_at-n-requires : goal.u16_at-n-requires
u16_at-n-requires c = let h = (lengths-passed _ _ _ (sym c.lengths_ok.ensures ∙ c.if-not-lengths_ok.false)).headed in omega arith

pub returns-then-not-counts_ok : goal.returns-then-not-counts_ok
returns-then-not-counts_ok c =
    head-range _ _ _ (sym c.lengths_ok.ensures ∙ c.if-not-lengths_ok.false) (eq-eqb _ _ (sym c.u16_at.ensures ∙ c.if-u16_at-ne-VERSION.false))
    (rw (← c.u16_at-b.ensures, ← c.u16_at-p.ensures, ← c.u16_at-n.ensures) (sym c.counts_ok.ensures ∙ c.if-not-counts_ok.true))

pub offsets_ok-requires : goal.offsets_ok-requires
offsets_ok-requires c =
    let f = c.args.file.now in
    let counts : counts_ok (boards_in_file f) (propositions_in_file f) (nodes_in_file f) ≡ true =
    rw (← c.u16_at-b.ensures, ← c.u16_at-p.ensures, ← c.u16_at-n.ensures) (sym c.counts_ok.ensures ∙ c.if-not-counts_ok.false) in
    let h = (lengths-passed _ _ _ (sym c.lengths_ok.ensures ∙ c.if-not-lengths_ok.false)).headed in
    let b = c.u16_at-b.ensures in
    let k = c.u16_at-n.ensures in
    let p = counts-passed _ _ _ counts in
    (h, b, k, omega arith, omega arith)

pub returns-then-not-offsets_ok : goal.returns-then-not-offsets_ok
returns-then-not-offsets_ok c =
    head-offset _ _ _ (sym c.lengths_ok.ensures ∙ c.if-not-lengths_ok.false) (eq-eqb _ _ (sym c.u16_at.ensures ∙ c.if-u16_at-ne-VERSION.false))
    (rw (← c.u16_at-b.ensures, ← c.u16_at-p.ensures, ← c.u16_at-n.ensures) (sym c.counts_ok.ensures ∙ c.if-not-counts_ok.false))
    (sym c.offsets_ok.ensures ∙ c.if-not-offsets_ok.true)

pub returns : goal.returns
returns c = record {
  lengths = sym c.lengths_ok.ensures ∙ c.if-not-lengths_ok.false;
  version = eq-eqb _ _ (sym c.u16_at.ensures ∙ c.if-u16_at-ne-VERSION.false);
  counts = rw (← c.u16_at-b.ensures, ← c.u16_at-p.ensures, ← c.u16_at-n.ensures) (sym c.counts_ok.ensures ∙ c.if-not-counts_ok.false);
  offsets = sym c.offsets_ok.ensures ∙ c.if-not-offsets_ok.false;
  boards-are = c.u16_at-b.ensures;
  propositions-are = c.u16_at-p.ensures;
  nodes-are = c.u16_at-n.ensures;
}
