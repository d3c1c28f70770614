-- Bytes that are a rule's formula: that formula, and that they are its bytes and nothing else (`whole`). Assumes nothing.
use mathlib.Core.Path.{◌≡◌, sym, ap, ◌∙◌}
use mathlib.Core.Bool.{true}
use mathlib.Core.List.{List, [], append-nil}
use Prim.Native.Nat.{ℕ}
use native.Mathlib.Omega.{arith}
use Rattle.limits.specs.Limits.{propositions_most, holder_codes}
use Rattle.ltl.specs.Formula.{Formula, encode, Within}
use Rattle.ltl.specs.Decode.{decoded, is_rule, formula_of, some_formula}
use Rattle.ltl.proofs.Decoding.{rule-is, decoded-of, wider}
use Rattle.nodes.specs.Begins.{Front}

pub record Whole (s : List ℕ) : Type 0 where
  pub formula-is : Formula
  pub within : Within propositions_most 0 formula-is
  pub bytes : s ≡ encode formula-is
  pub front : Front s formula-is []
  pub same : formula_of s ≡ formula-is

pub whole : (s : List ℕ) → is_rule propositions_most s ≡ true → Whole s
whole s e =
    let t = rule-is propositions_most s e in
    let f = t.formula in
    let c = wider propositions_most 0 propositions_most holder_codes (omega arith) (omega arith) f t.within in
    record {
      formula-is = f;
      within = t.within;
      bytes = t.bytes;
      front = record { coded = c; bytes = t.bytes ∙ sym (append-nil (encode f)) };
      same = ap some_formula (ap decoded t.bytes ∙ decoded-of f c);
    }
