-- What an accepted `print` has told and left: the text of the formula that its bytes are, in front (`print-told`). Assumes nothing.
use mathlib.Core.Path.{◌≡◌, sym, ap, ◌∙◌}
use mathlib.Core.List.{List, [], ◌∷◌, ◌++◌}
use Prim.Native.Nat.{ℕ, ◌-◌, ◌≤◌}
use lib.ListN.{length, get_or, take, replicate}
use lib.Seq.{take_at}
use borrow.Author.Tests.{leb-true}
use lib.Dec.{leb}
use Rattle.limits.specs.Limits.{propositions_most, rule_nodes_most, text_length}
use Rattle.lists.specs.Runs.{padded}
use Rattle.lists.proofs.Tests.{both-1}
use Rattle.answers.specs.Said.{Said, left}
use Rattle.answers.proofs.Answers.{left-accepted}
use Rattle.ltl.specs.Formula.{Formula, encode, Within}
use Rattle.ltl.specs.Decode.{formula_of}
use Rattle.nodes.proofs.Wholes.{whole}
use Rattle.text.specs.Printing.{printed}
use Rattle.printing.specs.Print.{print_says}
use Rattle.printing.proofs.Outcomes.{print-passed, says-printed}

pub record PrintTold (s text' : List ℕ) (n : ℕ) : Type 0 where
  pub formula : Formula
  pub within : Within propositions_most 0 formula
  pub bytes : s ≡ encode formula
  pub few : length s ≤ rule_nodes_most
  pub front : take n text' ≡ printed formula

pub print-told : (s text : List ℕ) {text' : List ℕ} {n : ℕ} → (print_says s (length text)).number ≡ 0
    → text' ≡ left (print_says s (length text)) (padded text_length (printed (formula_of s))) text
    → n ≡ get_or (print_says s (length text)).values 0 0 → PrintTold s text' n
print-told s text {text'} {n} zero leaves told =
    let o = print-passed s (length text) zero in
    let r = whole s o.rule in
    let f = r.formula-is in
    let e = says-printed s text o in
    let long : n ≡ length (printed f) = told ∙ ap (λ (x : Said). get_or x.values 0 0) e ∙ ap (λ (g : Formula). length (printed g)) r.same in
    let all : text' ≡ printed f ++ replicate (text_length - length (printed f)) 0 =
    leaves ∙ ap (λ (x : Said). left x (padded text_length (printed (formula_of s))) text) e
    ∙ left-accepted (length (printed (formula_of s)) ∷ []) (padded text_length (printed (formula_of s))) text ∙ ap (λ (g : Formula). padded text_length (printed g)) r.same in
    record {
      formula = f;
      within = r.within;
      bytes = r.bytes;
      few = leb-true (length s) rule_nodes_most (both-1 (leb 1 (length s)) (leb (length s) rule_nodes_most) o.count);
      front = ap (take n) all ∙ take_at (printed f) (replicate (text_length - length (printed f)) 0) n (sym long);
    }
