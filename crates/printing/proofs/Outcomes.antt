-- What `print` answers and leaves by the check that decides, one law for each outcome, over plain lists, in the order of the checks;
-- what an accepted call's checks told (`print-passed`), and the formula that it is lent then (`printable`). Assumes nothing.
use Rattle.std.specs.Prelude.{Ok, Err}
use mathlib.Core.Path.{◌≡◌, sym, ap, ◌∙◌}
use mathlib.Core.Bool.{true, false}
use mathlib.Core.List.{List, [], ◌∷◌}
use Prim.Native.Nat.{ℕ}
use native.Mathlib.Omega.{arith}
use lib.ListN.{length}
use lib.Dec.{eqb, leb}
use borrow.Author.Tests.{eqb-true, leb-true}
use Rattle.limits.specs.Limits.{propositions_most, rule_nodes_most, text_length}
use Rattle.lists.specs.Tests.{in_range}
use Rattle.lists.specs.Runs.{padded}
use Rattle.lists.proofs.Tests.{both-1}
use Rattle.answers.specs.declared.Refusal.{Refusal}
use Rattle.answers.specs.declared.Refusal.TheVariants.{Length, Range, Formula}
use Rattle.answers.specs.Said.{Said, accepted, refused, left, number_of}
use Rattle.answers.proofs.Answers.{left-refused, left-accepted, order-ok, order-refused, order-done, order-passed}
use Rattle.ltl.specs.Formula as formula
use Rattle.ltl.specs.Decode.{formula_of, is_rule}
use Rattle.nodes.proofs.Wholes.{whole}
use Rattle.text.specs.Printing.{printed}
use Rattle.printing.specs.Print.{print_says, Prints, Printable, PrintsTo}

-- ---- what the checks tell
pub record PrintPassed (s : List ℕ) (room : ℕ) : Type 0 where
  pub space : eqb room text_length ≡ true
  pub count : in_range rule_nodes_most (length s) ≡ true
  pub rule : is_rule propositions_most s ≡ true

pub print-passed : (s : List ℕ) (room : ℕ) → (print_says s room).number ≡ 0 → PrintPassed s room
unfolding print_says
print-passed s room e =
    let q = order-passed _ _ (omega arith, (omega arith, (omega arith, tt))) e in
    record { space = q.0; count = q.1.0; rule = q.1.1.0 }

pub printable : {s : List ℕ} (text : List ℕ) → PrintPassed s (length text) → Printable s text
printable {s} text o =
    let b = whole s o.rule in
    record {
      formula = b.formula-is;
      front = b.front;
      few = leb-true (length s) rule_nodes_most (both-1 (leb 1 (length s)) (leb (length s) rule_nodes_most) o.count);
      room = eqb-true (length text) text_length o.space;
    }

-- ---- the call
module _ (s text : List ℕ) where
  abbrev output : List ℕ
  output = padded text_length (printed (formula_of s))

  -- a refusal leaves the output as it was
  refusal : (why : Refusal) → print_says s (length text) ≡ refused (number_of why) → Prints s text text (Err why)
  refusal why e = record { says = sym e; leaves = sym (ap (λ (x : Said). left x output text) e ∙ left-refused why output text) }

  pub print-length : eqb (length text) text_length ≡ false → Prints s text text (Err Length)
  unfolding print_says
  print-length h = refusal Length (order-refused 1 _ _ _ h)

  module _ (o₁ : eqb (length text) text_length ≡ true) where
    pub print-range : in_range rule_nodes_most (length s) ≡ false → Prints s text text (Err Range)
    unfolding print_says
    print-range h = refusal Range (order-ok 1 _ _ _ o₁ ∙ order-refused 3 _ _ _ h)

    module _ (o₂ : in_range rule_nodes_most (length s) ≡ true) where
      pub print-formula : is_rule propositions_most s ≡ false → Prints s text text (Err Formula)
      unfolding print_says
      print-formula h = refusal Formula (order-ok 1 _ _ _ o₁ ∙ order-ok 3 _ _ _ o₂ ∙ order-refused 6 _ _ _ h)

  pub says-printed : PrintPassed s (length text) → print_says s (length text) ≡ accepted (length (printed (formula_of s)) ∷ [])
  unfolding print_says
  says-printed o = order-ok 1 _ _ _ o.space ∙ order-ok 3 _ _ _ o.count ∙ order-ok 6 _ _ _ o.rule ∙ order-done _

  pub print-printed : PrintPassed s (length text) → {text' : List ℕ} {n : ℕ} → PrintsTo s text' n → Prints s text text' (Ok n)
  print-printed o {text'} {n} p =
      let b = whole s o.rule in
      let q = p b.formula-is b.front in
      let e = says-printed o in
      let l : n ≡ length (printed (formula_of s)) = q.long ∙ ap (λ (f : formula.Formula). length (printed f)) (sym b.same) in
      record {
        says = ap (λ (m : ℕ). accepted (m ∷ [])) l ∙ sym e;
        leaves =
            q.leaves ∙ ap (λ (f : formula.Formula). padded text_length (printed f)) (sym b.same)
            ∙ sym (ap (λ (x : Said). left x output text) e ∙ left-accepted (length (printed (formula_of s)) ∷ []) output text);
      }
