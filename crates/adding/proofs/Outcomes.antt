-- One law for each way out of `add`: a length that is wrong (`total-wrong`, `night-wrong`), too many runs (`too_many`), numbers that do not
-- agree (`disagree`), and the sum (`added-up`). Assumes nothing.
use Rattle.std.specs.Prelude.{Ok, Err}
use mathlib.Core.Path.{◌≡◌, sym, ap, ap₂, ◌∙◌}
use mathlib.Core.Bool.{true, false, ◌&&◌}
use mathlib.Core.List.{List, [], ◌∷◌}
use Prim.Native.Nat.{ℕ, ◌+◌, ◌<◌, ◌≤◌}
use native.Mathlib.Omega.{arith}
use lib.ListN.{length}
use borrow.Author.Tests.{eq-eqb, ne_eqb, le-leb, lt-leb}
use Rattle.limits.specs.Limits.{runs_most, rules_most}
use Rattle.lists.specs.Tests.{both}
use Rattle.lists.proofs.Tests.{both-0, both-1, both_true}
use Rattle.answers.specs.Said.{Said, accepted, refused, number_of, check, Check, in_order, left}
use Rattle.answers.specs.declared.Refusal.{Refusal}
use Rattle.answers.specs.declared.Refusal.TheVariants.{Length, Range, Offset}
use Rattle.answers.proofs.Answers.{order-ok, order-refused, order-done, left-refused, left-accepted}
use Rattle.reports.specs.Bytes.{report_length, runs_told}
use Rattle.adding.specs.declared.Survey.{Survey}
use Rattle.adding.proofs.Looking.{and-both}
use Rattle.adding.specs.Add.{reports_long, runs_together, both_agree, add_says, sum_for, AddsReport, Surveyed, AddAsk}

module _ (total night : List ℕ) where
  -- the checks behind the first, and behind the second
  abbrev fourth : List Check
  fourth = check 4 (both_agree total night) ∷ []

  abbrev third : List Check
  third = check 3 (runs_together total night) ∷ fourth

  refuses : (why : Refusal) → add_says total night ≡ refused (number_of why) → AddsReport total night total (Err why)
  refuses why e =
      record { says = sym e; leaves = sym (ap (λ (a : Said). left a (sum_for total night) total) e ∙ left-refused why (sum_for total night) total) }

  -- ---- lengths
  length-refused : reports_long total night ≡ false → AddsReport total night total (Err Length)
  unfolding add_says
  length-refused e = refuses Length (order-refused 1 (reports_long total night) third (accepted []) e)

  pub total-wrong : (length total ≡ report_length → ⊥) → AddsReport total night total (Err Length)
  unfolding reports_long both
  total-wrong n = length-refused (rw (ne_eqb (length total) report_length n))

  module _ (total-long : length total ≡ report_length) where
    pub night-wrong : (length night ≡ report_length → ⊥) → AddsReport total night total (Err Length)
    unfolding reports_long both
    night-wrong n = length-refused (rw (eq-eqb (length total) report_length total-long, ne_eqb (length night) report_length n))

    module _ (night-long : length night ≡ report_length) where
      says-third : add_says total night ≡ in_order third (accepted [])
      unfolding add_says reports_long
      says-third =
          order-ok 1 (reports_long total night) third (accepted [])
          (both_true _ _ (eq-eqb (length total) report_length total-long) (eq-eqb (length night) report_length night-long))

      -- ---- runs
      module _ {x y : Survey} (first : Surveyed total x) (second : Surveyed night y) where
        pub too_many : runs_most < x.runs + y.runs → AddsReport total night total (Err Range)
        unfolding runs_together
        too_many h =
            let p = first.runs in let q = second.runs in
            refuses Range (says-third ∙ order-refused 3 (runs_together total night) fourth (accepted [])
            (lt-leb (runs_told total rules_most + runs_told night rules_most) runs_most (omega arith)))

        module _ (few : x.runs + y.runs ≤ runs_most) where
          says-fourth : add_says total night ≡ in_order fourth (accepted [])
          unfolding runs_together
          says-fourth =
              let p = first.runs in let q = second.runs in
              says-third ∙ order-ok 3 (runs_together total night) fourth (accepted []) (le-leb (runs_told total rules_most + runs_told night rules_most) runs_most (omega arith))

          -- ---- numbers
          agree-told : both_agree total night ≡ x.agrees && y.agrees
          unfolding both_agree
          agree-told = sym (and-both x.agrees y.agrees ∙ ap₂ both first.agrees second.agrees)

          pub disagree : x.agrees && y.agrees ≡ false → AddsReport total night total (Err Offset)
          disagree e = refuses Offset (says-fourth ∙ order-refused 4 (both_agree total night) [] (accepted []) (agree-told ∙ e))

          module _ (agree : x.agrees && y.agrees ≡ true) where
            pub add-asked : AddAsk total night
            add-asked =
                let p = first.runs in let q = second.runs in
                let two = sym (and-both x.agrees y.agrees) ∙ agree in
                record {
                  total-long = total-long;
                  night-long = night-long;
                  few = omega arith;
                  total-agrees = sym first.agrees ∙ both-0 x.agrees y.agrees two;
                  night-agrees = sym second.agrees ∙ both-1 x.agrees y.agrees two;
                }

            pub added-up : {total' : List ℕ} → total' ≡ sum_for total night → AddsReport total night total' (Ok tt)
            added-up e =
                let says : add_says total night ≡ accepted [] =
                says-fourth ∙ order-ok 4 (both_agree total night) [] (accepted []) (agree-told ∙ agree) ∙ order-done (accepted []) in
                record {
                  says = sym says;
                  leaves = e ∙ sym (ap (λ (a : Said). left a (sum_for total night) total) says ∙ left-accepted [] (sum_for total night) total);
                }
