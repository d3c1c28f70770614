-- What `sample` answers and leaves, one law for each outcome, over plain lists. Assumes nothing.
use Rattle.std.specs.Prelude.{Ok, Err}
use mathlib.Core.Path.{◌≡◌, sym, ap, ◌∙◌}
use mathlib.Core.Bool.{true, false, not}
use mathlib.Core.List.{List, [], ◌∷◌}
use Prim.Native.Nat.{ℕ, ◌<◌, ◌≤◌}
use lib.Dec.{eqb}
use lib.Bits.{bit_and}
use borrow.Author.Tests.{lt-ltb, le-ltb, eq-eqb, ne_eqb}
use Rattle.answers.specs.declared.Refusal.{Refusal}
use Rattle.answers.specs.declared.Refusal.TheVariants.{State, Finished, Nowhere, Outside, Already}
use Rattle.answers.specs.Said.{Said, accepted, refused, left, number_of, check, in_order}
use Rattle.answers.proofs.Answers.{left-refused, left-accepted, order-ok, order-refused, order-done}
use Rattle.state.specs.Fields.{boards_in, mask_in, sampled_in}
use Rattle.state.specs.Clauses.{state_ok}
use Rattle.state.specs.Writes.{sample_given}
use Rattle.state.specs.Calls.{finished_in, sample_says}
use Rattle.taking.specs.Sample.{Samples}

module _ (s : List ℕ) (board bits : ℕ) where
  abbrev sampled : List ℕ
  sampled = sample_given s board bits

  -- a refusal leaves the state as it was
  refusal : (why : Refusal) → sample_says s board bits ≡ refused (number_of why) → Samples s board bits s (Err why)
  refusal why e = record { says = sym e; leaves = sym (ap (λ (x : Said). left x sampled s) e ∙ left-refused why sampled s) }

  pub refused-state : state_ok s ≡ false → Samples s board bits s (Err State)
  unfolding sample_says
  refused-state e = refusal State (order-refused 9 _ _ _ e)

  module _ (ok : state_ok s ≡ true) where
    pub refused-finished : finished_in s ≡ true → Samples s board bits s (Err Finished)
    unfolding sample_says
    refused-finished e = refusal Finished (order-ok 9 _ _ _ ok ∙ order-refused 10 _ _ _ (ap not e))

    module _ (going : finished_in s ≡ false) where
      pub refused-nowhere : boards_in s ≤ board → Samples s board bits s (Err Nowhere)
      unfolding sample_says
      refused-nowhere h = refusal Nowhere (order-ok 9 _ _ _ ok ∙ order-ok 10 _ _ _ (ap not going) ∙ order-refused 11 _ _ _ (le-ltb board (boards_in s) h))

      module _ (there : board < boards_in s) where
        pub refused-outside : (bit_and bits (mask_in s board) ≡ bits → ⊥) → Samples s board bits s (Err Outside)
        unfolding sample_says
        refused-outside h =
            refusal Outside
            (order-ok 9 _ _ _ ok ∙ order-ok 10 _ _ _ (ap not going) ∙ order-ok 11 _ _ _ (lt-ltb board (boards_in s) there)
            ∙ order-refused 12 _ _ _ (ne_eqb (bit_and bits (mask_in s board)) bits h))

        module _ (inside : bit_and bits (mask_in s board) ≡ bits) where
          passed : sample_says s board bits ≡ in_order (check 13 (eqb (sampled_in s board) 0) ∷ []) (accepted [])
          unfolding sample_says
          passed =
              order-ok 9 _ _ _ ok ∙ order-ok 10 _ _ _ (ap not going) ∙ order-ok 11 _ _ _ (lt-ltb board (boards_in s) there)
              ∙ order-ok 12 _ _ _ (eq-eqb (bit_and bits (mask_in s board)) bits inside)

          pub refused-already : (sampled_in s board ≡ 0 → ⊥) → Samples s board bits s (Err Already)
          refused-already h = refusal Already (passed ∙ order-refused 13 _ _ _ (ne_eqb (sampled_in s board) 0 h))

          pub done : sampled_in s board ≡ 0 → {s' : List ℕ} → s' ≡ sampled → Samples s board bits s' (Ok tt)
          done e put =
              let says : sample_says s board bits ≡ accepted [] = passed ∙ order-ok 13 _ _ _ (eq-eqb (sampled_in s board) 0 e) ∙ order-done _ in
              record { says = sym says; leaves = put ∙ sym (ap (λ (x : Said). left x sampled s) says ∙ left-accepted [] sampled s) }
