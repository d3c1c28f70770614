-- What `central` answers and leaves, one law for each outcome, over plain lists. Assumes nothing.
use Rattle.std.specs.Prelude.{Result, Ok, Err}
use Rattle.central.specs.declared.Progress.{Progress}
use mathlib.Core.Path.{◌≡◌, sym, ap, ◌∙◌, subst}
use mathlib.Core.Bool.{true, false}
use mathlib.Core.List.{List}
use Prim.Native.Nat.{ℕ, ◌+◌, ◌<◌, ◌≤◌, min}
use native.Mathlib.Omega.{arith}
use lib.ListN.{length}
use borrow.Author.Tests.{le-leb, lt-leb, leb-true, eqb-true}
use Rattle.limits.specs.Limits.{propositions_most, central_nodes_most, nodes_room}
use Rattle.lists.specs.Runs.{padded}
use Rattle.answers.specs.declared.Refusal.{Refusal}
use Rattle.answers.specs.declared.Refusal.TheVariants.{Length, Formula, Nodes}
use Rattle.answers.specs.declared.Verdict.{Verdict}
use Rattle.answers.specs.Said.{Said, accepted, refused, left, number_of}
use Rattle.answers.proofs.Answers.{left-refused, left-accepted, order-ok, order-refused, order-done}
use Rattle.ltl.specs.Formula.{size, encode}
use Rattle.ltl.specs.Formula as formula
use Rattle.ltl.specs.Meaning.{Event}
use Rattle.ltl.specs.Progression.{unfolded, progressed, verdict_of}
use Rattle.ltl.specs.Decode.{is_rule}
use Rattle.lists.proofs.Tests.{both-0, both-1}
use Rattle.nodes.proofs.Wholes.{whole}
use Rattle.folded.specs.Folding.{folded}
use Rattle.central.specs.Central.{central_lengths_ok, answer_of, start_of, central_says, Centrally}
use Rattle.central.specs.Folded.{folded_says, Outcomed, AsFolded}

-- ---- what the checks tell
pub record CentralPassed (n room : ℕ) : Type 0 where
  pub some : 1 ≤ n
  pub few : n ≤ central_nodes_most
  pub room-is : room ≡ central_nodes_most

pub central-passed : (n room : ℕ) → central_lengths_ok n room ≡ true → CentralPassed n room
unfolding central_lengths_ok
central-passed n room e =
    let a = both-1 _ _ e in
    record { some = leb-true _ _ (both-0 _ _ e); few = leb-true _ _ (both-0 _ _ a); room-is = eqb-true _ _ (both-1 _ _ a) }

-- ---- a formula that is folded
module _ (g : formula.Formula) (event : Event) (out : List ℕ) where
  abbrev outcome : List ℕ
  outcome = padded central_nodes_most (encode (progressed event g))

  module _ {count : ℕ} (c : count ≡ min (size (unfolded g)) (nodes_room + 1)) where
    pub outcome-nodes : central_nodes_most < count → Outcomed g event out out (Err Nodes)
    outcome-nodes h =
        let e : folded_says g event ≡ refused 8 = order-refused 8 _ _ _ (lt-leb (size (unfolded g)) central_nodes_most (omega arith)) in
        record { says = sym e; leaves = sym (ap (λ (x : Said). left x outcome out) e ∙ left-refused Nodes outcome out) }

    pub outcome-progressed : count ≤ central_nodes_most → (out' : List ℕ) (k : ℕ) (v : Verdict) → out' ≡ outcome → k ≡ size (progressed event g) → v ≡ verdict_of (progressed event g)
        → Outcomed g event out out' (Ok (record { verdict = v; length = k }))
    outcome-progressed h out' k v b i q =
        let says : folded_says g event ≡ accepted (answer_of (progressed event g)) = order-ok 8 _ _ _ (le-leb (size (unfolded g)) central_nodes_most (omega arith)) ∙ order-done _ in
        record { says = rw (q, i) (sym says); leaves = b ∙ sym (ap (λ (x : Said). left x outcome out) says ∙ left-accepted (answer_of (progressed event g)) outcome out) }

-- ---- the call
module _ (s : List ℕ) (event : Event) (out : List ℕ) where
  -- a refusal leaves the output as it was
  refusal : (why : Refusal) → central_says s event (length out) ≡ refused (number_of why) → Centrally s event out out (Err why)
  refusal why e =
      let o = padded central_nodes_most (encode (progressed event (start_of s))) in
      record { says = sym e; leaves = sym (ap (λ (x : Said). left x o out) e ∙ left-refused why o out) }

  pub refused-length : central_lengths_ok (length s) (length out) ≡ false → Centrally s event out out (Err Length)
  unfolding central_says
  refused-length e = refusal Length (order-refused 1 _ _ _ e)

  module _ (l : central_lengths_ok (length s) (length out) ≡ true) where
    pub refused-formula : is_rule propositions_most s ≡ false → Centrally s event out out (Err Formula)
    unfolding central_says
    refused-formula e = refusal Formula (order-ok 1 _ _ _ l ∙ order-refused 6 _ _ _ e)

    module _ (r : is_rule propositions_most s ≡ true) where
      says-folded : central_says s event (length out) ≡ folded_says (start_of s) event
      unfolding central_says
      says-folded = order-ok 1 _ _ _ l ∙ order-ok 6 _ _ _ r

      pub progressed-rule : {out' : List ℕ} {answer : Result Progress Refusal} → AsFolded s event out out' answer → Centrally s event out out' answer
      progressed-rule {out'} {answer} h =
          let w = whole s r in
          let o = subst (λ (f : formula.Formula). Outcomed (folded f) event out out' answer) (sym w.same) (h w.formula-is w.front) in
          record { says = o.says ∙ sym says-folded; leaves = o.leaves ∙ ap (λ (x : Said). left x (padded central_nodes_most (encode (progressed event (start_of s)))) out) (sym says-folded) }
