-- A rule folded, its verdict before any event, and a tick in one place. Assumes nothing: these are definitions.
use Rattle.answers.specs.declared.Refusal.{Refusal}
use Rattle.central.specs.declared.Progress.{Progress}
use Rattle.std.specs.Prelude.{◌≡◌, true, ℕ, ◌≤◌, List, length, take, eqb, Result}
use Rattle.lists.specs.Tests.{pick}
use Rattle.answers.specs.declared.Verdict.{Verdict}
use Rattle.answers.specs.declared.Verdict.TheVariants.{False, True, Pending}
use Rattle.limits.specs.Limits.{propositions_most}
use Rattle.ltl.specs.Formula.{encode}
use Rattle.ltl.specs.Decode.{is_rule, formula_of}
use Rattle.folded.specs.Folding.{folded}
use Rattle.central.specs.Central.{Centrally}

-- only a rule that is a constant has a verdict: 0 is false, 1 is true
unfoldable pub verdict_before : ℕ → ℕ → Verdict
verdict_before first nodes = pick (eqb nodes 1) (pick (eqb first 0) False (pick (eqb first 1) True Pending)) Pending

-- where the first bytes of a buffer are a rule, the folded rule takes their place
abbrev pub FoldsFirst : List ℕ → ℕ → List ℕ → ℕ → Type 0
FoldsFirst held nodes held' n = nodes ≤ length held → is_rule propositions_most (take nodes held) ≡ true → take n held' ≡ encode (folded (formula_of (take nodes held)))

-- the first bytes of a buffer, where there are so many, are progressed by the call's promise
abbrev pub ProgressedFrom : List ℕ → ℕ → ℕ → List ℕ → List ℕ → Result Progress Refusal → Type 0
ProgressedFrom held nodes event output output' answer = nodes ≤ length held → Centrally (take nodes held) event output output' answer
