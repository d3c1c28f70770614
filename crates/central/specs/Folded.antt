-- What is left of the call once its formula is folded: the last check, and the outcome. Assumes nothing: these are definitions.
use Rattle.answers.specs.declared.Refusal.{Refusal}
use Rattle.central.specs.declared.Progress.{Progress}
use Rattle.std.specs.Prelude.{◌≡◌, List, [], ◌∷◌, ℕ, ◌≤◌, length, leb, Result}
use Rattle.lists.specs.Runs.{padded}
use Rattle.answers.specs.Said.{Said, accepted, left, check, in_order}
use Rattle.limits.specs.Limits.{central_nodes_most}
use Rattle.ltl.specs.Formula.{Formula, size, encode}
use Rattle.ltl.specs.Meaning.{Event}
use Rattle.ltl.specs.Progression.{unfolded, progressed}
use Rattle.nodes.specs.Begins.{Front}
use Rattle.folded.specs.Folding.{folded}
use Rattle.central.specs.Central.{answer_of, said_central}

-- the bytes are one formula, of no more than the most, and the output has its length
pub record FormulaGiven (most : ℕ) (formula output : List ℕ) : Type 0 where
  pub whole : Formula
  pub front : Front formula whole []
  pub few : length formula ≤ most
  pub room : length output ≡ central_nodes_most

-- p is as long as the most
pub record FoldGiven (formula p output : List ℕ) : Type 0 where
  pub given : FormulaGiven (length p) formula output
  pub few : length p ≤ central_nodes_most

-- 8, or what the formula g is progressed to
abbrev pub folded_says : Formula → Event → Said
folded_says g event = in_order (check 8 (leb (size (unfolded g)) central_nodes_most) ∷ []) (accepted (answer_of (progressed event g)))

pub record Outcomed (g : Formula) (event : Event) (output output' : List ℕ) (answer : Result Progress Refusal) : Type 0 where
  pub says : said_central answer ≡ folded_says g event
  pub leaves : output' ≡ left (folded_says g event) (padded central_nodes_most (encode (progressed event g))) output

-- of a formula that is folded
abbrev pub AsGiven : List ℕ → Event → List ℕ → List ℕ → Result Progress Refusal → Type 0
AsGiven formula event output output' answer = (g : Formula) → Front formula g [] → Outcomed g event output output' answer

-- of one that is folded first
abbrev pub AsFolded : List ℕ → Event → List ℕ → List ℕ → Result Progress Refusal → Type 0
AsFolded formula event output output' answer = (f : Formula) → Front formula f [] → Outcomed (folded f) event output output' answer
