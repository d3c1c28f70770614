-- When a tick is done. Assumes nothing: these are definitions.
use Rattle.std.specs.Prelude.{ℕ, Bool, List, eqb}
use Rattle.state.specs.Fields.{boards_in, slots_in, sampled_in, stepped_in}
use Rattle.state.specs.Clauses.{each_below}

abbrev pub all_sampled : List ℕ → Bool
all_sampled s = each_below (boards_in s) (λ i. eqb (sampled_in s i) 1)

abbrev pub all_stepped : List ℕ → Bool
all_stepped s = each_below (slots_in s) (λ k. eqb (stepped_in s k) 1)
