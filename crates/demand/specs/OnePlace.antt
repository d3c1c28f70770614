-- Progressing a file's whole rule in one place by the call `central`: the formula's bytes after some events, each call accepted, and what
-- one has put into its output handed to the next. Assumes nothing: these are definitions.
use Rattle.std.specs.Prelude.{List, [], ◌∷◌, ◌++◌, ℕ, take, Ok, Err}
use Rattle.ltl.specs.Meaning.{Event}
use Rattle.rules.specs.RuleFile.{formula_in_file}
use Rattle.central.specs.declared.Progress.{Progress}
use Rattle.central.specs.Central.{Centrally}

pub data InOnePlace (file : List ℕ) : List Event → List ℕ → Type 0 where
  given : InOnePlace file [] (formula_in_file file)
  progressed : {us : List Event} {bytes : List ℕ} → InOnePlace file us bytes → (e : Event) (output output' : List ℕ) (p : Progress) → Centrally bytes e output output' (Ok p)
      → InOnePlace file (us ++ (e ∷ [])) (take p.length output')
