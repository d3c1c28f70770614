-- What is put and what is to come is the print, from node to node. Assumes nothing.
use mathlib.Core.List.{[], ◌∷◌}
use Rattle.text.specs.Printing.{printed}
use Rattle.peeling.specs.Peeled.{peeled}
use Rattle.showing.specs.Shows.{ShowWithin, Showing}
use Rattle.showing.proofs.show_with.Given as goal

abbrev pub invariant-loop-b : goal.invariant-loop-b
invariant-loop-b l = (a : ShowWithin l.formula l.initial.text l.initial.dues) → Showing l.text l.dues l.pen.at l.pen.top l.pen.level (peeled l.b-index (a.formula ∷ [])) (printed a.formula)
