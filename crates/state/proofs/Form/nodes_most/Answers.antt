-- By cases on the form. Assumes nothing.
use mathlib.Core.Path.{◌≡◌, refl}
use Rattle.state.specs.declared.Form.{Form}
use Rattle.state.specs.declared.Form.TheVariants.{Plain}
use Rattle.state.specs.Form.{nodes_most}
use Rattle.state.proofs.Form.nodes_most.Goals as goal

by_form : (φ : Form) → 4096 ≡ nodes_most φ
by_form Plain = refl

pub returns : goal.returns
returns c = by_form c.args.self
