-- By cases on the form. Assumes nothing.
use mathlib.Core.Path.{◌≡◌, refl}
use Rattle.state.specs.declared.Form.{Form}
use Rattle.state.specs.declared.Form.TheVariants.{Plain}
use Rattle.state.specs.Form.{slots_most}
use Rattle.state.proofs.Form.slots_most.Goals as goal

by_form : (φ : Form) → 64 ≡ slots_most φ
by_form Plain = refl

pub returns : goal.returns
returns c = by_form c.args.self
