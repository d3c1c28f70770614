-- No counter is the same, so none clashes (`four-clear`). No loop. Assumes nothing.
use mathlib.Core.Path.{sym, ap, ◌∙◌}
use mathlib.Core.Bool.{not}
use Rattle.recordings.specs.Recording.{record_in}
use Rattle.inspecting.proofs.Looking.{four-clear}
use Rattle.inspecting.proofs.four_clear.Goals as goal

pub returns-then-not-any_same : goal.returns-then-not-any_same
returns-then-not-any_same c =
    let a = c.args in let none = c.if-not-any_same.true in
    ap not (none ∙ sym (four-clear (record_in a.recording.now) a.i (sym c.any_same.ensures ∙ none)))
