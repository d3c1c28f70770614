-- A column of the boards' records, the rows being those of the form that the length tells. Assumes nothing.
use mathlib.Core.Path.{◌≡◌, ap, ◌∙◌}
use lib.ListN.{drop}
use Rattle.state.specs.Form.{form_in, board_row}
use Rattle.state.proofs.Columns.{column-ask, masks-are}
use Rattle.state.proofs.boards.masks_of.Goals as goal

pub column-requires : goal.column-requires
column-requires c =
    let row_is : c.board_row.result ≡ board_row (form_in c.args.s.now) = c.board_row.ensures ∙ ap board_row c.from-form.ensures in
    column-ask c.args.s.now c.requires.0 _ c.requires.1 (row_is) c.requires.2

pub returns : goal.returns
returns c =
    let row_is : c.board_row.result ≡ board_row (form_in c.args.s.now) = c.board_row.ensures ∙ ap board_row c.from-form.ensures in
    let a = c.args in
    masks-are a.s.now a.n (drop a.n a.out.now) (row_is) c.column.ensures
