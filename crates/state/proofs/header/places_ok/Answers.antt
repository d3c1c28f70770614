-- Each place is compared with the one that the counts give: one that differs is enough, and the last decides. Assumes nothing.
use Rattle.std.proofs.Common.{sym, ◌∙◌}
use Rattle.state.proofs.Ends.{unequal-boards, unequal-slots, places-last}
use Rattle.state.proofs.header.places_ok.Goals as goal

pub returns-then-u16_at-ne-BOARDS_AT : goal.returns-then-u16_at-ne-BOARDS_AT
returns-then-u16_at-ne-BOARDS_AT c = unequal-boards _ (λ e. c.if-u16_at-ne-BOARDS_AT.true (c.u16_at.ensures ∙ e))

pub returns-then-u16_at-c : goal.returns-then-u16_at-c
returns-then-u16_at-c c =
    unequal-slots _ (sym c.u16_at.ensures ∙ c.if-u16_at-ne-BOARDS_AT.false) (λ e. c.if-u16_at-c.true (c.u16_at-2.ensures ∙ e ∙ sym c.requires.1.records-at))

pub returns : goal.returns
returns c =
    places-last _ (sym c.u16_at.ensures ∙ c.if-u16_at-ne-BOARDS_AT.false) (sym c.u16_at-2.ensures ∙ c.if-u16_at-c.false ∙ c.requires.1.records-at)
    c.u16_at-3.ensures c.requires.1.stretches-at
