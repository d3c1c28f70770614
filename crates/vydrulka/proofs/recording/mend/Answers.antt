-- There is a mark a record. Assumes nothing.
use Rattle.std.proofs.Common.{refl, arith}
use Rattle.vydrulka.proofs.Mended.{kept-within, clash-within}
use Rattle.vydrulka.proofs.recording.mend.Goals as goal

pub refused-requires : goal.refused-requires
refused-requires c why =
    let long = c.mend-answer.auto.marks in
    let within = clash-within _ _ _ _ _ _ _ refl why c.in-Err.ensures in
    omega arith

pub returns-in-Ok : goal.returns-in-Ok
returns-in-Ok c =
    let long = c.mend-answer.auto.marks in
    let few = kept-within _ _ _ _ _ _ _ refl c.in-Ok.ensures in
    (omega arith, omega arith)
