-- The worked values that are proved: one table, one theorem, `stars`. Its rows stand in seven files, by what they are about.
-- Assumes nothing.
use Rattle.stars.proofs.Progressions.{Progressions, progressions}
use Rattle.stars.proofs.Layouts.{Layouts, layouts}
use Rattle.stars.proofs.Split.{SplitUntil, split}
use Rattle.stars.proofs.Surviving.{Surviving, surviving}
use Rattle.stars.proofs.Renumbered.{Renumbered, renumbered}
use Rattle.stars.proofs.Kept.{KeptBoards, kept}
use Rattle.stars.proofs.Unsplit.{Unsplit, unsplit}

pub record Stars : Type 0 where
  -- rules progressed in one place
  pub in-one-place : Progressions
  -- rules laid out
  pub laid_out : Layouts
  -- a until b, split over two boards
  pub over-two : SplitUntil
  -- always a, or always b: a slot that survives, two orders of one tick, refused calls in between, the verdict false
  pub surviving-two : Surviving
  -- two slots stepped in either order, one of which survives with another number
  pub renumbered-two : Renumbered
  -- slots that keep their board where another would be chosen
  pub kept-two : KeptBoards
  -- rules that stay on one board
  pub on_one : Unsplit

pub stars : Stars
stars = record { in-one-place = progressions; laid_out = layouts; over-two = split; surviving-two = surviving; renumbered-two = renumbered; kept-two = kept; on_one = unsplit }
