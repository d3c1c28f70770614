-- What the tests of a recording's length and header tell where they pass (`total-long`, `header-long`). Assumes nothing.
use mathlib.Core.Path.{◌≡◌, sym, ◌∙◌}
use mathlib.Core.Bool.{true}
use mathlib.Core.List.{List}
use Prim.Native.Nat.{ℕ, ◌≤◌}
use lib.ListN.{length}
use borrow.Author.Tests.{eqb-true, leb-true}
use Rattle.lists.proofs.Tests.{both-0, both-1}
use Rattle.recordings.specs.Recording.{records_at, recording_length, count_in, total_in, total_ok, header_ok}

module _ (s : List ℕ) where
  pub total-long : total_ok s ≡ true → records_at ≤ length s
  unfolding total_ok
  total-long e = leb-true records_at (length s) (both-0 _ _ e)

  pub header-long : total_ok s ≡ true → header_ok s ≡ true → length s ≡ recording_length (count_in s)
  unfolding total_ok header_ok
  header-long e f =
      sym (eqb-true (total_in s) (length s) (both-1 _ _ e)) ∙ eqb-true (total_in s) (recording_length (count_in s)) (both-0 _ _ (both-1 _ _ f))
