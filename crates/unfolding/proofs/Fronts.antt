-- What unfolding has written at the front of its output, cut off there: the bytes of the unfolded formula (`written-bytes`), and nothing
-- behind them (`written-front`). Assumes nothing.
use mathlib.Core.Path.{◌≡◌, sym, ap₂, ◌∙◌}
use mathlib.Core.List.{List, [], append-nil}
use Prim.Native.Nat.{ℕ}
use lib.ListN.{take, drop}
use lib.Seq.{take_at}
use Rattle.limits.specs.Limits.{propositions_most, holder_codes}
use Rattle.ltl.specs.Formula.{Formula, size, encode, Coded}
use Rattle.ltl.specs.Progression.{unfolded}
use Rattle.ltl.proofs.Decoding.{length-encode, unfolded-coded}
use Rattle.nodes.specs.Begins.{Front}
use Rattle.unfolding.specs.Unfolds.{UnfoldedTo}

module _ {f : Formula} {out out' : List ℕ} {written : ℕ} (x : UnfoldedTo f out out' written) where
  pub written-bytes : take written out' ≡ encode (unfolded f)
  written-bytes =
      let g = unfolded f in
      ap₂ take x.writes x.leaves ∙ take_at (encode g) (drop (size g) out) (size g) (length-encode g)

  pub written-front : Coded f → Front (take written out') (unfolded f) []
  written-front coded = record { coded = unfolded-coded propositions_most holder_codes f coded; bytes = written-bytes ∙ sym (append-nil (encode (unfolded f))) }
