-- The rule folded before any event: what folding asks, and what is left in its place. Assumes nothing.
use mathlib.Core.Path.{◌≡◌, sym, ap, ◌∙◌}
use mathlib.Core.Bool.{true}
use mathlib.Core.List.{List, ◌++◌, append-nil}
use Prim.Native.Nat.{ℕ, ◌-◌, ◌≤◌}
use native.Mathlib.Omega.{arith}
use lib.ListN.{length, take, drop}
use lib.Seq.{take_at}
use Rattle.limits.specs.Limits.{propositions_most, central_nodes_most, nodes_room}
use Rattle.lists.specs.Runs.{tail}
use Rattle.lists.proofs.Parts.{tail-is, tail-length}
use Rattle.ltl.specs.Formula.{Formula, encode}
use Rattle.ltl.specs.Decode.{is_rule, formula_of}
use Rattle.folded.specs.Folding.{folded}
use Rattle.folding.specs.Folds.{FoldAsk, Folds}
use Rattle.nodes.proofs.Wholes.{whole}

module _ {s : List ℕ} (r : is_rule propositions_most s ≡ true) where
  pub first-ask : {p : List ℕ} → length s ≤ central_nodes_most → length p ≡ central_nodes_most → FoldAsk nodes_room s p
  first-ask l e = let w = whole s r in record { formula = w.formula-is; front = w.front; few = l; fits = omega arith; room = omega arith }

  pub first-inside : {p : List ℕ} {w : ℕ} → Folds s p w → w ≤ length p
  first-inside h = let x = whole s r in (h.means x.formula-is x.front).0

  pub first-folds : {p held' : List ℕ} {w : ℕ} (held : List ℕ) → Folds s p w → held' ≡ tail w p ++ drop (length (tail w p)) held → take (length p - w) held' ≡ encode (folded (formula_of s))
  first-folds {p} {held'} {w} held h e =
      let x = whole s r in
      let f = h.means x.formula-is x.front in
      let bytes : tail w p ≡ encode (folded (formula_of s)) = tail-is w p ∙ f.1.bytes ∙ append-nil (encode (folded x.formula-is)) ∙ ap (λ (g : Formula). encode (folded g)) (sym x.same) in
      ap (take (length p - w)) e ∙ take_at (tail w p) (drop (length (tail w p)) held) (length p - w) (tail-length w p) ∙ bytes
