-- The text in the output: there is room for it (`print-asks`, `print-fits`), and behind it the rest is cleared (`print-done`).
-- Assumes nothing.
use mathlib.Core.Path.{◌≡◌, sym, ap, ◌∙◌}
use mathlib.Core.List.{List, [], ◌++◌}
use Prim.Native.Nat.{ℕ, ◌-◌, ◌≤◌}
use native.Mathlib.Omega.{arith}
use lib.ListN.{length, drop, replicate, length-drop, take-append-drop}
use Rattle.limits.specs.Limits.{text_length}
use Rattle.lists.specs.Runs.{tail, tail_as}
use Rattle.lists.proofs.Stretches.{tail-clear}
use Rattle.nodes.proofs.Fronts.{front_length}
use Rattle.text.specs.Printing.{printed}
use Rattle.text.proofs.Prints.{printed-few}
use Rattle.showing.specs.Shows.{ShowAsk, Shows}
use Rattle.printing.specs.Print.{Printable, PrintsTo}

module _ {s text : List ℕ} (a : Printable s text) where
  -- the text of the formula is no longer than the output
  space : length (printed a.formula) ≤ length text
  space =
      let n = front_length s a.formula [] a.front in
      let h = printed-few a.formula in
      let f = a.few in
      let r = a.room in
      omega arith

  pub print-asks : ShowAsk s text
  print-asks = record { formula = a.formula; front = a.front; space = space; few = a.few }

  -- t is what showing left
  module _ (t : List ℕ) (l : length t ≡ length text) (r : ℕ) (x : Shows s t r) where
    pub print-fits : r ≤ length t
    print-fits = let e = (x a.formula a.front).ends in let h = space in omega arith

    pub print-done : {q : List ℕ} → q ≡ replicate (length (tail r t)) 0 → PrintsTo s (tail_as r t q) r
    print-done {q} e f y =
        let h = x f y in
        let n = h.ends in
        let d = length-drop r t in
        let m = a.room in
        let k : length (drop r t) ≡ text_length - length (printed f) = omega arith in
        record {
          long = n;
          leaves =
              tail-clear t (printed f) (drop r t) r (sym (take-append-drop r t) ∙ ap (◌++ drop r t) h.holds) (sym n) q e
              ∙ ap (λ (j : ℕ). printed f ++ replicate j 0) k;
        }
