-- The buffer in two parts: the formula's bytes, and zeros behind them (`built-into`). Assumes nothing.
use mathlib.Core.Path.{◌≡◌, refl, sym, ap, ◌∙◌}
use mathlib.Core.List.{List, ◌++◌}
use Prim.Native.Nat.{ℕ, ◌-◌, ◌≤◌}
use native.Mathlib.Omega.{arith}
use lib.ListN.{length, take, drop, replicate, length-append, length-drop}
use lib.Seq.{length-take-le}
use Rattle.lists.specs.Runs.{tail, tail_as, padded}
use Rattle.lists.proofs.Stretches.{tail-clear}
use Rattle.limits.specs.Limits.{rule_nodes_most}
use Rattle.ltl.specs.Formula.{Formula, encode}
use Rattle.text.specs.Grammar.{Text}
use Rattle.building.specs.Nodes.{nodes_in}
use Rattle.parsing.specs.Building.{BuildAsk, BuiltInto}

module _ {text formula : List ℕ} {n : ℕ} (a : BuildAsk text formula n) where
  -- the part that is lent has n bytes
  pub lent-long : length (take n formula) ≡ n
  lent-long = length-take-le n formula a.few

  pub lent-count : (nodes_in text ≡ length (take n formula)) × (length (take n formula) ≤ rule_nodes_most)
  lent-count = let l = lent-long in let r = a.room in let f = a.few in (sym a.count ∙ sym l, omega arith)

  -- it comes back as p
  module _ (p : List ℕ) (kept : length p ≡ length (take n formula)) where
    long : length p ≡ n
    long = kept ∙ lent-long

    pub handed-long : n ≤ length (p ++ drop n formula)
    handed-long = let l = long in let e = length-append p (drop n formula) in omega arith

    pub built-into : ((f : Formula) → Text text f → p ≡ encode f) → (q : List ℕ) → q ≡ replicate (length (tail n (p ++ drop n formula))) 0
        → BuiltInto text formula (tail_as n (p ++ drop n formula) q)
    built-into is q cleared f x =
        tail-clear (p ++ drop n formula) p (drop n formula) n refl long q cleared
        ∙ ap (λ (m : ℕ). p ++ replicate {A = ℕ} m 0) (length-drop n formula ∙ ap (λ (m : ℕ). length formula - m) (sym long))
        ∙ ap (λ (b : List ℕ). padded (length formula) b) (is f x)
