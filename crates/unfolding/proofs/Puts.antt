-- A number put at a place, and a run behind it: `put-behind`. Assumes nothing.
use mathlib.Core.Path.{◌≡◌, ap, ap₂, ◌∙◌}
use mathlib.Core.List.{List, [], ◌∷◌, ◌++◌, append_assoc}
use Prim.Native.Nat.{ℕ, ◌+◌, ◌<◌}
use native.Mathlib.Numerals.{add-one}
use native.Mathlib.Omega.{arith}
use lib.ListN.{length, set, take, drop}
use lib.Seq.{take-suc-set, drop-set-lt}

pub put-behind : (p x : List ℕ) (w v n : ℕ) → w < length p → {q : List ℕ} → q ≡ take (w + 1) (set p w v) ++ (x ++ drop (w + 1 + n) (set p w v)) → q ≡ take w p ++ ((v ∷ x) ++ drop (w + 1 + n) p)
put-behind p x w v n h e =
    e
    ∙ ap₂ (λ (a b : List ℕ). a ++ (x ++ b)) (ap (λ (i : ℕ). take i (set p w v)) (add-one w) ∙ take-suc-set p w v h) (drop-set-lt (w + 1 + n) p w v (omega arith))
    ∙ append_assoc (take w p) (v ∷ []) (x ++ drop (w + 1 + n) p)
