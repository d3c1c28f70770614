-- How many tokens a formula takes (`spelt-outer`), and where the tokens of a register end (`kept-outer`): both by the formulas alone, so
-- that room can be told before anything is written. Assumes nothing.
use mathlib.Core.Path.{◌≡◌, ap, ◌∙◌}
use mathlib.Core.Bool.{false}
use mathlib.Core.List.{List, [], ◌∷◌, ◌++◌}
use Prim.Native.Nat.{ℕ, zero, suc, ◌+◌, ◌-◌, ◌<◌, ◌≤◌}
use native.Mathlib.Omega.{arith}
use lib.ListN.{length, get_or, take, drop, length-drop}
use lib.Seq.{take-suc, take-length, length-take-le}
use Rattle.ltl.specs.Formula.{Formula, constant}
use Rattle.network.specs.Layout.{Slot, slot_at}
use Rattle.registers.specs.Outer.{outer, outer_sum}
use Rattle.tokens.specs.Tokens.{SpellsFrom, spells-leaf, spells-not, spells-next, spells-join, Spelt}
use Rattle.tokens.specs.Kept.{RegisterKept}

module _ (bytes marks : List ℕ) where
  pub spells-outer : {f : Formula} {a b : List ℕ} → SpellsFrom bytes marks f a b → length a ≡ outer f + length b
  spells-outer (spells-leaf l) = omega arith
  spells-outer (spells-not s) = let e = spells-outer s in omega arith
  spells-outer (spells-next at x) = omega arith
  spells-outer (spells-join j s t) = let e = spells-outer s in let d = spells-outer t in omega arith

  pub spelt-outer : {f : Formula} {tokens : List ℕ} → Spelt bytes marks f tokens → length tokens ≡ outer f
  spelt-outer s = let e = spells-outer s in omega arith

-- ---- a register's tokens
run-count : (bodies : List ℕ) (a b : ℕ) → b ≤ length bodies → length (drop a (take b bodies)) ≡ b - a
run-count bodies a b k = length-drop a (take b bodies) ∙ ap (◌- a) (length-take-le b bodies k)

sum-last : (x : List Slot) (s : Slot) → outer_sum (x ++ (s ∷ [])) ≡ outer_sum x + outer s.formula
sum-last [] s = omega arith
sum-last (t ∷ x) s = let e = sum-last x s in omega arith

module _ (bytes marks bodies places stamps : List ℕ) (reg : List Slot) (x : RegisterKept bytes marks bodies places stamps reg) where
  -- how many tokens entry k has
  pub entry-outer : (k : ℕ) → k < length reg → get_or places (suc k) 0 ≡ get_or places k 0 + outer (slot_at reg k).formula
  entry-outer k h =
      let e = x.each k h in
      let b = e.begins in
      let u = spelt-outer bytes marks e.spelt in
      let v = run-count bodies (get_or places k 0) (get_or places (suc k) 0) e.inside in
      omega arith

  outer-by : (n : ℕ) → n ≤ length reg → get_or places n 0 ≡ outer_sum (take n reg)
  outer-by zero h = x.first
  outer-by (suc n) h =
      let e = outer-by n (omega arith) in
      let d = entry-outer n h in
      let t = ap outer_sum (take-suc reg n (record { board = 0; formula = constant false }) h) in
      let l = sum-last (take n reg) (slot_at reg n) in
      omega arith

  pub kept-outer : get_or places (length reg) 0 ≡ outer_sum reg
  kept-outer = outer-by (length reg) (omega arith) ∙ ap outer_sum (take-length reg)
