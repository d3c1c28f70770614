-- Where every slot's record passes, every slot lies in its stretch, and every stretch ends with the nodes at the latest: the next
-- slot's start is before its own stretch's end. Assumes nothing.
use mathlib.Core.Path.{◌≡◌, ap, ap₂, ◌∙◌}
use mathlib.Core.Bool.{true}
use mathlib.Core.List.{List}
use Prim.Native.Nat.{ℕ, zero, suc, ◌+◌, ◌-◌, ◌<◌, ◌≤◌}
use native.Mathlib.Nat.{eq-or-lt_of_le}
use native.Mathlib.Omega.{arith}
use mathlib.Core.Logic.{⊎_elim}
use lib.ListN.{take, drop}
use Rattle.lists.specs.Runs.{tail}
use Rattle.lists.proofs.Parts.{tail-is}
use borrow.Author.Tests.{leb-true}
use Rattle.lists.proofs.Tests.{both-0, both-1}
use Rattle.state.specs.Fields.{slots_in, nodes_in, nodes_from, start_in, length_in, stretch_end}
use Rattle.state.specs.Clauses.{each_below, all_zero, record_ok, gap_ok, rest_ok}
use Rattle.state.specs.Counted.{InStretch}
use Rattle.state.proofs.Stretches.{next-end, last_end}
use Rattle.records.proofs.Each.{each_at}

-- what a record that passes says of its stretch
record-used : (s : List ℕ) (k : ℕ) → record_ok s k ≡ true → start_in s k + length_in s k ≤ stretch_end s k
unfolding record_ok
record-used s k e =
    let a = both-1 _ _ e in
    let b = both-1 _ _ a in
    let c = both-1 _ _ b in
    leb-true _ _ (both-0 _ _ c)

-- and that the slot has a node
pub some-length : (s : List ℕ) (k : ℕ) → record_ok s k ≡ true → 0 < length_in s k
unfolding record_ok
some-length s k e =
    let a = both-1 _ _ e in
    let b = both-1 _ _ a in
    leb-true _ _ (both-0 _ _ b)

module _ (s : List ℕ) (all : each_below (slots_in s) (record_ok s) ≡ true) where
  used : (k : ℕ) → k < slots_in s → start_in s k + length_in s k ≤ stretch_end s k
  used k l = record-used s k (each_at (record_ok s) (slots_in s) k all l)

  ends : (d k : ℕ) → slots_in s ≤ k + 1 + d → k < slots_in s → stretch_end s k ≤ nodes_in s
  ends zero k h l = let e = last_end s k (omega arith) in omega arith
  ends (suc d) k h l =
      ⊎_elim
      (λ q. (let e = last_end s k (omega arith) in omega arith))
      (λ q. (let e = next-end s k q in let u = used (k + 1) q in let n = ends d (k + 1) (omega arith) q in omega arith))
      (eq-or-lt_of_le (let z : k + 1 ≤ slots_in s = omega arith in z))

  pub in-stretch : (k : ℕ) → k < slots_in s → InStretch s k
  in-stretch k l = record { used = used k l; ends = ends (slots_in s) k (omega arith) l }

-- ---- the parts that are looked at
pub gap_is : (s : List ℕ) (k from to at : ℕ) → at ≡ nodes_from s → from ≡ start_in s k + length_in s k → to ≡ stretch_end s k
    → all_zero (take (at + to - (at + from)) (drop (at + from) s)) ≡ gap_ok s k
unfolding gap_ok
gap_is s k from to at e ef et =
    let d : at + to - (at + from) ≡ stretch_end s k - (start_in s k + length_in s k) = omega arith in
    let f : at + from ≡ nodes_from s + (start_in s k + length_in s k) = omega arith in
    ap₂ (λ (i j : ℕ). all_zero (take i (drop j s))) d f

pub rest-is : (s : List ℕ) (at m : ℕ) → at ≡ nodes_from s → m ≡ nodes_in s → all_zero (tail (at + m) s) ≡ rest_ok s
unfolding rest_ok
rest-is s at m e em = ap all_zero (tail-is (at + m) s ∙ ap (λ (j : ℕ). drop j s) (ap₂ ◌+◌ e em))
