-- A formula's place holders among its bytes are of slots that are there (`holds-formula`, with more bytes behind `holds-append`; for a
-- slot's bytes `bytes-hold`). Assumes nothing.
use mathlib.Core.Path.{ap}
use mathlib.Core.Bool.{true, false}
use mathlib.Core.List.{List, [], ◌∷◌, ◌++◌}
use Prim.Native.Nat.{ℕ, zero, suc, ◌+◌, ◌<◌, ◌≤◌}
use native.Mathlib.Omega.{arith}
use lib.ListN.{get_or}
use Rattle.limits.specs.Limits.{propositions_most}
use Rattle.kinds.specs.declared.Leaf.TheVariants.{Const, Prop, Hold}
use Rattle.kinds.specs.Kinds.{unary_code, binary_code, prop_code, hold_code}
use Rattle.kinds.proofs.Codes.{unary-low, binary-low}
use Rattle.ltl.specs.Formula.{Formula, leaf, one, two, encode, Within}
use Rattle.masks.specs.Masks.{sum_ones}
use Rattle.state.specs.Fields.{slots_in, masks_in, slot_bytes}
use Rattle.state.specs.Bytes.{formula_at}
use Rattle.checked.specs.Holds.{Holds}
use Rattle.checked.proofs.Passing.{SlotPassing}

holds-cons : (n b : ℕ) (l : List ℕ) → b < hold_code + n → Holds n l → Holds n (b ∷ l)
holds-cons n b l h t zero = h
holds-cons n b l h t (suc i) = t i

pub holds-append : (n : ℕ) (l r : List ℕ) → Holds n l → Holds n r → Holds n (l ++ r)
holds-append n [] r h t i = t i
holds-append n (b ∷ l) r h t zero = h 0
holds-append n (b ∷ l) r h t (suc i) = holds-append n l r (λ j. h (suc j)) t i

holds-none : (n : ℕ) → Holds n []
holds-none n i = omega arith

pub holds-formula : (p n : ℕ) (f : Formula) → p ≤ propositions_most → Within p n f → Holds n (encode f)
holds-formula p n (leaf (Const true)) l w = holds-cons n 1 [] (omega arith) (holds-none n)
holds-formula p n (leaf (Const false)) l w = holds-cons n 0 [] (omega arith) (holds-none n)
holds-formula p n (leaf (Prop i)) l w = holds-cons n (prop_code + i) [] (omega arith) (holds-none n)
holds-formula p n (leaf (Hold m)) l w = holds-cons n (hold_code + m) [] (omega arith) (holds-none n)
holds-formula p n (one o f) l w = let u = unary-low o in holds-cons n (unary_code o) (encode f) (omega arith) (holds-formula p n f l w)
holds-formula p n (two o f g) l w =
    let u = binary-low o in
    holds-cons n (binary_code o) (encode f ++ encode g) (omega arith)
    (holds-append n (encode f) (encode g) (holds-formula p n f l w.0) (holds-formula p n g l w.1))

pub bytes-hold : (s : List ℕ) (k : ℕ) → SlotPassing s k → sum_ones (masks_in s) ≤ propositions_most → Holds (slots_in s) (slot_bytes s k)
bytes-hold s k q l i =
    let h = holds-formula (sum_ones (masks_in s)) (slots_in s) (formula_at s k) l q.within i in
    let e = ap (λ (b : List ℕ). get_or b i 0) q.bytes in
    omega arith
