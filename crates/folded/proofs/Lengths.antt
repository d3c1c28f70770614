-- Folding makes no formula longer (`folded-no-longer`), nor what it unfolds to (`folded-unfolds`), and brings no proposition and no place
-- holder that was not there (`folded-within`). Assumes nothing.
use Prim.Native.Nat.{ℕ, ◌+◌, ◌≤◌}
use native.Mathlib.Omega.{arith}
use Rattle.kinds.specs.declared.Unary.TheVariants.{Not, Next, Ever}
use Rattle.kinds.specs.declared.Binary.TheVariants.{Joined, Until}
use Rattle.ltl.specs.Formula.{Formula, leaf, one, two, size, Within}
use Rattle.ltl.specs.Progression.{unfolded}
use Rattle.folded.specs.Folding.{folded}
use Rattle.folded.proofs.Cases.{folded-one-cases, folded-join-cases, folded-until-cases}

pub folded-no-longer : (f : Formula) → size (folded f) ≤ size f
folded-no-longer (leaf a) = omega arith
folded-no-longer (one o f) = let h = folded-no-longer f in folded-one-cases (λ x. size x ≤ 1 + size f) o (folded f) (λ v q. omega arith) (λ q. omega arith)
folded-no-longer (two (Joined j) f g) =
    let h = folded-no-longer f in
    let i = folded-no-longer g in
    folded-join-cases (λ x. size x ≤ 1 + size f + size g) j (folded f) (folded g) (λ q. omega arith) (λ q. omega arith) (λ q. omega arith) (λ q. omega arith) (λ p q. omega arith)
folded-no-longer (two Until f g) =
    let h = folded-no-longer f in
    let i = folded-no-longer g in
    folded-until-cases (λ x. size x ≤ 1 + size f + size g) (folded f) (folded g) (λ q. omega arith) (λ q. omega arith) (λ p q. omega arith)

pub folded-unfolds : (f : Formula) → size (unfolded (folded f)) ≤ size (unfolded f)
folded-unfolds (leaf a) = omega arith
folded-unfolds (one Not f) = let h = folded-unfolds f in folded-one-cases (λ x. size (unfolded x) ≤ 1 + size (unfolded f)) Not (folded f) (λ v q. omega arith) (λ q. omega arith)
folded-unfolds (one Next f) = let h = folded-no-longer f in folded-one-cases (λ x. size (unfolded x) ≤ 1 + size f) Next (folded f) (λ v q. omega arith) (λ q. omega arith)
folded-unfolds (one (Ever j) f) =
    let h = folded-unfolds f in
    let i = folded-no-longer f in
    folded-one-cases (λ x. size (unfolded x) ≤ size (unfolded (one (Ever j) f))) (Ever j) (folded f) (λ v q. omega arith) (λ q. omega arith)
folded-unfolds (two (Joined j) f g) =
    let h = folded-unfolds f in
    let i = folded-unfolds g in
    folded-join-cases (λ x. size (unfolded x) ≤ 1 + size (unfolded f) + size (unfolded g)) j (folded f) (folded g) (λ q. omega arith) (λ q. omega arith) (λ q. omega arith) (λ q. omega arith)
    (λ p q. omega arith)
folded-unfolds (two Until f g) =
    let h = folded-unfolds f in
    let i = folded-unfolds g in
    let k = folded-no-longer f in
    let l = folded-no-longer g in
    folded-until-cases (λ x. size (unfolded x) ≤ size (unfolded (two Until f g))) (folded f) (folded g) (λ q. omega arith) (λ q. omega arith) (λ p q. omega arith)

pub folded-within : (p s : ℕ) (f : Formula) → Within p s f → Within p s (folded f)
folded-within p s (leaf a) w = w
folded-within p s (one o f) w = folded-one-cases (λ x. Within p s x) o (folded f) (λ v q. tt) (λ q. folded-within p s f w)
folded-within p s (two (Joined j) f g) w =
    let a = folded-within p s f w.0 in
    let b = folded-within p s g w.1 in
    folded-join-cases (λ x. Within p s x) j (folded f) (folded g) (λ q. tt) (λ q. tt) (λ q. b) (λ q. a) (λ q r. (a, b))
folded-within p s (two Until f g) w =
    let a = folded-within p s f w.0 in
    let b = folded-within p s g w.1 in
    folded-until-cases (λ x. Within p s x) (folded f) (folded g) (λ q. b) (λ q. b) (λ q r. (a, b))
