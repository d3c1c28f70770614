-- A header of 16 bytes, six numbers of two bytes and one of four, as a row of puts leaves it: `header-put`. Assumes nothing.
use mathlib.Core.Path.{◌≡◌, refl, ◌∙◌}
use mathlib.Core.List.{List, [], ◌++◌}
use Prim.Native.Nat.{ℕ, ◌+◌}
use lib.ListN.{take, drop}
use Rattle.lists.proofs.Stretches.{put_next}
use Rattle.le.specs.Le.{le}

pub header-put : (a b c d e f g : ℕ) (s : List ℕ) {s₁ s₂ s₃ s₄ s₅ s₆ s₇ : List ℕ}
    → s₁ ≡ take 0 s ++ (le 2 a ++ drop (0 + 2) s)
    → s₂ ≡ take 2 s₁ ++ (le 2 b ++ drop (2 + 2) s₁)
    → s₃ ≡ take 4 s₂ ++ (le 2 c ++ drop (4 + 2) s₂)
    → s₄ ≡ take 6 s₃ ++ (le 2 d ++ drop (6 + 2) s₃)
    → s₅ ≡ take 8 s₄ ++ (le 2 e ++ drop (8 + 2) s₄)
    → s₆ ≡ take 10 s₅ ++ (le 2 f ++ drop (10 + 2) s₅)
    → s₇ ≡ take 12 s₆ ++ (le 4 g ++ drop (12 + 4) s₆)
    → s₇ ≡ (le 2 a ++ (le 2 b ++ (le 2 c ++ (le 2 d ++ (le 2 e ++ (le 2 f ++ le 4 g)))))) ++ drop 16 s
unfolding le
header-put a b c d e f g s {s₁} {s₂} {s₃} {s₄} {s₅} {s₆} {s₇} e₁ e₂ e₃ e₄ e₅ e₆ e₇ =
    let a₁ = le 2 a in
    let a₂ = a₁ ++ le 2 b in
    let a₃ = a₂ ++ le 2 c in
    let a₄ = a₃ ++ le 2 d in
    let a₅ = a₄ ++ le 2 e in
    let a₆ = a₅ ++ le 2 f in
    let d₁ = e₁ ∙ put_next s s [] a₁ 0 2 refl refl in
    let d₂ = e₂ ∙ put_next s₁ s a₁ (le 2 b) 2 2 d₁ refl in
    let d₃ = e₃ ∙ put_next s₂ s a₂ (le 2 c) 4 2 d₂ refl in
    let d₄ = e₄ ∙ put_next s₃ s a₃ (le 2 d) 6 2 d₃ refl in
    let d₅ = e₅ ∙ put_next s₄ s a₄ (le 2 e) 8 2 d₄ refl in
    let d₆ = e₆ ∙ put_next s₅ s a₅ (le 2 f) 10 2 d₅ refl in
    e₇ ∙ put_next s₆ s a₆ (le 4 g) 12 4 d₆ refl
