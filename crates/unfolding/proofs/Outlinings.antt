-- An outline grows by a plain byte (`grown-plain`) and by a formula under next (`grown-next`). Assumes nothing.
use mathlib.Core.Path.{◌≡◌, refl, ◌∙◌}
use mathlib.Core.Bool.{false}
use mathlib.Core.List.{List, ◌∷◌}
use Prim.Native.Nat.{ℕ, ◌+◌}
use native.Mathlib.Numerals.{add-one}
use native.Mathlib.Omega.{arith}
use lib.ListN.{get_or, take, drop}
use Rattle.kinds.specs.declared.Unary.TheVariants.{Next}
use Rattle.kinds.specs.Kinds.{kind_of}
use Rattle.ltl.specs.Formula.{Formula, one, size, encode, Coded}
use Rattle.outlining.specs.Outlined.{whole_kind, Outlined, plain, whole}

pub grown-plain : {s m : List ℕ} {w : ℕ} → Outlined s m w → whole_kind (kind_of (get_or s w 0)) ≡ false → get_or m w 0 ≡ 0 → Outlined s m (w + 1)
grown-plain {w = w} o k z = plain o (add-one w) k z

pub grown-next : {s m : List ℕ} {w : ℕ} → Outlined s m w → (f : Formula) → Coded f → take (1 + size f) (drop w s) ≡ 5 ∷ encode f
    → get_or m (w + size f) 0 ≡ size f + 1 → Outlined s m (w + 1 + size f)
grown-next {w = w} o f c b z =
    whole {e = w + 1 + size f} {l = w + size f} o (one Next f) c refl b (omega arith) (omega arith) (let h : size f + 1 ≡ 1 + size f = omega arith in z ∙ h)
