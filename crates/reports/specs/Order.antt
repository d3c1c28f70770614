-- Two lists that differ in their order alone. Assumes nothing: this is a definition.
use Rattle.std.specs.Prelude.{List, [], ◌∷◌}

-- the second list comes of the first where neighbours change places, any number of times: no list at all; the same first one; the first two the
-- other way round; one change after another
pub data Reordered {A : Type 0} : List A → List A → Type 0 where
  none : Reordered [] []
  keep : (x : A) {xs ys : List A} → Reordered xs ys → Reordered (x ∷ xs) (x ∷ ys)
  swap : (x y : A) (xs : List A) → Reordered (x ∷ y ∷ xs) (y ∷ x ∷ xs)
  then : {xs ys zs : List A} → Reordered xs ys → Reordered ys zs → Reordered xs zs
