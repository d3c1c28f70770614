-- Tags by their places: a formula's tags are those at the places of its nodes (`tagged-same`). Assumes nothing.
use mathlib.Core.Path.{◌≡◌, sym, ap, ◌∙◌, subst}
use mathlib.Core.List.{List}
use mathlib.Core.Option.{Option}
use Prim.Native.Nat.{ℕ, ◌+◌, ◌<◌, ◌≤◌}
use native.Mathlib.Omega.{arith}
use lib.ListN.{length, get_or, drop}
use lib.Seq.{get_or-drop}
use Rattle.lists.specs.Runs.{tail, tail_as}
use Rattle.lists.proofs.Parts.{handed-length, handed-back, handed-front}
use Rattle.kinds.specs.declared.Unary.TheVariants.{Not, Next, Ever}
use Rattle.kinds.specs.declared.Binary.TheVariants.{Joined, Until}
use Rattle.ltl.specs.Formula.{Formula, leaf, one, two, size}
use Rattle.ltl.proofs.Decoding.{size-some}
use Rattle.tagging.specs.Tags.{Tags, Tagged}
use Rattle.tagging.proofs.Packing.{Alike, alike_same}

-- equal boards and lengths at the first n places
abbrev pub Agree : ℕ → List ℕ → List ℕ → Type 0
Agree n xs ys = (i : ℕ) → i < n → Alike (get_or xs i 0) (get_or ys i 0)

pub tags-alike : {choose : Formula → Option ℕ} {f : Formula} {on tag tag' : ℕ} → Alike tag tag' → Tags choose f on tag → Tags choose f on tag'
tags-alike a m = record { board-is = sym a.board-is ∙ m.board-is; here-is = λ b l. sym a.here-is ∙ m.here-is b l }

pub agree-drop : (a n m : ℕ) (xs ys : List ℕ) → a + n ≤ m → Agree m xs ys → Agree n (drop a xs) (drop a ys)
agree-drop a n m xs ys l h i k =
    subst (λ (x : ℕ). Alike x (get_or (drop a ys) i 0)) (sym (get_or-drop a xs i 0))
    (subst (λ (y : ℕ). Alike (get_or xs (a + i) 0) y) (sym (get_or-drop a ys i 0)) (h (a + i) (omega arith)))

pub tagged-same : (choose : Formula → Option ℕ) (f : Formula) (xs ys : List ℕ) → Agree (size f) xs ys → Tagged choose f xs → Tagged choose f ys
tagged-same choose (leaf a) xs ys h m = tt
tagged-same choose (one Not f) xs ys h m =
    let d = agree-drop 1 (size f) (1 + size f) xs ys (omega arith) h in
    (tags-alike (d 0 (size-some f)) m.0, tagged-same choose f (drop 1 xs) (drop 1 ys) d m.1)
tagged-same choose (one Next f) xs ys h m = tt
tagged-same choose (one (Ever j) f) xs ys h m = tt
tagged-same choose (two (Joined j) f g) xs ys h m =
    let d = agree-drop 1 (size f) (1 + size f + size g) xs ys (omega arith) h in
    let e = agree-drop (1 + size f) (size g) (1 + size f + size g) xs ys (omega arith) h in (
      (tags-alike (d 0 (size-some f)) m.0.0, tagged-same choose f (drop 1 xs) (drop 1 ys) d m.0.1),
      (tags-alike (e 0 (size-some g)) m.1.0, tagged-same choose g (drop (1 + size f) xs) (drop (1 + size f) ys) e m.1.1),
    )
tagged-same choose (two Until f g) xs ys h m = tt

-- the left operand's tags are still there when the right one's were written
pub left-stays : (n : ℕ) (s left right : List ℕ) → 1 + n ≤ length s → length left ≡ length (tail 1 s)
    → Agree n left (drop 1 (tail_as (1 + n) (tail_as 1 s left) right))
left-stays n s left right l h i k =
    let e = handed-length 1 s left (omega arith) h in
    alike_same (get_or left i 0) (get_or (drop 1 (tail_as (1 + n) (tail_as 1 s left) right)) i 0)
    (ap (λ (x : List ℕ). get_or x i 0) (sym (handed-back 1 s left (omega arith)))
    ∙ get_or-drop 1 (tail_as 1 s left) i 0
    ∙ sym (handed-front (1 + n) (tail_as 1 s left) right (omega arith) (1 + i) (omega arith))
    ∙ sym (get_or-drop 1 (tail_as (1 + n) (tail_as 1 s left) right) i 0))
