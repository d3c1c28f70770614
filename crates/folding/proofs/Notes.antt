-- What a note tells of its result: below 2 the constant that it is (`note-constant`, `note-low`), else that it is none (`note-high`). How
-- many bytes and notes results have: never more than as formulas. Assumes nothing.
use mathlib.Core.Path.{◌≡◌, refl}
use mathlib.Core.Bool.{Bool, true, false}
use mathlib.Core.List.{List, [], ◌∷◌}
use Prim.Native.Nat.{◌+◌, ◌<◌, ◌≤◌}
use native.Mathlib.Omega.{arith}
use lib.ListN.{length, length-append}
use Rattle.kinds.specs.declared.Leaf.TheVariants.{Const, Prop, Hold}
use Rattle.kinds.specs.Kinds.{leaf_code}
use Rattle.ltl.specs.Formula.{Formula, leaf, one, two, constant, size, encode}
use Rattle.ltl.specs.Progression.{is_constant}
use Rattle.ltl.proofs.Decoding.{size-some, length-encode}
use Rattle.peeling.specs.Peeled.{encodes}
use Rattle.peeling.proofs.Peels.{encodes_more}
use Rattle.folding.specs.Results.{note_of, held_bytes, note_length, notes_of, held_all}

pub note-constant : (v : Bool) (f : Formula) → note_of f ≡ leaf_code (Const v) → f ≡ constant v
note-constant true (leaf (Const true)) e = refl
note-constant true (leaf (Const false)) e = absurd (omega arith)
note-constant true (leaf (Prop i)) e = absurd (omega arith)
note-constant true (leaf (Hold k)) e = absurd (omega arith)
note-constant true (one o f) e = absurd (omega arith)
note-constant true (two o f g) e = absurd (omega arith)
note-constant false (leaf (Const true)) e = absurd (omega arith)
note-constant false (leaf (Const false)) e = refl
note-constant false (leaf (Prop i)) e = absurd (omega arith)
note-constant false (leaf (Hold k)) e = absurd (omega arith)
note-constant false (one o f) e = absurd (omega arith)
note-constant false (two o f g) e = absurd (omega arith)

pub note-low : (f : Formula) → note_of f < 2 → (v : Bool) × (f ≡ constant v)
note-low (leaf (Const v)) h = (v, refl)
note-low (leaf (Prop i)) h = absurd (omega arith)
note-low (leaf (Hold k)) h = absurd (omega arith)
note-low (one o f) h = absurd (omega arith)
note-low (two o f g) h = absurd (omega arith)

pub record NoConstant (f : Formula) : Type 0 where
  pub tests : (v : Bool) → is_constant v f ≡ false
  pub note : note_of f ≡ 1 + size f
  pub bytes : held_bytes f ≡ encode f

pub note-high : (f : Formula) → 2 ≤ note_of f → NoConstant f
unfolding is_constant
note-high (leaf (Const true)) h = absurd (omega arith)
note-high (leaf (Const false)) h = absurd (omega arith)
note-high (leaf (Prop i)) h = record { tests = λ v. refl; note = refl; bytes = refl }
note-high (leaf (Hold k)) h = record { tests = λ v. refl; note = refl; bytes = refl }
note-high (one o f) h = record { tests = λ v. refl; note = refl; bytes = refl }
note-high (two o f g) h = record { tests = λ v. refl; note = refl; bytes = refl }

-- ---- how many
pub held-length : (f : Formula) → length (held_bytes f) ≡ note_length (note_of f)
held-length (leaf (Const true)) = refl
held-length (leaf (Const false)) = refl
held-length (leaf (Prop i)) = refl
held-length (leaf (Hold k)) = refl
held-length (one o f) = let e = length-encode (one o f) in omega arith
held-length (two o f g) = let e = length-encode (two o f g) in omega arith

note-size : (f : Formula) → note_length (note_of f) ≤ size f
note-size (leaf (Const true)) = omega arith
note-size (leaf (Const false)) = omega arith
note-size (leaf (Prop i)) = omega arith
note-size (leaf (Hold k)) = omega arith
note-size (one o f) = omega arith
note-size (two o f g) = omega arith

pub held-short : (fs : List Formula) → length (held_all fs) ≤ length (encodes fs)
held-short [] = omega arith
held-short (f ∷ fs) =
    let a = length-append (held_bytes f) (held_all fs) in
    let b = held-length f in
    let c = note-size f in
    let d = encodes_more f fs in
    let e = held-short fs in
    omega arith

-- one byte fewer where the first is a constant
pub held-shorter : (v : Bool) (fs : List Formula) → length (held_all (constant v ∷ fs)) < length (encodes (constant v ∷ fs))
held-shorter v fs = let d = encodes_more (constant v) fs in let e = held-short fs in omega arith

pub notes-short : (fs : List Formula) → length (notes_of fs) ≤ length (encodes fs)
notes-short [] = omega arith
notes-short (f ∷ fs) = let d = encodes_more f fs in let s = size-some f in let e = notes-short fs in omega arith
