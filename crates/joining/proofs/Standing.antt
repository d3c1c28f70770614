-- A formula that stands from a place of some bytes on: how long it is (`contained`), and where it is a node with two operands, the left
-- one a place on (`double-at`). Assumes nothing.
use mathlib.Core.Path.{◌≡◌, sym, ap, ◌∙◌}
use mathlib.Core.List.{List, ◌++◌}
use Prim.Native.Nat.{ℕ, ◌+◌, ◌<◌}
use native.Mathlib.Omega.{arith}
use lib.ListN.{length, get_or, drop, length-drop}
use lib.Seq.{drop-drop, get_or-drop}
use Rattle.lists.specs.Runs.{tail}
use Rattle.lists.proofs.Parts.{tail-is}
use Rattle.kinds.specs.declared.Binary.{Binary}
use Rattle.kinds.specs.declared.Kind.{Kind}
use Rattle.kinds.specs.declared.Kind.TheVariants.{Two}
use Rattle.kinds.specs.Kinds.{kind_of}
use Rattle.ltl.specs.Formula.{Formula, two, size, encode, Coded}
use Rattle.ltl.proofs.Decoding.{size-some}
use Rattle.nodes.specs.Begins.{Front}
use Rattle.nodes.proofs.Fronts.{Parts, parts-as, double, front_length}

-- the byte at a place
pub first-at : (p : List ℕ) (at : ℕ) → get_or p at 0 ≡ get_or (drop at p) 0 0
first-at p at = let z : at + 0 ≡ at = omega arith in ap (λ (i : ℕ). get_or p i 0) (sym z) ∙ sym (get_or-drop at p 0 0)

-- ---- a formula that stands from a place on lies within the bytes
pub record Contained (p : List ℕ) (at : ℕ) (f : Formula) (rest : List ℕ) : Type 0 where
  pub long : at + size f + length rest ≡ length p
  pub some : 0 < size f

module _ (p : List ℕ) (at : ℕ) {f : Formula} {rest : List ℕ} (x : Front (drop at p) f rest) where
  pub contained : Contained p at f rest
  contained =
      let l = front_length (drop at p) f rest x in
      let d = length-drop at p in
      let z = size-some f in
      record { long = omega arith; some = z }

-- ---- a node that stands from a place on, with its operands one place on
pub record DoubleAt (p : List ℕ) (from : ℕ) (f : Formula) (rest : List ℕ) (o : Binary) : Type 0 where
  pub left : Formula
  pub right : Formula
  pub same : f ≡ two o left right
  pub front : Front (drop (from + 1) p) left (encode right ++ rest)
  pub coded : Coded right

-- by the kind that the code found there, and the variant that it was matched with
module _ (p : List ℕ) (from : ℕ) {f : Formula} {rest : List ℕ} (x : Front (drop from p) f rest) {r : Kind} (e : r ≡ kind_of (get_or p from 0)) where
  parts_at : {k : Kind} → r ≡ k → Parts (drop from p) rest f k
  parts_at h = parts-as (drop from p) f rest x (e ∙ ap kind_of (first-at p from)) h

  next-front : {g : Formula} {l : List ℕ} → Front (tail 1 (drop from p)) g l → Front (drop (from + 1) p) g l
  next-front y = record { coded = y.coded; bytes = sym (drop-drop 1 from p) ∙ sym (tail-is 1 (drop from p)) ∙ y.bytes }

  pub double-at : {o v : Binary} → r ≡ Two o → o ≡ v → DoubleAt p from f rest v
  double-at h q =
      let y = double (parts_at (h ∙ ap Two q)) in
      record { left = y.left; right = y.right; same = y.same; front = next-front y.front; coded = y.second.coded }
