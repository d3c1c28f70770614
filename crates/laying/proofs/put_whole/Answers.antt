-- The formula's own bytes, as many as its tag says, and nothing is cut. Assumes nothing.
use mathlib.Core.Path.{◌≡◌, refl, sym, ap, ◌∙◌}
use Prim.Native.Nat.{ℕ, ◌≤◌}
use mathlib.Core.List.{List}
use lib.ListN.{length, get_or}
use lib.Seq.{length-take-le}
use Rattle.ltl.specs.Formula.{Formula, size}
use Rattle.nodes.specs.Begins.{Front}
use Rattle.nodes.proofs.Fronts.{front_length, front-one-way}
use Rattle.tagging.specs.Packed.{here_in}
use Rattle.laying.specs.Lays.{WholeAsk}
use Rattle.laying.proofs.Writing.{whole-put}
use native.Mathlib.Omega.{arith}
use Rattle.laying.proofs.put_whole.Goals as goal

module _ {u tags p : List ℕ} {n : ℕ} (a : WholeAsk u tags p) (told : n ≡ here_in (get_or tags 0 0)) where
  -- the tag's length is that of the formula in front
  measured : {f : Formula} {rest : List ℕ} → Front u f rest → n ≡ size f
  measured y = told ∙ a.length-is ∙ ap size (front-one-way _ _ _ _ _ a.begins.front y).0

  -- so many bytes are there, and have room
  inside : (n ≤ length u) × (n ≤ length p)
  inside =
      let b = a.begins in
      let l = front_length _ b.formula b.rest b.front in
      let k = measured b.front in
      let m = a.room in
      (omega arith, omega arith)

pub slice_bounds-copy-end : goal.slice_bounds-copy-end
slice_bounds-copy-end c = sym (length-take-le _ c.args.u.now (inside c.requires c.length_of-n.ensures).0)

pub copy-requires : goal.copy-requires
copy-requires c = let i = inside c.requires c.length_of-n.ensures in let l = length-take-le _ c.args.u.now i.0 in omega arith

pub returns : goal.returns
returns c = λ f rest y.
    let n = measured c.requires c.length_of-n.ensures y in
    (whole-put y n _ c.copy.ensures, record { read_is = n; here-is = n; slots-none = refl; nodes-none = refl })
