-- The choice of a part stands in the mark of its node: `choice-node`, `choice-later`, `choice-again`. Assumes nothing.
use mathlib.Core.Path.{◌≡◌, refl, sym, ap, ◌∙◌}
use mathlib.Core.List.{List}
use mathlib.Core.Option.{Option}
use Prim.Native.Nat.{ℕ, ◌/◌, ◌%◌}
use native.Mathlib.Omega.{arith}
use lib.ListN.{get_or}
use Rattle.kinds.specs.declared.Binary.TheVariants.{Until}
use Rattle.ltl.specs.Formula.{Formula, two}
use Rattle.scores.specs.Choice.{code_of}
use Rattle.choices.specs.Marks.{choice_in, later_in, again_in}
use Rattle.parting.specs.Parts.{parts_room, PartAt}
use Rattle.parting.proofs.Standing.{marked-mark, node-part, later-part, again_part}

module _ (choose : Formula → Option ℕ) (bytes marks : List ℕ) (part : ℕ) (f : Formula) (p : PartAt choose bytes marks part f) where
  pub choice-node : part % parts_room ≡ 0 → choice_in (get_or marks (part / parts_room) 0) ≡ code_of (choose f)
  choice-node e =
      let x = node-part choose bytes marks part (part / parts_room) f p (omega arith) in
      (marked-mark choose bytes marks (part / parts_room) x.formula x.stands.marked).choice-is ∙ ap (λ (g : Formula). code_of (choose g)) (sym x.same)

  pub choice-later : part % parts_room ≡ 1 → later_in (get_or marks (part / parts_room) 0) ≡ code_of (choose f)
  choice-later e =
      let x = later-part choose bytes marks part (part / parts_room) f p (omega arith) in
      (marked-mark choose bytes marks (part / parts_room) (two Until x.left x.right) x.stands.marked).later-is x.left x.right refl ∙ ap (λ (g : Formula). code_of (choose g)) (sym x.same)

  pub choice-again : (part % parts_room ≡ 0 → ⊥) → (part % parts_room ≡ 1 → ⊥) → again_in (get_or marks (part / parts_room) 0) ≡ code_of (choose f)
  choice-again e h =
      let x = again_part choose bytes marks part f p e h in
      (marked-mark choose bytes marks (part / parts_room) x.formula x.stands.marked).again-is ∙ ap (λ (g : Formula). code_of (choose g)) (sym x.same)
