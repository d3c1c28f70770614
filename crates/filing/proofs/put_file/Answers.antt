-- `filing::put_file` meets its contract: the header, the masks, the formula and zeros are put, each into what is behind the last. No
-- loop. Assumes nothing.
use mathlib.Core.Path.{refl, ap}
use native.Mathlib.Omega.{arith}
use lib.ListN.{length, length-drop}
use Rattle.lists.specs.Runs.{tail_as}
use Rattle.lists.proofs.Parts.{tail-is}
use Rattle.rules.specs.RuleFile.{masks_at, file_formula_at}
use Rattle.rules.proofs.Files.{file-put}
use Rattle.filing.proofs.put_file.Goals as goal

pub put_header-requires : goal.put_header-requires
put_header-requires c = let p = c.requires in (omega arith, p.1, p.3)

pub put_masks-requires : goal.put_masks-requires
put_masks-requires c = let p = c.requires in let s = c.put_header.new.file in omega (arith, ap length (tail-is masks_at s), length-drop masks_at s)

pub copy-requires : goal.copy-requires
copy-requires c =
    let p = c.requires in
    let s = tail_as masks_at c.put_header.new.file c.put_masks.new.out in
    let at = file_formula_at (length c.args.masks.now) in
    omega (arith, ap length (tail-is at s), length-drop at s)

pub returns : goal.returns
returns c = (refl, file-put _ _ _ c.args.file.now _ _ _ _ c.requires.0 c.put_header.ensures c.put_masks.ensures c.copy.ensures c.clear.ensures)
