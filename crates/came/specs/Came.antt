-- What the bytes that came are: a rule file first, then events. Assumes nothing: these are definitions.
use Rattle.std.specs.Prelude.{ℕ, List, length, eqb, ltb}
use Rattle.lists.specs.Tests.{pick}
use Rattle.le.specs.Le.{le_at}
use Rattle.rules.specs.RuleFile.{masks_at, file_most, total_in_file}
use Rattle.came.specs.declared.Next.{Next}
use Rattle.came.specs.declared.Next.TheVariants.{End, Leftover, Event}

-- the file's length as its header tells it: 0 where the header is not whole, or the total is below the header's length or above the most
unfoldable pub told_length : List ℕ → ℕ
told_length s = pick (ltb (length s) masks_at) 0 (pick (ltb (total_in_file s) masks_at) 0 (pick (ltb file_most (total_in_file s)) 0 (total_in_file s)))

-- the length of the file in front of the bytes that came: 0 where it is not all there
unfoldable pub file_length : List ℕ → ℕ
file_length s = pick (ltb (length s) (told_length s)) 0 (told_length s)

-- what stands in front of the bytes in hand: nothing, an event in 8 bytes, or what is left over
unfoldable pub next_in : List ℕ → Next
next_in s = pick (eqb (length s) 0) End (pick (ltb (length s) 8) Leftover (Event (le_at s 0 8)))
