-- A mark has its parts back (`mark-has`), which fit (`choice-small`, `again-small`), and with one node more it has the same choices
-- (`mark-more`). Assumes nothing.
use mathlib.Core.Path.{◌≡◌}
use Prim.Native.Nat.{ℕ, ◌+◌, ◌<◌}
use native.Mathlib.Omega.{arith}
use Rattle.choices.specs.Marks.{length_room, choice_room, mark_of, length_in, choice_in, later_in, again_in}

pub record MarkHas (mark n choice later again : ℕ) : Type 0 where
  pub length-is : length_in mark ≡ n
  pub choice-is : choice_in mark ≡ choice
  pub later-is : later_in mark ≡ later
  pub again-is : again_in mark ≡ again

pub mark-has : (mark n choice later again : ℕ) → mark ≡ mark_of n choice later again → n < length_room → choice < choice_room → later < choice_room → again < choice_room
    → MarkHas mark n choice later again
unfolding mark_of length_in choice_in later_in again_in
mark-has mark n choice later again e l c d a = record { length-is = omega arith; choice-is = omega arith; later-is = omega arith; again-is = omega arith }

pub choice-small : (mark : ℕ) → choice_in mark < choice_room
unfolding choice_in
choice-small mark = omega arith

pub again-small : (mark : ℕ) → again_in mark < choice_room
unfolding again_in
again-small mark = omega arith

-- there is room for one node more
pub more-fits : (mark : ℕ) → length_in mark + 1 < length_room → mark < 4294967296 → mark + 1 < 4294967296
unfolding length_in
more-fits mark l f = omega arith

pub mark-more : (mark : ℕ) → length_in mark + 1 < length_room → MarkHas (mark + 1) (1 + length_in mark) (choice_in mark) (later_in mark) (again_in mark)
unfolding length_in choice_in later_in again_in
mark-more mark l = record { length-is = omega arith; choice-is = omega arith; later-is = omega arith; again-is = omega arith }
