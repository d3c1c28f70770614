-- The table of owners: a board for each proposition, made from the boards' masks. Assumes nothing: these are definitions.
use Rattle.std.specs.Prelude.{◌≡◌, true, false, List, ℕ, ◌<◌, ◌≤◌, length, get_or, eqb}
use Rattle.lists.specs.Tests.{bit}
use Rattle.kinds.specs.declared.Leaf.{Leaf}
use Rattle.kinds.specs.declared.Leaf.TheVariants.{Const, Prop, Hold}
use Rattle.limits.specs.Limits.{boards_most, propositions_most}
use Rattle.masks.specs.Masks.{masks_rule}

-- a board for each proposition that there may be
pub record Table (owner : List ℕ) : Type 0 where
  pub long : length owner ≡ propositions_most
  pub boards : (i : ℕ) → get_or owner i 0 < boards_most

-- the owner of a proposition; no board has the others
abbrev pub owner_of : List ℕ → Leaf → ℕ
owner_of owner (Const v) = boards_most
owner_of owner (Prop i) = get_or owner i 0
owner_of owner (Hold k) = boards_most

-- of each proposition below p the owner has it in its mask, and no other board has
pub record Owned (p : ℕ) (masks owner : List ℕ) : Type 0 where
  pub few : length masks ≤ boards_most
  pub has : (i b : ℕ) → i < p → bit (get_or masks b 0) i ≡ eqb (get_or owner i 0) b

-- the table made from masks: the owners by masks that follow their rule, and what the table had where no mask has the proposition
pub record Owns (masks before owner : List ℕ) : Type 0 where
  pub table : Table owner
  pub owned : (p : ℕ) → p ≤ propositions_most → masks_rule p masks ≡ true → Owned p masks owner
  pub kept : (i : ℕ) → ((b : ℕ) → bit (get_or masks b 0) i ≡ false) → get_or owner i 0 ≡ get_or before i 0
