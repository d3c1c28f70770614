-- What each entry of a register holds, by its tokens. Assumes nothing: these are definitions.
use Rattle.std.specs.Prelude.{◌≡◌, true, List, ℕ, suc, ◌<◌, ◌≤◌, length, get_or}
use Rattle.limits.specs.Limits.{slots_room}
use Rattle.lists.specs.Tests.{bit}
use Rattle.network.specs.Layout.{Slot}
use Rattle.registers.specs.Relaying.{is_among}
use Rattle.registers.specs.Numbers.{holds_at}
use Rattle.tokens.specs.Tokens.{held_in}
use Rattle.tokens.specs.Kept.{entry_tokens}

-- the numbers that entry k holds, from left to right
abbrev pub links_at : List ℕ → List ℕ → ℕ → List ℕ
links_at bodies places k = held_in (entry_tokens places bodies k)

-- the entries below n lie inside the bodies, and each holds earlier ones alone
pub record Linked (bodies places : List ℕ) (n : ℕ) : Type 0 where
  pub few : n < slots_room
  pub placed : n < length places
  pub begins : (k : ℕ) → k < n → get_or places k 0 ≤ get_or places (suc k) 0
  pub inside : (k : ℕ) → k < n → get_or places (suc k) 0 ≤ length bodies
  pub falls : (k m : ℕ) → k < n → is_among m (links_at bodies places k) ≡ true → m < k

-- the entries below n are those of the register
abbrev pub LinksOf : List ℕ → List ℕ → List Slot → ℕ → Type 0
LinksOf bodies places reg n = (k : ℕ) → k < n → links_at bodies places k ≡ holds_at reg k

-- set j of a row of sets, a bit for each number, is the numbers ks
abbrev pub SetAt : List ℕ → ℕ → List ℕ → Type 0
SetAt sets j ks = (k : ℕ) → bit (get_or sets j 0) k ≡ is_among k ks
