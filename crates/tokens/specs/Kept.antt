-- A register in tokens: the entries' tokens one behind the other; for each entry where its tokens begin, and one number, its stamp, that
-- has its board and how many nodes it has. Assumes nothing: these are definitions.
use Rattle.std.specs.Prelude.{◌≡◌, ℕ, suc, ◌+◌, ◌*◌, ◌<◌, ◌≤◌, List, length, get_or, take, drop}
use Rattle.limits.specs.Limits.{boards_most}
use Rattle.ltl.specs.Formula.{size, Coded}
use Rattle.network.specs.Layout.{Slot, slot_at}
use Rattle.tokens.specs.Tokens.{Spelt}

-- how many boards a stamp tells apart
abbrev pub stamp_room : ℕ
stamp_room = 32

-- a board and a number of nodes as one number
unfoldable pub stamp_of : ℕ → ℕ → ℕ
stamp_of board n = n * stamp_room + board

-- the tokens of entry k: those before the next entry's, behind those of the ones before
abbrev pub entry_tokens : List ℕ → List ℕ → ℕ → List ℕ
entry_tokens places bodies k = drop (get_or places k 0) (take (get_or places (suc k) 0) bodies)

-- entry k is the slot s
pub record EntryKept (bytes marks bodies places stamps : List ℕ) (k : ℕ) (s : Slot) : Type 0 where
  pub there : s.board < boards_most
  pub coded : Coded s.formula
  pub stamp-is : get_or stamps k 0 ≡ stamp_of s.board (size s.formula)
  pub begins : get_or places k 0 ≤ get_or places (suc k) 0
  pub inside : get_or places (suc k) 0 ≤ length bodies
  pub spelt : Spelt bytes marks s.formula (entry_tokens places bodies k)

-- all entries, the first of them at the front
pub record RegisterKept (bytes marks bodies places stamps : List ℕ) (reg : List Slot) : Type 0 where
  pub first : get_or places 0 0 ≡ 0
  pub each : (k : ℕ) → k < length reg → EntryKept bytes marks bodies places stamps k (slot_at reg k)
