-- The longest chains of holders, in a table. Assumes nothing: these are definitions.
use Rattle.std.specs.Prelude.{◌≡◌, List, ℕ, ◌<◌, ◌≤◌, max, length, get_or}
use Rattle.limits.specs.Limits.{slots_room}
use Rattle.lists.specs.Tests.{pick, bit}
use Rattle.ltl.specs.Formula.{Formula}
use Rattle.network.specs.Layout.{Slot}
use Rattle.registers.specs.Relaying.{holds_of, is_among}
use Rattle.registers.specs.Numbers.{holds_at, chain_in}

-- the chain of an entry, by the table
abbrev pub chain_at : List ℕ → ℕ → ℕ
chain_at chain k = get_or chain k 0

-- a set, a bit for each number, is the numbers ks
abbrev pub SetIs : ℕ → List ℕ → Type 0
SetIs set ks = (k : ℕ) → bit set k ≡ is_among k ks

-- the chains of those in the set are c at least
abbrev pub Raises : ℕ → ℕ → List ℕ → List ℕ → Type 0
Raises set c chain chain' = (m : ℕ) → get_or chain' m 0 ≡ pick (bit set m) (max (get_or chain m 0) c) (get_or chain m 0)

-- there are as many sets and chains as there may be entries, and no chain has been raised
pub record ChainsAsk (n : ℕ) (sets chain : List ℕ) : Type 0 where
  pub few : n < slots_room
  pub sets-room : slots_room ≤ length sets
  pub chain-room : slots_room ≤ length chain
  pub zero-chains : (m : ℕ) → get_or chain m 0 ≡ 0

-- the chains are those of whatever register and root hold what the sets say, the root's set being number n
abbrev pub Chains : List ℕ → ℕ → List ℕ → Type 0
Chains sets n chain =
    (f : Formula) (reg : List Slot) → n ≡ length reg → SetIs (get_or sets n 0) (holds_of f) → ((j : ℕ) → j < n → SetIs (get_or sets j 0) (holds_at reg j))
    → (m : ℕ) → get_or chain m 0 ≡ chain_in f reg m
