-- The entries by their chains, and their numbers. Assumes nothing: these are definitions.
use Rattle.std.specs.Prelude.{◌≡◌, true, List, ◌++◌, ℕ, ◌+◌, ◌<◌, ◌≤◌, length, get_or, take, drop}
use Rattle.limits.specs.Limits.{slots_room}
use Rattle.ltl.specs.Formula.{Formula}
use Rattle.network.specs.Layout.{Slot}
use Rattle.registers.specs.Relaying.{holds_of, is_among}
use Rattle.registers.specs.Numbers.{met_in, chain_in, on_level, by_level, order_in, number_by}
use Rattle.tokens.specs.Tokens.{held_in}
use Rattle.meeting.specs.Links.{Linked, LinksOf}
use Rattle.chaining.specs.Chains.{chain_at}

-- ---- levels
-- the entries met have chains, and there is room for those of one level
pub record LevelAsk (level : ℕ) (met chain order : List ℕ) (placed : ℕ) : Type 0 where
  pub table : slots_room ≤ length chain
  pub below : (k : ℕ) → is_among k met ≡ true → k < slots_room
  pub room : placed + length (on_level (chain_at chain) level met) ≤ length order

-- those of the level stand behind the ones that were placed before
pub record LevelPut (level : ℕ) (met chain order : List ℕ) (placed : ℕ) (order' : List ℕ) (r : ℕ) : Type 0 where
  pub read : r ≡ placed + length (on_level (chain_at chain) level met)
  pub stands : order' ≡ (take placed order ++ on_level (chain_at chain) level met) ++ drop r order

-- all n levels together have n entries
pub record LevelsAsk (n : ℕ) (met chain order : List ℕ) : Type 0 where
  pub table : slots_room ≤ length chain
  pub below : (k : ℕ) → is_among k met ≡ true → k < slots_room
  pub all : length (by_level (chain_at chain) met 1 n) ≡ n
  pub few : n < slots_room
  pub room : n ≤ length order

-- ---- numbers
-- each entry of the order has the number that follows its place
abbrev pub NumbersBy : List ℕ → List ℕ → Type 0
NumbersBy order numbers = (k : ℕ) → is_among k order ≡ true → get_or numbers k 0 ≡ number_by order k

-- ---- the whole
-- the tokens are those of the root and of the register's n entries; an entry holds earlier ones alone, and each is met
pub record Graph (root bodies places : List ℕ) (n : ℕ) (f : Formula) (reg : List Slot) : Type 0 where
  pub long : n ≡ length reg
  pub linked : Linked bodies places n
  pub rooted : held_in root ≡ holds_of f
  pub links : LinksOf bodies places reg n
  pub below : (k : ℕ) → is_among k (holds_of f) ≡ true → k < n
  pub full : length (order_in f reg) ≡ n
  pub every : (k : ℕ) → k < n → is_among k (order_in f reg) ≡ true

-- ---- meeting and chains
pub record SurveyAsk (root bodies places : List ℕ) (n : ℕ) (row chain : List ℕ) : Type 0 where
  pub formula : Formula
  pub register : List Slot
  pub graph : Graph root bodies places n formula register
  pub row_room : slots_room ≤ length row
  pub chain-room : slots_room ≤ length chain
  pub chain-zero : (m : ℕ) → get_or chain m 0 ≡ 0

-- r entries were met, and the table has their chains
pub record EntriesSurveyed (root bodies places : List ℕ) (n : ℕ) (row chain : List ℕ) (r : ℕ) : Type 0 where
  pub few : r ≤ slots_room
  pub below : (k : ℕ) → is_among k (take r row) ≡ true → k < slots_room
  pub met-is : (f : Formula) (reg : List Slot) → Graph root bodies places n f reg → take r row ≡ met_in f reg
  pub chain-is : (f : Formula) (reg : List Slot) → Graph root bodies places n f reg → (m : ℕ) → get_or chain m 0 ≡ chain_in f reg m

-- ---- numbering
-- there are a root and a register that are so
pub record NumberAsk (root bodies places : List ℕ) (n : ℕ) (order numbers : List ℕ) : Type 0 where
  pub formula : Formula
  pub register : List Slot
  pub graph : Graph root bodies places n formula register
  pub order-room : slots_room ≤ length order
  pub numbers-room : slots_room ≤ length numbers

-- the entries in their order, and their numbers
pub record Ordered (n : ℕ) (f : Formula) (reg : List Slot) (order numbers : List ℕ) : Type 0 where
  pub order_is : take n order ≡ order_in f reg
  pub number_is : (k : ℕ) → k < n → get_or numbers k 0 ≡ number_by (order_in f reg) k

-- for whatever root and register the tokens are
abbrev pub Numbers : List ℕ → List ℕ → List ℕ → ℕ → List ℕ → List ℕ → Type 0
Numbers root bodies places n order numbers = (f : Formula) (reg : List Slot) → Graph root bodies places n f reg → Ordered n f reg order numbers
