-- Bytes that begin with a formula. A walk asks that there is one (`Begins`), and says what it does for every formula and rest
-- that the bytes are (`Front`); no formula's bytes begin another's, so there is just one. Assumes nothing: these are definitions.
use Rattle.std.specs.Prelude.{◌≡◌, ℕ, List, ◌++◌}
use Rattle.ltl.specs.Formula.{Formula, size, encode, Coded}

-- the bytes are those of f, with `rest` behind them
pub record Front (s : List ℕ) (f : Formula) (rest : List ℕ) : Type 0 where
  pub coded : Coded f
  pub bytes : s ≡ encode f ++ rest

-- the bytes begin with a formula
pub record Begins (s : List ℕ) : Type 0 where
  pub formula : Formula
  pub rest : List ℕ
  pub front : Front s formula rest

-- n is the length of the formula that the bytes begin with
abbrev pub Ends : List ℕ → ℕ → Type 0
Ends s n = (f : Formula) (rest : List ℕ) → Front s f rest → n ≡ size f
