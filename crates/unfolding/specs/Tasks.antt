-- What is still to be done while a formula is unfolded from its first byte on, and what it writes. Assumes nothing: these are definitions.
use Rattle.std.specs.Prelude.{◌≡◌, List, [], ◌∷◌, ◌++◌, ℕ, ◌+◌, ◌*◌, drop}
use Rattle.limits.specs.Limits.{nodes_room}
use Rattle.kinds.specs.declared.Unary.TheVariants.{Next}
use Rattle.kinds.specs.declared.Join.TheVariants.{And}
use Rattle.kinds.specs.declared.Binary.TheVariants.{Until}
use Rattle.ltl.specs.Formula.{Formula, one, two, join, size, encode}
use Rattle.ltl.specs.Progression.{unfolded}
use Rattle.nodes.specs.Begins.{Front, Begins}

-- a formula is to be unfolded where the reading has come to; or what is left of an eventually or always whose operand was unfolded, of an
-- until whose right operand was, of an until whose operands both were, with the place of that node
pub data Task : Type 0 where
  here : Task
  ever_end until_left until_end : ℕ → Task

-- the number that a task is
abbrev pub task_code : Task → ℕ
task_code here = 0
task_code (ever_end a) = nodes_room + a
task_code (until_left a) = 2 * nodes_room + a
task_code (until_end a) = 3 * nodes_room + a

-- the formula at r is unfolded to xs; e is its end
pub record UnfoldsAt (s : List ℕ) (r : ℕ) (xs : List ℕ) (e : ℕ) : Type 0 where
  pub begins : Begins (drop r s)
  pub writes : xs ≡ encode (unfolded begins.formula)
  pub ends : e ≡ r + size begins.formula

-- the formula at a is repeated under next; e is its end
pub record RepeatsAt (s : List ℕ) (a : ℕ) (xs : List ℕ) (e : ℕ) : Type 0 where
  pub begins : Begins (drop a s)
  pub writes : xs ≡ encode (one Next begins.formula)
  pub ends : e ≡ a + size begins.formula

-- of the until at a, and with its left operand unfolded is written, and the whole under next; e is its end
pub record LeftAt (s : List ℕ) (a : ℕ) (xs : List ℕ) (e : ℕ) : Type 0 where
  pub left : Formula
  pub right : Formula
  pub rest : List ℕ
  pub front : Front (drop a s) (two Until left right) rest
  pub writes : xs ≡ encode (join And (unfolded left) (one Next (two Until left right)))
  pub ends : e ≡ a + size (two Until left right)

-- a task writes xs where the reading has come to r, and leaves the reading at e
abbrev pub Does : List ℕ → ℕ → Task → List ℕ → ℕ → Type 0
Does s r here xs e = UnfoldsAt s r xs e
Does s r (ever_end a) xs e = RepeatsAt s a xs e × (e ≡ r)
Does s r (until_left a) xs e = LeftAt s a xs e
Does s r (until_end a) xs e = RepeatsAt s a xs e

-- tasks, one after the other, write bs where the reading has come to r
pub data Todo (s : List ℕ) : ℕ → List Task → List ℕ → Type 0 where
  nothing : {r : ℕ} → Todo s r [] []
  first : {r e : ℕ} {t : Task} {ts : List Task} {bs : List ℕ} (xs rest : List ℕ) → Does s r t xs e → bs ≡ xs ++ rest → Todo s e ts rest → Todo s r (t ∷ ts) bs
