-- How many nodes a text has: as many as it has signs that stand for one. This is said of any bytes, so that they can be counted before
-- there is a formula. Others use `nodes_in`. Assumes nothing: these are definitions.
use Rattle.std.specs.Prelude.{List, ℕ}
use Rattle.text.specs.declared.Sign.{Sign}
use Rattle.text.specs.declared.Sign.TheVariants.{Blank, Prefix, Infix, Open, Close, Word, Letter, Digit, Other}
use Rattle.text.specs.Printing.{tally}

-- 1 for the sign of a node
abbrev pub node_of : Sign → ℕ
node_of Blank = 0
node_of (Prefix o) = 1
node_of (Infix o) = 1
node_of Open = 0
node_of Close = 0
node_of (Word v) = 1
node_of Letter = 1
node_of (Digit n) = 0
node_of Other = 0

-- the nodes of a text
abbrev pub nodes_in : List ℕ → ℕ
nodes_in t = tally node_of t
