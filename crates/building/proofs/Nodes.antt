-- A text has as many nodes as its formula (`text-nodes`); and how many there are behind a byte. Assumes nothing.
use mathlib.Core.Path.{◌≡◌, ap, ◌∙◌}
use mathlib.Core.Bool.{Bool, true, false}
use mathlib.Core.List.{List, [], ◌∷◌, ◌++◌}
use Prim.Native.Nat.{ℕ, zero, suc, ◌+◌, ◌≤◌, ◌<◌}
use native.Mathlib.Omega.{arith}
use lib.ListN.{length, get_or, drop, drop_of_length-le}
use lib.Seq.{drop-cons}
use Rattle.lists.specs.Tests.{pick, both}
use Rattle.ltl.specs.Formula.{Formula, size}
use Rattle.text.specs.Signs.{sign_of, digit_of, spelling}
use Rattle.text.specs.Grammar.{Gap, none, more, Figures, first, further, Named, truth, proposition, Spells, word, prefixed, bracketed, alone, joined, Text}
use Rattle.building.specs.Nodes.{node_of, nodes_in}

-- blanks, the letters of a constant and digits are no nodes
gap-nodes : {a b : List ℕ} → Gap a b → nodes_in a ≡ nodes_in b
gap-nodes (none e) = ap nodes_in e
gap-nodes (more h g) = let n = ap node_of h in let r = gap-nodes g in omega arith

spelling-nodes : (v : Bool) (b : List ℕ) → nodes_in (spelling v ++ b) ≡ nodes_in b
unfolding sign_of digit_of pick both
spelling-nodes true b = omega arith
spelling-nodes false b = omega arith

figures-nodes : {n : ℕ} {a b : List ℕ} → Figures n a b → nodes_in a ≡ nodes_in b
figures-nodes (first h) = let n = ap node_of h in omega arith
figures-nodes (further f p h) = let n = ap node_of h in let r = figures-nodes f in omega arith

-- a word is one
named-nodes : {f : Formula} {a b : List ℕ} → Named f a b → nodes_in a ≡ size f + nodes_in b
named-nodes (truth {v = v} {b = b} h e) = let n = ap node_of h in let r = ap nodes_in e ∙ spelling-nodes v b in omega arith
named-nodes (proposition h f l) = let n = ap node_of h in let r = figures-nodes f in omega arith

-- a text of f has the nodes of f
spells-nodes : {k : ℕ} {f : Formula} {a b : List ℕ} → Spells k f a b → nodes_in a ≡ size f + nodes_in b
spells-nodes (word w g) = let n = named-nodes w in let r = gap-nodes g in omega arith
spells-nodes (prefixed h g r) = let n = ap node_of h in let m = gap-nodes g in let q = spells-nodes r in omega arith
spells-nodes (bracketed h g r k i) =
    let n = ap node_of h in
    let m = gap-nodes g in
    let q = spells-nodes r in
    let u = ap node_of k in
    let v = gap-nodes i in
    omega arith
spells-nodes (alone r) = spells-nodes r
spells-nodes (joined r h l g i) =
    let n = ap node_of h in
    let m = gap-nodes g in
    let q = spells-nodes r in
    let u = spells-nodes i in
    omega arith

-- a text has the nodes of its formula
pub text-nodes : {t : List ℕ} {f : Formula} → Text t f → nodes_in t ≡ size f
text-nodes x = let n = gap-nodes x.gap in let r = spells-nodes x.spells in omega arith

-- ---- byte by byte
-- from the byte i on there are as many as its sign is, and those behind it
pub nodes-first : (t : List ℕ) (i : ℕ) → i < length t → nodes_in (drop i t) ≡ node_of (sign_of (get_or t i 0)) + nodes_in (drop (suc i) t)
nodes-first t i h = ap nodes_in (drop-cons t i 0 h)

-- behind the last byte there are none
pub nodes-none : (t : List ℕ) (i : ℕ) → length t ≤ i → nodes_in (drop i t) ≡ 0
nodes-none t i h = rw (drop_of_length-le t h)

-- from the byte i on there are no more than in all
pub nodes-behind : (i : ℕ) (t : List ℕ) → nodes_in (drop i t) ≤ nodes_in t
nodes-behind zero t = omega arith
nodes-behind (suc i) [] = omega arith
nodes-behind (suc i) (c ∷ t) = let q = nodes-behind i t in omega arith
