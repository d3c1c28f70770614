-- The numbers of the entries: by the longest chain of holders from the root, then by first meeting; and the network so numbered.
-- Assumes nothing: these are definitions.
use Rattle.std.specs.Prelude.{ℕ, zero, suc, ◌+◌, max, Bool, List, [], ◌∷◌, ◌++◌, map, length, eqb}
use Rattle.lists.specs.Tests.{pick}
use Rattle.kinds.specs.declared.Leaf.TheVariants.{Const, Prop, Hold}
use Rattle.kinds.specs.declared.Unary.TheVariants.{Not, Next, Ever}
use Rattle.kinds.specs.declared.Binary.TheVariants.{Joined, Until}
use Rattle.ltl.specs.Formula.{Formula, leaf, one, two, join, size}
use Rattle.network.specs.Layout.{Slot, slot_at}
use Rattle.registers.specs.Relaying.{holds_of, is_among}

-- what entry k holds
abbrev pub holds_at : List Slot → ℕ → List ℕ
holds_at reg k = holds_of (slot_at reg k).formula

-- ---- first meeting
-- the entries of a row as they are met, `seen` having been met before: an entry, those that `meet` gives below it, then the next one
unfoldable pub met_all : (ℕ → List ℕ → List ℕ) → List ℕ → List ℕ → List ℕ
met_all meet [] seen = seen
met_all meet (k ∷ ks) seen = met_all meet ks (pick (is_among k seen) seen (meet k (seen ++ (k ∷ []))))

-- the same where no more than `most` are held one below the other
unfoldable pub met_from : List Slot → ℕ → List ℕ → List ℕ → List ℕ
met_from reg zero ks seen = seen
met_from reg (suc most) ks seen = met_all (λ k. met_from reg most (holds_at reg k)) ks seen

-- below a root
unfoldable pub met_in : Formula → List Slot → List ℕ
met_in root reg = met_from reg (suc (length reg)) (holds_of root) []

-- ---- the longest chain
-- the entries held have a chain of n at least
unfoldable pub raised : ℕ → List ℕ → (ℕ → ℕ) → ℕ → ℕ
raised n ks chain m = pick (is_among m ks) (max (chain m) n) (chain m)

-- the entries below j raise what they hold, the last one first: an entry holds earlier ones alone
unfoldable pub chains_down : List Slot → ℕ → (ℕ → ℕ) → ℕ → ℕ
chains_down reg zero chain m = chain m
chains_down reg (suc j) chain m = chains_down reg j (raised (chain j + 1) (holds_at reg j) chain) m

unfoldable pub chain_in : Formula → List Slot → ℕ → ℕ
chain_in root reg = chains_down reg (length reg) (raised 1 (holds_of root) (λ m. 0))

-- ---- the order
-- those of chain n
unfoldable pub on_level : (ℕ → ℕ) → ℕ → List ℕ → List ℕ
on_level chain n [] = []
on_level chain n (k ∷ ks) = pick (eqb (chain k) n) (k ∷ on_level chain n ks) (on_level chain n ks)

-- those of chain n, then those of n + 1, and so on
unfoldable pub by_level : (ℕ → ℕ) → List ℕ → ℕ → ℕ → List ℕ
by_level chain ks n zero = []
by_level chain ks n (suc more) = on_level chain n ks ++ by_level chain ks (n + 1) more

-- the entries in the order of their numbers
unfoldable pub order_in : Formula → List Slot → List ℕ
order_in root reg = by_level (chain_in root reg) (met_in root reg) 1 (length reg)

-- ---- the network
-- where k stands in a row
unfoldable pub place_in : ℕ → List ℕ → ℕ
place_in k [] = 0
place_in k (n ∷ ns) = pick (eqb k n) 0 (suc (place_in k ns))

-- the number of an entry: the root is slot 0
abbrev pub number_by : List ℕ → ℕ → ℕ
number_by order k = suc (place_in k order)

-- the place holders outside next and the temporal operators, by their new numbers
abbrev pub renumbered : (ℕ → ℕ) → Formula → Formula
renumbered number (leaf (Const v)) = leaf (Const v)
renumbered number (leaf (Prop i)) = leaf (Prop i)
renumbered number (leaf (Hold k)) = leaf (Hold (number k))
renumbered number (one Not f) = one Not (renumbered number f)
renumbered number (one Next f) = one Next f
renumbered number (one (Ever j) f) = one (Ever j) f
renumbered number (two (Joined j) f g) = join j (renumbered number f) (renumbered number g)
renumbered number (two Until f g) = two Until f g

abbrev pub renumbered_slot : (ℕ → ℕ) → Slot → Slot
renumbered_slot number s = record { board = s.board; formula = renumbered number s.formula }

-- the root on board b, and the entries in their order
unfoldable pub network_by : List ℕ → ℕ → Formula → List Slot → List Slot
network_by order b root reg =
    record { board = b; formula = renumbered (number_by order) root } ∷ map (λ k. renumbered_slot (number_by order) (slot_at reg k)) order

abbrev pub network_from : ℕ → Formula → List Slot → List Slot
network_from b root reg = network_by (order_in root reg) b root reg

-- ---- how large it is
unfoldable pub size_sum : List Slot → ℕ
size_sum [] = 0
size_sum (s ∷ ss) = size s.formula + size_sum ss
