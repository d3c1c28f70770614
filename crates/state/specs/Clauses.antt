-- The state check, as a list of clauses. Assumes nothing: these are definitions.
use Rattle.std.specs.Prelude.{ℕ, zero, suc, ◌+◌, ◌-◌, Bool, true, false, not, List, [], ◌∷◌, ◌++◌, length, take, drop, get_or, leb, ltb, eqb}
use Rattle.std.proofs.Math.Option.{Option, none, some}
use Rattle.std.specs.Int.Bits.{bit_and}
use Rattle.lists.specs.Tests.{pick, both, either, in_range, bit}
use Rattle.kinds.specs.declared.Leaf.TheVariants.{Const, Prop, Hold}
use Rattle.kinds.specs.declared.Unary.TheVariants.{Not, Next, Ever}
use Rattle.kinds.specs.declared.Binary.TheVariants.{Joined, Until}
use Rattle.limits.specs.Limits.{boards_most, propositions_most}
use Rattle.ltl.specs.Formula.{Formula, leaf, one, two, over}
use Rattle.masks.specs.Masks.{sum_ones, masks_rule}
use Rattle.network.specs.Tick.{holds_only}
use Rattle.state.specs.Form.{form_in, state_length, slots_most, nodes_most, boards_at, slots_at}
use Rattle.state.specs.Fields.{boards_in, slots_in, nodes_in, boards_offset_in, slots_offset_in, nodes_offset_in, mask_in, sample_in, sampled_in, masks_in, board_of_in, stepped_in, start_in, length_in, stretch_end, slot_bytes, formula_in, nodes_from}

-- ---- small tests
-- a flag
abbrev pub is_flag : ℕ → Bool
is_flag n = leb n 1

-- the bits of a are all in m
abbrev pub in_mask : ℕ → ℕ → Bool
in_mask a m = eqb (bit_and a m) a

-- the test holds for 0 .. n - 1
unfoldable pub each_below : ℕ → (ℕ → Bool) → Bool
each_below zero test = true
each_below (suc n) test = both (each_below n test) (test n)

unfoldable pub all_zero : List ℕ → Bool
all_zero [] = true
all_zero (x ∷ xs) = both (eqb x 0) (all_zero xs)

unfoldable pub each_true : List Bool → Bool
each_true [] = true
each_true (b ∷ bs) = both b (each_true bs)

-- ---- formulas in slots
-- place holders stand outside next and the temporal operators alone
unfoldable pub tidy : Formula → Bool
tidy (leaf a) = true
tidy (one Not f) = tidy f
tidy (one Next f) = holds_only (λ m. false) f
tidy (one (Ever j) f) = holds_only (λ m. false) f
tidy (two (Joined j) f g) = both (tidy f) (tidy g)
tidy (two Until f g) = both (holds_only (λ m. false) f) (holds_only (λ m. false) g)

-- unfolded, and outside next only propositions of the mask
unfoldable pub unfolded_own : ℕ → Formula → Bool
unfolded_own mask (leaf (Const v)) = true
unfolded_own mask (leaf (Prop i)) = bit mask i
unfolded_own mask (leaf (Hold m)) = true
unfolded_own mask (one Not f) = unfolded_own mask f
unfolded_own mask (one Next f) = true
unfolded_own mask (one (Ever j) f) = false
unfolded_own mask (two (Joined j) f g) = both (unfolded_own mask f) (unfolded_own mask g)
unfolded_own mask (two Until f g) = false

-- a lone proposition that is not in the mask
unfoldable pub lone_other : ℕ → Formula → Bool
lone_other mask (leaf (Const v)) = false
lone_other mask (leaf (Prop i)) = not (bit mask i)
lone_other mask (leaf (Hold m)) = false
lone_other mask (one o f) = false
lone_other mask (two o f g) = false

-- the numbers of the place holders, from left to right
unfoldable pub held_by : Formula → List ℕ
held_by (leaf (Const v)) = []
held_by (leaf (Prop i)) = []
held_by (leaf (Hold m)) = m ∷ []
held_by (one o f) = held_by f
held_by (two o f g) = held_by f ++ held_by g

unfoldable pub among : ℕ → List ℕ → Bool
among m [] = false
among m (n ∷ ns) = either (eqb m n) (among m ns)

-- no number stands twice
unfoldable pub distinct : List ℕ → Bool
distinct [] = true
distinct (m ∷ ms) = both (not (among m ms)) (distinct ms)

-- a slot is the single byte 0 or 1
abbrev pub is_constant_in : List ℕ → ℕ → Bool
is_constant_in s k = both (eqb (length_in s k) 1) (leb (get_or (slot_bytes s k) 0 0) 1)

-- ---- clauses of one board, one slot
unfoldable pub board_ok : List ℕ → ℕ → Bool
board_ok s i = both (is_flag (sampled_in s i)) (both (in_mask (sample_in s i) (mask_in s i)) (either (eqb (sampled_in s i) 1) (eqb (sample_in s i) 0)))

-- its board is there, its mark a flag, it has a node and lies in its stretch, which it fills where it is not stepped
unfoldable pub record_ok : List ℕ → ℕ → Bool
record_ok s k =
    both (ltb (board_of_in s k) (boards_in s))
    (both (is_flag (stepped_in s k))
    (both (leb 1 (length_in s k))
    (both (leb (start_in s k + length_in s k) (stretch_end s k))
    (either (eqb (stepped_in s k) 1) (eqb (start_in s k + length_in s k) (stretch_end s k))))))

-- a formula with propositions below p and place holders above k and below the number of slots, tidy
abbrev pub shape_ok : List ℕ → ℕ → ℕ → Formula → Bool
shape_ok s p k f = both (over p (slots_in s) f) (both (tidy f) (holds_only (λ m. ltb k m) f))

-- a stepped slot: its board has sampled, it holds only stepped slots that are no constants, and is no lone proposition of another board
abbrev pub stepped_ok : List ℕ → ℕ → Formula → Bool
stepped_ok s k f =
    both (eqb (sampled_in s (board_of_in s k)) 1)
    (both (holds_only (λ m. both (eqb (stepped_in s m) 1) (not (is_constant_in s m))) f)
    (not (lone_other (mask_in s (board_of_in s k)) f)))

abbrev pub formula_ok : List ℕ → ℕ → ℕ → Option Formula → Bool
formula_ok s p k none = false
formula_ok s p k (some f) =
    both (shape_ok s p k f) (pick (eqb (stepped_in s k) 1) (stepped_ok s k f) (unfolded_own (mask_in s (board_of_in s k)) f))

-- the gap behind a slot in its stretch is zero
unfoldable pub gap_ok : List ℕ → ℕ → Bool
gap_ok s k =
    all_zero (take (stretch_end s k - (start_in s k + length_in s k)) (drop (nodes_from s + (start_in s k + length_in s k)) s))

-- the place holders of slots 0 .. n - 1
abbrev pub held_of : Option Formula → List ℕ
held_of none = []
held_of (some f) = held_by f

unfoldable pub holders_in : List ℕ → ℕ → List ℕ
holders_in s zero = []
holders_in s (suc n) = holders_in s n ++ held_of (formula_in s n)

-- ---- clauses of the whole
-- the places of boards, slots and nodes are those that the counts give
unfoldable pub places_ok : List ℕ → Bool
places_ok s =
    both (eqb (boards_offset_in s) boards_at)
    (both (eqb (slots_offset_in s) (slots_at (form_in s) (boards_in s))) (eqb (nodes_offset_in s) (nodes_from s)))

-- the counts are in range, and the places are theirs
unfoldable pub header_ok : List ℕ → Bool
header_ok s =
    each_true
    (in_range boards_most (boards_in s)
    ∷ in_range (slots_most (form_in s)) (slots_in s)
    ∷ in_range (nodes_most (form_in s)) (nodes_in s)
    ∷ places_ok s
    ∷ [])

-- masks disjoint, their union the lowest 1 to 64 bits
unfoldable pub masks_ok : List ℕ → Bool
masks_ok s = both (in_range propositions_most (sum_ones (masks_in s))) (masks_rule (sum_ones (masks_in s)) (masks_in s))

-- the bytes behind the nodes are zero
unfoldable pub rest_ok : List ℕ → Bool
rest_ok s = all_zero (drop (nodes_from s + nodes_in s) s)

abbrev pub clauses : List ℕ → List Bool
clauses s =
    eqb (length s) (state_length (form_in s))
    ∷ header_ok s
    ∷ masks_ok s
    ∷ each_below (boards_in s) (board_ok s)
    ∷ eqb (start_in s 0) 0
    ∷ each_below (slots_in s) (record_ok s)
    ∷ each_below (slots_in s) (λ k. formula_ok s (sum_ones (masks_in s)) k (formula_in s k))
    ∷ distinct (holders_in s (slots_in s))
    ∷ each_below (slots_in s) (gap_ok s)
    ∷ rest_ok s
    ∷ []

-- a state passes where every clause holds
unfoldable pub state_ok : List ℕ → Bool
state_ok s = each_true (clauses s)
