-- The layouts of a rule and of a network, with a register: the root, and the entries below it. Assumes nothing: these are definitions.
use Rattle.std.specs.Prelude.{ℕ, suc, ◌-◌, Bool, false, List, [], ◌∷◌, ◌++◌, get_or, eqb}
use Rattle.std.proofs.Math.Option.{Option}
use Rattle.lists.specs.Tests.{pick, both, either}
use Rattle.kinds.specs.declared.Leaf.TheVariants.{Const, Prop, Hold}
use Rattle.kinds.specs.declared.Unary.TheVariants.{Not, Next, Ever}
use Rattle.kinds.specs.declared.Binary.TheVariants.{Joined, Until}
use Rattle.ltl.specs.Formula.{Formula, leaf, one, two}
use Rattle.ltl.specs.Progression.{unfolded}
use Rattle.network.specs.Layout.{Slot, slot_at, or_zero}
use Rattle.registers.specs.Register.{Noted, noted, laid_noted}

-- the numbers of the place holders outside next and the temporal operators, from left to right
unfoldable pub holds_of : Formula → List ℕ
holds_of (leaf (Const v)) = []
holds_of (leaf (Prop i)) = []
holds_of (leaf (Hold m)) = m ∷ []
holds_of (one Not f) = holds_of f
holds_of (one Next f) = []
holds_of (one (Ever j) f) = []
holds_of (two (Joined j) f g) = holds_of f ++ holds_of g
holds_of (two Until f g) = []

unfoldable pub is_among : ℕ → List ℕ → Bool
is_among m [] = false
is_among m (n ∷ ns) = either (eqb m n) (is_among m ns)

-- ---- which slots are reached from slot 0: the slots from number i on add what they hold, where they are reached themselves
unfoldable pub reached_from : ℕ → List Slot → (ℕ → Bool) → ℕ → Bool
reached_from i [] reached m = reached m
reached_from i (s ∷ ss) reached m =
    reached_from (suc i) ss (λ k. either (reached k) (both (reached i) (is_among k (holds_of s.formula)))) m

unfoldable pub reached_in : List Slot → ℕ → Bool
reached_in slots = reached_from 0 slots (λ k. eqb k 0)

-- ---- the entries of slots
-- the entry of each slot in a row, and the register
pub record Entries : Type 0 where
  pub numbers : List ℕ
  pub register : List Slot

-- the entry that a place holder stands for
abbrev pub entry_in : Formula → ℕ
entry_in (leaf (Const v)) = 0
entry_in (leaf (Prop i)) = 0
entry_in (leaf (Hold k)) = k
entry_in (one o f) = 0
entry_in (two o f g) = 0

-- the entry of slot m, by the numbers of the slots from i on
abbrev pub held_from : ℕ → List ℕ → ℕ → ℕ
held_from i numbers m = get_or numbers (m - i) 0

-- a slot is unfolded, laid on its board and entered, those behind it having been
abbrev pub slot_noted : (Formula → Option ℕ) → ℕ → Slot → Entries → Noted
slot_noted choose i s e =
    let x = laid_noted choose (held_from i e.numbers) (unfolded s.formula) s.board e.register in
    noted s.board x.here x.register

abbrev pub one_more : Noted → List ℕ → Entries
one_more x numbers = record { numbers = entry_in x.here ∷ numbers; register = x.register }

-- the slots of a row, the first of them number i, the last one first; a slot that is not reached is passed over
unfoldable pub entries_of : (Formula → Option ℕ) → (ℕ → Bool) → ℕ → List Slot → Entries
entries_of choose reached i [] = record { numbers = []; register = [] }
entries_of choose reached i (s ∷ ss) =
    let e = entries_of choose reached (suc i) ss in
    pick (reached i) (one_more (slot_noted choose (suc i) s e) e.numbers) (record { numbers = 0 ∷ e.numbers; register = e.register })

-- ---- the root, and the register below it
-- of a rule, in which no place holder stands
unfoldable pub load_noted : (Formula → Option ℕ) → Formula → Noted
load_noted choose rule = laid_noted choose (λ m. m) (unfolded rule) (or_zero (choose (unfolded rule))) []

-- the slots behind slot 0
abbrev pub others : List Slot → List Slot
others [] = []
others (s ∷ ss) = ss

unfoldable pub close_noted : (Formula → Option ℕ) → List Slot → Noted
close_noted choose slots =
    let e = entries_of choose (reached_in slots) 1 (others slots) in
    laid_noted choose (held_from 1 e.numbers) (unfolded (slot_at slots 0).formula) (slot_at slots 0).board e.register
