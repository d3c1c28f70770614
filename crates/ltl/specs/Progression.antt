-- Unfold, resolve and progression. Assumes nothing: these are definitions.
use Rattle.std.specs.Prelude.{ℕ, Bool, true, false, not, List, [], ◌∷◌}
use Rattle.lists.specs.Tests.{pick, either, bit}
use Rattle.kinds.specs.declared.Leaf.{Leaf}
use Rattle.kinds.specs.declared.Leaf.TheVariants.{Const, Prop, Hold}
use Rattle.kinds.specs.declared.Unary.TheVariants.{Not, Next, Ever}
use Rattle.kinds.specs.declared.Join.{Join}
use Rattle.kinds.specs.declared.Join.TheVariants.{And, Or}
use Rattle.kinds.specs.declared.Binary.TheVariants.{Joined, Until}
use Rattle.answers.specs.declared.Verdict.{Verdict}
use Rattle.answers.specs.declared.Verdict.TheVariants.{False, True, Pending}
use Rattle.ltl.specs.Formula.{Formula, leaf, one, two, constant, join, same_bool, same_join, same}
use Rattle.ltl.specs.Meaning.{Event}

-- ---- unfold: a temporal operator becomes what it asks of this tick, joined with itself under next. Its copy is made from the
-- operands as they stand. What stands under next, constants, propositions and place holders stay whole.
abbrev pub unfolded : Formula → Formula
unfolded (leaf a) = leaf a
unfolded (one Not f) = one Not (unfolded f)
unfolded (one Next f) = one Next f
unfolded (one (Ever j) f) = join j (unfolded f) (one Next (one (Ever j) f))
unfolded (two (Joined j) f g) = join j (unfolded f) (unfolded g)
unfolded (two Until f g) = join Or (unfolded g) (join And (unfolded f) (one Next (two Until f g)))

-- ---- resolve
-- a formula that is this constant
unfoldable pub is_constant : Bool → Formula → Bool
is_constant v (leaf (Const w)) = same_bool v w
is_constant v (leaf (Prop i)) = false
is_constant v (leaf (Hold k)) = false
is_constant v (one o f) = false
is_constant v (two o f g) = false

-- not of a constant is the other constant; double negations stay
unfoldable pub negated : Formula → Formula
negated f = pick (is_constant true f) (constant false) (pick (is_constant false f) (constant true) (one Not f))

-- the constant that settles a join whatever the other operand is
abbrev pub deciding : Join → Bool
deciding And = false
deciding Or = true

-- l is a member of r: r itself and, where r is joined by j too, its left operand and the members of its right
unfoldable pub member : Join → Formula → Formula → Bool
member j l (leaf a) = same l (leaf a)
member j l (one o f) = same l (one o f)
member j l (two Until f g) = same l (two Until f g)
member j l (two (Joined k) f g) =
    either (same l (join k f g)) (pick (same_join j k) (either (same l f) (member j l g)) false)

-- and(l, r) where an operand is a constant: false if either is false; r if l is true; l if r is true; otherwise what is given.
-- Or is the mirror image: true and false change places, left and right do not.
abbrev pub by_constants : Join → Formula → Formula → Formula → Formula
by_constants j l r otherwise =
    pick (either (is_constant (deciding j) l) (is_constant (deciding j) r)) (constant (deciding j))
    (pick (is_constant (not (deciding j)) l) r
    (pick (is_constant (not (deciding j)) r) l otherwise))

-- and(l, r): by its constants; else r if l is a member of r; otherwise and(l, r)
unfoldable pub joined : Join → Formula → Formula → Formula
joined j l r = by_constants j l r (pick (member j l r) r (join j l r))

-- an unfolded formula under an event, operands first: a proposition becomes true or false, next f becomes f as it stands.
-- An unfolded formula has a temporal operator under next alone; elsewhere one would stay whole.
abbrev pub resolved : Event → Formula → Formula
resolved e (leaf (Const v)) = constant v
resolved e (leaf (Prop i)) = constant (bit e i)
resolved e (leaf (Hold k)) = leaf (Hold k)
resolved e (one Not f) = negated (resolved e f)
resolved e (one Next f) = f
resolved e (one (Ever j) f) = one (Ever j) f
resolved e (two (Joined j) f g) = joined j (resolved e f) (resolved e g)
resolved e (two Until f g) = two Until f g

-- ---- progression: unfold, then resolve
abbrev pub progressed : Event → Formula → Formula
progressed e f = resolved e (unfolded f)

-- over some events, the first of them first
abbrev pub progressed_over : List Event → Formula → Formula
progressed_over [] f = f
progressed_over (e ∷ us) f = progressed_over us (progressed e f)

-- true or false where the formula is that single constant, else pending
abbrev pub verdict_of : Formula → Verdict
verdict_of (leaf (Const true)) = True
verdict_of (leaf (Const false)) = False
verdict_of (leaf (Prop i)) = Pending
verdict_of (leaf (Hold k)) = Pending
verdict_of (one o f) = Pending
verdict_of (two o f g) = Pending

-- ---- held slots
-- a place holder by the verdict of the slot that it stands for: constant slots are replaced by their value
abbrev pub filled_by : Verdict → ℕ → Leaf
filled_by True k = Const true
filled_by False k = Const false
filled_by Pending k = Hold k

abbrev pub filled_leaf : (ℕ → Verdict) → Leaf → Leaf
filled_leaf held (Const v) = Const v
filled_leaf held (Prop i) = Prop i
filled_leaf held (Hold k) = filled_by (held k) k

-- a formula with its place holders so replaced; they stand outside next and the temporal operators alone
abbrev pub filled : (ℕ → Verdict) → Formula → Formula
filled held (leaf a) = leaf (filled_leaf held a)
filled held (one Not f) = one Not (filled held f)
filled held (one Next f) = one Next f
filled held (one (Ever j) f) = one (Ever j) f
filled held (two (Joined j) f g) = join j (filled held f) (filled held g)
filled held (two Until f g) = two Until f g
