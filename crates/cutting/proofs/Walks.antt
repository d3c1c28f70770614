-- A formula that was walked over, by its top node: one law for each way in which the walk returns (`walked-..`), and what an
-- operand's walk tells of its size (`walked-few`). Assumes nothing.
use mathlib.Core.Path.{◌≡◌, refl}
use mathlib.Core.List.{List}
use Prim.Native.Nat.{ℕ, ◌+◌, ◌*◌, ◌<◌, ◌≤◌, ◌^◌}
use native.Mathlib.Omega.{arith}
use lib.ListN.{get_or}
use Rattle.lists.specs.Runs.{tail}
use Rattle.kinds.specs.declared.Leaf.{Leaf}
use Rattle.kinds.specs.declared.Unary.{Unary}
use Rattle.kinds.specs.declared.Unary.TheVariants.{Not, Next, Ever}
use Rattle.kinds.specs.declared.Join.{Join}
use Rattle.kinds.specs.declared.Join.TheVariants.{And, Or}
use Rattle.kinds.specs.declared.Binary.{Binary}
use Rattle.kinds.specs.declared.Binary.TheVariants.{Joined, Until}
use Rattle.kinds.specs.declared.Kind.TheVariants.{Zero}
use Rattle.limits.specs.Limits.{boards_most}
use Rattle.ltl.specs.Formula.{Formula, one, two, size}
use Rattle.ltl.specs.Progression.{unfolded}
use Rattle.nodes.proofs.Fronts.{Parts, is_zero, Single, Double}
use Rattle.nodes.proofs.Operands.{left-read}
use Rattle.scores.specs.Scored.{added, counts_below, Few}
use Rattle.scores.specs.Owned.{owner_of}
use Rattle.scores.specs.Tallies.{ScoredAs}
use Rattle.scores.proofs.Counting.{scored-leaf, scored-one, scored-two}
use Rattle.cutting.specs.declared.LaidPart.{LaidPart}
use Rattle.cutting.specs.declared.CutWalk.{CutWalk}
use Rattle.cutting.specs.Cuts.{place_of, looked_cuts, Parted, Walked, Bare, OverNone, Cutting, Joinable, Joins, Countable, OverOne, Pairable, OverTwo}
use Rattle.cutting.proofs.Nodes.{parted-leaf, parted-next, parted-not, parted-joined, unfolded-few, until_below, joinable}

pub walked-leaf : {owner s rest : List ℕ} {f : Formula} {a : Leaf} {i on : ℕ} {r : CutWalk} → Parts s rest f (Zero a) → i ≡ owner_of owner a → OverNone i r
    → Walked owner f on r
walked-leaf (is_zero {a} w e) o x =
    let c = scored-leaf o x.1 in
    record { reads = x.0; raw = c; parted = parted-leaf x.2 a c }

-- ---- one operand
module _ {owner : List ℕ} {f : Formula} {a : CutWalk} (h : Walked owner f boards_most a) {on : ℕ} {r : CutWalk} (n : r.read ≡ 1 + a.read) (e : r.raw.counts ≡ a.raw.counts) where
  over-one : (o : Unary) → Parted owner (unfolded (one o f)) on r.part → Walked owner (one o f) on r
  over-one o p = record { reads = let x = h.reads in omega arith; raw = rw e (scored-one o h.raw); parted = p }

  pub walked-not : {o : Unary} → o ≡ Not → r.part.scores.counts ≡ a.part.scores.counts → r.part.choice ≡ a.part.choice
      → r.part.cuts ≡ looked_cuts a.part (place_of on a.part.scores.counts) → Walked owner (one o f) on r
  walked-not i s d k = rw i (over-one Not (parted-not h.parted s d k))

  pub walked_next : {o : Unary} → o ≡ Next → Bare r.part a.raw.counts → Walked owner (one o f) on r
  walked_next i b = rw i (over-one Next (parted-next b f h.raw))

  pub walked-ever : {o : Unary} {j : Join} {x : LaidPart} → o ≡ Ever j → Bare x a.raw.counts → Joins a.part x on r.part → Walked owner (one o f) on r
  walked-ever {j = j} i b k = let o = Ever j in rw i (over-one o (parted-joined j h.parted (parted-next b (one o f) (scored-one o h.raw)) k))

-- ---- two operands
module _ {owner : List ℕ} {f g : Formula} {a c : CutWalk} (h : Walked owner f boards_most a) (k : Walked owner g boards_most c) where
  raw-two : (o : Binary) {counts : List ℕ} → counts ≡ added a.raw.counts c.raw.counts → ScoredAs owner (two o f g) counts
  raw-two o e = rw e (scored-two o h.raw k.raw)

  module _ {on : ℕ} {r : CutWalk} (n : r.read ≡ 1 + a.read + c.read) (e : r.raw.counts ≡ added a.raw.counts c.raw.counts) where
    over-two : (o : Binary) → Parted owner (unfolded (two o f g)) on r.part → Walked owner (two o f g) on r
    over-two o p = record { reads = let x = h.reads in let y = k.reads in omega arith; raw = raw-two o e; parted = p }

    pub walked-joined : {o : Binary} {j : Join} → o ≡ Joined j → Joins a.part c.part on r.part → Walked owner (two o f g) on r
    walked-joined {o} {j} i s = rw i (over-two (Joined j) (parted-joined j h.parted k.parted s))

    pub walked-until : {o : Binary} {x y : LaidPart} → o ≡ Until → Bare x r.raw.counts → Joins a.part x boards_most y → Joins c.part y on r.part → Walked owner (two o f g) on r
    walked-until i b s t = rw i (over-two Until (parted-joined Or k.parted (parted-joined And h.parted (parted-next b (two Until f g) (raw-two Until e)) s) t))

-- ---- no sum is large
module _ {a : CutWalk} (p : Countable a) where
  few-one : size (unfolded p.formula) ≤ 4100 * size p.formula
  few-one = unfolded-few p.formula (omega arith)

  pub walked-few : a.part.cuts + 1 < 2 ^ 64
  walked-few = let x = p.walked.parted.few in let y = few-one in omega arith

  pub raw-few : Few a.raw.counts
  raw-few i = let x = p.walked.raw.few i in omega arith

  pub ever-joinable : {x : LaidPart} → Bare x a.raw.counts → Joinable a.part x
  ever-joinable b = joinable {on = boards_most} p.walked.parted (parted-next b p.formula p.walked.raw) (let y = few-one in omega arith)

module _ {a c : CutWalk} (p : Pairable a c) where
  few-left : size (unfolded p.left) ≤ 4100 * size p.left
  few-left = unfolded-few p.left (omega arith)

  few-right : size (unfolded p.right) ≤ 4100 * size p.right
  few-right = unfolded-few p.right (omega arith)

  pub raws-few : (i : ℕ) → get_or a.raw.counts i 0 + get_or c.raw.counts i 0 < counts_below
  raws-few i = let x = p.walked-left.raw.few i in let y = p.walked-right.raw.few i in omega arith

  pub both-joinable : Joinable a.part c.part
  both-joinable = joinable p.walked-left.parted p.walked-right.parted (let y = few-left in let z = few-right in omega arith)

  -- the copy and both operands, whichever of them it is joined with first
  pub until-few : {x : LaidPart} → Bare x (added a.raw.counts c.raw.counts) → (i : ℕ)
      → (get_or a.part.scores.counts i 0 + get_or c.part.scores.counts i 0 + get_or x.scores.counts i 0 < until_below)
      × (a.part.cuts + c.part.cuts + x.cuts < until_below)
  until-few b i =
      let u = few-left in
      let v = few-right in
      let l = p.walked-left.parted in
      let r = p.walked-right.parted in
      let copied = parted-next {on = boards_most} b (two Until p.left p.right) (raw-two p.walked-left p.walked-right Until refl) in
      (omega (arith, l.scored.few i, r.scored.few i, copied.scored.few i), omega (arith, l.few, r.few, copied.few))

-- ---- the walk
pub walked-over-one : {owner s rest : List ℕ} {f : Formula} {o : Unary} {a : CutWalk} {on : ℕ} {r : CutWalk} → Single s rest f o → Cutting owner (tail 1 s) boards_most a → OverOne o a on r
    → Walked owner f on r
walked-over-one x h k = rw x.same (k _ _ (h _ _ x.front))

pub walked-over-two : {owner s rest : List ℕ} {f : Formula} {o : Binary} {a c : CutWalk} {on : ℕ} {r : CutWalk} → Double s rest f o → Cutting owner (tail 1 s) boards_most a
    → Cutting owner (tail (1 + a.read) s) boards_most c → OverTwo o a c on r → Walked owner f on r
walked-over-two x u h k =
    let w = u _ _ x.front in
    rw x.same (k _ _ _ w (h _ _ (left-read x w.reads).front))
