-- A formula's scores by its top node (`scored-..`), and one law for each way in which the walk that takes them returns
-- (`tallied-..`). `scored-chosen`: the highest of the counts is the formula's choice. Assumes nothing.
use mathlib.Core.Path.{◌≡◌, refl, ap, ap₂, ◌∙◌}
use mathlib.Core.Bool.{Bool}
use mathlib.Core.Option.{none}
use mathlib.Core.List.{List}
use Prim.Native.Nat.{ℕ, ◌+◌}
use native.Mathlib.Omega.{arith}
use lib.ListN.{get_or}
use Rattle.lists.specs.Runs.{tail}
use Rattle.lists.specs.Tests.{bit}
use Rattle.kinds.specs.declared.Leaf.{Leaf}
use Rattle.kinds.specs.declared.Leaf.TheVariants.{Const, Prop, Hold}
use Rattle.kinds.specs.declared.Unary.{Unary}
use Rattle.kinds.specs.declared.Binary.{Binary}
use Rattle.kinds.specs.declared.Kind.TheVariants.{Zero}
use Rattle.limits.specs.Limits.{boards_most}
use Rattle.ltl.specs.Formula.{Formula, leaf, one, two, size, Within}
use Rattle.ltl.proofs.Decoding.{size-some}
use Rattle.network.specs.Scores.{occurrences, highest, chosen}
use Rattle.nodes.proofs.Fronts.{Parts, is_zero, Single, Double}
use Rattle.nodes.proofs.Operands.{left-read}
use Rattle.scores.specs.Scored.{none_scored, one_scored, added}
use Rattle.scores.specs.Owned.{Owned, owner_of}
use Rattle.scores.specs.Tallies.{ScoredAs, Tallies}
use Rattle.scores.proofs.Added.{zeros-few, one-few, added-few}
use Rattle.scores.proofs.Padding.{added-padded, zeros-padded, one-padded, chosen-padded}

-- ---- formulas
-- where no proposition occurs
scored-nothing : (owner : List ℕ) (f : Formula) → ((test : ℕ → Bool) → occurrences test f ≡ 0) → ScoredAs owner f none_scored
scored-nothing owner f h =
    record {
      few = λ b. omega (arith, zeros-few boards_most b, size-some f);
      scores = λ p q masks o w. zeros-padded boards_most (λ m. occurrences (bit m) f) masks o.few (λ b. h (bit (get_or masks b 0)));
    }

scored-proposition : (owner : List ℕ) (i : ℕ) → ScoredAs owner (leaf (Prop i)) (one_scored (get_or owner i 0))
scored-proposition owner i =
    record {
      few = λ b. one-few none_scored (get_or owner i 0) b (zeros-few boards_most);
      scores = λ p q masks o w. one-padded boards_most (get_or owner i 0) i masks o.few (λ j. o.has i j w);
    }

scored-owned : (owner : List ℕ) (a : Leaf) → ScoredAs owner (leaf a) (one_scored (owner_of owner a))
scored-owned owner (Const v) = scored-nothing owner (leaf (Const v)) (λ test. refl)
scored-owned owner (Prop i) = scored-proposition owner i
scored-owned owner (Hold k) = scored-nothing owner (leaf (Hold k)) (λ test. refl)

pub scored-leaf : {owner counts : List ℕ} {a : Leaf} {b : ℕ} → b ≡ owner_of owner a → counts ≡ one_scored b → ScoredAs owner (leaf a) counts
scored-leaf {owner} {a = a} e h = rw (h, e) (scored-owned owner a)

pub scored-one : {owner counts : List ℕ} {f : Formula} (o : Unary) → ScoredAs owner f counts → ScoredAs owner (one o f) counts
scored-one o c = record { few = λ b. omega (arith, c.few b); scores = c.scores }

pub scored-two : {owner xs ys : List ℕ} {f g : Formula} (o : Binary) → ScoredAs owner f xs → ScoredAs owner g ys → ScoredAs owner (two o f g) (added xs ys)
scored-two {owner} {xs} {ys} {f} {g} o c d =
    record {
      few = λ b. added-few xs ys (size f) (size g) (size (two o f g)) c.few d.few (omega arith) b;
      scores = λ p q masks u w.
          ap₂ added (c.scores p q masks u w.0) (d.scores p q masks u w.1)
          ∙ added-padded boards_most (λ m. occurrences (bit m) f) (λ m. occurrences (bit m) g) masks;
    }

-- ---- the choice
pub scored-chosen : {owner counts : List ℕ} {f : Formula} (p q : ℕ) (masks : List ℕ) → ScoredAs owner f counts → Owned p masks owner → Within p q f
    → highest none 0 0 counts ≡ chosen masks f
scored-chosen {f = f} p q masks c o w = ap (highest none 0 0) (c.scores p q masks o w) ∙ chosen-padded boards_most masks f

-- ---- the walk's returns
pub tallied-leaf : {s rest : List ℕ} {f : Formula} {a : Leaf} {owner counts : List ℕ} → Parts s rest f (Zero a) → ScoredAs owner (leaf a) counts
    → (1 ≡ size f) × ScoredAs owner f counts
tallied-leaf (is_zero w e) c = (refl, c)

pub tallied-one : {s rest : List ℕ} {f : Formula} {o : Unary} {r : ℕ} {owner counts : List ℕ} → Single s rest f o → Tallies owner (tail 1 s) r counts
    → (1 + r ≡ size f) × ScoredAs owner f counts
tallied-one {o = o} x h = let a = h _ _ x.front in rw x.same (let e = a.0 in omega arith, scored-one o a.1)

pub tallied-two : {owner s rest : List ℕ} {f : Formula} {o : Binary} {r q : ℕ} {xs ys : List ℕ} → Double s rest f o → Tallies owner (tail 1 s) r xs → Tallies owner (tail (1 + r) s) q ys
    → (1 + r + q ≡ size f) × ScoredAs owner f (added xs ys)
tallied-two {o = o} x u h =
    let a = u _ _ x.front in
    let l = left-read x a.0 in
    let b = h _ _ l.front in
    rw x.same (let e = b.0 in omega arith, scored-two o a.1 b.1)
