-- A part's scores and cuts by its top node: `parted-..`; and how large they are (`unfolded-few`, `joinable`, `joins-few`). Assumes nothing.
use mathlib.Core.Path.{◌≡◌, refl, sym, ap, ap₂, ◌∙◌}
use mathlib.Core.List.{List}
use mathlib.Core.Logic.{inl, inr}
use mathlib.Core.Option.{none}
use Prim.Native.Nat.{ℕ, ◌+◌, ◌*◌, ◌<◌, ◌≤◌, ◌^◌}
use native.Mathlib.Omega.{arith}
use lib.ListN.{get_or}
use Rattle.kinds.specs.declared.Leaf.{Leaf}
use Rattle.kinds.specs.declared.Unary.TheVariants.{Not, Next, Ever}
use Rattle.kinds.specs.declared.Join.{Join}
use Rattle.kinds.specs.declared.Binary.TheVariants.{Joined, Until}
use Rattle.limits.specs.Limits.{boards_most, nodes_room}
use Rattle.ltl.specs.Formula.{Formula, leaf, one, two, size, Within}
use Rattle.ltl.specs.Progression.{unfolded}
use Rattle.network.specs.Scores.{highest, chosen}
use Rattle.scores.specs.Scored.{counts_below}
use Rattle.scores.specs.Owned.{Owned}
use Rattle.scores.specs.Tallies.{ScoredAs}
use Rattle.scores.proofs.Added.{added-few}
use Rattle.scores.proofs.Counting.{scored-one, scored-two, scored-chosen}
use Rattle.cutting.specs.declared.LaidPart.{LaidPart}
use Rattle.scores.specs.Choice.{code_of, picked_by}
use Rattle.cutting.specs.Cuts.{looked_as, cuts_on, place_of, cut_by, looked_cuts, Lies, Parted, Bare, Joinable, Joins}
use Rattle.cutting.proofs.Choices.{chosen-below, chosen-one, chosen-left, chosen-right}
use Rattle.cutting.proofs.Looking.{looked-by, cut-few, cut-more, place_is}

-- ---- an operand that is looked at
module _ {owner : List ℕ} {f : Formula} {x : LaidPart} (h : Parted owner f boards_most x) where
  looked-is : (p q : ℕ) (masks : List ℕ) → Owned p masks owner → Within p q f → (g : Formula) (on b : ℕ) (counts : List ℕ)
      → highest none 0 0 counts ≡ chosen masks g → (chosen masks g ≡ none → chosen masks f ≡ none) → Lies (chosen masks) g on b
      → looked_as (chosen masks f) b (cuts_on (chosen masks) f) (λ c. 1 + cuts_on (chosen masks) f c) ≡ looked_cuts x (place_of on counts)
  looked-is p q masks o w g on b counts e n l =
      let c = scored-chosen p q masks h.scored o w in
      looked-by (chosen masks f) b (place_of on counts) (cuts_on (chosen masks) f) (λ c. 1 + cuts_on (chosen masks) f c) x.cuts (x.cuts + 1)
      (place_is (chosen masks) f g on b counts e n l)
      (λ c z. chosen-below boards_most masks o.few f c z)
      (λ c z. sym (h.cuts_are p q masks o w c (inl (refl, z))))
      (λ c z. (let k = h.cuts_are p q masks o w c (inl (refl, inr z)) in omega arith))
      ∙ cut-more (code_of (chosen masks f)) (place_of on counts) x.cuts
      ∙ ap (λ (i : ℕ). x.cuts + cut_by i (place_of on counts)) (sym (h.choice-is ∙ ap code_of c))

  looked-few : (board : ℕ) → looked_cuts x board ≤ size f
  looked-few board = let l = h.few in let c = cut-few x.choice board in omega arith

-- ---- by the top node
bare-chosen : {counts : List ℕ} (x : LaidPart) → Bare x counts → x.choice ≡ picked_by x.scores.counts
bare-chosen x e = e.1 ∙ ap picked_by (sym e.0)

module _ {owner counts : List ℕ} {on : ℕ} {x : LaidPart} (e : Bare x counts) where
  pub parted-leaf : (a : Leaf) → ScoredAs owner (leaf a) counts → Parted owner (leaf a) on x
  unfolding cuts_on
  parted-leaf a c =
      record { scored = rw e.0 c; choice-is = bare-chosen x e; few = let z = e.2 in omega arith; cuts_are = λ p q masks o w b l. e.2 }

  pub parted-next : (f : Formula) → ScoredAs owner f counts → Parted owner (one Next f) on x
  unfolding cuts_on
  parted-next f c =
      record { scored = rw e.0 (scored-one Next c); choice-is = bare-chosen x e; few = let z = e.2 in omega arith; cuts_are = λ p q masks o w b l. e.2 }

pub parted-not : {owner : List ℕ} {f : Formula} {a : LaidPart} {on : ℕ} {x : LaidPart} → Parted owner f boards_most a
    → x.scores.counts ≡ a.scores.counts → x.choice ≡ a.choice → x.cuts ≡ looked_cuts a (place_of on a.scores.counts) → Parted owner (one Not f) on x
unfolding cuts_on
parted-not {owner} {f} {a} {on} h s d e =
    record {
      scored = rw s (scored-one Not h.scored);
      choice-is = d ∙ h.choice-is ∙ ap picked_by (sym s);
      few = let l = looked-few h (place_of on a.scores.counts) in omega arith;
      cuts_are = λ p q masks o w b l.
          e ∙ sym (looked-is h p q masks o w (one Not f) on b a.scores.counts (scored-chosen p q masks (scored-one Not h.scored) o w) (λ z. sym (chosen-one masks Not f) ∙ z) l);
    }

pub parted-joined : {owner : List ℕ} {f g : Formula} {a b : LaidPart} (j : Join) {on : ℕ} {x : LaidPart} → Parted owner f boards_most a → Parted owner g boards_most b → Joins a b on x
    → Parted owner (two (Joined j) f g) on x
unfolding cuts_on
parted-joined {owner} {f} {g} {a} {b} j {on} {x} h k e =
    let d : ScoredAs owner (two (Joined j) f g) x.scores.counts = rw e.scores (scored-two (Joined j) h.scored k.scored) in
    record {
      scored = d;
      choice-is = e.choice-is;
      few = let n = e.cuts in let l = looked-few h (place_of on x.scores.counts) in let m = looked-few k (place_of on x.scores.counts) in omega arith;
      cuts_are = λ p q masks o w i l.
          e.cuts
          ∙ sym
          (ap₂ ◌+◌
          (looked-is h p q masks o w.0 (two (Joined j) f g) on i x.scores.counts (scored-chosen p q masks d o w) (chosen-left masks (Joined j) f g) l)
          (looked-is k p q masks o w.1 (two (Joined j) f g) on i x.scores.counts (scored-chosen p q masks d o w) (chosen-right masks (Joined j) f g) l));
    }

-- ---- how large
pub unfolded-few : (f : Formula) → size f ≤ nodes_room → size (unfolded f) ≤ (nodes_room + 4) * size f
unfolded-few (leaf a) l = omega arith
unfolded-few (one Not f) l = omega (arith, unfolded-few f (omega arith))
unfolded-few (one Next f) l = omega arith
unfolded-few (one (Ever j) f) l = omega (arith, unfolded-few f (omega arith))
unfolded-few (two (Joined j) f g) l = omega (arith, unfolded-few f (omega arith), unfolded-few g (omega arith))
unfolded-few (two Until f g) l = omega (arith, unfolded-few f (omega arith), unfolded-few g (omega arith))

pub joinable : {owner : List ℕ} {f g : Formula} {a b : LaidPart} {on : ℕ} → Parted owner f boards_most a → Parted owner g on b → size f + size g < counts_below → Joinable a b
joinable h k l =
    record {
      scores = λ i. (let x = h.scored.few i in let y = k.scored.few i in omega arith);
      cuts = let x = h.few in let y = k.few in omega arith;
    }

-- what an operand and the copy of an until are below; three times that is below counts_below
abbrev pub until_below : ℕ
until_below = 2 ^ 25

pub joins-few : {a b : LaidPart} {on : ℕ} {r : LaidPart} → Joins a b on r → ((i : ℕ) → (get_or a.scores.counts i 0 < until_below) × (get_or b.scores.counts i 0 < until_below)) → (i : ℕ)
    → (get_or r.scores.counts i 0 ≤ 2 * until_below) × (r.cuts ≤ a.cuts + b.cuts + 2)
joins-few {a} {b} {on} {r} e l i =
    let board = place_of on r.scores.counts in (
      rw e.scores (added-few a.scores.counts b.scores.counts until_below until_below (2 * until_below) (λ j. (let x = l j in omega arith)) (λ j. (let x = l j in omega arith)) (omega arith) i),
      omega (arith, e.cuts, cut-few a.choice board, cut-few b.choice board),
    )
