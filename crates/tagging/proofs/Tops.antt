-- A part that was tagged, by its top node: one law for each way in which the walk returns (`tagged-..`). Assumes nothing.
use mathlib.Core.Path.{◌≡◌, refl, sym, ap, ap₂, ◌∙◌}
use mathlib.Core.Bool.{Bool, true, false}
use mathlib.Core.List.{List}
use mathlib.Core.Logic.{inl}
use mathlib.Core.Option.{Option, none, some}
use Prim.Native.Nat.{ℕ, ◌+◌, ◌<◌, ◌≤◌}
use native.Mathlib.Omega.{arith}
use lib.ListN.{length, get_or, drop, set}
use lib.Seq.{drop-drop}
use Rattle.lists.specs.Tests.{pick}
use Rattle.lists.proofs.Stretches.{set_first}
use Rattle.kinds.specs.declared.Leaf.{Leaf}
use Rattle.kinds.specs.declared.Kind.TheVariants.{Zero}
use Rattle.kinds.specs.declared.Unary.TheVariants.{Not}
use Rattle.kinds.specs.declared.Join.{Join}
use Rattle.kinds.specs.declared.Binary.TheVariants.{Joined}
use Rattle.limits.specs.Limits.{boards_most, nodes_room}
use Rattle.ltl.specs.Formula.{Formula, one, two, size, Within}
use Rattle.ltl.proofs.Decoding.{size-some}
use Rattle.network.specs.Scores.{highest, chosen}
use Rattle.nodes.proofs.Fronts.{Parts, is_zero}
use Rattle.scores.specs.declared.Scores.{Scores}
use Rattle.scores.specs.Owned.{Owned, owner_of}
use Rattle.scores.specs.Scored.{one_scored, added}
use Rattle.scores.specs.Tallies.{ScoredAs}
use Rattle.scores.proofs.Counting.{scored-leaf, scored-one, scored-two, scored-chosen}
use Rattle.scores.specs.Choice.{code_of, picked_by, stays_on}
use Rattle.cutting.specs.Cuts.{looked_as, place_of, Lies}
use Rattle.cutting.proofs.Choices.{chosen-below, chosen-one, chosen-left, chosen-right}
use Rattle.cutting.proofs.Looking.{looked-by, place_is, place-own}
use Rattle.tagging.specs.declared.TaggedPart.{TaggedPart}
use Rattle.tagging.specs.Packed.{tag_of}
use Rattle.tagging.specs.Tags.{here_on, Tags, Tagged, TaggedAs, shown_as, Seals, Showable, NotAsk, PairAsk, TagOver, OverNot, OverPair}
use Rattle.tagging.proofs.Packing.{board-fits, length-fits, tag-has}
use Rattle.tagging.proofs.Places.{Agree, tags-alike, tagged-same}

-- ---- the length of an operand in a slot
pub shown-stays : (choice here board : ℕ) → stays_on choice board ≡ true → shown_as choice here board ≡ here
unfolding shown_as pick
shown-stays choice here board e = rw e

pub shown-cut : (choice here board : ℕ) → stays_on choice board ≡ false → shown_as choice here board ≡ 1
unfolding shown_as pick
shown-cut choice here board e = rw e

-- it is no longer than the operand
pub shown-few : {a : TaggedPart} (board : ℕ) {n : ℕ} → Showable a → n ≡ shown_as a.board a.here board → n ≤ a.read
unfolding shown_as pick
shown-few {a} board h e = rw e (go (stays_on a.board board))
  where
    go : (t : Bool) → pick t a.here 1 ≤ a.read
    go true = h.few
    go false = h.some

-- ---- a tag on top of others
pub over-scored : {read : ℕ} {scores : Scores} {board n : ℕ} {tags tags' : List ℕ} {r : TaggedPart} {counts : List ℕ} {on : ℕ} {here : ℕ → ℕ}
    → scores.counts ≡ counts → board ≡ place_of on scores.counts → n ≡ here board → Seals read scores board n tags tags' r → TagOver read counts on here tags tags' r
over-scored {tags = tags} {on = on} {here = here} c e h s =
    let b = e ∙ ap (place_of on) c in
    let x = s.result in
    record {
      reads = ap (λ (y : TaggedPart). y.read) x;
      scores = ap (λ (y : TaggedPart). y.scores.counts) x ∙ c;
      board-is = ap (λ (y : TaggedPart). y.board) x ∙ b;
      here-is = ap (λ (y : TaggedPart). y.here) x ∙ h ∙ ap here b;
      writes = s.writes ∙ ap (λ (y : TaggedPart). set tags 0 (tag_of y.here y.board)) (sym x);
    }

pub whole-over : {owner : List ℕ} {f : Formula} {read : ℕ} {scores : Scores} {board : ℕ} {tags tags' : List ℕ} {r : TaggedPart} {on : ℕ} → (read ≡ size f) × ScoredAs owner f scores.counts
    → board ≡ place_of on scores.counts → Seals read scores board read tags tags' r
    → ScoredAs owner f r.scores.counts × TagOver (size f) r.scores.counts on (λ b. size f) tags tags' r
whole-over {owner} {f} {read} {scores} {board} {tags} {tags'} {r} {on} t e s =
    let x : r.scores.counts ≡ scores.counts = ap (λ (y : TaggedPart). y.scores.counts) s.result in
    let v : TagOver read scores.counts on (λ b. size f) tags tags' r = over-scored refl e t.0 s in (
      rw x t.1,
      record { reads = v.reads ∙ t.0; scores = refl; board-is = v.board-is ∙ ap (place_of on) (sym x); here-is = v.here-is; writes = v.writes },
    )

pub leaf-over : {owner u rest : List ℕ} {f : Formula} {a : Leaf} {i on : ℕ} {tags tags' : List ℕ} {r : TaggedPart} → Parts u rest f (Zero a) → i ≡ owner_of owner a
    → TagOver 1 (one_scored i) on (λ b. 1) tags tags' r → ScoredAs owner f r.scores.counts × TagOver (size f) r.scores.counts on (λ b. size f) tags tags' r
leaf-over {on = on} (is_zero w e) o v = (
  scored-leaf o v.scores,
  record { reads = v.reads; scores = refl; board-is = v.board-is ∙ ap (place_of on) (sym v.scores); here-is = v.here-is; writes = v.writes },
)

-- ---- an operand that was tagged
module _ {owner tags : List ℕ} {f : Formula} {a : TaggedPart} (h : TaggedAs owner f boards_most tags a) where
  module _ (p q : ℕ) (masks : List ℕ) (o : Owned p masks owner) (w : Within p q f) where
    choice-is : a.board ≡ code_of (chosen masks f)
    choice-is = h.board-is ∙ place-own boards_most (picked_by a.scores.counts) refl ∙ ap code_of (scored-chosen p q masks h.scored o w)

    -- its length in a slot
    shown-is : (g : Formula) (on b : ℕ) (counts : List ℕ) → highest none 0 0 counts ≡ chosen masks g → (chosen masks g ≡ none → chosen masks f ≡ none)
        → Lies (chosen masks) g on b → shown_as a.board a.here (place_of on counts) ≡ looked_as (chosen masks f) b (here_on (chosen masks) f) (λ c. 1)
    unfolding shown_as
    shown-is g on b counts e n l =
        ap (λ (i : ℕ). pick (stays_on i (place_of on counts)) a.here 1) choice-is
        ∙ sym
        (looked-by (chosen masks f) b (place_of on counts) (here_on (chosen masks) f) (λ c. 1) a.here 1
        (place_is (chosen masks) f g on b counts e n l)
        (λ c z. chosen-below boards_most masks o.few f c z)
        (λ c z. sym (h.here-is p q masks o w c (inl (refl, z))))
        (λ c z. refl))

    -- its tag
    tags-is : Tags (chosen masks) f boards_most (get_or tags 0 0)
    unfolding pick
    tags-is =
        let l = code-few (chosen masks f) refl in
        let m = tag-has (get_or tags 0 0) a.here a.board h.tag_is (board-fits a.board (let e = choice-is in omega arith)) h.small in
        record { board-is = m.board-is ∙ choice-is; here-is = λ b z. m.here-is ∙ h.here-is p q masks o w b z }
      where
        code-few : (c : Option ℕ) → chosen masks f ≡ c → code_of c ≤ boards_most
        code-few none e = omega arith
        code-few (some c) e = let l = chosen-below boards_most masks o.few f c e in omega arith

  pub showable : Showable a
  showable = let r = h.reads in let n = h.few in let s = size-some f in record { some = omega arith; few = omega arith }

  pub not-asks : size f < nodes_room → NotAsk a
  not-asks l = let r = h.reads in record { board-is = h.board-is ∙ place-own boards_most (picked_by a.scores.counts) refl; part = showable; reads = omega arith }

-- ---- the tag on top
-- the first tag is the new one, and the others stay
top-tag : (tags tags' : List ℕ) (v : ℕ) → 0 < length tags → tags' ≡ set tags 0 v → (get_or tags' 0 0 ≡ v) × (drop 1 tags' ≡ drop 1 tags)
top-tag tags tags' v l e = let s = e ∙ set_first tags v l in (ap (λ (x : List ℕ). get_or x 0 0) s, ap (drop 1) s)

module _ {owner : List ℕ} {on : ℕ} (tags : List ℕ) {tags' : List ℕ} {r : TaggedPart} (some-tags : 0 < length tags) where
  -- a part that stays whole
  pub tagged-whole : {f : Formula} → ((choose : Formula → Option ℕ) (b : ℕ) → here_on choose f b ≡ size f) → ((choose : Formula → Option ℕ) → Tagged choose f tags')
      → ScoredAs owner f r.scores.counts × TagOver (size f) r.scores.counts on (λ b. size f) tags tags' r → size f ≤ nodes_room → TaggedAs owner f on tags' r
  tagged-whole here none-tagged x n =
      let v = x.1 in
      record {
        reads = v.reads;
        scored = x.0;
        board-is = v.board-is;
        few = let e = v.here-is in omega arith;
        small = length-fits r.here (let e = v.here-is in omega arith);
        here-is = λ p q masks o w b l. v.here-is ∙ sym (here (chosen masks) b);
        tag_is = (top-tag tags tags' _ some-tags v.writes).0;
        tagged = λ p q masks o w. none-tagged (chosen masks);
      }

  pub tagged-not : {f : Formula} {a : TaggedPart} → TaggedAs owner f boards_most (drop 1 tags) a → OverNot a on tags tags' r → size f < nodes_room → TaggedAs owner (one Not f) on tags' r
  unfolding here_on
  tagged-not {f} {a} h x n =
      let m = top-tag tags tags' _ some-tags x.writes in
      let i = h.reads in
      let e = x.here-is in
      let l = shown-few (place_of on a.scores.counts) (showable h) refl in
      record {
        reads = let e = x.reads in omega arith;
        scored = rw x.scores (scored-one Not h.scored);
        board-is = x.board-is ∙ ap (place_of on) (sym x.scores);
        few = omega arith;
        small = length-fits r.here (omega arith);
        here-is = λ p q masks o w b l.
            x.here-is
            ∙ ap (1 +◌) (shown-is h p q masks o w (one Not f) on b a.scores.counts (scored-chosen p q masks (scored-one Not h.scored) o w) (λ z. sym (chosen-one masks Not f) ∙ z) l);
        tag_is = m.0;
        tagged = λ p q masks o w. (
          rw m.1 (tags-is h p q masks o w),
          rw m.1 (h.tagged p q masks o w),
        );
      }

  pub tagged-pair : {f g : Formula} {a c : TaggedPart} {left right : List ℕ} (j : Join) → TaggedAs owner f boards_most left a → TaggedAs owner g boards_most right c
      → Agree (size f) left (drop 1 tags) → drop (1 + size f) tags ≡ right → OverPair a c on tags tags' r → size f + size g < nodes_room → TaggedAs owner (two (Joined j) f g) on tags' r
  unfolding here_on
  tagged-pair {f} {g} {a} {c} {left} {right} j h k same behind x few-nodes =
      let counts = added a.scores.counts c.scores.counts in
      let s = scored-two (Joined j) h.scored k.scored in
      let m = top-tag tags tags' _ some-tags x.writes in
      let t : Agree (size f) left (drop 1 tags') = λ i l. rw m.1 (same i l) in
      let u : drop (1 + size f) tags' ≡ right = sym (drop-drop (size f) 1 tags') ∙ ap (drop (size f)) m.1 ∙ drop-drop (size f) 1 tags ∙ behind in
      let i = h.reads in
      let n = k.reads in
      let e = x.here-is in
      let y = shown-few (place_of on counts) (showable h) refl in
      let z = shown-few (place_of on counts) (showable k) refl in
      record {
        reads = let e = x.reads in omega arith;
        scored = rw x.scores s;
        board-is = x.board-is ∙ ap (place_of on) (sym x.scores);
        few = omega arith;
        small = length-fits r.here (omega arith);
        here-is = λ p q masks o w b l.
            x.here-is
            ∙ ap₂ (λ (y z : ℕ). 1 + y + z)
            (shown-is h p q masks o w.0 (two (Joined j) f g) on b counts (scored-chosen p q masks s o w) (chosen-left masks (Joined j) f g) l)
            (shown-is k p q masks o w.1 (two (Joined j) f g) on b counts (scored-chosen p q masks s o w) (chosen-right masks (Joined j) f g) l);
        tag_is = m.0;
        tagged = λ p q masks o w. (
          (tags-alike (t 0 (size-some f)) (tags-is h p q masks o w.0), tagged-same (chosen masks) f left (drop 1 tags') t (h.tagged p q masks o w.0)),
          (rw u (tags-is k p q masks o w.1), rw u (k.tagged p q masks o w.1)),
        );
      }

pub pair-asks : {owner left right : List ℕ} {f g : Formula} {a c : TaggedPart} → TaggedAs owner f boards_most left a → TaggedAs owner g boards_most right c → size f + size g < nodes_room → PairAsk a c
pair-asks h k l =
    let r = h.reads in
    let q = k.reads in
    record { scores = λ i. (let x = h.scored.few i in let y = k.scored.few i in omega arith); left = showable h; right = showable k; reads = omega arith }
