-- Kept records and the first stretch. The kept ones are those of the list in their order (`kept-in-order`). The first stretch is what they begin
-- with, and behind it there is nothing or a break (`stretch-ends`). Where nothing clashes each step in it is 1 (`stretch-steps`). Assumes nothing.
use mathlib.Core.Path.{◌≡◌, refl, ap, ◌∙◌, subst}
use mathlib.Core.Bool.{true, false, not}
use mathlib.Core.List.{List, [], ◌∷◌, ◌++◌}
use mathlib.Core.Logic.{inl, inr}
use Prim.Native.Nat.{ℕ}
use lib.ListN.{length, replicate}
use lib.Dec.{eqb}
use borrow.Author.Tests.{not-true}
use Rattle.lists.specs.Tests.{pick, both}
use Rattle.lists.proofs.Tests.{both-0, both-1}
use Rattle.recordings.specs.Records.{Record, clashes, kept, dropped, broken, mark_of}
use Rattle.recordings.specs.Mending.{marks_behind, marks_of, not_dropped, before_break, kept_of, first_stretch, agree_behind, agree}
use Rattle.recordings.specs.Kept.{Thinned, none, stays, goes, SteadyBehind, Steady, NoneOrBreak, StretchEnds, FitsRecord, AllFit}
use Rattle.recordings.proofs.Neighbours.{MarkIs, is-dropped, is-kept, is-broken, mark-is, doubles-same, kept_step}
use Rattle.recordings.proofs.Twice.{kept_behind, mended-breaks}

-- ---- order
thinned : (b : Record) (rs : List Record) → Thinned rs (kept_behind b rs)
unfolding marks_behind not_dropped pick
thinned b [] = none
thinned b (r ∷ rs) = go (thinned r rs) (mark_of b r) (mark-is b r)
  where
    go : {ks : List Record} → Thinned rs ks → (m : ℕ) → MarkIs b r m → Thinned (r ∷ rs) (pick (eqb m dropped) ks (r ∷ ks))
    go t _ (is-dropped d) = goes r t
    go t _ (is-kept d f) = stays r t
    go t _ (is-broken d f) = stays r t

pub kept-in-order : (rs : List Record) → Thinned rs (kept_of rs)
unfolding marks_of not_dropped pick
kept-in-order [] = none
kept-in-order (r ∷ rs) = stays r (thinned r rs)

-- ---- where the first stretch ends
-- of the records behind b
record EndsBehind (b : Record) (rs : List Record) : Type 0 where
  pub further : List Record
  pub marks : List ℕ
  pub front : kept_behind b rs ≡ before_break (marks_behind b rs) rs ++ further
  pub marked : not_dropped (marks_behind b rs) (marks_behind b rs) ≡ replicate (length (before_break (marks_behind b rs) rs)) kept ++ marks
  pub ends : NoneOrBreak marks

ends-behind : (b : Record) (rs : List Record) → EndsBehind b rs
unfolding marks_behind not_dropped before_break pick
ends-behind b [] = record { further = []; marks = []; front = refl; marked = refl; ends = inl refl }
ends-behind b (r ∷ rs) = go (ends-behind r rs) (mark_of b r) refl (mark-is b r)
  where
    go : EndsBehind r rs → (m : ℕ) → mark_of b r ≡ m → MarkIs b r m → EndsBehind b (r ∷ rs)
    go h _ e (is-dropped d) = record { further = h.further; marks = h.marks; front = rw e h.front; marked = rw e h.marked; ends = h.ends }
    go h _ e (is-kept d f) =
        record { further = h.further; marks = h.marks; front = rw e (ap (r ∷◌) h.front); marked = rw e (ap (kept ∷◌) h.marked); ends = h.ends }
    go h _ e (is-broken d f) =
        record {
          further = r ∷ kept_behind r rs;
          marks = broken ∷ not_dropped (marks_behind r rs) (marks_behind r rs);
          front = rw e refl;
          marked = rw e refl;
          ends = inr (not_dropped (marks_behind r rs) (marks_behind r rs), refl);
        }

pub stretch-ends : (rs : List Record) → StretchEnds rs
unfolding marks_of not_dropped before_break pick
stretch-ends [] = record { further = []; marks = []; front = refl; marked = refl; ends = inl refl }
stretch-ends (r ∷ rs) =
    let h = ends-behind r rs in
    record { further = h.further; marks = h.marks; front = ap (r ∷◌) h.front; marked = mended-breaks (r ∷ rs) ∙ ap (kept ∷◌) h.marked; ends = h.ends }

-- ---- its steps
steady : (b : Record) (rs : List Record) → FitsRecord b → AllFit rs → agree_behind b rs ≡ true → SteadyBehind b (before_break (marks_behind b rs) rs)
unfolding marks_behind before_break agree_behind pick
steady b [] fits all h = tt
steady b (r ∷ rs) fits all h = go _ (steady r rs all.0 all.1 (both-1 (not (clashes b r)) _ h)) (mark_of b r) (mark-is b r)
  where
    go : (fs : List Record) → SteadyBehind r fs → (m : ℕ) → MarkIs b r m → SteadyBehind b (pick (eqb m broken) [] (pick (eqb m dropped) fs (r ∷ fs)))
    go fs t _ (is-dropped d) = subst (λ (x : Record). SteadyBehind x fs) (doubles-same b r d) t
    go fs t _ (is-kept d f) = (kept_step b r fits all.0 (not-true (clashes b r) (both-0 (not (clashes b r)) _ h)) d f, t)
    go fs t _ (is-broken d f) = tt

pub stretch-steps : (rs : List Record) → AllFit rs → agree rs ≡ true → Steady (first_stretch rs)
unfolding marks_of before_break agree pick
stretch-steps [] all h = tt
stretch-steps (r ∷ rs) all h = steady r rs all.0 all.1 h
