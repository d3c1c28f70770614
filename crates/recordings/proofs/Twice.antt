-- Mending a mended list of records: it drops nothing (`mended-twice`), breaks before the same records (`mended-breaks`), has no clash
-- (`mended-agrees`) and the same first stretch (`stretch-mended`). Each by the records one after the other: a dropped one equals the one before
-- it, so that what follows is marked by either. Assumes nothing.
use mathlib.Core.Path.{◌≡◌, refl, sym, ap, ap₂, ◌∙◌, subst}
use mathlib.Core.Bool.{Bool, true, not}
use mathlib.Core.List.{List, [], ◌∷◌}
use Prim.Native.Nat.{ℕ}
use lib.Dec.{eqb}
use Rattle.lists.specs.Tests.{pick, both}
use Rattle.lists.proofs.Tests.{both-0, both-1, both_true}
use Rattle.recordings.specs.Records.{Record, clashes, kept, dropped, broken, mark_of}
use Rattle.recordings.specs.Mending.{marks_behind, marks_of, not_dropped, before_break, kept_of, first_stretch, agree_behind, agree}
use Rattle.recordings.proofs.Neighbours.{MarkIs, is-dropped, is-kept, is-broken, mark-is, doubles-same}

-- what is kept behind b
abbrev pub kept_behind : Record → List Record → List Record
kept_behind b rs = not_dropped (marks_behind b rs) rs

-- ---- marks
marks-again : (b : Record) (rs : List Record) → marks_behind b (kept_behind b rs) ≡ not_dropped (marks_behind b rs) (marks_behind b rs)
unfolding marks_behind not_dropped pick
marks-again b [] = refl
marks-again b (r ∷ rs) = go (kept_behind r rs) _ (marks-again r rs) (mark_of b r) refl (mark-is b r)
  where
    go : (ks : List Record) (ms : List ℕ) → marks_behind r ks ≡ ms → (m : ℕ) → mark_of b r ≡ m → MarkIs b r m
        → marks_behind b (pick (eqb m dropped) ks (r ∷ ks)) ≡ pick (eqb m dropped) ms (m ∷ ms)
    go ks ms h _ e (is-dropped d) = subst (λ (x : Record). marks_behind x ks ≡ ms) (doubles-same b r d) h
    go ks ms h _ e (is-kept d f) = ap₂ ◌∷◌ e h
    go ks ms h _ e (is-broken d f) = ap₂ ◌∷◌ e h

pub mended-breaks : (rs : List Record) → marks_of (kept_of rs) ≡ not_dropped (marks_of rs) (marks_of rs)
unfolding marks_of not_dropped pick
mended-breaks [] = refl
mended-breaks (r ∷ rs) = ap (kept ∷◌) (marks-again r rs)

-- ---- records
kept_again : (b : Record) (rs : List Record) → kept_behind b (kept_behind b rs) ≡ kept_behind b rs
unfolding marks_behind not_dropped pick
kept_again b [] = refl
kept_again b (r ∷ rs) = go (kept_behind r rs) (kept_again r rs) (mark_of b r) refl (mark-is b r)
  where
    go : (ks : List Record) → kept_behind r ks ≡ ks → (m : ℕ) → mark_of b r ≡ m → MarkIs b r m → kept_behind b (pick (eqb m dropped) ks (r ∷ ks)) ≡ pick (eqb m dropped) ks (r ∷ ks)
    go ks h _ e (is-dropped d) = subst (λ (x : Record). kept_behind x ks ≡ ks) (doubles-same b r d) h
    go ks h _ e (is-kept d f) = rw e (ap (r ∷◌) h)
    go ks h _ e (is-broken d f) = rw e (ap (r ∷◌) h)

pub mended-twice : (rs : List Record) → kept_of (kept_of rs) ≡ kept_of rs
unfolding marks_of not_dropped pick
mended-twice [] = refl
mended-twice (r ∷ rs) = ap (r ∷◌) (kept_again r rs)

-- ---- clashes
agree-again : (b : Record) (rs : List Record) → agree_behind b rs ≡ true → agree_behind b (kept_behind b rs) ≡ true
unfolding marks_behind not_dropped agree_behind pick
agree-again b [] h = refl
agree-again b (r ∷ rs) h = go (kept_behind r rs) (agree-again r rs (both-1 (not (clashes b r)) _ h)) (mark_of b r) (mark-is b r)
  where
    go : (ks : List Record) → agree_behind r ks ≡ true → (m : ℕ) → MarkIs b r m → agree_behind b (pick (eqb m dropped) ks (r ∷ ks)) ≡ true
    go ks behind _ (is-dropped d) = subst (λ (x : Record). agree_behind x ks ≡ true) (doubles-same b r d) behind
    go ks behind _ (is-kept d f) = both_true _ _ (both-0 (not (clashes b r)) _ h) behind
    go ks behind _ (is-broken d f) = both_true _ _ (both-0 (not (clashes b r)) _ h) behind

pub mended-agrees : (rs : List Record) → agree rs ≡ true → agree (kept_of rs) ≡ true
unfolding marks_of not_dropped agree pick
mended-agrees [] h = refl
mended-agrees (r ∷ rs) h = agree-again r rs h

-- ---- the first stretch
stretch-again : (b : Record) (rs : List Record) → before_break (marks_behind b (kept_behind b rs)) (kept_behind b rs) ≡ before_break (marks_behind b rs) rs
unfolding marks_behind not_dropped before_break pick
stretch-again b [] = refl
stretch-again b (r ∷ rs) = go (kept_behind r rs) _ (stretch-again r rs) (mark_of b r) refl (mark-is b r)
  where
    go : (ks fs : List Record) → before_break (marks_behind r ks) ks ≡ fs → (m : ℕ) → mark_of b r ≡ m → MarkIs b r m
        → before_break (marks_behind b (pick (eqb m dropped) ks (r ∷ ks))) (pick (eqb m dropped) ks (r ∷ ks)) ≡ pick (eqb m broken) [] (pick (eqb m dropped) fs (r ∷ fs))
    go ks fs h _ e (is-dropped d) = subst (λ (x : Record). before_break (marks_behind x ks) ks ≡ fs) (doubles-same b r d) h
    go ks fs h _ e (is-kept d f) = rw e (ap (r ∷◌) h)
    go ks fs h _ e (is-broken d f) = rw e refl

pub stretch-mended : (rs : List Record) → first_stretch (kept_of rs) ≡ first_stretch rs
unfolding marks_of not_dropped before_break pick
stretch-mended [] = refl
stretch-mended (r ∷ rs) = ap (r ∷◌) (stretch-again r rs)
