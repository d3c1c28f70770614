-- Records by their place. The marks of a list are those at each place (`marks-listed`): so the first record is kept (`first-kept`), and each other one is
-- dropped, and comes after a break, exactly where it does beside the one before it (`dropped-at`, `broken-at`). Whether a list has a clash, by places (`agree-all`,
-- `agree_at`, `agree-not`). One record more: what is kept then (`kept_more`) and the first stretch (`stretch-more`), as long as no break has come
-- (`whole`, `whole-more`, `whole-all`); a break ends it (`stretch-stops`), and without one it is all that is kept (`stretch-whole`). How many there are
-- (`kept-few`, `stretch-few`, `kept-count`, `first_count`). Assumes nothing.
use mathlib.Core.Path.{◌≡◌, refl, sym, ap, ap₂, ◌∙◌, subst}
use mathlib.Core.Bool.{Bool, true, false, not}
use mathlib.Core.List.{List, [], ◌∷◌, ◌++◌}
use Prim.Native.Nat.{ℕ, zero, suc, ◌+◌, ◌<◌, ◌≤◌}
use native.Mathlib.Omega.{arith}
use lib.ListN.{length, get_or}
use lib.Dec.{eqb}
use borrow.Author.Tests.{not-true, ne_eqb}
use Rattle.lists.specs.Tests.{pick, both}
use Rattle.lists.specs.Listed.{listed}
use Rattle.lists.proofs.Tests.{no_true, both-0, both-1, both_true}
use Rattle.lists.proofs.Listed.{listed_at}
use Rattle.recordings.specs.Records.{Record, step_from, clashes, kept, dropped, broken, mark_of}
use Rattle.recordings.specs.Mending.{marks_behind, marks_of, not_dropped, before_break, kept_of, first_stretch, agree_behind, agree, mark_by, NoClash}
use Rattle.recordings.specs.Kept.{FitsRecord}
use Rattle.recordings.proofs.Neighbours.{dropped-where, break-where}

-- ---- marks
marks-behind : (f : ℕ → Record) (n : ℕ) → marks_behind (f 0) (listed (λ k. f (suc k)) n) ≡ listed (λ k. mark_of (f k) (f (suc k))) n
unfolding marks_behind listed
marks-behind f zero = refl
marks-behind f (suc n) = ap (mark_of (f 0) (f 1) ∷◌) (marks-behind (λ k. f (suc k)) n)

pub marks-listed : (f : ℕ → Record) (n : ℕ) → marks_of (listed f n) ≡ listed (mark_by f) n
unfolding marks_of listed mark_by
marks-listed f zero = refl
marks-listed f (suc n) = ap (kept ∷◌) (marks-behind f n)

-- the mark that stands at a place
mark-at : (f : ℕ → Record) (n i : ℕ) → i < n → get_or (marks_of (listed f n)) i 0 ≡ mark_by f i
mark-at f n i h = ap (λ (ms : List ℕ). get_or ms i 0) (marks-listed f n) ∙ listed_at 0 (mark_by f) n i h

pub first-kept : (f : ℕ → Record) (n : ℕ) → 0 < n → get_or (marks_of (listed f n)) 0 0 ≡ kept
unfolding mark_by
first-kept f n h = mark-at f n 0 h

module _ (f : ℕ → Record) (n i : ℕ) (h : suc i < n) where
  beside : get_or (marks_of (listed f n)) (suc i) 0 ≡ mark_of (f i) (f (suc i))
  unfolding mark_by
  beside = mark-at f n (suc i) h

  pub dropped-at : (get_or (marks_of (listed f n)) (suc i) 0 ≡ dropped → ((f (suc i)).counter ≡ (f i).counter) × ((f (suc i)).event ≡ (f i).event))
      × (((f (suc i)).counter ≡ (f i).counter) × ((f (suc i)).event ≡ (f i).event) → get_or (marks_of (listed f n)) (suc i) 0 ≡ dropped)
  dropped-at = let d = dropped-where (f i) (f (suc i)) in (λ e. d.0 (sym beside ∙ e), λ e. beside ∙ d.1 e)

  pub broken-at : FitsRecord (f i)
      → (get_or (marks_of (listed f n)) (suc i) 0 ≡ broken → (step_from (f i).counter (f (suc i)).counter ≡ 0 → ⊥) × (step_from (f i).counter (f (suc i)).counter ≡ 1 → ⊥))
      × ((step_from (f i).counter (f (suc i)).counter ≡ 0 → ⊥) × (step_from (f i).counter (f (suc i)).counter ≡ 1 → ⊥) → get_or (marks_of (listed f n)) (suc i) 0 ≡ broken)
  broken-at fits = let d = break-where (f i) (f (suc i)) fits in (λ e. d.0 (sym beside ∙ e), λ e. beside ∙ d.1 e)

-- ---- clashes
behind-all : (f : ℕ → Record) (n : ℕ) → NoClash f (suc n) → agree_behind (f 0) (listed (λ k. f (suc k)) n) ≡ true
unfolding agree_behind listed
behind-all f zero h = refl
behind-all f (suc n) h = both_true _ _ (ap not (h 0 (omega arith))) (behind-all (λ k. f (suc k)) n (λ i l. h (suc i) (omega arith)))

pub agree-all : (f : ℕ → Record) (n : ℕ) → NoClash f n → agree (listed f n) ≡ true
unfolding agree listed
agree-all f zero h = refl
agree-all f (suc n) h = behind-all f n h

behind-at : (f : ℕ → Record) (n : ℕ) → agree_behind (f 0) (listed (λ k. f (suc k)) n) ≡ true → NoClash f (suc n)
unfolding agree_behind listed
behind-at f zero e i l = absurd (omega arith)
behind-at f (suc n) e zero l = not-true (clashes (f 0) (f 1)) (both-0 _ _ e)
behind-at f (suc n) e (suc i) l = behind-at (λ k. f (suc k)) n (both-1 (not (clashes (f 0) (f 1))) _ e) i (omega arith)

pub agree_at : (f : ℕ → Record) (n : ℕ) → agree (listed f n) ≡ true → NoClash f n
unfolding agree listed
agree_at f zero e i l = absurd (omega arith)
agree_at f (suc n) e i l = behind-at f n e i l

pub agree-not : (f : ℕ → Record) (n i : ℕ) → suc i < n → clashes (f i) (f (suc i)) ≡ true → agree (listed f n) ≡ false
agree-not f n i l e = go (agree (listed f n)) refl
  where
    go : (x : Bool) → agree (listed f n) ≡ x → agree (listed f n) ≡ false
    go true h = absurd (no_true (sym (agree_at f n h i l) ∙ e))
    go false h = h

-- ---- one record more
-- none of these marks is a break
unfoldable pub whole : List ℕ → Bool
whole [] = true
whole (m ∷ ms) = both (not (eqb m broken)) (whole ms)

pub whole-more : (m : ℕ → ℕ) (i : ℕ) → whole (listed m (suc i)) ≡ both (whole (listed m i)) (not (eqb (m i) broken))
unfolding whole listed both
whole-more m zero = go (not (eqb (m 0) broken))
  where
    go : (x : Bool) → both x true ≡ x
    go true = refl
    go false = refl
whole-more m (suc i) = go (not (eqb (m 0) broken)) _ _ _ (whole-more (λ k. m (suc k)) i)
  where
    go : (d x y z : Bool) → x ≡ both y z → both d x ≡ both (both d y) z
    go true x y z e = e
    go false x y z e = refl

pub whole-all : (m : ℕ → ℕ) (i : ℕ) → ((j : ℕ) → j < i → m j ≡ broken → ⊥) → whole (listed m i) ≡ true
unfolding whole listed
whole-all m zero h = refl
whole-all m (suc i) h = both_true _ _ (ap not (ne_eqb (m 0) broken (h 0 (omega arith)))) (whole-all (λ k. m (suc k)) i (λ j l. h (suc j) (omega arith)))

module _ {A : Type 0} where
  pub kept_more : (m : ℕ → ℕ) (f : ℕ → A) (i : ℕ)
      → not_dropped (listed m (suc i)) (listed f (suc i)) ≡ not_dropped (listed m i) (listed f i) ++ pick (eqb (m i) dropped) [] (f i ∷ [])
  unfolding not_dropped listed pick
  kept_more m f zero = refl
  kept_more m f (suc i) = go (eqb (m 0) dropped) _ _ (kept_more (λ k. m (suc k)) (λ k. f (suc k)) i)
    where
      go : (d : Bool) (x y : List A) → x ≡ y ++ pick (eqb (m (suc i)) dropped) [] (f (suc i) ∷ [])
          → pick d x (f 0 ∷ x) ≡ pick d y (f 0 ∷ y) ++ pick (eqb (m (suc i)) dropped) [] (f (suc i) ∷ [])
      go true x y e = e
      go false x y e = ap (f 0 ∷◌) e

  -- as long as no break has come, this one included, it is one of the first stretch where it is not dropped
  pub stretch-more : (m : ℕ → ℕ) (f : ℕ → A) (i : ℕ) → before_break (listed m (suc i)) (listed f (suc i))
      ≡ before_break (listed m i) (listed f i) ++ pick (whole (listed m (suc i))) (pick (eqb (m i) dropped) [] (f i ∷ [])) []
  unfolding before_break whole listed pick both
  stretch-more m f zero = go (eqb (m 0) broken)
    where
      go : (d : Bool) → pick d [] (pick (eqb (m 0) dropped) [] (f 0 ∷ [])) ≡ pick (both (not d) true) (pick (eqb (m 0) dropped) [] (f 0 ∷ [])) []
      go true = refl
      go false = refl
  stretch-more m f (suc i) = go (eqb (m 0) broken) (eqb (m 0) dropped) _ _ _ (stretch-more (λ k. m (suc k)) (λ k. f (suc k)) i)
    where
      go : (d e : Bool) (x y : List A) (w : Bool) → x ≡ y ++ pick w (pick (eqb (m (suc i)) dropped) [] (f (suc i) ∷ [])) []
          → pick d [] (pick e x (f 0 ∷ x)) ≡ pick d [] (pick e y (f 0 ∷ y)) ++ pick (both (not d) w) (pick (eqb (m (suc i)) dropped) [] (f (suc i) ∷ [])) []
      go true e x y w h = refl
      go false true x y w h = h
      go false false x y w h = ap (f 0 ∷◌) h

  -- a break ends it
  pub stretch-stops : (m : ℕ → ℕ) (f : ℕ → A) (i n : ℕ) → whole (listed m i) ≡ true → i < n → eqb (m i) broken ≡ true
      → before_break (listed m n) (listed f n) ≡ before_break (listed m i) (listed f i)
  unfolding before_break whole listed pick
  stretch-stops m f i zero w l e = absurd (omega arith)
  stretch-stops m f zero (suc n) w l e = rw e refl
  stretch-stops m f (suc i) (suc n) w l e =
      ap (λ (x : List A). pick (eqb (m 0) broken) [] (pick (eqb (m 0) dropped) x (f 0 ∷ x)))
      (stretch-stops (λ k. m (suc k)) (λ k. f (suc k)) i n (both-1 (not (eqb (m 0) broken)) _ w) (omega arith) e)

  -- without one it is all that is kept
  pub stretch-whole : (m : ℕ → ℕ) (f : ℕ → A) (i : ℕ) → whole (listed m i) ≡ true → before_break (listed m i) (listed f i) ≡ not_dropped (listed m i) (listed f i)
  unfolding before_break not_dropped whole listed pick
  stretch-whole m f zero w = refl
  stretch-whole m f (suc i) w =
      rw (not-true (eqb (m 0) broken) (both-0 _ _ w))
      (ap (λ (x : List A). pick (eqb (m 0) dropped) x (f 0 ∷ x)) (stretch-whole (λ k. m (suc k)) (λ k. f (suc k)) i (both-1 (not (eqb (m 0) broken)) _ w)))

  -- ---- how many
  pub kept-few : (m : ℕ → ℕ) (f : ℕ → A) (i : ℕ) → length (not_dropped (listed m i) (listed f i)) ≤ i
  unfolding not_dropped listed pick
  kept-few m f zero = omega arith
  kept-few m f (suc i) = go (eqb (m 0) dropped) _ (kept-few (λ k. m (suc k)) (λ k. f (suc k)) i)
    where
      go : (d : Bool) (x : List A) → length x ≤ i → length (pick d x (f 0 ∷ x)) ≤ suc i
      go true x h = omega arith
      go false x h = omega arith

  pub stretch-few : (m : ℕ → ℕ) (f : ℕ → A) (i : ℕ) → length (before_break (listed m i) (listed f i)) ≤ i
  unfolding before_break listed pick
  stretch-few m f zero = omega arith
  stretch-few m f (suc i) = go (eqb (m 0) broken) (eqb (m 0) dropped) _ (stretch-few (λ k. m (suc k)) (λ k. f (suc k)) i)
    where
      go : (d e : Bool) (x : List A) → length x ≤ i → length (pick d [] (pick e x (f 0 ∷ x))) ≤ suc i
      go true e x h = omega arith
      go false true x h = omega arith
      go false false x h = omega arith

-- of all n records
pub kept-count : (f : ℕ → Record) (n : ℕ) → length (kept_of (listed f n)) ≤ n
kept-count f n = subst (λ (ms : List ℕ). length (not_dropped ms (listed f n)) ≤ n) (sym (marks-listed f n)) (kept-few (mark_by f) f n)

pub first_count : (f : ℕ → Record) (n : ℕ) → length (first_stretch (listed f n)) ≤ n
first_count f n = subst (λ (ms : List ℕ). length (before_break ms (listed f n)) ≤ n) (sym (marks-listed f n)) (stretch-few (mark_by f) f n)
