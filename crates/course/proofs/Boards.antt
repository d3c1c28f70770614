-- All boards are given their parts of an event, the lowest first. Where none has sampled, each sample is accepted; else the lowest board
-- that has gets 13, and none before it was refused: `boards-given`, with `BoardsGiven`. The invariant is `SampledTo`: the boards
-- below i have sampled, those from i on are as they were. Assumes nothing.
use mathlib.Core.Path.{◌≡◌, refl, sym, ap, ◌∙◌, subst}
use mathlib.Core.Bool.{true, false, not}
use mathlib.Core.List.{List, []}
use mathlib.Core.Logic.{⊎_elim}
use Prim.Native.Nat.{ℕ, zero, suc, ◌+◌, ◌<◌, ◌≤◌}
use native.Mathlib.Decide.{ℕ_discrete}
use native.Mathlib.Nat.{eq-or-lt_of_le}
use native.Mathlib.Omega.{arith}
use lib.Bits.{bit_and}
use borrow.Author.Tests.{eq-eqb, ne_eqb, lt-ltb}
use Rattle.answers.specs.Said.{accepted, refused}
use Rattle.answers.proofs.Answers.{order-ok, order-refused}
use Rattle.state.specs.Fields.{boards_in, slots_in, mask_in, sampled_in, stepped_in}
use Rattle.state.specs.Clauses.{in_mask, state_ok}
use Rattle.state.specs.Writes.{sample_given}
use Rattle.state.specs.Calls.{finished_in, sample_says, sample_leaves}
use Rattle.state.proofs.Framed.{Framed}
use Rattle.state.proofs.Sampled.{sample-framed, sample-slot, sample-other-flag, sample-flag}
use Rattle.records.proofs.Each.{each-false}
use Rattle.checked.proofs.Checked.{each_of}
use Rattle.checked.proofs.Passing.{counts_in, passing-sized, passing-stretched}
use Rattle.keeping.proofs.Sampling.{and-twice}
use Rattle.keeping.proofs.Calls.{accepted-leaves, sample-accepted}
use Rattle.keeping.proofs.Kept.{sample-kept}
use Rattle.course.specs.Given.{After, sampled_from}
use Rattle.course.specs.Order.{none_sampled}
use Rattle.course.proofs.Following.{part_of, sampled-done, sampled-more, sampled-refused}
use Rattle.course.proofs.Frames.{framed-none, framed_then}

-- ---- a board's part of an event is in its mask
part-inside : (e m : ℕ) → in_mask (bit_and e m) m ≡ true
part-inside e m = eq-eqb _ _ (and-twice e m)

-- ---- the boards below i have sampled, those from i on and all slots are as in s
pub record SampledTo (s t : List ℕ) (i : ℕ) : Type 0 where
  pub passes : state_ok t ≡ true
  pub unfinished : finished_in t ≡ false
  pub frame : Framed s t
  pub fresh : (b : ℕ) → b < i → sampled_in s b ≡ 0
  pub sampled : (b : ℕ) → b < i → sampled_in t b ≡ 1
  pub behind : (b : ℕ) → i ≤ b → b < boards_in s → sampled_in t b ≡ sampled_in s b
  pub marks : (k : ℕ) → k < slots_in s → stepped_in t k ≡ stepped_in s k

sampled-none : (s : List ℕ) → state_ok s ≡ true → finished_in s ≡ false → SampledTo s s 0
sampled-none s ok unfinished =
    record {
      passes = ok;
      unfinished = unfinished;
      frame = framed-none s;
      fresh = λ b l. absurd (omega arith);
      sampled = λ b l. absurd (omega arith);
      behind = λ b l h. refl;
      marks = λ k l. refl;
    }

-- one turn
module _ (s : List ℕ) (event : ℕ) (t : List ℕ) (i : ℕ) (x : SampledTo s t i) (l : i < boards_in s) where
  abbrev bits : ℕ
  bits = part_of t event i

  there : i < boards_in t
  there = let e = x.frame.boards in omega arith

  inside : in_mask bits (mask_in t i) ≡ true
  inside = part-inside event (mask_in t i)

  says-already : (sampled_in s i ≡ 0 → ⊥) → sample_says t i bits ≡ refused 13
  unfolding sample_says
  says-already n =
      order-ok 9 _ _ _ x.passes ∙ order-ok 10 _ _ _ (ap not x.unfinished) ∙ order-ok 11 _ _ _ (lt-ltb _ _ there) ∙ order-ok 12 _ _ _ inside
      ∙ order-refused 13 _ _ _ (ne_eqb _ _ (λ e. n (sym (x.behind i (omega arith) l) ∙ e)))

  module _ (fresh : sampled_in s i ≡ 0) where
    says : sample_says t i bits ≡ accepted []
    says = sample-accepted t x.passes x.unfinished i bits there inside (x.behind i (omega arith) l ∙ fresh)

    more : SampledTo s (sample_leaves t i bits) (i + 1)
    more =
        let ok = x.passes in
        let sized = passing-sized t ok in
        let kept = sample-kept t (counts_in t) (record { passes = ok; header = sized.header }) x.unfinished i bits says in
        let e = accepted-leaves _ (sample_given t i bits) t says in
        let n = x.frame.slots in
        record {
          passes = kept.0.passes;
          unfinished = kept.1;
          frame = framed_then x.frame (subst (λ (u : List ℕ). Framed t u) (sym e) (sample-framed t sized i bits there));
          fresh = λ b h. one b h (λ q. ap (sampled_in s) q ∙ fresh) (x.fresh b);
          sampled = λ b h.
              ap (λ (u : List ℕ). sampled_in u b) e
              ∙ one b h (λ q. ap (sampled_in (sample_given t i bits)) q ∙ sample-flag t sized i bits there) (λ m. sample-other-flag t sized i bits there b (λ q. omega arith) ∙ x.sampled b m);
          behind = λ b h m. ap (λ (u : List ℕ). sampled_in u b) e ∙ sample-other-flag t sized i bits there b (λ q. omega arith) ∙ x.behind b (omega arith) m;
          marks = λ k h. ap (λ (u : List ℕ). stepped_in u k) e ∙ (sample-slot t sized i bits there k (omega arith) (passing-stretched t ok k (omega arith))).mark ∙ x.marks k h;
        }
      where
        one : {A : Type 0} (b : ℕ) → b < i + 1 → (b ≡ i → A) → (b < i → A) → A
        one b h f g = ⊎_elim (λ q. f (omega arith)) (λ q. g (omega arith)) (eq-or-lt_of_le h)

-- ---- all of them
pub data BoardsGiven (s : List ℕ) (a : After) : Type 0 where
  all-sampled : none_sampled s ≡ true → a.says ≡ accepted [] → SampledTo s a.leaves (boards_in s) → BoardsGiven s a
  already : none_sampled s ≡ false → a.says ≡ refused 13 → BoardsGiven s a

given-from : (s : List ℕ) (event n i : ℕ) → i + n ≡ boards_in s → (t : List ℕ) → SampledTo s t i → BoardsGiven s (sampled_from n event i t)
given-from s event zero i h t x =
    let e : i ≡ boards_in s = omega arith in
    let y = subst (λ (j : ℕ). SampledTo s t j) e x in
    subst (λ (a : After). BoardsGiven s a) (sym (sampled-done event i t)) (all-sampled (each_of _ (boards_in s) (λ b l. eq-eqb _ _ (y.fresh b l))) refl y)
given-from s event (suc n) i h t x = turn (ℕ_discrete (sampled_in s i) 0) (λ u y. given-from s event n (i + 1) (omega arith) u y)
  where
    turn : Dec (sampled_in s i ≡ 0) → ((u : List ℕ) → SampledTo s u (i + 1) → BoardsGiven s (sampled_from n event (i + 1) u)) → BoardsGiven s (sampled_from (suc n) event i t)
    turn (yes e) rest =
        let l : i < boards_in s = omega arith in
        subst (λ (a : After). BoardsGiven s a) (sym (sampled-more n event i t (says s event t i x l e))) (rest (sample_leaves t i (part_of t event i)) (more s event t i x l e))
    turn (no e) rest =
        let l : i < boards_in s = omega arith in
        let r = says-already s event t i x l e in
        subst (λ (a : After). BoardsGiven s a) (sym (sampled-refused n event i t (rw r (omega arith)))) (already (each-false _ i (boards_in s) l (ne_eqb _ _ e)) r)

pub boards-given : (s : List ℕ) → state_ok s ≡ true → finished_in s ≡ false → (event : ℕ) → BoardsGiven s (sampled_from (boards_in s) event 0 s)
boards-given s ok unfinished event = given-from s event (boards_in s) 0 (omega arith) s (sampled-none s ok unfinished)
