-- A tick exists: from a watch's state that is not finished, and for every event, calls that are all accepted lead to a state where the close
-- is all that is left and every board has seen the event (`tick-reached`). Boards sample from the first up, slots step from the last down:
-- `TickProgress` is how far that has come, and one more board or slot is `sample-says` and `sample-more`, `step-says` and `step-more`.
-- Assumes nothing.
use mathlib.Core.Path.{◌≡◌, sym, ap, ◌∙◌, subst}
use mathlib.Core.Bool.{true, false}
use mathlib.Core.List.{List, []}
use mathlib.Core.Logic.{⊎_elim}
use Prim.Native.Nat.{ℕ, zero, suc, ◌<◌, ◌≤◌}
use native.Mathlib.Nat.{eq-or-lt_of_le}
use native.Mathlib.Decide.{ℕ_discrete}
use native.Mathlib.Omega.{arith}
use lib.ListN.{get_or}
use lib.Bits.{bit_and}
use borrow.Author.Tests.{eq-eqb}
use Rattle.answers.specs.Said.{accepted}
use Rattle.ltl.specs.Formula.{Formula}
use Rattle.ltl.specs.Meaning.{Event}
use Rattle.network.specs.Scores.{sample_of}
use Rattle.state.specs.Fields.{boards_in, slots_in, mask_in, sample_in, sampled_in, masks_in, board_of_in, stepped_in}
use Rattle.state.specs.Clauses.{in_mask, state_ok}
use Rattle.state.specs.Writes.{sample_given}
use Rattle.state.specs.Calls.{finished_in, sample_says, sample_leaves, step_says, step_leaves, done_in}
use Rattle.state.proofs.Listed.{masks-at}
use Rattle.state.proofs.Sampled.{sample-slot, sample-other, sample-other-flag, sample-bits, sample-flag}
use Rattle.checked.proofs.Passing.{passing, passing-sized, passing-stretched}
use Rattle.keeping.specs.Closing.{StateClosing}
use Rattle.keeping.proofs.Sampling.{bits-few}
use Rattle.keeping.proofs.Stepping.{after, step-sample, step-flag, step-slot, step-mark}
use Rattle.keeping.proofs.Calls.{accepted-leaves, done-of, above-ready, sample-accepted, step-accepted, close-left}
use Rattle.watching.specs.Watch.{Calls, none, sample, step, Saw}
use Rattle.watching.specs.Claims.{Accepted, StateReached}
use Rattle.keeping.proofs.Sampling.{and-twice}
use Rattle.watching.proofs.InTick.{InTick, slots_kept, boards-kept}
use Rattle.watching.proofs.Started.{Started, started-laid}
use Rattle.watching.proofs.Ticked.{started-in-tick}
use Rattle.watching.proofs.Telling.{calls-unfinished}

module _ (p : ℕ) (masks : List ℕ) (rule : Formula) (us : List Event) (s : List ℕ) (x : Started p masks rule us s) (unfinished : finished_in s ≡ false) (e : Event) where
  -- a board's sample of the event
  abbrev pub due : ℕ → Event
  due b = sample_of (masks_in s) e b

  -- boards below n have sampled, slots from d on are stepped
  pub record TickProgress (n d : ℕ) (t : List ℕ) : Type 0 where
    pub given : (b : ℕ) → b < n → b < boards_in s → (sampled_in t b ≡ 1) × (sample_in t b ≡ due b)
    pub waiting : (b : ℕ) → n ≤ b → b < boards_in s → sampled_in t b ≡ 0
    pub stepped : (k : ℕ) → d ≤ k → k < slots_in s → stepped_in t k ≡ 1
    pub fresh : (k : ℕ) → k < d → k < slots_in s → stepped_in t k ≡ 0

  record Made (n d : ℕ) : Type 0 where
    last : List ℕ
    calls : Calls s last
    all : Accepted calls
    progress : TickProgress n d last

  in-tick : (t : List ℕ) → Calls s t → InTick s x.passes (started-laid p masks rule us s x) t
  in-tick t c = started-in-tick p masks rule us s t x c

  -- ---- the next board
  module _ (t : List ℕ) (c : Calls s t) (n : ℕ) (l : n < boards_in s) (made : TickProgress n (slots_in s) t) where
    ok : state_ok t ≡ true
    ok = (in-tick t c).passes

    there : n < boards_in t
    there = omega (arith, boards-kept s x.passes (started-laid p masks rule us s x) t (in-tick t c))

    mask_is : mask_in t n ≡ get_or (masks_in s) n 0
    mask_is = sym (masks-at t n there) ∙ ap (λ (ms : List ℕ). get_or ms n 0) (in-tick t c).masks-kept

    -- its sample of the event is what its mask in this state lets through
    pub due-is : due n ≡ bit_and e (mask_in t n)
    unfolding sample_of
    due-is = ap (bit_and e) (sym mask_is)

    inside : in_mask (due n) (mask_in t n) ≡ true
    unfolding sample_of
    inside = eq-eqb _ _ (ap (bit_and (bit_and e (get_or (masks_in s) n 0))) mask_is ∙ and-twice e (get_or (masks_in s) n 0))

    unsampled : sampled_in t n ≡ 0
    unsampled = made.waiting n (omega arith) l

    pub sample-says : sample_says t n (due n) ≡ accepted []
    sample-says = sample-accepted t ok (calls-unfinished p masks rule us s x t c unfinished) n (due n) there inside unsampled

    pub sample-more : TickProgress (suc n) (slots_in s) (sample_leaves t n (due n))
    sample-more =
        let t' = sample_given t n (due n) in
        let q = slots_kept s x.passes (started-laid p masks rule us s x) t (in-tick t c) in
        subst (λ (u : List ℕ). TickProgress (suc n) (slots_in s) u) (sym (accepted-leaves _ t' t sample-says))
        (record {
          given = λ b h i. given b i (ℕ_discrete b n) h;
          waiting = λ b h i. sample-other-flag t (passing-sized t ok) n (due n) there b (λ z. omega arith) ∙ made.waiting b (omega arith) i;
          stepped = λ k h i. absurd (omega arith);
          fresh = λ k h i. (sample-slot t (passing-sized t ok) n (due n) there k (omega arith) (passing-stretched t ok k (omega arith))).mark ∙ made.fresh k h i;
        })
      where
        given : (b : ℕ) → b < boards_in s → Dec (b ≡ n) → b < suc n
            → (sampled_in (sample_given t n (due n)) b ≡ 1) × (sample_in (sample_given t n (due n)) b ≡ due b)
        given b i (yes z) h =
            subst (λ (c : ℕ). (sampled_in (sample_given t n (due n)) c ≡ 1) × (sample_in (sample_given t n (due n)) c ≡ due c)) (sym z)
            (sample-flag t (passing-sized t ok) n (due n) there, sample-bits t (passing-sized t ok) n (due n) there (bits-few t ok n (due n) there inside))
        given b i (no z) h =
            let g = made.given b (under z h) i in
            (sample-other-flag t (passing-sized t ok) n (due n) there b z ∙ g.0, sample-other t (passing-sized t ok) n (due n) there b z ∙ g.1)
          where
            under : (b ≡ n → ⊥) → b < suc n → b < n
            under z h = omega arith

  pub progress-none : TickProgress 0 (slots_in s) s
  progress-none = record { given = λ b h i. absurd (omega arith); waiting = λ b h i. x.unsampled b i; stepped = λ k h i. absurd (omega arith); fresh = λ k h i. x.unstepped k i }

  all-sampled : (n : ℕ) → n ≤ boards_in s → Made n (slots_in s)
  all-sampled zero l = record { last = s; calls = none; all = tt; progress = progress-none }
  all-sampled (suc n) l =
      let m = all-sampled n (omega arith) in
      record {
        last = sample_leaves m.last n (due n);
        calls = sample m.calls n (due n);
        all = (m.all, sample-says m.last m.calls n (omega arith) m.progress);
        progress = sample-more m.last m.calls n (omega arith) m.progress;
      }

  -- ---- the next slot
  module _ (t : List ℕ) (c : Calls s t) (k : ℕ) (l : k < slots_in s) (made : TickProgress (boards_in s) (suc k) t) where
    abbrev passes : state_ok t ≡ true
    passes = (in-tick t c).passes

    slot-there : k < slots_in t
    slot-there = omega (arith, slots_kept s x.passes (started-laid p masks rule us s x) t (in-tick t c))

    pub step-says : step_says t k ≡ accepted []
    step-says =
        let q = slots_kept s x.passes (started-laid p masks rule us s x) t (in-tick t c) in
        let n = boards-kept s x.passes (started-laid p masks rule us s x) t (in-tick t c) in
        let b = ((passing t passes).slots k slot-there).board-there in
        step-accepted t passes (calls-unfinished p masks rule us s x t c unfinished) k slot-there (made.fresh k (omega arith) l)
        (above-ready t passes k slot-there (made.given (board_of_in t k) (omega arith) (omega arith)).0 (λ m h i. made.stepped m (omega arith) (omega arith)))

    pub step-more : TickProgress (boards_in s) k (step_leaves t k)
    step-more =
        let t' = after t k in
        let q = slots_kept s x.passes (started-laid p masks rule us s x) t (in-tick t c) in
        let n = boards-kept s x.passes (started-laid p masks rule us s x) t (in-tick t c) in
        subst (λ (u : List ℕ). TickProgress (boards_in s) k u) (sym (accepted-leaves _ t' t step-says))
        (record {
          given = λ b h i.
              (let g = made.given b h i in
              (step-flag t passes k slot-there b (omega arith) ∙ g.0, step-sample t passes k slot-there b (omega arith) ∙ g.1));
          waiting = λ b h i. absurd (omega arith);
          stepped = λ j h i.
              ⊎_elim (λ z. ap (stepped_in t') (sym z) ∙ step-mark t passes k slot-there)
              (λ z. (step-slot t passes k slot-there j (omega arith) (λ y. omega arith)).mark ∙ made.stepped j z i) (eq-or-lt_of_le h);
          fresh = λ j h i. (step-slot t passes k slot-there j (omega arith) (λ y. omega arith)).mark ∙ made.fresh j (omega arith) i;
        })

  all-stepped : (k : ℕ) → k ≤ slots_in s → Made (boards_in s) k → Made (boards_in s) 0
  all-stepped zero l m = m
  all-stepped (suc k) l m =
      all-stepped k (omega arith)
      (record {
        last = step_leaves m.last k;
        calls = step m.calls k;
        all = (m.all, step-says m.last m.calls k (omega arith) m.progress);
        progress = step-more m.last m.calls k (omega arith) m.progress;
      })

  -- ---- all boards have sampled and all slots are stepped
  module _ (t : List ℕ) (c : Calls s t) (made : TickProgress (boards_in s) 0 t) where
    same-boards : boards_in t ≡ boards_in s
    same-boards = boards-kept s x.passes (started-laid p masks rule us s x) t (in-tick t c)

    same-slots : slots_in t ≡ slots_in s
    same-slots = slots_kept s x.passes (started-laid p masks rule us s x) t (in-tick t c)

    still-unfinished : finished_in t ≡ false
    still-unfinished = calls-unfinished p masks rule us s x t c unfinished

    pub progress-saw : Saw t e
    progress-saw b h = let n = same-boards in (made.given b (omega arith) (omega arith)).1 ∙ ap (λ (ms : List ℕ). sample_of ms e b) (sym (in-tick t c).masks-kept)

    pub progress-done : done_in t ≡ true
    progress-done =
        let n = same-boards in
        let q = same-slots in
        done-of t (λ b h. (made.given b (omega arith) (omega arith)).0) (λ k h. made.stepped k (omega arith) (omega arith))

    pub progress-closing : StateClosing t
    progress-closing = close-left t (in-tick t c).passes still-unfinished progress-done

  pub tick-reached : StateReached s e
  tick-reached =
      let m = all-stepped (slots_in s) (omega arith) (all-sampled (boards_in s) (omega arith)) in
      record {
        last = m.last;
        calls = m.calls;
        all = m.all;
        saw = progress-saw m.last m.calls m.progress;
        done = progress-done m.last m.calls m.progress;
        closing = progress-closing m.last m.calls m.progress;
      }
