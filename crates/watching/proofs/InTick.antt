-- What every state within a tick is, from a state s whose slots are as laying leaves them: it passes its check, has the form, the masks
-- and the ticks of s, and its network is that of s after the steps that are marked, under the samples that its boards hold (`InTick`).
-- `calls-in-tick`: so is every state that calls lead to, accepted or refused. `call-elim`: a call has passed its checks, or it leaves the
-- state as it was.
-- Assumes nothing.
use mathlib.Core.Path.{◌≡◌, sym, ap, ◌∙◌, subst}
use mathlib.Core.Bool.{Bool, true, false}
use mathlib.Core.List.{List, []}
use Prim.Native.Nat.{ℕ, ◌<◌}
use native.Mathlib.Omega.{arith}
use lib.ListN.{length, set, replicate, length-replicate}
use lib.Dec.{eqb}
use borrow.Author.Tests.{ltb-true, eqb-true, eq-eqb, ne_eqb}
use Rattle.lists.proofs.Tests.{both-1, pick-elim}
use Rattle.answers.specs.Said.{accepted, left, Check, in_order}
use Rattle.answers.proofs.Answers.{Passed, Refusing, order-passed}
use Rattle.ltl.specs.Meaning.{Event}
use Rattle.ltl.specs.Progression.{verdict_of}
use Rattle.network.specs.Scores.{chosen}
use Rattle.network.specs.Layout.{Slot, slot_at}
use Rattle.network.specs.Tick.{holds_only, marked, stepped, Steps}
use Rattle.network.proofs.Owned.{Plain, stepped-headed}
use Rattle.network.proofs.Holding.{holds-map, only-holds}
use Rattle.network.proofs.Relaying.{AllOk}
use Rattle.network.proofs.Settling.{slot_ok, Partly, partly-start, partly-steps}
use Rattle.network.proofs.Choosing.{masks-choice}
use Rattle.state.specs.Form.{form_in}
use Rattle.state.specs.Fields.{boards_in, slots_in, nodes_in, ticks_in, mask_in, sample_in, sampled_in, masks_in, board_of_in, stepped_in}
use Rattle.state.specs.Clauses.{in_mask, lone_other, state_ok}
use Rattle.state.specs.Bytes.{formula_at, network_of}
use Rattle.state.specs.Writes.{sample_given}
use Rattle.state.specs.Calls.{ready_in, sample_says, step_says, stepped_to}
use Rattle.state.proofs.Listed.{masks-length, masks-at, network-length, network-at}
use Rattle.state.proofs.Framed.{form-same, masks-same}
use Rattle.state.proofs.Sampled.{sample-framed, sample-other}
use Rattle.checked.proofs.Passing.{passing, passing-sized}
use Rattle.checked.proofs.Held.{slot-holds}
use Rattle.checked.proofs.Tidy.{tidy-only}
use Rattle.keeping.proofs.Slots.{holds-both}
use Rattle.keeping.proofs.Sampling.{sample-passes}
use Rattle.keeping.proofs.Stepping.{after, step-framed, step-sample}
use Rattle.keeping.proofs.StepPasses.{step-passes}
use Rattle.watching.specs.Watch.{Calls, none, sample, step}
use Rattle.watching.proofs.Formulas.{headed-own}
use Rattle.watching.proofs.Resampled.{steps-more, steps-agreed}
use Rattle.watching.proofs.Networks.{marks_of, mark-is, sample-network, sample-marks, step-network, step-marks}

pub call-elim : (P : List ℕ → Type 0) (cs : List Check) (vs output before : List ℕ) → Refusing cs → (Passed cs → P output) → P before
    → P (left (in_order cs (accepted vs)) output before)
unfolding left
call-elim P cs vs output before n done kept = pick-elim P _ output before (λ e. done (order-passed cs (accepted vs) n (eqb-true _ _ e))) (λ e. kept)

module _ (s : List ℕ) (begins : state_ok s ≡ true) (laid : AllOk (chosen (masks_in s)) (masks-choice (masks_in s)) (length (network_of s)) 0 (network_of s)) where
  -- the network of s after some steps, the samples given; and so partly stepped
  abbrev pub StepsBy : (ℕ → Event) → List Slot → List Bool → Type 0
  StepsBy samples slots marks = Steps samples (network_of s) (replicate (length (network_of s)) false) slots marks

  pub steps-partly : (samples : ℕ → Event) (slots : List Slot) (marks : List Bool) → StepsBy samples slots marks
      → Partly (chosen (masks_in s)) (masks-choice (masks_in s)) samples (network_of s) laid slots marks
  steps-partly samples slots marks p =
      let c = masks-choice (masks_in s) in
      partly-steps (chosen (masks_in s)) c samples (network_of s) laid p (partly-start (chosen (masks_in s)) c samples (network_of s) laid)

  pub record InTick (t : List ℕ) : Type 0 where
    pub passes : state_ok t ≡ true
    pub form-kept : form_in t ≡ form_in s
    pub masks-kept : masks_in t ≡ masks_in s
    pub nodes-kept : nodes_in t ≡ nodes_in s
    pub ticks-kept : ticks_in t ≡ ticks_in s
    pub steps : StepsBy (sample_in t) (network_of t) (marks_of t)

  -- the same steps under samples that agree for the slots that are stepped
  pub steps-by : (a b : ℕ → Event) (slots : List Slot) (marks : List Bool) → StepsBy a slots marks
      → ((k : ℕ) → k < length (network_of s) → marked marks k ≡ true → a (slot_at (network_of s) k).board ≡ b (slot_at (network_of s) k).board) → StepsBy b slots marks
  steps-by a b slots marks p agree = steps-agreed a b p (length-replicate (length (network_of s)) false) agree

  module _ (t : List ℕ) (in-tick : InTick t) where
    abbrev partly : Partly (chosen (masks_in s)) (masks-choice (masks_in s)) (sample_in t) (network_of s) laid (network_of t) (marks_of t)
    partly = steps-partly (sample_in t) (network_of t) (marks_of t) in-tick.steps

    pub slots_kept : slots_in t ≡ slots_in s
    slots_kept = sym (network-length t) ∙ partly.many ∙ network-length s

    pub boards-kept : boards_in t ≡ boards_in s
    boards-kept = sym (masks-length t) ∙ ap length in-tick.masks-kept ∙ masks-length s

    pub board-there : (k : ℕ) → k < length (network_of s) → (slot_at (network_of s) k).board < boards_in t
    board-there k h =
        let i : k < slots_in s = omega (arith, network-length s) in
        let e = ap (λ (c : Slot). c.board) (network-at s k i) in
        omega (arith, boards-kept, ((passing s begins).slots k i).board-there)

    -- a stepped slot is on its board still
    board-kept : (k : ℕ) → k < slots_in t → stepped_in t k ≡ 1 → (slot_at (network_of s) k).board ≡ board_of_in t k
    board-kept k l e =
        let n = slots_kept in
        let h = partly.done k (omega (arith, network-length s)) (mark-is t k l ∙ eq-eqb _ _ e) in
        ap (λ (c : Slot). c.board) (sym h ∙ network-at t k l)

    -- ---- a sample
    module _ (b bits : ℕ) (there : b < boards_in t) (inside : in_mask bits (mask_in t b) ≡ true) (fresh : sampled_in t b ≡ 0) where
      sample-in-tick : InTick (sample_given t b bits)
      sample-in-tick =
          let ok = in-tick.passes in
          let t' = sample_given t b bits in
          let f = sample-framed t (passing-sized t ok) b bits there in
          let p = steps-by (sample_in t) (sample_in t') (network_of t) (marks_of t) in-tick.steps agree in
          record {
            passes = sample-passes t ok b bits there inside fresh;
            form-kept = form-same f ∙ in-tick.form-kept;
            masks-kept = masks-same f ∙ in-tick.masks-kept;
            nodes-kept = f.nodes ∙ in-tick.nodes-kept;
            ticks-kept = f.ticks ∙ in-tick.ticks-kept;
            steps = rw (sample-network t ok b bits there, sample-marks t ok b bits there) p;
          }
        where
          agree : (k : ℕ) → k < length (network_of s) → marked (marks_of t) k ≡ true
              → sample_in t (slot_at (network_of s) k).board ≡ sample_in (sample_given t b bits) (slot_at (network_of s) k).board
          agree k l m =
              let h : k < slots_in t = omega (arith, network-length s, slots_kept) in
              let e : stepped_in t k ≡ 1 = eqb-true _ _ (sym (mark-is t k h) ∙ m) in
              let c = board-kept k h e in
              let q = ((passing t in-tick.passes).slots k h).sampled e in
              sym (sample-other t (passing-sized t in-tick.passes) b bits there (slot_at (network_of s) k).board (λ d. (let z = ap (sampled_in t) (sym c ∙ d) in omega (arith, fresh))))

    -- ---- a step
    module _ (k : ℕ) (l : k < slots_in t) (fresh : stepped_in t k ≡ 0) where
      unmarked : marked (marks_of t) k ≡ false
      unmarked = mark-is t k l ∙ ne_eqb (stepped_in t k) 1 (λ e. omega arith)

      pub slot_kept : slot_at (network_of t) k ≡ slot_at (network_of s) k
      slot_kept = partly.fresh k (omega (arith, network-length s, slots_kept)) unmarked

      -- a slot that is not stepped is as it was laid
      plain : Plain (chosen (masks_in t)) (board_of_in t k) (formula_at t k)
      plain =
          let o = (slot_ok (chosen (masks_in s)) (masks-choice (masks_in s)) (sample_in t) (network_of s) laid k (omega (arith, network-length s, slots_kept))).plain in
          let e = sym slot_kept ∙ network-at t k l in
          rw in-tick.masks-kept (subst (λ (c : Slot). Plain (chosen (masks_in s)) c.board c.formula) e o)

      -- so that it does not become a lone proposition of another board
      own : lone_other (mask_in t (board_of_in t k)) (stepped_to t k) ≡ false
      unfolding stepped_to
      own =
          let b = board_of_in t k in
          let headed = stepped-headed (chosen (masks_in t)) (sample_in t b) (λ m. verdict_of (formula_at t m)) b (formula_at t k) plain in
          ap (λ (m : ℕ). lone_other m (stepped_to t k)) (sym (masks-at t b ((passing t in-tick.passes).slots k l).board-there)) ∙ headed-own (masks_in t) b (stepped_to t k) headed

      module _ (ready : ready_in t k ≡ true) where
        ready-now : holds_only (marked (marks_of t)) (slot_at (network_of t) k).formula ≡ true
        unfolding ready_in
        ready-now =
            let x = (passing t in-tick.passes).slots k l in
            ap (λ (c : Slot). holds_only (marked (marks_of t)) c.formula) (network-at t k l)
            ∙ tidy-only (marked (marks_of t)) (formula_at t k) x.tidied
            (holds-map (λ m. ((k < m) × (m < slots_in t)) × (eqb (stepped_in t m) 1 ≡ true)) (λ m. marked (marks_of t) m ≡ true) (λ m h. mark-is t m h.0.1 ∙ h.1) (formula_at t k)
            (holds-both _ _ (formula_at t k) (slot-holds t k x) (only-holds (λ m. eqb (stepped_in t m) 1) (formula_at t k) (both-1 _ _ ready))))

        steps-after : StepsBy (sample_in t) (stepped (sample_in t) (network_of t) k) (set (marks_of t) k true)
        steps-after = steps-more (sample_in t) in-tick.steps k (omega (arith, network-length t)) unmarked ready-now

        step-in-tick : InTick (after t k)
        step-in-tick =
            let ok = in-tick.passes in
            let t' = after t k in
            let f = step-framed t ok k l in
            let p : StepsBy (sample_in t) (network_of t') (marks_of t') = rw (step-network t ok k l fresh ready, step-marks t ok k l fresh ready) steps-after in
            record {
              passes = step-passes t ok k l fresh ready own;
              form-kept = form-same f ∙ in-tick.form-kept;
              masks-kept = masks-same f ∙ in-tick.masks-kept;
              nodes-kept = f.nodes ∙ in-tick.nodes-kept;
              ticks-kept = f.ticks ∙ in-tick.ticks-kept;
              steps = steps-by (sample_in t) (sample_in t') (network_of t') (marks_of t') p (λ j h m. sym (step-sample t ok k l (slot_at (network_of s) j).board (board-there j h)));
            }

  -- ---- any calls
  pub calls-in-tick : {t : List ℕ} → Calls s t → InTick s → InTick t
  unfolding sample_says step_says
  calls-in-tick none start = start
  calls-in-tick (sample {t = t} c board bits) start =
      let i = calls-in-tick c start in
      call-elim InTick _ [] _ t (omega arith, (omega arith, (omega arith, (omega arith, (omega arith, tt)))))
      (λ x. sample-in-tick t i board bits (ltb-true _ _ x.1.1.0) x.1.1.1.0 (eqb-true _ _ x.1.1.1.1.0)) i
  calls-in-tick (step {t = t} c k) start =
      let i = calls-in-tick c start in
      call-elim InTick _ [] _ t (omega arith, (omega arith, (omega arith, (omega arith, (omega arith, tt)))))
      (λ x. step-in-tick t i k (ltb-true _ _ x.1.1.0) (eqb-true _ _ x.1.1.1.0) x.1.1.1.1.0) i
