-- Two ways through a tick from one network, with equal samples, that leave nothing but the close: the networks are then the same
-- (`lasts-agree`); with as many ticks, in states of one form, the close answers the same (`answers_agree`) and what it leaves is the same
-- (`nexts-agree`). Assumes nothing.
use mathlib.Core.Path.{◌≡◌, sym, ap₂, ◌∙◌, subst}
use mathlib.Core.Bool.{true, false}
use mathlib.Core.List.{List}
use Prim.Native.Nat.{ℕ, ◌+◌, ◌<◌}
use native.Mathlib.Omega.{arith}
use lib.ListN.{length, replicate}
use Rattle.ltl.specs.Formula.{Formula}
use Rattle.ltl.specs.Meaning.{Event}
use Rattle.network.specs.Scores.{chosen}
use Rattle.network.specs.Layout.{Slot, slot_at, close}
use Rattle.network.specs.Tick.{Steps}
use Rattle.network.proofs.Settling.{partly-agree}
use Rattle.network.proofs.Choosing.{masks-choice}
use Rattle.state.specs.Form.{form_in}
use Rattle.state.specs.Fields.{boards_in, ticks_in, masks_in, sample_in}
use Rattle.state.specs.Bytes.{state_of, network_of}
use Rattle.state.specs.Calls.{done_in, next_in, close_says}
use Rattle.checked.proofs.Passing.{passing}
use Rattle.keeping.proofs.Finished.{done-unfinished}
use Rattle.watching.specs.Watch.{Calls}
use Rattle.watching.proofs.Networks.{marks_of}
use Rattle.watching.proofs.InTick.{InTick, steps-partly, steps-by, board-there, boards-kept}
use Rattle.watching.proofs.Started.{Started, started-laid}
use Rattle.watching.proofs.Ticked.{started-in-tick, done-marked}

module _ (masks : List ℕ) (p : ℕ) (rule : Formula) (us : List Event) (s : List ℕ) (x : Started p masks rule us s) (q : ℕ) (other : Formula) (vs : List Event) (s₂ : List ℕ)
    (y : Started q masks other vs s₂) (alike : network_of s ≡ network_of s₂) (t u : List ℕ) (a : Calls s t) (b : Calls s₂ u)
    (done-t : done_in t ≡ true) (done-u : done_in u ≡ true) (same : (c : ℕ) → c < boards_in s → sample_in t c ≡ sample_in u c) where
  in-t : InTick s x.passes (started-laid p masks rule us s x) t
  in-t = started-in-tick p masks rule us s t x a

  in-u : InTick s₂ y.passes (started-laid q masks other vs s₂ y) u
  in-u = started-in-tick q masks other vs s₂ u y b

  pub lasts-agree : network_of t ≡ network_of u
  lasts-agree =
      let laid = started-laid p masks rule us s x in
      let steps-t = steps-by s x.passes laid (sample_in t) (sample_in u) (network_of t) (marks_of t) in-t.steps
      (λ k l m. same (slot_at (network_of s) k).board (omega (arith, board-there s x.passes laid t in-t k l, boards-kept s x.passes laid t in-t))) in
      let steps-u = subst (λ (n : List Slot). Steps (sample_in u) n (replicate (length n) false) (network_of u) (marks_of u)) (sym alike) in-u.steps in
      partly-agree (chosen (masks_in s)) (masks-choice (masks_in s)) (sample_in u) (network_of s) laid (network_of t) (network_of u) (marks_of t) (marks_of u)
      (steps-partly s x.passes laid (sample_in u) (network_of t) (marks_of t) steps-t) (done-marked t done-t)
      (steps-partly s x.passes laid (sample_in u) (network_of u) (marks_of u) steps-u) (done-marked u done-u)

  masks-agree : masks_in t ≡ masks_in u
  masks-agree = in-t.masks-kept ∙ x.masks-are ∙ sym (in-u.masks-kept ∙ y.masks-are)

  next-agrees : next_in t ≡ next_in u
  next-agrees = ap₂ (λ (ms : List ℕ) (ns : List Slot). close (chosen ms) ns) masks-agree lasts-agree

  -- and with as many ticks, in states of one form
  module _ (as_many : ticks_in s ≡ ticks_in s₂) (as-formed : form_in s ≡ form_in s₂) where
    forms-agree : form_in t ≡ form_in u
    forms-agree = in-t.form-kept ∙ as-formed ∙ sym in-u.form-kept

    ticks-agree : ticks_in t ≡ ticks_in u
    ticks-agree = in-t.ticks-kept ∙ as_many ∙ sym in-u.ticks-kept

    pub answers_agree : (room : ℕ) → close_says t room ≡ close_says u room
    unfolding close_says
    answers_agree room =
        let f = done-unfinished t (passing t in-t.passes).header.some-slots done-t in
        let g = done-unfinished u (passing u in-u.passes).header.some-slots done-u in
        rw (in-t.passes, in-u.passes, f, g, done-t, done-u, forms-agree, next-agrees, ticks-agree)

    pub nexts-agree : state_of (form_in t) (masks_in t) (next_in t) (ticks_in t + 1) ≡ state_of (form_in u) (masks_in u) (next_in u) (ticks_in u + 1)
    nexts-agree = λ i. state_of (forms-agree i) (masks-agree i) (next-agrees i) (ticks-agree i + 1)
