-- Every state that passes its check has seen an event: the union of its boards' samples (`event_of`, `saw-event`). So whatever was
-- sampled, an accepted close is a tick (`tick-of`). Assumes nothing.
use mathlib.Core.Path.{◌≡◌, refl, sym, ap₂, ◌∙◌}
use mathlib.Core.Bool.{true}
use mathlib.Core.List.{List, []}
use Prim.Native.Nat.{ℕ, ◌<◌, ◌≤◌}
use native.Mathlib.Omega.{arith}
use lib.ListN.{length, get_or}
use lib.Bits.{bit_and}
use borrow.Author.Tests.{eqb-true, eq-eqb, lt-ltb}
use Rattle.lists.specs.Tests.{pick, bit}
use Rattle.answers.specs.Said.{accepted}
use Rattle.ltl.specs.Meaning.{Event}
use Rattle.masks.specs.Masks.{bit_at, sum_ones, union_with}
use Rattle.masks.proofs.Exact.{owners, below, exact}
use Rattle.network.specs.Scores.{sample_of}
use Rattle.network.proofs.Choosing.{masks-below}
use Rattle.state.specs.Fields.{boards_in, masks_in, sample_in}
use Rattle.state.specs.Clauses.{state_ok}
use Rattle.state.specs.Calls.{close_says, close_leaves}
use Rattle.state.proofs.Listed.{masks-length, masks-at}
use Rattle.checked.proofs.Passing.{passing}
use Rattle.watching.specs.Watch.{Calls, Saw, Tick}
use Rattle.lists.specs.Listed.{listed}
use Rattle.lists.proofs.Listed.{listed-length, listed_at}
use Rattle.watching.proofs.Bits.{union-own}

abbrev pub event_of : List ℕ → Event
event_of t = union_with 0 (listed (sample_in t) (boards_in t))

module _ (t : List ℕ) (ok : state_ok t ≡ true) where
  -- no bit is in two masks
  masks-apart : (b i : ℕ) → b < length (masks_in t) → bit_at (get_or (masks_in t) b 0) i ≡ 1 → owners (masks_in t) i ≤ 1
  unfolding bit below pick
  masks-apart b i l q =
      let c = passing t ok in
      let p = sum_ones (masks_in t) in
      let h : i < p = masks-below p (masks_in t) c.few-propositions c.masks-rule i b (eq-eqb _ _ q) in
      let few = c.few-propositions in
      let o : owners (masks_in t) i ≡ 1 = exact p (masks_in t) c.masks-rule few i (omega arith) ∙ rw (lt-ltb i p h) in
      omega arith

  pub saw-event : Saw t (event_of t)
  unfolding sample_of
  saw-event b l =
      let xs = listed (sample_in t) (boards_in t) in
      let n : length xs ≡ boards_in t = listed-length (sample_in t) (boards_in t) in
      sym (listed_at 0 (sample_in t) (boards_in t) b l)
      ∙ union-own xs (masks_in t) (n ∙ sym (masks-length t)) (λ c h. inside c (omega arith)) masks-apart b (omega arith)
    where
      inside : (c : ℕ) → c < boards_in t → bit_and (get_or (listed (sample_in t) (boards_in t)) c 0) (get_or (masks_in t) c 0) ≡ get_or (listed (sample_in t) (boards_in t)) c 0
      inside c h =
          let e = listed_at 0 (sample_in t) (boards_in t) c h in
          ap₂ bit_and e (masks-at t c h) ∙ eqb-true _ _ ((passing t ok).boards c h).within ∙ sym e

  pub tick-of : (s second : List ℕ) → Calls s t → close_says t (length second) ≡ accepted [] → Tick s (event_of t) (close_leaves t second)
  tick-of s second c e = record { last = t; calls = c; saw = saw-event; second = second; closes = e; leaves = refl }
