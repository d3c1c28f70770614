-- Bits within a mask, taken twice (`and-twice`). A sample that is accepted: its bits are those of a mask (`bits-few`), and the state that it leaves still passes its check
-- (`sample-passes`). Assumes nothing.
use mathlib.Core.Path.{◌≡◌, sym, ap, ap₂, ◌∙◌, subst}
use mathlib.Core.Bool.{true}
use mathlib.Core.List.{List}
use mathlib.Core.Option.{Option}
use Prim.Native.Nat.{ℕ, zero, suc, ◌/◌, ◌%◌, ◌^◌, ◌<◌, ◌≤◌, min}
use native.Mathlib.Nat.{lt_of_lt_of_le}
use native.Mathlib.Decide.{ℕ_discrete}
use native.Mathlib.Omega.{arith}
use lib.Pow.{pow_mono}
use lib.Bits.{bit_and, and_step, and_le_r}
use borrow.Author.Tests.{eqb-true, eq-eqb, le-leb}
use Rattle.lists.specs.Tests.{either}
use Rattle.lists.proofs.Tests.{both_true}
use Rattle.ltl.specs.Formula.{Formula}
use Rattle.masks.proofs.Exact.{rule-less}
use Rattle.masks.specs.Masks.{sum_ones}
use Rattle.state.specs.Fields.{boards_in, slots_in, mask_in, sampled_in, masks_in, formula_in}
use Rattle.state.specs.Clauses.{in_mask, held_of, board_ok, record_ok, formula_ok, gap_ok, state_ok}
use Rattle.state.specs.Writes.{sample_given}
use Rattle.state.proofs.Listed.{masks-length, masks-at}
use Rattle.state.proofs.Framed.{Framed, formed-same, header-same, masks-pass}
use Rattle.state.proofs.SameSlots.{SameSlot}
use Rattle.state.proofs.Sampled.{sample-framed, sample-slot, sample-other, sample-other-flag, sample-bits, sample-flag}
use Rattle.records.proofs.Each.{each_at}
use Rattle.checked.proofs.Checked.{checked, checked-of, each_of}
use Rattle.checked.proofs.Passing.{passing, passing-sized, passing-stretched}
use Rattle.checked.proofs.Holders.{times}
use Rattle.keeping.proofs.Once.{held-once}
use Rattle.keeping.proofs.Slots.{same_reads, same-record, same-formula}

-- a number's bits within a mask, taken twice
within-twice : (n e m : ℕ) → e ≤ n → bit_and (bit_and e m) m ≡ bit_and e m
within-twice zero e m l = let z : e ≡ 0 = omega arith in rw z
within-twice (suc n) e m l =
    let a = and_step e m in
    let half : bit_and e m / 2 ≡ bit_and (e / 2) (m / 2) = omega arith in
    let low : bit_and e m % 2 ≡ min (e % 2) (m % 2) = omega arith in
    let high = ap (λ (x : ℕ). bit_and x (m / 2)) half ∙ within-twice n (e / 2) (m / 2) (omega arith) in
    omega (arith, and_step (bit_and e m) m)

pub and-twice : (e m : ℕ) → bit_and (bit_and e m) m ≡ bit_and e m
and-twice e m = within-twice e e m (omega arith)

-- bits within a board's mask
pub bits-few : (s : List ℕ) → state_ok s ≡ true → (b bits : ℕ) → b < boards_in s → in_mask bits (mask_in s b) ≡ true → bits < 2 ^ 64
bits-few s ok b bits there inside =
    let c = passing s ok in
    let m = lt_of_lt_of_le (rule-less (sum_ones (masks_in s)) (masks_in s) c.masks-rule b (omega (arith, masks-length s))) (pow_mono c.few-propositions) in
    let e = masks-at s b there in
    let q : bit_and bits (mask_in s b) ≡ bits = eqb-true _ _ inside in
    omega (arith, and_le_r bits (mask_in s b))

module _ (s : List ℕ) (ok : state_ok s ≡ true) (b bits : ℕ) (there : b < boards_in s) (inside : in_mask bits (mask_in s b) ≡ true) (fresh : sampled_in s b ≡ 0) where
  abbrev after : List ℕ
  after = sample_given s b bits

  abbrev frame : Framed s after
  frame = sample-framed s (passing-sized s ok) b bits there

  same : (k : ℕ) → k < slots_in s → SameSlot s after k
  same k l = sample-slot s (passing-sized s ok) b bits there k l (passing-stretched s ok k l)

  -- a board that had after still has
  still-sampled : (i : ℕ) → i < boards_in s → sampled_in s i ≡ 1 → sampled_in after i ≡ 1
  still-sampled i l e = sample-other-flag s (passing-sized s ok) b bits there i (λ q. (let z = ap (sampled_in s) q in omega (arith, fresh))) ∙ e

  board-passes : (i : ℕ) → i < boards_in s → board_ok after i ≡ true
  unfolding board_ok either
  board-passes i l = go (ℕ_discrete i b)
    where
      flag : sampled_in after b ≡ 1
      flag = sample-flag s (passing-sized s ok) b bits there

      go : Dec (i ≡ b) → board_ok after i ≡ true
      go (yes e) =
          subst (λ (j : ℕ). board_ok after j ≡ true) (sym e)
          (both_true _ _ (le-leb (sampled_in after b) 1 (omega (arith, flag)))
          (both_true _ _ (ap₂ (λ (x m : ℕ). in_mask x m) (sample-bits s (passing-sized s ok) b bits there (bits-few s ok b bits there inside)) (frame.mask b there) ∙ inside) (rw (eq-eqb (sampled_in after b) 1 flag))))
      go (no e) = rw (sample-other s (passing-sized s ok) b bits there i e, sample-other-flag s (passing-sized s ok) b bits there i e, frame.mask i l) (each_at (board_ok s) (boards_in s) i (checked s ok).boards l)

  pub sample-passes : state_ok after ≡ true
  sample-passes =
      let c = checked s ok in
      let p = passing s ok in
      let n = frame.slots in
      checked-of after
      (record {
        long = formed-same frame c.long;
        header = header-same frame ∙ c.header;
        masks = masks-pass frame c.masks;
        boards = each_of (board_ok after) (boards_in after) (λ i l. board-passes i (omega (arith, frame.boards)));
        starts = frame.start 0 p.header.some-slots ∙ c.starts;
        records = each_of (record_ok after) (slots_in after) (λ k l. (let h : k < slots_in s = omega arith in same-record frame k h (same k h) (p.slots k h)));
        formulas = each_of (λ k. formula_ok after (sum_ones (masks_in after)) k (formula_in after k)) (slots_in after)
            (λ k l. (let h : k < slots_in s = omega arith in same-formula frame k h (same k h) (p.slots k h) still-sampled (λ m y z. same m y)));
        holders = rw n (held-once s after (slots_in s) (λ m k l. (let e = ap (λ (o : Option Formula). times m (held_of o)) (same_reads (same k l)) in omega arith)) c.holders);
        gaps = each_of (gap_ok after) (slots_in after) (λ k l. (let h : k < slots_in s = omega arith in (same k h).gap ∙ (p.slots k h).gap));
        rest = frame.rest ∙ c.rest;
      })
