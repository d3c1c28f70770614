-- An accepted step of a slot keeps the state check (`step-passes`), unless the slot has become a lone proposition that is not in its
-- board's mask: then the state fails (`step-fails`). That can be in a state that was handed in: a slot `5 65` on the board of a passes,
-- and its step makes a lone proposition of another board. Either way the slot's formula is what it became (`step-reads`, `step-formula`),
-- of nodes that have codes (`step-coded`), and which of the two it is can be seen in the state that is left (`step-lone`). Assumes nothing.
use mathlib.Core.Path.{◌≡◌, refl, sym, ap, ap₂, ◌∙◌, subst}
use mathlib.Core.Bool.{Bool, true, false}
use mathlib.Core.List.{List}
use mathlib.Core.Option.{Option, some}
use Prim.Native.Nat.{ℕ, ◌<◌, ◌≤◌}
use native.Mathlib.Decide.{ℕ_discrete}
use native.Mathlib.Omega.{arith}
use lib.Dec.{eqb}
use borrow.Author.Tests.{eqb-true}
use Rattle.limits.specs.Limits.{propositions_most, holder_codes}
use Rattle.lists.proofs.Tests.{no_true, both-0, both-1}
use Rattle.answers.specs.declared.Verdict.TheVariants.{Pending}
use Rattle.ltl.specs.Formula.{Formula, Within, Coded}
use Rattle.ltl.specs.Decode.{decoded, some_formula}
use Rattle.ltl.specs.Progression.{verdict_of}
use Rattle.ltl.proofs.Decoding.{decoded-of, size-some, wider}
use Rattle.masks.specs.Masks.{sum_ones}
use Rattle.network.proofs.Laying.{HoldsIn}
use Rattle.network.proofs.Holding.{holds-map, only-holds}
use Rattle.state.specs.Form.{form_in}
use Rattle.state.specs.Fields.{boards_in, slots_in, mask_in, sample_in, sampled_in, masks_in, board_of_in, stepped_in, formula_in}
use Rattle.state.specs.Clauses.{tidy, lone_other, is_constant_in, held_of, board_ok, record_ok, formula_ok, gap_ok, state_ok}
use Rattle.state.specs.Bytes.{formula_at}
use Rattle.state.specs.Calls.{ready_in, stepped_to}
use Rattle.state.proofs.Forms.{slots-coded}
use Rattle.state.proofs.Framed.{Framed, formed-same, masks-same, mask-of-same, end_same, header-same, masks-pass}
use Rattle.records.proofs.Each.{each_at}
use Rattle.checked.proofs.Checked.{checked, checked-of, each_of}
use Rattle.checked.proofs.Passing.{passing}
use Rattle.checked.proofs.Held.{slot-holds}
use Rattle.checked.proofs.Holders.{times, held-times}
use Rattle.checked.proofs.Stepping.{step_fits}
use Rattle.keeping.specs.Known.{known}
use Rattle.keeping.proofs.Parts.{record_of, formula-of}
use Rattle.keeping.proofs.Slots.{holds-both, same_reads, same-constant, same-record, same-formula}
use Rattle.keeping.proofs.Once.{held-once}
use Rattle.keeping.proofs.Formulas.{step-within, step-tidy, step-holds, step-times}
use Rattle.keeping.proofs.Constants.{constant-is}
use Rattle.keeping.proofs.Stepping.{after, step-framed, step-sample, step-flag, step-slot, step-mark, step-length, step-bytes, step-gap}

module _ (s : List ℕ) (ok : state_ok s ≡ true) (k : ℕ) (l : k < slots_in s) (fresh : stepped_in s k ≡ 0) (ready : ready_in s k ≡ true) where
  abbrev result : Formula
  result = stepped_to s k

  abbrev left : List ℕ
  left = after s k

  abbrev frame : Framed s left
  frame = step-framed s ok k l

  -- the slots that it holds now: of higher numbers, stepped, and no constants
  ready_held : HoldsIn (λ m. stepped_in s m ≡ 1) (formula_at s k)
  unfolding ready_in
  ready_held = holds-map (λ m. eqb (stepped_in s m) 1 ≡ true) (λ m. stepped_in s m ≡ 1) (λ m e. eqb-true _ _ e) (formula_at s k) (only-holds (λ m. eqb (stepped_in s m) 1) (formula_at s k) (both-1 _ _ ready))

  abbrev Holding : ℕ → Type 0
  Holding m = (((k < m) × (m < slots_in s)) × (stepped_in s m ≡ 1)) × (verdict_of (formula_at s m) ≡ Pending)

  holding : HoldsIn Holding result
  unfolding stepped_to
  holding =
      let x = (passing s ok).slots k l in
      step-holds (sample_in s (board_of_in s k)) (λ m. verdict_of (formula_at s m)) (λ m. ((k < m) × (m < slots_in s)) × (stepped_in s m ≡ 1)) (formula_at s k) x.tidied
      (holds-both _ _ (formula_at s k) (slot-holds s k x) ready_held)

  tidied : tidy result ≡ true
  unfolding stepped_to
  tidied = step-tidy (sample_in s (board_of_in s k)) (λ m. verdict_of (formula_at s m)) (formula_at s k) ((passing s ok).slots k l).tidied

  within : Within (sum_ones (masks_in s)) (slots_in s) result
  unfolding stepped_to
  within =
      step-within (sample_in s (board_of_in s k)) (λ m. verdict_of (formula_at s m)) (sum_ones (masks_in s)) (slots_in s) (formula_at s k) ((passing s ok).slots k l).within

  bounds : Within (sum_ones (masks_in left)) (slots_in left) result
  bounds = rw (masks-same frame, frame.slots) within

  pub step-coded : Coded result
  step-coded =
      let c = passing s ok in
      wider (sum_ones (masks_in s)) (slots_in s) propositions_most holder_codes c.few-propositions (let n = c.header.few-slots in omega (arith, slots-coded (form_in s))) result within

  -- its formula is what it became
  pub step-reads : formula_in left k ≡ some result
  step-reads = ap decoded (step-bytes s ok k l) ∙ decoded-of result step-coded

  pub step-formula : formula_at left k ≡ result
  step-formula = ap some_formula step-reads

  mask : mask_in left (board_of_in left k) ≡ mask_in s (board_of_in s k)
  mask = mask-of-same frame k l ((passing s ok).slots k l).board-there

  pub step-lone : lone_other (mask_in left (board_of_in left k)) (formula_at left k) ≡ lone_other (mask_in s (board_of_in s k)) result
  step-lone = ap₂ (λ (m : ℕ) (f : Formula). lone_other m f) mask step-formula

  -- a stepped slot is another one
  untouched : (m : ℕ) → stepped_in s m ≡ 1 → m ≡ k → ⊥
  untouched m e q = let z = ap (stepped_in s) q in omega (arith, fresh)

  -- ---- the slot's clauses
  own-record : record_ok left k ≡ true
  own-record =
      let x = (passing s ok).slots k l in
      let n = step-length s ok k l in
      let b = frame.board k l in
      let c = frame.boards in
      let i = frame.start k l in
      let e = end_same frame k in
      let m = step-mark s ok k l in
      let z = size-some result in
      let u = step_fits s ok k l in
      let v = x.used in
      let w = x.board-there in
      record_of left k (omega arith) (omega arith) (omega arith) (omega arith) (λ y. absurd (omega arith))

  own-formula : lone_other (mask_in s (board_of_in s k)) result ≡ false → formula_ok left (sum_ones (masks_in left)) k (formula_in left k) ≡ true
  unfolding ready_in
  own-formula not-lone =
      let c = passing s ok in
      let x = c.slots k l in
      formula-of left k (sum_ones (masks_in left)) result step-reads bounds tidied (holds-map Holding (λ m. k < m) (λ m h. h.0.0.0) result holding)
      (λ e.
      record {
        sampled = ap (sampled_in left) (frame.board k l) ∙ step-flag s ok k l (board_of_in s k) x.board-there ∙ eqb-true _ _ (both-0 _ _ ready);
        held =
            holds-map Holding (λ m. (stepped_in left m ≡ 1) × (is_constant_in left m ≡ false))
            (λ m h.
            (let y = step-slot s ok k l m h.0.0.1 (untouched m h.0.1) in
            (y.mark ∙ h.0.1, same-constant y ∙ constant-is s m (c.slots m h.0.0.1) ∙ ap known h.1)))
            result holding;
        not-lone = ap (λ (m : ℕ). lone_other m result) mask ∙ not-lone;
      })
      (λ e. absurd (e (step-mark s ok k l)))

  own_held : (m : ℕ) → times m (held_of (formula_in left k)) ≤ times m (held_of (formula_in s k))
  unfolding stepped_to
  own_held m =
      let x = (passing s ok).slots k l in
      let a = ap (λ (o : Option Formula). times m (held_of o)) step-reads ∙ held-times m result in
      let b = ap (λ (o : Option Formula). times m (held_of o)) x.reads ∙ held-times m (formula_at s k) in
      omega (arith, step-times (sample_in s (board_of_in s k)) (λ m. verdict_of (formula_at s m)) m (formula_at s k))

  -- ---- every slot's
  module _ (j : ℕ) (h : j < slots_in s) where
    slot-record : Dec (j ≡ k) → record_ok left j ≡ true
    slot-record (yes e) = subst (λ (i : ℕ). record_ok left i ≡ true) (sym e) own-record
    slot-record (no e) = same-record frame j h (step-slot s ok k l j h e) ((passing s ok).slots j h)

    slot-formula : lone_other (mask_in s (board_of_in s k)) result ≡ false → Dec (j ≡ k) → formula_ok left (sum_ones (masks_in left)) j (formula_in left j) ≡ true
    slot-formula not-lone (yes e) = subst (λ (i : ℕ). formula_ok left (sum_ones (masks_in left)) i (formula_in left i) ≡ true) (sym e) (own-formula not-lone)
    slot-formula not-lone (no e) =
        same-formula frame j h (step-slot s ok k l j h e) ((passing s ok).slots j h) (λ b i q. step-flag s ok k l b i ∙ q)
        (λ m i q. step-slot s ok k l m i (untouched m q))

    slot_held : Dec (j ≡ k) → (m : ℕ) → times m (held_of (formula_in left j)) ≤ times m (held_of (formula_in s j))
    slot_held (yes e) m = subst (λ (i : ℕ). times m (held_of (formula_in left i)) ≤ times m (held_of (formula_in s i))) (sym e) (own_held m)
    slot_held (no e) m = let q = ap (λ (o : Option Formula). times m (held_of o)) (same_reads (step-slot s ok k l j h e)) in omega arith

    slot-gap : Dec (j ≡ k) → gap_ok left j ≡ true
    slot-gap (yes e) = subst (λ (i : ℕ). gap_ok left i ≡ true) (sym e) (step-gap s ok k l fresh)
    slot-gap (no e) = (step-slot s ok k l j h e).gap ∙ ((passing s ok).slots j h).gap

  board-passes : (b : ℕ) → b < boards_in s → board_ok left b ≡ true
  unfolding board_ok
  board-passes b h = rw (step-sample s ok k l b h, step-flag s ok k l b h, frame.mask b h) (each_at (board_ok s) (boards_in s) b (checked s ok).boards h)

  pub step-passes : lone_other (mask_in s (board_of_in s k)) result ≡ false → state_ok left ≡ true
  step-passes not-lone =
      let c = checked s ok in
      let n = frame.slots in
      checked-of left
      (record {
        long = formed-same frame c.long;
        header = header-same frame ∙ c.header;
        masks = masks-pass frame c.masks;
        boards = each_of (board_ok left) (boards_in left) (λ b h. board-passes b (omega (arith, frame.boards)));
        starts = frame.start 0 (passing s ok).header.some-slots ∙ c.starts;
        records = each_of (record_ok left) (slots_in left) (λ j h. slot-record j (omega arith) (ℕ_discrete j k));
        formulas = each_of (λ j. formula_ok left (sum_ones (masks_in left)) j (formula_in left j)) (slots_in left) (λ j h. slot-formula j (omega arith) not-lone (ℕ_discrete j k));
        holders = rw n (held-once s left (slots_in s) (λ m j h. slot_held j h (ℕ_discrete j k) m) c.holders);
        gaps = each_of (gap_ok left) (slots_in left) (λ j h. slot-gap j (omega arith) (ℕ_discrete j k));
        rest = frame.rest ∙ c.rest;
      })

  pub step-fails : lone_other (mask_in s (board_of_in s k)) result ≡ true → state_ok left ≡ false
  step-fails lone = go (state_ok left) refl
    where
      go : (b : Bool) → state_ok left ≡ b → b ≡ false
      go true e =
          let n = frame.slots in
          let x = ((passing left e).slots k (omega arith)).not-lone (step-mark s ok k l) in
          absurd (no_true (sym x ∙ step-lone ∙ lone))
      go false e = refl
