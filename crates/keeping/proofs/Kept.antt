-- What accepted samples and steps keep of a state that was opened and goes on, so that it need not be opened again. After a sample it is
-- opened still (`sample-kept`). After a step it is, unless the slot has become a lone proposition that is not in its board's mask: then it
-- fails its check; in both cases the slot can be looked at (`step_kept`, with `StepKept`). Assumes nothing.
use mathlib.Core.Path.{◌≡◌, sym, ap, ◌∙◌, subst}
use mathlib.Core.Bool.{true, false}
use mathlib.Core.List.{List, []}
use Prim.Native.Nat.{ℕ, ◌<◌}
use native.Mathlib.Decide.{ℕ_discrete}
use native.Mathlib.Omega.{arith}
use Rattle.answers.specs.Said.{accepted}
use Rattle.ltl.specs.Formula.{encode, Coded}
use Rattle.state.specs.declared.Counts.{Counts}
use Rattle.state.specs.Form.{slots_at}
use Rattle.state.specs.Fields.{slots_in, mask_in, board_of_in, stepped_in, slot_bytes}
use Rattle.state.specs.Clauses.{lone_other, rest_ok, state_ok}
use Rattle.state.specs.Bytes.{formula_at}
use Rattle.state.specs.Writes.{sample_given}
use Rattle.state.specs.Calls.{finished_in, sample_says, sample_leaves, step_says, step_leaves}
use Rattle.state.specs.Counted.{Header}
use Rattle.state.specs.Opened.{Opened, SlotThere}
use Rattle.state.proofs.Framed.{Framed, form-same, formed-same, nodes-from-same, end_same, header-same}
use Rattle.state.proofs.Sampled.{sample-framed, sample-slot}
use Rattle.records.proofs.Passed.{header-sized}
use Rattle.checked.proofs.Checked.{checked}
use Rattle.checked.proofs.Passing.{passing, passing-sized, passing-stretched}
use Rattle.checked.proofs.Stepping.{step_fits}
use Rattle.keeping.proofs.Sampling.{sample-passes}
use Rattle.keeping.proofs.Stepping.{after, step-framed, step-slot, step-mark, step-length, step-bytes}
use Rattle.keeping.proofs.StepPasses.{step-coded, step-formula, step-lone, step-passes, step-fails}
use Rattle.keeping.proofs.Finished.{stepped-unfinished, finished-same}
use Rattle.keeping.proofs.Calls.{accepted-leaves, sample-passed, step-passed}

-- the counts stay those of the header
header-kept : {s t : List ℕ} {c : Counts} → Framed s t → Header s c → Header t c
header-kept f h =
    record {
      boards-are = h.boards-are ∙ sym f.boards;
      slots-are = h.slots-are ∙ sym f.slots;
      nodes-are = h.nodes-are ∙ sym f.nodes;
      records-at = h.records-at ∙ sym (λ i. slots_at (form-same f i) (f.boards i));
      stretches-at = h.stretches-at ∙ sym (nodes-from-same f);
    }

-- ---- a sample
pub sample-kept : (s : List ℕ) (c : Counts) → Opened s c → finished_in s ≡ false → (b bits : ℕ) → sample_says s b bits ≡ accepted []
    → Opened (sample_leaves s b bits) c × (finished_in (sample_leaves s b bits) ≡ false)
sample-kept s c o unfinished b bits says =
    let ok = o.passes in
    let q = sample-passed s b bits says in
    let sized = passing-sized s ok in
    let some-slots = (passing s ok).header.some-slots in
    let frame = sample-framed s sized b bits q.there in
    subst (λ (t : List ℕ). Opened t c × (finished_in t ≡ false)) (sym (accepted-leaves _ (sample_given s b bits) s says)) (
      record { passes = sample-passes s ok b bits q.there q.inside q.fresh; header = header-kept frame o.header },
      finished-same frame (sample-slot s sized b bits q.there 0 some-slots (passing-stretched s ok 0 some-slots)) ∙ unfinished,
    )

-- ---- a step
-- what is known of the state t that a step of slot k has left, whether it passes or not
pub record StepKept (t : List ℕ) (c : Counts) (k : ℕ) : Type 0 where
  pub there : SlotThere t c k
  pub unfinished : finished_in t ≡ false
  pub passes : lone_other (mask_in t (board_of_in t k)) (formula_at t k) ≡ false → Opened t c
  pub fails : lone_other (mask_in t (board_of_in t k)) (formula_at t k) ≡ true → state_ok t ≡ false
  -- the slot's bytes are one formula
  pub bytes : slot_bytes t k ≡ encode (formula_at t k)
  pub coded : Coded (formula_at t k)
  -- the bytes behind the nodes are zero still
  pub rest : rest_ok t ≡ true

module _ (s : List ℕ) (c : Counts) (o : Opened s c) (unfinished : finished_in s ≡ false) (k : ℕ) (l : k < slots_in s) where
  abbrev ok : state_ok s ≡ true
  ok = o.passes

  abbrev left : List ℕ
  left = after s k

  abbrev frame : Framed s left
  frame = step-framed s ok k l

  header : Header left c
  header = header-kept frame o.header

  slot-there : SlotThere left c k
  slot-there =
      let x = (passing s ok).slots k l in
      let b = frame.board k l in
      let i = frame.start k l in
      let n = frame.nodes in
      let e = end_same frame k in
      let z = step-length s ok k l in
      let u = step_fits s ok k l in
      let v = x.used in
      let w = x.ends in
      let y = x.board-there in
      let h = o.header.slots-are in
      let g = o.header.boards-are in
      record {
        sized = header-sized left c header (formed-same frame (checked s ok).long) (header-same frame ∙ (checked s ok).header);
        number = omega arith;
        stretch = record { used = omega arith; ends = omega arith };
        board = omega arith;
      }

  -- its slot is marked, so that a watch with one slot is not finished
  still-unfinished : Dec (k ≡ 0) → finished_in left ≡ false
  still-unfinished (yes e) = stepped-unfinished left (ap (stepped_in left) (sym e) ∙ step-mark s ok k l)
  still-unfinished (no e) = finished-same frame (step-slot s ok k l 0 (passing s ok).header.some-slots (λ q. e (sym q))) ∙ unfinished

pub step_kept : (s : List ℕ) (c : Counts) → Opened s c → finished_in s ≡ false → (k : ℕ) → step_says s k ≡ accepted [] → StepKept (step_leaves s k) c k
step_kept s c o unfinished k says =
    let ok = o.passes in
    let q = step-passed s k says in
    let l = q.there in
    let t = after s k in
    let same = step-lone s ok k l q.fresh q.ready in
    let formula = step-formula s ok k l q.fresh q.ready in
    subst (λ (u : List ℕ). StepKept u c k) (sym (accepted-leaves _ t s says))
    (record {
      there = slot-there s c o unfinished k l;
      unfinished = still-unfinished s c o unfinished k l (ℕ_discrete k 0);
      passes = λ e. record { passes = step-passes s ok k l q.fresh q.ready (sym same ∙ e); header = header s c o unfinished k l };
      fails = λ e. step-fails s ok k l q.fresh q.ready (sym same ∙ e);
      bytes = step-bytes s ok k l ∙ ap encode (sym formula);
      coded = subst Coded (sym formula) (step-coded s ok k l q.fresh q.ready);
      rest = (step-framed s ok k l).rest ∙ (checked s ok).rest;
    })
