-- What a tick lends to its close: the state is zero behind its nodes (`state-zeros`), and where the event was given the copy has the
-- state's masks (`given-lent`). Assumes nothing.
use mathlib.Core.Path.{◌≡◌, refl, sym, ap, ap₂, ◌∙◌}
use mathlib.Core.Bool.{true}
use mathlib.Core.List.{List}
use Prim.Native.Nat.{ℕ, ◌+◌, ◌≤◌}
use native.Mathlib.Omega.{arith}
use lib.ListN.{length, drop}
use Rattle.answers.specs.Said.{Said}
use Rattle.state.specs.declared.Counts.{Counts}
use Rattle.state.specs.Form.{form_in, state_length, nodes_at}
use Rattle.state.specs.Fields.{masks_in}
use Rattle.state.specs.Clauses.{rest_ok, all_zero, state_ok}
use Rattle.state.specs.Counted.{Header, Sized}
use Rattle.state.proofs.Forms.{form-room}
use Rattle.state.proofs.Framed.{Framed, masks-same}
use Rattle.records.proofs.Opened.{opened-sized}
use Rattle.checked.proofs.Checked.{checked}
use Rattle.storing.specs.Stores.{ZeroFrom}
use Rattle.storing.proofs.Zeros.{zero_of}
use Rattle.advancing.proofs.Advancing.{lent_same}
use Rattle.closing.specs.Close.{CloseLentAsk}
use Rattle.course.specs.Given.{given_under}
use Rattle.course.specs.Ticked.{tick_leaves}
use Rattle.course.proofs.Given.{TickGiven, outside, sampled, stepped, given-comes}
use Rattle.course.proofs.Slots.{one-fails, last-fails, all-stepped}
use Rattle.giving.specs.Give.{GoingOn}
use Rattle.ticking.specs.Tick.{TickAsk}

-- where what stands in a state ends
abbrev pub end_of : Counts → ℕ
end_of c = c.stretches + c.nodes

-- ---- zeros
module _ {s : List ℕ} {c : Counts} (z : Sized s c) where
  pub ends-inside : end_of c ≤ length s
  ends-inside =
      let h = z.header in
      let d = h.stretches-at ∙ sym (ap₂ (λ (x y : ℕ). nodes_at (form_in s) x y) h.boards-are h.slots-are) in
      let l = z.long in
      omega (arith, form-room (form_in s) c.boards c.slots c.nodes z.few-boards z.few-slots z.few-nodes)

pub rest-zeros : {s : List ℕ} {c : Counts} → Header s c → end_of c ≤ length s → rest_ok s ≡ true → ZeroFrom (end_of c) s
unfolding rest_ok
rest-zeros {s} {c} h l e = zero_of (end_of c) s l (ap (λ (i : ℕ). all_zero (drop i s)) (ap₂ ◌+◌ h.stretches-at h.nodes-are) ∙ e)

pub state-zeros : {s : List ℕ} {c : Counts} → GoingOn s c → ZeroFrom (end_of c) s
state-zeros {s} g = rest-zeros g.opened.header (ends-inside (opened-sized g.opened)) (checked s g.opened.passes).rest

-- ---- the masks
-- samples and steps that were all accepted, and the last of which has left a state that passes, touch no mask
given-framed : (s : List ℕ) (event : ℕ) → TickGiven s event (given_under s event) → (given_under s event).says.number ≡ 0 → state_ok (tick_leaves s event) ≡ true → Framed s (tick_leaves s event)
given-framed s event (outside out says) n ok = let z = ap (λ (a : Said). a.number) says in absurd (omega arith)
given-framed s event (sampled inside some says) n ok = let z = ap (λ (a : Said). a.number) says in absurd (omega arith)
given-framed s event (stepped inside fresh (one-fails says fails)) n ok = let z = ap (λ (a : Said). a.number) says in absurd (omega arith)
given-framed s event (stepped inside fresh (last-fails says frame fails)) n ok = frame
given-framed s event (stepped inside fresh (all-stepped says x)) n ok = x.frame

module _ {s second masks owner u tags : List ℕ} {c : Counts} (ask : TickAsk s c second masks owner u tags) (event : ℕ) {t : List ℕ} (is : t ≡ tick_leaves s event) (number : (given_under s event).says.number ≡ 0) (g : GoingOn t c) where
  same-masks : masks_in t ≡ masks_in s
  same-masks =
      let o = ask.going in
      let ok : state_ok (tick_leaves s event) ≡ true = ap state_ok (sym is) ∙ g.opened.passes in
      ap masks_in is ∙ masks-same (given-framed s event (given-comes s o.opened.passes o.unfinished event) number ok)

  pub given-lent : length s ≡ state_length (form_in t) → CloseLentAsk t c s (end_of c) masks owner u tags
  given-lent long =
      record { opened = g.opened; going = g.unfinished; long = long; lent = lent_same ask.lent same-masks refl refl; clean = state-zeros ask.going }
