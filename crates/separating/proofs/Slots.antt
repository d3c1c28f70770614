-- A part laid as a slot of its own: what entering it asks (`slot-asks`), and what is promised where it was entered (`slot-lays`), where
-- its parts are too deep (`slot-over`) and where there is no room at all (`slot-none`). Assumes nothing.
use mathlib.Core.Path.{◌≡◌, ap, ◌∙◌}
use mathlib.Core.List.{List}
use mathlib.Core.Option.{Option}
use Prim.Native.Nat.{ℕ, ◌^◌, ◌<◌}
use native.Mathlib.Omega.{arith}
use lib.ListN.{length, get_or, take}
use Rattle.limits.specs.Limits.{slots_room}
use Rattle.ltl.specs.Formula.{Formula}
use Rattle.network.specs.Layout.{Slot}
use Rattle.registers.specs.Register.{Noted, laid_noted}
use Rattle.registers.proofs.Outers.{laid-outer}
use Rattle.registers.proofs.Earlier.{laid-earlier}
use Rattle.tokens.specs.Kept.{stamp_of}
use Rattle.entering.specs.declared.Entered.{Entered}
use Rattle.entering.specs.Entries.{Entering, EnterAsk, EntersAll}
use Rattle.entering.proofs.Outers.{spelt-outer, kept-outer}
use Rattle.parting.proofs.Sizes.{part-size, part-coded}
use Rattle.separating.specs.declared.Body.{Body}
use Rattle.separating.specs.Laying.{LayGiven, Deep, BodyLaid, LaysTo, slot_on}
use Rattle.separating.proofs.Looking.{entry-above, laid-size, laid-coded}
use Rattle.separating.proofs.Stages.{held_below}

module _ {u bytes marks table : List ℕ} {part board entries : ℕ} {desk bodies places stamps : List ℕ}
    {choose : Formula → Option ℕ} {held : ℕ → ℕ} {f : Formula} {reg : List Slot}
    (a : LayGiven u bytes marks table part board entries desk bodies places stamps choose held f reg) where
  abbrev laid : Noted
  laid = laid_noted choose held f board reg

  -- no entry is below no room
  pub slot-none : (room : ℕ) (bodies' places' stamps' : List ℕ) (r : Entered) → room ≡ 0 → r.entries ≡ slots_room
      → LaysTo bytes marks room (slot_on board laid) laid.register bodies' places' stamps' r
  slot-none room bodies' places' stamps' r e n = record { few = omega arith; laid = λ l. absurd (omega arith); over = λ q. omega arith }

  -- a part is too deep, and so is the slot
  pub slot-over : (room : ℕ) (bodies' places' stamps' : List ℕ) (r : Entered) → Deep room laid.here → r.entries ≡ slots_room
      → LaysTo bytes marks room (slot_on board laid) laid.register bodies' places' stamps' r
  slot-over room bodies' places' stamps' r d n =
      let e = laid-earlier choose held f board reg a.registry.registered a.holds in
      let k = entry-above reg laid.register board laid.here e d.entry d.holds in
      let h = d.high in
      record { few = omega arith; laid = λ l. absurd (omega arith); over = λ q. omega arith }

  -- ---- its own tokens were laid
  module _ (desk' bodies' places' stamps' : List ℕ) (b : Body) (x : BodyLaid bytes marks laid desk' bodies' places' stamps' b)
      (few : b.entries < slots_room) where
    -- their nodes fit into a stamp
    pub slot-nodes : b.nodes < 2 ^ 32
    slot-nodes =
        let n = x.nodes-are in
        let l = laid-size choose held f board reg in
        let s = part-size choose bytes marks part f a.ground.source.few a.stands in
        omega arith

    -- they are the slot's that is entered
    slot-entering : (stamp : ℕ) → stamp ≡ stamp_of board b.nodes
        → Entering bytes marks (take b.tokens desk') stamp b.entries bodies' places' stamps' laid.register (slot_on board laid)
    slot-entering stamp e =
        let n = x.entries-are in
        record {
          kept = x.kept;
          count = x.entries-are;
          there = a.there;
          coded =
              laid-coded choose held (held_below a.ground a.held_by) f board reg (part-coded choose bytes marks part f a.stands) (omega arith);
          stamp-is = e ∙ ap (stamp_of board) x.nodes-are;
          spelt = x.spelt;
        }

    -- what entering it asks
    pub slot-asks : (stamp : ℕ) → stamp ≡ stamp_of board b.nodes
        → length bodies' ≡ length bodies → length places' ≡ length places → length stamps' ≡ length stamps
        → EnterAsk bytes marks (take b.tokens desk') stamp b.entries bodies' places' stamps'
    slot-asks stamp e lb lp ls =
        let c = slot-entering stamp e in
        let o = spelt-outer bytes marks x.spelt in
        let k = kept-outer bytes marks bodies' places' stamps' laid.register x.kept in
        let n = ap (λ (i : ℕ). get_or places' i 0) x.entries-are in
        let l = laid-outer choose held f board reg in
        let r = a.bodies-room in
        record {
          register = laid.register;
          slot = slot_on board laid;
          entering = c;
          marked = a.ground.source.long;
          few = few;
          room = omega arith;
          short = let s = a.registry.short in omega arith;
          placed = lp ∙ a.registry.placed;
          stamped = ls ∙ a.registry.stamped;
        }

    -- it was entered, or there is no room for it
    pub slot-lays : (room stamp : ℕ) (bodies'' places'' stamps'' : List ℕ) (r : Entered) → room < slots_room → stamp ≡ stamp_of board b.nodes
        → EntersAll bytes marks (take b.tokens desk') stamp b.entries bodies' places' stamps' bodies'' places'' stamps'' r
        → LaysTo bytes marks room (slot_on board laid) laid.register bodies'' places'' stamps'' r
    slot-lays room stamp bodies'' places'' stamps'' r m e y =
        let q = y.enters laid.register (slot_on board laid) (slot-entering stamp e) in
        let i = q.entry-is in
        record {
          few = q.few;
          laid = λ l. record { entry-is = q.entry-is; entries-are = q.entries-is; kept = q.kept l };
          over = λ h. let z = q.full h in omega arith;
        }
