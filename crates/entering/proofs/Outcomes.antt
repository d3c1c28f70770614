-- The ways out of `enter`: the slot is there (`enter-known`), there is no room for it (`enter-full`), it is put behind the others
-- (`enter-new`). Assumes nothing.
use mathlib.Core.Path.{◌≡◌, refl, sym, ap, ◌∙◌, subst}
use mathlib.Core.List.{List, [], ◌∷◌, ◌++◌}
use Prim.Native.Nat.{ℕ, ◌+◌, ◌-◌, ◌<◌, ◌≤◌}
use native.Mathlib.Omega.{arith}
use lib.ListN.{length, get_or, length-append, length-set}
use Rattle.limits.specs.Limits.{slots_room}
use Rattle.network.specs.Layout.{Slot}
use Rattle.registers.specs.Register.{entry_of, entered}
use Rattle.tokens.specs.Kept.{RegisterKept}
use Rattle.tokens.proofs.Keeping.{EntryAdded, entry-added, kept_more}
use Rattle.entering.specs.Entries.{Entering, EnterAsk, FindsEntry, AppendAsk, Appends, EntersSlot, EntersAll}
use Rattle.entering.proofs.Registers.{entry-most, entered-known, entered-new}

module _ (bytes marks tokens : List ℕ) (stamp entries : ℕ) (bodies places stamps : List ℕ) (ask : EnterAsk bytes marks tokens stamp entries bodies places stamps) where
  module _ (k : ℕ) (found : FindsEntry bytes marks tokens stamp entries bodies places stamps k) where
    pub enter-known : k < entries → EntersAll bytes marks tokens stamp entries bodies places stamps bodies places stamps (record { entry = k; entries = entries })
    enter-known l = record { enters = known; bodies-long = refl; places-long = refl; stamps-long = refl }
      where
        known : (reg : List Slot) (s : Slot) → Entering bytes marks tokens stamp entries bodies places stamps reg s
            → EntersSlot bytes marks bodies places stamps reg s (record { entry = k; entries = entries })
        known reg s x =
            let c = x.count in
            let e = found reg s x in
            let d = entered-known s reg (omega arith) in
            let f = ask.few in
            record {
              entry-is = e;
              entries-is = c ∙ ap length (sym d);
              few = omega arith;
              kept = λ h. subst (RegisterKept bytes marks bodies places stamps) (sym d) x.kept;
              full = λ h. absurd (omega arith);
            }

    module _ (l : entries ≤ k) where
      -- the slot has no entry yet
      new-entry : (reg : List Slot) (s : Slot) → Entering bytes marks tokens stamp entries bodies places stamps reg s → entries ≡ entry_of s reg
      new-entry reg s x =
          let c = x.count in
          let e = found reg s x in
          let m = entry-most s reg in
          omega arith

      new-register : (reg : List Slot) (s : Slot) → Entering bytes marks tokens stamp entries bodies places stamps reg s → entered s reg ≡ reg ++ (s ∷ [])
      new-register reg s x = let c = x.count in let e = new-entry reg s x in entered-new s reg (omega arith)

      new-entries : (reg : List Slot) (s : Slot) → Entering bytes marks tokens stamp entries bodies places stamps reg s → entries + 1 ≡ length (entered s reg)
      new-entries reg s x =
          let c = x.count in
          let d = ap length (new-register reg s x) in
          let n = length-append reg (s ∷ []) in
          omega arith

      pub enter-full : entries ≡ slots_room - 1 → EntersAll bytes marks tokens stamp entries bodies places stamps bodies places stamps (record { entry = entries; entries = slots_room })
      enter-full z = record { enters = full; bodies-long = refl; places-long = refl; stamps-long = refl }
        where
          full : (reg : List Slot) (s : Slot) → Entering bytes marks tokens stamp entries bodies places stamps reg s
              → EntersSlot bytes marks bodies places stamps reg s (record { entry = entries; entries = slots_room })
          full reg s x =
              let n = new-entries reg s x in
              record { entry-is = new-entry reg s x; entries-is = omega arith; few = omega arith; kept = λ h. absurd (omega arith); full = λ h. z }

      pub enter-new : (entries ≡ slots_room - 1 → ⊥) → (bodies' places' stamps' : List ℕ) → Appends tokens stamp entries bodies places stamps bodies' places' stamps'
          → EntersAll bytes marks tokens stamp entries bodies places stamps bodies' places' stamps' (record { entry = entries; entries = entries + 1 })
      enter-new z bodies' places' stamps' a =
          record {
            enters = new;
            bodies-long = put.long;
            places-long = ap length a.places_is ∙ length-set places (entries + 1) _;
            stamps-long = ap length a.stamps-is ∙ length-set stamps entries stamp;
          }
        where
          put : EntryAdded bodies places stamps tokens stamp entries bodies' places' stamps'
          put =
              let f = ask.few in
              let p = ask.placed in
              let q = ask.stamped in
              entry-added bodies places stamps tokens stamp entries bodies' places' stamps' ask.room (omega arith) (omega arith) a.bodies-is a.places_is a.stamps-is

          new : (reg : List Slot) (s : Slot) → Entering bytes marks tokens stamp entries bodies places stamps reg s
              → EntersSlot bytes marks bodies' places' stamps' reg s (record { entry = entries; entries = entries + 1 })
          new reg s x =
              let c = x.count in
              let f = ask.few in
              let here : EntryAdded bodies places stamps tokens stamp (length reg) bodies' places' stamps' =
              subst (λ (n : ℕ). EntryAdded bodies places stamps tokens stamp n bodies' places' stamps') c put in
              let room : get_or places (length reg) 0 + length tokens ≤ length bodies =
              subst (λ (n : ℕ). get_or places n 0 + length tokens ≤ length bodies) c ask.room in
              record {
                entry-is = new-entry reg s x;
                entries-is = new-entries reg s x;
                few = omega arith;
                kept = λ h.
                    subst (RegisterKept bytes marks bodies' places' stamps') (sym (new-register reg s x))
                    (kept_more bytes marks bodies places stamps reg x.kept tokens stamp bodies' places' stamps' here s x.there x.coded x.stamp-is x.spelt room);
                full = λ h. absurd (z (omega arith));
              }

  -- there is room for one more
  pub append-asks : (entries ≡ slots_room - 1 → ⊥) → AppendAsk tokens entries bodies places stamps
  append-asks z =
      let f = ask.few in
      let p = ask.placed in
      let q = ask.stamped in
      record { room = ask.room; short = ask.short; placed = omega arith; stamped = omega arith }
