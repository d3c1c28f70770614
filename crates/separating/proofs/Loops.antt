-- The loop over the parts of a slot: what holds between its turns (`LoopState`), the part that is next (`loop-ask`), a turn
-- (`loop-turn`), its beginning (`loop-first`) and its end (`loop-done`). Assumes nothing.
use mathlib.Core.Path.{◌≡◌, refl, sym, ap, ◌∙◌, subst}
use mathlib.Core.List.{List, [], ◌∷◌}
use mathlib.Core.Logic.{◌⊎◌, inl, inr, ⊎_elim}
use mathlib.Core.Option.{Option}
use mathlib.Core.Bool.{Bool, true, false}
use Prim.Native.Nat.{ℕ, suc, ◌/◌, ◌<◌, ◌≤◌}
use native.Mathlib.Omega.{arith}
use lib.ListN.{length, get_or, drop}
use lib.Dec.{ltb}
use borrow.Author.Tests.{ltb-true, ltb-false}
use lib.Seq.{drop-cons}
use Rattle.lists.specs.Runs.{tail}
use Rattle.lists.proofs.Parts.{tail-is}
use Rattle.limits.specs.Limits.{slots_room}
use Rattle.ltl.specs.Formula.{Formula}
use Rattle.network.specs.Layout.{Slot}
use Rattle.registers.specs.Register.{Noted, laid_noted}
use Rattle.parting.specs.declared.PartTop.{PartTop}
use Rattle.parting.specs.Parts.{parts_room}
use Rattle.parting.specs.Tops.{parts_of, TopsPart, PutsTop}
use Rattle.registers.proofs.Outers.{outer-some}
use Rattle.separating.specs.declared.SlotProgress.{SlotProgress}
use Rattle.separating.specs.Laying.{LayGiven, LayAsk, Cuts}
use Rattle.separating.specs.Turns.{SlotStage, LookGiven, LookPartAsk, Further, LooksTo, Looks}
use Rattle.separating.proofs.Stages.{stage-first, stage-done, look-room}

-- ---- between two turns
-- n is the desk's length, and desk₀ the desk where the loop begins; for whichever part was asked for the slot is as far as `LooksTo` says
pub record LoopState (u bytes marks table : List ℕ) (part board room entries n : ℕ) (desk₀ bodies₀ places₀ stamps₀ desk bodies places stamps : List ℕ)
    (x : SlotProgress) : Type 0 where
  pub base : length desk₀ ≡ n
  pub desk-long : length desk ≡ n
  pub bodies-long : length bodies ≡ length bodies₀
  pub places-long : length places ≡ length places₀
  pub stamps-long : length stamps ≡ length stamps₀
  pub looks : (choose : Formula → Option ℕ) (held : ℕ → ℕ) (f : Formula) (reg : List Slot)
      → LayGiven u bytes marks table part board entries desk₀ bodies₀ places₀ stamps₀ choose held f reg
      → LooksTo bytes marks table board room part (laid_noted choose held f board reg) desk bodies places stamps x choose held

-- what was given does not depend on what stands on the desk
given-desk : {u bytes marks table : List ℕ} {part board entries : ℕ} {desk bodies places stamps : List ℕ}
    {choose : Formula → Option ℕ} {held : ℕ → ℕ} {f : Formula} {reg : List Slot}
    → LayGiven u bytes marks table part board entries desk bodies places stamps choose held f reg → (d : List ℕ) → length d ≡ length desk
    → LayGiven u bytes marks table part board entries d bodies places stamps choose held f reg
given-desk a d e =
    let r = a.desk-room in
    let s = a.desk-short in
    record {
      ground = a.ground;
      held_by = a.held_by;
      from = a.from;
      stands = a.stands;
      holds = a.holds;
      there = a.there;
      registry = a.registry;
      desk-room = omega arith;
      desk-short = omega arith;
      bodies-room = a.bodies-room;
    }

-- ---- the part that is next
-- there is one, with what is behind it
pub record LookNext (u bytes marks table : List ℕ) (p board own : ℕ) (z : Noted) (desk bodies places stamps : List ℕ) (x : SlotProgress)
    (choose : Formula → Option ℕ) (held : ℕ → ℕ) : Type 0 where
  pub parts : List ℕ
  pub formula : Formula
  pub formulas : List Formula
  pub register : List Slot
  pub given : LookGiven u bytes marks table p board own z desk bodies places stamps x choose held parts formula formulas register

module _ {bytes marks table : List ℕ} {board room own : ℕ} {z : Noted} {desk bodies places stamps : List ℕ} {x : SlotProgress}
    {choose : Formula → Option ℕ} {held : ℕ → ℕ}
    (s : LooksTo bytes marks table board room own z desk bodies places stamps x choose held) (l : x.rest < length desk) where
  -- there was room, or no part would be left
  next-few : x.entries < slots_room
  next-few = ⊎_elim (λ h. h) (λ h. absurd (let e = (s.over h).0 in omega arith)) (below x.entries s.few)
    where
      below : (n : ℕ) → n ≤ slots_room → (n < slots_room) ⊎ (n ≡ slots_room)
      below n h = go (ltb n slots_room) refl
        where
          go : (t : Bool) → ltb n slots_room ≡ t → (n < slots_room) ⊎ (n ≡ slots_room)
          go true e = inl (ltb-true n slots_room e)
          go false e = inr (let m = ltb-false n slots_room e in omega arith)

  -- it is the first number of those left on the desk
  loop-next : (u : List ℕ) (p : ℕ) → p ≡ get_or desk x.rest 0 → u ≡ tail (p / parts_room) bytes
      → LookNext u bytes marks table p board own z desk bodies places stamps x choose held
  loop-next u p e h = go y.parts y.formulas y.stage
    where
      y : Further bytes marks table board own z desk bodies places stamps x choose held
      y = s.further next-few

      first : drop x.rest desk ≡ p ∷ drop (suc x.rest) desk
      first = drop-cons desk x.rest 0 l ∙ ap (◌∷ drop (suc x.rest) desk) (sym e)

      go : (ps : List ℕ) (fs : List Formula) → SlotStage bytes marks table board own z desk bodies places stamps x choose held ps fs y.register
          → LookNext u bytes marks table p board own z desk bodies places stamps x choose held
      go [] fs g = absurd (let q = ap length (sym g.stack ∙ first) in omega arith)
      go (p' ∷ ps) [] g = absurd g.stand
      go (p' ∷ ps) (f ∷ fs) g =
          let q : p' ≡ p = ap (λ (i : List ℕ). get_or i 0 0) (sym g.stack ∙ first) in
          record {
            parts = ps;
            formula = f;
            formulas = fs;
            register = y.register;
            given =
                record {
                  from = h ∙ tail-is (p / parts_room) bytes;
                  stage = subst (λ (i : ℕ). SlotStage bytes marks table board own z desk bodies places stamps x choose held (i ∷ ps) (f ∷ fs) y.register) q g;
                };
          }

module _ {u bytes marks table : List ℕ} {p board own : ℕ} {z : Noted} {desk bodies places stamps : List ℕ} {x : SlotProgress}
    {choose : Formula → Option ℕ} {held : ℕ → ℕ}
    (n : LookNext u bytes marks table p board own z desk bodies places stamps x choose held) where
  -- what looking at it asks
  pub next-asks : LookPartAsk u bytes marks table p board x desk bodies places stamps
  next-asks =
      record {
        own = own;
        slot = z;
        choose = choose;
        held = held;
        parts = n.parts;
        formula = n.formula;
        formulas = n.formulas;
        register = n.register;
        given = n.given;
      }

  -- it stands behind the slot's own part
  pub next-later : own < p
  next-later = (look-room n.given).later

  -- its node is one of the bytes
  pub next-inside : p / parts_room < length bytes
  next-inside = (look-room n.given).inside

  -- there is room for one token more
  pub next-written : x.written < length desk
  next-written = let r = look-room n.given in let a = r.room in let b = r.desk-inside in let z = outer-some n.formula in omega arith

-- ---- the loop
module _ {u bytes marks table : List ℕ} {part board room entries : ℕ} {desk bodies places stamps : List ℕ} where
  -- at its beginning the slot's top is written
  pub loop-first : (t : PartTop) (desk' : List ℕ) (top : ℕ)
      → TopsPart u marks table part t → length desk' ≡ length desk → PutsTop desk 0 (length desk) t desk' top
      → LoopState u bytes marks table part board room entries (length desk) desk' bodies places stamps desk' bodies places stamps
      (record { written = 1; rest = top; nodes = t.nodes; entries = entries })
  loop-first t desk' top h l p =
      record {
        base = l;
        desk-long = l;
        bodies-long = refl;
        places-long = refl;
        stamps-long = refl;
        looks = λ choose held f reg a.
            let g = given-desk a desk (sym l) in
            let y = h bytes a.from choose held f a.held_by a.stands in
            let k = a.registry.few in
            record {
              few = omega arith;
              further = λ m. record { parts = parts_of t; formulas = y.operands; register = reg; stage = stage-first g t y desk' top l p };
              over = λ e. absurd (omega arith);
            };
      }

module _ {u bytes marks table : List ℕ} {part board room entries : ℕ} {bodies places stamps : List ℕ} where
  module _ {n : ℕ} {desk₀ : List ℕ} {x : SlotProgress} {desk₁ bodies₁ places₁ stamps₁ : List ℕ}
      (s : LoopState u bytes marks table part board room entries n desk₀ bodies places stamps desk₁ bodies₁ places₁ stamps₁ x) (l : x.rest < n) where
    inside : x.rest < length desk₁
    inside = let d = s.desk-long in omega arith

    -- the part that is next, of what the caller has brought
    pub loop-ask : {desk : List ℕ} (a : LayAsk u bytes marks table part board entries desk bodies places stamps) → n ≡ length desk
        → (p : ℕ) → p ≡ get_or desk₁ x.rest 0
        → LookNext (tail (p / parts_room) bytes) bytes marks table p board part (laid_noted a.choose a.held a.formula board a.register)
        desk₁ bodies₁ places₁ stamps₁ x a.choose a.held
    loop-ask a m p e =
        let g = given-desk a.given desk₀ (s.base ∙ m) in
        loop-next (s.looks a.choose a.held a.formula a.register g) inside (tail (p / parts_room) bytes) p e refl

    -- a turn: the part was looked at
    pub loop-turn : (p : ℕ) → p ≡ get_or desk₁ x.rest 0 → (desk₂ bodies₂ places₂ stamps₂ : List ℕ) (r : SlotProgress)
        → Looks (tail (p / parts_room) bytes) bytes marks table p board room x desk₁ bodies₁ places₁ stamps₁ desk₂ bodies₂ places₂ stamps₂ r
        → length desk₂ ≡ length desk₁ → length bodies₂ ≡ length bodies₁ → length places₂ ≡ length places₁ → length stamps₂ ≡ length stamps₁
        → LoopState u bytes marks table part board room entries n desk₀ bodies places stamps desk₂ bodies₂ places₂ stamps₂ r
    loop-turn p e desk₂ bodies₂ places₂ stamps₂ r h ld lb lp ls =
        record {
          base = s.base;
          desk-long = ld ∙ s.desk-long;
          bodies-long = lb ∙ s.bodies-long;
          places-long = lp ∙ s.places-long;
          stamps-long = ls ∙ s.stamps-long;
          looks = λ choose held f reg a.
              let k = loop-next (s.looks choose held f reg a) inside (tail (p / parts_room) bytes) p e refl in
              h.looks part (laid_noted choose held f board reg) choose held k.parts k.formula k.formulas k.register k.given;
        }

  -- at its end no part is left: the slot is laid, or there was no room
  pub loop-done : {n : ℕ} {desk desk₀ : List ℕ} {x : SlotProgress} {desk₁ bodies₁ places₁ stamps₁ : List ℕ}
      → LoopState u bytes marks table part board room entries n desk₀ bodies places stamps desk₁ bodies₁ places₁ stamps₁ x → n ≤ x.rest → n ≡ length desk
      → Cuts u bytes marks table part board room entries desk bodies places stamps desk₁ bodies₁ places₁ stamps₁
      (record { tokens = x.written; nodes = x.nodes; entries = x.entries })
  loop-done {desk₀ = desk₀} s l m choose held f reg a =
      let y = s.looks choose held f reg (given-desk a desk₀ (s.base ∙ m)) in
      let d = s.desk-long in
      record { few = y.few; laid = λ k. stage-done (y.further k).stage (omega arith); over = λ e. (y.over e).1 }
