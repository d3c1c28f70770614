-- A turn of the loop, by what became of the part: it stays (`turn-kept`), it was cut and entered (`turn-cut`), or there is no room for it
-- (`turn-deep`). What laying a part asks is `turn-asks`, and that its entry has a code `turn-entry`: these hold on any board, and only the
-- turn itself says that a part is laid on its own choice. Assumes nothing.
use mathlib.Core.Path.{◌≡◌, refl, sym, ap, ◌∙◌, subst}
use mathlib.Core.Bool.{true, false}
use mathlib.Core.List.{List, [], ◌∷◌, ◌++◌}
use mathlib.Core.Option.{Option}
use Prim.Native.Nat.{ℕ, suc, ◌+◌, ◌-◌, ◌^◌, ◌<◌, ◌≤◌}
use native.Mathlib.Omega.{arith}
use lib.ListN.{length, take, drop, set, length-set, length-drop}
use lib.Seq.{drop-set-lt, take-suc-set, length-take-le}
use borrow.Rule.Slice.PartMut.{put_mid, same_len_mid, take_put, drop_put}
use Rattle.limits.specs.Limits.{boards_most, slots_room}
use Rattle.kinds.specs.Kinds.{leaf_code}
use Rattle.kinds.specs.declared.Leaf.TheVariants.{Hold}
use Rattle.ltl.specs.Formula.{Formula}
use Rattle.network.specs.Layout.{Slot}
use Rattle.registers.specs.Register.{Noted, laid_noted, entered}
use Rattle.registers.proofs.Entering.{entry-below}
use Rattle.registers.proofs.Outers.{outer-some}
use Rattle.scores.specs.Choice.{code_of, stays_on}
use Rattle.parting.specs.declared.PartTop.{PartTop}
use Rattle.parting.specs.Parts.{ChosenFor}
use Rattle.parting.specs.Tops.{parts_of, TopsPart, PutsTop}
use Rattle.entering.specs.declared.Entered.{Entered}
use Rattle.separating.specs.declared.SlotProgress.{SlotProgress}
use Rattle.separating.specs.Laying.{LayAsk, LaysSlot, LaysTo, slot_on}
use Rattle.separating.specs.Turns.{LookGiven, LookPartAsk, Looks}
use Rattle.separating.proofs.Stages.{look-room, stage-kept, kept-nodes, cut-given, cut-there, stage-cut, stage-deep}

-- ---- the desk
-- the part of it that is lent, as long as it is to be
pub part-long : (l : List ℕ) (w e : ℕ) → w < e → e ≤ length l → length (take (e - w) (drop w l)) ≡ e - w
part-long l w e i j = let d = length-drop w l in length-take-le (e - w) (drop w l) (omega arith)

module _ (desk mid : List ℕ) (w e : ℕ) (l : w < e) (i : e ≤ length desk) (n : length mid ≡ e - w) where
  -- what has come back is as long as what was lent
  mid-long : length mid ≡ length (take (e - w) (drop w desk))
  mid-long = let d = length-drop w desk in n ∙ sym (length-take-le (e - w) (drop w desk) (omega arith))

  -- the desk is as long once the part has come back
  pub desk-long : length (put_mid w (e - w) desk mid) ≡ length desk
  desk-long = same_len_mid w (e - w) desk mid mid-long

  -- a token is put at the part's first place
  module _ (v : ℕ) where
    -- the desk's length
    desk-put-long : length (set (put_mid w (e - w) desk mid) w v) ≡ length desk
    desk-put-long = length-set (put_mid w (e - w) desk mid) w v ∙ desk-long

    -- in front stands what stood there, and the token
    desk-put-front : take (w + 1) (set (put_mid w (e - w) desk mid) w v) ≡ take w desk ++ (v ∷ [])
    desk-put-front =
        let k : w + 1 ≡ suc w = omega arith in
        let m = desk-long in
        ap (λ (j : ℕ). take j (set (put_mid w (e - w) desk mid) w v)) k ∙ take-suc-set (put_mid w (e - w) desk mid) w v (omega arith)
        ∙ ap (◌++ (v ∷ [])) (take_put w (e - w) desk mid (omega arith))

    -- what stands behind the part is as it was
    desk-put-behind : drop e (set (put_mid w (e - w) desk mid) w v) ≡ drop e desk
    desk-put-behind = drop-set-lt e (put_mid w (e - w) desk mid) w v l ∙ drop_put w e desk mid (omega arith) i n

-- ---- a part that may be laid on any board
module _ {u bytes marks table : List ℕ} {p board : ℕ} {x : SlotProgress} {desk bodies places stamps : List ℕ}
    (a : LookPartAsk u bytes marks table p board x desk bodies places stamps) where
  -- what laying it there asks
  pub turn-asks : (b : ℕ) (d : List ℕ) → length d ≡ x.rest + 1 - x.written → b < boards_most
      → LayAsk u bytes marks table p b x.entries d bodies places stamps
  turn-asks b d l there =
      record { choose = a.choose; held = a.held; formula = a.formula; register = a.register; given = cut-given a.given b there d l }

  -- its entry, and how many there are: below the room, so that a place holder has a code
  pub turn-entry : {b room : ℕ} {d bodies' places' stamps' : List ℕ} {y : Entered}
      → LaysSlot u bytes marks table p b room x.entries d bodies places stamps bodies' places' stamps' y
      → length d ≡ x.rest + 1 - x.written → b < boards_most
      → (y.entries ≡ slots_room → ⊥) → (y.entry < slots_room) × (y.entries < slots_room)
  turn-entry {b = b} {d = d} {y = y} lays l there n =
      let z = laid_noted a.choose a.held a.formula b a.register in
      let q = lays a.choose a.held a.formula a.register (cut-given a.given b there d l) in
      let k = q.few in
      let m : y.entries < slots_room = omega arith in
      let r = q.laid m in
      let e = r.entry-is in
      let c = r.entries-are in
      let h = entry-below (slot_on b z) z.register in
      (omega arith, m)

-- ---- the turn
module _ {u bytes marks table : List ℕ} {p board : ℕ} {x : SlotProgress} {desk bodies places stamps : List ℕ}
    (room choice : ℕ) (chosen : ChosenFor marks p choice) where
  -- the choice is the formula's
  stays-as : {own : ℕ} {z : Noted} {choose : Formula → Option ℕ} {held : ℕ → ℕ} {ps : List ℕ} {f : Formula} {fs : List Formula} {reg : List Slot}
      → LookGiven u bytes marks table p board own z desk bodies places stamps x choose held ps f fs reg → choice ≡ code_of (choose f)
  stays-as {choose = choose} {f = f} g = chosen choose bytes f g.stage.stand.0

  -- a part that stays
  module _ (s : stays_on choice board ≡ true) (t : PartTop) (tops : TopsPart u marks table p t) where
    -- and stays by its formula's choice
    kept-as : {own : ℕ} {z : Noted} {choose : Formula → Option ℕ} {held : ℕ → ℕ} {ps : List ℕ} {f : Formula} {fs : List Formula} {reg : List Slot}
        → LookGiven u bytes marks table p board own z desk bodies places stamps x choose held ps f fs reg → stays_on (code_of (choose f)) board ≡ true
    kept-as g = ap (λ (b : ℕ). stays_on b board) (sym (stays-as g)) ∙ s

    -- how many nodes there are with its top
    pub turn-nodes : LookPartAsk u bytes marks table p board x desk bodies places stamps → x.nodes + t.nodes < 2 ^ 32
    turn-nodes a =
        let g = a.given in
        kept-nodes g t (tops bytes g.from a.choose a.held a.formula g.stage.held_by g.stage.stand.0) (kept-as g)

    -- its top is written, and its operands are left in its place
    pub turn-kept : (desk' : List ℕ) (top : ℕ) → length desk' ≡ length desk → PutsTop desk x.written (x.rest + 1) t desk' top
        → Looks u bytes marks table p board room x desk bodies places stamps desk' bodies places stamps
        (record { written = x.written + 1; rest = top; nodes = x.nodes + t.nodes; entries = x.entries })
    turn-kept desk' top l q =
        record {
          written_is = refl;
          looks = λ own z choose held ps f fs reg g.
              let y = tops bytes g.from choose held f g.stage.held_by g.stage.stand.0 in
              let k = g.stage.registry.few in
              record {
                few = omega arith;
                further = λ m. record { parts = parts_of t ++ ps; formulas = y.operands ++ fs; register = reg; stage = stage-kept g (kept-as g) t y desk' top l q };
                over = λ m. absurd (omega arith);
              };
        }

  -- a part that is cut
  module _ (s : stays_on choice board ≡ false) where
    -- and is cut by its formula's choice
    cut_as : {own : ℕ} {z : Noted} {choose : Formula → Option ℕ} {held : ℕ → ℕ} {ps : List ℕ} {f : Formula} {fs : List Formula} {reg : List Slot}
        → LookGiven u bytes marks table p board own z desk bodies places stamps x choose held ps f fs reg → stays_on (code_of (choose f)) board ≡ false
    cut_as g = ap (λ (b : ℕ). stays_on b board) (sym (stays-as g)) ∙ s

    -- its choice is a board, as its holder's is
    pub turn-boards : LookPartAsk u bytes marks table p board x desk bodies places stamps → (choice < boards_most) × (board < boards_most)
    turn-boards a = let e = stays-as a.given in let c = cut-there a.given (cut_as a.given) in (omega arith, a.given.stage.there)

    module _ (d bodies' places' stamps' : List ℕ) (y : Entered) (long : length d ≡ x.rest + 1 - x.written)
        (lays : LaysSlot u bytes marks table p choice (room - 1) x.entries d bodies places stamps bodies' places' stamps' y) where
      -- it is laid on its formula's choice
      laid_as : {own : ℕ} {z : Noted} {choose : Formula → Option ℕ} {held : ℕ → ℕ} {ps : List ℕ} {f : Formula} {fs : List Formula} {reg : List Slot}
          → LookGiven u bytes marks table p board own z desk bodies places stamps x choose held ps f fs reg
          → let q = laid_noted choose held f (code_of (choose f)) reg in
          LaysTo bytes marks (room - 1) (slot_on (code_of (choose f)) q) q.register bodies' places' stamps' y
      laid_as {choose = choose} {held = held} {f = f} {reg = reg} g =
          subst (λ (b : ℕ). LaysSlot u bytes marks table p b (room - 1) x.entries d bodies places stamps bodies' places' stamps' y) (stays-as g) lays
          choose held f reg (cut-given g (code_of (choose f)) (cut-there g (cut_as g)) d long)

      -- there is no room for its entry
      pub turn-deep : 0 < room → y.entries ≡ slots_room → (desk' : List ℕ)
          → Looks u bytes marks table p board room x desk bodies places stamps desk' bodies' places' stamps'
          (record { written = x.written + 1; rest = length desk'; nodes = x.nodes; entries = slots_room })
      turn-deep r m desk' =
          record {
            written_is = refl;
            looks = λ own z choose held ps f fs reg g.
                let q = laid_as g in
                let h = q.over m in
                record { few = omega arith; further = λ k. absurd (omega arith); over = λ k. (refl, stage-deep g (cut_as g) room (omega arith)) };
          }

      -- it was entered, and the place holder of its entry is put where its part of the desk begins
      pub turn-cut : (y.entries ≡ slots_room → ⊥) → (mid : List ℕ) (v : ℕ) → v ≡ leaf_code (Hold y.entry) → length mid ≡ x.rest + 1 - x.written
          → length bodies' ≡ length bodies → length places' ≡ length places → length stamps' ≡ length stamps
          → Looks u bytes marks table p board room x desk bodies places stamps
          (set (put_mid x.written (x.rest + 1 - x.written) desk mid) x.written v) bodies' places' stamps'
          (record { written = x.written + 1; rest = x.rest + 1; nodes = x.nodes + 1; entries = y.entries })
      turn-cut n mid v ev lm lb lp ls =
          record {
            written_is = refl;
            looks = λ own z choose held ps f fs reg g.
                let q = laid_as g in
                let c = code_of (choose f) in
                let l = laid_noted choose held f c reg in
                let w = x.written in
                let e = x.rest + 1 in
                let i = (look-room g).desk-inside in
                let k : w < e = let h = (look-room g).room in let o = outer-some f in omega arith in
                record {
                  few = q.few;
                  further = λ m.
                      let r = q.laid m in
                      record {
                        parts = ps;
                        formulas = fs;
                        register = entered (slot_on c l) l.register;
                        stage =
                            stage-cut g (cut_as g) (set (put_mid w (e - w) desk mid) w v) bodies' places' stamps' y.entry y.entries
                            (desk-put-long desk mid w e k i lm v) lb lp ls r.entry-is r.entries-are m r.kept
                            (desk-put-front desk mid w e k i lm v ∙ ap (λ (j : ℕ). take w desk ++ (j ∷ [])) ev) (desk-put-behind desk mid w e k i lm v);
                      };
                  over = λ m. absurd (n m);
                };
          }
