-- Laying a slot, stage by stage: its top is written (`stage-first`), a part stays (`stage-kept`), a part was cut and entered
-- (`stage-cut`), or is too deep (`stage-deep`), and no part is left (`stage-done`). Assumes nothing.
use mathlib.Core.Path.{◌≡◌, refl, sym, ap, ◌∙◌, subst}
use mathlib.Core.Bool.{true, false}
use mathlib.Core.List.{List, [], ◌∷◌, ◌++◌, append-nil}
use mathlib.Core.Option.{Option, none, some}
use Prim.Native.Nat.{ℕ, suc, ◌+◌, ◌-◌, ◌/◌, ◌^◌, ◌<◌, ◌≤◌}
use native.Mathlib.Omega.{arith}
use lib.ListN.{length, take, drop, length-drop, drop_of_length-le}
use lib.Seq.{drop-drop}
use Rattle.limits.specs.Limits.{boards_most, slots_room}
use Rattle.kinds.specs.Kinds.{leaf_code}
use Rattle.kinds.specs.declared.Leaf.TheVariants.{Hold}
use Rattle.ltl.specs.Formula.{Formula, leaf}
use Rattle.network.specs.Layout.{Slot}
use Rattle.network.proofs.Laying.{HoldsIn}
use Rattle.network.proofs.Holding.{holds-map}
use Rattle.registers.specs.Register.{Noted, entry_of, entered, laid_noted}
use Rattle.registers.specs.Outer.{outer}
use Rattle.registers.proofs.Outers.{outer-some, laid-outer, entered-outer}
use Rattle.registers.proofs.Growing.{longer-length, longer-on, longer-entered, laid_more}
use Rattle.registers.proofs.Earlier.{Earlier, laid-earlier, enter-earlier}
use Rattle.tokens.specs.Kept.{RegisterKept}
use Rattle.scores.specs.Choice.{code_of, stays_on}
use Rattle.parting.specs.declared.PartTop.{PartTop}
use Rattle.parting.specs.Parts.{parts_room, PartsAt}
use Rattle.parting.specs.Tops.{TopOf, top-constant, top-proposition, top-hold, top-not, top-next, top-join, HeldBy, parts_of, TopAsk, TopsAs, PutsTop}
use Rattle.parting.proofs.Standing.{part-inside}
use Rattle.parting.proofs.Sizes.{part-size, part-coded, TopFits, top-fits}
use Rattle.separating.specs.declared.SlotProgress.{SlotProgress}
use Rattle.separating.specs.Rows.{outers_of, BetweenParts, looked_at}
use Rattle.separating.specs.Laying.{Ground, LayGiven, Deep, BodyLaid, slot_on}
use Rattle.separating.specs.Turns.{HoldsEach, SlotStage, LookGiven}
use Rattle.separating.proofs.Rows.{outers-both, top-laid}
use Rattle.separating.proofs.Between.{between-top, between-kept, between-cut, between_done, between-deep}
use Rattle.separating.proofs.Looking.{looked-stays, looked-cut, cut-to, laid-enters, laid-size}

-- ---- parts in a row
-- each takes a token at least
outers-count : (fs : List Formula) → length fs ≤ outers_of fs
outers-count [] = omega arith
outers-count (f ∷ fs) = let h = outers-count fs in let z = outer-some f in omega arith

module _ (choose : Formula → Option ℕ) (bytes marks : List ℕ) where
  -- parts that stand behind another one stand behind whatever that stands behind
  parts-behind : (n m : ℕ) (ps : List ℕ) (fs : List Formula) → n ≤ m → PartsAt choose bytes marks m ps fs → PartsAt choose bytes marks n ps fs
  parts-behind n m [] [] l s = tt
  parts-behind n m [] (f ∷ fs) l s = absurd s
  parts-behind n m (p ∷ ps) [] l s = absurd s
  parts-behind n m (p ∷ ps) (f ∷ fs) l s = let i = s.1 in (s.0, omega arith, parts-behind n m ps fs l s.2)

  -- two rows are one
  parts-both : (n : ℕ) (ps qs : List ℕ) (fs gs : List Formula) → PartsAt choose bytes marks n ps fs → PartsAt choose bytes marks n qs gs
      → PartsAt choose bytes marks n (ps ++ qs) (fs ++ gs)
  parts-both n [] qs [] gs s t = t
  parts-both n [] qs (f ∷ fs) gs s t = absurd s
  parts-both n (p ∷ ps) qs [] gs s t = absurd s
  parts-both n (p ∷ ps) qs (f ∷ fs) gs s t = (s.0, s.1, parts-both n ps qs fs gs s.2 t)

  -- there are as many parts as formulas
  parts-count : (n : ℕ) (ps : List ℕ) (fs : List Formula) → PartsAt choose bytes marks n ps fs → length ps ≡ length fs
  parts-count n [] [] s = refl
  parts-count n [] (f ∷ fs) s = absurd s
  parts-count n (p ∷ ps) [] s = absurd s
  parts-count n (p ∷ ps) (f ∷ fs) s = ap suc (parts-count n ps fs s.2)

  -- none is left
  parts_none : (n : ℕ) (fs : List Formula) → PartsAt choose bytes marks n [] fs → fs ≡ []
  parts_none n [] s = refl
  parts_none n (f ∷ fs) s = absurd s

-- ---- holders in a row
module _ (Q : ℕ → Type 0) where
  -- of two rows
  holds-both : (fs gs : List Formula) → HoldsEach Q fs → HoldsEach Q gs → HoldsEach Q (fs ++ gs)
  holds-both [] gs h i = i
  holds-both (f ∷ fs) gs h i = (h.0, holds-both fs gs h.1 i)

  -- of a top's operands
  holds-top : {bytes marks : List ℕ} {held : ℕ → ℕ} {f : Formula} {token nodes : ℕ} {operands : List Formula}
      → TopOf bytes marks held f token nodes operands → HoldsIn Q f → HoldsEach Q operands
  holds-top (top-constant v) h = tt
  holds-top (top-proposition i) h = tt
  holds-top (top-hold m) h = tt
  holds-top (top-not f) h = (h, tt)
  holds-top (top-next f at t) h = tt
  holds-top (top-join j f g) h = (h.0, (h.1, tt))

-- what every holder has may be said more weakly
holds_more : (Q R : ℕ → Type 0) → ((m : ℕ) → Q m → R m) → (fs : List Formula) → HoldsEach Q fs → HoldsEach R fs
holds_more Q R i [] h = tt
holds_more Q R i (f ∷ fs) h = (holds-map Q R i f h.0, holds_more Q R i fs h.1)

-- the entries of held slots have codes
pub held_below : {choose : Formula → Option ℕ} {bytes marks table : List ℕ} {held : ℕ → ℕ} → Ground choose bytes marks table → HeldBy held table
    → (m : ℕ) → held m < slots_room
held_below g h m = let a = g.entries m in let b = h m in omega arith

-- ---- the slot's own top
module _ {u bytes marks table : List ℕ} {part board entries : ℕ} {desk bodies places stamps : List ℕ}
    {choose : Formula → Option ℕ} {held : ℕ → ℕ} {f : Formula} {reg : List Slot}
    (a : LayGiven u bytes marks table part board entries desk bodies places stamps choose held f reg) where
  -- what reading the slot's top asks
  pub lay-top : TopAsk u marks table part
  lay-top = record { bytes = bytes; from = a.from; choose = choose; formula = f; stands = a.stands; source = a.ground.source }

  -- the top has room on the desk
  pub lay-fits : (t : PartTop) (x : TopsAs choose bytes marks held part f t)
      → TopFits bytes marks held (held_below a.ground a.held_by) a.ground.source.few choose part f t x
  lay-fits t x =
      let c = part-coded choose bytes marks part f a.stands in
      top-fits bytes marks held (held_below a.ground a.held_by) a.ground.source.few choose part f t x c

  -- the slot's top is written
  pub stage-first : (t : PartTop) (x : TopsAs choose bytes marks held part f t) (desk' : List ℕ) (top : ℕ)
      → length desk' ≡ length desk → PutsTop desk 0 (length desk) t desk' top
      → SlotStage bytes marks table board part (laid_noted choose held f board reg) desk' bodies places stamps
      (record { written = 1; rest = top; nodes = t.nodes; entries = entries }) choose held (parts_of t) x.operands reg
  stage-first t x desk' top e p =
      let q = top-laid bytes marks choose held board reg x.view in
      let c = lay-fits t x in
      let n : 0 + 1 ≡ 1 = refl in
      let k = c.count in
      let b = p.top-is in
      let o = q.outer-is in
      let r = a.desk-room in
      let s = a.bodies-room in
      let z : drop (length desk) desk ≡ [] = drop-end desk in
      record {
        ground = a.ground;
        held_by = a.held_by;
        there = a.there;
        inside = omega arith;
        stack = p.behind ∙ ap (parts_of t ++◌) z ∙ append-nil (parts_of t);
        stand = x.stand;
        holds = holds-top (λ m. held m < length reg) x.view a.holds;
        registry = a.registry;
        desk-room = omega arith;
        desk-short = let d = a.desk-short in omega arith;
        bodies-room = omega arith;
        between =
            subst (λ (w : List ℕ). BetweenParts bytes marks choose held board (laid_noted choose held f board reg) w t.nodes x.operands reg) (sym p.front)
            (between-top bytes marks choose held board f t.token t.nodes x.operands reg x.view);
        small = let y = part-size choose bytes marks part f a.ground.source.few a.stands in let l = laid-size choose held f board reg in omega arith;
      }
    where
      drop-end : (l : List ℕ) → drop (length l) l ≡ []
      drop-end [] = refl
      drop-end (i ∷ l) = drop-end l

-- ---- the part that is next
-- what stands behind it
behind-one : (l : List ℕ) (i p : ℕ) (ps : List ℕ) → drop i l ≡ p ∷ ps → drop (i + 1) l ≡ ps
behind-one l i p ps e = sym (drop-drop 1 i l) ∙ ap (drop 1) e

module _ {u bytes marks table : List ℕ} {p board own : ℕ} {z : Noted} {desk bodies places stamps : List ℕ} {x : SlotProgress}
    {choose : Formula → Option ℕ} {held : ℕ → ℕ} {ps : List ℕ} {f : Formula} {fs : List Formula} {reg : List Slot}
    (a : LookGiven u bytes marks table p board own z desk bodies places stamps x choose held ps f fs reg) where
  -- where it stands, and that it has room
  pub record LookRoom : Type 0 where
    pub inside : p / parts_room < length bytes
    pub marked : p / parts_room < length marks
    pub later : own < p
    pub room : x.written + outer f ≤ x.rest + 1
    pub desk-inside : x.rest + 1 ≤ length desk
    pub desk-short : length desk < 65536
    pub nodes : x.nodes + 1 < 2 ^ 33

  -- by the parts behind it, which have a place of the desk each
  pub look-room : LookRoom
  look-room =
      let g = a.stage in
      let i = part-inside choose bytes marks p f g.stand.0 in
      let l = g.ground.source.long in
      let n = ap length g.stack in
      let d = length-drop x.rest desk in
      let c = parts-count choose bytes marks own ps fs g.stand.2 in
      let o = outers-count fs in
      let r = g.desk-room in
      let y = g.inside in
      let w = g.between.nodes-are in
      let v = g.small in
      let q = g.desk-short in
      let k = g.stand.1 in
      record { inside = i; marked = omega arith; later = k; room = omega arith; desk-inside = omega arith; desk-short = q; nodes = omega arith }

  -- what reading its top asks
  pub look-top : TopAsk u marks table p
  look-top = record { bytes = bytes; from = a.from; choose = choose; formula = f; stands = a.stage.stand.0; source = a.stage.ground.source }

  -- its top has room on the desk
  pub look-fits : (t : PartTop) (y : TopsAs choose bytes marks held p f t)
      → TopFits bytes marks held (held_below a.stage.ground a.stage.held_by) a.stage.ground.source.few choose p f t y
  look-fits t y =
      let g = a.stage in
      let c = part-coded choose bytes marks p f g.stand.0 in
      top-fits bytes marks held (held_below g.ground g.held_by) g.ground.source.few choose p f t y c

  -- a part that stays: its operands come in its place
  between_stays : stays_on (code_of (choose f)) board ≡ true → (t : PartTop) (y : TopsAs choose bytes marks held p f t)
      → BetweenParts bytes marks choose held board z (take x.written desk ++ (t.token ∷ [])) (x.nodes + t.nodes) (y.operands ++ fs) reg
  between_stays e t y =
      let g = a.stage in
      let s = looked-stays (choose f) board reg (laid_noted choose held f) (g.ground.boards f) e in
      between-kept bytes marks choose held board z (take x.written desk) x.nodes f fs reg t.token t.nodes y.operands s y.view g.between

  -- its top is written
  pub stage-kept : stays_on (code_of (choose f)) board ≡ true → (t : PartTop) (y : TopsAs choose bytes marks held p f t) (desk' : List ℕ) (top : ℕ)
      → length desk' ≡ length desk → PutsTop desk x.written (x.rest + 1) t desk' top
      → SlotStage bytes marks table board own z desk' bodies places stamps
      (record { written = x.written + 1; rest = top; nodes = x.nodes + t.nodes; entries = x.entries }) choose held (parts_of t ++ ps) (y.operands ++ fs) reg
  stage-kept e t y desk' top l q =
      let g = a.stage in
      let v = top-laid bytes marks choose held board reg y.view in
      let o = v.outer-is in
      let b = outers-both y.operands fs in
      let r = look-room in
      let i = r.desk-inside in
      let n = q.top-is in
      let d = g.desk-room in
      let m = g.bodies-room in
      let k = r.later in
      record {
        ground = g.ground;
        held_by = g.held_by;
        there = g.there;
        inside = omega arith;
        stack = q.behind ∙ ap (parts_of t ++◌) (behind-one desk x.rest p ps g.stack);
        stand =
            parts-both choose bytes marks own (parts_of t) ps y.operands fs
            (parts-behind choose bytes marks own p (parts_of t) y.operands (omega arith) y.stand) g.stand.2;
        holds = holds-both (λ m. held m < length reg) y.operands fs (holds-top (λ m. held m < length reg) y.view g.holds.0) g.holds.1;
        registry = g.registry;
        desk-room = omega arith;
        desk-short = let h = g.desk-short in omega arith;
        bodies-room = omega arith;
        between =
            subst (λ (w : List ℕ). BetweenParts bytes marks choose held board z w (x.nodes + t.nodes) (y.operands ++ fs) reg) (sym q.front) (between_stays e t y);
        small = g.small;
      }

  -- how many nodes there are with its top
  pub kept-nodes : (t : PartTop) (y : TopsAs choose bytes marks held p f t) → stays_on (code_of (choose f)) board ≡ true → x.nodes + t.nodes < 2 ^ 32
  kept-nodes t y e =
      let n = (between_stays e t y).nodes-are in
      let v = a.stage.small in
      omega arith

  -- a part may be laid on any board, with the places of the desk that are left for it
  pub cut-given : (b : ℕ) → b < boards_most → (d : List ℕ) → length d ≡ x.rest + 1 - x.written
      → LayGiven u bytes marks table p b x.entries d bodies places stamps choose held f reg
  cut-given b there d l =
      let g = a.stage in
      let r = look-room in
      let k = r.room in
      let i = r.desk-inside in
      let m = g.bodies-room in
      record {
        ground = g.ground;
        held_by = g.held_by;
        from = a.from;
        stands = g.stand.0;
        holds = g.holds.0;
        there = there;
        registry = g.registry;
        desk-room = omega arith;
        desk-short = let h = g.desk-short in omega arith;
        bodies-room = omega arith;
      }

  -- ---- a part that is cut
  module _ (e : stays_on (code_of (choose f)) board ≡ false) where
    abbrev laid : Noted
    laid = laid_noted choose held f (code_of (choose f)) reg

    abbrev own-slot : Slot
    own-slot = slot_on (code_of (choose f)) laid

    abbrev own-entry : ℕ
    own-entry = entry_of own-slot laid.register

    abbrev after : List Slot
    after = entered own-slot laid.register

    -- its choice is a board
    pub cut-there : code_of (choose f) < boards_most
    cut-there = (cut-to (choose f) board (a.stage.ground.boards f) e).there

    -- it is no place holder, which would have no choice
    not-held : (m : ℕ) → f ≡ leaf (Hold m) → ⊥
    not-held m q =
        let c = (cut-to (choose f) board (a.stage.ground.boards f) e).chosen_is in
        let n : choose f ≡ none = ap choose q ∙ a.stage.ground.free m in
        none-some (sym n ∙ c)
      where
        none-some : {b : ℕ} → none ≡ some b → ⊥
        none-some h = let z : ◌≡◌ {A = ℕ} 0 1 = cc in omega arith

    -- so what stands for it is the place holder of its entry
    cut-looked : looked_at choose held board f reg ≡ record { here = leaf (Hold own-entry); register = after }
    cut-looked =
        looked-cut (choose f) board reg (laid_noted choose held f) (a.stage.ground.boards f) e
        ∙ laid-enters choose held f (code_of (choose f)) (code_of (choose f)) reg laid.register not-held

    -- entries hold earlier ones alone
    earlier : Earlier reg laid
    earlier = laid-earlier choose held f (code_of (choose f)) reg a.stage.registry.registered a.stage.holds.0

    -- it was entered, and the place holder of its entry is written
    pub stage-cut : (desk' bodies' places' stamps' : List ℕ) (k n : ℕ)
        → length desk' ≡ length desk → length bodies' ≡ length bodies → length places' ≡ length places → length stamps' ≡ length stamps
        → k ≡ own-entry → n ≡ length after → n < slots_room → RegisterKept bytes marks bodies' places' stamps' after
        → take (x.written + 1) desk' ≡ take x.written desk ++ (leaf_code (Hold k) ∷ []) → drop (x.rest + 1) desk' ≡ drop (x.rest + 1) desk
        → SlotStage bytes marks table board own z desk' bodies' places' stamps'
        (record { written = x.written + 1; rest = x.rest + 1; nodes = x.nodes + 1; entries = n }) choose held ps fs after
    stage-cut desk' bodies' places' stamps' k n ld lb lp ls ek en few kept front behind =
        let g = a.stage in
        let r = look-room in
        let i = r.desk-inside in
        let d = g.desk-room in
        let z1 = outer-some f in
        let m = g.bodies-room in
        let lo = laid-outer choose held f (code_of (choose f)) reg in
        let eo = entered-outer own-slot laid.register in
        let lm = laid_more choose held f (code_of (choose f)) reg in
        let lg = longer-length reg after (longer-on reg laid.register after lm (longer-entered own-slot laid.register)) in
        let fr = front ∙ ap (λ (j : ℕ). take x.written desk ++ (leaf_code (Hold j) ∷ [])) ek in
        record {
          ground = g.ground;
          held_by = g.held_by;
          there = g.there;
          inside = omega arith;
          stack = behind ∙ behind-one desk x.rest p ps g.stack;
          stand = g.stand.2;
          holds = holds_more (λ m. held m < length reg) (λ m. held m < length after) (λ m h. omega arith) fs g.holds.1;
          registry =
              record {
                kept = kept;
                registered = (enter-earlier reg laid.register (code_of (choose f)) laid.here earlier).registered;
                count = en;
                few = few;
                short = let h = g.registry.short in omega arith;
                placed = lp ∙ g.registry.placed;
                stamped = ls ∙ g.registry.stamped;
              };
          desk-room = omega arith;
          desk-short = let h = g.desk-short in omega arith;
          bodies-room = omega arith;
          between =
              subst (λ (w : List ℕ). BetweenParts bytes marks choose held board z w (x.nodes + 1) fs after) (sym fr)
              (between-cut bytes marks choose held board z (take x.written desk) x.nodes f fs reg own-entry after cut-looked g.between);
          small = g.small;
        }

    -- its entry is too high
    pub stage-deep : (room : ℕ) → room ≤ suc own-entry → Deep room z.here
    stage-deep room h =
        record {
          entry = own-entry;
          holds = between-deep bytes marks choose held board z (take x.written desk) x.nodes f fs reg own-entry after cut-looked a.stage.between;
          high = h;
        }

-- ---- nothing is left
module _ {bytes marks table : List ℕ} {board own : ℕ} {z : Noted} {desk bodies places stamps : List ℕ} {x : SlotProgress}
    {choose : Formula → Option ℕ} {held : ℕ → ℕ} {ps : List ℕ} {fs : List Formula} {reg : List Slot}
    (g : SlotStage bytes marks table board own z desk bodies places stamps x choose held ps fs reg) where
  -- the tokens written are the slot's
  pub stage-done : length desk ≤ x.rest → BodyLaid bytes marks z desk bodies places stamps (record { tokens = x.written; nodes = x.nodes; entries = x.entries })
  stage-done l =
      let p : ps ≡ [] = sym g.stack ∙ drop_of_length-le desk l in
      let q : fs ≡ [] = parts_none choose bytes marks own fs (subst (λ (y : List ℕ). PartsAt choose bytes marks own y fs) p g.stand) in
      let t = take x.written desk in
      let h = subst (λ (y : List Formula). BetweenParts bytes marks choose held board z t x.nodes y reg) q g.between in
      let b = between_done bytes marks choose held board z t x.nodes reg h in
      let r = g.desk-room in
      record {
        entries-are = g.registry.count ∙ ap (λ (y : List Slot). length y) b.0;
        kept = subst (λ (y : List Slot). RegisterKept bytes marks bodies places stamps y) b.0 g.registry.kept;
        few-tokens = omega arith;
        spelt = b.1;
        nodes-are = b.2;
      }
