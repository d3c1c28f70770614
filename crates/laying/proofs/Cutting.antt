-- What each function of the cycle has laid: one law for each way in which it returns (`..-cuts`, `..-looks`, `slot-lays`).
-- Assumes nothing.
use mathlib.Core.Path.{◌≡◌, refl, sym, ap, ◌∙◌, subst}
use mathlib.Core.Bool.{Bool, true, false}
use mathlib.Core.List.{List, [], ◌∷◌, ◌++◌}
use mathlib.Core.Option.{Option}
use Prim.Native.Nat.{ℕ, ◌+◌}
use native.Mathlib.Omega.{arith}
use lib.ListN.{length, get_or, drop, set}
use Rattle.state.specs.Form.{slot_row, slot_rows}
use Rattle.lists.specs.Runs.{tail, tail_as}
use Rattle.kinds.specs.declared.Leaf.{Leaf}
use Rattle.kinds.specs.declared.Leaf.TheVariants.{Const, Prop, Hold}
use Rattle.kinds.specs.declared.Unary.TheVariants.{Not, Next, Ever}
use Rattle.kinds.specs.declared.Join.{Join}
use Rattle.kinds.specs.declared.Binary.TheVariants.{Joined, Until}
use Rattle.kinds.specs.declared.Kind.{Kind}
use Rattle.kinds.specs.declared.Kind.TheVariants.{Zero, One, Two}
use Rattle.kinds.specs.Kinds.{kind_of, leaf_code, unary_code}
use Rattle.le.specs.Le.{le}
use Rattle.ltl.specs.Formula.{Formula, size, encode}
use Rattle.network.specs.Layout.{Laid, whole, beside, cut, looked, laid}
use Rattle.scores.specs.Choice.{stays_on}
use Rattle.tagging.specs.Packed.{board_in, ahead_in}
use Rattle.tagging.specs.Tags.{here_on}
use Rattle.tagging.proofs.Packing.{Has}
use Rattle.nodes.proofs.Fronts.{Parts, is_zero, is_one, is_two, parts-as, zero-size, front-begins, begins-some}
use Rattle.laying.specs.declared.Place.{Place}
use Rattle.laying.specs.declared.Lain.{Lain}
use Rattle.laying.specs.Lays.{Fits, Lays, CutAsk, Cuts, Looks, LaysSlot, Plain, WholeAsk, PutsWhole, IsJoin}
use Rattle.laying.proofs.Places.{inner, behind, owned}
use Rattle.laying.proofs.Sources.{source-tail}
use Rattle.laying.proofs.Writing.{lays-whole, lays_one, lays-two, lays-slot}
use Rattle.laying.proofs.Asking.{looked-stays, looked-cut}
use Rattle.laying.proofs.Parts.{OperandAt, operand-laid, not, pair, Top, over_one, over_two, tops}
use Rattle.laying.proofs.Slots.{slot-size, slot-board, held, held-stands, held-laid}

-- the four numbers of what was laid
abbrev pub Numbers : Lain → ℕ → ℕ → ℕ → ℕ → Type 0
Numbers z read here slots nodes = (z.read ≡ read) × ((z.here ≡ here) × (z.slots ≡ slots) × (z.nodes ≡ nodes))

-- ---- parts that stay whole
-- the nodes that nothing is cut out of
pub data Stays : Kind → Type 0 where
  constant : {v : Bool} → Stays (Zero (Const v))
  proposition : {i : ℕ} → Stays (Zero (Prop i))
  next : Stays (One Next)
  ever : {j : Join} → Stays (One (Ever j))
  until : Stays (Two Until)

stays-whole : {u rest : List ℕ} {f : Formula} {i : Kind} → Stays i → Parts u rest f i → (choose : Formula → Option ℕ) (hold : ℕ → ℕ → Laid) (b k : ℕ) → laid choose hold f b k ≡ whole f
unfolding laid
stays-whole constant (is_zero w e) choose hold b k = refl
stays-whole proposition (is_zero w e) choose hold b k = refl
stays-whole next (is_one e y) choose hold b k = refl
stays-whole ever (is_one e y) choose hold b k = refl
stays-whole until (is_two e y z) choose hold b k = refl

-- its length in the slot is its own
stays_here : {u rest : List ℕ} {f : Formula} {i : Kind} → Stays i → Parts u rest f i → (choose : Formula → Option ℕ) (b : ℕ) → here_on choose f b ≡ size f
unfolding here_on
stays_here constant (is_zero w e) choose b = refl
stays_here proposition (is_zero w e) choose b = refl
stays_here next (is_one e y) choose b = refl
stays_here ever (is_one e y) choose b = refl
stays_here until (is_two e y z) choose b = refl

-- there is room for such a part, and its tag has its length
pub whole-asks : {u tags p r : List ℕ} {at : Place} {i : Kind} → CutAsk u tags at p r → Stays i → kind_of (get_or u 0 0) ≡ i → WholeAsk u tags p
whole-asks {u} {p = p} {r = r} {at = at} ask t kind =
    let q = parts-as u ask.formula ask.rest ask.front refl kind in
    let w = stays-whole t q ask.choose ask.hold at.board at.slot in
    let f = subst (λ (x : Laid). Fits x at (length p) (length r)) w ask.fits in
    let b = front-begins ask.front in
    let l = begins-some u b in
    let s = ask.source.long in
    record { begins = b; tag = omega arith; length-is = ask.here-is ∙ stays_here t q ask.choose at.board; room = omega arith }

module _ {u tags : List ℕ} {at : Place} {p r : List ℕ} where
  pub whole-cuts : {p' : List ℕ} {y : Lain} {i : Kind} → Stays i → kind_of (get_or u 0 0) ≡ i → PutsWhole u p p' y → Cuts u tags at p r p' r y
  whole-cuts {p'} {y} t kind w choose hold f rest s front m =
      let x = w f rest front in
      let e = stays-whole t (parts-as u f rest front refl kind) choose hold at.board at.slot in
      (x.1.read_is, subst (λ (l : Laid). Lays l at p r p' r y) (sym e) (lays-whole f at p r p' y x.0 x.1))

  pub leaf-cuts : {p' : List ℕ} {y : Lain} {a : Leaf} → Stays (Zero a) → kind_of (get_or u 0 0) ≡ Zero a → (p' ≡ (get_or u 0 0 ∷ []) ++ drop 1 p) × Plain 1 y → Cuts u tags at p r p' r y
  leaf-cuts {p'} {y} {a} t kind w = whole-cuts t kind (λ f rest front. go (parts-as u f rest front refl kind))
    where
      go : {g : Formula} {rest : List ℕ} → Parts u rest g (Zero a) → (p' ≡ encode g ++ drop (size g) p) × Plain (size g) y
      go (is_zero x e) = (w.0 ∙ ap (λ (l : List ℕ). (get_or l 0 0 ∷ []) ++ drop 1 p) e, w.1)

  -- ---- not
  pub not-cuts : {q r' : List ℕ} {y : Lain} (z : Lain) → kind_of (get_or u 0 0) ≡ One Not → Looks (tail 1 u) (tail 1 tags) (inner at) (tail 1 (set p 0 (unary_code Not))) r q r' y
      → Numbers z (1 + y.read) (1 + y.here) y.slots y.nodes → Cuts u tags at p r (tail_as 1 (set p 0 (unary_code Not)) q) r' z
  unfolding laid
  not-cuts {q} {r'} {y} z k h e choose hold f rest s front m = go (tops not k front m)
    where
      go : {g : Formula} → Top choose u tags rest g (One Not) → (z.read ≡ size g) × Lays (laid choose hold g at.board at.slot) at p r (tail_as 1 (set p 0 (unary_code Not)) q) r' z
      go (over_one {g} o) =
          let l = operand-laid s o h in
          (omega arith, lays_one Not (looked (choose g) at.board at.slot (laid choose hold g)) at p r q r' y l.1 z e.1)

  -- ---- two operands
  pair-lays : {q r1 q2 r2 : List ℕ} {x y : Lain} (z : Lain) (j : IsJoin u)
      → Looks (tail 1 u) (tail 1 tags) (inner at) (tail 1 (set p 0 (get_or u 0 0))) r q r1 x
      → Looks (tail (1 + x.read) u) (tail (1 + x.read) tags) (behind at x) (tail (1 + x.here) (tail_as 1 (set p 0 (get_or u 0 0)) q)) (tail (slot_rows x.slots) r1) q2 r2 y
      → Numbers z (1 + x.read + y.read) (1 + x.here + y.here) (x.slots + y.slots) (x.nodes + y.nodes)
      → Cuts u tags at p r (tail_as (1 + x.here) (tail_as 1 (set p 0 (get_or u 0 0)) q) q2) (tail_as (slot_rows x.slots) r1 r2) z
  unfolding laid
  pair-lays {q} {r1} {q2} {r2} {x} {y} z j h i e choose hold f rest s front m = go (tops pair j.kind front m)
    where
      go : {g : Formula} → Top choose u tags rest g (Two (Joined j.by))
          → (z.read ≡ size g) × Lays (laid choose hold g at.board at.slot) at p r (tail_as (1 + x.here) (tail_as 1 (set p 0 (get_or u 0 0)) q) q2) (tail_as (slot_rows x.slots) r1 r2) z
      go (over_two {g = f} {h = g} b o n) =
          let P = tail_as (1 + x.here) (tail_as 1 (set p 0 (get_or u 0 0)) q) q2 in
          let R = tail_as (slot_rows x.slots) r1 r2 in
          let a = operand-laid s o h in
          let c = operand-laid s (subst (λ (w : ℕ). OperandAt choose u tags g rest (1 + w)) (sym a.0) n) i in
          let X = looked (choose f) at.board at.slot (laid choose hold f) in
          let Y = looked (choose g) at.board (at.slot + x.slots) (laid choose hold g) in (
            omega arith,
            subst (λ (w : ℕ). Lays (beside (Joined j.by) X (looked (choose g) at.board (at.slot + w) (laid choose hold g))) at p r P R z) a.1.slots-are
                (lays-two (Joined j.by) X Y (get_or u 0 0) b at p r q r1 x a.1 q2 r2 y c.1 z e.1),
          )

  -- n is the length of the left one's records, as the code has found it
  pub pair-cuts : {q r1 q2 r2 : List ℕ} {n : ℕ} {x y : Lain} (z : Lain) (j : IsJoin u) → n ≡ slot_rows x.slots
      → Looks (tail 1 u) (tail 1 tags) (inner at) (tail 1 (set p 0 (get_or u 0 0))) r q r1 x
      → Looks (tail (1 + x.read) u) (tail (1 + x.read) tags) (behind at x) (tail (1 + x.here) (tail_as 1 (set p 0 (get_or u 0 0)) q)) (tail n r1) q2 r2 y
      → Numbers z (1 + x.read + y.read) (1 + x.here + y.here) (x.slots + y.slots) (x.nodes + y.nodes)
      → Cuts u tags at p r (tail_as (1 + x.here) (tail_as 1 (set p 0 (get_or u 0 0)) q) q2) (tail_as n r1 r2) z
  pair-cuts {q} {r1} {q2} {r2} {n} {x} {y} z j rows h =
      subst
      (λ (k : ℕ). Looks (tail (1 + x.read) u) (tail (1 + x.read) tags) (behind at x) (tail (1 + x.here) (tail_as 1 (set p 0 (get_or u 0 0)) q)) (tail k r1) q2 r2 y
      → Numbers z (1 + x.read + y.read) (1 + x.here + y.here) (x.slots + y.slots) (x.nodes + y.nodes)
      → Cuts u tags at p r (tail_as (1 + x.here) (tail_as 1 (set p 0 (get_or u 0 0)) q) q2) (tail_as k r1 r2) z)
      (sym rows)
      (pair-lays z j h)

  -- ---- a part that is looked at
  pub stay-looks : {p' r' : List ℕ} {y : Lain} → stays_on (board_in (get_or tags 0 0)) at.board ≡ true → Cuts u tags at p r p' r' y → Looks u tags at p r p' r' y
  stay-looks {p'} {r'} {y} e h choose hold f rest s front tag m =
      let l = h choose hold f rest s front m in
      (l.0, subst (λ (x : Laid). Lays x at p r p' r' y) (sym (looked-stays s front tag m at.board at.slot e)) l.1)

  pub cut-looks : {p' r' : List ℕ} {y : Lain} → stays_on (board_in (get_or tags 0 0)) at.board ≡ false → LaysSlot u tags at p r p' r' y → Looks u tags at p r p' r' y
  cut-looks {p'} {r'} {y} e h choose hold f rest s front tag m =
      let c = looked-cut s front tag m at.board at.slot e in
      let l = h choose hold f rest c.board s c.stands in
      (l.0, subst (λ (x : Laid). Lays x at p r p' r' y) (sym c.laid-is) l.1)

  -- ---- a slot of its own
  pub slot-lays : {q r1 r2 : List ℕ} {x : Lain} {n c : ℕ} (z : Lain) → Has (get_or tags 0 0) n c → r1 ≡ (c ∷ 0 ∷ (le 2 at.node ++ le 2 n)) ++ drop slot_row r
      → Cuts u tags (owned at c n) (tail at.gap (set p 0 (leaf_code (Hold at.slot)))) (tail slot_row r1) q r2 x
      → Numbers z x.read 1 (1 + x.slots) (n + x.nodes)
      → LaysSlot u tags at p r (tail_as at.gap (set p 0 (leaf_code (Hold at.slot))) q) (tail_as slot_row r1 r2) z
  slot-lays {q} {r1} {r2} {x} {n} {c} z has row h e choose hold f rest board s o =
      let l = h choose hold f rest s o.front o.tagged in
      let P = tail_as at.gap (set p 0 (leaf_code (Hold at.slot))) q in
      let size_is : n ≡ size (laid choose hold f c (at.slot + 1)).here = slot-size has s o (at.slot + 1) ∙ ap (λ (i : ℕ). size (laid choose hold f i (at.slot + 1)).here) (slot-board has o) in (
        e.0 ∙ l.0,
        subst (λ (i : ℕ). Lays (cut i at.slot (laid choose hold f i (at.slot + 1))) at p r P (tail_as slot_row r1 r2) z) (sym (slot-board has o))
            (lays-slot (laid choose hold f c (at.slot + 1)) c at p r q r1 r2 n x size_is row l.1 z e.1),
      )

  -- ---- a place holder
  pub hold-cuts : {m ahead : ℕ} {p' r' : List ℕ} {y : Lain} (z : Lain) → kind_of (get_or u 0 0) ≡ Zero (Hold m) → ahead ≡ ahead_in (get_or tags 0 0)
      → LaysSlot (tail ahead u) (tail ahead tags) at p r p' r' y → Numbers z 1 y.here y.slots y.nodes → Cuts u tags at p r p' r' z
  hold-cuts {ahead = ahead} {p' = p'} {r' = r'} {y = y} z k far h e choose hold f rest s front tagged =
      let t = parts-as u f rest front refl k in
      let x = held s t in
      let h' : LaysSlot (tail (ahead_in (get_or tags 0 0)) u) (tail (ahead_in (get_or tags 0 0)) tags) at p r p' r' y = subst (λ (d : ℕ). LaysSlot (tail d u) (tail d tags) at p r p' r' y) far h in
      let l = (h' choose hold x.formula x.rest x.board (source-tail (ahead_in (get_or tags 0 0)) u tags x.inside s) (held-stands s t)).1 in
      let again : Lays (cut x.board at.slot (laid choose hold x.formula x.board (at.slot + 1))) at p r p' r' z =
      record { here-is = e.1.0 ∙ l.here-is; slots-are = e.1.1 ∙ l.slots-are; nodes-are = e.1.2 ∙ l.nodes-are; nodes = l.nodes; records = l.records } in
      (e.0 ∙ zero-size t, subst (λ (y : Laid). Lays y at p r p' r' z) (sym (held-laid s t at.board at.slot)) again)
