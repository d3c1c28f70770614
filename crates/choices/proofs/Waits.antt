-- The parts that wait, and a node on top of them: what the kind of its byte says of what is asked (`node-..-ask`), and one law for each
-- way out of `mark_node` (`node-leaf`, `node-one`, `node-two`, `node-nothing`). Assumes nothing.
use mathlib.Core.Path.{◌≡◌, refl, sym, ap, ◌∙◌, subst}
use mathlib.Core.List.{List, [], ◌∷◌, append-nil}
use mathlib.Core.Option.{Option}
use Prim.Native.Nat.{ℕ, suc, ◌+◌, ◌<◌, ◌≤◌}
use native.Mathlib.Omega.{arith}
use lib.ListN.{length, get_or, set, drop}
use lib.Seq.{get_or-set_same, get_or-set_other}
use Rattle.limits.specs.Limits.{boards_most, nodes_room}
use Rattle.kinds.specs.declared.Leaf.{Leaf}
use Rattle.kinds.specs.declared.Unary.{Unary}
use Rattle.kinds.specs.declared.Binary.{Binary}
use Rattle.kinds.specs.declared.Kind.{Kind}
use Rattle.kinds.specs.declared.Kind.TheVariants.{Zero, One, Two, NoCode}
use Rattle.kinds.specs.Kinds.{kind_of, leaf_coded}
use Rattle.ltl.specs.Formula.{Formula, leaf, one, two, size, encode, Within}
use Rattle.ltl.proofs.Decoding.{size-some}
use Rattle.network.specs.Scores.{chosen}
use Rattle.nodes.proofs.Fronts.{Parts, parts-as, zero_is, leaf-within, single, double, no_code}
use Rattle.peeling.specs.Peeled.{peel}
use Rattle.scores.specs.Owned.{Owned, owner_of}
use Rattle.choices.specs.Marks.{length_in, MarkOf, Marked}
use Rattle.choices.specs.Rows.{row_at}
use Rattle.choices.specs.Over.{PartNoted, OverNone, OverOneAsk, OverOne, OverTwoAsk, OverTwo}
use Rattle.choices.specs.Waiting.{AllWait, MarkNodeAt, MarkNodeAsk, MarksNode, rows_of}
use Rattle.choices.proofs.Reading.{row_same, drop-same}
use Rattle.choices.proofs.Nodes.{part-few, part_none, part-mark}

-- ---- what is not touched
-- two lists of marks are the same from a place on
abbrev SameFrom : ℕ → List ℕ → List ℕ → Type 0
SameFrom at marks marks' = (j : ℕ) → at ≤ j → get_or marks' j 0 ≡ get_or marks j 0

marked-kept : (choose : Formula → Option ℕ) (marks marks' : List ℕ) (g : Formula) (at : ℕ) → SameFrom at marks marks' → Marked choose marks at g → Marked choose marks' at g
marked-kept choose marks marks' (leaf a) at s m = subst (λ (x : ℕ). MarkOf choose (leaf a) x) (sym (s at (omega arith))) m
marked-kept choose marks marks' (one o f) at s m =
    (subst (λ (x : ℕ). MarkOf choose (one o f) x) (sym (s at (omega arith))) m.0, marked-kept choose marks marks' f (at + 1) (λ j l. s j (omega arith)) m.1)
marked-kept choose marks marks' (two o f g) at s m = (
  subst (λ (x : ℕ). MarkOf choose (two o f g) x) (sym (s at (omega arith))) m.0,
  marked-kept choose marks marks' f (at + 1) (λ j l. s j (omega arith)) m.1,
  marked-kept choose marks marks' g (at + 1 + size f) (λ j l. s j (omega arith)) m.2,
)

waits_kept : (owner marks marks' raw raw' opened opened' : List ℕ) (gs : List Formula) (t at : ℕ) → SameFrom at marks marks' → drop t raw' ≡ drop t raw → drop t opened' ≡ drop t opened
    → AllWait owner gs raw opened marks t at → AllWait owner gs raw' opened' marks' t at
waits_kept owner marks marks' raw raw' opened opened' [] t at s p q w = tt
waits_kept owner marks marks' raw raw' opened opened' (g ∷ gs) t at s p q w = (
  record {
    noted = rw (row_same t raw raw' p, row_same t opened opened' q, s at (omega arith)) w.0.noted;
    marked = λ a b masks o i. marked-kept (chosen masks) marks marks' g at s (w.0.marked a b masks o i);
  },
  waits_kept owner marks marks' raw raw' opened opened' gs (t + boards_most) (at + size g) (λ j l. s j (omega arith)) (drop-same boards_most t raw raw' p) (drop-same boards_most t opened opened' q) w.1,
)

-- a mark is put in front of a place
put_same : (marks : List ℕ) (i x : ℕ) → SameFrom (i + 1) marks (set marks i x)
put_same marks i x j l = get_or-set_other marks i j x 0 (λ e. omega arith)

-- at another place that is the same
waits-at : (owner marks raw opened : List ℕ) (gs : List Formula) {t at u to : ℕ} → t ≡ u → at ≡ to → AllWait owner gs raw opened marks t at → AllWait owner gs raw opened marks u to
waits-at owner marks raw opened gs {t} {at} {u} {to} e h w =
    subst (λ (x : ℕ). AllWait owner gs raw opened marks u x) h (subst (λ (x : ℕ). AllWait owner gs raw opened marks x at) e w)

-- ---- a node's own mark is put, and its operands wait no longer
module _ (owner marks raw raw' opened opened' : List ℕ) (i u x : ℕ) (inside : i < length marks) where
  put_is : get_or (set marks i x) i 0 ≡ x
  put_is = get_or-set_same marks i x 0 inside

  put-mark : (choose : Formula → Option ℕ) (g : Formula) → MarkOf choose g x → MarkOf choose g (get_or (set marks i x) i 0)
  put-mark choose g m = subst (λ (y : ℕ). MarkOf choose g y) (sym put_is) m

  waits-more : (g : Formula) (gs : List Formula) → PartNoted owner g (row_at u raw') (row_at u opened') x
      → ((p q : ℕ) (masks : List ℕ) → Owned p masks owner → Within p q g → Marked (chosen masks) (set marks i x) i g)
      → drop (u + boards_most) raw' ≡ drop (u + boards_most) raw → drop (u + boards_most) opened' ≡ drop (u + boards_most) opened
      → AllWait owner gs raw opened marks (u + boards_most) (i + size g) → AllWait owner (g ∷ gs) raw' opened' (set marks i x) u i
  waits-more g gs n m p q w = (
    record { noted = rw put_is n; marked = m },
    waits_kept owner marks (set marks i x) raw raw' opened opened' gs (u + boards_most) (i + size g) (λ j l. (let z = size-some g in put_same marks i x j (omega arith))) p q w,
  )

  leaf-waits : (a : Leaf) (gs : List Formula) → PartNoted owner (leaf a) (row_at u raw') (row_at u opened') x
      → drop (u + boards_most) raw' ≡ drop (u + boards_most) raw → drop (u + boards_most) opened' ≡ drop (u + boards_most) opened
      → AllWait owner gs raw opened marks (u + boards_most) (i + 1) → AllWait owner (leaf a ∷ gs) raw' opened' (set marks i x) u i
  leaf-waits a gs n p q w = waits-more (leaf a) gs n (λ c d masks o v. put-mark (chosen masks) (leaf a) (part-mark n c d masks o v)) p q w

  one-waits : (o : Unary) (f : Formula) (gs : List Formula) → PartNoted owner (one o f) (row_at u raw') (row_at u opened') x
      → drop (u + boards_most) raw' ≡ drop (u + boards_most) raw → drop (u + boards_most) opened' ≡ drop (u + boards_most) opened
      → AllWait owner (f ∷ gs) raw opened marks u (i + 1) → AllWait owner (one o f ∷ gs) raw' opened' (set marks i x) u i
  one-waits o f gs n p q w =
      waits-more (one o f) gs n
      (λ c d masks y v. (put-mark (chosen masks) (one o f) (part-mark n c d masks y v), marked-kept (chosen masks) marks (set marks i x) f (i + 1) (put_same marks i x) (w.0.marked c d masks y v)))
      p q (waits-at owner marks raw opened gs refl (omega arith) w.1)

  two-waits : (o : Binary) (f g : Formula) (gs : List Formula) (t : ℕ) → u ≡ t + boards_most → PartNoted owner (two o f g) (row_at u raw') (row_at u opened') x
      → drop (u + boards_most) raw' ≡ drop (u + boards_most) raw → drop (u + boards_most) opened' ≡ drop (u + boards_most) opened
      → AllWait owner (f ∷ (g ∷ gs)) raw opened marks t (i + 1) → AllWait owner (two o f g ∷ gs) raw' opened' (set marks i x) u i
  two-waits o f g gs t e n p q w =
      waits-more (two o f g) gs n
      (λ c d masks y v. (
        put-mark (chosen masks) (two o f g) (part-mark n c d masks y v),
        marked-kept (chosen masks) marks (set marks i x) f (i + 1) (put_same marks i x) (w.0.marked c d masks y v.0),
        marked-kept (chosen masks) marks (set marks i x) g (i + 1 + size f) (λ j l. put_same marks i x j (omega arith)) (w.1.0.marked c d masks y v.1),
      ))
      p q (waits-at owner marks raw opened gs (omega arith) (omega arith) w.1.1)

-- ---- what a node's kind says of what is asked
pub record LeafRoomed (a : Leaf) (i t : ℕ) (marks raw opened : List ℕ) : Type 0 where
  pub coded : leaf_coded a
  pub low : boards_most ≤ t
  pub raw-fits : t ≤ length raw
  pub opened-fits : t ≤ length opened
  pub inside : i < length marks

pub record OneRoomed (i t : ℕ) (marks raw opened : List ℕ) : Type 0 where
  pub inside : i + 1 < length marks
  pub few : length marks ≤ nodes_room
  pub asks : OverOneAsk (get_or marks (i + 1) 0) t raw opened

pub record TwoRoomed (i t : ℕ) (marks raw opened : List ℕ) : Type 0 where
  pub inside : i + 1 < length marks
  pub second : i + 1 + length_in (get_or marks (i + 1) 0) < length marks
  pub few : length marks ≤ nodes_room
  pub raw-fits : t + boards_most ≤ length raw
  pub asks : OverTwoAsk (get_or marks (i + 1) 0) (get_or marks (i + 1 + length_in (get_or marks (i + 1) 0)) 0) t raw opened

-- where the mark of the right operand stands
right-noted : (owner marks raw opened : List ℕ) (t i : ℕ) (f g : Formula) (gs : List Formula) → AllWait owner (f ∷ (g ∷ gs)) raw opened marks t (i + 1)
    → PartNoted owner g (row_at (t + boards_most) raw) (row_at (t + boards_most) opened) (get_or marks (i + 1 + length_in (get_or marks (i + 1) 0)) 0)
right-noted owner marks raw opened t i f g gs w = rw w.0.noted.length-is w.1.0.noted

-- a formula that is the node
become : (owner marks raw opened : List ℕ) (i t u : ℕ) (g h : Formula) (gs : List Formula) → g ≡ h
    → AllWait owner (h ∷ gs) raw opened marks u i × (u + rows_of (h ∷ gs) ≡ t + rows_of (peel (h ∷ gs)))
    → AllWait owner (g ∷ gs) raw opened marks u i × (u + rows_of (g ∷ gs) ≡ t + rows_of (peel (g ∷ gs)))
become owner marks raw opened i t u g h gs q w =
    subst (λ (y : Formula). AllWait owner (y ∷ gs) raw opened marks u i × (u + rows_of (y ∷ gs) ≡ t + rows_of (peel (y ∷ gs)))) (sym q) w

-- ---- by the kind that the code found
module _ {c i : ℕ} {owner marks raw opened : List ℕ} {t : ℕ} {k : Kind} (e : k ≡ kind_of c) where
  at-kind : {g : Formula} {gs : List Formula} {n : Kind} → MarkNodeAt g gs c i owner marks raw opened t → k ≡ n → Parts (encode g) [] g n
  at-kind {g = g} x h = parts-as (encode g) g [] (record { coded = x.coded; bytes = sym (append-nil (encode g)) }) (e ∙ ap kind_of x.byte) h

  waits-as : {g h : Formula} {gs : List Formula} → MarkNodeAt g gs c i owner marks raw opened t → g ≡ h → AllWait owner (peel (h ∷ gs)) raw opened marks t (i + 1)
  waits-as {gs = gs} x q = subst (λ (y : Formula). AllWait owner (peel (y ∷ gs)) raw opened marks t (i + 1)) q x.waits

  -- ---- what is asked
  pub node-leaf-ask : {a : Leaf} → k ≡ Zero a → MarkNodeAsk c i owner marks raw opened t → LeafRoomed a i t marks raw opened
  node-leaf-ask {a} h x =
      let z = zero_is (at-kind x.at h) in
      let n : length (peel (x.g ∷ x.gs)) ≡ length x.gs = ap (λ (y : Formula). length (peel (y ∷ x.gs))) z in
      let l = x.low in
      let r = x.raw-fits in
      let s = x.opened-fits in
      let d = x.inside in
      let m = size-some x.g in
      record { coded = leaf-within (at-kind x.at h); low = omega arith; raw-fits = omega arith; opened-fits = omega arith; inside = omega arith }

  pub node-one-ask : {o : Unary} → k ≡ One o → MarkNodeAsk c i owner marks raw opened t → OneRoomed i t marks raw opened
  node-one-ask {o} h x =
      let y = single (at-kind x.at h) in
      let f = y.operand in
      let w = waits-as x.at y.same in
      let n : length (peel (x.g ∷ x.gs)) ≡ suc (length x.gs) = ap (λ (y : Formula). length (peel (y ∷ x.gs))) y.same in
      let m : size x.g ≡ 1 + size f = ap size y.same in
      let p = size-some f in
      let d = x.inside in
      let b = x.few in
      let r = x.raw-fits in
      let s = x.opened-fits in
      let q = w.0.noted.length-is in
      record {
        inside = omega arith;
        few = b;
        asks = record { short = omega arith; raw-fits = omega arith; opened-fits = omega arith; few = part-few w.0.noted (omega arith) };
      }

  pub node-two-ask : {o : Binary} → k ≡ Two o → MarkNodeAsk c i owner marks raw opened t → TwoRoomed i t marks raw opened
  node-two-ask {o} h x =
      let y = double (at-kind x.at h) in
      let f = y.left in
      let g = y.right in
      let w = waits-as x.at y.same in
      let n : length (peel (x.g ∷ x.gs)) ≡ suc (suc (length x.gs)) = ap (λ (y : Formula). length (peel (y ∷ x.gs))) y.same in
      let m : size x.g ≡ 1 + size f + size g = ap size y.same in
      let p = size-some g in
      let d = x.inside in
      let b = x.few in
      let r = x.raw-fits in
      let s = x.opened-fits in
      let q = w.0.noted.length-is in
      let v = (right-noted owner marks raw opened t i f g x.gs w).length-is in
      record {
        inside = omega arith;
        second = omega arith;
        few = b;
        raw-fits = omega arith;
        asks =
            record {
              short = omega arith;
              raw-fits = omega arith;
              opened-fits = omega arith;
              left-few = part-few w.0.noted (omega arith);
              right-few = part-few (right-noted owner marks raw opened t i f g x.gs w) (omega arith);
            };
      }

  -- ---- what is left
  pub node-leaf : {raw' opened' : List ℕ} {x : ℕ} {a : Leaf} {b low : ℕ} → k ≡ Zero a → i < length marks → low + boards_most ≡ t → b ≡ owner_of owner a → b ≤ boards_most → OverNone b low raw opened raw' opened' x
      → MarksNode c i owner marks raw opened t (set marks i x) raw' opened' low
  node-leaf {raw'} {opened'} {x} {a} {b} {low} h s l z y m g gs v d =
      let q = zero_is (at-kind v h) in
      let n : PartNoted owner (leaf a) (row_at low raw') (row_at low opened') x = rw (m.raw_row.row, m.opened-row.row) (part_none z y m.mark-is) in
      become owner (set marks i x) raw' opened' i t low g (leaf a) gs q
      (leaf-waits owner marks raw raw' opened opened' i low x s a gs n m.raw_row.others m.opened-row.others (waits-at owner marks raw opened gs (sym l) refl (waits-as v q)), omega arith)

  pub node-one : {opened' : List ℕ} {x : ℕ} {o : Unary} → k ≡ One o → i < length marks → OverOne o (get_or marks (i + 1) 0) t raw opened opened' x
      → MarksNode c i owner marks raw opened t (set marks i x) raw opened' t
  node-one {opened'} {x} {o} h s m g gs v d =
      let y = single (at-kind v h) in
      let w = waits-as v y.same in
      become owner (set marks i x) raw opened' i t t g (one o y.operand) gs y.same (one-waits owner marks raw raw opened opened' i t x s o y.operand gs (m.means owner y.operand w.0.noted) refl m.others w, refl)

  pub node-two : {raw' opened' : List ℕ} {x : ℕ} {o : Binary} → k ≡ Two o → i < length marks → OverTwo o (get_or marks (i + 1) 0) (get_or marks (i + 1 + length_in (get_or marks (i + 1) 0)) 0) t raw opened raw' opened' x
      → MarksNode c i owner marks raw opened t (set marks i x) raw' opened' (t + boards_most)
  node-two {raw'} {opened'} {x} {o} h s m g gs v d =
      let y = double (at-kind v h) in
      let w = waits-as v y.same in
      become owner (set marks i x) raw' opened' i t (t + boards_most) g (two o y.left y.right) gs y.same
      (two-waits owner marks raw raw' opened opened' i (t + boards_most) x s o y.left y.right gs t refl (m.means owner y.left y.right w.0.noted (right-noted owner marks raw opened t i y.left y.right gs w)) m.raw-others m.opened-others w, omega arith)

  -- a byte that is no code
  pub node-nothing : k ≡ NoCode → MarksNode c i owner marks raw opened t marks raw opened t
  node-nothing h g gs v d = absurd (no_code (at-kind v h))
