-- A law for each way out of the functions of `over` (`..-made`, `one-..`, `two-..`), and what they ask of those that they call: no sum is
-- large, and every choice has room in a mark. Assumes nothing.
use mathlib.Core.Path.{◌≡◌, refl, sym, ap, ap₂, ◌∙◌, subst}
use mathlib.Core.List.{List}
use Prim.Native.Nat.{ℕ, ◌+◌, ◌*◌, ◌<◌, ◌≤◌}
use native.Mathlib.Omega.{arith}
use lib.ListN.{length, get_or}
use Rattle.limits.specs.Limits.{boards_most, nodes_room}
use Rattle.kinds.specs.declared.Unary.{Unary}
use Rattle.kinds.specs.declared.Unary.TheVariants.{Not, Next, Ever}
use Rattle.kinds.specs.declared.Join.{Join}
use Rattle.kinds.specs.declared.Binary.{Binary}
use Rattle.kinds.specs.declared.Binary.TheVariants.{Joined, Until}
use Rattle.scores.specs.Scored.{none_scored, one_scored, added, counts_below, Few}
use Rattle.scores.proofs.Added.{zeros-few, one-few, sums-few}
use Rattle.choices.specs.Marks.{length_room, choice_room, mark_of, length_in, choice_in, again_in}
use Rattle.scores.specs.Choice.{picked_by}
use Rattle.choices.specs.Picked.{Together}
use Rattle.choices.specs.Rows.{raw_below, row_at, PutsRow}
use Rattle.choices.specs.Over.{OverNone, OverOneAsk, OverNext, OverEver, OverOne, OverJoinAsk, OverJoin, OverUntilAsk, OverUntil, OverTwoAsk, OverTwo}
use Rattle.choices.proofs.Packing.{mark-has, choice-small, again-small}
use Rattle.choices.proofs.Reading.{row-long, added-long, added-each}
use Rattle.choices.proofs.Nodes.{part-not, part-next, part-ever, part_join, part-until}

-- the counts that were put are those
puts-as : (at : ℕ) (rows rows' : List ℕ) {xs ys : List ℕ} → xs ≡ ys → PutsRow at xs rows rows' → PutsRow at ys rows rows'
puts-as at rows rows' e p = subst (λ (l : List ℕ). PutsRow at l rows rows') e p

-- choices read from a mark, whichever it is, have room in one
pub choice-fits : (m : ℕ) {c : ℕ} → c ≡ choice_in m → c < choice_room
choice-fits m e = let l = choice-small m in omega arith

pub again-fits : (m : ℕ) {c : ℕ} → c ≡ again_in m → c < choice_room
again-fits m e = let l = again-small m in omega arith

-- ---- no operand
pub one-raw : (owner : ℕ) {counts : List ℕ} → counts ≡ one_scored owner → (b : ℕ) → get_or counts b 0 < raw_below
one-raw owner e b = let l = one-few none_scored owner b (zeros-few boards_most) in rw e (omega arith)

pub none_made : {owner at : ℕ} {raw raw' opened opened' counts : List ℕ} {r : ℕ} → counts ≡ one_scored owner → PutsRow at counts raw raw' → PutsRow at counts opened opened'
    → r ≡ mark_of 1 owner boards_most owner → OverNone owner at raw opened raw' opened' r
none_made {owner} {at} {raw} {raw'} {opened} {opened'} e p q m = record { raw_row = puts-as at raw raw' e p; opened-row = puts-as at opened opened' e q; mark-is = m }

-- ---- one operand
module _ {m at : ℕ} {raw opened : List ℕ} (k : OverOneAsk m at raw opened) where
  pub length-fits : {n : ℕ} → n ≡ length_in m → 1 + n < length_room
  length-fits e = let l = k.short in omega arith

  pub next_fits : {n a : ℕ} → n ≡ length_in m → a ≡ again_in m → (1 + n < length_room) × (a < choice_room) × (boards_most < choice_room) × (a < choice_room)
  next_fits e h = (length-fits e, again-fits m h, omega arith, again-fits m h)

  pub next-made : {opened' scores : List ℕ} {n a r : ℕ} → scores ≡ row_at at raw → PutsRow at scores opened opened' → n ≡ length_in m → a ≡ again_in m → r ≡ mark_of (1 + n) a boards_most a
      → OverNext m at raw opened opened' r
  next-made {opened'} e p n a r = record { row = puts-as at opened opened' e p; mark-is = r ∙ ap₂ (λ (x y : ℕ). mark_of (1 + x) y boards_most y) n a }

  module _ {scores first : List ℕ} (p : scores ≡ row_at at raw) (q : first ≡ row_at at opened) where
    pub ever-sums : (b : ℕ) → get_or first b 0 + get_or scores b 0 < counts_below
    ever-sums b = let l = k.few b in rw (p, q) (omega arith)

    module _ {sums : List ℕ} (e : sums ≡ added first scores) where
      same-sums : sums ≡ added (row_at at opened) (row_at at raw)
      same-sums = e ∙ ap₂ added q p

      pub ever-few : Few sums
      ever-few b = subst (λ (l : List ℕ). get_or l b 0 < counts_below) (sym e) (sums-few first scores ever-sums b)

      pub ever-made : {opened' : List ℕ} {n a c t r : ℕ} → PutsRow at sums opened opened' → n ≡ length_in m → a ≡ again_in m → c ≡ choice_in m → (t < choice_room) × Together c a sums t
          → r ≡ mark_of (1 + n) t boards_most a → OverEver m at raw opened opened' r
      ever-made {opened'} {n} {a} {c} {t} {r} u ln la lc s w =
          let h = mark-has r (1 + n) t boards_most a w (length-fits ln) s.0 (omega arith) (again-fits m la) in
          record {
            row = puts-as at opened opened' same-sums u;
            length-is = h.length-is ∙ ap (1 +◌) ln;
            choice-is = λ x y. h.choice-is ∙ s.1 (row_at at opened) (row_at at raw) (row-long at opened k.opened-fits) (row-long at raw k.raw-fits) same-sums (lc ∙ x) (la ∙ y) ∙ ap picked_by same-sums;
            again-is = h.again-is ∙ la;
          }

  pub one-not : {o : Unary} → o ≡ Not → OverOne o m at raw opened opened (m + 1)
  one-not e = rw e (record { others = refl; means = λ owner f n. part-not n k.short })

  pub one-next : {o : Unary} {opened' : List ℕ} {r : ℕ} → o ≡ Next → OverNext m at raw opened opened' r → OverOne o m at raw opened opened' r
  one-next e x = rw e (record { others = x.row.others; means = λ owner f n. rw x.row.row (part-next n k.short x.mark-is) })

  pub one-ever : {o : Unary} {j : Join} {opened' : List ℕ} {r : ℕ} → o ≡ Ever j → OverEver m at raw opened opened' r → OverOne o m at raw opened opened' r
  one-ever {j = j} e x = rw e (record { others = x.row.others; means = λ owner f n. rw x.row.row (part-ever n j x.length-is x.choice-is x.again-is) })

-- ---- two operands, unfolded
module _ {n a b again at : ℕ} {opened : List ℕ} (k : OverJoinAsk n a b again at opened) where
  left-long : length (row_at at opened) ≡ boards_most
  left-long = let f = k.fits in row-long at opened (omega arith)

  right-long : length (row_at (at + boards_most) opened) ≡ boards_most
  right-long = row-long (at + boards_most) opened k.fits

  module _ {left right : List ℕ} (p : left ≡ row_at at opened) (q : right ≡ row_at (at + boards_most) opened) where
    pub join-sums : (c : ℕ) → get_or left c 0 + get_or right c 0 < counts_below
    join-sums c = let l = k.few c in rw (p, q) (omega arith)

    module _ {sums : List ℕ} (e : sums ≡ added left right) where
      join-same : sums ≡ added (row_at at opened) (row_at (at + boards_most) opened)
      join-same = e ∙ ap₂ added p q

      pub join-few : Few sums
      join-few c = subst (λ (l : List ℕ). get_or l c 0 < counts_below) (sym e) (sums-few left right join-sums c)

      pub join-made : {opened' : List ℕ} {t r : ℕ} → PutsRow (at + boards_most) sums opened opened' → (t < choice_room) × Together a b sums t → r ≡ mark_of n t boards_most again
          → OverJoin n a b again at opened opened' r
      join-made {opened'} {t} {r} u s w =
          let h = mark-has r n t boards_most again w k.short s.0 (omega arith) k.again-choice in
          record {
            row = puts-as (at + boards_most) opened opened' join-same u;
            length-is = h.length-is;
            choice-is = λ x y. h.choice-is ∙ s.1 (row_at at opened) (row_at (at + boards_most) opened) left-long right-long join-same x y ∙ ap picked_by join-same;
            again-is = h.again-is;
          }

-- ---- and an until's copy
module _ {n a b again at : ℕ} {copy opened left : List ℕ} (k : OverUntilAsk n a b again copy at opened) (p : left ≡ row_at at opened) where
  pub until-laters : (c : ℕ) → get_or left c 0 + get_or copy c 0 < counts_below
  until-laters c = let l = k.pair.few c in let f = k.copy-few c in rw p (omega arith)

  module _ {laters : List ℕ} (e : laters ≡ added left copy) where
    same-laters : laters ≡ added (row_at at opened) copy
    same-laters = e ∙ ap (λ (l : List ℕ). added l copy) p

    later-long : length laters ≡ boards_most
    later-long = ap (λ (l : List ℕ). length l) same-laters ∙ added-long boards_most (row_at at opened) copy (left-long k.pair) k.long

    pub until-later-few : Few laters
    until-later-few c = subst (λ (l : List ℕ). get_or l c 0 < counts_below) (sym e) (sums-few left copy until-laters c)

    module _ {right : List ℕ} (q : right ≡ row_at (at + boards_most) opened) where
      pub until-sums : (c : ℕ) → get_or right c 0 + get_or laters c 0 < counts_below
      until-sums c =
          let l = k.pair.few c in
          let f = k.copy-few c in
          let s = added-each (row_at at opened) copy (left-long k.pair ∙ sym k.long) c in
          rw (q, same-laters) (omega arith)

      module _ {sums : List ℕ} (h : sums ≡ added right laters) where
        same-all : sums ≡ added (row_at (at + boards_most) opened) (added (row_at at opened) copy)
        same-all = h ∙ ap₂ added q same-laters

        pub until-few : Few sums
        until-few c = subst (λ (l : List ℕ). get_or l c 0 < counts_below) (sym h) (sums-few right laters until-sums c)

        pub until-made : {opened' : List ℕ} {t v r : ℕ} → PutsRow (at + boards_most) sums opened opened' → (t < choice_room) × Together a again laters t → (v < choice_room) × Together b t sums v
            → r ≡ mark_of n v t again → OverUntil n a b again copy at opened opened' r
        until-made {opened'} {t} {v} {r} u s w m =
            let i = mark-has r n v t again m k.pair.short w.0 s.0 k.pair.again-choice in
            let later : a ≡ picked_by (row_at at opened) → again ≡ picked_by copy → t ≡ picked_by laters = λ x y. s.1 (row_at at opened) copy (left-long k.pair) k.long same-laters x y in
            record {
              row = puts-as (at + boards_most) opened opened' same-all u;
              length-is = i.length-is;
              later-is = λ x y. i.later-is ∙ later x y ∙ ap picked_by same-laters;
              choice-is = λ x y z. i.choice-is ∙ w.1 (row_at (at + boards_most) opened) laters (right-long k.pair) later-long (h ∙ ap (λ (l : List ℕ). added l laters) q) z (later x y) ∙ ap picked_by same-all;
              again-is = i.again-is;
            }

-- ---- two operands, as they stand
module _ {l r at : ℕ} {raw opened left right : List ℕ} (k : OverTwoAsk l r at raw opened) (p : left ≡ row_at at raw) (q : right ≡ row_at (at + boards_most) raw) where
  raw-left : length (row_at at raw) ≡ boards_most
  raw-left = let f = k.raw-fits in row-long at raw (omega arith)

  raw-right : length (row_at (at + boards_most) raw) ≡ boards_most
  raw-right = row-long (at + boards_most) raw k.raw-fits

  pub two-sums : (c : ℕ) → get_or left c 0 + get_or right c 0 < counts_below
  two-sums c = let x = k.left-few c in let y = k.right-few c in rw (p, q) (omega arith)

  module _ {sums : List ℕ} (e : sums ≡ added left right) where
    two-same : sums ≡ added (row_at at raw) (row_at (at + boards_most) raw)
    two-same = e ∙ ap₂ added p q

    two-each : (c : ℕ) → get_or sums c 0 ≤ 2 * nodes_room
    two-each c =
        let x = k.left-few c in
        let y = k.right-few c in
        let s = added-each (row_at at raw) (row_at (at + boards_most) raw) (raw-left ∙ sym raw-right) c in
        rw two-same (omega arith)

    pub two-raw : (c : ℕ) → get_or sums c 0 < raw_below
    two-raw c = let x = two-each c in omega arith

    pub two-few : Few sums
    two-few c = let x = two-each c in omega arith

    module _ {m n a b again : ℕ} (lm : m ≡ length_in l) (ln : n ≡ length_in r) where
      pub two-pair : a < choice_room → b < choice_room → again < choice_room → OverJoinAsk (1 + m + n) a b again at opened
      two-pair u v h =
          let s = k.short in
          record {
            short = omega arith;
            left-choice = u;
            right-choice = v;
            again-choice = h;
            fits = k.opened-fits;
            few = λ c. ((k.left-few c).1, (k.right-few c).1);
          }

      pub two-copy : a < choice_room → b < choice_room → again < choice_room → OverUntilAsk (1 + m + n) a b again sums at opened
      two-copy u v h = record { pair = two-pair u v h; long = ap (λ (z : List ℕ). length z) two-same ∙ added-long boards_most (row_at at raw) (row_at (at + boards_most) raw) raw-left raw-right; copy-few = two-each }

      module _ {x y : ℕ} (la : a ≡ choice_in l) (lb : b ≡ choice_in r) (lx : x ≡ again_in l) (ly : y ≡ again_in r) (s : (again < choice_room) × Together x y sums again) {raw' : List ℕ} (u : PutsRow (at + boards_most) sums raw raw') where
        two-again : again_in l ≡ picked_by (row_at at raw) → again_in r ≡ picked_by (row_at (at + boards_most) raw) → again ≡ picked_by (added (row_at at raw) (row_at (at + boards_most) raw))
        two-again v w = s.1 (row_at at raw) (row_at (at + boards_most) raw) raw-left raw-right two-same (lx ∙ v) (ly ∙ w) ∙ ap picked_by two-same

        two-long : {z : ℕ} → z ≡ 1 + m + n → z ≡ 1 + length_in l + length_in r
        two-long h = omega arith

        pub two-join : {o : Binary} {j : Join} {opened' : List ℕ} {z : ℕ} → o ≡ Joined j → OverJoin (1 + m + n) a b again at opened opened' z → OverTwo o l r at raw opened raw' opened' z
        two-join {j = j} {z = z} h t =
            rw h
            (record {
              raw-others = u.others;
              opened-others = t.row.others;
              means = λ owner f g v w.
                  rw (u.row ∙ two-same, t.row.row) (part_join v w z (two-long t.length-is) t.again-is two-again j (λ c d. t.choice-is (la ∙ c) (lb ∙ d)));
            })

        pub two-until : {o : Binary} {opened' : List ℕ} {z : ℕ} → o ≡ Until → OverUntil (1 + m + n) a b again sums at opened opened' z → OverTwo o l r at raw opened raw' opened' z
        two-until {z = z} h t =
            rw h
            (record {
              raw-others = u.others;
              opened-others = t.row.others;
              means = λ owner f g v w.
                  rw (u.row ∙ two-same, t.row.row, two-same)
                  (part-until v w z (two-long t.length-is) t.again-is two-again
                  (λ c d. t.later-is (la ∙ c) (d ∙ sym (ap picked_by two-same)) ∙ ap (λ (y : List ℕ). picked_by (added (row_at at opened) y)) two-same)
                  (λ c d i. t.choice-is (la ∙ c) (d ∙ sym (ap picked_by two-same)) (lb ∙ i) ∙ ap (λ (y : List ℕ). picked_by (added (row_at (at + boards_most) opened) (added (row_at at opened) y))) two-same));
            })
