-- The whole pass: `PassedBack` is its invariant, and at the front of a text it is the text's formula (`back-all`). For `gather`. Assumes nothing.
use mathlib.Core.Path.{◌≡◌, refl, sym, ap, ◌∙◌}
use mathlib.Core.List.{List, [], ◌∷◌}
use Prim.Native.Nat.{ℕ, zero, suc, ◌+◌, ◌-◌, ◌^◌, ◌≤◌, ◌<◌}
use native.Mathlib.Omega.{arith}
use lib.ListN.{length, get_or, drop, drop_of_length-le}
use lib.Seq.{drop-cons}
use Rattle.ltl.specs.Formula.{Formula, encode}
use Rattle.text.specs.declared.Sign.{Sign}
use Rattle.text.specs.Signs.{sign_of, loosest}
use Rattle.text.specs.Grammar.{Text}
use Rattle.text.specs.Gathering.{Gathered, Popped, pops, gathers, gathered}
use Rattle.text.proofs.Builds.{text-popped}
use Rattle.popping.specs.declared.Edges.{Edges}
use Rattle.building.specs.declared.gathering.Midway.{Midway}
use Rattle.building.specs.Nodes.{node_of, nodes_in}
use Rattle.popping.specs.Waits.{waits_of, popped_at, Room, Pops}
use Rattle.building.specs.Takes.{gathered_at, MoreRoom, TakesIn}
use Rattle.building.proofs.Nodes.{nodes-none, nodes-behind}

-- the pass has come to byte i of the text t, and what was gathered behind it is the definition's
pub record PassedBack (t l levels depths : List ℕ) (x : Midway) (i : ℕ) : Type 0 where
  pub within : i ≤ length t
  pub is : gathered_at levels depths l x ≡ gathered (drop i t)
  pub count : x.edges.top + length l ≡ nodes_in (drop i t) + x.edges.at
  pub room : Room levels depths l x.edges
  pub shallow : x.depth + i ≤ length t
  pub short : length t < 2 ^ 64
  pub all : nodes_in t ≡ length l
  pub levels-all : length l ≤ length levels
  pub depths-all : length l ≤ length depths

-- at the text's end nothing was gathered
pub back_none : (t l levels depths : List ℕ) → length t < 2 ^ 64 → nodes_in t ≡ length l → length l ≤ length levels → length l ≤ length depths
    → PassedBack t l levels depths (record { edges = record { top = 0; at = length l }; depth = 0; number = 0; scale = 1 }) (length t)
back_none t l levels depths short all p q =
    let n : length l ≤ length l = omega arith in
    let m : length t ≤ length t = omega arith in
    let z = nodes-none t (length t) m in
    record {
      within = omega arith;
      is = rw (drop_of_length-le l n, drop_of_length-le t m);
      count = omega arith;
      room = record { levels-room = omega arith; depths-room = omega arith; bytes-room = omega arith; within = omega arith; low = λ i h. absurd (omega arith) };
      shallow = omega arith;
      short = short;
      all = all;
      levels-all = p;
      depths-all = q;
    }

-- the byte before i, and what stands behind it
drop-back : (t : List ℕ) (i : ℕ) → 0 < i → i ≤ length t → drop (i - 1) t ≡ get_or t (i - 1) 0 ∷ drop i t
drop-back t zero p h = absurd (omega arith)
drop-back t (suc i) p h = let e : suc i - 1 ≡ i = omega arith in rw e (drop-cons t i 0 h)

module _ {t l levels depths : List ℕ} {x : Midway} {i : ℕ} {s : Sign} (p : PassedBack t l levels depths x i) (h : 0 < i) (e : s ≡ sign_of (get_or t (i - 1) 0)) where
  -- the byte that is taken in, and its nodes
  sign-back : drop (i - 1) t ≡ get_or t (i - 1) 0 ∷ drop i t
  sign-back = drop-back t i h p.within

  nodes-back : nodes_in (drop (i - 1) t) ≡ node_of s + nodes_in (drop i t)
  nodes-back = ap nodes_in sign-back ∙ ap (λ (z : Sign). node_of z + nodes_in (drop i t)) (sym e)

  -- there is room for its sign
  pub back-ready : MoreRoom s levels depths l x
  back-ready =
      let a = p.all in
      let c = p.count in
      let u = p.levels-all in
      let v = p.depths-all in
      let d = p.shallow in
      let f = p.short in
      let w = p.room.within in
      let n = nodes-back in
      let k = nodes-behind (i - 1) t in
      record { spare = record { room = p.room; more-levels = omega arith; more-depths = omega arith; more_bytes = omega arith }; shallow = omega arith }

  -- and where that is taken in, the pass has come to it
  pub back_more : {l' levels' depths' : List ℕ} {r : Midway} → TakesIn s levels depths l x levels' depths' l' r → length l' ≡ length l
      → length levels' ≡ length levels → length depths' ≡ length depths → PassedBack t l' levels' depths' r (i - 1)
  back_more k g j m =
      let a = p.all in
      let c = p.count in
      let u = p.levels-all in
      let v = p.depths-all in
      let d = p.shallow in
      let w = p.within in
      let n = nodes-back in
      let o = k.count in
      let b = k.depth in
      record {
        within = omega arith;
        is = k.is ∙ ap (λ (z : Sign). gathers z (gathered_at levels depths l x)) e ∙ ap (gathers (sign_of (get_or t (i - 1) 0))) p.is ∙ sym (ap gathered sign-back);
        count = omega arith;
        room = k.room;
        shallow = omega arith;
        short = p.short;
        all = omega arith;
        levels-all = omega arith;
        depths-all = omega arith;
      }

-- no signs wait where their list is empty
none-wait : (n : ℕ) (levels depths : List ℕ) → waits_of n levels depths ≡ [] → n ≡ 0
none-wait zero levels depths e = refl
none-wait (suc n) levels depths e = let q = ap length e in absurd (omega arith)

-- at the front of a text what waits is popped, and the bytes are its formula's
pub back-all : {t l levels depths : List ℕ} {x : Midway} {i : ℕ} {r : Edges} {m : List ℕ} → PassedBack t l levels depths x i → i ≤ 0
    → Pops levels depths 0 loosest x.edges l r m → length m ≡ length l → (f : Formula) → Text t f → m ≡ encode f
back-all {t = t} {l = l} {levels = levels} {depths = depths} {x = x} {i = i} {r = r} {m = m} p z k e f w =
    let q : i ≡ 0 = omega arith in
    let g : gathered_at levels depths l x ≡ gathered t = p.is ∙ ap (λ (j : ℕ). gathered (drop j t)) q in
    let s : popped_at levels depths m r ≡ record { waits = []; bytes = encode f } =
    k.is ∙ ap (λ (y : Gathered). pops y.waits 0 loosest y.bytes) g ∙ text-popped w in
    let n = none-wait r.top levels depths (ap (λ (y : Popped). y.waits) s) in
    let d : nodes_in (drop i t) ≡ nodes_in t = ap (λ (j : ℕ). nodes_in (drop j t)) q in
    let c = p.count in
    let a = p.all in
    let o = k.moved in
    let u : r.at ≡ 0 = omega arith in
    sym (ap (λ (j : ℕ). drop j m) u) ∙ ap (λ (y : Popped). y.bytes) s
