-- One sign more, kind by kind: what the code leaves is what the definition gathers. For `take_in` and what it calls. Assumes nothing.
use mathlib.Core.Path.{◌≡◌, sym, ap, ap₂, ◌∙◌, subst}
use mathlib.Core.List.{List}
use Prim.Native.Nat.{ℕ, ◌+◌, ◌-◌, ◌*◌, ◌%◌, ◌≤◌, ◌<◌}
use native.Mathlib.Omega.{arith}
use native.Mathlib.Numerals.{add-one}
use lib.ListN.{length, drop}
use Rattle.kinds.specs.declared.Binary.{Binary}
use Rattle.text.specs.declared.Sign.{Sign}
use Rattle.text.specs.declared.Sign.TheVariants.{Infix, Open, Close, Digit}
use Rattle.text.specs.Signs.{loosest}
use Rattle.text.specs.Gathering.{Popped, front, gathers}
use Rattle.popping.specs.declared.Edges.{Edges}
use Rattle.building.specs.declared.gathering.Midway.{Midway}
use Rattle.building.specs.Nodes.{node_of}
use Rattle.popping.specs.Waits.{waits_of, Pops, Pushes}
use Rattle.building.specs.Takes.{gathered_at, Fronts, MoreRoom, TakesIn}
use Rattle.popping.proofs.Pops.{popped-room}

-- ---- a sign without a node, and one whose byte goes in front
module _ {s : Sign} {levels depths l : List ℕ} {x : Midway} (ready : MoreRoom s levels depths l x) where
  -- one that changes nothing
  pub takes_none : gathers s (gathered_at levels depths l x) ≡ gathered_at levels depths l x → node_of s ≡ 0 → TakesIn s levels depths l x levels depths l x
  takes_none e n = record { is = sym e; count = omega arith; room = ready.spare.room; depth = omega arith }

  -- the byte goes in front of a state y with the same edges and depth
  pub takes_front : {b : ℕ} {y r : Midway} {m : List ℕ} (v : ℕ) → b ≡ v → node_of s ≡ 1 → y.edges ≡ x.edges → y.depth ≡ x.depth
      → front v (gathered_at levels depths l y) ≡ gathers s (gathered_at levels depths l x) → length m ≡ length l → Fronts b l y m r → TakesIn s levels depths l x levels depths m r
  takes_front {y = y} {r = r} v z one e g q n p =
      let t : r.edges.top ≡ x.edges.top = p.top ∙ ap (λ (z : Edges). z.top) e in
      let a : r.edges.at + 1 ≡ x.edges.at = p.at ∙ ap (λ (z : Edges). z.at) e in
      let d = p.depth in
      let f = ready.spare.more_bytes in
      let i = ready.spare.room.levels-room in
      let j = ready.spare.room.depths-room in
      let w = ready.spare.room.within in
      record {
        is = p.is levels depths ∙ ap (λ (c : ℕ). front c (gathered_at levels depths l y)) z ∙ q;
        count = omega arith;
        room = record { levels-room = omega arith; depths-room = omega arith; bytes-room = omega arith; within = omega arith; low = λ i h. ready.spare.room.low i (omega arith) };
        depth = omega arith;
      }

-- ---- a closing bracket, a digit
module _ {levels depths l : List ℕ} {x : Midway} where
  -- one bracket more is open
  pub takes-close : MoreRoom Close levels depths l x
      → TakesIn Close levels depths l x levels depths l (record { edges = x.edges; depth = x.depth + 1; number = x.number; scale = x.scale })
  takes-close ready =
      record {
        is = ap (λ (d : ℕ). record { waits = waits_of x.edges.top levels depths; depth = d; number = x.number; scale = x.scale; bytes = drop x.edges.at l })
            (add-one x.depth);
        count = omega arith;
        room = ready.spare.room;
        depth = omega arith;
      }

  -- the digit's value and the next one's scale
  pub takes-digit : (n v k : ℕ) → MoreRoom (Digit n) levels depths l x → v ≡ (n * x.scale + x.number) % 256 → k ≡ (10 * x.scale + 0) % 256
      → TakesIn (Digit n) levels depths l x levels depths l (record { edges = x.edges; depth = x.depth; number = v; scale = k })
  takes-digit n v k ready e f =
      let z : 10 * x.scale + 0 ≡ 10 * x.scale = omega arith in
      record {
        is = ap₂ (λ (i j : ℕ). record { waits = waits_of x.edges.top levels depths; depth = x.depth; number = i; scale = j; bytes = drop x.edges.at l }) e
            (f ∙ ap (λ (i : ℕ). i % 256) z);
        count = omega arith;
        room = ready.spare.room;
        depth = omega arith;
      }

-- ---- an opening bracket: all of its depth is popped
pub takes-open : {levels depths l : List ℕ} {x : Midway} {p : Edges} {m : List ℕ} (d : ℕ) → MoreRoom Open levels depths l x
    → Pops levels depths x.depth loosest x.edges l p m → length m ≡ length l → d ≡ x.depth - 1
    → TakesIn Open levels depths l x levels depths m (record { edges = p; depth = d; number = x.number; scale = x.scale })
takes-open {x = x} d ready h n e =
    let o = h.moved in
    record {
      is = ap₂ (λ (i : ℕ) (j : Popped). record { waits = j.waits; depth = i; number = x.number; scale = x.scale; bytes = j.bytes }) e h.is;
      count = omega arith;
      room = popped-room ready.spare.room h n;
      depth = omega arith;
    }

-- ---- an infix sign: it waits
pub takes-infix : {levels depths l levels' depths' m : List ℕ} {x : Midway} {p : Edges} (o : Binary) → Pushes o x.depth levels depths l x.edges levels' depths' m p
    → TakesIn (Infix o) levels depths l x levels' depths' m (record { edges = p; depth = x.depth; number = x.number; scale = x.scale })
takes-infix {x = x} o h =
    record {
      is = ap (λ (j : Popped). record { waits = j.waits; depth = x.depth; number = x.number; scale = x.scale; bytes = j.bytes }) h.is;
      count = h.count;
      room = h.room;
      depth = omega arith;
    }

-- ---- a sign that is known to be another
-- what it asks
pub ready-as : {s z : Sign} {levels depths l : List ℕ} {x : Midway} → s ≡ z → MoreRoom s levels depths l x → MoreRoom z levels depths l x
ready-as {levels = levels} {depths = depths} {l = l} {x = x} e r = subst (λ (z : Sign). MoreRoom z levels depths l x) e r

-- what it leaves
pub takes-as : {s z : Sign} {levels depths l levels' depths' l' : List ℕ} {x r : Midway} → s ≡ z → TakesIn z levels depths l x levels' depths' l' r
    → TakesIn s levels depths l x levels' depths' l' r
takes-as {levels = levels} {depths = depths} {l = l} {levels' = levels'} {depths' = depths'} {l' = l'} {x = x} {r = r} e t =
    subst (λ (z : Sign). TakesIn z levels depths l x levels' depths' l' r) (sym e) t

-- there is room for a byte
pub front-room : {s : Sign} {levels depths l : List ℕ} {x : Midway} → node_of s ≡ 1 → MoreRoom s levels depths l x → (0 < x.edges.at) × (x.edges.at ≤ length l)
front-room e r = let b = r.spare.more_bytes in (omega arith, r.spare.room.within)
