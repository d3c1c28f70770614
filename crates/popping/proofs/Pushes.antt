-- A sign that is stored past those that wait waits too. For `push`. Assumes nothing.
use mathlib.Core.Path.{◌≡◌, refl, ap, ◌∙◌}
use mathlib.Core.Bool.{Bool, true, false}
use mathlib.Core.List.{List, ◌∷◌}
use Prim.Native.Nat.{ℕ, zero, suc, ◌+◌, ◌≤◌, ◌<◌}
use native.Mathlib.Omega.{arith}
use native.Mathlib.Numerals.{add-one}
use lib.ListN.{length, get_or, set, drop, length-set}
use lib.Dec.{eqb}
use lib.Seq.{get_or-set_same, get_or-set_other}
use borrow.Author.Tests.{eqb-true, eqb-false}
use Rattle.lists.specs.Tests.{pick}
use Rattle.kinds.specs.declared.Join.TheVariants.{And, Or}
use Rattle.kinds.specs.declared.Binary.{Binary}
use Rattle.kinds.specs.declared.Binary.TheVariants.{Joined, Until}
use Rattle.text.specs.Signs.{level, loosest}
use Rattle.text.specs.Gathering.{Waiting, pops}
use Rattle.text.proofs.Signs.{level-low}
use Rattle.popping.specs.declared.Edges.{Edges}
use Rattle.popping.specs.Waits.{sign_at, waits_of, popped_at, pushed, Levels, Spare, Pops, Pushes}
use Rattle.popping.proofs.Pops.{popped-room}

-- the sign of a sign's level
sign_at_lem : (o : Binary) → sign_at (level o) ≡ o
unfolding sign_at pick
sign_at_lem Until = refl
sign_at_lem (Joined And) = refl
sign_at_lem (Joined Or) = refl

-- what is stored past the signs that wait leaves them
waits-past : (n : ℕ) (levels depths : List ℕ) (t j d : ℕ) → n ≤ t → waits_of n (set levels t j) (set depths t d) ≡ waits_of n levels depths
waits-past zero levels depths t j d h = refl
waits-past (suc n) levels depths t j d h =
    let q : n ≡ t → ⊥ = λ e. omega arith in
    rw (get_or-set_other levels t n j 0 q, get_or-set_other depths t n d 0 q, waits-past n levels depths t j d (omega arith))

-- one sign more waits
waits-more : (levels depths : List ℕ) (t j d : ℕ) → t < length levels → t < length depths
    → waits_of (t + 1) (set levels t j) (set depths t d) ≡ record { depth = d; sign = sign_at j } ∷ waits_of t levels depths
waits-more levels depths t j d h k =
    rw (add-one t, get_or-set_same levels t j 0 h, get_or-set_same depths t d 0 k, waits-past t levels depths t j d (omega arith))

-- its level is one of a sign
levels-more : (levels : List ℕ) (t j : ℕ) → Levels t levels → t < length levels → j < loosest → Levels (t + 1) (set levels t j)
levels-more levels t j low h f i l = go (eqb i t) refl
  where
    go : (z : Bool) → eqb i t ≡ z → get_or (set levels t j) i 0 < loosest
    go true e = rw (eqb-true i t e, get_or-set_same levels t j 0 h) f
    go false e = let q = eqb-false i t e in rw (get_or-set_other levels t i j 0 q) (low i (omega arith))

-- a sign at the depth d, behind what was popped to its level and that level's own
pub pushes : {levels depths l : List ℕ} {x p : Edges} {m : List ℕ} (o : Binary) (d j k : ℕ) → Spare 1 levels depths l x → j ≡ level o → k ≡ suc (level o)
    → Pops levels depths d k x l p m → length m ≡ length l
    → Pushes o d levels depths l x (set levels p.top j) (set depths p.top d) m (record { top = p.top + 1; at = p.at })
pushes {levels = levels} {depths = depths} {l = l} {x = x} {p = p} {m = m} o d j k spare a c h n =
    let s = h.less in
    let w = h.moved in
    let u = spare.more-levels in
    let v = spare.more-depths in
    let y = spare.more_bytes in
    let f = level-low o in
    let q = popped-room spare.room h n in
    let lens = length-set levels p.top j in
    let lend = length-set depths p.top d in
    record {
      is = ap (λ (i : List Waiting). record { waits = i; bytes = drop p.at m }) (waits-more levels depths p.top j d (omega arith) (omega arith))
          ∙ ap (λ (i : Binary). pushed i d (popped_at levels depths m p)) (ap sign_at a ∙ sign_at_lem o)
          ∙ ap (pushed o d) (h.is ∙ ap (λ (i : ℕ). pops (waits_of x.top levels depths) d i (drop x.at l)) c);
      count = omega arith;
      room = record {
        levels-room = omega arith;
        depths-room = omega arith;
        bytes-room = omega arith;
        within = q.within;
        low = levels-more levels p.top j q.low (omega arith) (omega arith);
      };
    }
