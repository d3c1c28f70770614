-- The results at the end of some bytes: `top_of` says all of the lowest one, `spined-moved`, `spined-same` and `noted-same` that notes
-- count only where the results stand, `spined-plain` that a formula that is no join needs none; `stacked` puts a result on others. One law for each way out
-- of `push` and `negate`. Assumes nothing.
use mathlib.Core.Path.{◌≡◌, refl, sym, ap, ◌∙◌, subst}
use mathlib.Core.Bool.{Bool, true, false}
use mathlib.Core.List.{List, [], ◌∷◌, ◌++◌}
use Prim.Native.Nat.{ℕ, zero, suc, ◌+◌, ◌-◌, ◌<◌, ◌≤◌}
use native.Mathlib.Omega.{arith}
use lib.ListN.{length, get_or, set, drop, length-set}
use lib.Seq.{get_or-set_same, get_or-set_other, take-set-le, get_or-drop}
use Rattle.limits.specs.Limits.{nodes_room}
use Rattle.lists.proofs.Drops.{put-below, behind, drop-long}
use Rattle.kinds.specs.declared.Join.{Join}
use Rattle.kinds.specs.declared.Join.TheVariants.{And, Or}
use Rattle.kinds.specs.declared.Unary.TheVariants.{Not}
use Rattle.kinds.specs.declared.Binary.TheVariants.{Joined, Until}
use Rattle.kinds.specs.Kinds.{join_code}
use Rattle.ltl.specs.Formula.{Formula, leaf, one, two, constant, size, encode, Coded}
use Rattle.ltl.specs.Progression.{negated}
use Rattle.ltl.proofs.Decoding.{size-some, length-encode, first, first-is}
use Rattle.nodes.specs.Begins.{Front}
use Rattle.peeling.specs.Peeled.{encodes}
use Rattle.peeling.proofs.Peels.{encodes_more}
use Rattle.stacking.specs.Stacks.{Spined, Noted, Stack, Spared}
use Rattle.stacking.proofs.Firsts.{first-pending, first-constant, first-negated, negated-pending}

-- ---- notes count only where the results stand
pub spined-moved : (f : Formula) (notes notes' : List ℕ) (at to : ℕ) → ((k : ℕ) → 0 < k → k < size f → get_or notes' (to + k) 0 ≡ get_or notes (at + k) 0)
    → Spined notes at f → Spined notes' to f
spined-moved (leaf a) notes notes' at to e x = tt
spined-moved (one o f) notes notes' at to e x = tt
spined-moved (two Until f g) notes notes' at to e x = tt
spined-moved (two (Joined j) f g) notes notes' at to e x =
    let s = size-some f in
    let t = size-some g in
    let k = e 1 (omega arith) (omega arith) in
    ((λ h. k ∙ x.0 (omega arith)), spined-moved g notes notes' (at + 1 + size f) (to + 1 + size f) (λ i a b. go i (e (1 + size f + i) (omega arith) (omega arith))) x.1)
  where
    go : (i : ℕ) → get_or notes' (to + (1 + size f + i)) 0 ≡ get_or notes (at + (1 + size f + i)) 0 → get_or notes' (to + 1 + size f + i) 0 ≡ get_or notes (at + 1 + size f + i) 0
    go i q =
        let y : to + 1 + size f + i ≡ to + (1 + size f + i) = omega arith in
        let z : at + (1 + size f + i) ≡ at + 1 + size f + i = omega arith in
        ap (λ (n : ℕ). get_or notes' n 0) y ∙ q ∙ ap (λ (n : ℕ). get_or notes n 0) z

pub spined-same : (f : Formula) (notes notes' : List ℕ) (at : ℕ) → ((q : ℕ) → at < q → q < at + size f → get_or notes' q 0 ≡ get_or notes q 0)
    → Spined notes at f → Spined notes' at f
spined-same f notes notes' at e x = spined-moved f notes notes' at at (λ k a b. e (at + k) (omega arith) (omega arith)) x

pub noted-same : (fs : List Formula) (notes notes' : List ℕ) (w : ℕ) → ((q : ℕ) → w ≤ q → get_or notes' q 0 ≡ get_or notes q 0) → Noted notes w fs → Noted notes' w fs
noted-same [] notes notes' w e x = tt
noted-same (f ∷ fs) notes notes' w e x =
    (e w (omega arith) ∙ x.0, spined-same f notes notes' w (λ q a b. e q (omega arith)) x.1, noted-same fs notes notes' (w + size f) (λ q a. e q (omega arith)) x.2)

-- a formula that is no join has nothing noted
pub spined-plain : (f : Formula) (notes : List ℕ) (at : ℕ) → ((j : Join) → first f ≡ join_code j → ⊥) → Spined notes at f
spined-plain (leaf a) notes at n = tt
spined-plain (one o f) notes at n = tt
spined-plain (two Until f g) notes at n = tt
spined-plain (two (Joined j) f g) notes at n = absurd (n j refl)

-- nor has one of which nothing is known
pub spined-none : (f : Formula) (notes : List ℕ) (at : ℕ) → ((k : ℕ) → 0 < k → k < size f → get_or notes (at + k) 0 ≡ 0) → Spined notes at f
spined-none (leaf a) notes at e = tt
spined-none (one o f) notes at e = tt
spined-none (two Until f g) notes at e = tt
spined-none (two (Joined j) f g) notes at e =
    let s = size-some f in
    let z = e 1 (omega arith) (omega arith) in
    ((λ h. absurd (omega arith)), spined-none g notes (at + 1 + size f) (λ k a b. go k (e (1 + size f + k) (omega arith) (omega arith))))
  where
    go : (k : ℕ) → get_or notes (at + (1 + size f + k)) 0 ≡ 0 → get_or notes (at + 1 + size f + k) 0 ≡ 0
    go k q = let y : at + 1 + size f + k ≡ at + (1 + size f + k) = omega arith in ap (λ (n : ℕ). get_or notes n 0) y ∙ q

-- a formula's own note is not beside its first byte
pub spined-first : (f : Formula) (notes : List ℕ) (at x : ℕ) → Spined notes at f → Spined (set notes at x) at f
spined-first f notes at x s = spined-same f notes (set notes at x) at (λ q a b. get_or-set_other notes at q x 0 (λ e. omega arith)) s

-- ---- the lowest result
pub record Lowest (f : Formula) (fs : List Formula) (p notes : List ℕ) (w : ℕ) : Type 0 where
  pub front : Front (drop w p) f (encodes fs)
  pub byte : get_or p w 0 ≡ first f
  pub note : get_or notes w 0 ≡ size f
  pub some : 0 < size f
  pub long : w + size f + length (encodes fs) ≡ length p
  pub room : length p ≤ length notes
  pub few : length p ≤ nodes_room
  pub spined : Spined notes w f
  pub others : Stack fs p notes (w + size f)

get_d-first : (p : List ℕ) (w : ℕ) → get_or p w 0 ≡ get_or (drop w p) 0 0
get_d-first p w = let z : w + 0 ≡ w = omega arith in ap (λ (i : ℕ). get_or p i 0) (sym z) ∙ sym (get_or-drop w p 0 0)

pub top_of : {f : Formula} {fs : List Formula} {p notes : List ℕ} {w : ℕ} → Stack (f ∷ fs) p notes w → Lowest f fs p notes w
top_of {f} {fs} {p} {notes} {w} s =
    let l = drop-long p (encodes (f ∷ fs)) w s.inside s.bytes in
    let m = encodes_more f fs in
    record {
      front = record { coded = s.coded.0; bytes = s.bytes };
      byte = get_d-first p w ∙ ap (λ (l : List ℕ). get_or l 0 0) s.bytes ∙ first-is f (encodes fs);
      note = s.noted.0;
      some = size-some f;
      long = omega arith;
      room = s.room;
      few = s.few;
      spined = s.noted.1;
      others =
          record {
            bytes = behind p w (size f) (encode f) (encodes fs) s.bytes (length-encode f);
            inside = omega arith;
            room = s.room;
            few = s.few;
            coded = s.coded.1;
            noted = s.noted.2;
          };
    }

-- a result put on others: v is where it begins, and behind it the notes are as they were
pub stacked : {fs : List Formula} {p notes p' notes' : List ℕ} {w : ℕ} → Stack fs p notes w → (g : Formula) (v : ℕ) → Coded g → drop v p' ≡ encode g ++ drop w p
    → length p' ≡ length p → length notes' ≡ length notes → v + size g ≡ w → get_or notes' v 0 ≡ size g → Spined notes' v g
    → ((q : ℕ) → w ≤ q → get_or notes' q 0 ≡ get_or notes q 0) → Stack (g ∷ fs) p' notes' v
stacked {fs} {p} {notes} {p'} {notes'} {w} s g v c b lp ln e n x same =
    let i = s.inside in
    let r = s.room in
    let k = s.few in
    record {
      bytes = b ∙ ap (encode g ++◌) s.bytes;
      inside = omega arith;
      room = omega arith;
      few = omega arith;
      coded = (c, s.coded);
      noted = (n, x, noted-same fs notes notes' (v + size g) (λ q a. same q (omega arith)) (subst (λ (i : ℕ). Noted notes i fs) (sym e) s.noted));
    }

-- where nothing is written nothing changes
pub untouched-same : {p notes : List ℕ} {w : ℕ} → Spared w p notes p notes
untouched-same = record { front = λ v a. refl; notes-front = λ q a. refl }

-- ---- a result of one byte
module _ {fs : List Formula} {p notes : List ℕ} {w : ℕ} (s : Stack fs p notes w) (some : 0 < w) where
  pub push-done : (g : Formula) (b : ℕ) → Coded g → encode g ≡ b ∷ [] → size g ≡ 1 → ((j : Join) → first g ≡ join_code j → ⊥)
      → Stack (g ∷ fs) (set p (w - 1) b) (set notes (w - 1) 1) (w - 1)
  push-done g b c e z n =
      let i = s.inside in
      let r = s.room in
      let k : w ≡ suc (w - 1) = omega arith in
      stacked s g (w - 1) c (put-below p (w - 1) w b k i ∙ ap (◌++ drop w p) (sym e)) (length-set p (w - 1) b) (length-set notes (w - 1) 1) (omega arith)
      (get_or-set_same notes (w - 1) 1 0 (omega arith) ∙ sym z) (spined-plain g (set notes (w - 1) 1) (w - 1) n)
      (λ q a. get_or-set_other notes (w - 1) q 1 0 (λ h. omega arith))

  pub push-untouched : (b : ℕ) → Spared w p notes (set p (w - 1) b) (set notes (w - 1) 1)
  push-untouched b =
      record { front = λ v h. take-set-le v p (w - 1) b (omega arith); notes-front = λ q h. get_or-set_other notes (w - 1) q 1 0 (λ e. omega arith) }

-- ---- not of the lowest result
low-plain : (b : ℕ) → b < 2 → (j : Join) → b ≡ join_code j → ⊥
low-plain b h And e = omega arith
low-plain b h Or e = omega arith

constant-low : (v : Bool) → first (constant v) < 2
constant-low true = omega arith
constant-low false = omega arith

module _ {f : Formula} {fs : List Formula} {p notes : List ℕ} {w : ℕ} (s : Stack (f ∷ fs) p notes w) where
  -- of a constant
  pub negate-constant : get_or p w 0 < 2 → Stack (negated f ∷ fs) (set p w (1 - get_or p w 0)) notes w
  negate-constant h =
      let t = top_of s in
      let l : first f < 2 = let b = t.byte in omega arith in
      let n = first-negated f l in
      let o : size f ≡ 1 = low-size f l in
      let i : w < length p = let x = t.long in let y = t.some in omega arith in
      let e : encode (negated f) ≡ (1 - get_or p w 0) ∷ [] = ap encode n.1 ∙ ap (◌∷ []) (sym (ap (1 -◌) t.byte ∙ n.2)) in
      let z : size (negated f) ≡ 1 = ap size n.1 in
      stacked t.others (negated f) w (subst (λ (g : Formula). Coded g) (sym n.1) tt)
      (put-below p w (w + size f) (1 - get_or p w 0) (omega arith) (omega arith) ∙ ap (◌++ drop (w + size f) p) (sym e)) (length-set p w (1 - get_or p w 0)) refl (omega arith)
      (t.note ∙ o ∙ sym z) (spined-plain (negated f) notes w (λ j q. low-plain (first (negated f)) (let g = ap first n.1 in let k = constant-low n.0 in omega arith) j q))
      (λ q a. refl)
    where
      low-size : (f : Formula) → first f < 2 → size f ≡ 1
      low-size f l = go (first f) refl
        where
          go : (b : ℕ) → first f ≡ b → size f ≡ 1
          go zero e = ap size (first-constant false f e)
          go (suc zero) e = ap size (first-constant true f e)
          go (suc (suc b)) e = absurd (omega arith)

  -- of any other formula
  pub negate-pending : 0 < w → 2 ≤ get_or p w 0 → (n : ℕ) → n ≡ get_or notes w 0 + 1
      → Stack (negated f ∷ fs) (set p (w - 1) 2) (set notes (w - 1) n) (w - 1)
  negate-pending some h n e =
      let t = top_of s in
      let g : negated f ≡ one Not f = negated-pending f (first-pending f (let b = t.byte in omega arith)) in
      let i = s.inside in
      let r = s.room in
      let k : w ≡ suc (w - 1) = omega arith in
      let m = t.note in
      subst (λ (x : Formula). Stack (x ∷ fs) (set p (w - 1) 2) (set notes (w - 1) n) (w - 1)) (sym g)
      (stacked t.others (one Not f) (w - 1) t.front.coded
      (put-below p (w - 1) w 2 k i ∙ ap (2 ∷◌) (t.front.bytes ∙ ap (encode f ++◌) (sym t.others.bytes))) (length-set p (w - 1) 2) (length-set notes (w - 1) n) (omega arith)
      (get_or-set_same notes (w - 1) n 0 (omega arith) ∙ e ∙ (omega arith)) tt
      (λ q a. get_or-set_other notes (w - 1) q n 0 (λ h. omega arith)))
