-- The outline as it is written, from the first byte to the last: `outlined-plain` and `outlined-whole` are the turns; it depends on the
-- numbers before its place alone (`outlined-same`). And as it is read, from the last byte to the first: `plain_back` is a byte with the
-- note 0, `whole_back` the last byte of a part that stays whole. Assumes nothing.
use mathlib.Core.Path.{◌≡◌, refl, sym, ap, ◌∙◌, subst}
use mathlib.Core.Bool.{true, false}
use mathlib.Core.List.{List}
use Prim.Native.Nat.{ℕ, suc, ◌+◌, ◌-◌, ◌<◌, ◌≤◌}
use native.Mathlib.Numerals.{add-one}
use native.Mathlib.Omega.{arith}
use lib.ListN.{length, get_or, set, take, drop}
use lib.Seq.{take-set-le, get_or-set_same}
use Rattle.lists.proofs.Drops.{unmoved, part-front}
use Rattle.kinds.specs.Kinds.{kind_of}
use Rattle.ltl.specs.Formula.{Formula, size, encode, Coded}
use Rattle.ltl.proofs.Decoding.{size-some}
use Rattle.nodes.specs.Begins.{Begins, Ends}
use Rattle.nodes.proofs.Fronts.{front-own}
use Rattle.lists.specs.Runs.{tail}
use Rattle.peeling.proofs.Peels.{HeadAt, head_at}
use Rattle.outlining.specs.Outlined.{whole_kind, top_kind, Outlined, start, plain, whole, Outlinable}
use Rattle.outlining.proofs.Heads.{head-kind, head-begins, head-long, head-within}

-- ---- it depends on what stands before its place alone
-- where the first n numbers are the same, up to any place among them
module _ {s s' notes notes' : List ℕ} (n : ℕ) (b : take n s ≡ take n s') (c : take n notes ≡ take n notes') where
  outlined-before : {i : ℕ} → i ≤ n → Outlined s notes i → Outlined s' notes' i
  outlined-before l start = start
  outlined-before l (plain {i = i} o e w z) =
      plain (outlined-before (omega arith) o) e (ap (λ (x : ℕ). whole_kind (kind_of x)) (unmoved s' s n i (sym b) (omega arith)) ∙ w)
      (unmoved notes' notes n i (sym c) (omega arith) ∙ z)
  outlined-before l (whole {i = i} {l = k} o h v w q e f z) =
      whole (outlined-before (omega arith) o) h v w
      (part-front s' s n i (size h) (sym b) (omega arith) ∙ q) e f
      (unmoved notes' notes n k (sym c) (omega arith) ∙ z)

-- the outline up to a place depends on the bytes and the notes before it alone
pub outlined-same : {s s' notes notes' : List ℕ} {i : ℕ} → take i s ≡ take i s' → take i notes ≡ take i notes' → Outlined s notes i → Outlined s' notes' i
outlined-same {i = i} b c o = outlined-before i b c (omega arith) o

-- ---- written from the first byte to the last
-- a note beside a byte that is not before the place
noted : {s notes : List ℕ} {i : ℕ} (l x : ℕ) → i ≤ l → Outlined s notes i → Outlined s (set notes l x) i
noted {notes = notes} {i = i} l x h o = outlined-same refl (sym (take-set-le i notes l x h)) o

-- a byte outside the parts that stay whole is noted as such
pub outlined-plain : {s notes : List ℕ} {i : ℕ} → Outlined s notes i → i < length notes → whole_kind (kind_of (get_or s i 0)) ≡ false → Outlined s (set notes i 0) (i + 1)
outlined-plain {notes = notes} {i = i} o h w = plain (noted i 0 (omega arith) o) (add-one i) w (get_or-set_same notes i 0 0 h)

-- the part that begins at a place
module _ {s notes : List ℕ} (a : Outlinable s notes) {i : ℕ} (h : i < length s) where
  here : HeadAt a.formula s i
  here = head_at a.front i h

  -- the bytes lent from there begin with it
  pub here-begins : Begins (tail i s)
  here-begins = head-begins here

  -- it has m bytes, as the walk over it has found: one at least, and it ends within
  module _ {m : ℕ} (ends : Ends (tail i s) m) where
    pub here_within : (0 < m) × (i + m ≤ length s)
    here_within = let e = head-long here ends in let z = size-some here.head in let l = head-within here h in (omega arith, omega arith)

    -- its length is noted beside its last byte
    pub outlined-whole : {now : List ℕ} {x : ℕ} → Outlined s now i → length now ≡ length notes → whole_kind (kind_of (get_or s i 0)) ≡ true → x ≡ m
        → Outlined s (set now (i + m - 1) x) (i + m)
    outlined-whole {now} {x} o e w q =
        let z = here_within in
        let r = a.room in
        let g = head-long here ends in
        whole {l = i + m - 1} (noted (i + m - 1) x (omega arith) o) here.head here.front.coded (ap whole_kind (sym (head-kind here)) ∙ w)
        (front-own (drop i s) here.head _ here.front) (ap (i +◌) g) (omega arith) (get_or-set_same now (i + m - 1) x 0 (omega arith) ∙ q ∙ g)

-- ---- read from the last byte to the first
-- what is known of a byte with the note 0, at place j
pub record PlainBack (s notes : List ℕ) (j : ℕ) : Type 0 where
  pub before : Outlined s notes j
  pub kind : whole_kind (kind_of (get_or s j 0)) ≡ false

pub plain_back : {s notes : List ℕ} {i j : ℕ} → Outlined s notes i → i ≡ suc j → get_or notes j 0 ≡ 0 → PlainBack s notes j
plain_back start e n = absurd (omega arith)
plain_back {s} {notes} {j = j} (plain {i = i} o f w z) e n =
    let q : i ≡ j = omega arith in
    record { before = subst (λ (k : ℕ). Outlined s notes k) q o; kind = ap (λ (k : ℕ). whole_kind (kind_of (get_or s k 0))) (sym q) ∙ w }
plain_back {notes = notes} {j = j} (whole {l = l} o h v w q f g z) e n =
    absurd (let k : l ≡ j = omega arith in let y = ap (λ (x : ℕ). get_or notes x 0) k in let p = size-some h in omega arith)

-- what is known of a part that stays whole, of n bytes, which ends at place i
pub record WholeBack (s notes : List ℕ) (i n : ℕ) : Type 0 where
  pub part : Formula
  pub coded : Coded part
  pub stays : whole_kind (top_kind part) ≡ true
  pub bytes : take (size part) (drop (i - n) s) ≡ encode part
  pub long : n ≡ size part
  pub place : i - n + n ≡ i
  pub before : Outlined s notes (i - n)

pub whole_back : {s notes : List ℕ} {i j n : ℕ} → Outlined s notes i → i ≡ suc j → get_or notes j 0 ≡ n → (n ≡ 0 → ⊥) → WholeBack s notes i n
whole_back start e m d = absurd (omega arith)
whole_back {notes = notes} {j = j} (plain {i = i} o f w z) e m d =
    absurd (let q : i ≡ j = omega arith in let y = ap (λ (x : ℕ). get_or notes x 0) q in d (omega arith))
whole_back {s} {notes} {i} {j} {n} (whole {i = a} {l = l} o h v w q f g z) e m d =
    let k : l ≡ j = omega arith in
    let y = ap (λ (x : ℕ). get_or notes x 0) k in
    let b : n ≡ size h = omega arith in
    let p : a ≡ i - n = omega arith in
    record {
      part = h;
      coded = v;
      stays = w;
      bytes = ap (λ (x : ℕ). take (size h) (drop x s)) (sym p) ∙ q;
      long = b;
      place = omega arith;
      before = subst (λ (x : ℕ). Outlined s notes x) p o;
    }
