-- A formula in front of some bytes, by its first byte: `parts` gives the operands and where they stand. Every walk over formula
-- bytes takes its formula apart by it. Assumes nothing.
use mathlib.Core.Path.{◌≡◌, refl, sym, ap, ◌∙◌, subst}
use mathlib.Core.List.{List, ◌∷◌, ◌++◌, append_assoc}
use Prim.Native.Nat.{ℕ, ◌+◌, ◌<◌}
use native.Mathlib.Omega.{arith}
use lib.ListN.{length, get_or, take, drop, length-append}
use lib.Seq.{take_at, drop_at}
use Rattle.lists.specs.Runs.{tail}
use Rattle.lists.proofs.Parts.{tail-is}
use Rattle.kinds.specs.declared.Leaf.{Leaf}
use Rattle.kinds.specs.declared.Unary.{Unary}
use Rattle.kinds.specs.declared.Binary.{Binary}
use Rattle.kinds.specs.declared.Kind.{Kind}
use Rattle.kinds.specs.declared.Kind.TheVariants.{Zero, One, Two, NoCode}
use Rattle.kinds.specs.Kinds.{kind_of, leaf_code, unary_code, binary_code, leaf_coded}
use Rattle.kinds.proofs.Codes.{kind-leaf, kind-unary, kind-binary}
use Rattle.ltl.specs.Formula.{Formula, leaf, one, two, size, encode}
use Rattle.ltl.proofs.Decoding.{size-some, length-encode, one_way}
use Rattle.nodes.specs.Begins.{Front, Begins}

-- ---- how long
pub front_length : (s : List ℕ) (f : Formula) (rest : List ℕ) → Front s f rest → length s ≡ size f + length rest
front_length s f rest x = ap length x.bytes ∙ length-append (encode f) rest ∙ ap (◌+ length rest) (length-encode f)

pub begins-some : (s : List ℕ) → Begins s → 0 < length s
begins-some s b = let l = front_length s b.formula b.rest b.front in let z = size-some b.formula in omega arith

-- the formula's own bytes
pub front-own : (s : List ℕ) (f : Formula) (rest : List ℕ) → Front s f rest → take (size f) s ≡ encode f
front-own s f rest x = ap (take (size f)) x.bytes ∙ take_at (encode f) rest (size f) (length-encode f)

-- there is just one
pub front-one-way : (s : List ℕ) (f g : Formula) (k l : List ℕ) → Front s f k → Front s g l → (f ≡ g) × (k ≡ l)
front-one-way s f g k l x y = one_way f g k l x.coded y.coded (sym x.bytes ∙ y.bytes)

abbrev pub front-begins : {s : List ℕ} {f : Formula} {rest : List ℕ} → Front s f rest → Begins s
front-begins {f = f} {rest = rest} x = record { formula = f; rest = rest; front = x }

-- ---- a formula in front, by the kind of its first byte
pub data Parts (s rest : List ℕ) : Formula → Kind → Type 0 where
  is_zero : {a : Leaf} → leaf_coded a → s ≡ leaf_code a ∷ rest → Parts s rest (leaf a) (Zero a)
  is_one : {o : Unary} {f : Formula} → s ≡ unary_code o ∷ drop 1 s → Front (drop 1 s) f rest → Parts s rest (one o f) (One o)
  is_two : {o : Binary} {f g : Formula} → s ≡ binary_code o ∷ drop 1 s → Front (drop 1 s) f (encode g ++ rest) → Front (drop (1 + size f) s) g rest → Parts s rest (two o f g) (Two o)

-- what stands from the byte behind the first on
second : (b : ℕ) (s l : List ℕ) → s ≡ b ∷ l → drop 1 s ≡ l
second b s l e = ap (drop 1) e

pub parts : (s : List ℕ) (f : Formula) (rest : List ℕ) → Front s f rest → Parts s rest f (kind_of (get_or s 0 0))
parts s (leaf a) rest x =
    let e : kind_of (get_or s 0 0) ≡ Zero a = ap (λ (l : List ℕ). kind_of (get_or l 0 0)) x.bytes ∙ kind-leaf a x.coded in
    rw e (is_zero x.coded x.bytes)
parts s (one o f) rest x =
    let e : kind_of (get_or s 0 0) ≡ One o = ap (λ (l : List ℕ). kind_of (get_or l 0 0)) x.bytes ∙ kind-unary o in
    let d = second (unary_code o) s (encode f ++ rest) x.bytes in
    rw e (is_one (x.bytes ∙ ap (unary_code o ∷◌) (sym d)) (record { coded = x.coded; bytes = d }))
parts s (two o f g) rest x =
    let e : kind_of (get_or s 0 0) ≡ Two o = ap (λ (l : List ℕ). kind_of (get_or l 0 0)) x.bytes ∙ kind-binary o in
    let b : s ≡ binary_code o ∷ (encode f ++ (encode g ++ rest)) = x.bytes ∙ ap (binary_code o ∷◌) (append_assoc (encode f) (encode g) rest) in
    let d = second (binary_code o) s (encode f ++ (encode g ++ rest)) b in
    let q : drop (1 + size f) s ≡ encode g ++ rest = ap (drop (1 + size f)) b ∙ drop_at (binary_code o ∷ encode f) (encode g ++ rest) (1 + size f) (let l = length-encode f in omega arith) in
    rw e (is_two (b ∙ ap (binary_code o ∷◌) (sym d)) (record { coded = x.coded.0; bytes = d }) (record { coded = x.coded.1; bytes = q }))

-- the same at a place of the code: the kind that `Kind::from` gave, and the variant that it was matched with
pub parts-as : (s : List ℕ) (f : Formula) (rest : List ℕ) → Front s f rest → {r k : Kind} → r ≡ kind_of (get_or s 0 0) → r ≡ k → Parts s rest f k
parts-as s f rest x e h = subst (λ (k : Kind). Parts s rest f k) (sym e ∙ h) (parts s f rest x)

pub front-tail : (a : ℕ) (s : List ℕ) {f : Formula} {rest : List ℕ} → Front (drop a s) f rest → Front (tail a s) f rest
front-tail a s x = record { coded = x.coded; bytes = tail-is a s ∙ x.bytes }

pub begins-tail : (a : ℕ) (s : List ℕ) {f : Formula} {rest : List ℕ} → Front (drop a s) f rest → Begins (tail a s)
begins-tail a s x = front-begins (front-tail a s x)

-- what stands behind the first byte is one shorter
part_length : {b : ℕ} {s : List ℕ} → s ≡ b ∷ drop 1 s → length s ≡ 1 + length (tail 1 s)
part_length {s = s} e = let k = ap length e in let t = ap length (tail-is 1 s) in omega arith

-- ---- a node with one operand
pub record Single (s rest : List ℕ) (f : Formula) (o : Unary) : Type 0 where
  pub operand : Formula
  pub same : f ≡ one o operand
  pub first : s ≡ unary_code o ∷ drop 1 s
  pub front : Front (tail 1 s) operand rest
  pub long : length s ≡ 1 + size operand + length rest
  pub part : length s ≡ 1 + length (tail 1 s)
  pub kind : kind_of (get_or s 0 0) ≡ One o

pub single : {s rest : List ℕ} {f : Formula} {o : Unary} → Parts s rest f (One o) → Single s rest f o
single {s = s} {rest = rest} (is_one {o = o} {f = g} e y) =
    record {
      operand = g;
      same = refl;
      first = e;
      front = front-tail 1 s y;
      long = let l = front_length (drop 1 s) g rest y in let k = ap length e in omega arith;
      part = part_length e;
      kind = ap (λ (l : List ℕ). kind_of (get_or l 0 0)) e ∙ kind-unary o;
    }

-- ---- a node with two operands
pub record Double (s rest : List ℕ) (f : Formula) (o : Binary) : Type 0 where
  pub left : Formula
  pub right : Formula
  pub same : f ≡ two o left right
  pub first : s ≡ binary_code o ∷ drop 1 s
  pub front : Front (tail 1 s) left (encode right ++ rest)
  pub second : Front (tail (1 + size left) s) right rest
  pub long : length s ≡ 1 + size left + size right + length rest
  pub part : length s ≡ 1 + length (tail 1 s)
  pub kind : kind_of (get_or s 0 0) ≡ Two o

pub double : {s rest : List ℕ} {f : Formula} {o : Binary} → Parts s rest f (Two o) → Double s rest f o
double {s = s} {rest = rest} (is_two {o = o} {f = g} {g = h} e y z) =
    record {
      left = g;
      right = h;
      same = refl;
      first = e;
      front = front-tail 1 s y;
      second = front-tail (1 + size g) s z;
      long =
          let l = front_length (drop 1 s) g (encode h ++ rest) y in
          let k = ap length e in
          let m = length-append (encode h) rest in
          let n = length-encode h in
          omega arith;
      part = part_length e;
      kind = ap (λ (l : List ℕ). kind_of (get_or l 0 0)) e ∙ kind-binary o;
    }

-- ---- a leaf, and no code
pub zero_is : {s rest : List ℕ} {f : Formula} {a : Leaf} → Parts s rest f (Zero a) → f ≡ leaf a
zero_is (is_zero w e) = refl

pub zero-size : {s rest : List ℕ} {f : Formula} {a : Leaf} → Parts s rest f (Zero a) → 1 ≡ size f
zero-size (is_zero w e) = refl

pub leaf-within : {s rest : List ℕ} {f : Formula} {a : Leaf} → Parts s rest f (Zero a) → leaf_coded a
leaf-within (is_zero w e) = w

pub no_code : {s rest : List ℕ} {f : Formula} → Parts s rest f NoCode → ⊥
no_code {s} {rest} {f} x = go x refl
  where
    go : {g : Formula} {k : Kind} → Parts s rest g k → k ≡ NoCode → ⊥
    go (is_zero w e) q = let z : ◌≡◌ {A = ℕ} 0 1 = cc in omega arith
    go (is_one e y) q = let z : ◌≡◌ {A = ℕ} 0 1 = cc in omega arith
    go (is_two e y w) q = let z : ◌≡◌ {A = ℕ} 0 1 = cc in omega arith
