-- What is gathered from the end of a text is its formula's bytes. Signs that wait are described by what popping them leaves, never as a list;
-- by induction on the grammar. So a text is one of at most one formula, since no formula's bytes are another's. Others use `text-popped`,
-- `text-one`. Assumes nothing.
use mathlib.Core.Path.{◌≡◌, refl, sym, ap, ◌∙◌}
use mathlib.Core.Bool.{Bool, true, false}
use mathlib.Core.List.{List, [], ◌∷◌, ◌++◌, append_assoc, append-nil}
use Prim.Native.Nat.{ℕ, zero, suc, ◌+◌, ◌*◌, ◌%◌, ◌≤◌}
use native.Mathlib.Nat.{add_assoc, mul_assoc, mul_left_comm, add-mul, suc-mul, zero-mul, add-mod, mod-add-mod, add-mod-mod}
use native.Mathlib.Omega.{arith}
use lib.Dec.{ltb, eqb}
use borrow.Author.Tests.{ltb-true, lt-ltb, le-ltb, eq-eqb, ne_eqb}
use Rattle.lists.specs.Tests.{pick, both}
use Rattle.limits.specs.Limits.{propositions_most}
use Rattle.kinds.specs.declared.Leaf.TheVariants.{Const, Prop}
use Rattle.kinds.specs.declared.Binary.{Binary}
use Rattle.kinds.specs.Kinds.{leaf_code, unary_code, binary_code}
use Rattle.ltl.specs.Formula.{Formula, one, two, encode}
use Rattle.text.specs.declared.Sign.{Sign}
use Rattle.text.specs.declared.Sign.TheVariants.{Infix, Open, Close, Letter, Digit}
use Rattle.text.specs.Signs.{sign_of, digit_of, spelling, level, loosest}
use Rattle.text.specs.Grammar.{Gap, none, more, Figures, first, further, Named, truth, proposition, Spells, word, prefixed, bracketed, alone, joined, Text}
use Rattle.text.specs.Gathering.{Waiting, Gathered, Popped, pops, waiting, opened, front, gathers, gathered, built}

abbrev popped : List Waiting → List ℕ → Popped
popped w b = record { waits = w; bytes = b }

-- nothing of the digits is pending: these signs, this depth, these bytes
abbrev clean : List Waiting → ℕ → List ℕ → Gathered
clean w d b = record { waits = w; depth = d; number = 0; scale = 1; bytes = b }

-- the same with another number of the digits
abbrev counted : Gathered → ℕ → ℕ → Gathered
counted x n s = record { waits = x.waits; depth = x.depth; number = n; scale = s; bytes = x.bytes }

-- no sign that waits at depth d binds tighter than level k
data Held (d k : ℕ) : List Waiting → Type 0 where
  empty : Held d k []
  other : {w : Waiting} {ws : List Waiting} → (w.depth ≡ d → ⊥) → Held d k (w ∷ ws)
  loose : {w : Waiting} {ws : List Waiting} → k ≤ level w.sign → Held d k (w ∷ ws)

-- no sign waits above depth d
data Below (d : ℕ) : List Waiting → Type 0 where
  empty : Below d []
  under : {w : Waiting} {ws : List Waiting} → w.depth ≤ d → Below d (w ∷ ws)

both_false : (x : Bool) → both x false ≡ false
unfolding both
both_false true = refl
both_false false = refl

held-pops : {d k : ℕ} {w : List Waiting} (b : List ℕ) → Held d k w → pops w d k b ≡ popped w b
unfolding pick both
held-pops b empty = refl
held-pops {d = d} b (other {w = w} h) = rw (ne_eqb w.depth d h)
held-pops {d = d} {k = k} b (loose {w = w} h) = rw (le-ltb (level w.sign) k h, both_false (eqb w.depth d))

held-less : {d k : ℕ} {w : List Waiting} → Held d (suc k) w → Held d k w
held-less empty = empty
held-less (other h) = other h
held-less (loose {w = w} h) = loose {w = w} (omega arith)

held-zero : {d : ℕ} (w : List Waiting) → Held d 0 w
held-zero [] = empty
held-zero (w ∷ ws) = loose {w = w} (omega arith)

below-held : {d : ℕ} {w : List Waiting} (k : ℕ) → Below d w → Held (suc d) k w
below-held k empty = empty
below-held {d = d} k (under {w = w} h) = other (λ (e : w.depth ≡ suc d). omega arith)

below-above : {d : ℕ} {w : List Waiting} → Below d w → Below (suc d) w
below-above empty = empty
below-above (under {w = w} h) = under {w = w} (omega arith)

-- the first sign is popped where it stands at this depth and its level is asked for
pops-own : (o : Binary) (w : List Waiting) (d k : ℕ) (b : List ℕ) → level o ≡ k
    → pops (record { depth = d; sign = o } ∷ w) d (suc k) b ≡ pops w d (suc k) (binary_code o ∷ b)
unfolding pick both
pops-own o w d k b e = rw (eq-eqb d d refl, lt-ltb (level o) (suc k) (omega arith))

-- popping to one level and then to a looser one is popping to the looser one
pops-pops : (w : List Waiting) (d k : ℕ) (b : List ℕ) → pops w d (suc k) b ≡ pops (pops w d k b).waits d (suc k) (pops w d k b).bytes
unfolding pick both
pops-pops [] d k b = refl
pops-pops (w ∷ ws) d k b = go (eqb w.depth d) (ltb (level w.sign) k) refl refl (pops-pops ws d k (binary_code w.sign ∷ b))
  where
    go : (x y : Bool) → eqb w.depth d ≡ x → ltb (level w.sign) k ≡ y
        → pops ws d (suc k) (binary_code w.sign ∷ b) ≡ pops (pops ws d k (binary_code w.sign ∷ b)).waits d (suc k) (pops ws d k (binary_code w.sign ∷ b)).bytes
        → pops (w ∷ ws) d (suc k) b
        ≡ (let p = pick (both x y) (pops ws d k (binary_code w.sign ∷ b)) (popped (w ∷ ws) b) in pops p.waits d (suc k) p.bytes)
    go true true e h ih = let l = ltb-true (level w.sign) k h in rw (e, lt-ltb (level w.sign) (suc k) (omega arith)) ih
    go true false e h ih = refl
    go false y e h ih = refl

-- after the text of f, what was there before waits, once tighter signs are popped, and the bytes of f stand in front
record Put (k d : ℕ) (w : List Waiting) (b : List ℕ) (f : Formula) (a : List ℕ) : Type 0 where
  waits : List Waiting
  bytes : List ℕ
  gathered-is : gathered a ≡ clean waits d bytes
  pops-is : pops waits d k bytes ≡ popped w (encode f ++ b)

gap-gathered : {a b : List ℕ} → Gap a b → gathered a ≡ gathered b
gap-gathered (none e) = ap gathered e
gap-gathered (more {a = a} h g) = ap (λ (x : Sign). gathers x (gathered a)) h ∙ gap-gathered g

spelling-gathered : (v : Bool) (b : List ℕ) → gathered (spelling v ++ b) ≡ gathered b
unfolding sign_of digit_of pick both
spelling-gathered true b = refl
spelling-gathered false b = refl

-- the number n in digits: it is added to what was gathered of digits behind it
record Figured (n : ℕ) (a b : List ℕ) : Type 0 where
  scale : ℕ
  is : gathered a ≡ counted (gathered b) ((n * (gathered b).scale + (gathered b).number) % 256) scale

times_mod : (n a y : ℕ) → (n * (a % 256) + y) % 256 ≡ (n * a + y) % 256
times_mod zero a y = ap (λ (x : ℕ). (x + y) % 256) (zero-mul (a % 256) ∙ sym (zero-mul a))
times_mod (suc n) a y =
    ap (λ (x : ℕ). x % 256) (once (a % 256)) ∙ mod-add-mod a 256 (n * (a % 256) + y) ∙ add-mod a (n * (a % 256) + y) 256
    ∙ ap (λ (x : ℕ). (a % 256 + x) % 256) (times_mod n a y) ∙ sym (add-mod a (n * a + y) 256) ∙ ap (λ (x : ℕ). x % 256) (sym (once a))
  where
    once : (z : ℕ) → suc n * z + y ≡ z + (n * z + y)
    once z = ap (λ (x : ℕ). x + y) (suc-mul n z) ∙ omega arith

-- one digit more in front of the others: the remainder of the whole is that of the remainders
digit-more : (n m s k : ℕ) → (n * (10 * s % 256) + (m * s + k) % 256) % 256 ≡ ((10 * n + m) * s + k) % 256
digit-more n m s k =
    add-mod-mod (n * (10 * s % 256)) (m * s + k) 256 ∙ times_mod n (10 * s) (m * s + k)
    ∙ ap (λ (x : ℕ). x % 256) (ap (λ (x : ℕ). x + (m * s + k)) (mul_left_comm n 10 s ∙ sym (mul_assoc 10 n s)) ∙ sym (add_assoc (10 * n * s) (m * s) k) ∙ ap (λ (x : ℕ). x + k) (sym (add-mul (10 * n) m s)))

figures-gathered : {n : ℕ} {a b : List ℕ} → Figures n a b → Figured n a b
figures-gathered (first {b = b} h) = record { scale = 10 * (gathered b).scale % 256; is = ap (λ (x : Sign). gathers x (gathered b)) h }
figures-gathered (further {c = c} {n = n} {m = m} {b = b} f p h) =
    let y = figures-gathered f in
    let e : gathered (c ∷ b) ≡ gathers (Digit m) (gathered b) = ap (λ (x : Sign). gathers x (gathered b)) h in
    record {
      scale = y.scale;
      is = y.is ∙ ap (λ (x : Gathered). counted x ((n * x.scale + x.number) % 256) y.scale) e
          ∙ ap (λ (x : ℕ). counted (gathered b) x y.scale) (digit-more n m (gathered b).scale (gathered b).number);
    }

named-gathered : {f : Formula} {a b : List ℕ} (w : List Waiting) (d : ℕ) (x : List ℕ) → Named f a b → gathered b ≡ clean w d x → gathered a ≡ clean w d (encode f ++ x)
named-gathered w d x (truth {v = v} {a = a} {b = b} h e) q =
    ap (λ (s : Sign). gathers s (gathered a)) h ∙ ap (λ (z : List ℕ). front (leaf_code (Const v)) (gathered z)) e ∙ ap (front (leaf_code (Const v))) (spelling-gathered v b ∙ q)
named-gathered w d x (proposition {n = n} {a = a} {b = b} h f l) q =
    let y = figures-gathered f in
    let z : gathered a ≡ counted (clean w d x) ((n * 1 + 0) % 256) y.scale = y.is ∙ ap (λ (g : Gathered). counted g ((n * g.scale + g.number) % 256) y.scale) q in
    let e : (n * 1 + 0) % 256 % propositions_most ≡ n = omega arith in
    ap (λ (s : Sign). gathers s (gathered a)) h ∙ ap (gathers Letter) z ∙ ap (λ (m : ℕ). clean w d (leaf_code (Prop m) ∷ x)) e

pops-more : {v : List Waiting} {x : List ℕ} (w : List Waiting) (d k : ℕ) (b : List ℕ) → pops w d k b ≡ popped v x → pops w d (suc k) b ≡ pops v d (suc k) x
pops-more w d k b e = pops-pops w d k b ∙ ap (λ (p : Popped). pops p.waits d (suc k) p.bytes) e

-- where only level 0 is popped, nothing is
put-prefix : {d : ℕ} {w : List Waiting} {b : List ℕ} {f : Formula} {a : List ℕ} → Put 0 d w b f a → gathered a ≡ clean w d (encode f ++ b)
put-prefix {d = d} y =
    y.gathered-is ∙ ap (λ (p : Popped). clean p.waits d p.bytes) (sym (held-pops y.bytes (held-zero y.waits)) ∙ y.pops-is)

-- the text of f puts f in front
spells-put : {k : ℕ} {f : Formula} {a b : List ℕ} → Spells k f a b → (w : List Waiting) (d : ℕ) (x : List ℕ)
    → Below d w → Held d k w → gathered b ≡ clean w d x → Put k d w x f a
spells-put {f = f} (word n g) w d x u h e =
    record { waits = w; bytes = encode f ++ x; gathered-is = named-gathered w d x n (gap-gathered g ∙ e); pops-is = held-pops (encode f ++ x) h }
spells-put {f = one o f} (prefixed {a = a} s g r) w d x u h e =
    let y = put-prefix (spells-put r w d x u h e) in
    record {
      waits = w;
      bytes = unary_code o ∷ (encode f ++ x);
      gathered-is = ap (λ (z : Sign). gathers z (gathered a)) s ∙ ap (front (unary_code o)) (gap-gathered g ∙ y);
      pops-is = held-pops (unary_code o ∷ (encode f ++ x)) h;
    }
spells-put {f = f} (bracketed {e = z} {a = a} {d = b} s g r k i) w d x u h e =
    let before = ap (λ (q : Sign). gathers q (gathered b)) k ∙ ap (gathers Close) (gap-gathered i ∙ e) in
    let y = spells-put r w (suc d) x (below-above u) (below-held loosest u) before in
    record {
      waits = w;
      bytes = encode f ++ x;
      gathered-is = ap (λ (q : Sign). gathers q (gathered a)) s ∙ ap (gathers Open) (gap-gathered g ∙ y.gathered-is) ∙ ap (opened (suc d) 0 1) y.pops-is
          ∙ ap (λ (q : ℕ). clean w q (encode f ++ x)) (omega arith);
      pops-is = held-pops (encode f ++ x) h;
    }
spells-put (alone {k = k} r) w d x u h e =
    let y = spells-put r w d x u (held-less h) e in
    record { waits = y.waits; bytes = y.bytes; gathered-is = y.gathered-is; pops-is = pops-more y.waits d k y.bytes y.pops-is ∙ held-pops _ h }
spells-put {f = two o f j} (joined {k = k} {b = b} r s l g i) w d x u h e =
    let y = spells-put i w d x u h e in
    let n : Waiting = record { depth = d; sign = o } in
    let at = ap (λ (q : Sign). gathers q (gathered b)) s ∙ ap (gathers (Infix o)) (gap-gathered g ∙ y.gathered-is)
    ∙ ap (λ (q : ℕ). waiting o d 0 1 (pops y.waits d (suc q) y.bytes)) l ∙ ap (waiting o d 0 1) y.pops-is in
    let z = spells-put r (n ∷ w) d (encode j ++ x) (under {w = n} (omega arith)) (loose {w = n} (omega arith)) at in
    record {
      waits = z.waits;
      bytes = z.bytes;
      gathered-is = z.gathered-is;
      pops-is = pops-more z.waits d k z.bytes z.pops-is ∙ pops-own o w d k (encode f ++ (encode j ++ x)) l
          ∙ held-pops _ h ∙ ap (λ (q : List ℕ). popped w (binary_code o ∷ q)) (sym (append_assoc (encode f) (encode j) x));
    }

-- at the end of a text nothing waits, and the bytes are the formula's
pub text-popped : {t : List ℕ} {f : Formula} → Text t f → pops (gathered t).waits 0 loosest (gathered t).bytes ≡ record { waits = []; bytes = encode f }
text-popped {f = f} x =
    let y = spells-put x.spells [] 0 [] empty empty refl in
    ap (λ (z : Gathered). pops z.waits 0 loosest z.bytes) (gap-gathered x.gap ∙ y.gathered-is) ∙ y.pops-is ∙ ap (popped []) (append-nil (encode f))

-- what a text is built into is the formula that it is read as
pub text-built : {t : List ℕ} {f : Formula} → Text t f → built t ≡ encode f
text-built x = ap (λ (p : Popped). p.bytes) (text-popped x)
