-- Bytes and formulas. `decoded-is` and `decoded-of`: the bytes read as a formula exactly where they are its bytes; `rule-is` and
-- `rule-of`: the same of a rule's formula; `one_way`: no formula's bytes begin another's. `Coded f` says that every
-- number of a proposition or place holder has a code, and `unfolded-coded` that unfolding brings no others. Assumes nothing.
use mathlib.Core.Path.{◌≡◌, refl, sym, ap, ap₂, ◌∙◌, subst}
use mathlib.Core.Bool.{true}
use mathlib.Core.List.{List, [], ◌∷◌, ◌++◌, append_assoc, append-nil}
use mathlib.Core.Option.{Option, none, some}
use Prim.Native.Nat.{ℕ, zero, suc, ◌+◌, ◌<◌, ◌≤◌}
use native.Mathlib.Omega.{arith}
use lib.ListN.{length, get_or, length-append}
use borrow.Author.Tests.{ltb-true, lt-ltb}
use Rattle.limits.specs.Limits.{propositions_most, holder_codes}
use Rattle.kinds.specs.declared.Leaf.{Leaf}
use Rattle.kinds.specs.declared.Leaf.TheVariants.{Const, Prop, Hold}
use Rattle.kinds.specs.declared.Unary.{Unary}
use Rattle.kinds.specs.declared.Binary.{Binary}
use Rattle.kinds.specs.declared.Kind.{Kind}
use Rattle.kinds.specs.Kinds.{leaf_within, unary_code, binary_code}
use Rattle.kinds.proofs.Codes.{CodeOf, is_zero, is_one, is_two, is_none, code, kind-leaf, kind-unary, kind-binary}
use Rattle.ltl.specs.Formula.{Formula, leaf, one, two, size, encode, Within, leaf_over, over, Coded}
use Rattle.kinds.specs.declared.Unary.TheVariants.{Not, Next, Ever}
use Rattle.kinds.specs.declared.Binary.TheVariants.{Joined, Until}
use Rattle.ltl.specs.Progression.{unfolded}
use Rattle.ltl.specs.Decode.{Parsed, Reader, with_one, with_second, with_two, node, parse, before, alone, decoded, over_alone, is_formula, is_rule}
use Rattle.lists.proofs.Tests.{no_true, no-some, both-0, both-1, both_true}

-- ---- sizes
pub size-some : (f : Formula) → 0 < size f
size-some (leaf a) = omega arith
size-some (one o f) = omega arith
size-some (two o f g) = omega arith

pub length-encode : (f : Formula) → length (encode f) ≡ size f
length-encode (leaf a) = refl
length-encode (one o f) = let e = length-encode f in omega arith
length-encode (two o f g) = let d = length-encode f in let e = length-encode g in let a = length-append (encode f) (encode g) in omega arith

-- its first byte
abbrev pub first : Formula → ℕ
first f = get_or (encode f) 0 0

-- whatever stands behind it
pub first-is : (f : Formula) (l : List ℕ) → get_or (encode f ++ l) 0 0 ≡ first f
first-is (leaf a) l = refl
first-is (one o f) l = refl
first-is (two o f g) l = refl

-- ---- a formula's bytes are read as the formula, whatever stands behind them
pub parse-encode : (f : Formula) (n : ℕ) (l : List ℕ) → Coded f → size f ≤ n → parse n (encode f ++ l) ≡ some (record { formula = f; behind = l })
parse-encode f zero l w h = let s = size-some f in absurd (omega arith)
parse-encode (leaf a) (suc n) l w h = rw (kind-leaf a w)
parse-encode (one o f) (suc n) l w h = rw (kind-unary o, parse-encode f n l w (omega arith))
parse-encode (two o f g) (suc n) l w h =
    rw (kind-binary o, append_assoc (encode f) (encode g) l, parse-encode f n (encode g ++ l) w.0 (omega arith), parse-encode g n l w.1 (omega arith))

-- ---- and only its bytes are
abbrev Read : List ℕ → Option Parsed → Type 0
Read l none = Unit {0}
Read l (some x) = Coded x.formula × (l ≡ encode x.formula ++ x.behind)

read_one : (o : Unary) (l : List ℕ) (x : Option Parsed) → Read l x → Read (unary_code o ∷ l) (with_one o x)
read_one o l none h = tt
read_one o l (some x) h = (h.0, ap (unary_code o ∷◌) h.1)

read-second : (o : Binary) (f : Formula) (l m : List ℕ) (y : Option Parsed) → Coded f → l ≡ encode f ++ m → Read m y → Read (binary_code o ∷ l) (with_second o f y)
read-second o f l m none w e h = tt
read-second o f l m (some y) w e h =
    ((w, h.0), ap (binary_code o ∷◌) (e ∙ ap (encode f ++◌) h.1 ∙ sym (append_assoc (encode f) (encode y.formula) y.behind)))

read-two : (o : Binary) (p : Reader) → ((l : List ℕ) → Read l (p l)) → (l : List ℕ) (x : Option Parsed) → Read l x → Read (binary_code o ∷ l) (with_two o p x)
read-two o p ih l none h = tt
read-two o p ih l (some x) h = read-second o x.formula l x.behind (p x.behind) h.0 h.1 (ih x.behind)

read-node : {b : ℕ} {k : Kind} (p : Reader) → ((l : List ℕ) → Read l (p l)) → (l : List ℕ) → CodeOf b k → Read (b ∷ l) (node k p l)
read-node p ih l (is_zero {a = a} e h) = (h, ap (◌∷ l) e)
read-node p ih l (is_one {o = o} e) = rw e (read_one o l (p l) (ih l))
read-node p ih l (is_two {o = o} e) = rw e (read-two o p ih l (p l) (ih l))
read-node p ih l is_none = tt

parse-read : (n : ℕ) (l : List ℕ) → Read l (parse n l)
parse-read zero l = tt
parse-read (suc n) [] = tt
parse-read (suc n) (b ∷ l) = read-node (parse n) (λ m. parse-read n m) l (code b)

pub parse-is : (n : ℕ) (l : List ℕ) (x : Parsed) → parse n l ≡ some x → Coded x.formula × (l ≡ encode x.formula ++ x.behind)
parse-is n l x e = subst (λ (y : Option Parsed). Read l y) e (parse-read n l)

-- no formula's bytes begin another's
pub one_way : (f g : Formula) (k l : List ℕ) → Coded f → Coded g → encode f ++ k ≡ encode g ++ l → (f ≡ g) × (k ≡ l)
one_way f g k l v w e =
    let n = size f + size g in
    let a = parse-encode f n k v (omega arith) in
    let b = parse-encode g n l w (omega arith) in
    let c : ◌≡◌ {A = Option Parsed} (some (record { formula = f; behind = k })) (some (record { formula = g; behind = l })) = sym a ∙ ap (parse n) e ∙ b in
    (formulas c, rests c)
  where
    formulas : ◌≡◌ {A = Option Parsed} (some (record { formula = f; behind = k })) (some (record { formula = g; behind = l })) → f ≡ g
    formulas c = let d : ◌≡◌ {A = Parsed} (record { formula = f; behind = k }) (record { formula = g; behind = l }) = cc in ap (λ (x : Parsed). x.formula) d

    rests : ◌≡◌ {A = Option Parsed} (some (record { formula = f; behind = k })) (some (record { formula = g; behind = l })) → k ≡ l
    rests c = let d : ◌≡◌ {A = Parsed} (record { formula = f; behind = k }) (record { formula = g; behind = l }) = cc in ap (λ (x : Parsed). x.behind) d

-- ---- one whole formula
pub decoded-of : (f : Formula) → Coded f → decoded (encode f) ≡ some f
decoded-of f w =
    let e = ap₂ parse (length-encode f) (sym (append-nil (encode f))) ∙ parse-encode f (size f) [] w (omega arith) in
    ap alone e

empty-behind : (l : List ℕ) (f g : Formula) → before l f ≡ some g → (l ≡ []) × (f ≡ g)
empty-behind [] f g e = (refl, cc)
empty-behind (b ∷ l) f g e = absurd (no-some g e)

pub decoded-is : (l : List ℕ) (f : Formula) → decoded l ≡ some f → Coded f × (l ≡ encode f)
decoded-is l f e = go (parse (length l) l) refl e
  where
    go : (x : Option Parsed) → parse (length l) l ≡ x → alone x ≡ some f → Coded f × (l ≡ encode f)
    go none p q = absurd (let z : ◌≡◌ {A = ℕ} 0 1 = cc in omega arith)
    go (some x) p q =
        let r = parse-is (length l) l x p in
        let t = empty-behind x.behind x.formula f q in
        (subst (λ (g : Formula). Coded g) t.1 r.0, r.1 ∙ ap₂ (λ (g : Formula) (m : List ℕ). encode g ++ m) t.1 t.0 ∙ append-nil (encode f))

-- ---- a rule's formula: propositions below p, no place holder
leaf-over : (p s : ℕ) (a : Leaf) → leaf_over p s a ≡ true → leaf_within p s a
unfolding leaf_over
leaf-over p s (Const v) e = tt
leaf-over p s (Prop i) e = ltb-true i p e
leaf-over p s (Hold k) e = ltb-true k s e

pub over-within : (p s : ℕ) (f : Formula) → over p s f ≡ true → Within p s f
unfolding over
over-within p s (leaf a) e = leaf-over p s a e
over-within p s (one o f) e = over-within p s f e
over-within p s (two o f g) e = (over-within p s f (both-0 (over p s f) (over p s g) e), over-within p s g (both-1 (over p s f) (over p s g) e))

over-leaf : (p s : ℕ) (a : Leaf) → leaf_within p s a → leaf_over p s a ≡ true
unfolding leaf_over
over-leaf p s (Const v) w = refl
over-leaf p s (Prop i) w = lt-ltb i p w
over-leaf p s (Hold k) w = lt-ltb k s w

pub within-over : (p s : ℕ) (f : Formula) → Within p s f → over p s f ≡ true
unfolding over
within-over p s (leaf a) w = over-leaf p s a w
within-over p s (one o f) w = within-over p s f w
within-over p s (two o f g) w = both_true (over p s f) (over p s g) (within-over p s f w.0) (within-over p s g w.1)

leaf-wider : (p s q t : ℕ) → p ≤ q → s ≤ t → (a : Leaf) → leaf_within p s a → leaf_within q t a
leaf-wider p s q t h k (Const v) w = tt
leaf-wider p s q t h k (Prop i) w = omega arith
leaf-wider p s q t h k (Hold l) w = omega arith

pub wider : (p s q t : ℕ) → p ≤ q → s ≤ t → (f : Formula) → Within p s f → Within q t f
wider p s q t h k (leaf a) w = leaf-wider p s q t h k a w
wider p s q t h k (one o f) w = wider p s q t h k f w
wider p s q t h k (two o f g) w = (wider p s q t h k f w.0, wider p s q t h k g w.1)

-- the formula of a rule
pub record RuleText (p : ℕ) (l : List ℕ) : Type 0 where
  pub formula : Formula
  pub within : Within p 0 formula
  pub bytes : l ≡ encode formula

pub rule-is : (p : ℕ) (l : List ℕ) → is_rule p l ≡ true → RuleText p l
unfolding is_formula
rule-is p l e = go (decoded l) refl e
  where
    go : (x : Option Formula) → decoded l ≡ x → over_alone p 0 x ≡ true → RuleText p l
    go none q r = absurd (no_true r)
    go (some f) q r = record { formula = f; within = over-within p 0 f r; bytes = (decoded-is l f q).1 }

pub rule-of : (p : ℕ) (l : List ℕ) → p ≤ propositions_most → RuleText p l → is_rule p l ≡ true
unfolding is_formula
rule-of p l h t =
    let f = t.formula in
    let e : decoded l ≡ some f = ap decoded t.bytes ∙ decoded-of f (wider p 0 propositions_most holder_codes h (omega arith) f t.within) in
    rw e (within-over p 0 f t.within)

-- ---- unfolding brings no other numbers
pub unfolded-coded : (p s : ℕ) (f : Formula) → Within p s f → Within p s (unfolded f)
unfolded-coded p s (leaf a) w = w
unfolded-coded p s (one Not f) w = unfolded-coded p s f w
unfolded-coded p s (one Next f) w = w
unfolded-coded p s (one (Ever j) f) w = (unfolded-coded p s f w, w)
unfolded-coded p s (two (Joined j) f g) w = (unfolded-coded p s f w.0, unfolded-coded p s g w.1)
unfolded-coded p s (two Until f g) w = (unfolded-coded p s g w.1, (unfolded-coded p s f w.0, w))
