-- The pass over the bytes finds exactly a formula of the language: `scan-is`. A formula in front takes one operand off what is owed, by the
-- law of `ltl` (`scan-front`), and where the pass succeeds a formula stands in front (`scan-leading`). The loop is by `Owing` and its
-- laws. Assumes nothing.
use mathlib.Core.Path.{◌≡◌, refl, sym, ap, ◌∙◌, subst}
use mathlib.Core.Bool.{Bool, true, false}
use mathlib.Core.List.{List, [], ◌∷◌, ◌++◌, append_assoc, append-nil}
use mathlib.Core.Option.{Option, none, some}
use Prim.Native.Nat.{ℕ, zero, suc, ◌+◌, ◌-◌, ◌<◌, ◌≤◌}
use native.Mathlib.Numerals.{add-one}
use native.Mathlib.Omega.{arith}
use lib.ListN.{length, get_or, drop, length-append, drop_of_length-le}
use lib.Seq.{drop-cons}
use lib.Dec.{eqb}
use borrow.Author.Tests.{eqb-true}
use Rattle.lists.specs.Tests.{pick}
use Rattle.lists.proofs.Tests.{no_true, no-some}
use Rattle.kinds.specs.declared.Kind.{Kind}
use Rattle.kinds.specs.Kinds.{kind_of, operands}
use Rattle.kinds.proofs.Codes.{CodeOf, is_zero, is_one, is_two, is_none, code, operands-few}
use Rattle.ltl.specs.Formula.{Formula, leaf, one, two, encode, Coded, node_over, over}
use Rattle.ltl.specs.Decode.{decoded, over_alone, is_formula}
use Rattle.ltl.proofs.Decoding.{decoded-of, decoded-is}
use Rattle.ltl.proofs.Owing.{Owes, owed-front, tested, acts-tested}
use Rattle.owing.specs.Scan.{scan}

scan-empty : (p z n : ℕ) → scan p z [] n ≡ true → n ≡ 0
unfolding scan
scan-empty p z n h = eqb-true n 0 h

scan-nothing : (p z : ℕ) (r : List ℕ) → scan p z r 0 ≡ true → r ≡ []
unfolding scan
scan-nothing p z [] h = refl
scan-nothing p z (b ∷ r) h = absurd (no_true h)

-- ---- a formula in front
pub scan-owes : (p z : ℕ) → Owes (tested p z false) (scan p z)
unfolding scan
scan-owes p z = record { turn = λ b n l. refl }

scan-front : (p z : ℕ) (f : Formula) (n : ℕ) (l : List ℕ) → Coded f → scan p z (encode f ++ l) (suc n) ≡ pick (over p z f) (scan p z l n) false
scan-front p z f n l c = owed-front (scan-owes p z) f n l c ∙ acts-tested p z false f (scan p z l n)

-- a formula alone
scan-alone : (p z : ℕ) (f : Formula) → Coded f → scan p z (encode f) 1 ≡ over p z f
unfolding scan pick
scan-alone p z f c = ap (λ (k : List ℕ). scan p z k 1) (sym (append-nil (encode f))) ∙ scan-front p z f 0 [] c ∙ go (over p z f)
  where
    go : (b : Bool) → pick b true false ≡ b
    go true = refl
    go false = refl

-- ---- and only then
pub record Leading (p z n : ℕ) (l : List ℕ) : Type 0 where
  pub formula : Formula
  pub behind : List ℕ
  pub coded : Coded formula
  pub bytes : l ≡ encode formula ++ behind
  pub goes : scan p z behind n ≡ true

-- a test that was passed
passed : (a b : Bool) → pick a b false ≡ true → b ≡ true
unfolding pick
passed true b h = h
passed false b h = absurd (no_true h)

blocked : (b : Bool) → pick false b false ≡ true → ⊥
unfolding pick
blocked b h = no_true h

leading-node : (p z n m b : ℕ) (l : List ℕ) {k : Kind} → CodeOf b k → length l ≤ m
    → ((n : ℕ) (l : List ℕ) → length l ≤ m → scan p z l (suc n) ≡ true → Leading p z n l)
    → pick (node_over p z k) (scan p z l (n + operands k)) false ≡ true → Leading p z n (b ∷ l)
leading-node p z n m b l (is_zero {a = a} e c) q ih h =
    let r : n + 0 ≡ n = omega arith in
    record { formula = leaf a; behind = l; coded = c; bytes = ap (◌∷ l) e; goes = ap (scan p z l) (sym r) ∙ passed _ _ h }
leading-node p z n m b l (is_one {o = o} e) q ih h =
    let x = ih n l q (ap (scan p z l) (sym (add-one n)) ∙ passed _ _ h) in
    record { formula = one o x.formula; behind = x.behind; coded = x.coded; bytes = rw (e, ← x.bytes); goes = x.goes }
leading-node p z n m b l (is_two {o = o} e) q ih h =
    let r : n + 2 ≡ suc (suc n) = omega arith in
    let x = ih (suc n) l q (ap (scan p z l) (sym r) ∙ passed _ _ h) in
    let y = ih n x.behind (behind-short x) x.goes in
    record {
      formula = two o x.formula y.formula;
      behind = y.behind;
      coded = (x.coded, y.coded);
      bytes = rw (e, append_assoc, ← y.bytes, ← x.bytes);
      goes = y.goes;
    }
  where
    behind-short : (x : Leading p z (suc n) l) → length x.behind ≤ m
    behind-short x = let a = ap length x.bytes in let d = length-append (encode x.formula) x.behind in omega arith
leading-node p z n m b l is_none q ih h = absurd (blocked _ h)

scan-leading : (m p z n : ℕ) (l : List ℕ) → length l ≤ m → scan p z l (suc n) ≡ true → Leading p z n l
scan-leading zero p z n [] q h = let e = scan-empty p z (suc n) h in absurd (omega arith)
scan-leading zero p z n (b ∷ l) q h = absurd (omega arith)
scan-leading (suc m) p z n [] q h = let e = scan-empty p z (suc n) h in absurd (omega arith)
scan-leading (suc m) p z n (b ∷ l) q h =
    leading-node p z n m b l (code b) (omega arith) (λ n l. scan-leading m p z n l) (sym ((scan-owes p z).turn b n l) ∙ h)

-- ---- the pass is the test for a formula
scan-decoded : (p z : ℕ) (l : List ℕ) → decoded l ≡ none → scan p z l 1 ≡ true → ⊥
scan-decoded p z l q h =
    let x = scan-leading (length l) p z 0 l (omega arith) h in
    let e : l ≡ encode x.formula = x.bytes ∙ ap (encode x.formula ++◌) (scan-nothing p z x.behind x.goes) ∙ append-nil (encode x.formula) in
    no-some x.formula (sym q ∙ ap decoded e ∙ decoded-of x.formula x.coded)

pub scan-is : (p z : ℕ) (l : List ℕ) → scan p z l 1 ≡ is_formula p z l
unfolding is_formula
scan-is p z l = go (decoded l) refl
  where
    none-fails : (x : Bool) → scan p z l 1 ≡ x → decoded l ≡ none → x ≡ false
    none-fails true e q = absurd (scan-decoded p z l q e)
    none-fails false e q = refl

    go : (x : Option Formula) → decoded l ≡ x → scan p z l 1 ≡ over_alone p z x
    go none q = none-fails (scan p z l 1) refl q
    go (some f) q = let t = decoded-is l f q in ap (λ (k : List ℕ). scan p z k 1) t.1 ∙ scan-alone p z f t.0

-- ---- one turn of the loop, over plain lists
module _ (p z : ℕ) (s : List ℕ) (i owed : ℕ) where
  turn-over : i < length s → owed ≡ 0 → scan p z (drop i s) owed ≡ false
  unfolding scan
  turn-over h e = rw (drop-cons s i 0 h, e)

  pub turn : i < length s → (owed ≡ 0 → ⊥)
      → scan p z (drop i s) owed ≡ pick (node_over p z (kind_of (get_or s i 0))) (scan p z (drop (i + 1) s) (owed - 1 + operands (kind_of (get_or s i 0)))) false
  turn h k =
      let e : owed ≡ suc (owed - 1) = omega arith in
      rw (drop-cons s i 0 h, add-one) (ap (scan p z (get_or s i 0 ∷ drop (suc i) s)) e ∙ (scan-owes p z).turn (get_or s i 0) (owed - 1) (drop (suc i) s))

  pub turn_end : length s ≤ i → scan p z (drop i s) owed ≡ eqb owed 0
  unfolding scan
  turn_end h = rw (drop_of_length-le s h)

-- ---- the loop: the pass from i on, with what is owed there, answers as the whole does
pub record Owing (p z : ℕ) (s : List ℕ) (i owed : ℕ) : Type 0 where
  pub inside : i ≤ length s
  pub few : owed ≤ i + 1
  pub same : is_formula p z s ≡ scan p z (drop i s) owed

pub owing-begins : {p z : ℕ} {s : List ℕ} → Owing p z s 0 1
owing-begins {p} {z} {s} = record { inside = omega arith; few = omega arith; same = sym (scan-is p z s) }

module _ {p z : ℕ} {s : List ℕ} {i owed : ℕ} (o : Owing p z s i owed) where
  pub owing-over : i < length s → owed ≡ 0 → false ≡ is_formula p z s
  owing-over h e = sym (o.same ∙ turn-over p z s i owed h e)

  pub owing-ends : length s ≤ i → eqb owed 0 ≡ is_formula p z s
  owing-ends h = sym (o.same ∙ turn_end p z s i owed h)

  -- the node at i, and whether it may stand
  module _ (h : i < length s) (some : owed ≡ 0 → ⊥) {k : Kind} (kind : k ≡ kind_of (get_or s i 0)) where
    turn-as : is_formula p z s ≡ pick (node_over p z k) (scan p z (drop (i + 1) s) (owed - 1 + operands k)) false
    turn-as =
        o.same
        ∙ subst (λ (j : Kind). scan p z (drop i s) owed ≡ pick (node_over p z j) (scan p z (drop (i + 1) s) (owed - 1 + operands j)) false) (sym kind)
        (turn p z s i owed h some)

    pub owing-more : node_over p z k ≡ true → Owing p z s (i + 1) (owed - 1 + operands k)
    unfolding pick
    owing-more e = let b = operands-few k in record { inside = omega arith; few = omega arith; same = turn-as ∙ rw e }

    pub owing-broken : node_over p z k ≡ false → false ≡ is_formula p z s
    unfolding pick
    owing-broken e = sym (turn-as ∙ rw e)
