-- A text that the machine accepts is in the grammar. An operand can be split off its front (`operand`, `onward`), and how tightly the signs
-- bind comes in by one law: an operand and an infix sign in front of a text make a text again (`prepend`). Others use `accepts-text`,
-- `raised`. Assumes nothing.
use mathlib.Core.Path.{◌≡◌, refl, sym, ap, ap₂, ◌∙◌, subst}
use mathlib.Core.Bool.{Bool, true, false, true≢false}
use mathlib.Core.List.{List, [], ◌∷◌, ◌++◌}
use mathlib.Core.Logic.{⊎_elim}
use Prim.Native.Nat.{ℕ, zero, suc, ◌+◌, ◌*◌, ◌<◌}
use native.Mathlib.Nat.{eq-or-lt_of_le, le_of_suc-le-suc}
use native.Mathlib.Omega.{arith}
use lib.ListN.{length, length-append}
use lib.Dec.{ltb, eqb}
use borrow.Author.Tests.{ltb-true, eqb-true}
use Rattle.lists.specs.Tests.{pick, both}
use Rattle.limits.specs.Limits.{propositions_most}
use Rattle.kinds.specs.declared.Leaf.TheVariants.{Prop}
use Rattle.kinds.specs.declared.Binary.{Binary}
use Rattle.ltl.specs.Formula.{Formula, leaf, one, two, constant}
use Rattle.text.specs.declared.Sign.{Sign}
use Rattle.text.specs.declared.Sign.TheVariants.{Blank, Prefix, Infix, Open, Close, Word, Letter, Digit, Other}
use Rattle.text.specs.Signs.{sign_of, spelling, level, loosest}
use Rattle.text.specs.Grammar.{Gap, none, more, Figures, first, further, truth, proposition, Spells, word, prefixed, bracketed, alone, joined, Text}
use Rattle.text.specs.Machine.{Mode, want, got, number, figure, dead, spelt, closing, wanted, follows, numbered, figured, run, is_zero, final, accepts}
use Rattle.text.proofs.Signs.{digit-few, level-low}

abbrev Final : List ℕ → Mode → Type 0
Final t s = final (run t s) ≡ true

never : {A : Type 0} → false ≡ true → A
never e = absurd (true≢false (sym e))

run-dead : (t : List ℕ) → final (run t dead) ≡ false
run-dead [] = refl
run-dead (c ∷ t) = run-dead t

dead_not : {A : Type 0} (t : List ℕ) → Final t dead → A
dead_not t h = never (sym (run-dead t) ∙ h)

gap-gap : {a b d : List ℕ} → Gap a b → Gap b d → Gap a d
gap-gap {d = d} (none e) g = subst (λ (x : List ℕ). Gap x d) (sym e) g
gap-gap (more h i) g = more h (gap-gap i g)

-- blanks that follow belong to the text before them
spells-gap : {k : ℕ} {f : Formula} {a b d : List ℕ} → Spells k f a b → Gap b d → Spells k f a d
spells-gap (word w i) g = word w (gap-gap i g)
spells-gap (prefixed h i r) g = prefixed h i (spells-gap r g)
spells-gap (bracketed h i r e j) g = bracketed h i r e (gap-gap j g)
spells-gap (alone r) g = alone (spells-gap r g)
spells-gap (joined r h l i s) g = joined r h l i (spells-gap s g)

-- a text of some formula
record Some (k : ℕ) (a b : List ℕ) : Type 0 where
  formula : Formula
  spells : Spells k formula a b

-- an operand is a text of every level
pub raised : {f : Formula} {a b : List ℕ} → Spells 0 f a b → (k : ℕ) → Spells k f a b
raised r zero = r
raised r (suc k) = alone (raised r k)

-- an operand and an infix sign in front of a text of level k make one of level k: either the sign is of this level, or it goes down the text's
-- left edge
module _ {f : Formula} {a b : List ℕ} {c : ℕ} {o : Binary} (r : Spells 0 f a (c ∷ b)) (h : sign_of c ≡ Infix o) where
  prepend : {k : ℕ} {x : Formula} {d e : List ℕ} → Gap b d → Spells k x d e → level o < k → Some k a e
  prepend g (word w i) l = absurd (omega arith)
  prepend g (prefixed p i s) l = absurd (omega arith)
  prepend g (bracketed p i s q j) l = absurd (omega arith)
  prepend {x = x} g (alone {k = k} s) l =
      ⊎_elim (λ e. record { formula = two o f x; spells = joined (raised r k) h e g (alone s) })
      (λ m. let y = prepend g s m in record { formula = y.formula; spells = alone y.spells }) (eq-or-lt_of_le (le_of_suc-le-suc l))
  prepend g (joined {k = k} {o = p} {f = x} {g = z} s q u i v) l =
      ⊎_elim (λ e. record { formula = two o f (two p x z); spells = joined (raised r k) h e g (joined s q u i v) })
      (λ m. let y = prepend g s m in record { formula = two p y.formula z; spells = joined y.spells q u i v }) (eq-or-lt_of_le (le_of_suc-le-suc l))

-- an operand can be read from t on, and what follows it is accepted at depth d
record Operand (d : ℕ) (t : List ℕ) : Type 0 where
  start : List ℕ
  gap : Gap t start
  formula : Formula
  left : List ℕ
  spells : Spells 0 formula start left
  goes : Final left (got d)
  less : length left < length t

-- what stands behind a whole text at depth d: nothing, or the closing bracket
abbrev Closes : ℕ → List ℕ → Type 0
Closes zero b = b ≡ []
Closes (suc d) b = (c : ℕ) × (e : List ℕ) × (b ≡ c ∷ e) × (sign_of c ≡ Close) × Final e (got d)

record Chain (d : ℕ) (t : List ℕ) : Type 0 where
  start : List ℕ
  gap : Gap t start
  formula : Formula
  left : List ℕ
  spells : Spells loosest formula start left
  closes : Closes d left
  less : length left < length t

-- the letters of a constant
spelt-text : (w a : List ℕ) (d : ℕ) → Final a (spelt w d) → (b : List ℕ) × (a ≡ w ++ b) × Final b (got d)
unfolding pick
spelt-text [] a d h = (a, refl, h)
spelt-text (x ∷ w) [] d h = never h
spelt-text (x ∷ w) (c ∷ a) d h = go (eqb c x) refl (λ k. spelt-text w a d k) h
  where
    go : (z : Bool) → eqb c x ≡ z → (Final a (spelt w d) → (b : List ℕ) × (a ≡ w ++ b) × Final b (got d)) → Final a (pick z (spelt w d) dead)
        → (b : List ℕ) × (c ∷ a ≡ x ∷ (w ++ b)) × Final b (got d)
    go true e ih k = let (b, p, q) = ih k in (b, ap₂ ◌∷◌ (eqb-true c x e) p, q)
    go false e ih k = dead_not a k

-- after a proposition's letter: a number
record Number (d : ℕ) (a : List ℕ) : Type 0 where
  value : ℕ
  left : List ℕ
  figures : Figures value a left
  few : value < propositions_most
  goes : Final left (got d)
  less : length left < length a

-- the number n was read up to b: a further digit follows, or the text goes on as behind any operand
after-digits : (n d : ℕ) (a b : List ℕ) → Figures n a b → n < propositions_most → length b < length a → Final b (figure n d) → Number d a
unfolding pick both
after-digits n d a [] f l less h = record { value = n; left = []; figures = f; few = l; goes = h; less = less }
after-digits n d a (g ∷ b) f l less h = go (sign_of g) refl (λ m x y z. after-digits (10 * n + m) d a b x y (omega arith) z) h
  where
    last : Final (g ∷ b) (got d) → Number d a
    last q = record { value = n; left = g ∷ b; figures = f; few = l; goes = q; less = less }

    next : (m : ℕ) → (Figures (10 * n + m) a b → 10 * n + m < propositions_most → Final b (figure (10 * n + m) d) → Number d a)
        → sign_of g ≡ Digit m → (x y : Bool) → ltb 0 n ≡ x → ltb (10 * n + m) propositions_most ≡ y
        → Final b (pick (both x y) (figure (10 * n + m) d) dead) → Number d a
    next m rec k true true x y q = rec (further f (ltb-true 0 n x) k) (ltb-true (10 * n + m) propositions_most y) q
    next m rec k true false x y q = dead_not b q
    next m rec k false y x z q = dead_not b q

    go : (s : Sign) → sign_of g ≡ s → ((m : ℕ) → Figures (10 * n + m) a b → 10 * n + m < propositions_most → Final b (figure (10 * n + m) d) → Number d a)
        → Final b (figured s n d) → Number d a
    go Blank k rec q = last (rw k q)
    go (Prefix o) k rec q = dead_not b q
    go (Infix o) k rec q = last (rw k q)
    go Open k rec q = dead_not b q
    go Close k rec q = last (rw k q)
    go (Word v) k rec q = dead_not b q
    go Letter k rec q = dead_not b q
    go (Digit m) k rec q = next m (rec m) k (ltb 0 n) (ltb (10 * n + m) propositions_most) refl refl q
    go Other k rec q = dead_not b q

number-text : (d : ℕ) (a : List ℕ) → Final a (number d) → Number d a
number-text d [] h = never h
number-text d (e ∷ b) h = go (sign_of e) refl h
  where
    go : (s : Sign) → sign_of e ≡ s → Final b (numbered s d) → Number d (e ∷ b)
    go Blank l q = dead_not b q
    go (Prefix o) l q = dead_not b q
    go (Infix o) l q = dead_not b q
    go Open l q = dead_not b q
    go Close l q = dead_not b q
    go (Word v) l q = dead_not b q
    go Letter l q = dead_not b q
    go (Digit n) l q = let f = digit-few e n l in after-digits n d (e ∷ b) b (first l) (omega arith) (omega arith) q
    go Other l q = dead_not b q

-- an operand, given the whole texts of shorter lists
operand : (t : List ℕ) → ((a : List ℕ) → length a < length t → (d : ℕ) → Final a (want d) → Chain d a) → (d : ℕ) → Final t (want d) → Operand d t
operand [] ih d h = never h
operand (c ∷ a) ih d h = go (sign_of c) refl (λ e q. operand a (λ b l. ih b (omega arith)) e q) h
  where
    go : (s : Sign) → sign_of c ≡ s → ((e : ℕ) → Final a (want e) → Operand e a) → Final a (wanted s d) → Operand d (c ∷ a)
    go Blank l rec q =
        let y = rec d q in
        let z = y.less in
        record { start = y.start; gap = more l y.gap; formula = y.formula; left = y.left; spells = y.spells; goes = y.goes; less = omega arith }
    go (Prefix o) l rec q =
        let y = rec d q in
        let z = y.less in
        record { start = c ∷ a; gap = none refl; formula = one o y.formula; left = y.left; spells = prefixed l y.gap y.spells; goes = y.goes; less = omega arith }
    go (Infix o) l rec q = dead_not a q
    go Open l rec q =
        let y = ih a (omega arith) (suc d) q in
        let z = y.less in
        let (e, b, p, k, r) = y.closes in
        let m = ap length p in
        record {
          start = c ∷ a;
          gap = none refl;
          formula = y.formula;
          left = b;
          spells = bracketed l y.gap (subst (λ (x : List ℕ). Spells loosest y.formula y.start x) p y.spells) k (none refl);
          goes = r;
          less = omega arith;
        }
    go Close l rec q = dead_not a q
    go (Word v) l rec q =
        let (b, p, r) = spelt-text (spelling v) a d q in
        let m = ap length p ∙ length-append (spelling v) b in
        record { start = c ∷ a; gap = none refl; formula = constant v; left = b; spells = word (truth l p) (none refl); goes = r; less = omega arith }
    go Letter l rec q =
        let y = number-text d a q in
        let z = y.less in
        record { start = c ∷ a; gap = none refl; formula = leaf (Prop y.value); left = y.left; spells = word (proposition l y.figures y.few) (none refl); goes = y.goes; less = omega arith }
    go (Digit n) l rec q = dead_not a q
    go Other l rec q = dead_not a q

-- an operand that has ended, and how the text goes on: blanks, then the end, an infix sign with a whole text, or a closing bracket
module _ (t : List ℕ) (ih : (a : List ℕ) → length a < length t → (d : ℕ) → Final a (want d) → Chain d a) (start : List ℕ) (gap : Gap t start) (f : Formula) (d : ℕ) where
  onward : (b : List ℕ) → Spells 0 f start b → length b < length t → Final b (got d) → Chain d t
  onward [] r less h = go d h
    where
      go : (e : ℕ) → is_zero e ≡ true → Chain e t
      go zero q = record { start = start; gap = gap; formula = f; left = []; spells = raised r loosest; closes = refl; less = less }
      go (suc e) q = never q
  onward (c ∷ b) r less h = go (sign_of c) refl (λ x q. onward b x (omega arith) q) h
    where
      shut : (e : ℕ) → sign_of c ≡ Close → Final b (closing e) → Chain e t
      shut zero l q = dead_not b q
      shut (suc e) l q = record { start = start; gap = gap; formula = f; left = c ∷ b; spells = raised r loosest; closes = (c, b, refl, l, q); less = less }

      go : (s : Sign) → sign_of c ≡ s → (Spells 0 f start b → Final b (got d) → Chain d t) → Final b (follows s d) → Chain d t
      go Blank l rec q = rec (spells-gap r (more l (none refl))) q
      go (Prefix o) l rec q = dead_not b q
      go (Infix o) l rec q =
          let y = ih b (omega arith) d q in
          let z = y.less in
          let x = prepend r l y.gap y.spells (level-low o) in
          record { start = start; gap = gap; formula = x.formula; left = y.left; spells = x.spells; closes = y.closes; less = omega arith }
      go Open l rec q = dead_not b q
      go Close l rec q = shut d l q
      go (Word v) l rec q = dead_not b q
      go Letter l rec q = dead_not b q
      go (Digit n) l rec q = dead_not b q
      go Other l rec q = dead_not b q

chain : (n : ℕ) (t : List ℕ) → length t < n → (d : ℕ) → Final t (want d) → Chain d t
chain zero t l d h = absurd (omega arith)
chain (suc n) t l d h =
    let ih : (a : List ℕ) → length a < length t → (e : ℕ) → Final a (want e) → Chain e a = λ a m e q. chain n a (omega arith) e q in
    let y = operand t ih d h in
    onward t ih y.start y.gap y.formula d y.left y.spells y.less y.goes

-- what the machine accepts is a text of some formula
pub accepts-text : (t : List ℕ) → accepts t ≡ true → (f : Formula) × Text t f
accepts-text t h =
    let y = chain (suc (length t)) t (omega arith) 0 h in
    (y.formula, record { start = y.start; gap = y.gap; spells = subst (λ (x : List ℕ). Spells loosest y.formula y.start x) y.closes y.spells })
