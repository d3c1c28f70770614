-- No text of a formula has fewer brackets than its print, and the print has no blanks. `needs` counts the pairs of brackets that a formula must
-- have at a place; every text has them (`spells-needs`), and the print has no others (`shown-tally`). Others use `fewest`, `printed-solid`.
-- Assumes nothing.
use mathlib.Core.Path.{◌≡◌, refl, sym, ap, ◌∙◌, subst}
use mathlib.Core.Bool.{Bool, true, false}
use mathlib.Core.List.{List, [], ◌∷◌, ◌++◌}
use Prim.Native.Nat.{ℕ, suc, ◌+◌, ◌/◌, ◌%◌, ◌≤◌, ◌<◌}
use native.Mathlib.Omega.{arith}
use lib.Dec.{ltb}
use borrow.Author.Tests.{ltb-true, lt-ltb}
use Rattle.lists.specs.Tests.{pick, both}
use Rattle.limits.specs.Limits.{propositions_most}
use Rattle.kinds.specs.declared.Leaf.{Leaf}
use Rattle.kinds.specs.declared.Leaf.TheVariants.{Const, Prop, Hold}
use Rattle.kinds.specs.declared.Unary.{Unary}
use Rattle.kinds.specs.declared.Binary.{Binary}
use Rattle.kinds.specs.Kinds.{leaf_within}
use Rattle.ltl.specs.Formula.{Formula, leaf, one, two, Within}
use Rattle.text.specs.declared.Sign.{Sign}
use Rattle.text.specs.declared.Sign.TheVariants.{Prefix, Infix, Open, Close, Word, Letter, Digit, Other}
use Rattle.text.specs.Signs.{sign_of, digit_of, spelling, level, loosest}
use Rattle.text.specs.Grammar.{Gap, none, more, Figures, first, further, Named, truth, proposition, Spells, word, prefixed, bracketed, alone, joined, Text}
use Rattle.text.specs.Printing.{binary_sign, open_sign, close_sign, leaf_text, digits, shown, printed, tally, open_one, brackets, blank_one, blanks}
use Rattle.text.proofs.Signs.{unary-sign, binary-sign, open-sign, close-sign, letter-sign, digit-sign}

-- what the brackets count that f needs at a place of level k, a pair counting c
abbrev needs : ℕ → Formula → ℕ → ℕ
needs c (leaf a) k = 0
needs c (one o f) k = needs c f 0
needs c (two o f g) k = pick (ltb (level o) k) 0 c + (needs c f (level o) + needs c g (suc (level o)))

-- ---- every text has the brackets that its formula needs
gap-brackets : {a b : List ℕ} → Gap a b → brackets b ≤ brackets a
gap-brackets (none e) = let q = ap brackets e in omega arith
gap-brackets (more h g) = let q = gap-brackets g in omega arith

figures-brackets : {n : ℕ} {a b : List ℕ} → Figures n a b → brackets b ≤ brackets a
figures-brackets (first h) = omega arith
figures-brackets (further f p h) = let q = figures-brackets f in omega arith

named-brackets : {f : Formula} {a b : List ℕ} → Named f a b → brackets b ≤ brackets a
named-brackets (truth {v = true} {b = b} h e) = let q = ap brackets e in omega arith
named-brackets (truth {v = false} {b = b} h e) = let q = ap brackets e in omega arith
named-brackets (proposition h f l) = let q = figures-brackets f in omega arith

named-needs : {f : Formula} {a b : List ℕ} → Named f a b → needs 1 f 0 ≡ 0
named-needs (truth h e) = refl
named-needs (proposition h f l) = refl

pick-few : (z : Bool) → pick z 0 1 ≤ 1
unfolding pick
pick-few true = omega arith
pick-few false = omega arith

-- a looser place needs no more brackets, and a pair of brackets makes every place the loosest
needs-looser : (f : Formula) (k : ℕ) → needs 1 f (suc k) ≤ needs 1 f k
unfolding pick
needs-looser (leaf a) k = omega arith
needs-looser (one o f) k = omega arith
needs-looser (two o f g) k = go (ltb (level o) k) refl
  where
    go : (z : Bool) → ltb (level o) k ≡ z
        → pick (ltb (level o) (suc k)) 0 1 + (needs 1 f (level o) + needs 1 g (suc (level o))) ≤ pick z 0 1 + (needs 1 f (level o) + needs 1 g (suc (level o)))
    go true e = let l = ltb-true (level o) k e in rw (lt-ltb (level o) (suc k) (omega arith)) (omega arith)
    go false e = let p = pick-few (ltb (level o) (suc k)) in omega arith

needs-bracket : (f : Formula) (k j : ℕ) → needs 1 f k ≤ suc (needs 1 f j)
needs-bracket (leaf a) k j = omega arith
needs-bracket (one o f) k j = omega arith
needs-bracket (two o f g) k j = let p = pick-few (ltb (level o) k) in omega arith

spells-needs : {k : ℕ} {f : Formula} {a b : List ℕ} → Spells k f a b → needs 1 f k + brackets b ≤ brackets a
unfolding pick
spells-needs (word w g) = let n = named-needs w in let p = named-brackets w in let q = gap-brackets g in omega arith
spells-needs (prefixed h g r) = let p = gap-brackets g in let q = spells-needs r in omega arith
spells-needs (bracketed {c = c} {f = f} {a = a} h g r e i) =
    let n = needs-bracket f 0 loosest in
    let p = gap-brackets g in
    let q = gap-brackets i in
    let y = spells-needs r in
    rw h (omega arith)
spells-needs (alone {k = k} {f = f} r) = let p = needs-looser f k in let q = spells-needs r in omega arith
spells-needs (joined {k = k} {c = c} {o = o} {f = f} {g = j} {a = a} {b = b} {d = d} {e = e} r h l g i) =
    let q = gap-brackets g in
    let y : needs 1 j (suc (level o)) + brackets e ≤ brackets d = subst (λ (n : ℕ). needs 1 j (suc n) + brackets e ≤ brackets d) (sym l) (spells-needs i) in
    let x = subst (λ (n : ℕ). needs 1 f n + brackets (c ∷ b) ≤ brackets a) (sym l) (spells-needs r) in
    rw (lt-ltb (level o) (suc k) (omega arith)) (omega arith)

-- ---- and the print has no others: of its signs, only brackets and blanks may count
record Quiet (each : Sign → ℕ) : Type 0 where
  before : (o : Unary) → each (Prefix o) ≡ 0
  between : (o : Binary) → each (Infix o) ≡ 0
  begun : (v : Bool) → each (Word v) ≡ 0
  letter : each Letter ≡ 0
  digit : (n : ℕ) → each (Digit n) ≡ 0
  other : each Other ≡ 0

open-quiet : Quiet open_one
open-quiet = record { before = λ o. refl; between = λ o. refl; begun = λ v. refl; letter = refl; digit = λ n. refl; other = refl }

blank-quiet : Quiet blank_one
blank-quiet = record { before = λ o. refl; between = λ o. refl; begun = λ v. refl; letter = refl; digit = λ n. refl; other = refl }

-- letters that are no signs: those behind the first of a constant
abbrev Others : List ℕ → Type 0
Others [] = Unit {0}
Others (c ∷ w) = (sign_of c ≡ Other) × Others w

spelling-others : (v : Bool) → Others (spelling v)
unfolding sign_of digit_of pick both
spelling-others true = (refl, (refl, (refl, tt)))
spelling-others false = (refl, (refl, (refl, (refl, tt))))

module _ (each : Sign → ℕ) (quiet : Quiet each) where
  -- a byte that is a digit counts nothing
  digit-tally : (n : ℕ) (b : List ℕ) → n < 10 → tally each ((48 + n) ∷ b) ≡ tally each b
  digit-tally n b h = let q = ap each (digit-sign n h) ∙ quiet.digit n in omega arith

  digits-tally : (n : ℕ) (b : List ℕ) → n < propositions_most → tally each (digits n ++ b) ≡ tally each b
  unfolding pick
  digits-tally n b h = go (ltb n 10) refl
    where
      go : (z : Bool) → ltb n 10 ≡ z → tally each (pick z ((48 + n) ∷ []) ((48 + n / 10) ∷ (48 + n % 10) ∷ []) ++ b) ≡ tally each b
      go true e = digit-tally n b (ltb-true n 10 e)
      go false e = digit-tally (n / 10) ((48 + n % 10) ∷ b) (omega arith) ∙ digit-tally (n % 10) b (omega arith)

  -- bytes that are no signs count nothing
  others-tally : (w b : List ℕ) → Others w → tally each (w ++ b) ≡ tally each b
  others-tally [] b h = refl
  others-tally (c ∷ w) b h = let q = ap each h.0 ∙ quiet.other in let p = others-tally w b h.1 in omega arith

  begun-tally : (c : ℕ) (v : Bool) (b : List ℕ) → sign_of c ≡ Word v → tally each (c ∷ (spelling v ++ b)) ≡ tally each b
  begun-tally c v b h = let q = ap each h ∙ quiet.begun v in let p = others-tally (spelling v) b (spelling-others v) in omega arith

  leaf-tally : (a : Leaf) (b : List ℕ) → leaf_within propositions_most 0 a → tally each (leaf_text a ++ b) ≡ tally each b
  unfolding sign_of pick
  leaf-tally (Const true) b c = begun-tally 116 true b refl
  leaf-tally (Const false) b c = begun-tally 102 false b refl
  leaf-tally (Prop n) b c = let p = digits-tally n b c in let l = ap each letter-sign ∙ quiet.letter in omega arith
  leaf-tally (Hold k) b c = absurd (omega arith)

  abbrev pair : ℕ
  pair = each Open + each Close

  shown-tally : (f : Formula) (k : ℕ) (b : List ℕ) → Within propositions_most 0 f → tally each (shown f k b) ≡ needs pair f k + tally each b
  unfolding pick
  shown-tally (leaf a) k b c = let q = leaf-tally a b c in omega arith
  shown-tally (one o f) k b c = let q = shown-tally f 0 b c in let p = ap each (unary-sign o) ∙ quiet.before o in omega arith
  shown-tally (two o f g) k b c =
      go (ltb (level o) k)
      (λ t. shown-tally f (level o) (binary_sign o ∷ shown g (suc (level o)) t) c.0)
      (λ t. shown-tally g (suc (level o)) t c.1)
    where
      go : (z : Bool)
          → ((t : List ℕ) → tally each (shown f (level o) (binary_sign o ∷ shown g (suc (level o)) t)) ≡ needs pair f (level o) + tally each (binary_sign o ∷ shown g (suc (level o)) t))
          → ((t : List ℕ) → tally each (shown g (suc (level o)) t) ≡ needs pair g (suc (level o)) + tally each t)
          → tally each (pick z (shown f (level o) (binary_sign o ∷ shown g (suc (level o)) b)) (open_sign ∷ shown f (level o) (binary_sign o ∷ shown g (suc (level o)) (close_sign ∷ b))))
          ≡ pick z 0 pair + (needs pair f (level o) + needs pair g (suc (level o))) + tally each b
      go true p q = let u = p b in let v = q b in let s = ap each (binary-sign o) ∙ quiet.between o in omega arith
      go false p q =
          let u = p (close_sign ∷ b) in
          let v = q (close_sign ∷ b) in
          let s = ap each (binary-sign o) ∙ quiet.between o in
          let x = ap each open-sign in
          let y = ap each close-sign in
          omega arith

-- no text of f has fewer brackets than the print
pub fewest : (f : Formula) → Within propositions_most 0 f → (t : List ℕ) → Text t f → brackets (printed f) ≤ brackets t
fewest f c t x =
    let p = shown-tally open_one open-quiet f loosest [] c in
    let q = gap-brackets x.gap in
    let y = spells-needs x.spells in
    omega arith

needs-nothing : (f : Formula) (k : ℕ) → needs 0 f k ≡ 0
unfolding pick
needs-nothing (leaf a) k = refl
needs-nothing (one o f) k = needs-nothing f 0
needs-nothing (two o f g) k = go (ltb (level o) k) (needs-nothing f (level o)) (needs-nothing g (suc (level o)))
  where
    go : (z : Bool) → needs 0 f (level o) ≡ 0 → needs 0 g (suc (level o)) ≡ 0 → pick z 0 0 + (needs 0 f (level o) + needs 0 g (suc (level o))) ≡ 0
    go true p q = omega arith
    go false p q = omega arith

-- the print has no blanks
pub printed-solid : (f : Formula) → Within propositions_most 0 f → blanks (printed f) ≡ 0
printed-solid f c = let p = shown-tally blank_one blank-quiet f loosest [] c in let q = needs-nothing f loosest in omega arith
