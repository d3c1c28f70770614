-- The grammar of rules as people type them. `Text t f`: the bytes t are a text of the formula f. Everything is said of what stands from a
-- place of the text on, and of what follows behind it. Assumes nothing: these are definitions.
use Rattle.std.specs.Prelude.{◌≡◌, Bool, List, [], ◌∷◌, ◌++◌, ℕ, suc, ◌+◌, ◌*◌, ◌<◌}
use Rattle.limits.specs.Limits.{propositions_most}
use Rattle.kinds.specs.declared.Leaf.TheVariants.{Prop}
use Rattle.kinds.specs.declared.Unary.{Unary}
use Rattle.kinds.specs.declared.Binary.{Binary}
use Rattle.ltl.specs.Formula.{Formula, leaf, one, two, constant}
use Rattle.text.specs.declared.Sign.TheVariants.{Blank, Prefix, Infix, Open, Close, Word, Letter, Digit}
use Rattle.text.specs.Signs.{sign_of, spelling, level, loosest}

-- from a on stand blanks, or nothing, and then b
pub data Gap : List ℕ → List ℕ → Type 0 where
  none : {a b : List ℕ} → a ≡ b → Gap a b
  more : {c : ℕ} {a b : List ℕ} → sign_of c ≡ Blank → Gap a b → Gap (c ∷ a) b

-- from a on stands the number n in digits, without a zero in front, and then b
pub data Figures : ℕ → List ℕ → List ℕ → Type 0 where
  first : {c n : ℕ} {b : List ℕ} → sign_of c ≡ Digit n → Figures n (c ∷ b) b
  further : {c n m : ℕ} {a b : List ℕ} → Figures n a (c ∷ b) → 0 < n → sign_of c ≡ Digit m → Figures (10 * n + m) a b

-- true, false, p0 to p63
pub data Named : Formula → List ℕ → List ℕ → Type 0 where
  truth : {c : ℕ} {v : Bool} {a b : List ℕ} → sign_of c ≡ Word v → a ≡ spelling v ++ b → Named (constant v) (c ∷ a) b
  proposition : {c n : ℕ} {a b : List ℕ} → sign_of c ≡ Letter → Figures n a b → n < propositions_most → Named (leaf (Prop n)) (c ∷ a) b

-- from a on stands a text of level k for the formula f, and then b. Level 0 is a word, a prefix sign with its operand, or a text in brackets;
-- each further level joins by one more infix sign, the right operand being of the same level again. A gap may stand behind each sign
pub data Spells : ℕ → Formula → List ℕ → List ℕ → Type 0 where
  word : {f : Formula} {a b d : List ℕ} → Named f a b → Gap b d → Spells 0 f a d
  prefixed : {c : ℕ} {o : Unary} {f : Formula} {a b d : List ℕ} → sign_of c ≡ Prefix o → Gap a b → Spells 0 f b d → Spells 0 (one o f) (c ∷ a) d
  bracketed : {c e : ℕ} {f : Formula} {a b d g : List ℕ} → sign_of c ≡ Open → Gap a b → Spells loosest f b (e ∷ d) → sign_of e ≡ Close → Gap d g
      → Spells 0 f (c ∷ a) g
  alone : {k : ℕ} {f : Formula} {a b : List ℕ} → Spells k f a b → Spells (suc k) f a b
  joined : {k c : ℕ} {o : Binary} {f g : Formula} {a b d e : List ℕ} → Spells k f a (c ∷ b) → sign_of c ≡ Infix o → level o ≡ k → Gap b d
      → Spells (suc k) g d e → Spells (suc k) (two o f g) a e

-- the bytes t are a text of the formula f
pub record Text (t : List ℕ) (f : Formula) : Type 0 where
  pub start : List ℕ
  pub gap : Gap t start
  pub spells : Spells loosest f start []
