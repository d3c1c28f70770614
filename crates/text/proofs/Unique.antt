-- A text has at most one formula, and that is one of a rule: propositions by their limit, no place holder. The first follows from what is
-- gathered from its end, which is a function of the text. Others use `text-one`, `text_of`, `text-within`, `text-rule`. Assumes nothing.
use mathlib.Core.Path.{◌≡◌, refl, sym, ap, ◌∙◌, subst}
use mathlib.Core.Bool.{true}
use mathlib.Core.List.{List, [], ◌++◌}
use Prim.Native.Nat.{ℕ}
use native.Mathlib.Omega.{arith}
use Rattle.limits.specs.Limits.{propositions_most, holder_codes}
use Rattle.ltl.specs.Formula.{Formula, encode, Within, Coded}
use Rattle.ltl.specs.Decode.{is_rule}
use Rattle.ltl.proofs.Decoding.{one_way, wider, rule-of}
use Rattle.text.specs.Grammar.{Named, truth, proposition, Spells, word, prefixed, bracketed, alone, joined, Text}
use Rattle.text.specs.Machine.{accepts}
use Rattle.text.specs.Gathering.{built}
use Rattle.text.proofs.Derives.{accepts-text}
use Rattle.text.proofs.Builds.{text-built}

named-within : {f : Formula} {a b : List ℕ} → Named f a b → Within propositions_most 0 f
named-within (truth h e) = tt
named-within (proposition h f l) = l

spells-within : {k : ℕ} {f : Formula} {a b : List ℕ} → Spells k f a b → Within propositions_most 0 f
spells-within (word w g) = named-within w
spells-within (prefixed h g r) = spells-within r
spells-within (bracketed h g r e i) = spells-within r
spells-within (alone r) = spells-within r
spells-within (joined r h l g i) = (spells-within r, spells-within i)

-- the formula of a text is one of a rule
pub text-within : {t : List ℕ} {f : Formula} → Text t f → Within propositions_most 0 f
text-within x = spells-within x.spells

pub text-rule : {t : List ℕ} {f : Formula} → Text t f → is_rule propositions_most (encode f) ≡ true
text-rule {f = f} x = rule-of propositions_most (encode f) (omega arith) (record { formula = f; within = text-within x; bytes = refl })

rule-coded : (f : Formula) → Within propositions_most 0 f → Coded f
rule-coded f w = wider propositions_most 0 propositions_most holder_codes (omega arith) (omega arith) f w

text-coded : {t : List ℕ} {f : Formula} → Text t f → Coded f
text-coded {f = f} x = rule-coded f (text-within x)

-- a text is one of at most one formula
pub text-one : {t : List ℕ} {f g : Formula} → Text t f → Text t g → f ≡ g
text-one {f = f} {g = g} x y =
    (one_way f g [] [] (text-coded x) (text-coded y) (ap (λ (l : List ℕ). l ++ []) (sym (text-built x) ∙ text-built y))).0

-- a text that is accepted is one of the formula whose bytes are gathered from its end
pub text_of : (t : List ℕ) (g : Formula) → accepts t ≡ true → Within propositions_most 0 g → built t ≡ encode g → Text t g
text_of t g a w e =
    let (f, x) = accepts-text t a in
    let same = (one_way f g [] [] (text-coded x) (rule-coded g w) (ap (λ (l : List ℕ). l ++ []) (sym (text-built x) ∙ e))).0 in
    subst (λ (h : Formula). Text t h) same x
