-- One law for each way out of `parse`, and what a refusal keeps (`parse-keeps`) and is answered by (`parse-answers`). The check goes by the
-- machine and the building by what is gathered; here they become the grammar. Assumes nothing.
use Rattle.std.specs.Prelude.{Result, Ok, Err}
use mathlib.Core.Path.{◌≡◌, refl, sym, ap, ◌∙◌, subst}
use mathlib.Core.Bool.{true}
use mathlib.Core.List.{List, [], ◌∷◌}
use Prim.Native.Nat.{ℕ, ◌<◌, ◌≤◌}
use native.Mathlib.Omega.{arith}
use lib.ListN.{length}
use Rattle.lists.specs.Runs.{padded}
use Rattle.limits.specs.Limits.{rule_nodes_most}
use Rattle.answers.specs.Said.{Said, accepted, refused_with}
use Rattle.answers.specs.declared.Refusal.TheVariants.{Length, Range}
use Rattle.ltl.specs.Formula.{size, encode}
use Rattle.text.specs.Places.{RefusedAt, line_at}
use Rattle.text.specs.Machine.{accepts}
use Rattle.text.proofs.Derives.{accepts-text}
use Rattle.text.proofs.Stops.{refused-at}
use Rattle.cursor.specs.declared.TextCursor.{TextCursor}
use Rattle.recognising.specs.Recognises.{Recognises}
use Rattle.building.specs.Nodes.{nodes_in}
use Rattle.building.proofs.Nodes.{text-nodes}
use Rattle.parsing.specs.declared.ParseError.{ParseError}
use Rattle.parsing.specs.declared.ParseError.TheVariants.{Refused, NoText}
use Rattle.parsing.specs.Parse.{ParseSays, length-refused, text-refused, range-refused, parsed, said_parse, Parses}
use Rattle.parsing.specs.Building.{BuiltInto}

-- the promise of an answer is that of an equal one
pub parse-as : {t d e : List ℕ} {a b : Result ℕ ParseError} → a ≡ b → Parses t d e a → Parses t d e b
parse-as {t} {d} {e} h x = subst (λ (c : Result ℕ ParseError). Parses t d e c) h x

-- ---- refusals
-- a refusal leaves the buffer
pub parse-keeps : {most : ℕ} {t d e : List ℕ} {s : Said} → ParseSays most t d s e → 0 < s.number → e ≡ d
parse-keeps (length-refused n) h = refl
parse-keeps (text-refused l x) h = refl
parse-keeps (range-refused l x m) h = refl
parse-keeps (parsed l x m) h = absurd (omega arith)

-- every refusal is some answer's
pub parse-answers : {t d e : List ℕ} {s : Said} → ParseSays rule_nodes_most t d s e → (s.number ≡ 0 → ⊥) → (answer : Result ℕ ParseError) × (0 < (said_parse answer).number) × Parses t d e answer
parse-answers (length-refused n) h = (Err (Refused Length), omega arith, length-refused n)
parse-answers {t = t} (text-refused {k = k} l x) h = (Err (NoText (record { byte = k; line = line_at t k })), omega arith, text-refused l x)
parse-answers (range-refused l x m) h = (Err (Refused Range), omega arith, range-refused l x m)
parse-answers (parsed l x m) h = absurd (h refl)

-- ---- the ways out
pub length-wrong : {t d : List ℕ} → (length d ≡ rule_nodes_most → ⊥) → Parses t d d (Err (Refused Length))
length-wrong n = length-refused n

module _ {t d : List ℕ} (room : length d ≡ rule_nodes_most) where
  -- the machine died at the position, whose line is that of its byte
  pub no_text : (c : TextCursor) → Recognises t (Err c) → Parses t d d (Err (NoText c))
  no_text c (a, b, l) =
      subst (λ (n : ℕ). ParseSays rule_nodes_most t d (refused_with 16 (n ∷ c.byte ∷ [])) d) (sym l)
      (text-refused room (subst (λ (k : ℕ). RefusedAt t k) (sym b) (refused-at t a)))

  module _ (in-grammar : accepts t ≡ true) {n : ℕ} (count : n ≡ nodes_in t) where
    pub too_many : rule_nodes_most < n → Parses t d d (Err (Refused Range))
    too_many h =
        let (f, x) = accepts-text t in-grammar in
        let e = text-nodes x in
        range-refused room x (omega arith)

    pub all_read : n ≤ rule_nodes_most → {e : List ℕ} → BuiltInto t d e → Parses t d e (Ok n)
    all_read h {e} built =
        let (f, x) = accepts-text t in-grammar in
        let same : size f ≡ n = sym (text-nodes x) ∙ sym count in
        let bytes : padded rule_nodes_most (encode f) ≡ e = ap (λ (m : ℕ). padded m (encode f)) (sym room) ∙ sym (built f x) in
        subst (λ (m : ℕ). ParseSays rule_nodes_most t d (accepted (m ∷ [])) e) same
        (subst (λ (b : List ℕ). ParseSays rule_nodes_most t d (accepted (size f ∷ [])) b) bytes (parsed room x (omega arith)))
