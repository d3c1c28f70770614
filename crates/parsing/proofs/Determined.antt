-- The promise leaves no choice: a text has one formula at most, or one place where it is refused. Others use `parse-one`,
-- `parses-determined`. Assumes nothing.
use Rattle.answers.specs.declared.Refusal.{Refusal}
use Rattle.std.specs.Prelude.{Result, Ok, Err}
use mathlib.Core.Path.{◌≡◌, refl, ap}
use mathlib.Core.List.{List, [], ◌∷◌}
use Prim.Native.Nat.{ℕ, ◌<◌, ◌≤◌}
use native.Mathlib.Omega.{arith}
use lib.ListN.{length, get_or}
use Rattle.lists.specs.Runs.{padded}
use Rattle.answers.specs.Said.{Said, accepted, refused_with}
use Rattle.answers.proofs.Answers.{number-injective, number-some}
use Rattle.ltl.specs.Formula.{Formula, size, encode}
use Rattle.text.specs.Grammar.{Text}
use Rattle.text.specs.Places.{line_at}
use Rattle.text.proofs.Stops.{place-one}
use Rattle.text.proofs.Unique.{text-one}
use Rattle.parsing.specs.declared.ParseError.{ParseError}
use Rattle.parsing.specs.declared.ParseError.TheVariants.{Refused, NoText}
use Rattle.parsing.specs.Parse.{ParseSays, length-refused, text-refused, range-refused, parsed, said_parse, Parses}

-- a text of more nodes than the limit is none of fewer
too-many-not : {most : ℕ} {t : List ℕ} {f g : Formula} → Text t f → Text t g → most < size f → size g ≤ most → ⊥
too-many-not x y l m = let e = ap size (text-one x y) in omega arith

-- ---- one answer, and one buffer
pub parse-one : {most : ℕ} {t d e e₂ : List ℕ} {s s₂ : Said} → ParseSays most t d s e → ParseSays most t d s₂ e₂ → (s ≡ s₂) × (e ≡ e₂)
parse-one (length-refused n) (length-refused m) = (refl, refl)
parse-one (length-refused n) (text-refused l x) = absurd (n l)
parse-one (length-refused n) (range-refused l x h) = absurd (n l)
parse-one (length-refused n) (parsed l x h) = absurd (n l)
parse-one (text-refused l x) (length-refused m) = absurd (m l)
parse-one {t = t} (text-refused l x) (text-refused m y) = (ap (λ (k : ℕ). refused_with 16 (line_at t k ∷ k ∷ [])) (place-one x y), refl)
parse-one (text-refused l x) (range-refused m y h) = absurd (x.none _ y)
parse-one (text-refused l x) (parsed m y h) = absurd (x.none _ y)
parse-one (range-refused l x h) (length-refused m) = absurd (m l)
parse-one (range-refused l x h) (text-refused m y) = absurd (y.none _ x)
parse-one (range-refused l x h) (range-refused m y i) = (refl, refl)
parse-one (range-refused l x h) (parsed m y i) = absurd (too-many-not x y h i)
parse-one (parsed l x h) (length-refused m) = absurd (m l)
parse-one (parsed l x h) (text-refused m y) = absurd (y.none _ x)
parse-one (parsed l x h) (range-refused m y i) = absurd (too-many-not y x i h)
parse-one {most} (parsed l x h) (parsed m y i) =
    let e = text-one x y in (ap (λ (f : Formula). accepted (size f ∷ [])) e, ap (λ (f : Formula). padded most (encode f)) e)

-- ---- an answer is known by its number and values
pub said_parse-injective : (a b : Result ℕ ParseError) → said_parse a ≡ said_parse b → a ≡ b
said_parse-injective (Err (Refused v)) (Err (Refused w)) e = ap (λ (x : Refusal). Err (Refused x)) (number-injective v w (ap (λ (s : Said). s.number) e))
said_parse-injective (Err (Refused v)) (Err (NoText c)) e = let y = ap (λ (s : Said). length s.values) e in absurd (omega arith)
said_parse-injective (Err (Refused v)) (Ok n) e = let z = number-some v in let y = ap (λ (s : Said). s.number) e in absurd (omega arith)
said_parse-injective (Err (NoText c)) (Err (Refused w)) e = let y = ap (λ (s : Said). length s.values) e in absurd (omega arith)
said_parse-injective (Err (NoText c)) (Err (NoText d)) e =
    let v = ap (λ (s : Said). s.values) e in
    let l : c.line ≡ d.line = ap (λ (x : List ℕ). get_or x 0 0) v in
    let b : c.byte ≡ d.byte = ap (λ (x : List ℕ). get_or x 1 0) v in
    λ i. Err (NoText (record { byte = b i; line = l i }))
said_parse-injective (Err (NoText c)) (Ok n) e = let y = ap (λ (s : Said). s.number) e in absurd (omega arith)
said_parse-injective (Ok n) (Err (Refused w)) e = let z = number-some w in let y = ap (λ (s : Said). s.number) e in absurd (omega arith)
said_parse-injective (Ok n) (Err (NoText d)) e = let y = ap (λ (s : Said). s.number) e in absurd (omega arith)
said_parse-injective (Ok n) (Ok m) e = ap Ok (ap (λ (s : Said). get_or s.values 0 0) e)

pub parses-determined : {t d e e₂ : List ℕ} (a b : Result ℕ ParseError) → Parses t d e a → Parses t d e₂ b → (a ≡ b) × (e ≡ e₂)
parses-determined a b x y = let (p, q) = parse-one x y in (said_parse-injective a b p, q)
