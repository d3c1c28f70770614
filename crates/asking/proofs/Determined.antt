-- The promise leaves no choice: `asks-determined` says that any two answers that it allows of the same state are equal. Assumes nothing.
use Rattle.std.specs.Prelude.{Result, Ok, Err}
use Rattle.answers.specs.declared.Refusal.{Refusal}
use Rattle.telling.specs.declared.Standing.{Standing}
use mathlib.Core.Path.{◌≡◌, sym, ap, ◌∙◌}
use mathlib.Core.List.{List}
use Prim.Native.Nat.{ℕ}
use native.Mathlib.Omega.{arith}
use lib.ListN.{get_or}
use Rattle.answers.specs.Said.{Said}
use Rattle.answers.proofs.Answers.{number-injective, number-some, verdict-injective}
use Rattle.telling.specs.Ask.{said_ask, Asks}

pub said_ask-injective : (a b : Result Standing Refusal) → said_ask a ≡ said_ask b → a ≡ b
said_ask-injective (Err v) (Err w) e = ap Err (number-injective v w (ap (λ (s : Said). s.number) e))
said_ask-injective (Err v) (Ok t) e = let z = number-some v in let y = ap (λ (s : Said). s.number) e in absurd (omega arith)
said_ask-injective (Ok t) (Err w) e = let z = number-some w in let y = ap (λ (s : Said). s.number) e in absurd (omega arith)
said_ask-injective (Ok t) (Ok u) e =
    let v = verdict-injective t.verdict u.verdict (ap (λ (s : Said). get_or s.values 0 0) e) in
    let k : t.ticks ≡ u.ticks = ap (λ (s : Said). get_or s.values 1 0) e in
    let n : t.slots ≡ u.slots = ap (λ (s : Said). get_or s.values 2 0) e in
    let m : t.nodes ≡ u.nodes = ap (λ (s : Said). get_or s.values 3 0) e in
    λ i. Ok (record { verdict = v i; ticks = k i; slots = n i; nodes = m i })

pub asks-determined : (state : List ℕ) (a b : Result Standing Refusal) → Asks state a → Asks state b → a ≡ b
asks-determined state a b x y = said_ask-injective a b (x.says ∙ sym y.says)
