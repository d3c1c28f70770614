-- The machine that goes over a text from the left: what the text owes after each byte. It knows how many brackets are open and nothing of
-- how tightly signs bind. proofs/ shows that it accepts the texts of the grammar and no others, and dies at the place of refusal.
-- Assumes nothing: these are definitions.
use Rattle.std.specs.Prelude.{Bool, true, false, List, [], ◌∷◌, ℕ, zero, suc, ◌+◌, ◌*◌, ltb, eqb}
use Rattle.lists.specs.Tests.{pick, both}
use Rattle.limits.specs.Limits.{propositions_most}
use Rattle.text.specs.declared.Sign.{Sign}
use Rattle.text.specs.declared.Sign.TheVariants.{Blank, Prefix, Infix, Open, Close, Word, Letter, Digit, Other}
use Rattle.text.specs.Signs.{sign_of, spelling}

-- an operand is wanted; one has ended; letters are wanted; a digit is wanted; digits were read, as a number. Each with the brackets that
-- are open. Or no text goes on so
pub data Mode : Type 0 where
  want : ℕ → Mode
  got : ℕ → Mode
  letters : ℕ → List ℕ → ℕ → Mode
  number : ℕ → Mode
  figure : ℕ → ℕ → Mode
  dead : Mode

-- these letters are wanted
abbrev pub spelt : List ℕ → ℕ → Mode
spelt [] d = got d
spelt (x ∷ w) d = letters x w d

-- a closing bracket
abbrev pub closing : ℕ → Mode
closing zero = dead
closing (suc d) = got d

-- a sign where an operand is wanted
abbrev pub wanted : Sign → ℕ → Mode
wanted Blank d = want d
wanted (Prefix o) d = want d
wanted (Infix o) d = dead
wanted Open d = want (suc d)
wanted Close d = dead
wanted (Word v) d = spelt (spelling v) d
wanted Letter d = number d
wanted (Digit n) d = dead
wanted Other d = dead

-- a sign where an operand has ended
abbrev pub follows : Sign → ℕ → Mode
follows Blank d = got d
follows (Prefix o) d = dead
follows (Infix o) d = want d
follows Open d = dead
follows Close d = closing d
follows (Word v) d = dead
follows Letter d = dead
follows (Digit n) d = dead
follows Other d = dead

-- a sign behind a proposition's letter
abbrev pub numbered : Sign → ℕ → Mode
numbered Blank d = dead
numbered (Prefix o) d = dead
numbered (Infix o) d = dead
numbered Open d = dead
numbered Close d = dead
numbered (Word v) d = dead
numbered Letter d = dead
numbered (Digit n) d = figure n d
numbered Other d = dead

-- a digit m behind the number n
abbrev pub lengthened : ℕ → ℕ → ℕ → Mode
lengthened n m d = pick (both (ltb 0 n) (ltb (10 * n + m) propositions_most)) (figure (10 * n + m) d) dead

-- a sign behind the number n
abbrev pub figured : Sign → ℕ → ℕ → Mode
figured Blank n d = got d
figured (Prefix o) n d = dead
figured (Infix o) n d = want d
figured Open n d = dead
figured Close n d = closing d
figured (Word v) n d = dead
figured Letter n d = dead
figured (Digit m) n d = lengthened n m d
figured Other n d = dead

-- one byte more
abbrev pub step : Mode → ℕ → Mode
step (want d) c = wanted (sign_of c) d
step (got d) c = follows (sign_of c) d
step (letters x w d) c = pick (eqb c x) (spelt w d) dead
step (number d) c = numbered (sign_of c) d
step (figure n d) c = figured (sign_of c) n d
step dead c = dead

abbrev pub run : List ℕ → Mode → Mode
run [] s = s
run (c ∷ t) s = run t (step s c)

abbrev pub is_zero : ℕ → Bool
is_zero zero = true
is_zero (suc n) = false

-- a text may end here
abbrev pub final : Mode → Bool
final (want d) = false
final (got d) = is_zero d
final (letters x w d) = false
final (number d) = false
final (figure n d) = is_zero d
final dead = false

abbrev pub alive : Mode → Bool
alive (want d) = true
alive (got d) = true
alive (letters x w d) = true
alive (number d) = true
alive (figure n d) = true
alive dead = false

-- the text is accepted
abbrev pub accepts : List ℕ → Bool
accepts t = final (run t (want 0))

-- how many bytes are passed before the machine dies, or all
abbrev pub passed : List ℕ → Mode → ℕ
passed [] s = 0
passed (c ∷ t) s = pick (alive (step s c)) (suc (passed t (step s c))) 0
