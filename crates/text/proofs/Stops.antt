-- The place of a refusal: where the machine dies. Whatever the machine is in, some bytes end the text (`live-ends`), so that a text begins with
-- what it has passed; and nothing brings it back to life. Others use `refused-at`, `place-one`. Assumes nothing.
use mathlib.Core.Path.{◌≡◌, refl, sym, ap, ◌∙◌, subst}
use mathlib.Core.Bool.{Bool, true, false, true≢false}
use mathlib.Core.List.{List, [], ◌∷◌, ◌++◌, append_assoc}
use Prim.Native.Nat.{ℕ, zero, suc, ◌≤◌, ◌<◌}
use native.Mathlib.Nat.{le_of_suc-le-suc}
use native.Mathlib.Omega.{arith}
use lib.ListN.{length, take, drop, take-append-drop}
use lib.Seq.{take-take}
use lib.Dec.{ltb}
use borrow.Author.Tests.{ltb-true, ltb-false, eq-eqb}
use Rattle.lists.specs.Tests.{pick, both}
use Rattle.text.specs.Signs.{sign_of, digit_of}
use Rattle.text.specs.Printing.{close_sign}
use Rattle.text.specs.Grammar.{Text}
use Rattle.text.specs.Places.{Viable, RefusedAt}
use Rattle.text.specs.Machine.{Mode, want, got, letters, number, figure, dead, spelt, step, run, final, alive, accepts, passed}
use Rattle.text.proofs.Accepts.{text-accepts}
use Rattle.text.proofs.Derives.{accepts-text}

-- as many closing brackets
abbrev shuts : ℕ → List ℕ
shuts zero = []
shuts (suc d) = close_sign ∷ shuts d

shuts-final : (d : ℕ) → final (run (shuts d) (got d)) ≡ true
unfolding sign_of pick
shuts-final zero = refl
shuts-final (suc d) = shuts-final d

shuts-figure : (n d : ℕ) → final (run (shuts d) (figure n d)) ≡ true
unfolding sign_of pick
shuts-figure n zero = refl
shuts-figure n (suc d) = shuts-final d

shuts-letters : (w : List ℕ) (d : ℕ) → final (run (w ++ shuts d) (spelt w d)) ≡ true
unfolding pick
shuts-letters [] d = shuts-final d
shuts-letters (x ∷ w) d = ap (λ (z : Bool). final (run (w ++ shuts d) (pick z (spelt w d) dead))) (eq-eqb x x refl) ∙ shuts-letters w d

-- whatever the machine is in that is not dead, some text ends it
record Ends (s : Mode) : Type 0 where
  rest : List ℕ
  ends : final (run rest s) ≡ true

live-ends : (s : Mode) → alive s ≡ true → Ends s
unfolding sign_of digit_of pick both
live-ends (want d) h = record { rest = 112 ∷ 48 ∷ shuts d; ends = shuts-figure 0 d }
live-ends (got d) h = record { rest = shuts d; ends = shuts-final d }
live-ends (letters x w d) h = record { rest = x ∷ (w ++ shuts d); ends = shuts-letters (x ∷ w) d }
live-ends (number d) h = record { rest = 48 ∷ shuts d; ends = shuts-figure 0 d }
live-ends (figure n d) h = record { rest = shuts d; ends = shuts-figure n d }
live-ends dead h = absurd (true≢false (sym h))

run-append : (a b : List ℕ) (s : Mode) → run (a ++ b) s ≡ run b (run a s)
run-append [] b s = refl
run-append (c ∷ a) b s = run-append a b (step s c)

run-dead : (t : List ℕ) → run t dead ≡ dead
run-dead [] = refl
run-dead (c ∷ t) = run-dead t

-- what the machine did with the text up to the place, and there
record Stopped (t : List ℕ) (s : Mode) (k : ℕ) : Type 0 where
  within : k ≤ length t
  before : alive (run (take k t) s) ≡ true
  there : k < length t → run (take (suc k) t) s ≡ dead

is-dead : (s : Mode) → alive s ≡ false → s ≡ dead
is-dead (want d) h = absurd (true≢false h)
is-dead (got d) h = absurd (true≢false h)
is-dead (letters x w d) h = absurd (true≢false h)
is-dead (number d) h = absurd (true≢false h)
is-dead (figure n d) h = absurd (true≢false h)
is-dead dead h = refl

stopped : (t : List ℕ) (s : Mode) → alive s ≡ true → Stopped t s (passed t s)
unfolding pick
stopped [] s h = record { within = omega arith; before = h; there = λ l. absurd (omega arith) }
stopped (c ∷ t) s h = go (alive (step s c)) refl (λ q. stopped t (step s c) q)
  where
    go : (z : Bool) → alive (step s c) ≡ z → (alive (step s c) ≡ true → Stopped t (step s c) (passed t (step s c)))
        → Stopped (c ∷ t) s (pick z (suc (passed t (step s c))) 0)
    go true e ih = let y = ih e in let w = y.within in record { within = omega arith; before = y.before; there = λ l. y.there (le_of_suc-le-suc l) }
    go false e ih = record { within = omega arith; before = h; there = λ l. is-dead (step s c) e }

viable : (p : List ℕ) → alive (run p (want 0)) ≡ true → Viable p
viable p h =
    let y = live-ends (run p (want 0)) h in
    let (f, x) = accepts-text (p ++ y.rest) (ap final (run-append p y.rest (want 0)) ∙ y.ends) in
    record { rest = y.rest; formula = f; text = x }

viable-not : (p : List ℕ) → run p (want 0) ≡ dead → Viable p → ⊥
viable-not p h g =
    true≢false (sym (text-accepts g.text) ∙ ap final (run-append p g.rest (want 0) ∙ ap (λ (s : Mode). run g.rest s) h ∙ run-dead g.rest))

-- a text that is not accepted is in no reading, and its place is where the machine died
pub refused-at : (t : List ℕ) → accepts t ≡ false → RefusedAt t (passed t (want 0))
refused-at t h =
    let y = stopped t (want 0) refl in
    record {
      none = λ f x. true≢false (sym (text-accepts x) ∙ h);
      within = y.within;
      before = viable (take (passed t (want 0)) t) y.before;
      there = λ l g. viable-not (take (suc (passed t (want 0))) t) (y.there l) g;
    }

viable-less : (p q : List ℕ) → Viable (p ++ q) → Viable p
viable-less p q g =
    record { rest = q ++ g.rest; formula = g.formula; text = subst (λ (t : List ℕ). Text t g.formula) (append_assoc p q g.rest) g.text }

later-not : {t : List ℕ} {k j : ℕ} → RefusedAt t k → RefusedAt t j → k < j → ⊥
later-not {t = t} {k = k} {j = j} x y l =
    let w = y.within in
    let e : take j t ≡ take (suc k) t ++ drop (suc k) (take j t) = sym (take-append-drop (suc k) (take j t)) ∙ ap (◌++ drop (suc k) (take j t)) (take-take (suc k) j t l) in
    x.there (omega arith) (viable-less (take (suc k) t) (drop (suc k) (take j t)) (subst Viable e y.before))

-- there is one place at most
pub place-one : {t : List ℕ} {k j : ℕ} → RefusedAt t k → RefusedAt t j → k ≡ j
place-one {k = k} {j = j} x y = go (ltb k j) (ltb j k) refl refl
  where
    go : (p q : Bool) → ltb k j ≡ p → ltb j k ≡ q → k ≡ j
    go true q e h = absurd (later-not x y (ltb-true k j e))
    go false true e h = absurd (later-not y x (ltb-true j k h))
    go false false e h = let a = ltb-false k j e in let b = ltb-false j k h in omega arith
