-- A text of the grammar is accepted by the machine: what the grammar reads, the machine passes, from an operand that is wanted to one that
-- has ended. By induction on the grammar. Others use `text-accepts`. Assumes nothing.
use mathlib.Core.Path.{◌≡◌, refl, ap, ◌∙◌}
use mathlib.Core.Bool.{Bool, true}
use mathlib.Core.List.{List, [], ◌∷◌, ◌++◌}
use Prim.Native.Nat.{ℕ, suc, ◌+◌, ◌*◌, ◌<◌}
use native.Mathlib.Omega.{arith}
use borrow.Author.Tests.{lt-ltb, eq-eqb}
use Rattle.lists.specs.Tests.{pick, both}
use Rattle.limits.specs.Limits.{propositions_most}
use Rattle.kinds.specs.declared.Binary.{Binary}
use Rattle.ltl.specs.Formula.{Formula}
use Rattle.text.specs.declared.Sign.{Sign}
use Rattle.text.specs.declared.Sign.TheVariants.{Blank, Infix, Close}
use Rattle.text.specs.Signs.{sign_of, spelling}
use Rattle.text.specs.Grammar.{Gap, none, more, Figures, first, further, Named, truth, proposition, Spells, word, prefixed, bracketed, alone, joined, Text}
use Rattle.text.specs.Machine.{Mode, want, got, number, figure, dead, spelt, wanted, numbered, figured, step, run, final, accepts}

-- an operand has ended, with d brackets open
data Ended (d : ℕ) : Mode → Type 0 where
  past : Ended d (got d)
  digit : {n : ℕ} → Ended d (figure n d)

-- from a with s the machine comes to b with an operand ended
record Ends (a : List ℕ) (s : Mode) (b : List ℕ) (d : ℕ) : Type 0 where
  state : Mode
  ended : Ended d state
  same : run a s ≡ run b state

gap-want : {a b : List ℕ} → Gap a b → (d : ℕ) → run a (want d) ≡ run b (want d)
gap-want (none e) d = ap (λ (x : List ℕ). run x (want d)) e
gap-want (more {a = a} h g) d = ap (λ (x : Sign). run a (wanted x d)) h ∙ gap-want g d

step-blank : {d : ℕ} {s : Mode} (c : ℕ) → Ended d s → sign_of c ≡ Blank → step s c ≡ got d
step-blank c past h = rw h
step-blank c digit h = rw h

step-infix : {d : ℕ} {s : Mode} {o : Binary} (c : ℕ) → Ended d s → sign_of c ≡ Infix o → step s c ≡ want d
step-infix c past h = rw h
step-infix c digit h = rw h

step-close : {d : ℕ} {s : Mode} (c : ℕ) → Ended (suc d) s → sign_of c ≡ Close → step s c ≡ got d
step-close c past h = rw h
step-close c digit h = rw h

gap-ended : {a b : List ℕ} {d : ℕ} {s : Mode} → Gap a b → Ended d s → Ends a s b d
gap-ended {s = s} (none e) x = record { state = s; ended = x; same = ap (λ (z : List ℕ). run z s) e }
gap-ended (more {c = c} {a = a} h g) x =
    let y = gap-ended g past in
    record { state = y.state; ended = y.ended; same = ap (λ (z : Mode). run a z) (step-blank c x h) ∙ y.same }

spelt_run : (w : List ℕ) (b : List ℕ) (d : ℕ) → run (w ++ b) (spelt w d) ≡ run b (got d)
unfolding pick
spelt_run [] b d = refl
spelt_run (x ∷ w) b d = ap (λ (z : Bool). run (w ++ b) (pick z (spelt w d) dead)) (eq-eqb x x refl) ∙ spelt_run w b d

figures-run : {n : ℕ} {a b : List ℕ} → Figures n a b → n < propositions_most → (d : ℕ) → run a (number d) ≡ run b (figure n d)
unfolding pick both
figures-run (first {b = b} h) l d = ap (λ (x : Sign). run b (numbered x d)) h
figures-run (further {n = n} {m = m} {b = b} f p h) l d =
    figures-run f (omega arith) d ∙ ap (λ (x : Sign). run b (figured x n d)) h ∙ rw (lt-ltb 0 n p, lt-ltb (10 * n + m) propositions_most l)

named-run : {f : Formula} {a b : List ℕ} → Named f a b → (d : ℕ) → Ends a (want d) b d
named-run (truth {v = v} {a = a} {b = b} h e) d =
    record {
      state = got d;
      ended = past;
      same = ap (λ (x : Sign). run a (wanted x d)) h ∙ ap (λ (x : List ℕ). run x (spelt (spelling v) d)) e ∙ spelt_run (spelling v) b d;
    }
named-run (proposition {n = n} {a = a} h f l) d =
    record { state = figure n d; ended = digit; same = ap (λ (x : Sign). run a (wanted x d)) h ∙ figures-run f l d }

-- the machine passes what the grammar reads
spells-run : {k : ℕ} {f : Formula} {a b : List ℕ} → Spells k f a b → (d : ℕ) → Ends a (want d) b d
spells-run (word w g) d =
    let x = named-run w d in
    let y = gap-ended g x.ended in
    record { state = y.state; ended = y.ended; same = x.same ∙ y.same }
spells-run (prefixed {a = a} h g r) d =
    let y = spells-run r d in
    record { state = y.state; ended = y.ended; same = ap (λ (x : Sign). run a (wanted x d)) h ∙ gap-want g d ∙ y.same }
spells-run (bracketed {e = e} {a = a} {d = b} h g r k i) d =
    let x = spells-run r (suc d) in
    let y = gap-ended i past in
    record {
      state = y.state;
      ended = y.ended;
      same = ap (λ (z : Sign). run a (wanted z d)) h ∙ gap-want g (suc d) ∙ x.same ∙ ap (λ (z : Mode). run b z) (step-close e x.ended k) ∙ y.same;
    }
spells-run (alone r) d = spells-run r d
spells-run (joined {c = c} {b = b} r h l g i) d =
    let x = spells-run r d in
    let y = spells-run i d in
    record {
      state = y.state;
      ended = y.ended;
      same = x.same ∙ ap (λ (z : Mode). run b z) (step-infix c x.ended h) ∙ gap-want g d ∙ y.same;
    }

ended-final : {s : Mode} → Ended 0 s → final s ≡ true
ended-final past = refl
ended-final digit = refl

-- a text of the grammar is accepted
pub text-accepts : {t : List ℕ} {f : Formula} → Text t f → accepts t ≡ true
text-accepts x =
    let y = spells-run x.spells 0 in
    ap final (gap-want x.gap 0 ∙ y.same) ∙ ended-final y.ended
