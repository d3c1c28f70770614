-- The machine goes on by one byte (`moves-one`), dies at one (`ends-here`) or is at the end of the text (`ends-end`): all that a reader
-- knows of it. Others use `moves-on` and `moves-ends`. Assumes nothing.
use mathlib.Core.Path.{◌≡◌, refl, sym, ap, ◌∙◌, subst}
use mathlib.Core.Bool.{true, false}
use mathlib.Core.List.{List, [], ◌∷◌}
use Prim.Native.Nat.{ℕ, suc, ◌+◌, ◌≤◌, ◌<◌}
use lib.ListN.{length, get_or, drop, drop_of_length-le}
use lib.Seq.{drop-cons}
use native.Mathlib.Omega.{arith}
use native.Mathlib.Numerals.{add-one}
use Rattle.lists.specs.Tests.{pick}
use Rattle.text.specs.declared.Sign.{Sign}
use Rattle.text.specs.declared.Sign.TheVariants.{Blank}
use Rattle.text.specs.Machine.{Mode, want, got, dead, wanted, follows, step, run, final, alive, passed}
use Rattle.cursor.specs.declared.TextCursor.{TextCursor}
use Rattle.cursor.specs.Positions.{Sees, Behind, Moves, Ends}
use Rattle.cursor.specs.Readers.{GapRead}

pub moves-none : (t : List ℕ) (i : ℕ) (s : Mode) → Moves t i s i s
moves-none t i s = record { same = refl; place = refl }

pub moves-on : {t : List ℕ} {i j k : ℕ} {s u v : Mode} → Moves t i s j u → Moves t j u k v → Moves t i s k v
moves-on p q = record { same = p.same ∙ q.same; place = p.place ∙ q.place }

pub moves-ends : {t : List ℕ} {i j k : ℕ} {s u : Mode} → Moves t i s j u → Ends t j u k → Ends t i s k
moves-ends p q = record { refuses = p.same ∙ q.refuses; place = p.place ∙ q.place }

run-dead : (t : List ℕ) → run t dead ≡ dead
run-dead [] = refl
run-dead (c ∷ t) = run-dead t

-- the next byte leads from s to u, which is alive
pub moves-one : (t : List ℕ) (i : ℕ) (s u : Mode) → i < length t → step s (get_or t i 0) ≡ u → alive u ≡ true → Moves t i s (i + 1) u
unfolding pick
moves-one t i s u h e a =
    record {
      same = rw (add-one i, drop-cons t i 0 h) (ap (λ (x : Mode). final (run (drop (suc i) t) x)) e);
      place = rw (add-one i, drop-cons t i 0 h) (go (step s (get_or t i 0)) e);
    }
  where
    go : (x : Mode) → x ≡ u → i + pick (alive x) (suc (passed (drop (suc i) t) x)) 0 ≡ suc i + passed (drop (suc i) t) u
    go x q = rw (q, a) (omega arith)

-- the next byte kills the machine
pub ends-here : (t : List ℕ) (i : ℕ) (s : Mode) → i < length t → step s (get_or t i 0) ≡ dead → Ends t i s i
unfolding pick
ends-here t i s h e =
    record {
      refuses =
          rw (drop-cons t i 0 h)
          (ap (λ (x : Mode). final (run (drop (suc i) t) x)) e ∙ ap final (run-dead (drop (suc i) t)));
      place = rw (drop-cons t i 0 h) (go (step s (get_or t i 0)) e);
    }
  where
    go : (x : Mode) → x ≡ dead → i + pick (alive x) (suc (passed (drop (suc i) t) x)) 0 ≡ i
    go x q = rw q (omega arith)

-- the text is at its end
pub ends-end : (t : List ℕ) (i : ℕ) (s : Mode) → length t ≤ i → final s ≡ false → Ends t i s i
ends-end t i s h e = record { refuses = rw (drop_of_length-le t h) e; place = rw (drop_of_length-le t h) (omega arith) }

-- two modes that the next byte leads to the same one
pub moves-alike : (t : List ℕ) (i : ℕ) (s u : Mode) → i < length t → step s (get_or t i 0) ≡ step u (get_or t i 0) → Moves t i s i u
unfolding pick
moves-alike t i s u h e =
    record {
      same = rw (drop-cons t i 0 h) (ap (λ (x : Mode). final (run (drop (suc i) t) x)) e);
      place = rw (drop-cons t i 0 h) (ap (λ (x : Mode). i + pick (alive x) (suc (passed (drop (suc i) t) x)) 0) e);
    }

-- the byte behind which x stands leads from s to u
pub moves-past : (t : List ℕ) (c x : TextCursor) (s u : Mode) → Behind t c x → c.byte < length t → step s (get_or t c.byte 0) ≡ u → alive u ≡ true
    → Moves t c.byte s x.byte u
moves-past t c x s u b h e a = subst (λ (j : ℕ). Moves t c.byte s j u) (sym b.next) (moves-one t c.byte s u h e a)

-- ---- gaps
-- one blank more was passed
pub gap_more : {t : List ℕ} {c e x : TextCursor} → GapRead t c e → Sees t e Blank → Behind t e x → GapRead t c x
gap_more {t = t} {c = c} {e = e} {x = x} g b p =
    let a = g.after in
    let n = p.next in
    record {
      stands = p.stands;
      after = omega arith;
      wants = λ d. moves-on (g.wants d) (moves-past t e x (want d) (want d) p b.there (ap (λ (k : Sign). wanted k d) (sym b.is)) refl);
      gots = λ d. moves-on (g.gots d) (moves-past t e x (got d) (got d) p b.there (ap (λ (k : Sign). follows k d) (sym b.is)) refl);
    }
