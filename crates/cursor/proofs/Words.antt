-- The rest of a word, letter by letter and digit by digit: one law for each turn of the two loops, and for each way out of them that refuses.
-- Where a word ends the search finds it. Assumes nothing.
use mathlib.Core.Path.{◌≡◌, refl, sym, ap, ◌∙◌}
use mathlib.Core.Bool.{Bool, true, false}
use mathlib.Core.List.{List, [], ◌∷◌}
use Prim.Native.Nat.{ℕ, suc, ◌+◌, ◌*◌, ◌≤◌, ◌<◌}
use lib.ListN.{length, get_or, drop}
use lib.Seq.{drop-cons}
use lib.Dec.{ltb}
use native.Mathlib.Omega.{arith}
use native.Mathlib.Numerals.{add-one}
use borrow.Author.Tests.{eq-eqb, ne_eqb, lt-ltb, le-ltb}
use Rattle.lists.specs.Tests.{pick, both}
use Rattle.limits.specs.Limits.{propositions_most}
use Rattle.text.specs.declared.Sign.{Sign}
use Rattle.text.specs.declared.Sign.TheVariants.{Blank, Prefix, Infix, Open, Close, Word, Letter, Digit, Other}
use Rattle.text.specs.Signs.{sign_of}
use Rattle.text.specs.Machine.{got, number, figure, dead, spelt, numbered, figured, step, final, alive}
use Rattle.cursor.specs.declared.TextCursor.{TextCursor}
use Rattle.cursor.specs.declared.Token.{Token}
use Rattle.cursor.specs.declared.Token.TheVariants.{Space, Operator, Bracket, Operand, Finished, Wrong}
use Rattle.cursor.specs.declared.TextStep.{TextStep}
use Rattle.cursor.specs.Positions.{Stands, Behind, Moves}
use Rattle.cursor.specs.Readers.{WordIs, WordRead}
use Rattle.cursor.proofs.Moving.{moves-on, moves-ends, moves-past, ends-here, ends-end}

-- ---- letters
pub spelt-alive : (w : List ℕ) (d : ℕ) → alive (spelt w d) ≡ true
spelt-alive [] d = refl
spelt-alive (x ∷ w) d = refl

-- the letters before the k-th of the word w were read from c to e
pub record Lettered (t w : List ℕ) (c e : TextCursor) (k : ℕ) : Type 0 where
  pub stands : Stands t e
  pub after : c.byte ≤ e.byte
  pub moves : (d : ℕ) → Moves t c.byte (spelt w d) e.byte (spelt (drop k w) d)

module _ {t w : List ℕ} {c e : TextCursor} {k : ℕ} (l : Lettered t w c e k) (h : k < length w) where
  pub letters-more : {x : TextCursor} → Behind t e x → e.byte < length t → get_or t e.byte 0 ≡ get_or w k 0 → Lettered t w c x (k + 1)
  unfolding pick
  letters-more {x = x} b there is =
      let a = l.after in
      let n = b.next in
      record {
        stands = b.stands;
        after = omega arith;
        moves = λ d. moves-on (l.moves d)
            (moves-past t e x (spelt (drop k w) d) (spelt (drop (k + 1) w) d) b there (one d) (spelt-alive (drop (k + 1) w) d));
      }
    where
      one : (d : ℕ) → step (spelt (drop k w) d) (get_or t e.byte 0) ≡ spelt (drop (k + 1) w) d
      one d =
          ap (λ (z : List ℕ). step (spelt z d) (get_or t e.byte 0)) (drop-cons w k 0 h)
          ∙ ap (λ (z : Bool). pick z (spelt (drop (suc k) w) d) dead) (eq-eqb (get_or t e.byte 0) (get_or w k 0) is)
          ∙ ap (λ (n : ℕ). spelt (drop n w) d) (sym (add-one k))

  pub letters-other : {r : TextStep} → e.byte < length t → (get_or t e.byte 0 ≡ get_or w k 0 → ⊥) → r ≡ record { at = e; seen = Wrong } → WordRead t c (spelt w) r
  unfolding pick
  letters-other there is q =
      rw q (record {
        stands = l.stands;
        after = l.after;
        is = λ d. moves-ends (l.moves d) (ends-here t e.byte (spelt (drop k w) d) there
            (ap (λ (z : List ℕ). step (spelt z d) (get_or t e.byte 0)) (drop-cons w k 0 h)
            ∙ ap (λ (z : Bool). pick z (spelt (drop (suc k) w) d) dead) (ne_eqb (get_or t e.byte 0) (get_or w k 0) is)));
      })

  pub letters-end : {r : TextStep} → length t ≤ e.byte → r ≡ record { at = e; seen = Wrong } → WordRead t c (spelt w) r
  letters-end end q =
      rw q (record {
        stands = l.stands;
        after = l.after;
        is = λ d. moves-ends (l.moves d) (ends-end t e.byte (spelt (drop k w) d) end (ap (λ (z : List ℕ). final (spelt z d)) (drop-cons w k 0 h)));
      })

-- ---- digits
-- the byte b that stands at i is the digit that the code has in hand
pub digit_here : (t : List ℕ) (i : ℕ) {b m n : ℕ} {s : Sign} → b ≡ get_or t i 0 → s ≡ sign_of b → s ≡ Digit m → n ≡ m → sign_of (get_or t i 0) ≡ Digit n
digit_here t i at is told e = ap sign_of (sym at) ∙ sym is ∙ told ∙ ap Digit (sym e)

-- what is no digit is no first digit
no_digit : (s : Sign) → ((m : ℕ) → s ≡ Digit m → ⊥) → (d : ℕ) → numbered s d ≡ dead
no_digit Blank f d = refl
no_digit (Prefix o) f d = refl
no_digit (Infix o) f d = refl
no_digit Open f d = refl
no_digit Close f d = refl
no_digit (Word v) f d = refl
no_digit Letter f d = refl
no_digit (Digit n) f d = absurd (f n refl)
no_digit Other f d = refl

both-no : (x : Bool) → both x false ≡ false
unfolding both
both-no true = refl
both-no false = refl

-- digits from c to e have made the number v of the first ones, n
pub record Figured (t : List ℕ) (c e : TextCursor) (n v : ℕ) : Type 0 where
  pub stands : Stands t e
  pub after : c.byte ≤ e.byte
  pub few : v < propositions_most
  pub moves : (d : ℕ) → Moves t c.byte (figure n d) e.byte (figure v d)

module _ {t : List ℕ} {c e : TextCursor} {n v m : ℕ} (f : Figured t c e n v) (there : e.byte < length t) (digit : sign_of (get_or t e.byte 0) ≡ Digit m) where
  one : (d : ℕ) → (z : Bool) → both (ltb 0 v) (ltb (10 * v + m) propositions_most) ≡ z → step (figure v d) (get_or t e.byte 0) ≡ pick z (figure (10 * v + m) d) dead
  one d z q = ap (λ (s : Sign). figured s v d) digit ∙ ap (λ (x : Bool). pick x (figure (10 * v + m) d) dead) q

  figures-dead : {r : TextStep} → both (ltb 0 v) (ltb (10 * v + m) propositions_most) ≡ false → r ≡ record { at = e; seen = Wrong } → WordRead t c (figure n) r
  unfolding pick
  figures-dead q y =
      rw y (record {
        stands = f.stands;
        after = f.after;
        is = λ d. moves-ends (f.moves d) (ends-here t e.byte (figure v d) there (one d false q));
      })

  pub figures-zero : {r : TextStep} → v ≡ 0 → r ≡ record { at = e; seen = Wrong } → WordRead t c (figure n) r
  unfolding both
  figures-zero z = figures-dead (ap (λ (x : Bool). both x (ltb (10 * v + m) propositions_most)) (le-ltb 0 v (omega arith)))

  pub figures-large : {r : TextStep} → propositions_most ≤ 10 * v + m → r ≡ record { at = e; seen = Wrong } → WordRead t c (figure n) r
  figures-large l = figures-dead (ap (both (ltb 0 v)) (le-ltb (10 * v + m) propositions_most l) ∙ both-no (ltb 0 v))

  pub figures-more : {x : TextCursor} → Behind t e x → (v ≡ 0 → ⊥) → 10 * v + m < propositions_most → Figured t c x n (10 * v + m)
  unfolding pick both
  figures-more {x = x} b z l =
      let a = f.after in
      let p = b.next in
      let some : 0 < v = omega arith in
      record {
        stands = b.stands;
        after = omega arith;
        few = l;
        moves = λ d. moves-on (f.moves d) (moves-past t e x (figure v d) (figure (10 * v + m) d) b there
            (one d true (rw (lt-ltb 0 v some, lt-ltb (10 * v + m) propositions_most l))) refl);
      }

module _ {t : List ℕ} {c : TextCursor} (stands : Stands t c) (there : c.byte < length t) where
  pub number-none : {r : TextStep} → ((m : ℕ) → sign_of (get_or t c.byte 0) ≡ Digit m → ⊥) → r ≡ record { at = c; seen = Wrong } → WordRead t c number r
  number-none h q =
      rw q (record {
        stands = stands;
        after = omega arith;
        is = λ d. ends-here t c.byte (number d) there (no_digit (sign_of (get_or t c.byte 0)) h d);
      })

  pub number-first : {n : ℕ} {x : TextCursor} {r : TextStep} → sign_of (get_or t c.byte 0) ≡ Digit n → Behind t c x → WordRead t x (figure n) r → WordRead t c number r
  number-first {n} {x = x} {r = r} digit b w =
      let a = w.after in
      let p = b.next in
      record { stands = w.stands; after = omega arith; is = λ d. go d r.seen (w.is d) }
    where
      first : (d : ℕ) → Moves t c.byte (number d) x.byte (figure n d)
      first d = moves-past t c x (number d) (figure n d) b there (ap (λ (s : Sign). numbered s d) digit) refl

      go : (d : ℕ) (k : Token) → WordIs t x.byte (figure n d) (got d) k r.at.byte → WordIs t c.byte (number d) (got d) k r.at.byte
      go d Space w = w
      go d Operator w = w
      go d Bracket w = w
      go d Operand w = moves-on (first d) w
      go d Finished w = w
      go d Wrong w = moves-ends (first d) w
