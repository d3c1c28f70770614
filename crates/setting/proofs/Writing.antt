-- Nodes written from the front of a list, token by token. `text-done` is a text behind next, `code-done` one byte; `Writing` is what the
-- loop has written where it stands, by `writing_start` and `writing_more`; `writing-room` is what a turn may write, `writing-done` what
-- is left at the end. Assumes nothing.
use mathlib.Core.Path.{◌≡◌, refl, sym, ap, ap₂, ◌∙◌}
use mathlib.Core.List.{List, [], ◌∷◌, ◌++◌, append_assoc, append-nil}
use Prim.Native.Nat.{ℕ, ◌+◌, ◌-◌, ◌<◌, ◌≤◌}
use native.Mathlib.Numerals.{add-one}
use native.Mathlib.Omega.{arith}
use lib.ListN.{length, get_or, set, take, drop, length-append, length-drop, drop_of_length-le, take-append-drop}
use lib.Seq.{drop-cons, take_at, drop_at, length-take-le}
use Rattle.lists.specs.Runs.{tail, tail_as}
use Rattle.lists.proofs.Parts.{tail-length}
use Rattle.lists.proofs.Stretches.{put_first, put-more, set_first}
use Rattle.kinds.specs.Kinds.{unary_code}
use Rattle.kinds.specs.declared.Unary.TheVariants.{Next}
use Rattle.ltl.specs.Formula.{size}
use Rattle.ltl.proofs.Decoding.{length-encode}
use Rattle.registers.specs.Numbers.{renumbered}
use Rattle.choices.specs.Marks.{length_in}
use Rattle.setting.specs.Setting.{text_at, put_of, TextInside, TokenAsk, SetAsk, Sets}
use Rattle.setting.proofs.Spelling.{written, written-spelt, renumbered-size, asked-at, asked-spells}

-- what a writer of nodes leaves: how many, and the nodes in front
abbrev pub Puts : List ℕ → List ℕ → List ℕ → ℕ → Type 0
Puts nodes before after n = (n ≡ length nodes) × (after ≡ nodes ++ drop n before)

-- ---- one token
-- one byte
pub code-done : (p nodes : List ℕ) (b : ℕ) → 0 < length p → nodes ≡ b ∷ [] → Puts nodes p (set p 0 b) 1
code-done p nodes b h e = (sym (ap length e), set_first p b h ∙ ap (◌++ drop 1 p) (sym e))

-- how long the text is
pub text-length : (bytes marks : List ℕ) (at : ℕ) → TextInside bytes marks at → length (text_at bytes marks at) ≡ length_in (get_or marks at 0)
text-length bytes marks at x =
    let d = length-drop at bytes in
    let i = x.inside in
    length-take-le (length_in (get_or marks at 0)) (drop at bytes) (omega arith)

-- the part that is copied is the text
pub text-part : (bytes marks : List ℕ) (at n : ℕ) → n ≡ length_in (get_or marks at 0) → take (at + n - at) (drop at bytes) ≡ text_at bytes marks at
text-part bytes marks at n e =
    let h : at + n - at ≡ length_in (get_or marks at 0) = omega arith in
    ap (λ (k : ℕ). take k (drop at bytes)) h

-- next, and the text behind it
pub text-done : (p y bytes marks : List ℕ) (at n : ℕ) → TextInside bytes marks at → 0 < length p → n ≡ length_in (get_or marks at 0)
    → y ≡ take (at + n - at) (drop at bytes) ++ drop (length (take (at + n - at) (drop at bytes))) (tail 1 (set p 0 (unary_code Next)))
    → Puts (unary_code Next ∷ text_at bytes marks at) p (tail_as 1 (set p 0 (unary_code Next)) y) (1 + n)
text-done p y bytes marks at n a h e k =
    let q = set p 0 (unary_code Next) in
    let l : length (text_at bytes marks at) ≡ n = text-length bytes marks at a ∙ sym e in
    let z : y ≡ text_at bytes marks at ++ drop n (tail 1 q) = k ∙ ap₂ (λ (u : List ℕ) (m : ℕ). u ++ drop m (tail 1 q)) (text-part bytes marks at n e) (ap length (text-part bytes marks at n e) ∙ l) in
    (omega arith, put_first p y (text_at bytes marks at) (unary_code Next) n h z)

-- ---- token by token
-- i tokens are written, in w bytes
pub record Writing (bytes marks numbers tokens before out : List ℕ) (w i : ℕ) : Type 0 where
  pub few : i ≤ length tokens
  pub inside : w ≤ length out
  pub long : length out ≡ length before
  pub behind : drop w out ≡ drop w before
  pub done : take w out ++ written bytes marks numbers (drop i tokens) ≡ written bytes marks numbers tokens

pub writing_start : (bytes marks numbers tokens before : List ℕ) → Writing bytes marks numbers tokens before before 0 0
writing_start bytes marks numbers tokens before = record { few = omega arith; inside = omega arith; long = refl; behind = refl; done = refl }

module _ {bytes marks numbers tokens before out : List ℕ} {w i : ℕ} (x : Writing bytes marks numbers tokens before out w i) where
  -- the tokens that are left are the next one and the others
  writing-next : i < length tokens
      → written bytes marks numbers (drop i tokens) ≡ put_of bytes marks numbers (get_or tokens i 0) ++ written bytes marks numbers (drop (i + 1) tokens)
  writing-next h = ap (written bytes marks numbers) (drop-cons tokens i 0 h ∙ ap (λ (k : ℕ). get_or tokens i 0 ∷ drop k tokens) (sym (add-one i)))

  -- there is room for the next one
  pub writing-room : i < length tokens → length (written bytes marks numbers tokens) ≤ length before
      → length (put_of bytes marks numbers (get_or tokens i 0)) ≤ length (tail w out)
  writing-room h l =
      let a = ap length x.done in
      let b = length-append (take w out) (written bytes marks numbers (drop i tokens)) in
      let c = length-take-le w out x.inside in
      let d = ap length (writing-next h) in
      let e = length-append (put_of bytes marks numbers (get_or tokens i 0)) (written bytes marks numbers (drop (i + 1) tokens)) in
      let t = tail-length w out in
      let g = x.long in
      omega arith

  module _ (y : List ℕ) (n : ℕ) (h : i < length tokens) (k : Puts (put_of bytes marks numbers (get_or tokens i 0)) (tail w out) y n) where
    abbrev after : List ℕ
    after = tail_as w out y

    front : length (take w out ++ put_of bytes marks numbers (get_or tokens i 0)) ≡ w + n
    front =
        let a = length-append (take w out) (put_of bytes marks numbers (get_or tokens i 0)) in
        let c = length-take-le w out x.inside in
        let e = k.0 in
        omega arith

    stands : after ≡ (take w out ++ put_of bytes marks numbers (get_or tokens i 0)) ++ drop (w + n) before
    stands =
        put-more before out (take w out) (put_of bytes marks numbers (get_or tokens i 0)) y w n (length-take-le w out x.inside) (sym (take-append-drop w out) ∙ ap (take w out ++◌) x.behind) k.1

    pub writing-few : length (written bytes marks numbers tokens) ≤ length before → w + n ≤ length out
    writing-few l = let r = writing-room h l in let t = tail-length w out in let e = k.0 in let g = x.inside in omega arith

    pub writing_more : length (written bytes marks numbers tokens) ≤ length before → length after ≡ length out
        → Writing bytes marks numbers tokens before after (w + n) (i + 1)
    writing_more l m =
        let f = writing-few l in
        let z = take w out ++ put_of bytes marks numbers (get_or tokens i 0) in
        let t : take (w + n) after ≡ z = ap (take (w + n)) stands ∙ take_at z (drop (w + n) before) (w + n) front in
        record { few = omega arith; inside = omega arith; long = m ∙ x.long; behind = ap (drop (w + n)) stands ∙ drop_at z (drop (w + n) before) (w + n) front; done = ap (◌++ written bytes marks numbers (drop (i + 1) tokens)) t ∙ append_assoc (take w out) (put_of bytes marks numbers (get_or tokens i 0)) (written bytes marks numbers (drop (i + 1) tokens)) ∙ ap (take w out ++◌) (sym (writing-next h)) ∙ x.done }

  -- all are written
  writing-all : length tokens ≤ i → take w out ≡ written bytes marks numbers tokens
  writing-all h =
      sym (append-nil (take w out)) ∙ ap (λ (u : List ℕ). take w out ++ written bytes marks numbers u) (sym (drop_of_length-le tokens {i = i} h)) ∙ x.done

  pub writing-done : length tokens ≤ i → Sets bytes marks numbers tokens before out w
  writing-done h f number s c e =
      let a = writing-all h ∙ written-spelt bytes marks numbers number s c e in
      let l : w ≡ size f = sym (length-take-le w out x.inside) ∙ ap length a ∙ length-encode (renumbered number f) ∙ renumbered-size number f in
      record { read = l; stands = sym (take-append-drop w out) ∙ ap₂ ◌++◌ a (x.behind ∙ ap (λ (k : ℕ). drop k before) l) }

-- ---- what is asked
-- the nodes of all tokens have room
pub asked-room : {bytes marks numbers tokens : List ℕ} {room : ℕ} → SetAsk bytes marks numbers tokens room → length (written bytes marks numbers tokens) ≤ room
asked-room {bytes = bytes} {marks = marks} {numbers = numbers} a =
    let number : ℕ → ℕ = λ k. get_or numbers k 0 in
    let e = ap length (written-spelt bytes marks numbers number a.spelt a.coded (λ k h. refl)) ∙ length-encode (renumbered number a.formula) ∙ renumbered-size number a.formula in
    let f = a.fits in
    omega arith

-- each token may be written
pub asked-token : {bytes marks numbers tokens : List ℕ} {room : ℕ} → SetAsk bytes marks numbers tokens room → (i : ℕ) → i < length tokens
    → TokenAsk bytes marks numbers (get_or tokens i 0)
asked-token {bytes = bytes} {marks = marks} {numbers = numbers} {tokens = tokens} a i h =
    asked-at bytes marks numbers tokens i h (asked-spells bytes marks numbers a.marked a.spelt a.coded a.numbered a.few tt)
