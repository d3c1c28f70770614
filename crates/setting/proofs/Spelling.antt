-- Laws of tokens that spell a formula, each by induction on the spelling, with what stands behind as an argument: the place holders among
-- the tokens are those of the formula (`held-spells`, `held-spelt`); writing them token by token (`written`) writes the formula with its
-- new numbers (`written-spells`); and each token may be written (`asked-spells`). `among-left` and `among-right` say that what is in a list
-- is in one that it is a part of. Assumes nothing.
use mathlib.Core.Path.{◌≡◌, refl, sym, ap, ap₂, ◌∙◌}
use mathlib.Core.Bool.{Bool, true, false}
use mathlib.Core.List.{List, [], ◌∷◌, ◌++◌, append_assoc, append-nil}
use Prim.Native.Nat.{ℕ, zero, suc, ◌+◌, ◌-◌, ◌<◌, ◌≤◌}
use native.Mathlib.Nat.{add-sub_cancel_left}
use native.Mathlib.Omega.{arith}
use lib.ListN.{length, get_or, take, drop, length-drop}
use lib.Dec.{eqb}
use borrow.Author.Tests.{lt-ltb, le-ltb, eq-eqb}
use Rattle.lists.specs.Tests.{pick, both, either}
use Rattle.lists.proofs.Tests.{no_true, either-right}
use Rattle.limits.specs.Limits.{holder_codes}
use Rattle.kinds.specs.Kinds.{leaf_code, unary_code, join_code, hold_code}
use Rattle.kinds.specs.declared.Leaf.TheVariants.{Const, Prop, Hold}
use Rattle.kinds.specs.declared.Unary.TheVariants.{Not, Next, Ever}
use Rattle.kinds.specs.declared.Join.{Join}
use Rattle.kinds.specs.declared.Join.TheVariants.{And, Or}
use Rattle.kinds.specs.declared.Binary.TheVariants.{Joined, Until}
use Rattle.ltl.specs.Formula.{Formula, leaf, one, two, size, encode, Coded}
use Rattle.ltl.proofs.Decoding.{size-some}
use Rattle.nodes.proofs.Fronts.{front_length, front-own}
use Rattle.registers.specs.Relaying.{holds_of, is_among}
use Rattle.registers.specs.Numbers.{renumbered}
use Rattle.tokens.specs.Tokens.{text_code, TextAt, SpellsFrom, spells-leaf, spells-not, spells-next, spells-join, Spelt, held_in}
use Rattle.setting.specs.Setting.{text_at, put_of, TextInside, TokenAsk}

-- ---- what is in a list
pub among-left : (k : ℕ) (xs ys : List ℕ) → is_among k xs ≡ true → is_among k (xs ++ ys) ≡ true
unfolding is_among either
among-left k [] ys h = absurd (no_true h)
among-left k (x ∷ xs) ys h = go (eqb k x) (among-left k xs ys) h
  where
    go : (b : Bool) → (is_among k xs ≡ true → is_among k (xs ++ ys) ≡ true) → either b (is_among k xs) ≡ true → either b (is_among k (xs ++ ys)) ≡ true
    go true f e = refl
    go false f e = f e

pub among-right : (k : ℕ) (xs ys : List ℕ) → is_among k ys ≡ true → is_among k (xs ++ ys) ≡ true
unfolding is_among
among-right k [] ys h = h
among-right k (x ∷ xs) ys h = ap (either (eqb k x)) (among-right k xs ys h) ∙ either-right (eqb k x)

among-own : (k : ℕ) (xs : List ℕ) → is_among k (k ∷ xs) ≡ true
unfolding is_among either
among-own k xs = rw (eq-eqb k k refl)

-- ---- a token by its range
module _ (t : ℕ) where
  held-code : (ts : List ℕ) → t < hold_code → held_in (t ∷ ts) ≡ held_in ts
  unfolding held_in both pick
  held-code ts h = let k : t + 1 ≤ hold_code = omega arith in rw (le-ltb hold_code (t + 1) k)

  held-holder : (ts : List ℕ) → hold_code ≤ t → t < text_code → held_in (t ∷ ts) ≡ (t - hold_code) ∷ held_in ts
  unfolding held_in both pick
  held-holder ts h l = let k : hold_code < t + 1 = omega arith in rw (lt-ltb hold_code (t + 1) k, lt-ltb t text_code l)

  held-text : (ts : List ℕ) → text_code ≤ t → held_in (t ∷ ts) ≡ held_in ts
  unfolding held_in both pick
  held-text ts h = let k : hold_code < t + 1 = omega arith in rw (lt-ltb hold_code (t + 1) k, le-ltb t text_code h)

  module _ (bytes marks numbers : List ℕ) where
    pub put-code : t < hold_code → put_of bytes marks numbers t ≡ t ∷ []
    unfolding put_of pick
    put-code h = rw (lt-ltb t hold_code h)

    pub put-holder : hold_code ≤ t → t < text_code → put_of bytes marks numbers t ≡ (hold_code + get_or numbers (t - hold_code) 0) ∷ []
    unfolding put_of pick
    put-holder h l = rw (le-ltb t hold_code h, lt-ltb t text_code l)

    pub put_next : text_code ≤ t → put_of bytes marks numbers t ≡ unary_code Next ∷ text_at bytes marks (t - text_code)
    unfolding put_of pick
    put_next h = let k : hold_code ≤ t = omega arith in rw (le-ltb t hold_code k, le-ltb t text_code h)

    ask-code : t < hold_code → TokenAsk bytes marks numbers t
    ask-code h = record { numbered = λ k l. absurd (omega arith); few = λ k l. absurd (omega arith); text = λ k. absurd (omega arith) }

-- a joining node's code, and that of a leaf that is no place holder, is below those of place holders
join-below : (j : Join) → join_code j < hold_code
join-below And = omega arith
join-below Or = omega arith

const-below : (v : Bool) → leaf_code (Const v) < hold_code
const-below true = omega arith
const-below false = omega arith

-- ---- the place holders
pub held-spells : (bytes marks : List ℕ) {f : Formula} {a b : List ℕ} → SpellsFrom bytes marks f a b → Coded f → held_in a ≡ holds_of f ++ held_in b
unfolding holds_of
held-spells bytes marks (spells-leaf {b = b} (Const v)) w = held-code (leaf_code (Const v)) b (const-below v)
held-spells bytes marks (spells-leaf {b = b} (Prop i)) w = held-code (leaf_code (Prop i)) b (omega arith)
held-spells bytes marks (spells-leaf {b = b} (Hold k)) w =
    held-holder (hold_code + k) b (omega arith) (omega arith) ∙ ap (◌∷ held_in b) (add-sub_cancel_left hold_code k)
held-spells bytes marks (spells-not {a = a} s) w = held-code (unary_code Not) a (omega arith) ∙ held-spells bytes marks s w
held-spells bytes marks (spells-next {b = b} at x) w = held-text (text_code + at) b (omega arith)
held-spells bytes marks (spells-join {f = f} {g = g} {a = a} {b = b} {c = c} j s r) w =
    held-code (join_code j) a (join-below j) ∙ held-spells bytes marks s w.0 ∙ ap (holds_of f ++◌) (held-spells bytes marks r w.1)
    ∙ sym (append_assoc (holds_of f) (holds_of g) (held_in c))

-- of the formula's own tokens
pub held-spelt : (bytes marks : List ℕ) {f : Formula} {tokens : List ℕ} → Spelt bytes marks f tokens → Coded f → held_in tokens ≡ holds_of f
unfolding held_in
held-spelt bytes marks {f = f} s w = held-spells bytes marks s w ∙ append-nil (holds_of f)

-- ---- the text under next
-- it is the formula's bytes
text-own : (bytes marks : List ℕ) (at : ℕ) (f : Formula) → TextAt bytes marks at f → text_at bytes marks at ≡ encode f
text-own bytes marks at f x = ap (λ (n : ℕ). take n (drop at bytes)) x.marked ∙ front-own (drop at bytes) f x.rest x.front

-- it lies inside the bytes
text-inside : (bytes marks : List ℕ) (at : ℕ) (f : Formula) → length bytes ≤ length marks → TextAt bytes marks at f → TextInside bytes marks at
text-inside bytes marks at f h x =
    let l = front_length (drop at bytes) f x.rest x.front in
    let d = length-drop at bytes in
    let s = size-some f in
    let m = x.marked in
    record { marked = omega arith; inside = omega arith }

-- ---- what is written
-- the nodes of all tokens
abbrev pub written : List ℕ → List ℕ → List ℕ → List ℕ → List ℕ
written bytes marks numbers [] = []
written bytes marks numbers (t ∷ ts) = put_of bytes marks numbers t ++ written bytes marks numbers ts

module _ (bytes marks numbers : List ℕ) (number : ℕ → ℕ) where
  -- the table has the numbers of the place holders in f
  abbrev Agrees : Formula → Type 0
  Agrees f = (k : ℕ) → is_among k (holds_of f) ≡ true → get_or numbers k 0 ≡ number k

  put-held : (k : ℕ) → k < holder_codes → get_or numbers k 0 ≡ number k
      → put_of bytes marks numbers (hold_code + k) ≡ (hold_code + number k) ∷ []
  put-held k h e =
      put-holder (hold_code + k) bytes marks numbers (omega arith) (omega arith)
      ∙ ap (λ (m : ℕ). (hold_code + get_or numbers m 0) ∷ []) (add-sub_cancel_left hold_code k)
      ∙ ap (λ (m : ℕ). (hold_code + m) ∷ []) e

  put-text : (at : ℕ) (f : Formula) → TextAt bytes marks at f → put_of bytes marks numbers (text_code + at) ≡ unary_code Next ∷ encode f
  put-text at f x =
      put_next (text_code + at) bytes marks numbers (omega arith)
      ∙ ap (λ (m : ℕ). unary_code Next ∷ text_at bytes marks m) (add-sub_cancel_left text_code at)
      ∙ ap (unary_code Next ∷◌) (text-own bytes marks at f x)

  pub written-spells : {f : Formula} {a b : List ℕ} → SpellsFrom bytes marks f a b → Coded f → ((k : ℕ) → is_among k (holds_of f) ≡ true → get_or numbers k 0 ≡ number k)
      → written bytes marks numbers a ≡ encode (renumbered number f) ++ written bytes marks numbers b
  unfolding holds_of
  written-spells (spells-leaf {b = b} (Const v)) w e =
      ap (◌++ written bytes marks numbers b) (put-code (leaf_code (Const v)) bytes marks numbers (const-below v))
  written-spells (spells-leaf {b = b} (Prop i)) w e =
      ap (◌++ written bytes marks numbers b) (put-code (leaf_code (Prop i)) bytes marks numbers (omega arith))
  written-spells (spells-leaf {b = b} (Hold k)) w e =
      ap (◌++ written bytes marks numbers b) (put-held k w (e k (among-own k [])))
  written-spells (spells-not {a = a} s) w e =
      ap (◌++ written bytes marks numbers a) (put-code (unary_code Not) bytes marks numbers (omega arith))
      ∙ ap (unary_code Not ∷◌) (written-spells s w e)
  written-spells (spells-next {f = f} {b = b} at x) w e =
      ap (◌++ written bytes marks numbers b) (put-text at f x)
  written-spells (spells-join {f = f} {g = g} {a = a} {b = b} {c = c} j s r) w e =
      ap (◌++ written bytes marks numbers a) (put-code (join_code j) bytes marks numbers (join-below j))
      ∙ ap (join_code j ∷◌)
      (written-spells s w.0 (λ k h. e k (among-left k (holds_of f) (holds_of g) h))
      ∙ ap (encode (renumbered number f) ++◌) (written-spells r w.1 (λ k h. e k (among-right k (holds_of f) (holds_of g) h)))
      ∙ sym (append_assoc (encode (renumbered number f)) (encode (renumbered number g)) (written bytes marks numbers c)))

-- of the formula's own tokens
pub written-spelt : (bytes marks numbers : List ℕ) (number : ℕ → ℕ) {f : Formula} {tokens : List ℕ} → Spelt bytes marks f tokens → Coded f
    → ((k : ℕ) → is_among k (holds_of f) ≡ true → get_or numbers k 0 ≡ number k) → written bytes marks numbers tokens ≡ encode (renumbered number f)
written-spelt bytes marks numbers number {f = f} s w e =
    written-spells bytes marks numbers number s w e ∙ append-nil (encode (renumbered number f))

-- new numbers change no length
pub renumbered-size : (number : ℕ → ℕ) (f : Formula) → size (renumbered number f) ≡ size f
renumbered-size number (leaf (Const v)) = refl
renumbered-size number (leaf (Prop i)) = refl
renumbered-size number (leaf (Hold k)) = refl
renumbered-size number (one Not f) = ap (λ (n : ℕ). 1 + n) (renumbered-size number f)
renumbered-size number (one Next f) = refl
renumbered-size number (one (Ever j) f) = refl
renumbered-size number (two (Joined j) f g) = ap₂ (λ (m n : ℕ). 1 + m + n) (renumbered-size number f) (renumbered-size number g)
renumbered-size number (two Until f g) = refl

-- ---- each token may be written
module _ (bytes marks numbers : List ℕ) where
  abbrev pub AllAsk : List ℕ → Type 0
  AllAsk [] = Unit {0}
  AllAsk (t ∷ ts) = TokenAsk bytes marks numbers t × AllAsk ts

  pub asked-at : (ts : List ℕ) (i : ℕ) → i < length ts → AllAsk ts → TokenAsk bytes marks numbers (get_or ts i 0)
  asked-at [] i h x = absurd (omega arith)
  asked-at (t ∷ ts) zero h x = x.0
  asked-at (t ∷ ts) (suc i) h x = asked-at ts i (omega arith) x.1

  ask-holder : (k : ℕ) → k < holder_codes → k < length numbers → get_or numbers k 0 < holder_codes → TokenAsk bytes marks numbers (hold_code + k)
  ask-holder k c h l = record { numbered = λ a b. rw (add-sub_cancel_left hold_code k) h; few = λ a b. rw (add-sub_cancel_left hold_code k) l; text = λ a. absurd (omega arith) }

  ask-text : (at : ℕ) → TextInside bytes marks at → TokenAsk bytes marks numbers (text_code + at)
  ask-text at x = record { numbered = λ a b. absurd (omega arith); few = λ a b. absurd (omega arith); text = λ a. rw (add-sub_cancel_left text_code at) x }

  module _ (long : length bytes ≤ length marks) where
    pub asked-spells : {f : Formula} {a b : List ℕ} → SpellsFrom bytes marks f a b → Coded f
        → ((k : ℕ) → is_among k (holds_of f) ≡ true → k < length numbers)
        → ((k : ℕ) → is_among k (holds_of f) ≡ true → get_or numbers k 0 < holder_codes) → AllAsk b → AllAsk a
    unfolding holds_of
    asked-spells (spells-leaf (Const v)) w n e x = (ask-code (leaf_code (Const v)) bytes marks numbers (const-below v), x)
    asked-spells (spells-leaf (Prop i)) w n e x = (ask-code (leaf_code (Prop i)) bytes marks numbers (omega arith), x)
    asked-spells (spells-leaf (Hold k)) w n e x = (ask-holder k w (n k (among-own k [])) (e k (among-own k [])), x)
    asked-spells (spells-not s) w n e x = (ask-code (unary_code Not) bytes marks numbers (omega arith), asked-spells s w n e x)
    asked-spells (spells-next {f = f} at y) w n e x = (ask-text at (text-inside bytes marks at f long y), x)
    asked-spells (spells-join {f = f} {g = g} j s r) w n e x =
        (ask-code (join_code j) bytes marks numbers (join-below j), asked-spells s w.0 (λ k h. n k (among-left k (holds_of f) (holds_of g) h)) (λ k h. e k (among-left k (holds_of f) (holds_of g) h)) (asked-spells r w.1 (λ k h. n k (among-right k (holds_of f) (holds_of g) h)) (λ k h. e k (among-right k (holds_of f) (holds_of g) h)) x))
