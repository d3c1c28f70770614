-- What is read, byte by byte, are the boards as they are typed. A name is read as its number (`name-read`), so a list of names as
-- their mask (`more-read`). And what is read as a mask is a list: what was read of the name that is under way stands in front of what
-- is left (`front`), and each byte keeps that (`list_of`). Others use `dash-typed`, `list-typed` and `typed_one`. Assumes nothing.
use mathlib.Core.Path.{◌≡◌, refl, sym, ap, subst, ◌∙◌}
use mathlib.Core.Bool.{Bool, true, false}
use Rattle.std.specs.Prelude.{Option, Some, None}
use mathlib.Core.List.{List, [], ◌∷◌, ◌++◌, map, append-nil}
use Prim.Native.Nat.{ℕ, ◌+◌, ◌-◌, ◌*◌, ◌/◌, ◌%◌, ◌^◌, ◌<◌, ◌≤◌}
use native.Mathlib.Omega.{arith}
use lib.ListN.{length, get_or}
use lib.Bits.{bit_or}
use lib.Dec.{ltb, leb, eqb}
use borrow.Author.Tests.{lt-ltb, le-ltb, ltb-true, ltb-false, leb-true, ne_eqb, eqb-true}
use Rattle.lists.specs.Tests.{pick, both, in_range}
use Rattle.lists.proofs.Tests.{pick-elim, both-0, both-1, no_true}
use Rattle.limits.specs.Limits.{propositions_most}
use Rattle.masks.specs.Masks.{union_with}
use Rattle.spelling.specs.declared.typed.NameStage.{NameStage}
use Rattle.spelling.specs.declared.typed.NameStage.TheVariants.{Name, First, Second, Full, Wrong}
use Rattle.spelling.specs.declared.typed.ListRead.{ListRead}
use Rattle.spelling.specs.Typed.{name_of, more_text, list_text, Propositions, mask_of, Typed, none, some, TypedAs}
use Rattle.spelling.specs.Reading.{digit_of, with_name, list_read, behind, second_digit, turned, ended, spelled, at_start, is_dash}
use Rattle.spelling.proofs.Spelled.{first-is, second_is}

-- ---- digits and names
digit_value : (d : ℕ) → d < 10 → digit_of (48 + d) ≡ d
unfolding digit_of pick
digit_value d h = let e : (48 + d) - 48 ≡ d = omega arith in rw (le-ltb (48 + d) 48 (omega arith), le-ltb 57 (48 + d) (omega arith)) e

-- a byte that has a digit's value is that digit
digit-byte : (c : ℕ) → digit_of c < 10 → c ≡ 48 + digit_of c
unfolding digit_of
digit-byte c =
    pick-elim (λ (d : ℕ). d < 10 → c ≡ 48 + d) (ltb c 48) 10 (pick (ltb 57 c) 10 (c - 48)) (λ q h. absurd (omega arith))
    (λ q. pick-elim (λ (d : ℕ). d < 10 → c ≡ 48 + d) (ltb 57 c) 10 (c - 48) (λ p h. absurd (omega arith)) (λ p h. let l = ltb-false c 48 q in omega arith))

name-short : (i : ℕ) → i < 10 → name_of i ≡ 112 ∷ (48 + i) ∷ []
unfolding name_of pick
name-short i h = rw (lt-ltb i 10 h)

name-long : (n d : ℕ) → 1 ≤ n → d < 10 → name_of (10 * n + d) ≡ 112 ∷ (48 + n) ∷ (48 + d) ∷ []
unfolding name_of pick
name-long n d l h =
    let e : (10 * n + d) / 10 ≡ n = omega arith in
    let f : (10 * n + d) % 10 ≡ d = omega arith in
    rw (le-ltb (10 * n + d) 10 (omega arith), e, f)

with-name-is : (m n : ℕ) → n < propositions_most → with_name m n ≡ Some (bit_or m (2 ^ n))
unfolding with_name pick
with-name-is m n h = rw (lt-ltb n propositions_most h)

-- ---- a list is read as its mask
-- behind a name, which may go on where it has one digit
after_name : ℕ → NameStage
after_name i = pick (ltb i 10) (Second i) (Full i)

after-comma : (i m : ℕ) → i < propositions_most → turned 44 (after_name i) m ≡ list_read Name (bit_or m (2 ^ i))
unfolding after_name pick
after-comma i m h =
    pick-elim (λ (s : NameStage). turned 44 s m ≡ list_read Name (bit_or m (2 ^ i))) (ltb i 10) (Second i) (Full i) (λ q. comma) (λ q. comma)
  where
    comma : behind m (with_name m i) ≡ list_read Name (bit_or m (2 ^ i))
    comma = ap (behind m) (with-name-is m i h)

after-end : (i m : ℕ) → i < propositions_most → ended (after_name i) m ≡ Some (bit_or m (2 ^ i))
unfolding after_name
after-end i m h =
    pick-elim (λ (s : NameStage). ended s m ≡ Some (bit_or m (2 ^ i))) (ltb i 10) (Second i) (Full i) (λ q. with-name-is m i h) (λ q. with-name-is m i h)

second-full : (n d m : ℕ) → 1 ≤ n → n ≤ 9 → d < 10 → turned (48 + d) (Second n) m ≡ list_read (Full (10 * n + d)) m
unfolding pick
second-full n d m l k h =
    rw (ne_eqb (48 + d) 44 (λ e. omega arith)) (ap (λ (s : NameStage). list_read s m) (sym (second_is (48 + d) d m (sym (digit_value d h)) n l k h)))

long-read : (n d m : ℕ) (rest : List ℕ) → 1 ≤ n → n ≤ 9 → d < 10
    → spelled (name_of (10 * n + d) ++ rest) (list_read Name m) ≡ spelled rest (list_read (Full (10 * n + d)) m)
unfolding pick
long-read n d m rest l k h =
    ap (λ (x : List ℕ). spelled (x ++ rest) (list_read Name m)) (name-long n d l h)
    ∙ ap (spelled ((48 + d) ∷ rest)) (sym (first-is (48 + n) n m (sym (digit_value n (omega arith))) (omega arith)))
    ∙ ap (spelled rest) (second-full n d m l k h)

name-read : (i m : ℕ) (rest : List ℕ) → i < propositions_most → spelled (name_of i ++ rest) (list_read Name m) ≡ spelled rest (list_read (after_name i) m)
unfolding after_name pick
name-read i m rest h = go (ltb i 10) refl
  where
    go : (b : Bool) → ltb i 10 ≡ b → spelled (name_of i ++ rest) (list_read Name m) ≡ spelled rest (list_read (pick b (Second i) (Full i)) m)
    go true q =
        let l = ltb-true i 10 q in
        ap (λ (x : List ℕ). spelled (x ++ rest) (list_read Name m)) (name-short i l)
        ∙ ap (spelled rest) (sym (first-is (48 + i) i m (sym (digit_value i l)) l))
    go false q =
        let l = ltb-false i 10 q in
        let e : 10 * (i / 10) + i % 10 ≡ i = omega arith in
        subst (λ (x : ℕ). spelled (name_of x ++ rest) (list_read Name m) ≡ spelled rest (list_read (Full x) m)) e
        (long-read (i / 10) (i % 10) m rest (omega arith) (omega arith) (omega arith))

more-read : (is : List ℕ) (i m : ℕ) → Propositions (i ∷ is) → spelled (more_text is) (list_read (after_name i) m) ≡ Some (union_with m (map (λ j. 2 ^ j) (i ∷ is)))
unfolding union_with
more-read [] i m h = after-end i m h.0
more-read (j ∷ js) i m h =
    ap (spelled (name_of j ++ more_text js)) (after-comma i m h.0)
    ∙ name-read j (bit_or m (2 ^ i)) (more_text js) h.1.0
    ∙ more-read js j (bit_or m (2 ^ i)) h.1

list_read_lem : (i : ℕ) (is : List ℕ) → Propositions (i ∷ is) → spelled (list_text (i ∷ is)) at_start ≡ Some (mask_of (i ∷ is))
list_read_lem i is h = name-read i 0 (more_text is) h.0 ∙ more-read is i 0 h

-- ---- what is read as a mask is a list
-- what was read of the name that is under way
abbrev front : NameStage → List ℕ
front Name = []
front First = 112 ∷ []
front (Second n) = 112 ∷ (48 + n) ∷ []
front (Full n) = name_of n
front Wrong = []

-- of the first digit the value is a digit's
abbrev Fit : NameStage → Type 0
Fit Name = Unit {0}
Fit First = Unit {0}
Fit (Second n) = n < 10
Fit (Full n) = Unit {0}
Fit Wrong = Unit {0}

-- a text is a list whose propositions, added to a mask, give another
record ListAdds (t : List ℕ) (m k : ℕ) : Type 0 where
  first : ℕ
  more : List ℕ
  few : Propositions (first ∷ more)
  text-is : t ≡ list_text (first ∷ more)
  mask_is : k ≡ union_with m (map (λ j. 2 ^ j) (first ∷ more))

list-as : {m k : ℕ} (t t' : List ℕ) → t ≡ t' → ListAdds t m k → ListAdds t' m k
list-as {m} {k} t t' e l = subst (λ (x : List ℕ). ListAdds x m k) e l

wrong_stays : (t : List ℕ) (m : ℕ) → spelled t (list_read Wrong m) ≡ None
wrong_stays [] m = refl
wrong_stays (c ∷ t) m = wrong_stays t m

name-ends : (n m k : ℕ) → with_name m n ≡ Some k → ListAdds (name_of n) m k
unfolding with_name union_with
name-ends n m k =
    pick-elim (λ (a : Option ℕ). a ≡ Some k → ListAdds (name_of n) m k) (ltb n propositions_most) (Some (bit_or m (2 ^ n))) None
    (λ q e. record { first = n; more = []; few = (ltb-true n propositions_most q, tt); text-is = sym (append-nil (name_of n)); mask_is = cc })
    (λ q e. cc)

comma-ends : (t : List ℕ) (n m k : ℕ) → ((a : ℕ) → spelled t (list_read Name a) ≡ Some k → ListAdds t a k) → spelled t (behind m (with_name m n)) ≡ Some k
    → ListAdds (name_of n ++ (44 ∷ t)) m k
unfolding with_name union_with
comma-ends t n m k rest =
    pick-elim (λ (a : Option ℕ). spelled t (behind m a) ≡ Some k → ListAdds (name_of n ++ (44 ∷ t)) m k) (ltb n propositions_most) (Some (bit_or m (2 ^ n))) None
    (λ q e.
    let r = rest (bit_or m (2 ^ n)) e in
    record { first = n; more = r.first ∷ r.more; few = (ltb-true n propositions_most q, r.few); text-is = ap (λ (x : List ℕ). name_of n ++ (44 ∷ x)) r.text-is; mask_is = r.mask_is })
    (λ q e. cc (wrong_stays t m))

list_of : (t : List ℕ) (s : NameStage) (m k : ℕ) → Fit s → spelled t (list_read s m) ≡ Some k → ListAdds (front s ++ t) m k
list_of [] Name m k f e = cc
list_of [] First m k f e = cc
list_of [] (Second n) m k f e = list-as (name_of n) (112 ∷ (48 + n) ∷ []) (name-short n f) (name-ends n m k e)
list_of [] (Full n) m k f e = list-as (name_of n) (name_of n ++ []) (sym (append-nil (name_of n))) (name-ends n m k e)
list_of [] Wrong m k f e = cc
list_of (c ∷ t) Name m k f e =
    pick-elim (λ (s : NameStage). spelled t (list_read s m) ≡ Some k → ListAdds (c ∷ t) m k) (eqb c 112) First Wrong
    (λ q p. list-as (112 ∷ t) (c ∷ t) (ap (λ (x : ℕ). x ∷ t) (sym (eqb-true c 112 q))) (list_of t First m k tt p))
    (λ q p. cc (wrong_stays t m)) e
list_of (c ∷ t) First m k f e =
    pick-elim (λ (s : NameStage). spelled t (list_read s m) ≡ Some k → ListAdds (112 ∷ c ∷ t) m k) (ltb (digit_of c) 10) (Second (digit_of c)) Wrong
    (λ q p.
    let l = ltb-true (digit_of c) 10 q in
    list-as (112 ∷ (48 + digit_of c) ∷ t) (112 ∷ c ∷ t) (ap (λ (x : ℕ). 112 ∷ x ∷ t) (sym (digit-byte c l))) (list_of t (Second (digit_of c)) m k l p))
    (λ q p. cc (wrong_stays t m)) e
list_of (c ∷ t) (Second n) m k f e =
    pick-elim (λ (s : ListRead). spelled t s ≡ Some k → ListAdds (112 ∷ (48 + n) ∷ c ∷ t) m k) (eqb c 44) (behind m (with_name m n)) (list_read (second_digit c n) m)
    (λ q p.
    list-as (name_of n ++ (44 ∷ t)) (112 ∷ (48 + n) ∷ c ∷ t) (ap (λ (x : List ℕ). x ++ (44 ∷ t)) (name-short n f) ∙ ap (λ (x : ℕ). 112 ∷ (48 + n) ∷ x ∷ t) (sym (eqb-true c 44 q)))
    (comma-ends t n m k (λ a p. list_of t Name a k tt p) p))
    (λ _. pick-elim (λ (s : NameStage). spelled t (list_read s m) ≡ Some k → ListAdds (112 ∷ (48 + n) ∷ c ∷ t) m k) (both (in_range 9 n) (ltb (digit_of c) 10)) (Full (10 * n + digit_of c)) Wrong
    (λ q p.
    let l = ltb-true (digit_of c) 10 (both-1 (in_range 9 n) (ltb (digit_of c) 10) q) in
    let h = leb-true 1 n (both-0 (leb 1 n) (leb n 9) (both-0 (in_range 9 n) (ltb (digit_of c) 10) q)) in
    list-as (name_of (10 * n + digit_of c) ++ t) (112 ∷ (48 + n) ∷ c ∷ t) (ap (λ (x : List ℕ). x ++ t) (name-long n (digit_of c) h l) ∙ ap (λ (x : ℕ). 112 ∷ (48 + n) ∷ x ∷ t) (sym (digit-byte c l)))
    (list_of t (Full (10 * n + digit_of c)) m k tt p))
    (λ q p. cc (wrong_stays t m))) e
list_of (c ∷ t) (Full n) m k f e =
    pick-elim (λ (s : ListRead). spelled t s ≡ Some k → ListAdds (name_of n ++ (c ∷ t)) m k) (eqb c 44) (behind m (with_name m n)) (list_read Wrong m)
    (λ q p. list-as (name_of n ++ (44 ∷ t)) (name_of n ++ (c ∷ t)) (ap (λ (x : ℕ). name_of n ++ (x ∷ t)) (sym (eqb-true c 44 q))) (comma-ends t n m k (λ a p. list_of t Name a k tt p) p))
    (λ q p. cc (wrong_stays t m)) e
list_of (c ∷ t) Wrong m k f e = cc (wrong_stays t m)

-- ---- boards
dash-is : (t : List ℕ) → length t ≡ 1 → get_or t 0 0 ≡ 45 → t ≡ 45 ∷ []
dash-is [] l e = absurd (omega arith)
dash-is (c ∷ []) l e = ap (λ (x : ℕ). x ∷ []) e
dash-is (c ∷ d ∷ t) l e = absurd (omega arith)

pub dash-typed : (t : List ℕ) → is_dash t ≡ true → Typed t 0
unfolding is_dash
dash-typed t h = none (dash-is t (eqb-true (length t) 1 (both-0 (eqb (length t) 1) (eqb (get_or t 0 0) 45) h)) (eqb-true (get_or t 0 0) 45 (both-1 (eqb (length t) 1) (eqb (get_or t 0 0) 45) h))) refl

-- no list is a dash
no-dash : (i : ℕ) (is : List ℕ) → is_dash (list_text (i ∷ is)) ≡ true → ⊥
unfolding is_dash name_of
no-dash i is h = no_true (both-1 (eqb (length (list_text (i ∷ is))) 1) false h)

-- what a board is read as
board_in : List ℕ → Option ℕ
board_in t = pick (is_dash t) (Some 0) (spelled t at_start)

-- the mask of a board is the one that is read
typed-read : (t : List ℕ) (m : ℕ) → Typed t m → board_in t ≡ Some m
unfolding board_in pick is_dash both
typed-read t m (none e z) = ap board_in e ∙ ap Some (sym z)
typed-read t m (some i is h e z) =
    ap board_in e
    ∙ pick-elim (λ (a : Option ℕ). a ≡ Some (mask_of (i ∷ is))) (is_dash (list_text (i ∷ is))) (Some 0) (spelled (list_text (i ∷ is)) at_start) (λ q. absurd (no-dash i is q)) (λ q. list_read_lem i is h)
    ∙ ap Some (sym z)

pub list-typed : (t : List ℕ) (r : Option ℕ) → is_dash t ≡ false → r ≡ spelled t at_start → TypedAs t r
unfolding board_in pick
list-typed t (Some m) d e = let l = list_of t Name 0 m tt (sym e) in some l.first l.more l.few l.text-is l.mask_is
list-typed t None d e = λ m q. cc (listed, typed-read t m q)
  where
    listed : spelled t at_start ≡ board_in t
    listed = rw d

-- a text is one board at the most
pub typed_one : (t : List ℕ) (m k : ℕ) → Typed t m → Typed t k → m ≡ k
typed_one t m k p q = cc (typed-read t m p, typed-read t k q)
