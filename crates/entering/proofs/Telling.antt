-- Tokens compared: `says-equal`, `says-low`, `says-high`, `texts-apart` and `texts-told` are the answers for two tokens; `Told` is what
-- has been found so far of two runs, `runs-alike` and `runs-apart` are the answers. Assumes nothing.
use mathlib.Core.Path.{◌≡◌, refl, sym, ap, ◌∙◌, subst}
use mathlib.Core.Bool.{Bool, true, false}
use mathlib.Core.Logic.{⊎_elim}
use mathlib.Core.List.{List, [], ◌∷◌}
use Prim.Native.Nat.{ℕ, ◌+◌, ◌-◌, ◌<◌, ◌≤◌}
use native.Mathlib.Nat.{eq-or-lt_of_le}
use native.Mathlib.Omega.{arith}
use lib.ListN.{length, get_or, take, drop, length-drop, length-map, get_or-map}
use lib.Seq.{ext_get_or, get_or-take, get_or-drop, length-take-le}
use lib.Dec.{ltb}
use borrow.Author.Tests.{ltb-true, ltb-false}
use Rattle.lists.proofs.Tests.{no_true, test-eq}
use Rattle.kinds.specs.Kinds.{unary_code}
use Rattle.kinds.specs.declared.Unary.TheVariants.{Next}
use Rattle.ltl.specs.Formula.{same}
use Rattle.ltl.proofs.Equal.{same-eq, same_refl}
use Rattle.ltl.proofs.Decoding.{size-some}
use Rattle.nodes.proofs.Fronts.{front_length}
use Rattle.buffers.specs.Compares.{Compares}
use Rattle.choices.specs.Marks.{length_in}
use Rattle.tokens.specs.Tokens.{text_code}
use Rattle.tokens.specs.Said.{said, TextHeld, Readable}
use Rattle.tokens.proofs.Lines.{said-code, said-text, said_all, spelt-same, spelt-alike, spelt-readable}
use Rattle.entering.specs.Comparing.{SaysSame, run_of, RunsAsk, RunsTold}

-- ---- a text
-- the n bytes at a place are a text's
pub record TextRead (bytes : List ℕ) (at n : ℕ) : Type 0 where
  pub some : 0 < n
  pub inside : at + n ≤ length bytes

pub text-read : (bytes marks : List ℕ) (t at n : ℕ) → Readable bytes marks t → text_code ≤ t → at ≡ t - text_code → n ≡ length_in (get_or marks at 0) → TextRead bytes at n
text-read bytes marks t at n h l e d =
    let x : TextHeld bytes marks at = subst (TextHeld bytes marks) (sym e) (h l) in
    let g = x.formula in
    let f = front_length (drop at bytes) g x.stands.rest x.stands.front in
    let c = length-drop at bytes in
    let z = size-some g in
    let m = x.stands.marked in
    record { some = omega arith; inside = omega arith }

read-long : {bytes : List ℕ} {at n : ℕ} → TextRead bytes at n → length (take n (drop at bytes)) ≡ n
read-long {bytes = bytes} {at = at} {n = n} r = let c = length-drop at bytes in length-take-le n (drop at bytes) (let i = r.inside in omega arith)

-- ---- two tokens
module _ (bytes marks : List ℕ) (t u : ℕ) where
  pub says-equal : t ≡ u → SaysSame bytes marks t u true
  says-equal e = record { alike = λ q. ap (said bytes marks) e; differ = λ q. absurd (no_true (sym q)) }

  says-no : (said bytes marks t ≡ said bytes marks u → ⊥) → SaysSame bytes marks t u false
  says-no h = record { alike = λ q. absurd (no_true q); differ = λ q. h }

-- what a text says
text_says : (bytes marks : List ℕ) (t at n : ℕ) → text_code ≤ t → at ≡ t - text_code → n ≡ length_in (get_or marks at 0) → said bytes marks t ≡ unary_code Next ∷ take n (drop at bytes)
text_says bytes marks t at n l e d =
    said-text bytes marks t l
    ∙ ap (λ (k : ℕ). unary_code Next ∷ take (length_in (get_or marks k 0)) (drop k bytes)) (sym e)
    ∙ ap (λ (k : ℕ). unary_code Next ∷ take k (drop at bytes)) (sym d)

-- it says more than one byte
text-long : (bytes marks : List ℕ) (t : ℕ) → Readable bytes marks t → text_code ≤ t → 1 < length (said bytes marks t)
text-long bytes marks t h l =
    let r = text-read bytes marks t (t - text_code) (length_in (get_or marks (t - text_code) 0)) h l refl refl in
    let z = ap length (text_says bytes marks t (t - text_code) (length_in (get_or marks (t - text_code) 0)) l refl refl) in
    let y = read-long r in
    let s = r.some in
    omega arith

-- a code and a text
code-text : (bytes marks : List ℕ) (t u : ℕ) → Readable bytes marks u → t < text_code → text_code ≤ u → said bytes marks t ≡ said bytes marks u → ⊥
code-text bytes marks t u h l m e =
    let a = ap length (sym (said-code bytes marks t l) ∙ e) in
    let b = text-long bytes marks u h m in
    omega arith

module _ (bytes marks : List ℕ) (t u : ℕ) where
  -- the first is a code
  pub says-low : (t ≡ u → ⊥) → t < text_code → Readable bytes marks u → SaysSame bytes marks t u false
  says-low d l h = says-no bytes marks t u (go (ltb u text_code) refl)
    where
      go : (b : Bool) → ltb u text_code ≡ b → said bytes marks t ≡ said bytes marks u → ⊥
      go true q e =
          let p : t ∷ [] ≡ u ∷ [] = sym (said-code bytes marks t l) ∙ e ∙ said-code bytes marks u (ltb-true u text_code q) in
          d (ap (λ (x : List ℕ). get_or x 0 0) p)
      go false q e = code-text bytes marks t u h l (ltb-false u text_code q) e

  -- the second alone
  pub says-high : text_code ≤ t → u < text_code → Readable bytes marks t → SaysSame bytes marks t u false
  says-high l m h = says-no bytes marks t u (λ e. code-text bytes marks u t h m l (sym e))

  module _ (a b n m : ℕ) (l : text_code ≤ t) (k : text_code ≤ u) (p : a ≡ t - text_code) (q : b ≡ u - text_code) (d : n ≡ length_in (get_or marks a 0)) (e : m ≡ length_in (get_or marks b 0)) where
    -- two texts of other lengths
    pub texts-apart : Readable bytes marks t → Readable bytes marks u → (n ≡ m → ⊥) → SaysSame bytes marks t u false
    texts-apart h i z =
        says-no bytes marks t u
        (λ w.
        let x = read-long (text-read bytes marks t a n h l p d) in
        let y = read-long (text-read bytes marks u b m i k q e) in
        let v = ap length (sym (text_says bytes marks t a n l p d) ∙ w ∙ text_says bytes marks u b m k q e) in
        z (omega arith))

    -- of one length
    pub texts-told : n ≡ m → (r : Bool) → Compares bytes a b n r → SaysSame bytes marks t u r
    texts-told z r c =
        let x : said bytes marks t ≡ unary_code Next ∷ take n (drop a bytes) = text_says bytes marks t a n l p d in
        let y : said bytes marks u ≡ unary_code Next ∷ take n (drop b bytes) = text_says bytes marks u b n k q (z ∙ e) in
        record { alike = λ w. x ∙ ap (unary_code Next ∷◌) (c.alike w) ∙ sym y; differ = λ w v. c.differ w (ap (drop 1) (sym x ∙ v ∙ y)) }

-- ---- two runs
-- the first i tokens say the same
pub record Told (bytes marks bodies : List ℕ) (from : ℕ) (tokens : List ℕ) (i : ℕ) : Type 0 where
  pub each : (j : ℕ) → j < i → said bytes marks (get_or tokens j 0) ≡ said bytes marks (get_or bodies (from + j) 0)

module _ (bytes marks bodies : List ℕ) (from : ℕ) (tokens : List ℕ) where
  pub told_none : Told bytes marks bodies from tokens 0
  told_none = record { each = λ j h. absurd (omega arith) }

  pub told_more : (i : ℕ) → Told bytes marks bodies from tokens i → said bytes marks (get_or tokens i 0) ≡ said bytes marks (get_or bodies (from + i) 0)
      → Told bytes marks bodies from tokens (i + 1)
  told_more i k e =
      record { each = λ j h. let m : j ≤ i = omega arith in ⊎_elim (λ z. subst Same (sym z) e) (k.each j) (eq-or-lt_of_le m) }
    where
      Same : ℕ → Type 0
      Same j = said bytes marks (get_or tokens j 0) ≡ said bytes marks (get_or bodies (from + j) 0)

  -- the run
  abbrev other : List ℕ
  other = run_of bodies from (length tokens)

  pub run_at : (j : ℕ) → j < length tokens → get_or (run_of bodies from (length tokens)) j 0 ≡ get_or bodies (from + j) 0
  run_at j h = get_or-take (length tokens) (drop from bodies) j 0 h ∙ get_or-drop from bodies j 0

  module _ (ask : RunsAsk bytes marks bodies from tokens) where
    pub run_long : length (run_of bodies from (length tokens)) ≡ length tokens
    run_long =
        let c = length-drop from bodies in
        let r = ask.room in
        length-take-le (length tokens) (drop from bodies) (omega arith)

    pub run-readable : (j : ℕ) → j < length tokens → Readable bytes marks (get_or bodies (from + j) 0)
    run-readable j h = subst (Readable bytes marks) (run_at j h) (spelt-readable bytes marks ask.right j (let l = run_long in omega arith))

    said-all : Told bytes marks bodies from tokens (length tokens) → said_all bytes marks tokens ≡ said_all bytes marks other
    said-all k =
        let l = length-map tokens (said bytes marks) in
        ext_get_or (said bytes marks 0) (said_all bytes marks tokens) (said_all bytes marks other)
        (l ∙ sym run_long ∙ sym (length-map other (said bytes marks)))
        (λ j h.
        get_or-map (said bytes marks) tokens j 0
        ∙ k.each j (omega arith)
        ∙ ap (said bytes marks) (sym (run_at j (omega arith)))
        ∙ sym (get_or-map (said bytes marks) other j 0))

    pub runs-alike : (i : ℕ) → length tokens ≤ i → Told bytes marks bodies from tokens i → RunsTold bytes marks bodies from tokens true
    runs-alike i l k f g c d s t =
        let all : Told bytes marks bodies from tokens (length tokens) = record { each = λ j h. k.each j (omega arith) } in
        sym (ap (same f) (sym (spelt-same bytes marks f g tokens other s t c d (said-all all))) ∙ same_refl f)

    pub runs-apart : (i : ℕ) → i < length tokens → (said bytes marks (get_or tokens i 0) ≡ said bytes marks (get_or bodies (from + i) 0) → ⊥)
        → RunsTold bytes marks bodies from tokens false
    runs-apart i l h f g c d s t =
        test-eq false (same f g) (λ z. absurd (no_true z)) (λ z. absurd (h (at_i (spelt-alike bytes marks f g tokens other s t c d (same-eq f g z)))))
      where
        at_i : said_all bytes marks tokens ≡ said_all bytes marks other → said bytes marks (get_or tokens i 0) ≡ said bytes marks (get_or bodies (from + i) 0)
        at_i e =
            sym (get_or-map (said bytes marks) tokens i 0)
            ∙ ap (λ (x : List (List ℕ)). get_or x i (said bytes marks 0)) e
            ∙ get_or-map (said bytes marks) other i 0
            ∙ ap (said bytes marks) (run_at i l)
