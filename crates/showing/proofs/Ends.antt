-- A formula's text has ended: a bracket that waits is put (`ended-close`), then the sign behind it (`ended-sign`), or nothing waits
-- (`ended-all`). Assumes nothing.
use mathlib.Core.Path.{◌≡◌, refl, sym, ap, ◌∙◌, subst}
use mathlib.Core.Bool.{true, false, true≢false}
use mathlib.Core.List.{List, [], ◌∷◌}
use Prim.Native.Nat.{ℕ, suc, ◌+◌, ◌<◌, ◌≤◌}
use native.Mathlib.Omega.{arith}
use lib.ListN.{length, get_or, set, drop, length-set}
use lib.Seq.{drop-cons}
use borrow.Author.Tests.{eqb-true, eqb-false, eq-eqb, ne_eqb}
use Rattle.lists.specs.Tests.{pick}
use Rattle.lists.proofs.Drops.{drop-long}
use Rattle.kinds.specs.declared.Join.TheVariants.{And, Or}
use Rattle.kinds.specs.declared.Binary.{Binary}
use Rattle.kinds.specs.declared.Binary.TheVariants.{Joined, Until}
use Rattle.ltl.specs.Formula.{Formula}
use Rattle.text.specs.Signs.{level}
use Rattle.text.specs.Printing.{binary_sign, close_sign, shown}
use Rattle.showing.specs.Dues.{Due, close, sign, sign_before, closes_first, Trailing, nothing, closed, infixed, done, next}
use Rattle.showing.specs.Shows.{Penned, Showing, Shown}
use Rattle.showing.proofs.Words.{put_byte}
use Rattle.showing.proofs.Pens.{penned-put, penned-space, penned-more, penned-first, penned-pop}

-- the sign by the level of the text behind it
sign-before : (o : Binary) → sign_before (suc (level o)) ≡ binary_sign o
unfolding sign_before pick
sign-before Until = refl
sign-before (Joined And) = refl
sign-before (Joined Or) = refl

-- nothing waits
pub ended-all : {text dues : List ℕ} {at top : ℕ} {gs : List Formula} {whole : List ℕ} → Shown text dues at top gs whole → length dues ≤ top
    → (k : ℕ) → Showing text dues at (length dues) k gs whole
ended-all {text} {dues} {at} {top} {gs} {whole} x h k =
    let w = x.penned.within in
    let e : top ≡ length dues = omega arith in subst (λ (n : ℕ). Showing text dues at n k gs whole) e (go e x.waits x.bytes x.behind x.penned)
  where
    go : top ≡ length dues → {gs : List Formula} (ds : List Due) (bs : List ℕ) → Trailing ds gs bs → Penned text dues at top ds gs bs whole → Showing text dues at top k gs whole
    go e [] bs nothing p = record { waits = []; bytes = []; coming = done; penned = p }
    go e (d ∷ ds) bs b p = absurd (let m = penned-more p in omega arith)

-- a bracket waits first
pub record EndedClose (text dues : List ℕ) (at top : ℕ) (gs : List Formula) (whole : List ℕ) : Type 0 where
  pub space : at < length text
  pub more : top < length dues
  pub shown : Shown (set text at close_sign) dues (at + 1) (top + 1) gs whole

pub ended-close : {text dues : List ℕ} {at top : ℕ} {gs : List Formula} {whole : List ℕ} → Shown text dues at top gs whole → top < length dues → get_or dues top 0 ≡ 0
    → EndedClose text dues at top gs whole
ended-close {text} {dues} {at} {top} {gs} {whole} x h z = go x.waits x.bytes x.behind x.penned
  where
    e : closes_first (drop top dues) ≡ true
    e = ap closes_first (drop-cons dues top 0 h) ∙ eq-eqb (get_or dues top 0) 0 z

    go : {gs : List Formula} (ds : List Due) (bs : List ℕ) → Trailing ds gs bs → Penned text dues at top ds gs bs whole → EndedClose text dues at top gs whole
    go [] bs b p = absurd (true≢false (sym e ∙ ap closes_first p.stack))
    go {gs} (close ∷ ds) bs (closed {b = b} y q) p =
        let s = penned-space p (close_sign ∷ []) b q in
        let h : at < length text = omega arith in
        record {
          space = h;
          more = penned-more p;
          shown =
              record {
                waits = ds;
                bytes = b;
                behind = y;
                penned = penned-put (penned-pop p) gs q (put_byte text at close_sign h) (length-set text at close_sign) (omega arith);
              };
        }
    go (sign o ∷ ds) bs b p = absurd (let z = eqb-true (suc (level o)) 0 (ap closes_first (sym p.stack) ∙ e) in omega arith)

-- a sign waits first
pub record EndedSign (text dues : List ℕ) (at top : ℕ) (gs : List Formula) (whole : List ℕ) (c k : ℕ) : Type 0 where
  pub space : at < length text
  pub showing : Showing (set text at c) dues (at + 1) (top + 1) k gs whole

pub ended-sign : {text dues : List ℕ} {at top : ℕ} {gs : List Formula} {whole : List ℕ} → Shown text dues at top gs whole → top < length dues → (get_or dues top 0 ≡ 0 → ⊥)
    → {c k : ℕ} → k ≡ get_or dues top 0 → c ≡ sign_before k → EndedSign text dues at top gs whole c k
ended-sign {text} {dues} {at} {top} {gs} {whole} x h z {c} {k} i j = go x.waits x.bytes x.behind x.penned
  where
    e : closes_first (drop top dues) ≡ false
    e = ap closes_first (drop-cons dues top 0 h) ∙ ne_eqb (get_or dues top 0) 0 z

    go : {gs : List Formula} (ds : List Due) (bs : List ℕ) → Trailing ds gs bs → Penned text dues at top ds gs bs whole → EndedSign text dues at top gs whole c k
    go [] bs b p = absurd (let l = drop-long dues [] top p.within p.stack in omega arith)
    go (close ∷ ds) bs b p = absurd (eqb-false 0 0 (ap closes_first (sym p.stack) ∙ e) refl)
    go {gs} (sign o ∷ ds) bs (infixed {g = g} {b = b} y q) p =
        let f : k ≡ suc (level o) = i ∙ penned-first p in
        let t : c ≡ binary_sign o = j ∙ ap sign_before f ∙ sign-before o in
        let r : bs ≡ c ∷ shown g k b = q ∙ (λ a. sym t a ∷ shown g (sym f a) b) in
        let s = penned-space p (c ∷ []) (shown g k b) r in
        let h : at < length text = omega arith in
        record {
          space = h;
          showing =
              record {
                waits = ds;
                bytes = shown g k b;
                coming = next y refl;
                penned = penned-put (penned-pop p) gs r (put_byte text at c h) (length-set text at c) (omega arith);
              };
        }
