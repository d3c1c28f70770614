-- What stands between two nodes is carried on: a word is put (`penned-put`), something waits more (`penned-push`) or no longer
-- (`penned-pop`). Assumes nothing.
use mathlib.Core.Path.{◌≡◌, sym, ap, ◌∙◌}
use mathlib.Core.List.{List, ◌∷◌, ◌++◌, map, append_assoc}
use Prim.Native.Nat.{ℕ, suc, ◌+◌, ◌*◌, ◌<◌, ◌≤◌}
use native.Mathlib.Omega.{arith}
use lib.ListN.{length, get_or, set, take, drop, length-append, length-set}
use lib.Seq.{drop-cons, drop-drop}
use Rattle.lists.proofs.Drops.{put-below, drop-long}
use Rattle.ltl.specs.Formula.{Formula}
use Rattle.peeling.specs.Peeled.{encodes}
use Rattle.showing.specs.Dues.{Due, due_code}
use Rattle.showing.specs.Shows.{Puts, Penned}

module _ {text dues : List ℕ} {at top : ℕ} {ds : List Due} {gs : List Formula} {bs whole : List ℕ} (x : Penned text dues at top ds gs bs whole) where
  -- the word xs was put, of what is to come the first
  pub penned-put : {text' xs rest : List ℕ} {r : ℕ} (hs : List Formula) → bs ≡ xs ++ rest → Puts xs text at text' r → length text' ≡ length text
      → length (encodes hs) ≤ length (encodes gs) → Penned text' dues r top ds hs rest whole
  penned-put {text'} {xs} {rest} {r} hs e p l n =
      let s = x.space in
      let a : length bs ≡ length xs + length rest = ap length e ∙ length-append xs rest in
      let b = p.ends in
      let m = x.room in
      record {
        puts = ap (◌++ rest) p.holds ∙ append_assoc (take at text) xs rest ∙ ap (take at text ++◌) (sym e) ∙ x.puts;
        space = omega arith;
        stack = x.stack;
        within = x.within;
        room = omega arith;
      }

  -- there is room for it
  pub penned-space : (xs rest : List ℕ) → bs ≡ xs ++ rest → at + length xs ≤ length text
  penned-space xs rest e = let s = x.space in let a : length bs ≡ length xs + length rest = ap length e ∙ length-append xs rest in omega arith

  -- d waits besides
  pub penned-push : (d : Due) (hs : List Formula) {k v : ℕ} → top ≡ suc k → v ≡ due_code d → 2 * length (encodes hs) ≤ k
      → Penned text (set dues k v) at k (d ∷ ds) hs bs whole
  penned-push d hs {k} {v} e c h =
      let w = x.within in
      let l = length-set dues k v in
      record {
        puts = x.puts;
        space = x.space;
        stack = put-below dues k top v e w ∙ ap (v ∷◌) x.stack ∙ ap (λ (b : ℕ). b ∷ map due_code ds) c;
        within = omega arith;
        room = h;
      }

-- what waits first waits no longer
module _ {text dues : List ℕ} {at top : ℕ} {d : Due} {ds : List Due} {gs : List Formula} {bs whole : List ℕ}
    (x : Penned text dues at top (d ∷ ds) gs bs whole) where
  pub penned-more : top < length dues
  penned-more = let l = drop-long dues (map due_code (d ∷ ds)) top x.within x.stack in omega arith

  pub penned-first : get_or dues top 0 ≡ due_code d
  penned-first =
      let e = sym (drop-cons dues top 0 penned-more) ∙ x.stack in
      ap (λ (l : List ℕ). get_or l 0 0) e

  pub penned-pop : Penned text dues at (top + 1) ds gs bs whole
  penned-pop =
      let m = penned-more in
      let h = x.room in
      record {
        puts = x.puts;
        space = x.space;
        stack = sym (drop-drop 1 top dues) ∙ ap (drop 1) x.stack;
        within = omega arith;
        room = omega arith;
      }
