-- The end of the formula in front, found by a count of the operands still owed: `Ending` is what the loop of `operand_end` keeps, and
-- `ending-begins`, `ending-more`, `ending-done` are its laws. Assumes nothing.
use mathlib.Core.Path.{◌≡◌, refl, ap, ◌∙◌}
use mathlib.Core.List.{List, [], ◌∷◌}
use Prim.Native.Nat.{ℕ, zero, suc, ◌+◌, ◌-◌, ◌<◌, ◌≤◌}
use native.Mathlib.Numerals.{add-one}
use native.Mathlib.Omega.{arith}
use lib.ListN.{length, get_or, drop}
use lib.Seq.{drop-cons}
use Rattle.kinds.specs.declared.Kind.{Kind}
use Rattle.kinds.specs.Kinds.{kind_of, operands}
use Rattle.ltl.specs.Formula.{Formula, leaf, one, two, size}
use Rattle.ltl.proofs.Owing.{Owes, acts, owed-front}
use Rattle.nodes.specs.Begins.{Front, Begins}
use Rattle.nodes.proofs.Fronts.{front_length}

-- how many bytes n operands take; one for each where bytes are missing
unfoldable pub taken : List ℕ → ℕ → ℕ
taken [] n = n
taken (b ∷ l) zero = 0
taken (b ∷ l) (suc n) = 1 + taken l (n + operands (kind_of b))

taken_none : (l : List ℕ) → taken l 0 ≡ 0
unfolding taken
taken_none [] = refl
taken_none (b ∷ l) = refl

-- each takes one byte at least
taken-some : (l : List ℕ) (n : ℕ) → n ≤ taken l n
unfolding taken
taken-some [] n = omega arith
taken-some (b ∷ l) zero = omega arith
taken-some (b ∷ l) (suc n) = let h = taken-some l (n + operands (kind_of b)) in omega arith

-- a node takes one byte and what its operands take
abbrev another : Kind → ℕ → ℕ
another k n = 1 + n

taken-owes : Owes another taken
unfolding taken
taken-owes = record { turn = λ b n l. refl }

acts-size : (f : Formula) (n : ℕ) → acts another f n ≡ size f + n
acts-size (leaf a) n = refl
acts-size (one o f) n = let h = acts-size f n in omega arith
acts-size (two o f g) n = let h = acts-size f (acts another g n) in let k = acts-size g n in omega arith

-- ---- the loop: the operands owed from i on end where the formula ends
pub record Ending (s : List ℕ) (i owed : ℕ) : Type 0 where
  pub ends : (f : Formula) (rest : List ℕ) → Front s f rest → i + taken (drop i s) owed ≡ size f

pub ending-begins : {s : List ℕ} → Ending s 0 1
ending-begins {s} = record {
  ends = λ f rest x.
      let e : taken s 1 ≡ size f + taken rest 0 = ap (λ (l : List ℕ). taken l 1) x.bytes ∙ owed-front taken-owes f 0 rest x.coded ∙ acts-size f (taken rest 0) in
      let z = taken_none rest in
      omega arith;
}

module _ {s : List ℕ} {i owed : ℕ} (o : Ending s i owed) where
  -- no more are owed than bytes are left
  pub ending-few : Begins s → i + owed ≤ length s
  ending-few b =
      let e = o.ends b.formula b.rest b.front in
      let h = taken-some (drop i s) owed in
      let l = front_length s b.formula b.rest b.front in
      omega arith

  pub ending-more : {k : Kind} {n : ℕ} → i < length s → 0 < owed → k ≡ kind_of (get_or s i 0) → n ≡ operands k → Ending s (i + 1) (owed - 1 + n)
  ending-more {k} {n} h some kind many = record {
    ends = λ f rest x.
        let e : owed ≡ suc (owed - 1) = omega arith in
        let t : taken (drop i s) owed ≡ 1 + taken (drop (i + 1) s) (owed - 1 + n) =
        rw (drop-cons s i 0 h, add-one, many, kind) (ap (taken (get_or s i 0 ∷ drop (suc i) s)) e ∙ taken-owes.turn (get_or s i 0) (owed - 1) (drop (suc i) s)) in
        let w = o.ends f rest x in
        omega arith;
  }

  pub ending-done : owed ≤ 0 → (f : Formula) (rest : List ℕ) → Front s f rest → i ≡ size f
  ending-done h f rest x =
      let e : owed ≡ 0 = omega arith in
      let w = o.ends f rest x in
      let z = taken_none (drop i s) in
      let t : taken (drop i s) owed ≡ 0 = ap (taken (drop i s)) e ∙ z in
      omega arith
