-- The longest chain, slot by slot: a slot's is one more than that of its holder with the longest (`chain-is`), which is what one
-- pass over the classes computes, holders before those that they hold. Assumes nothing.
use mathlib.Core.Path.{◌≡◌, refl, sym, ap, ◌∙◌}
use mathlib.Core.List.{List, [], ◌∷◌, ◌++◌}
use mathlib.Core.Logic.{◌⊎◌, inl, inr, ⊎_elim}
use Prim.Native.Nat.{ℕ, zero, suc, ◌+◌, ◌<◌, ◌≤◌}
use native.Mathlib.Omega.{arith}
use Rattle.kinds.specs.declared.Join.{Join}
use Rattle.merging.specs.Merge.{Tree, stays, negation, pair, slot, Met, met, longest}
use Rattle.merging.proofs.Among.{Among, here, there, Holds, itself, under-not, on-left, on-right, among-left, among-right, split-among, met-closed, longest-upper, longest-met}

-- a slot that is met with n holders: the root's own, or held by one that is met with one holder fewer
pub record HolderMet (n c : ℕ) (u : Tree) (ms : List Met) : Type 0 where
  pub chain : ℕ
  pub board : ℕ
  pub body : Tree
  pub among : Among chain board body ms
  pub holds : Holds c u body
  pub more : n ≡ chain + 1

wider_left : (n c : ℕ) (u : Tree) (ms ns : List Met) → HolderMet n c u ms → HolderMet n c u (ms ++ ns)
wider_left n c u ms ns h = record { chain = h.chain; board = h.board; body = h.body; among = among-left ns h.among; holds = h.holds; more = h.more }

wider_right : (n c : ℕ) (u : Tree) (ms ns : List Met) → HolderMet n c u ns → HolderMet n c u (ms ++ ns)
wider_right n c u ms ns h = record { chain = h.chain; board = h.board; body = h.body; among = among-right ms h.among; holds = h.holds; more = h.more }

met-holder : (k n c : ℕ) (u r : Tree) → Among n c u (met k r) → ((n ≡ k) × Holds c u r) ⊎ HolderMet n c u (met k r)
met-holder k n c u (negation r) a = ⊎_elim (λ x. inl (x.0, under-not x.1)) inr (met-holder k n c u r a)
met-holder k n c u (pair j r s) a =
    ⊎_elim (λ x. ⊎_elim (λ y. inl (y.0, on-left y.1)) (λ y. inr (wider_left n c u (met k r) (met k s) y)) (met-holder k n c u r x))
    (λ x. ⊎_elim (λ y. inl (y.0, on-right y.1)) (λ y. inr (wider_right n c u (met k r) (met k s) y)) (met-holder k n c u s x)) (split-among n c u (met k r) (met k s) a)
met-holder k n c u (slot d r) (here p q s) = inl (p, itself q s)
met-holder k n c u (slot d r) (there a) =
    ⊎_elim (λ x. inr (record { chain = k; board = d; body = r; among = here refl refl refl; holds = x.1; more = x.0 }))
    (λ h. inr (record { chain = h.chain; board = h.board; body = h.body; among = there h.among; holds = h.holds; more = h.more })) (met-holder (k + 1) n c u r a)
met-holder k n c u (stays _) a = elim a [ ]

-- one that the root holds has a chain of 1 at least, and one that a slot holds one more than the slot at least
pub chain-above : (n b c : ℕ) (t u r : Tree) → Among n b t (met 1 r) → Holds c u t → longest b t (met 1 r) + 1 ≤ longest c u (met 1 r)
chain-above n b c t u r a h =
    longest-upper (longest b t (met 1 r) + 1) c u (met 1 r) (met-closed 1 (longest b t (met 1 r)) b c t u r (longest-met n b t (met 1 r) a) h)

-- and one of them is met
pub record Longest (c : ℕ) (u r : Tree) : Type 0 where
  pub chain : ℕ
  pub board : ℕ
  pub body : Tree
  pub among : Among chain board body (met 1 r)
  pub holds : Holds c u body
  pub is : longest c u (met 1 r) ≡ longest board body (met 1 r) + 1

pub chain-is : (n c : ℕ) (u r : Tree) → Among n c u (met 1 r) → ((longest c u (met 1 r) ≡ 1) × Holds c u r) ⊎ Longest c u r
chain-is n c u r a =
    ⊎_elim inl
    (λ h. (let up = longest-upper h.chain h.board h.body (met 1 r) h.among in
    let down = chain-above h.chain h.board c h.body u r h.among h.holds in
    let e = h.more in
    inr (record { chain = h.chain; board = h.board; body = h.body; among = h.among; holds = h.holds; is = omega arith })))
    (met-holder 1 (longest c u (met 1 r)) c u r (longest-met n c u (met 1 r) a))
