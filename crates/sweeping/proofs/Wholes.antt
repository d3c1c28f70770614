-- A part that stays whole becomes a result: `kept` is what of it, where it stands (`kept_at`), and what is promised where it was moved
-- (`keeps-whole`). Of its left operands nothing is known: `forgets-joined`, `forgets-plain`. Assumes nothing.
use mathlib.Core.Path.{◌≡◌, refl, sym, ap, ap₂, ◌∙◌, subst}
use mathlib.Core.Bool.{true}
use mathlib.Core.List.{List, ◌∷◌, ◌++◌}
use Prim.Native.Nat.{ℕ, ◌+◌, ◌-◌, ◌<◌, ◌≤◌}
use native.Mathlib.Omega.{arith}
use lib.ListN.{length, get_or, set, take, drop, replicate, length-set, length-drop, length-replicate, take-append-drop}
use lib.Seq.{get_or-set_same, get_or-set_other, take_at, drop-drop, get_or-drop, get_or-take, length-take-le}
use Rattle.limits.specs.Limits.{nodes_room}
use Rattle.lists.proofs.Tests.{no_true}
use Rattle.lists.proofs.Splices.{Spliced, splice-drop, splice-take, splice-in, splice_front, splice-behind}
use Rattle.lists.proofs.Stretches.{zeros-at}
use Rattle.kinds.specs.declared.Unary.TheVariants.{Not, Next, Ever}
use Rattle.kinds.specs.declared.Join.{Join}
use Rattle.kinds.specs.declared.Join.TheVariants.{And, Or}
use Rattle.kinds.specs.declared.Binary.TheVariants.{Joined, Until}
use Rattle.kinds.specs.Kinds.{join_code}
use Rattle.ltl.specs.Formula.{Formula, leaf, one, two, size, encode, Coded}
use Rattle.ltl.proofs.Decoding.{size-some, length-encode, first, first-is}
use Rattle.nodes.specs.Begins.{Front}
use Rattle.outlining.specs.Outlined.{whole_kind, top_kind}
use Rattle.stacking.specs.Stacks.{Stack}
use Rattle.stacking.proofs.Stacks.{stacked, spined-plain, spined-none, spined-first}
use Rattle.resolving.specs.declared.Seen.{Seen}
use Rattle.resolving.specs.Settles.{settled}
use Rattle.sweeping.specs.Passes.{WholeAt, KeepWholeAsk, KeepsWhole, KeptFrom, Forgets}

-- ---- left operands of which nothing is known
-- the notes beside the formula are cleared
pub forgets-joined : {p notes notes' : List ℕ} {v m : ℕ} → v + m ≤ length notes → notes' ≡ take v notes ++ (replicate m 0 ++ drop (v + m) notes) → Forgets p notes v m notes'
forgets-joined {p} {notes} {notes'} {v} {m} h e =
    record { below = λ q a. splice_front s q a; behind = λ q a. splice-behind s q a; means = λ f rest x i. spined-none f notes' v (λ k a b. splice-in s k (omega arith) ∙ zeros-at m k) }
  where
    s : Spliced notes notes' (replicate m 0) v m
    s = record { is = e; long = length-replicate {A = ℕ} m 0; fits = h }

-- a formula that is no join needs none
pub forgets-plain : {p notes : List ℕ} {v m : ℕ} → ((j : Join) → get_or p v 0 ≡ join_code j → ⊥) → Forgets p notes v m notes
forgets-plain {p} {notes} {v} h =
    record {
      below = λ q a. refl;
      behind = λ q a. refl;
      means = λ f rest x i. spined-plain f notes v (λ j e. h j (byte f rest x ∙ e));
    }
  where
    byte : (f : Formula) (rest : List ℕ) → Front (drop v p) f rest → get_or p v 0 ≡ first f
    byte f rest x =
        let z : v + 0 ≡ v = omega arith in
        ap (λ (i : ℕ). get_or p i 0) (sym z) ∙ sym (get_or-drop v p 0 0) ∙ ap (λ (l : List ℕ). get_or l 0 0) x.bytes ∙ first-is f rest

-- ---- what is kept: of a next its operand
abbrev kept : Formula → Formula
kept (leaf a) = leaf a
kept (one Not f) = one Not f
kept (one Next f) = f
kept (one (Ever j) f) = one (Ever j) f
kept (two o f g) = two o f g

settled-kept : (seen : Seen) (h : Formula) → whole_kind (top_kind h) ≡ true → settled seen h ≡ kept h
settled-kept seen (leaf a) e = absurd (no_true e)
settled-kept seen (one Not f) e = absurd (no_true e)
settled-kept seen (one Next f) e = refl
settled-kept seen (one (Ever j) f) e = refl
settled-kept seen (two (Joined j) f g) e = absurd (no_true e)
settled-kept seen (two Until f g) e = refl

kept-coded : (h : Formula) → Coded h → Coded (kept h)
kept-coded (leaf a) c = c
kept-coded (one Not f) c = c
kept-coded (one Next f) c = c
kept-coded (one (Ever j) f) c = c
kept-coded (two o f g) c = c

-- it stands from `from` on: n bytes of h from a on, in the list d
module _ (p : List ℕ) (a n from : ℕ) where
  pub record KeptAt (h : Formula) : Type 0 where
    pub long : from + size (kept h) ≡ a + n
    pub past : a ≤ from
    pub bytes : take (size (kept h)) (drop from p) ≡ encode (kept h)
    pub some : 0 < size (kept h)

  -- the whole of it
  same_at : (h : Formula) → kept h ≡ h → n ≡ size h → take n (drop a p) ≡ encode h → from ≡ a → KeptAt h
  same_at h k l e f =
      let s = ap size k in
      let z = size-some h in
      record {
        long = omega arith;
        past = omega arith;
        bytes = ap₂ (λ (i j : ℕ). take i (drop j p)) (s ∙ sym l) f ∙ e ∙ ap encode (sym k);
        some = omega arith;
      }

  -- its first byte
  byte_at : (h : Formula) → n ≡ size h → take n (drop a p) ≡ encode h → get_or p a 0 ≡ first h
  byte_at h l e =
      let s = size-some h in
      let z : a + 0 ≡ a = omega arith in
      ap (λ (i : ℕ). get_or p i 0) (sym z) ∙ sym (get_or-drop a p 0 0) ∙ sym (get_or-take n (drop a p) 0 0 (omega arith)) ∙ ap (λ (l : List ℕ). get_or l 0 0) e

  -- behind the byte of a next
  next-at : (f : Formula) → n ≡ 1 + size f → take n (drop a p) ≡ 5 ∷ encode f → from ≡ a + 1 → KeptAt (one Next f)
  next-at f l e k =
      let rest = drop n (drop a p) in
      let d : drop a p ≡ 5 ∷ (encode f ++ rest) = sym (take-append-drop n (drop a p)) ∙ ap (◌++ rest) e in
      record {
        long = omega arith;
        past = omega arith;
        bytes = ap (λ (j : ℕ). take (size f) (drop j p)) k ∙ ap (take (size f)) (sym (drop-drop 1 a p) ∙ ap (drop 1) d) ∙ take_at (encode f) rest (size f) (length-encode f);
        some = size-some f;
      }

  pub kept_at : (h : Formula) → whole_kind (top_kind h) ≡ true → n ≡ size h → take n (drop a p) ≡ encode h → KeptFrom (get_or p a 0) a from → KeptAt h
  kept_at (leaf x) w l e k = absurd (no_true w)
  kept_at (one Not f) w l e k = absurd (no_true w)
  kept_at (one Next f) w l e k = next-at f l e (k.next (byte_at (one Next f) l e))
  kept_at (one (Ever And) f) w l e k = same_at (one (Ever And) f) refl l e (k.other (λ q. let b = byte_at (one (Ever And) f) l e in omega arith))
  kept_at (one (Ever Or) f) w l e k = same_at (one (Ever Or) f) refl l e (k.other (λ q. let b = byte_at (one (Ever Or) f) l e in omega arith))
  kept_at (two (Joined j) f g) w l e k = absurd (no_true w)
  kept_at (two Until f g) w l e k = same_at (two Until f g) refl l e (k.other (λ q. let b = byte_at (two Until f g) l e in omega arith))

-- ---- in numbers: what is asked, and where what is kept begins
pub record WholeIn (p : List ℕ) (i n w : ℕ) : Type 0 where
  pub some : 0 < n
  pub fits : n ≤ i
  pub past : i ≤ w
  pub inside : w ≤ length p
  pub few : length p ≤ nodes_room

pub whole_in : {p notes : List ℕ} {i n w : ℕ} → KeepWholeAsk p notes i n w → WholeIn p i n w
whole_in a =
    let x = a.at in
    let l = x.long in
    let s = size-some a.h in
    record { some = omega arith; fits = a.fits; past = a.past; inside = x.stack.inside; few = x.stack.few }

pub record KeepingIn (p notes : List ℕ) (i n w from : ℕ) : Type 0 where
  pub below : i - n ≤ from
  pub some : from < i
  pub past : i ≤ w
  pub inside : w ≤ length p
  pub room : length p ≤ length notes
  pub few : length p ≤ nodes_room
  pub fits : n ≤ i

pub keeping-in : {p notes : List ℕ} {i n w from : ℕ} → KeepWholeAsk p notes i n w → KeptFrom (get_or p (i - n) 0) (i - n) from → KeepingIn p notes i n w from
keeping-in {p} {i = i} {n = n} {from = from} a k =
    let x = a.at in
    let y = kept_at p (i - n) n from a.h x.stays x.long x.bytes k in
    let l = y.long in
    let b = y.past in
    let s = y.some in
    let f = a.fits in
    record { below = b; some = omega arith; past = a.past; inside = x.stack.inside; room = x.stack.room; few = x.stack.few; fits = f }

-- ---- moved: all that is promised
module _ {p notes p' notes'' : List ℕ} {i n w from : ℕ} (ask : KeepWholeAsk p notes i n w) (k : KeptFrom (get_or p (i - n) 0) (i - n) from)
    (up : p' ≡ take (from + (w - i)) p ++ (take (i - from) (drop from p) ++ drop (from + (w - i) + (i - from)) p)) (lp : length p' ≡ length p)
    (fo : Forgets p' notes (w - (i - from)) (i - from) notes'') (ln : length notes'' ≡ length notes) where
  numbers : KeepingIn p notes i n w from
  numbers = keeping-in ask k

  place_is : from + (w - i) ≡ w - (i - from)
  place_is = let a = numbers in let x = a.some in let y = a.past in omega arith

  moved : Spliced p p' (take (i - from) (drop from p)) (w - (i - from)) (i - from)
  moved =
      let a = numbers in
      let x = a.some in
      let y = a.past in
      let z = a.inside in
      let d = length-drop from p in
      record {
        is = up ∙ ap (λ (j : ℕ). take j p ++ (take (i - from) (drop from p) ++ drop (j + (i - from)) p)) place_is;
        long = length-take-le (i - from) (drop from p) (omega arith);
        fits = omega arith;
      }

  module _ {h : Formula} {fs : List Formula} (x : WholeAt h fs p notes i n w) where
    here : KeptAt p (i - n) n from h
    here = kept_at p (i - n) n from h x.stays x.long x.bytes k

    count-is : i - from ≡ size (kept h)
    count-is = let a = numbers in let b = a.some in let d = a.fits in let l = here.long in omega arith

    kept-bytes : drop (w - (i - from)) p' ≡ encode (kept h) ++ drop w p
    kept-bytes =
        let a = numbers in
        let b = a.some in
        let c = a.past in
        let r : w - (i - from) + (i - from) ≡ w = omega arith in
        splice-drop moved ∙ ap₂ ◌++◌ (ap (λ (j : ℕ). take j (drop from p)) count-is ∙ here.bytes) (ap (λ (j : ℕ). drop j p) r)

    kept-done : (seen : Seen) {m : ℕ} → m ≡ i - from → Stack (settled seen h ∷ fs) p' (set notes'' (w - (i - from)) m) (w - (i - from))
    kept-done seen {m} e =
        let a = numbers in
        let b = a.some in
        let c = a.past in
        let d = a.inside in
        let r = a.room in
        let q = count-is in
        let v = w - (i - from) in
        subst (λ (f : Formula). Stack (f ∷ fs) p' (set notes'' (w - (i - from)) m) (w - (i - from))) (sym (settled-kept seen h x.stays))
        (stacked x.stack (kept h) (w - (i - from)) (kept-coded h x.coded) kept-bytes lp (length-set notes'' (w - (i - from)) m ∙ ln) (omega arith)
        (get_or-set_same notes'' (w - (i - from)) m 0 (omega arith) ∙ e ∙ q)
        (spined-first (kept h) notes'' (w - (i - from)) m (fo.means (kept h) (drop w p) (record { coded = kept-coded h x.coded; bytes = kept-bytes }) q))
        (λ j u. get_or-set_other notes'' (w - (i - from)) j m 0 (λ z. omega arith) ∙ fo.behind j (omega arith)))

  pub keeps-whole : {m : ℕ} → m ≡ i - from → KeepsWhole p notes i n w p' (set notes'' (w - (i - from)) m) (w - (i - from))
  keeps-whole {m} e =
      let a = numbers in
      let b = a.some in
      let c = a.past in
      let d = a.below in
      record {
        front = λ u z. splice-take moved u (omega arith);
        notes-front = λ q z. get_or-set_other notes'' (w - (i - from)) q m 0 (λ y. omega arith) ∙ fo.below q (omega arith);
        means = λ seen h fs x. kept-done x seen e;
      }
