-- The member test over bytes. The walk goes down the right operands of g: `Chain` says that at a place stands one of them whose members
-- are those that are left to be compared. Comparing bytes compares formulas (`same_runs`). Assumes nothing.
use mathlib.Core.Path.{◌≡◌, refl, sym, ap, ap₂, ◌∙◌, subst}
use mathlib.Core.Bool.{Bool, true, false}
use mathlib.Core.List.{List, ◌++◌, append_assoc}
use Prim.Native.Nat.{ℕ, ◌+◌, ◌-◌, ◌<◌, ◌≤◌}
use native.Mathlib.Omega.{arith}
use lib.ListN.{length, get_or, set, take, drop, length-set, take-append-drop}
use lib.Seq.{get_or-set_other, set-get_or, drop-drop}
use borrow.Author.Tests.{eq-eqb}
use Rattle.limits.specs.Limits.{nodes_room}
use Rattle.lists.specs.Runs.{tail}
use Rattle.lists.specs.Tests.{pick, either}
use Rattle.lists.proofs.Tests.{no_true, test-eq}
use Rattle.kinds.specs.declared.Join.{Join}
use Rattle.kinds.specs.declared.Binary.TheVariants.{Joined, Until}
use Rattle.kinds.specs.Kinds.{kind_of, join_code}
use Rattle.kinds.proofs.Codes.{kind-binary}
use Rattle.ltl.specs.Formula.{Formula, leaf, one, two, join, same_join, same, size, encode}
use Rattle.ltl.specs.Progression.{member}
use Rattle.ltl.proofs.Equal.{same-eq, same_refl, join-eq}
use Rattle.ltl.proofs.Decoding.{one_way, size-some, first, first-is}
use Rattle.nodes.specs.Begins.{Front, Begins, Ends}
use Rattle.nodes.proofs.Fronts.{front-own, front-tail, begins-tail, front-one-way}
use Rattle.stacking.specs.Stacks.{Spined}
use Rattle.buffers.specs.Compares.{Compares}
use Rattle.joining.specs.Members.{SameAt, LeftKnown, LeftAsk, LeftOf, Compared, Comparable, IsMember}
use Rattle.joining.proofs.Standing.{contained, first-at, DoubleAt, double-at}
use Rattle.joining.proofs.Spines.{OnSpine, here, spine-ends, spine-more, spine-front, spine-noted, spine-put}

-- ---- bytes compared
module _ (p : List ℕ) (w at n : ℕ) {f h : Formula} {k m : List ℕ} (x : Front (drop w p) f k) (y : Front (drop at p) h m) (l : n ≡ size f) where
  own : take n (drop w p) ≡ encode f
  own = ap (λ (i : ℕ). take i (drop w p)) l ∙ front-own (drop w p) f k x

  -- the same bytes, the same formula: no formula's bytes begin another's
  runs_same : take n (drop w p) ≡ take n (drop at p) → f ≡ h
  runs_same e =
      (one_way f h (drop n (drop at p)) m x.coded y.coded
      (ap (◌++ drop n (drop at p)) (sym own ∙ e) ∙ take-append-drop n (drop at p) ∙ y.bytes)).0

  pub same_runs : {r : Bool} → (r ≡ true → take n (drop w p) ≡ take n (drop at p)) → (r ≡ false → take n (drop w p) ≡ take n (drop at p) → ⊥) → r ≡ same f h
  same_runs {r} alike differ = test-eq r (same f h) there back
    where
      there : r ≡ true → same f h ≡ true
      there e = subst (λ (g : Formula). same f g ≡ true) (runs_same (alike e)) (same_refl f)

      back : same f h ≡ true → r ≡ true
      back e = go r refl
        where
          q : f ≡ h
          q = same-eq f h e

          go : (b : Bool) → r ≡ b → r ≡ true
          go true i = i
          go false i =
              absurd (differ i (own ∙ ap encode q ∙ sym (ap (λ (j : ℕ). take j (drop at p)) (l ∙ ap size q) ∙ front-own (drop at p) h m y)))

-- formulas of other sizes differ
pub same_size : (f h : Formula) → (size f ≡ size h → ⊥) → same f h ≡ false
same_size f h n = test-eq (same f h) false (λ e. absurd (n (ap size (same-eq f h e)))) (λ e. absurd (no_true e))

-- ---- members by the first byte
same-join : (j : Join) → same_join j j ≡ true
same-join j = eq-eqb (join_code j) (join_code j) refl

member-joined : (j : Join) (f a b : Formula) → member j f (join j a b) ≡ either (same f (join j a b)) (either (same f a) (member j f b))
unfolding member pick
member-joined j f a b = rw (same-join j)

member-end : (j : Join) (f h : Formula) → (first h ≡ join_code j → ⊥) → member j f h ≡ same f h
unfolding member pick either
member-end j f (leaf a) n = refl
member-end j f (one o g) n = refl
member-end j f (two Until g h) n = refl
member-end j f (two (Joined k) g h) n = go (same_join j k) refl (same f (join k g h))
  where
    go : (x : Bool) → same_join j k ≡ x → (y : Bool) → either y (pick x (either (same f g) (member j f h)) false) ≡ y
    go true q y = absurd (n (ap join_code (sym (join-eq j k q))))
    go false q true = refl
    go false q false = refl

-- a formula that is no longer than f has no other member that f could be
member-short : (j : Join) (f h : Formula) → size h ≤ size f → member j f h ≡ same f h
unfolding member pick either
member-short j f (leaf a) s = refl
member-short j f (one o g) s = refl
member-short j f (two Until g h) s = refl
member-short j f (two (Joined k) g h) s =
    go (same_join j k) (same f (join k g h)) (same_size f g (λ e. omega arith))
    (member-short j f h (omega arith) ∙ same_size f h (λ e. omega arith))
  where
    go : (x y : Bool) → same f g ≡ false → member j f h ≡ false → either y (pick x (either (same f g) (member j f h)) false) ≡ y
    go x true p q = refl
    go true false p q = rw (p, q)
    go false false p q = refl

-- ---- the walk
pub record Chain (p notes₀ notes : List ℕ) (w l r op at : ℕ) : Type 0 where
  pub j : Join
  pub f : Formula
  pub g : Formula
  pub h : Formula
  pub rest : List ℕ
  pub compared : Compared p w l r op j f g rest
  pub spined : Spined notes (w + l) g
  pub on : OnSpine j (w + l) g at h
  pub left_over : member j f g ≡ member j f h
  pub below : (q : ℕ) → q ≤ w + l → get_or notes q 0 ≡ get_or notes₀ q 0
  pub behind : (q : ℕ) → w + l + r ≤ q → get_or notes q 0 ≡ get_or notes₀ q 0
  pub room : length p ≤ length notes
  pub few : length p ≤ nodes_room

pub chain-start : {p notes : List ℕ} {w l r op : ℕ} → Comparable p notes w l r op → Chain p notes notes w l r op (w + l)
chain-start c =
    record {
      j = c.j;
      f = c.f;
      g = c.g;
      h = c.g;
      rest = c.rest;
      compared = c.compared;
      spined = c.spined;
      on = here refl refl;
      left_over = refl;
      below = λ q a. refl;
      behind = λ q a. refl;
      room = c.room;
      few = c.few;
    }

module _ {p notes₀ notes : List ℕ} {w l r op at : ℕ} (c : Chain p notes₀ notes w l r op at) where
  chain-here : Front (drop at p) c.h c.rest
  chain-here = spine-front p c.on c.compared.right

  -- in numbers
  pub record ChainAt : Type 0 where
    pub inside : at < length p
    pub ends : at + size c.h ≡ w + l + r
    pub past : w + l ≤ at
    pub whole : w + l + r ≤ length p
    pub some : 0 < l

  pub chain-at : ChainAt
  chain-at =
      let k = contained p at chain-here in
      let m = contained p (w + l) c.compared.right in
      let e = spine-ends c.on in
      let x = e.0 in
      let y = e.1 in
      let s = c.compared.right-long in
      let t = c.compared.left-long in
      let u = size-some c.f in
      let a = k.long in
      let b = k.some in
      let d = m.long in
      record { inside = omega arith; ends = omega arith; past = y; whole = omega arith; some = omega arith }

  -- the first byte of what stands here
  chain_first : get_or p at 0 ≡ first c.h
  chain_first = first-at p at ∙ ap (λ (s : List ℕ). get_or s 0 0) chain-here.bytes ∙ first-is c.h c.rest

  -- compared with what stands here
  chain_same : {x : Bool} → SameAt p w l at (w + l + r) x → x ≡ same c.f c.h
  chain_same s = let e = chain-at.ends in s.means c.f c.h _ _ c.compared.left c.compared.left-long chain-here (omega arith)

  -- whatever formulas the bytes are taken for
  chain-answer : {notes' : List ℕ} {x : Bool} → x ≡ member c.j c.f c.h → Spined notes' (w + l) c.g
      → ((q : ℕ) → q ≤ w + l → get_or notes' q 0 ≡ get_or notes₀ q 0) → ((q : ℕ) → w + l + r ≤ q → get_or notes' q 0 ≡ get_or notes₀ q 0)
      → IsMember p notes₀ w l r op notes' x
  chain-answer {notes'} {x} e s b d = record { below = b; behind = d; means = means }
    where
      means : (j : Join) (f g : Formula) (rest : List ℕ) → Compared p w l r op j f g rest → (x ≡ member j f g) × Spined notes' (w + l) g
      means j f g rest q =
          let a = (front-one-way (drop w p) c.f f _ _ c.compared.left q.left).0 in
          let k = (front-one-way (drop (w + l) p) c.g g _ _ c.compared.right q.right).0 in
          let i = join-eq c.j j (eq-eqb (join_code c.j) (join_code j) (sym c.compared.op-is ∙ q.op-is)) in
          (e ∙ sym c.left_over ∙ ap₂ (λ (i : Join) (y : Formula). member i y c.g) i a ∙ ap (member j f) k, subst (λ (y : Formula). Spined notes' (w + l) y) k s)

  -- another operator: f is what stands here, or no member
  pub chain-end : (get_or p at 0 ≡ op → ⊥) → {x : Bool} → SameAt p w l at (w + l + r) x → IsMember p notes₀ w l r op notes x
  chain-end n s =
      chain-answer (chain_same s ∙ sym (member-end c.j c.f c.h (λ q. n (chain_first ∙ q ∙ sym c.compared.op-is)))) c.spined c.below c.behind

  -- no longer than f: f is what stands here, or no member
  pub chain-short : w + l + r - at ≤ l → {x : Bool} → SameAt p w l at (w + l + r) x → IsMember p notes₀ w l r op notes x
  chain-short h s =
      let e = chain-at in
      let k = c.compared.left-long in
      let y = e.ends in
      let z : size c.h ≤ size c.f = omega arith in
      chain-answer (chain_same s ∙ sym (member-short c.j c.f c.h z)) c.spined c.below c.behind

  -- the same operator
  module _ (n : get_or p at 0 ≡ op) where
    chain-node : DoubleAt p at c.h c.rest (Joined c.j)
    chain-node = double-at p at chain-here refl (ap kind_of (n ∙ c.compared.op-is) ∙ kind-binary (Joined c.j)) refl

    on-node : OnSpine c.j (w + l) c.g at (join c.j chain-node.left chain-node.right)
    on-node = subst (λ (x : Formula). OnSpine c.j (w + l) c.g at x) chain-node.same c.on

    left-known : LeftKnown p notes at chain-node.left
    left-known =
        record {
          j = c.j;
          right = chain-node.right;
          rest = c.rest;
          front = subst (λ (x : Formula). Front (drop at p) x c.rest) chain-node.same chain-here;
          known = (spine-noted notes on-node c.spined).0;
        }

    pub left-ask : LeftAsk p notes at
    left-ask = record { left = chain-node.left; is = left-known; room = c.room; few = c.few }

    here-member : member c.j c.f c.h ≡ either (same c.f c.h) (either (same c.f chain-node.left) (member c.j c.f chain-node.right))
    here-member =
        let d = chain-node in
        ap (member c.j c.f) d.same ∙ member-joined c.j c.f d.left d.right
        ∙ ap (λ (x : Formula). either (same c.f x) (either (same c.f d.left) (member c.j c.f d.right))) (sym d.same)

    -- the left operand's length in hand, and noted
    module _ {m : ℕ} {notes' : List ℕ} (puts : notes' ≡ set notes (at + 1) m) (long : (a : Formula) → LeftKnown p notes at a → m ≡ size a) where
      left-long : m ≡ size chain-node.left
      left-long = long chain-node.left left-known

      -- in numbers
      pub record LeftWithin : Type 0 where
        pub inside : at + 1 + m < w + l + r
        pub whole : w + l + r ≤ length p
        pub fits : m ≤ nodes_room

      pub left_at : LeftWithin
      left_at =
          let d = chain-node in
          let a = chain-at in
          let k = left-long in
          let x = a.ends in
          let y = ap size d.same in
          let z = size-some d.right in
          let u = a.whole in
          let f = c.few in
          record { inside = omega arith; whole = u; fits = omega arith }

      noted-inside : at + 1 < length notes
      noted-inside = let a = left_at in let x = a.inside in let y = a.whole in let r = c.room in omega arith

      spined-on : Spined notes' (w + l) c.g
      spined-on = subst (λ (k : List ℕ). Spined k (w + l) c.g) (sym puts) (spine-put notes on-node m left-long noted-inside c.spined)

      below_on : (q : ℕ) → q ≤ w + l → get_or notes' q 0 ≡ get_or notes₀ q 0
      below_on q h =
          let a = chain-at.past in
          ap (λ (k : List ℕ). get_or k q 0) puts ∙ get_or-set_other notes (at + 1) q m 0 (λ e. omega arith) ∙ c.below q h

      behind-on : (q : ℕ) → w + l + r ≤ q → get_or notes' q 0 ≡ get_or notes₀ q 0
      behind-on q h =
          let a = left_at.inside in
          ap (λ (k : List ℕ). get_or k q 0) puts ∙ get_or-set_other notes (at + 1) q m 0 (λ e. omega arith) ∙ c.behind q h

      -- longer than f: f is the left operand, or what is left to be compared are the members of the right one
      module _ (far : l < w + l + r - at) {x : Bool} (s : SameAt p w l (at + 1) (at + 1 + m) x) where
        not-whole : same c.f c.h ≡ false
        not-whole =
            let a = chain-at.ends in
            let k = c.compared.left-long in
            same_size c.f c.h (λ e. omega arith)

        left-same : same c.f chain-node.left ≡ x
        left-same = let k = left-long in sym (s.means c.f chain-node.left _ _ c.compared.left c.compared.left-long chain-node.front (omega arith))

        pub chain-onleft : x ≡ true → IsMember p notes₀ w l r op notes' true
        unfolding either
        chain-onleft e = chain-answer (sym (here-member ∙ rw (not-whole, left-same ∙ e))) spined-on below_on behind-on

        pub chain-again : x ≡ false → Chain p notes₀ notes' w l r op (at + 1 + m)
        unfolding either
        chain-again e =
            let d = chain-node in
            record {
              j = c.j;
              f = c.f;
              g = c.g;
              h = d.right;
              rest = c.rest;
              compared = c.compared;
              spined = spined-on;
              on = subst (λ (i : ℕ). OnSpine c.j (w + l) c.g (at + 1 + i) d.right) (sym left-long) (spine-more on-node);
              left_over = c.left_over ∙ here-member ∙ rw (not-whole, left-same ∙ e);
              below = below_on;
              behind = behind-on;
              room = let k : length notes' ≡ length notes = ap length puts ∙ length-set notes (at + 1) m in let q = c.room in omega arith;
              few = c.few;
            }

-- ---- what stands from a place to another compared: one law for each way out
pub differs-long : {p : List ℕ} {w l at end : ℕ} → (end - at ≡ l → ⊥) → SameAt p w l at end false
differs-long n = record { means = λ f h k m x e y q. sym (same_size f h (λ z. n (omega arith))) }

pub compares-same : {p : List ℕ} {w l at end : ℕ} {x : Bool} → Compares p w at l x → SameAt p w l at end x
compares-same {p} {w} {l} {at} c = record { means = λ f h k m x e y q. same_runs p w at l x y e c.alike c.differ }

-- ---- the left operand of what is joined
left-front : (p : List ℕ) (at : ℕ) {j : Join} {a b : Formula} {rest : List ℕ} → Front (drop at p) (join j a b) rest → Front (drop (at + 1) p) a (encode b ++ rest)
left-front p at {j} {a} {b} {rest} x =
    record { coded = x.coded.0; bytes = sym (drop-drop 1 at p) ∙ ap (drop 1) x.bytes ∙ append_assoc (encode a) (encode b) rest }

-- in numbers
pub record LeftIn (p notes : List ℕ) (at : ℕ) : Type 0 where
  pub inside : at + 1 < length p
  pub room : length p ≤ length notes
  pub few : length p ≤ nodes_room

module _ {p notes : List ℕ} {at : ℕ} where
  pub left_in : LeftAsk p notes at → LeftIn p notes at
  left_in c =
      let k = contained p at c.is.front in
      let l = k.long in
      let x = size-some c.left in
      record { inside = omega arith; room = c.room; few = c.few }

  pub left-begins : LeftAsk p notes at → Begins (tail (at + 1) p)
  left-begins c = begins-tail (at + 1) p (left-front p at c.is.front)

  -- its length
  left-size : {n : ℕ} → Ends (tail (at + 1) p) n → (a : Formula) → LeftKnown p notes at a → n ≡ size a
  left-size e a k = e a (encode k.right ++ k.rest) (front-tail (at + 1) p (left-front p at k.front))

  pub left-fits : LeftAsk p notes at → {n : ℕ} → Ends (tail (at + 1) p) n → n ≤ nodes_room
  left-fits c e =
      let k = left-size e c.left c.is in
      let l = (contained p (at + 1) (left-front p at c.is.front)).long in
      let f = c.few in
      omega arith

  -- known before
  pub left-noted : {n : ℕ} → n ≡ get_or notes (at + 1) 0 → 0 < n → LeftOf p notes at notes n
  left-noted {n} e h =
      record {
        puts = sym (ap (set notes (at + 1)) e ∙ set-get_or notes (at + 1) 0);
        means = λ a k. e ∙ k.known (omega arith);
      }

  -- looked for
  pub left-found : {n x : ℕ} → Ends (tail (at + 1) p) n → x ≡ n → LeftOf p notes at (set notes (at + 1) x) n
  left-found e i = record { puts = ap (set notes (at + 1)) i; means = left-size e }
