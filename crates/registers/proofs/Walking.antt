-- Meeting entries step by step (`from-none`, `from_one`, `from-both`): what was met stays in front (`from_more`), each entry is met once
-- and is there (`from-seen`), so there are never more than entries; and how many may be held one below the other does not matter where
-- it is enough (`from-enough`). Assumes nothing.
use mathlib.Core.Path.{◌≡◌, refl, sym, ap, ◌∙◌}
use mathlib.Core.Bool.{Bool, true, false}
use mathlib.Core.List.{List, [], ◌∷◌, ◌++◌, append-nil, append_assoc}
use mathlib.Core.Logic.{◌⊎◌, ⊎_elim}
use Prim.Native.Nat.{ℕ, zero, suc, ◌+◌, ◌<◌, ◌≤◌}
use native.Mathlib.Omega.{arith}
use lib.ListN.{length}
use Rattle.lists.specs.Tests.{pick}
use Rattle.lists.proofs.Tests.{no_true}
use Rattle.network.specs.Layout.{Slot, slot_at}
use Rattle.registers.specs.Relaying.{is_among}
use Rattle.registers.specs.Numbers.{holds_at, met_all, met_from}
use Rattle.registers.proofs.Expanding.{Registered}
use Rattle.registers.proofs.Members.{OneOf, one-here, one-there, one_split, one_none, among_of, holds-each}
use Rattle.registers.proofs.Places.{OnceOf, once-behind, once-most}

all_both : (meet : ℕ → List ℕ → List ℕ) (xs ys seen : List ℕ) → met_all meet (xs ++ ys) seen ≡ met_all meet ys (met_all meet xs seen)
unfolding met_all
all_both meet [] ys seen = refl
all_both meet (x ∷ xs) ys seen = all_both meet xs ys (pick (is_among x seen) seen (meet x (seen ++ (x ∷ []))))

all_same : (f g : ℕ → List ℕ → List ℕ) (ks : List ℕ) → ((k : ℕ) → OneOf k ks → (xs : List ℕ) → f k xs ≡ g k xs) → (seen : List ℕ) → met_all f ks seen ≡ met_all g ks seen
unfolding met_all
all_same f g [] h seen = refl
all_same f g (k ∷ ks) h seen =
    ap (λ (x : List ℕ). met_all f ks (pick (is_among k seen) seen x)) (h k (one-here refl) (seen ++ (k ∷ [])))
    ∙ all_same f g ks (λ m a. h m (one-there a)) (pick (is_among k seen) seen (g k (seen ++ (k ∷ []))))

-- what was met stays in front
all_more : (meet : ℕ → List ℕ → List ℕ) → ((k : ℕ) (xs : List ℕ) → (more : List ℕ) × (meet k xs ≡ xs ++ more)) → (ks seen : List ℕ) → (more : List ℕ) × (met_all meet ks seen ≡ seen ++ more)
unfolding met_all pick
all_more meet h [] seen = ([], sym (append-nil seen))
all_more meet h (k ∷ ks) seen =
    let p = first (is_among k seen) in
    let next = pick (is_among k seen) seen (meet k (seen ++ (k ∷ []))) in
    let q = all_more meet h ks next in
    (p.0 ++ q.0, q.1 ∙ ap (◌++ q.0) p.1 ∙ append_assoc seen p.0 q.0)
  where
    first : (b : Bool) → (more : List ℕ) × (pick b seen (meet k (seen ++ (k ∷ []))) ≡ seen ++ more)
    first true = ([], sym (append-nil seen))
    first false = let r = h k (seen ++ (k ∷ [])) in (k ∷ r.0, r.1 ∙ append_assoc seen (k ∷ []) r.0)

-- entries met: each once, and below n
abbrev pub Seen : ℕ → List ℕ → Type 0
Seen n ks = OnceOf ks × ((k : ℕ) → OneOf k ks → k < n)

-- so there are n at most
pub seen_few : (n : ℕ) (ks : List ℕ) → Seen n ks → length ks ≤ n
seen_few n ks s = once-most n ks s.0 s.1

seen_more : (n k : ℕ) (seen : List ℕ) → k < n → is_among k seen ≡ false → Seen n seen → Seen n (seen ++ (k ∷ []))
seen_more n k seen l e s = (
  once-behind k seen (λ a. no_true (sym e ∙ among_of k seen a)) s.0,
  λ m a. ⊎_elim (λ x. s.1 m x) (λ x. last m x) (one_split m seen (k ∷ []) a),
)
  where
    last : (m : ℕ) → OneOf m (k ∷ []) → m < n
    last m (one-here q) = omega arith
    last m (one-there a) = absurd (one_none m a)

all_seen : (n : ℕ) (meet : ℕ → List ℕ → List ℕ) → ((k : ℕ) → k < n → (xs : List ℕ) → Seen n xs → Seen n (meet k xs)) → (ks : List ℕ) → ((k : ℕ) → OneOf k ks → k < n) → (seen : List ℕ) → Seen n seen
    → Seen n (met_all meet ks seen)
unfolding met_all pick
all_seen n meet h [] below seen s = s
all_seen n meet h (k ∷ ks) below seen s = all_seen n meet h ks (λ m a. below m (one-there a)) (pick (is_among k seen) seen (meet k (seen ++ (k ∷ [])))) (first (is_among k seen) refl)
  where
    first : (b : Bool) → is_among k seen ≡ b → Seen n (pick b seen (meet k (seen ++ (k ∷ []))))
    first true e = s
    first false e = h k (below k (one-here refl)) (seen ++ (k ∷ [])) (seen_more n k seen (below k (one-here refl)) e s)

no-entries : (ks : List ℕ) → ((k : ℕ) → OneOf k ks → k < 0) → ks ≡ []
no-entries [] h = refl
no-entries (k ∷ ks) h = let l = h k (one-here refl) in absurd (omega arith)

module _ (reg : List Slot) where
  -- ---- step by step
  pub from-none : (most : ℕ) (seen : List ℕ) → met_from reg most [] seen ≡ seen
  unfolding met_from met_all
  from-none zero seen = refl
  from-none (suc most) seen = refl

  -- an entry, and then those below it, unless it was met
  pub from_one : (most k : ℕ) (seen : List ℕ) → met_from reg (suc most) (k ∷ []) seen ≡ pick (is_among k seen) seen (met_from reg most (holds_at reg k) (seen ++ (k ∷ [])))
  unfolding met_from met_all
  from_one most k seen = refl

  pub from-both : (most : ℕ) (xs ys seen : List ℕ) → met_from reg most (xs ++ ys) seen ≡ met_from reg most ys (met_from reg most xs seen)
  unfolding met_from
  from-both zero xs ys seen = refl
  from-both (suc most) xs ys seen = all_both (λ k. met_from reg most (holds_at reg k)) xs ys seen

  pub from_more : (most : ℕ) (ks seen : List ℕ) → (more : List ℕ) × (met_from reg most ks seen ≡ seen ++ more)
  unfolding met_from
  from_more zero ks seen = ([], sym (append-nil seen))
  from_more (suc most) ks seen = all_more (λ k. met_from reg most (holds_at reg k)) (λ k xs. from_more most (holds_at reg k) xs) ks seen

  module _ (registered : Registered reg) where
    pub from-seen : (most : ℕ) (ks : List ℕ) → ((k : ℕ) → OneOf k ks → k < length reg) → (seen : List ℕ) → Seen (length reg) seen → Seen (length reg) (met_from reg most ks seen)
    unfolding met_from
    from-seen zero ks below seen s = s
    from-seen (suc most) ks below seen s =
        all_seen (length reg) (λ k. met_from reg most (holds_at reg k))
        (λ k l xs x. from-seen most (holds_at reg k) (λ m a. (let q = holds-each (λ i. i < k) (slot_at reg k).formula (registered.earlier k l) m a in omega arith)) xs x) ks below seen s

    -- entries below n need n at most
    pub from-enough : (a c n : ℕ) (ks : List ℕ) → ((k : ℕ) → OneOf k ks → k < n) → n ≤ length reg → n ≤ a → n ≤ c → (seen : List ℕ) → met_from reg a ks seen ≡ met_from reg c ks seen
    unfolding met_from
    from-enough zero c n ks below l p q seen =
        let e = no-entries ks (λ k x. (let h = below k x in omega arith)) in
        sym (ap (λ (x : List ℕ). met_from reg c x seen) e ∙ from-none c seen)
    from-enough (suc a) zero n ks below l p q seen =
        let e = no-entries ks (λ k x. (let h = below k x in omega arith)) in
        ap (λ (x : List ℕ). met_from reg (suc a) x seen) e ∙ from-none (suc a) seen
    from-enough (suc a) (suc c) n ks below l p q seen =
        all_same (λ k. met_from reg a (holds_at reg k)) (λ k. met_from reg c (holds_at reg k)) ks
        (λ k x xs. (let h = below k x in
        from-enough a c k (holds_at reg k) (λ m y. holds-each (λ i. i < k) (slot_at reg k).formula (registered.earlier k (omega arith)) m y) (omega arith) (omega arith) (omega arith) xs)) seen
