-- A record beside the one before it: which mark it has (`mark-is`, a view; `MarkIs`), where it is dropped (`dropped-where`) and where there is a
-- break (`break-where`), and that without a clash a step of 0 is a doubled record (`step-doubles`). Assumes nothing.
use mathlib.Core.Path.{◌≡◌, refl, sym, ap, ◌∙◌}
use mathlib.Core.Bool.{Bool, true, false, not}
use Prim.Native.Nat.{ℕ, ◌<◌, ◌^◌}
use native.Mathlib.Omega.{arith}
use lib.Dec.{eqb}
use borrow.Author.Tests.{eqb-true, eqb-false, eq-eqb, ne_eqb, not-true}
use Rattle.lists.specs.Tests.{pick, both, either}
use Rattle.lists.proofs.Tests.{no_true, both-0, both-1, both_true}
use Rattle.recordings.specs.Records.{Record, step_from, doubles, clashes, follows, kept, dropped, broken, mark_of}
use Rattle.recordings.specs.Kept.{FitsRecord}

-- ---- the mark by cases
pub data MarkIs (b r : Record) : ℕ → Type 0 where
  is-dropped : doubles b r ≡ true → MarkIs b r dropped
  is-kept : doubles b r ≡ false → follows b r ≡ true → MarkIs b r kept
  is-broken : doubles b r ≡ false → follows b r ≡ false → MarkIs b r broken

pub mark-is : (b r : Record) → MarkIs b r (mark_of b r)
unfolding mark_of pick
mark-is b r = go (doubles b r) refl (follows b r) refl
  where
    go : (d : Bool) → doubles b r ≡ d → (f : Bool) → follows b r ≡ f → MarkIs b r (pick d dropped (pick f kept broken))
    go true e f g = is-dropped e
    go false e true g = is-kept e g
    go false e false g = is-broken e g

-- ---- doubled records
pub doubles-same : (b r : Record) → doubles b r ≡ true → r ≡ b
unfolding doubles
doubles-same b r e =
    let c = eqb-true r.counter b.counter (both-0 _ _ e) in
    let v = eqb-true r.event b.event (both-1 _ _ e) in
    λ i. record { counter = c i; event = v i }

pub doubles-of : (b r : Record) → r.counter ≡ b.counter → r.event ≡ b.event → doubles b r ≡ true
unfolding doubles
doubles-of b r c e = both_true _ _ (eq-eqb r.counter b.counter c) (eq-eqb r.event b.event e)

-- a record is dropped where its counter and its event both equal those of the one before, and only there
pub dropped-where : (b r : Record) → (mark_of b r ≡ dropped → (r.counter ≡ b.counter) × (r.event ≡ b.event)) × ((r.counter ≡ b.counter) × (r.event ≡ b.event) → mark_of b r ≡ dropped)
unfolding mark_of pick
dropped-where b r = (λ e. go (mark_of b r) (mark-is b r) e, λ e. rw (doubles-of b r e.0 e.1))
  where
    go : (m : ℕ) → MarkIs b r m → m ≡ dropped → (r.counter ≡ b.counter) × (r.event ≡ b.event)
    go _ (is-dropped d) e = let s = doubles-same b r d in (ap (λ (x : Record). x.counter) s, ap (λ (x : Record). x.event) s)
    go _ (is-kept d f) e = absurd (omega arith)
    go _ (is-broken d f) e = absurd (omega arith)

-- ---- steps
pub step-zero : (a b : ℕ) → a < 2 ^ 32 → b < 2 ^ 32 → step_from a b ≡ 0 → b ≡ a
unfolding step_from
step-zero a b h k e = omega arith

pub step-none : (a b : ℕ) → a < 2 ^ 32 → b ≡ a → step_from a b ≡ 0
unfolding step_from
step-none a b h e = omega arith

pub follows_is : (b r : Record) → follows b r ≡ true → (step_from b.counter r.counter ≡ 1 → ⊥) → step_from b.counter r.counter ≡ 0
unfolding follows either
follows_is b r e n = go (eqb (step_from b.counter r.counter) 0) refl e
  where
    go : (x : Bool) → eqb (step_from b.counter r.counter) 0 ≡ x → either x (eqb (step_from b.counter r.counter) 1) ≡ true → step_from b.counter r.counter ≡ 0
    go true e f = eqb-true _ 0 e
    go false e f = absurd (n (eqb-true _ 1 f))

-- neither 0 nor 1
pub follows-not : (b r : Record) → (step_from b.counter r.counter ≡ 0 → ⊥) → (step_from b.counter r.counter ≡ 1 → ⊥) → follows b r ≡ false
unfolding follows either
follows-not b r n k = rw (ne_eqb (step_from b.counter r.counter) 0 n, ne_eqb (step_from b.counter r.counter) 1 k)

pub follows-one : (b r : Record) → step_from b.counter r.counter ≡ 1 → follows b r ≡ true
unfolding follows either
follows-one b r e = go (eqb (step_from b.counter r.counter) 0)
  where
    go : (x : Bool) → either x (eqb (step_from b.counter r.counter) 1) ≡ true
    go true = refl
    go false = eq-eqb (step_from b.counter r.counter) 1 e

follows-zero : (b r : Record) → step_from b.counter r.counter ≡ 0 → follows b r ≡ true
unfolding follows either
follows-zero b r e = rw (eq-eqb (step_from b.counter r.counter) 0 e)

-- there is a break where the step is neither 0 nor 1, and only there
pub break-where : (b r : Record) → FitsRecord b
    → (mark_of b r ≡ broken → (step_from b.counter r.counter ≡ 0 → ⊥) × (step_from b.counter r.counter ≡ 1 → ⊥))
    × ((step_from b.counter r.counter ≡ 0 → ⊥) × (step_from b.counter r.counter ≡ 1 → ⊥) → mark_of b r ≡ broken)
break-where b r fits = (λ e. go (mark_of b r) (mark-is b r) e, λ n. back (mark_of b r) (mark-is b r) n)
  where
    go : (m : ℕ) → MarkIs b r m → m ≡ broken → (step_from b.counter r.counter ≡ 0 → ⊥) × (step_from b.counter r.counter ≡ 1 → ⊥)
    go _ (is-dropped d) e = absurd (omega arith)
    go _ (is-kept d f) e = absurd (omega arith)
    go _ (is-broken d f) e = (λ z. no_true (sym f ∙ follows-zero b r z), λ z. no_true (sym f ∙ follows-one b r z))

    back : (m : ℕ) → MarkIs b r m → (step_from b.counter r.counter ≡ 0 → ⊥) × (step_from b.counter r.counter ≡ 1 → ⊥) → m ≡ broken
    back _ (is-dropped d) n = absurd (n.0 (step-none b.counter r.counter fits.counter (ap (λ (x : Record). x.counter) (doubles-same b r d))))
    back _ (is-kept d f) n = absurd (n.0 (follows_is b r f n.1))
    back _ (is-broken d f) n = refl

-- ---- without a clash
-- equal counters have equal events
pub agree-event : (b r : Record) → clashes b r ≡ false → r.counter ≡ b.counter → r.event ≡ b.event
unfolding clashes both
agree-event b r e c = go (eqb r.event b.event) refl
  where
    go : (x : Bool) → eqb r.event b.event ≡ x → r.event ≡ b.event
    go true f = eqb-true r.event b.event f
    go false f = let z : true ≡ false = sym (rw (eq-eqb r.counter b.counter c, f)) ∙ e in absurd (no_true (sym z))

-- a step of 0 is a doubled record
pub step-doubles : (b r : Record) → b.counter < 2 ^ 32 → r.counter < 2 ^ 32 → clashes b r ≡ false → step_from b.counter r.counter ≡ 0 → doubles b r ≡ true
step-doubles b r f g n e = let c = step-zero b.counter r.counter f g e in doubles-of b r c (agree-event b r n c)

-- so a record that is kept without a break is the next one
pub kept_step : (b r : Record) → FitsRecord b → FitsRecord r → clashes b r ≡ false → doubles b r ≡ false → follows b r ≡ true → step_from b.counter r.counter ≡ 1
kept_step b r f g n d e = go (eqb (step_from b.counter r.counter) 1) refl
  where
    go : (x : Bool) → eqb (step_from b.counter r.counter) 1 ≡ x → step_from b.counter r.counter ≡ 1
    go true k = eqb-true _ 1 k
    go false k = absurd (no_true (sym d ∙ step-doubles b r f.counter g.counter n (follows_is b r e (eqb-false _ 1 k))))
