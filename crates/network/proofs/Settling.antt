-- Within a tick the order does not matter, and no tick gets stuck. A stepped slot's formula is given by the formulas of the slots
-- that it holds, which have higher numbers: so all slots stepped are one list, whatever the order (`ticks-agree`). The highest slot
-- that is not stepped is ready (`goes_on`), and stepping from the highest number down is an allowed order (`ticks-exist`).
-- Assumes nothing.
use mathlib.Core.Path.{◌≡◌, refl, sym, ap, ap₂, ◌∙◌, subst}
use mathlib.Core.Bool.{Bool, true, false}
use mathlib.Core.List.{List}
use mathlib.Core.Logic.{◌⊎◌, inl, inr, ⊎_elim}
use mathlib.Core.Option.{Option}
use Prim.Native.Nat.{ℕ, zero, suc, ◌+◌, ◌-◌, ◌<◌, ◌≤◌}
use native.Mathlib.Decide.{ℕ_discrete, dec_lt}
use native.Mathlib.Nat.{eq-or-lt_of_le}
use native.Mathlib.Omega.{arith}
use lib.ListN.{length, set, replicate, length-set, length-replicate}
use lib.Seq.{get_or-set_same, get_or-set_other, ext_get_or}
use Rattle.lists.proofs.Tests.{no_true, both_true}
use Rattle.kinds.specs.declared.Leaf.TheVariants.{Const, Prop, Hold}
use Rattle.kinds.specs.declared.Unary.TheVariants.{Not, Next, Ever}
use Rattle.kinds.specs.declared.Binary.TheVariants.{Joined, Until}
use Rattle.answers.specs.declared.Verdict.{Verdict}
use Rattle.ltl.specs.Formula.{Formula, leaf, one, two, constant, join}
use Rattle.ltl.specs.Meaning.{Event}
use Rattle.ltl.specs.Progression.{resolved, filled, filled_by, verdict_of}
use Rattle.network.specs.Layout.{Slot, slot_at, close}
use Rattle.network.specs.Tick.{holds_only, marked, verdict_at, stepped, Steps, rest, step, AllMarked, Ticks}
use Rattle.network.proofs.Owned.{Free, Plain}
use Rattle.network.proofs.Laying.{Choice, HoldsIn}
use Rattle.network.proofs.Holding.{holds-map, only-holds}
use Rattle.network.proofs.Layouts.{each-slot}
use Rattle.network.proofs.Relaying.{SlotOk, AllOk}

-- filling in depends only on the slots that are held
pub filled-same : (p q : ℕ → Verdict) (f : Formula) → HoldsIn (λ m. p m ≡ q m) f → filled p f ≡ filled q f
filled-same p q (leaf (Const v)) x = refl
filled-same p q (leaf (Prop i)) x = refl
filled-same p q (leaf (Hold m)) x = ap (λ (v : Verdict). leaf (filled_by v m)) x
filled-same p q (one Not f) x = ap (one Not) (filled-same p q f x)
filled-same p q (one Next f) x = refl
filled-same p q (one (Ever j) f) x = refl
filled-same p q (two (Joined j) f g) x = ap₂ (join j) (filled-same p q f x.0) (filled-same p q g x.1)
filled-same p q (two Until f g) x = refl

-- ---- place holders of a slot that is ready
-- a plain formula that holds stepped slots alone passes the test
pub free-only : (choose : Formula → Option ℕ) (test : ℕ → Bool) (f : Formula) → Free choose f → holds_only test f ≡ true
unfolding holds_only
free-only choose test (leaf (Const v)) x = refl
free-only choose test (leaf (Prop i)) x = refl
free-only choose test (one o f) x = free-only choose test f x
free-only choose test (two o f g) x = both_true (holds_only test f) (holds_only test g) (free-only choose test f x.0) (free-only choose test g x.1)
free-only choose test (leaf (Hold _)) x = elim x [ ]

holds-only : (choose : Formula → Option ℕ) (b : ℕ) (test : ℕ → Bool) (f : Formula) → Plain choose b f → HoldsIn (λ m. test m ≡ true) f → holds_only test f ≡ true
unfolding holds_only
holds-only choose b test (leaf (Const v)) p x = refl
holds-only choose b test (leaf (Prop i)) p x = refl
holds-only choose b test (leaf (Hold m)) p x = x
holds-only choose b test (one Not f) p x = holds-only choose b test f p x
holds-only choose b test (one Next f) p x = free-only choose test f p.0
holds-only choose b test (two (Joined j) f g) p x =
    both_true (holds_only test f) (holds_only test g) (holds-only choose b test f p.0 x.0) (holds-only choose b test g p.1 x.1)
holds-only choose b test (one (Ever _) f) p x = elim p [ ]
holds-only choose b test (two Until f g) p x = elim p [ ]

-- a slot that may be stepped
pub record Ready (slots : List Slot) (marks : List Bool) : Type 0 where
  pub slot : ℕ
  pub there : slot < length slots
  pub unmarked : marked marks slot ≡ false
  pub ready : holds_only (marked marks) (slot_at slots slot).formula ≡ true

not-below : (d n : ℕ) → (d < n → ⊥) → n ≤ d
not-below d n h = omega arith

module _ (choose : Formula → Option ℕ) (choice : Choice choose) (sample : ℕ → Event) (before : List Slot) (ok : AllOk choose choice (length before) 0 before) where
  pub slot_ok : (k : ℕ) → k < length before → SlotOk choose choice (length before) k (slot_at before k)
  slot_ok k l = each-slot (SlotOk choose choice (length before)) before ok k l

  -- slot k as it is once stepped, with the other slots as they stand
  abbrev pub settled_slot : List Slot → ℕ → Slot
  settled_slot slots k =
      let s = slot_at before k in
      record { board = s.board; formula = resolved (sample s.board) (filled (verdict_at slots) s.formula) }

  -- ---- within a tick
  pub record Partly (slots : List Slot) (marks : List Bool) : Type 0 where
    pub many : length slots ≡ length before
    pub marks-many : length marks ≡ length before
    pub fresh : (k : ℕ) → k < length before → marked marks k ≡ false → slot_at slots k ≡ slot_at before k
    pub held : (k : ℕ) → k < length before → marked marks k ≡ true → HoldsIn (λ m. marked marks m ≡ true) (slot_at before k).formula
    pub done : (k : ℕ) → k < length before → marked marks k ≡ true → slot_at slots k ≡ settled_slot slots k

  not-marked : (n k : ℕ) → marked (replicate n false) k ≡ false
  not-marked zero k = refl
  not-marked (suc n) zero = refl
  not-marked (suc n) (suc k) = not-marked n k

  pub partly-start : Partly before (replicate (length before) false)
  partly-start =
      record {
        many = refl;
        marks-many = length-replicate (length before) false;
        fresh = λ k l m. refl;
        held = λ k l m. absurd (no_true (sym (not-marked (length before) k) ∙ m));
        done = λ k l m. absurd (no_true (sym (not-marked (length before) k) ∙ m));
      }

  -- where the slots that slot k holds look alike, so does slot k once stepped
  settled_same : (xs ys : List Slot) (k : ℕ) → HoldsIn (λ m. verdict_at xs m ≡ verdict_at ys m) (slot_at before k).formula → settled_slot xs k ≡ settled_slot ys k
  settled_same xs ys k h =
      let s = slot_at before k in
      ap (λ (f : Formula). record { board = s.board; formula = resolved (sample s.board) f }) (filled-same (verdict_at xs) (verdict_at ys) s.formula h)

  module _ (slots : List Slot) (marks : List Bool) (p : Partly slots marks) (k : ℕ) (l : k < length slots) (unmarked : marked marks k ≡ false)
      (held-now : HoldsIn (λ m. marked marks m ≡ true) (slot_at before k).formula) where
    below : k < length before
    below = let n = p.many in omega arith

    new : Slot
    new = settled_slot slots k

    stepped-is : stepped sample slots k ≡ set slots k new
    unfolding stepped new
    stepped-is =
        ap (λ (s : Slot). set slots k (record { board = s.board; formula = resolved (sample s.board) (filled (verdict_at slots) s.formula) })) (p.fresh k below unmarked)

    here-slot : slot_at (set slots k new) k ≡ new
    here-slot = get_or-set_same slots k new (record { board = 0; formula = constant false }) l

    other-slot : (j : ℕ) → (j ≡ k → ⊥) → slot_at (set slots k new) j ≡ slot_at slots j
    other-slot j n = get_or-set_other slots k j new (record { board = 0; formula = constant false }) n

    here-mark : marked (set marks k true) k ≡ true
    here-mark = get_or-set_same marks k true false (let n = p.marks-many in let m = below in omega arith)

    other-mark : (j : ℕ) → (j ≡ k → ⊥) → marked (set marks k true) j ≡ marked marks j
    other-mark j n = get_or-set_other marks k j true false n

    -- a slot that was stepped before is not slot k
    apart : (m : ℕ) → marked marks m ≡ true → m ≡ k → ⊥
    apart m h e = no_true (sym unmarked ∙ ap (marked marks) (sym e) ∙ h)

    still_marked : (m : ℕ) → marked marks m ≡ true → marked (set marks k true) m ≡ true
    still_marked m h = other-mark m (apart m h) ∙ h

    still-held : (f : Formula) → HoldsIn (λ m. marked marks m ≡ true) f → HoldsIn (λ m. verdict_at slots m ≡ verdict_at (set slots k new) m) f
    still-held f h = holds-map _ _ (λ m q. ap (λ (s : Slot). verdict_of s.formula) (sym (other-slot m (apart m q)))) f h

    new_is : new ≡ settled_slot (set slots k new) k
    unfolding new
    new_is = settled_same slots (set slots k (settled_slot slots k)) k (still-held (slot_at before k).formula held-now)

    partly-step : Partly (stepped sample slots k) (set marks k true)
    partly-step =
        rw stepped-is
        (record {
          many = length-set slots k new ∙ p.many;
          marks-many = length-set marks k true ∙ p.marks-many;
          fresh = λ j i m. fresh j i m (ℕ_discrete j k);
          held = λ j i m. holds-map _ _ still_marked (slot_at before j).formula (held j i m (ℕ_discrete j k));
          done = λ j i m. done j i m (ℕ_discrete j k);
        })
      where
        fresh : (j : ℕ) → j < length before → marked (set marks k true) j ≡ false → Dec (j ≡ k) → slot_at (set slots k new) j ≡ slot_at before j
        fresh j i m (yes q) = absurd (no_true (sym m ∙ ap (marked (set marks k true)) q ∙ here-mark))
        fresh j i m (no n) = other-slot j n ∙ p.fresh j i (sym (other-mark j n) ∙ m)

        held : (j : ℕ) → j < length before → marked (set marks k true) j ≡ true → Dec (j ≡ k) → HoldsIn (λ m. marked marks m ≡ true) (slot_at before j).formula
        held j i m (yes q) = subst (λ (n : ℕ). HoldsIn (λ m. marked marks m ≡ true) (slot_at before n).formula) (sym q) held-now
        held j i m (no n) = p.held j i (sym (other-mark j n) ∙ m)

        done : (j : ℕ) → j < length before → marked (set marks k true) j ≡ true → Dec (j ≡ k) → slot_at (set slots k new) j ≡ settled_slot (set slots k new) j
        done j i m (yes q) = subst (λ (n : ℕ). slot_at (set slots k new) n ≡ settled_slot (set slots k new) n) (sym q) (here-slot ∙ new_is)
        done j i m (no n) =
            let h = sym (other-mark j n) ∙ m in
            other-slot j n ∙ p.done j i h ∙ settled_same slots (set slots k new) j (still-held (slot_at before j).formula (p.held j i h))

  -- a slot that is ready holds stepped slots alone
  ready-holds : (slots : List Slot) (marks : List Bool) → Partly slots marks → (k : ℕ) → k < length slots → marked marks k ≡ false
      → holds_only (marked marks) (slot_at slots k).formula ≡ true → HoldsIn (λ m. marked marks m ≡ true) (slot_at before k).formula
  ready-holds slots marks p k l unmarked ready =
      let n = p.many in
      let i : k < length before = omega arith in
      only-holds (marked marks) (slot_at before k).formula
      (ap (λ (s : Slot). holds_only (marked marks) s.formula) (sym (p.fresh k i unmarked)) ∙ ready)

  pub partly-steps : {slots slots' : List Slot} {marks marks' : List Bool} → Steps sample slots marks slots' marks' → Partly slots marks → Partly slots' marks'
  partly-steps rest p = p
  partly-steps (step {slots = slots} {marks = marks} k l unmarked ready more) p = partly-steps more (partly-step slots marks p k l unmarked (ready-holds slots marks p k l unmarked ready))

  -- ---- all slots stepped: one list
  -- from the highest number down
  agree-from : (xs ys : List Slot) → ((k : ℕ) → k < length before → slot_at xs k ≡ settled_slot xs k) → ((k : ℕ) → k < length before → slot_at ys k ≡ settled_slot ys k)
      → (d k : ℕ) → length before ≤ k + d → k < length before → slot_at xs k ≡ slot_at ys k
  agree-from xs ys f g zero k h l = absurd (omega arith)
  agree-from xs ys f g (suc d) k h l =
      f k l
      ∙ settled_same xs ys k (holds-map _ _ (λ m q. (let a = q.0 in ap (λ (s : Slot). verdict_of s.formula) (agree-from xs ys f g d m (omega arith) q.1))) (slot_at before k).formula (slot_ok k l).holds)
      ∙ sym (g k l)

  pub partly-agree : (xs ys : List Slot) (ms ns : List Bool) → Partly xs ms → AllMarked xs ms → Partly ys ns → AllMarked ys ns → xs ≡ ys
  partly-agree xs ys ms ns p a q b =
      let m = p.many in
      let n = q.many in
      ext_get_or (record { board = 0; formula = constant false }) xs ys (m ∙ sym n)
      (λ i l. agree-from xs ys (λ k h. p.done k h (a k (omega arith))) (λ k h. q.done k h (b k (omega arith))) (length before) i (omega arith) (omega arith))

  -- ---- no tick gets stuck
  -- from the highest number down: all are stepped, or one is ready
  above-ready : (slots : List Slot) (marks : List Bool) → Partly slots marks → (k : ℕ) → k < length before → marked marks k ≡ false
      → ((m : ℕ) → k < m → m < length before → marked marks m ≡ true) → holds_only (marked marks) (slot_at slots k).formula ≡ true
  above-ready slots marks p k l unmarked above =
      ap (λ (s : Slot). holds_only (marked marks) s.formula) (p.fresh k l unmarked)
      ∙ holds-only choose (slot_at before k).board (marked marks) (slot_at before k).formula (slot_ok k l).plain
      (holds-map _ _ (λ m q. above m q.0 q.1) (slot_at before k).formula (slot_ok k l).holds)

  go_on : (slots : List Slot) (marks : List Bool) → Partly slots marks → (d : ℕ) → ((m : ℕ) → length before ≤ m + d → m < length before → marked marks m ≡ true) ⊎ Ready slots marks
  go_on slots marks p zero = inl (λ m h l. absurd (omega arith))
  go_on slots marks p (suc d) = ⊎_elim (λ above. next above) inr (go_on slots marks p d)
    where
      next : ((m : ℕ) → length before ≤ m + d → m < length before → marked marks m ≡ true) → ((m : ℕ) → length before ≤ m + suc d → m < length before → marked marks m ≡ true) ⊎ Ready slots marks
      next above = go (dec_lt d (length before)) (marked marks (length before - suc d)) refl
        where
          go : Dec (d < length before) → (t : Bool) → marked marks (length before - suc d) ≡ t
              → ((m : ℕ) → length before ≤ m + suc d → m < length before → marked marks m ≡ true) ⊎ Ready slots marks
          go (no n) t q = inl (λ m h l. above m (let b : length before ≤ d = not-below d (length before) n in omega arith) l)
          go (yes i) true q = inl (λ m h l. ⊎_elim (λ e. (let k : m ≡ length before - suc d = omega arith in ap (marked marks) k ∙ q)) (λ b. above m (omega arith) l) (eq-or-lt_of_le h))
          go (yes i) false q =
              let n = p.many in
              inr (record {
                slot = length before - suc d;
                there = omega arith;
                unmarked = q;
                ready = above-ready slots marks p (length before - suc d) (omega arith) q (λ m a b. above m (omega arith) b);
              })

  pub goes_on : (slots : List Slot) (marks : List Bool) → Partly slots marks → AllMarked slots marks ⊎ Ready slots marks
  goes_on slots marks p =
      ⊎_elim (λ above. inl (λ k l. (let n = p.many in above k (omega arith) (omega arith)))) inr (go_on slots marks p (length before))

  -- ---- stepping from the highest number down is an allowed order
  pub record Finish (slots : List Slot) (marks : List Bool) : Type 0 where
    pub last : List Slot
    pub last-marks : List Bool
    pub steps : Steps sample slots marks last last-marks
    pub all : AllMarked last last-marks

  finish : (d : ℕ) → d ≤ length before → (slots : List Slot) (marks : List Bool) → Partly slots marks
      → ((m : ℕ) → d ≤ m → m < length before → marked marks m ≡ true) → ((m : ℕ) → m < d → marked marks m ≡ false) → Finish slots marks
  finish zero h slots marks p above under = record { last = slots; last-marks = marks; steps = rest; all = λ k l. (let n = p.many in above k (omega arith) (omega arith)) }
  finish (suc d) h slots marks p above under =
      let n = p.many in
      let u = under d (omega arith) in
      let i : d < length before = omega arith in
      let l : d < length slots = omega arith in
      let r = above-ready slots marks p d i u (λ m a b. above m a b) in
      let q = partly-step slots marks p d l u (ready-holds slots marks p d l u r) in
      let f = finish d (omega arith) (stepped sample slots d) (set marks d true) q (λ m a b. marked-now marks p.marks-many m a b (ℕ_discrete m d) above) (λ m a. get_or-set_other marks d m true false (λ e. omega arith) ∙ under m (omega arith)) in
      record { last = f.last; last-marks = f.last-marks; steps = step {slots' = f.last} {marks' = f.last-marks} d l u r f.steps; all = f.all }
    where
      marked-now : (marks : List Bool) → length marks ≡ length before → (m : ℕ) → d ≤ m → m < length before → Dec (m ≡ d) → ((m : ℕ) → suc d ≤ m → m < length before → marked marks m ≡ true) → marked (set marks d true) m ≡ true
      marked-now marks n m a b (yes e) above = ap (marked (set marks d true)) e ∙ get_or-set_same marks d true false (omega arith)
      marked-now marks n m a b (no e) above = get_or-set_other marks d m true false e ∙ above m (apart e) b
        where
          apart : (m ≡ d → ⊥) → suc d ≤ m
          apart e = omega arith

-- ---- a tick
module _ (choose : Formula → Option ℕ) (choice : Choice choose) (sample : ℕ → Event) (before : List Slot) (ok : AllOk choose choice (length before) 0 before) where
  -- equal samples close to the same next network, whatever the order
  pub ticks-agree : (a b : List Slot) → Ticks choose sample before a → Ticks choose sample before b → a ≡ b
  ticks-agree a b x y =
      let start = partly-start choose choice sample before ok in
      let p = partly-steps choose choice sample before ok x.steps start in
      let q = partly-steps choose choice sample before ok y.steps start in
      x.closes ∙ ap (close choose) (partly-agree choose choice sample before ok x.last y.last x.marks y.marks p x.all q y.all) ∙ sym y.closes

  -- there is an order
  pub ticks-exist : (after : List Slot) × Ticks choose sample before after
  ticks-exist =
      let f = finish choose choice sample before ok (length before) (omega arith) before (replicate (length before) false) (partly-start choose choice sample before ok)
      (λ m a b. absurd (omega arith)) (λ m a. not-marked choose choice sample before ok (length before) m) in
      (close choose f.last, record { last = f.last; marks = f.last-marks; steps = f.steps; all = f.all; closes = refl })

  -- wherever a tick stands, all slots are stepped or one is ready
  pub ticks-go-on : {slots : List Slot} {marks : List Bool} → Steps sample before (replicate (length before) false) slots marks → AllMarked slots marks ⊎ Ready slots marks
  ticks-go-on {slots} {marks} s = goes_on choose choice sample before ok slots marks (partly-steps choose choice sample before ok s (partly-start choose choice sample before ok))
