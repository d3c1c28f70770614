-- The loop that takes the events of the first stretch: what stands after i records (`GatheredTo`), one more (`gather-more`), and its end, at a
-- break (`gather-stops`) or behind the last record (`gather-done`). Assumes nothing.
use mathlib.Core.Path.{◌≡◌, refl, sym, ap, ap₂, ◌∙◌}
use mathlib.Core.Bool.{Bool, true, false, not}
use mathlib.Core.List.{List, [], ◌∷◌, ◌++◌, map, map-append, append-nil}
use Prim.Native.Nat.{ℕ, suc, ◌+◌, ◌<◌, ◌≤◌}
use native.Mathlib.Nat.{add-zero}
use native.Mathlib.Numerals.{add-one}
use native.Mathlib.Omega.{arith}
use lib.ListN.{length, set, take, length-append}
use lib.Seq.{take-set-le, take-suc-set}
use lib.Dec.{eqb}
use borrow.Author.Tests.{eq-eqb, ne_eqb}
use Rattle.lists.specs.Tests.{pick}
use Rattle.lists.specs.Listed.{listed}
use Rattle.lists.proofs.Tests.{pick-ap, both_true}
use Rattle.recordings.specs.Records.{Record, mark_byte, dropped, broken}
use Rattle.recordings.specs.declared.Mark.{Mark}
use Rattle.recordings.specs.declared.Mark.TheVariants.{Kept, Dropped, Broken}
use Rattle.recordings.specs.Mending.{before_break, first_stretch, mark_by}
use Rattle.recordings.specs.Recording.{record_in}
use Rattle.recordings.proofs.Places.{whole, whole-more, marks-listed, stretch-more, stretch-stops, stretch-few}
use Rattle.stretching.specs.Stretch.{Gathers}

-- another mark has another byte
pub unbroken : (m : Mark) → (m ≡ Broken → ⊥) → mark_byte m ≡ broken → ⊥
unbroken Kept n e = omega arith
unbroken Dropped n e = omega arith
unbroken Broken n e = n refl

-- the records of the first stretch among the first i
abbrev first_to : List ℕ → ℕ → List Record
first_to s i = before_break (listed (mark_by (record_in s)) i) (listed (record_in s) i)

-- no break has come, and the events so far stand in front
pub record GatheredTo (s events : List ℕ) (i kept : ℕ) : Type 0 where
  pub count : kept ≡ length (first_to s i)
  pub still : whole (listed (mark_by (record_in s)) i) ≡ true
  pub put : take kept events ≡ map (λ (r : Record). r.event) (first_to s i)

pub gather_none : (s events : List ℕ) → GatheredTo s events 0 0
unfolding listed before_break whole
gather_none s events = record { count = refl; still = refl; put = refl }

module _ {s events : List ℕ} {i kept : ℕ} (t : GatheredTo s events i kept) where
  pub gather-few : kept ≤ i
  gather-few = let k = t.count in let f = stretch-few (mark_by (record_in s)) (record_in s) i in omega arith

  module _ {mark : ℕ} (m : mark ≡ mark_by (record_in s) i) where
    -- ---- one more
    module _ (n : mark ≡ broken → ⊥) where
      still-next : whole (listed (mark_by (record_in s)) (suc i)) ≡ true
      still-next =
          whole-more (mark_by (record_in s)) i
          ∙ both_true _ _ t.still (ap not (ne_eqb (mark_by (record_in s) i) broken (λ e. n (m ∙ e))))

      first_next : first_to s (suc i) ≡ first_to s i ++ pick (eqb mark dropped) [] (record_in s i ∷ [])
      unfolding pick
      first_next =
          stretch-more (mark_by (record_in s)) (record_in s) i
          ∙ rw still-next (ap (λ (x : ℕ). first_to s i ++ pick (eqb x dropped) [] (record_in s i ∷ [])) (sym m))

      put_next : (d : Bool) → kept < length events
          → take (kept + pick d 0 1) (set events kept (record_in s i).event) ≡ map (λ (r : Record). r.event) (first_to s i ++ pick d [] (record_in s i ∷ []))
      unfolding pick
      put_next true h =
          ap (λ (k : ℕ). take k (set events kept (record_in s i).event)) (add-zero kept)
          ∙ take-set-le kept events kept (record_in s i).event (omega arith)
          ∙ t.put ∙ ap (map (λ (r : Record). r.event)) (sym (append-nil (first_to s i)))
      put_next false h =
          ap (λ (k : ℕ). take k (set events kept (record_in s i).event)) (add-one kept)
          ∙ take-suc-set events kept (record_in s i).event h
          ∙ ap (λ (l : List ℕ). l ++ ((record_in s i).event ∷ [])) t.put
          ∙ sym (map-append (λ (r : Record). r.event) (first_to s i) (record_in s i ∷ []))

      pub gather-more : kept < length events → {event k : ℕ} → event ≡ (record_in s i).event → k ≡ pick (eqb mark dropped) 0 1
          → GatheredTo s (set events kept event) (i + 1) (kept + k)
      gather-more h {event} {k} e z =
          rw (add-one i) (record {
            count = ap₂ ◌+◌ t.count (z ∙ sym (pick-ap length (eqb mark dropped) [] (record_in s i ∷ []))) ∙ sym (ap length first_next ∙ length-append (first_to s i) _);
            still = still-next;
            put = ap₂ (λ (x y : ℕ). take (kept + x) (set events kept y)) z e ∙ put_next (eqb mark dropped) h ∙ ap (map (λ (r : Record). r.event)) (sym first_next);
          })

    -- ---- a break
    pub gather-stops : {n : ℕ} → i < n → mark ≡ broken → Gathers s events n kept
    gather-stops {n} h e =
        let few = gather-few in
        let same : first_stretch (listed (record_in s) n) ≡ first_to s i =
        ap (λ (ms : List ℕ). before_break ms (listed (record_in s) n)) (marks-listed (record_in s) n)
        ∙ stretch-stops (mark_by (record_in s)) (record_in s) i n t.still h (eq-eqb (mark_by (record_in s) i) broken (sym m ∙ e)) in
        record { few = omega arith; taken = t.count ∙ ap length (sym same); put = t.put ∙ ap (map (λ (r : Record). r.event)) (sym same) }

-- ---- behind the last record
module _ {s events : List ℕ} {i n kept : ℕ} (t : GatheredTo s events i kept) where
  pub gather-done : i ≡ n → Gathers s events n kept
  gather-done e =
      let few = gather-few t in
      let same : first_to s i ≡ first_stretch (listed (record_in s) n) =
      ap (first_to s) e ∙ ap (λ (ms : List ℕ). before_break ms (listed (record_in s) n)) (sym (marks-listed (record_in s) n)) in
      record { few = omega arith; taken = t.count ∙ ap length same; put = t.put ∙ ap (map (λ (r : Record). r.event)) same }
