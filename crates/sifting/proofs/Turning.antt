-- A record put behind those that were kept (`record-put`), and the loop over the records: none yet (`sift-none`), one more (`sift-more`), and where
-- it ends, at a break or behind the last record (`none_more`, `reach-stop`, `reach-end`). Assumes nothing.
use mathlib.Core.Path.{◌≡◌, refl, sym, ap, ap₂, subst, ◌∙◌}
use mathlib.Core.Bool.{Bool, true, false}
use mathlib.Core.List.{List, [], ◌∷◌, ◌++◌, append_assoc, append-nil}
use Prim.Native.Nat.{ℕ, suc, ◌+◌, ◌*◌, ◌<◌, ◌≤◌}
use native.Mathlib.Nat.{add-zero}
use native.Mathlib.Numerals.{add-one}
use native.Mathlib.Decide.{ℕ_discrete}
use native.Mathlib.Omega.{arith}
use lib.ListN.{length, set, take, drop, length-append}
use lib.Seq.{take_at, take-suc-set, length-take-le}
use lib.Dec.{eqb}
use borrow.Author.Tests.{eqb-true, eq-eqb}
use Rattle.lists.specs.Tests.{pick, both}
use Rattle.lists.specs.Listed.{listed}
use Rattle.lists.proofs.Tests.{no_true, both-0, both-1, both_true, pick-ap}
use Rattle.lists.proofs.Listed.{listed_more}
use Rattle.le.specs.Le.{le}
use Rattle.le.proofs.Puts.{number_put}
use Rattle.recordings.specs.Records.{Record, dropped, broken}
use Rattle.recordings.specs.Mending.{not_dropped, mark_by}
use Rattle.recordings.specs.Recording.{record_length, record_in, one_record, record_bytes}
use Rattle.recordings.proofs.Places.{kept_more, kept-few}
use Rattle.recordings.proofs.Bytes.{record-length, records-both}
use Rattle.sifting.specs.Sifted.{kept_to, SiftedTo, NoBreak, SiftsTo}

-- ---- a record put
pub record-put : (out : List ℕ) (at c v : ℕ) → at ≤ length out → {p q : List ℕ} → p ≡ take at out ++ (le 4 c ++ drop (at + 4) out) → q ≡ take (at + 4) p ++ (le 8 v ++ drop (at + 4 + 8) p)
    → q ≡ take at out ++ (one_record (record { counter = c; event = v }) ++ drop (at + record_length) out)
unfolding one_record le
record-put out at c v h {p} x y = number_put p out (le 4 c) at 4 8 v refl h x y

-- ---- the loop
pub sift-none : (s out marks : List ℕ) → SiftedTo s out marks 0 0
unfolding listed not_dropped record_bytes
sift-none s out marks = record { count = refl; put = refl; marked = refl }

module _ {s out marks : List ℕ} {i kept : ℕ} (t : SiftedTo s out marks i kept) where
  -- there is room for the next record
  pub kept-least : kept ≤ i
  kept-least = let k = t.count in let f = kept-few (mark_by (record_in s)) (record_in s) i in omega arith

  -- ---- one more
  module _ {mark : ℕ} (m : mark ≡ mark_by (record_in s) i) {out' : List ℕ} {r : Record} (room : record_length * kept + record_length ≤ length out) (is : r ≡ record_in s i)
      (put : out' ≡ take (record_length * kept) out ++ (one_record r ++ drop (record_length * kept + record_length) out)) where
    puts : out' ≡ take (record_length * kept) out ++ (one_record (record_in s i) ++ drop (record_length * kept + record_length) out)
    puts = put ∙ ap (λ (x : Record). take (record_length * kept) out ++ (one_record x ++ drop (record_length * kept + record_length) out)) is

    kept_next : kept_to s (suc i) ≡ kept_to s i ++ pick (eqb mark dropped) [] (record_in s i ∷ [])
    kept_next = kept_more (mark_by (record_in s)) (record_in s) i ∙ ap (λ (x : ℕ). kept_to s i ++ pick (eqb x dropped) [] (record_in s i ∷ [])) (sym m)

    put_next : (d : Bool) → take (record_length * (kept + pick d 0 1)) out' ≡ record_bytes (kept_to s i ++ pick d [] (record_in s i ∷ []))
    unfolding pick record_bytes
    put_next true =
        let long = length-take-le (record_length * kept) out (omega arith) in
        ap₂ take (ap (record_length *◌) (add-zero kept)) puts
        ∙ take_at (take (record_length * kept) out) _ (record_length * kept) long
        ∙ t.put ∙ ap record_bytes (sym (append-nil (kept_to s i)))
    put_next false =
        let k = record_length * kept in
        let long = length-take-le k out (omega arith) in
        let x = one_record (record_in s i) in
        let n : length (take k out ++ x) ≡ record_length * (kept + 1) = length-append (take k out) x ∙ (let l = record-length (record_in s i) in omega arith) in
        ap (take (record_length * (kept + 1))) (puts ∙ sym (append_assoc (take k out) x (drop (k + record_length) out)))
        ∙ take_at (take k out ++ x) _ (record_length * (kept + 1)) n
        ∙ ap₂ ◌++◌ t.put (sym (append-nil x))
        ∙ sym (records-both (kept_to s i) (record_in s i ∷ []))

    pub sift-more : i < length marks → {k : ℕ} → k ≡ pick (eqb mark dropped) 0 1 → SiftedTo s out' (set marks i mark) (i + 1) (kept + k)
    sift-more h {k} e =
        rw (add-one i) (record {
          count = ap₂ ◌+◌ t.count (e ∙ sym (pick-ap length (eqb mark dropped) [] (record_in s i ∷ []))) ∙ sym (ap length kept_next ∙ length-append (kept_to s i) _);
          put = ap (λ (x : ℕ). take (record_length * (kept + x)) out') e ∙ put_next (eqb mark dropped) ∙ ap record_bytes (sym kept_next);
          marked = take-suc-set marks i mark h ∙ ap₂ (λ (l : List ℕ) (x : ℕ). l ++ (x ∷ [])) t.marked m ∙ sym (listed_more (mark_by (record_in s)) i);
        })

-- ---- breaks
-- what is known on the way where a break ends it
abbrev pub NoneYet : List ℕ → ℕ → ℕ → Bool → Type 0
NoneYet s from i stop = stop ≡ true → NoBreak s from → NoBreak s i

pub none_more : (s : List ℕ) {from i : ℕ} {stop : Bool} → NoneYet s from i stop → {mark : ℕ} → mark ≡ mark_by (record_in s) i → both stop (eqb mark broken) ≡ false → NoneYet s from (i + 1) stop
unfolding both
none_more s {from} {i} {stop} t {mark} m n e f j h b = go (ℕ_discrete j i)
  where
    go : Dec (j ≡ i) → ⊥
    go (yes z) = no_true (sym n ∙ both_true _ _ e (eq-eqb mark broken (m ∙ ap (mark_by (record_in s)) (sym z) ∙ b)))
    go (no z) = t e f j (omega arith) b

-- ---- its end
module _ {s out marks : List ℕ} {n from i kept : ℕ} {stop : Bool} (t : SiftedTo s out marks i kept) (none : NoneYet s from i stop) where
  pub reach-stop : i < n → {mark : ℕ} → mark ≡ mark_by (record_in s) i → both stop (eqb mark broken) ≡ true → SiftsTo s out marks n from stop (record { place = i; kept = kept })
  reach-stop h {mark} m e = record { few = omega arith; sifted = t; none = none; stops = λ l. (both-0 _ _ e, sym m ∙ eqb-true mark broken (both-1 stop _ e)) }

  pub reach-end : i ≡ n → SiftsTo s out marks n from stop (record { place = n; kept = kept })
  reach-end e =
      subst (λ (k : ℕ). SiftsTo s out marks n from stop (record { place = k; kept = kept })) e
      (record { few = omega arith; sifted = t; none = none; stops = λ l. absurd (omega arith) })
