-- One law for each way out of `mend`: the output's length (`room_wrong`), what the inspection refuses (`inspection_wrong`), and the mended recording
-- (`mended-ready`); what its pass and its header are asked (`sift_ask`, `header_ask`), and the header's bytes (`header-put`). Assumes nothing.
use Rattle.std.specs.Prelude.{Ok, Err}
use mathlib.Core.Path.{◌≡◌, refl, sym, ap, ap₂, ◌∙◌}
use mathlib.Core.Bool.{Bool, true, false}
use mathlib.Core.List.{List, [], ◌∷◌, ◌++◌, append_assoc}
use Prim.Native.Nat.{ℕ, ◌+◌, ◌-◌, ◌<◌, ◌≤◌, ◌^◌}
use native.Mathlib.Omega.{arith}
use lib.ListN.{length, take, drop, replicate, length-append}
use lib.Dec.{eqb}
use borrow.Author.Tests.{eqb-true, eq-eqb, ne_eqb}
use Rattle.lists.specs.Tests.{both}
use Rattle.lists.specs.Runs.{padded, tail, tail_as}
use Rattle.lists.specs.Listed.{listed}
use Rattle.lists.proofs.Tests.{both-1}
use Rattle.lists.proofs.Parts.{tail-length, handed-length, handed-back}
use Rattle.answers.specs.Said.{Said, accepted, refused, number_of, left}
use Rattle.answers.specs.declared.Refusal.{Refusal}
use Rattle.answers.specs.declared.Refusal.TheVariants.{Length}
use Rattle.answers.proofs.Answers.{left-refused, left-accepted}
use Rattle.le.specs.Le.{le}
use Rattle.le.proofs.Laws.{Bytes, le_at-less}
use Rattle.le.proofs.Puts.{number_put}
use Rattle.recordings.specs.declared.Mended.{Mended}
use Rattle.recordings.specs.Mending.{marks_of, kept_of, first_stretch}
use Rattle.recordings.specs.Recording.{records_at, recording_length, count_in, total_in, record_in, records_in, total_ok, header_of, record_bytes, recording_of}
use Rattle.recordings.proofs.Bytes.{header-length}
use Rattle.inspecting.specs.Looked.{inspect_says}
use Rattle.inspecting.proofs.Checks.{says-1, refused-so, Inspected}
use Rattle.sifting.specs.Sifted.{SiftAsk, Sifts}
use Rattle.mending.specs.Mend.{mend_room_ok, mend_says, mended_for, Mends}

-- what is answered where all checks pass
abbrev pub told_mend : List ℕ → Said
told_mend s = accepted (length (kept_of (records_in s)) ∷ length (first_stretch (records_in s)) ∷ [])

module _ (s mended marks : List ℕ) where
  refuses : (why : Refusal) → mend_says s (length mended) (length marks) ≡ refused (number_of why) → Mends s mended marks mended marks (Err why)
  refuses why e =
      record {
        says = sym e;
        leaves = sym (ap (λ (a : Said). left a (mended_for s) mended) e ∙ left-refused why (mended_for s) mended);
        leaves-marks = sym (ap (λ (a : Said). left a (marks_of (records_in s)) marks) e ∙ left-refused why (marks_of (records_in s)) marks);
      }

  pub room_wrong : (length mended ≡ length s → ⊥) → Mends s mended marks mended marks (Err Length)
  unfolding mend_says both
  room_wrong n = refuses Length (says-1 (mend_room_ok s (length mended) (length marks)) s (told_mend s) (go (total_ok s)))
    where
      off : mend_room_ok s (length mended) (length marks) ≡ false
      off = rw (ne_eqb (length mended) (length s) n)

      go : (b : Bool) → both b (mend_room_ok s (length mended) (length marks)) ≡ false
      go true = off
      go false = refl

  module _ (room : length mended ≡ length s) where
    -- with that room, the call's lengths are those of the inspection
    same_lengths : mend_says s (length mended) (length marks) ≡ inspect_says (eqb (length marks) (count_in s)) s (told_mend s)
    unfolding mend_says both
    same_lengths = ap (λ (b : Bool). inspect_says (both b (eqb (length marks) (count_in s))) s (told_mend s)) (eq-eqb (length mended) (length s) room)

    pub inspection_wrong : (why : Refusal) → refused (number_of why) ≡ inspect_says (eqb (length marks) (count_in s)) s (accepted []) → Mends s mended marks mended marks (Err why)
    inspection_wrong why z = refuses why (same_lengths ∙ refused-so (eqb (length marks) (count_in s)) s (told_mend s) why z)

-- ---- the header
pub header-put : (t : List ℕ) (n : ℕ) {s₁ s₂ s₃ s₄ : List ℕ}
    → s₁ ≡ take 0 t ++ (le 4 n ++ drop (0 + 4) t)
    → s₂ ≡ take 4 s₁ ++ (le 4 records_at ++ drop (4 + 4) s₁)
    → s₃ ≡ take 8 s₂ ++ (le 4 (recording_length n) ++ drop (8 + 4) s₂)
    → s₄ ≡ take 12 s₃ ++ (le 4 0 ++ drop (12 + 4) s₃)
    → s₄ ≡ header_of n ++ drop records_at t
unfolding header_of le
header-put t n {s₁} {s₂} {s₃} {s₄} e₁ e₂ e₃ e₄ =
    let a₁ = le 4 n in
    let a₂ = a₁ ++ le 4 records_at in
    let a₃ = a₂ ++ le 4 (recording_length n) in
    let d₂ = number_put s₁ t a₁ 0 4 4 records_at refl (omega arith) e₁ e₂ in
    let d₃ = number_put s₂ t a₂ 0 8 4 (recording_length n) refl (omega arith) d₂ e₃ in
    number_put s₃ t a₃ 0 12 4 0 refl (omega arith) d₃ e₄

-- ---- where all checks have passed
module _ (s mended marks : List ℕ) (room : length mended ≡ length s) (i : Inspected s (eqb (length marks) (count_in s))) where
  list : length marks ≡ count_in s
  list = eqb-true (length marks) (count_in s) i.lengths-ok

  pub ready_long : records_at ≤ length mended
  ready_long = let w = i.long in omega arith

  pub sift_ask : SiftAsk s (tail records_at mended) marks
  sift_ask =
      let w = i.long in let l = list in let t = tail-length records_at mended in
      record { room = omega arith; out-room = omega arith; clear = λ j h. i.clear j (omega arith) }

  says-mended : mend_says s (length mended) (length marks) ≡ told_mend s
  says-mended = same_lengths s mended marks room ∙ i.says (told_mend s)

  pub header_ask : Bytes s → {out marks' : List ℕ} {c : Mended} → Sifts s (tail records_at mended) out marks' (length marks) c → length out ≡ length (tail records_at mended)
      → (records_at ≤ length (tail_as records_at mended out)) × (recording_length c.kept < 2 ^ 32)
  unfolding total_ok
  header_ask b {out} {marks'} {c} t long =
      let n = handed-length records_at mended out ready_long long in
      let l = ready_long in
      let w = i.long in let f = t.few in let e = list in
      let total = eqb-true (total_in s) (length s) (both-1 _ _ i.total) in
      let top = le_at-less s 8 4 b in
      (omega arith, omega arith)

  module _ {out marks' mended' : List ℕ} {c : Mended} (t : Sifts s (tail records_at mended) out marks' (length marks) c)
      (h : mended' ≡ header_of c.kept ++ drop records_at (tail_as records_at mended out)) where
    -- the records of the recording, by the number of marks
    same : listed (record_in s) (length marks) ≡ records_in s
    same = ap (listed (record_in s)) list

    kept-is : c.kept ≡ length (kept_of (records_in s))
    kept-is = t.kept ∙ ap (λ (rs : List _). length (kept_of rs)) same

    bytes : mended' ≡ mended_for s
    unfolding recording_of
    bytes =
        let ks = kept_of (records_in s) in
        let w = i.long in
        let rest : length (tail records_at mended) - length (record_bytes ks) ≡ length s - length (recording_of ks) =
        (let a = tail-length records_at mended in let b = length-append (header_of (length ks)) (record_bytes ks) in let d = header-length (length ks) in omega arith) in
        h ∙ ap₂ (λ (k : ℕ) (x : List ℕ). header_of k ++ x) kept-is (handed-back records_at mended out ready_long ∙ t.put ∙ ap (λ (rs : List _). padded (length (tail records_at mended)) (record_bytes (kept_of rs))) same)
        ∙ sym (append_assoc (header_of (length ks)) (record_bytes ks) (replicate (length (tail records_at mended) - length (record_bytes ks)) 0))
        ∙ ap (λ (k : ℕ). recording_of ks ++ replicate {A = ℕ} k 0) rest

    pub mended-ready : Mends s mended marks mended' marks' (Ok (record { kept = c.kept; first = c.first }))
    mended-ready =
        let first-is = t.first ∙ ap (λ (rs : List _). length (first_stretch rs)) same in
        record {
          says = ap₂ (λ (a b : ℕ). accepted (a ∷ b ∷ [])) kept-is first-is ∙ sym says-mended;
          leaves = bytes ∙ sym (ap (λ (a : Said). left a (mended_for s) mended) says-mended ∙ left-accepted _ (mended_for s) mended);
          leaves-marks = t.marks ∙ ap marks_of same ∙ sym (ap (λ (a : Said). left a (marks_of (records_in s)) marks) says-mended ∙ left-accepted _ (marks_of (records_in s)) marks);
        }
