-- The three checks of a call on a recording, whatever else its first one asks (`lengths`) and whatever it answers: which number it says where
-- each fails (`says-1`, `says-4`, `says-20`), what it says where all pass (`says_all`), and that it is accepted only there (`passed`). What `inspect`
-- refuses, every such call refuses (`refused-so`); where it refuses nothing, the recording is whole and has no clash (`inspected`). Assumes nothing.
use mathlib.Core.Path.{◌≡◌, refl, sym, ap, ◌∙◌}
use mathlib.Core.Bool.{Bool, true, false}
use mathlib.Core.List.{List, [], ◌∷◌}
use Prim.Native.Nat.{ℕ}
use native.Mathlib.Omega.{arith}
use lib.ListN.{length}
use Rattle.lists.specs.Tests.{both}
use Rattle.lists.proofs.Tests.{both-0, both-1, both_true}
use Rattle.answers.specs.Said.{Said, accepted, refused, number_of, check, Check, in_order}
use Rattle.answers.specs.declared.Refusal.{Refusal}
use Rattle.answers.proofs.Answers.{number-some, order-ok, order-refused, order-done}
use Rattle.recordings.specs.Mending.{agree, NoClash}
use Rattle.recordings.specs.Recording.{recording_length, count_in, record_in, records_in, total_ok, header_ok}
use Rattle.recordings.proofs.Places.{agree_at}
use Rattle.inspecting.specs.Looked.{inspect_says}
use Rattle.inspecting.proofs.Fits.{header-long}

module _ (lengths : Bool) (s : List ℕ) (answer : Said) where
  -- the checks behind the first, and behind the second
  abbrev last : List Check
  last = check 20 (agree (records_in s)) ∷ []

  abbrev later : List Check
  later = check 4 (header_ok s) ∷ last

  abbrev pub says_of : Said
  says_of = inspect_says lengths s answer

  -- ---- one that fails
  pub says-1 : both (total_ok s) lengths ≡ false → says_of ≡ refused 1
  says-1 e = order-refused 1 (both (total_ok s) lengths) later answer e

  module _ (t : total_ok s ≡ true) (l : lengths ≡ true) where
    behind : says_of ≡ in_order later answer
    behind = order-ok 1 (both (total_ok s) lengths) later answer (both_true _ _ t l)

    pub says-4 : header_ok s ≡ false → says_of ≡ refused 4
    says-4 e = behind ∙ order-refused 4 (header_ok s) last answer e

    module _ (h : header_ok s ≡ true) where
      pub says-20 : agree (records_in s) ≡ false → says_of ≡ refused 20
      says-20 e = behind ∙ order-ok 4 (header_ok s) last answer h ∙ order-refused 20 (agree (records_in s)) [] answer e

      -- ---- none
      pub says_all : agree (records_in s) ≡ true → says_of ≡ answer
      says_all e = behind ∙ order-ok 4 (header_ok s) last answer h ∙ order-ok 20 (agree (records_in s)) [] answer e ∙ order-done answer

  -- ---- accepted
  pub record AllPassed : Type 0 where
    pub total : total_ok s ≡ true
    pub lengths-ok : lengths ≡ true
    pub header : header_ok s ≡ true
    pub agrees : agree (records_in s) ≡ true

  pub passed : says_of.number ≡ 0 → AllPassed
  passed z = go (both (total_ok s) lengths) refl (header_ok s) refl (agree (records_in s)) refl
    where
      go : (a : Bool) → both (total_ok s) lengths ≡ a → (b : Bool) → header_ok s ≡ b → (c : Bool) → agree (records_in s) ≡ c → AllPassed
      go true d true e true f = record { total = both-0 _ _ d; lengths-ok = both-1 _ _ d; header = e; agrees = f }
      go false d b e c f = let y = sym (ap (λ (x : Said). x.number) (says-1 d)) ∙ z in absurd (omega arith)
      go true d false e c f = let y = sym (ap (λ (x : Said). x.number) (says-4 (both-0 _ _ d) (both-1 _ _ d) e)) ∙ z in absurd (omega arith)
      go true d true e false f = let y = sym (ap (λ (x : Said). x.number) (says-20 (both-0 _ _ d) (both-1 _ _ d) e f)) ∙ z in absurd (omega arith)

-- ---- a call that inspects its recording first
-- its refusals are those of the inspection
pub refused-so : (lengths : Bool) (s : List ℕ) (answer : Said) (why : Refusal) → refused (number_of why) ≡ inspect_says lengths s (accepted [])
    → inspect_says lengths s answer ≡ refused (number_of why)
refused-so lengths s answer why z = go (both (total_ok s) lengths) refl (header_ok s) refl (agree (records_in s)) refl
  where
    go : (a : Bool) → both (total_ok s) lengths ≡ a → (b : Bool) → header_ok s ≡ b → (c : Bool) → agree (records_in s) ≡ c → inspect_says lengths s answer ≡ refused (number_of why)
    go false d b e c f = says-1 lengths s answer d ∙ sym (says-1 lengths s (accepted []) d) ∙ sym z
    go true d false e c f =
        let t = both-0 _ _ d in let l = both-1 _ _ d in
        says-4 lengths s answer t l e ∙ sym (says-4 lengths s (accepted []) t l e) ∙ sym z
    go true d true e false f =
        let t = both-0 _ _ d in let l = both-1 _ _ d in
        says-20 lengths s answer t l e f ∙ sym (says-20 lengths s (accepted []) t l e f) ∙ sym z
    go true d true e true f =
        let n = number-some why in
        let y = ap (λ (x : Said). x.number) (z ∙ says_all lengths s (accepted []) (both-0 _ _ d) (both-1 _ _ d) e f) in
        absurd (omega arith)

-- what is known where it refuses nothing
pub record Inspected (s : List ℕ) (lengths : Bool) : Type 0 where
  pub lengths-ok : lengths ≡ true
  pub long : length s ≡ recording_length (count_in s)
  pub total : total_ok s ≡ true
  pub clear : NoClash (record_in s) (count_in s)
  pub says : (answer : Said) → inspect_says lengths s answer ≡ answer

pub inspected : (lengths : Bool) (s : List ℕ) → accepted [] ≡ inspect_says lengths s (accepted []) → Inspected s lengths
inspected lengths s z =
    let p = passed lengths s (accepted []) (sym (ap (λ (x : Said). x.number) z)) in
    record {
      lengths-ok = p.lengths-ok;
      long = header-long s p.total p.header;
      total = p.total;
      clear = agree_at (record_in s) (count_in s) p.agrees;
      says = λ answer. says_all lengths s answer p.total p.lengths-ok p.header p.agrees;
    }
