-- What `write` answers and leaves by the check that decides, one law for each outcome, over plain lists, in the order of the checks;
-- what an accepted call's checks told (`write-passed`), and what it leaves (`write-written`). Assumes nothing.
use Rattle.std.specs.Prelude.{Ok, Err}
use mathlib.Core.Path.{◌≡◌, sym, ap, ◌∙◌}
use mathlib.Core.Bool.{true, false}
use mathlib.Core.List.{List, [], ◌∷◌}
use Prim.Native.Nat.{ℕ}
use native.Mathlib.Omega.{arith}
use lib.ListN.{length}
use lib.Dec.{eqb}
use Rattle.lists.specs.Tests.{pick}
use Rattle.lists.specs.Runs.{padded}
use Rattle.answers.specs.declared.Refusal.{Refusal}
use Rattle.answers.specs.declared.Refusal.TheVariants.{Length, Range, Masks, Formula}
use Rattle.answers.specs.Said.{Said, accepted, refused, left, number_of, in_order}
use Rattle.answers.proofs.Answers.{left-refused, order-passed}
use Rattle.ltl.specs.Decode.{is_rule}
use Rattle.masks.specs.Masks.{masks_rule}
use Rattle.rules.specs.RuleFile.{file_most, counts_ok, file_of, total_of}
use Rattle.rules.specs.Write.{write_says, Writes}

-- ---- refusals
module _ (masks : List ℕ) (p : ℕ) (formula file : List ℕ) where
  write-refused : (why : Refusal) → write_says masks p formula (length file) ≡ refused (number_of why) → Writes masks p formula file file (Err why)
  write-refused why e =
      let whole = padded file_most (file_of masks p formula) in
      record { says = sym e; leaves = sym (ap (λ (s : Said). left s whole file) e ∙ left-refused why whole file) }

  pub write-length : eqb (length file) file_most ≡ false → Writes masks p formula file file (Err Length)
  unfolding write_says in_order pick
  write-length h = write-refused Length (rw h)

  module _ (o₁ : eqb (length file) file_most ≡ true) where
    pub write-range : counts_ok (length masks) p (length formula) ≡ false → Writes masks p formula file file (Err Range)
    unfolding write_says in_order pick
    write-range h = write-refused Range (rw (o₁, h))

    module _ (o₂ : counts_ok (length masks) p (length formula) ≡ true) where
      pub write-masks : masks_rule p masks ≡ false → Writes masks p formula file file (Err Masks)
      unfolding write_says in_order pick
      write-masks h = write-refused Masks (rw (o₁, o₂, h))

      module _ (o₃ : masks_rule p masks ≡ true) where
        pub write-formula : is_rule p formula ≡ false → Writes masks p formula file file (Err Formula)
        unfolding write_says in_order pick
        write-formula h = write-refused Formula (rw (o₁, o₂, o₃, h))

-- ---- all checks passed
pub record WritePassed (masks : List ℕ) (p : ℕ) (formula : List ℕ) (room : ℕ) : Type 0 where
  pub space : eqb room file_most ≡ true
  pub counts : counts_ok (length masks) p (length formula) ≡ true
  pub rule : masks_rule p masks ≡ true
  pub text : is_rule p formula ≡ true

pub write-passed : (masks : List ℕ) (p : ℕ) (formula : List ℕ) (room : ℕ) → (write_says masks p formula room).number ≡ 0 → WritePassed masks p formula room
unfolding write_says
write-passed masks p formula room e =
    let q = order-passed _ _ (omega arith, (omega arith, (omega arith, (omega arith, tt)))) e in
    record { space = q.0; counts = q.1.0; rule = q.1.1.0; text = q.1.1.1.0 }

write_says-written : (masks : List ℕ) (p : ℕ) (formula : List ℕ) (room : ℕ) → WritePassed masks p formula room → write_says masks p formula room ≡ accepted (total_of (length masks) (length formula) ∷ [])
unfolding write_says in_order pick
write_says-written masks p formula room o = rw (o.space, o.counts, o.rule, o.text)

pub write-written : (masks : List ℕ) (p : ℕ) (formula file : List ℕ) → WritePassed masks p formula (length file) → (n : ℕ) (file' : List ℕ)
    → n ≡ total_of (length masks) (length formula) → file' ≡ padded file_most (file_of masks p formula)
    → Writes masks p formula file file' (Ok n)
unfolding left pick
write-written masks p formula file o n file' l e =
    let s = write_says-written masks p formula (length file) o in
    record { says = rw l (sym s); leaves = rw s e }
