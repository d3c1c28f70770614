-- What `inspect` asks of what it calls (`header_there`, `records_there`), and one law for each way out (`total_wrong`, `places_wrong`,
-- `header_wrong`, `clash_found`, `none_found`). Assumes nothing.
use mathlib.Core.Path.{◌≡◌, refl, sym, ◌∙◌}
use mathlib.Core.Bool.{Bool, true, false}
use mathlib.Core.List.{List, []}
use Prim.Native.Nat.{ℕ, ◌≤◌}
use native.Mathlib.Omega.{arith}
use lib.ListN.{length}
use lib.Dec.{eqb}
use borrow.Author.Tests.{eq-eqb, ne_eqb}
use Rattle.lists.specs.Tests.{both}
use Rattle.answers.specs.Said.{Said, accepted, refused}
use Rattle.recordings.specs.Recording.{records_at, recording_length, count_in, record_in, total_ok, header_ok}
use Rattle.recordings.proofs.Places.{agree-all}
use Rattle.inspecting.specs.Looked.{LooksOver, inspect_says}
use Rattle.inspecting.proofs.Fits.{total-long, header-long}
use Rattle.inspecting.proofs.Looking.{looked-clear, looked-clash}
use Rattle.inspecting.proofs.Checks.{says-1, says-4, says-20, says_all}

module _ (s : List ℕ) where
  pub header_there : true ≡ total_ok s → records_at ≤ length s
  header_there t = total-long s (sym t)

  module _ (places : ℕ) where
    -- what is said of the recording
    abbrev pub said_of : Said
    said_of = inspect_says (eqb places (count_in s)) s (accepted [])

    pub total_wrong : false ≡ total_ok s → refused 1 ≡ said_of
    unfolding both
    total_wrong t = sym (says-1 (eqb places (count_in s)) s (accepted []) (rw (sym t)))

    module _ {n : ℕ} (count : n ≡ count_in s) where
      pub places_wrong : (n ≡ places → ⊥) → refused 1 ≡ said_of
      unfolding both
      places_wrong ne = sym (says-1 (eqb places (count_in s)) s (accepted []) (rw (ne_eqb places (count_in s) (λ e. ne (count ∙ sym e))) (go (total_ok s))))
        where
          go : (b : Bool) → both b false ≡ false
          go true = refl
          go false = refl

      module _ (same : n ≡ places) (t : true ≡ total_ok s) where
        room : eqb places (count_in s) ≡ true
        room = eq-eqb places (count_in s) (sym same ∙ count)

        pub header_wrong : false ≡ header_ok s → refused 4 ≡ said_of
        header_wrong h = sym (says-4 (eqb places (count_in s)) s (accepted []) (sym t) room (sym h))

        module _ (h : true ≡ header_ok s) where
          pub records_there : recording_length places ≤ length s
          records_there = let l = header-long s (sym t) (sym h) in omega arith

          module _ {r : ℕ} (looks : LooksOver s places r) where
            pub clash_found : (r ≡ places → ⊥) → refused 20 ≡ said_of
            clash_found ne = sym (says-20 (eqb places (count_in s)) s (accepted []) (sym t) room (sym h) (looked-clash looks (sym same ∙ count) ne))

            pub none_found : r ≡ places → accepted [] ≡ said_of
            none_found e =
                sym (says_all (eqb places (count_in s)) s (accepted []) (sym t) room (sym h) (agree-all (record_in s) (count_in s) (looked-clear looks (sym same ∙ count) e)))
