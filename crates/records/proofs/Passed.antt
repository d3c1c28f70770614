-- The clauses by their places: one that fails fails the state check (`clause-fails`), each holds of a state that passes
-- (`clause-holds`), and what the header's clause (`header-..`) and all of them (`passed-..`) tell. Assumes nothing.
use mathlib.Core.Path.{◌≡◌, ap, ◌∙◌}
use mathlib.Core.Bool.{true, false}
use mathlib.Core.List.{List}
use Prim.Native.Nat.{ℕ, ◌<◌}
use native.Mathlib.Omega.{arith}
use lib.ListN.{length, get_or}
use borrow.Author.Tests.{eqb-true}
use Rattle.limits.specs.Limits.{boards_most}
use Rattle.state.specs.declared.Counts.{Counts}
use Rattle.state.specs.Form.{form_in, state_length, slots_most, nodes_most, Formed}
use Rattle.state.specs.Fields.{boards_in, slots_in, nodes_in}
use Rattle.state.specs.Clauses.{each_below, record_ok, header_ok, clauses, state_ok}
use Rattle.state.specs.Counted.{Header, Sized}
use Rattle.records.proofs.Each.{one-false, one-true, range-most, range-some}

-- ---- the clauses by their places
pub clause-fails : (s : List ℕ) (i : ℕ) → get_or (clauses s) i true ≡ false → state_ok s ≡ false
unfolding state_ok
clause-fails s i e = one-false (clauses s) i e

pub clause-holds : (s : List ℕ) (i : ℕ) → state_ok s ≡ true → get_or (clauses s) i true ≡ true
unfolding state_ok
clause-holds s i e = one-true (clauses s) i e

-- ---- the header
pub header-sized : (s : List ℕ) (c : Counts) → Header s c → Formed s → header_ok s ≡ true → Sized s c
unfolding header_ok
header-sized s c h l e =
    let x = range-most boards_most (boards_in s) (one-true _ 0 e) in
    let y = range-most (slots_most (form_in s)) (slots_in s) (one-true _ 1 e) in
    let z = range-most (nodes_most (form_in s)) (nodes_in s) (one-true _ 2 e) in
    let xe = h.boards-are in
    let ye = h.slots-are in
    let ze = h.nodes-are in
    record { header = h; long = l; few-boards = omega arith; few-slots = omega arith; few-nodes = omega arith }

pub header-some : (s : List ℕ) (c : Counts) → Header s c → header_ok s ≡ true → 0 < c.slots
unfolding header_ok
header-some s c h e = let x = range-some (slots_most (form_in s)) (slots_in s) (one-true _ 1 e) in let y = h.slots-are in omega arith

-- ---- what is known of a state that passes
pub passed_length : (s : List ℕ) → state_ok s ≡ true → Formed s
passed_length s e = eqb-true (length s) (state_length (form_in s)) (clause-holds s 0 e)

pub passed-sized : (s : List ℕ) (c : Counts) → state_ok s ≡ true → Header s c → Sized s c
passed-sized s c e h = header-sized s c h (passed_length s e) (clause-holds s 1 e)

pub passed-records : (s : List ℕ) (c : Counts) → state_ok s ≡ true → Header s c → each_below c.slots (record_ok s) ≡ true
passed-records s c e h = ap (λ (i : ℕ). each_below i (record_ok s)) h.slots-are ∙ clause-holds s 5 e
