-- What a step writes. It is never longer than the slot was (`step-no-longer`), so that it fits the slot's bytes (`step_fits`, `step_room`;
-- whatever is sampled and held, `result_fits`, `result-room`). It depends only on the slot's nodes, its board's sample and, for each held slot,
-- whether it is true, false or neither (`step-depends`), and so do all bytes that are written, those of the nodes and those of the length
-- (`step-writes`); the mark becomes 1 in any case. Assumes nothing.
use mathlib.Core.Path.{◌≡◌, refl, sym, ap, ap₂, ◌∙◌}
use mathlib.Core.Bool.{true}
use mathlib.Core.List.{List}
use Prim.Native.Nat.{ℕ, ◌+◌, ◌-◌, ◌<◌, ◌≤◌}
use native.Mathlib.Omega.{arith}
use lib.ListN.{length, replicate, length-append, length-replicate}
use Rattle.lists.specs.Runs.{padded}
use Rattle.answers.specs.declared.Verdict.{Verdict}
use Rattle.le.specs.Le.{le}
use Rattle.ltl.specs.Formula.{Formula, size, encode}
use Rattle.ltl.specs.Meaning.{Event}
use Rattle.ltl.specs.Decode.{decoded, some_formula}
use Rattle.ltl.specs.Progression.{resolved, filled, verdict_of}
use Rattle.ltl.proofs.Lengths.{resolved-no-longer}
use Rattle.ltl.proofs.Decoding.{length-encode}
use Rattle.network.proofs.Laying.{HoldsIn}
use Rattle.network.proofs.Settling.{filled-same}
use Rattle.state.specs.Fields.{slots_in, sample_in, board_of_in, length_in, slot_bytes}
use Rattle.state.specs.Clauses.{state_ok}
use Rattle.state.specs.Bytes.{formula_at}
use Rattle.state.specs.Calls.{stepped_to}
use Rattle.checked.proofs.Passing.{passing}

-- ---- in a state
pub step-no-longer : (s : List ℕ) (k : ℕ) → size (stepped_to s k) ≤ size (formula_at s k)
unfolding stepped_to
step-no-longer s k = resolved-no-longer (sample_in s (board_of_in s k)) (λ m. verdict_of (formula_at s m)) (formula_at s k)

module _ (s : List ℕ) (ok : state_ok s ≡ true) (k : ℕ) (l : k < slots_in s) where
  -- whatever is sampled and held
  module _ (e : Event) (held : ℕ → Verdict) where
    abbrev result : Formula
    result = resolved e (filled held (formula_at s k))

    pub result_fits : size result ≤ length_in s k
    result_fits = omega (arith, resolved-no-longer e held (formula_at s k), ((passing s ok).slots k l).length-is)

    -- the bytes that are written are as many as the slot had
    pub result-room : length (padded (length_in s k) (encode result)) ≡ length_in s k
    result-room =
        let n = length_in s k - length (encode result) in
        omega (arith, result_fits, length-encode result, length-append (encode result) (replicate n 0), length-replicate {A = ℕ} n 0)

  pub step_fits : size (stepped_to s k) ≤ length_in s k
  unfolding stepped_to
  step_fits = result_fits (sample_in s (board_of_in s k)) (λ m. verdict_of (formula_at s m))

  pub step_room : length (padded (length_in s k) (encode (stepped_to s k))) ≡ length_in s k
  unfolding stepped_to
  step_room = result-room (sample_in s (board_of_in s k)) (λ m. verdict_of (formula_at s m))

-- ---- what it depends on
module _ (s t : List ℕ) (k l : ℕ) (bytes : slot_bytes s k ≡ slot_bytes t l) where
  pub formula-depends : formula_at s k ≡ formula_at t l
  formula-depends = ap (λ (b : List ℕ). some_formula (decoded b)) bytes

  module _ (sample : sample_in s (board_of_in s k) ≡ sample_in t (board_of_in t l))
      (held : HoldsIn (λ m. verdict_of (formula_at s m) ≡ verdict_of (formula_at t m)) (formula_at s k)) where
    pub step-depends : stepped_to s k ≡ stepped_to t l
    unfolding stepped_to
    step-depends =
        let p : ℕ → Verdict = λ m. verdict_of (formula_at s m) in
        let q : ℕ → Verdict = λ m. verdict_of (formula_at t m) in
        ap₂ resolved sample (filled-same p q (formula_at s k) held ∙ ap (filled q) formula-depends)

    pub step-writes : state_ok s ≡ true → state_ok t ≡ true → k < slots_in s → l < slots_in t
        → (padded (length_in s k) (encode (stepped_to s k)) ≡ padded (length_in t l) (encode (stepped_to t l))) × (le 2 (size (stepped_to s k)) ≡ le 2 (size (stepped_to t l)))
    step-writes ok ok' there there' =
        let n : length_in s k ≡ length_in t l = ((passing s ok).slots k there).length-is ∙ ap size formula-depends ∙ sym ((passing t ok').slots l there').length-is in
        (ap₂ (λ (i : ℕ) (f : Formula). padded i (encode f)) n step-depends, ap (λ (f : Formula). le 2 (size f)) step-depends)
