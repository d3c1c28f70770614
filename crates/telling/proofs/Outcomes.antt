-- What `ask` answers, one law for each outcome, and the verdict by the first node, over plain lists. Assumes nothing.
use Rattle.std.specs.Prelude.{Ok, Err}
use mathlib.Core.Path.{◌≡◌, sym, ◌∙◌}
use mathlib.Core.Bool.{true, false}
use mathlib.Core.List.{List}
use Prim.Native.Nat.{ℕ, ◌<◌}
use native.Mathlib.Omega.{arith}
use lib.ListN.{length, get_or}
use borrow.Author.Tests.{eq-eqb, ne_eqb}
use Rattle.lists.specs.Tests.{pick}
use Rattle.answers.specs.declared.Refusal.TheVariants.{State}
use Rattle.answers.specs.declared.Verdict.{Verdict}
use Rattle.answers.specs.declared.Verdict.TheVariants.{False, True, Pending}
use Rattle.answers.proofs.Answers.{order-ok, order-refused, order-done}
use Rattle.state.specs.declared.Counts.{Counts}
use Rattle.state.specs.Fields.{ticks_in, length_in, slot_bytes}
use Rattle.state.specs.Clauses.{record_ok, state_ok}
use Rattle.state.specs.Calls.{finished_in, verdict_in, ask_says}
use Rattle.state.specs.Counted.{Spans}
use Rattle.records.proofs.Each.{each_at}
use Rattle.records.proofs.Stretched.{some-length}
use Rattle.records.proofs.Opened.{byte_at, opened-first}
use Rattle.records.proofs.Passed.{passed-records}
use Rattle.state.specs.Opened.{Opened}
use Rattle.telling.specs.Ask.{Asks}

-- ---- the verdict
pub verdict-pending : (s : List ℕ) → finished_in s ≡ false → Pending ≡ verdict_in s
unfolding verdict_in pick
verdict-pending s e = rw e

module _ (s : List ℕ) (c : Counts) (o : Opened s c) where
  -- slot 0 is there, it has a node, and that is the first one
  some : 0 < length_in s 0
  some = some-length s 0 (each_at (record_ok s) c.slots 0 (passed-records s c o.passes o.header) (opened-first o))

  pub first-within : {from to : ℕ} → Spans s 0 from to → from < length s
  first-within x = let l = some in let w = x.within in let e = x.to_is in omega arith

  first_byte : {from to : ℕ} → Spans s 0 from to → get_or s from 0 ≡ get_or (slot_bytes s 0) 0 0
  first_byte {from} x = byte_at s 0 from x.from_is some

  module _ (e : finished_in s ≡ true) {from to : ℕ} (x : Spans s 0 from to) where
    pub verdict-true : get_or s from 0 ≡ 1 → True ≡ verdict_in s
    unfolding verdict_in pick
    verdict-true q = rw (e, ← first_byte x, eq-eqb (get_or s from 0) 1 q)

    pub verdict-false : (get_or s from 0 ≡ 1 → ⊥) → False ≡ verdict_in s
    unfolding verdict_in pick
    verdict-false q = rw (e, ← first_byte x, ne_eqb (get_or s from 0) 1 q)

-- ---- the answer
pub refused-state : (s : List ℕ) → state_ok s ≡ false → Asks s (Err State)
unfolding ask_says
refused-state s e = record { says = sym (order-refused 9 _ _ _ e) }

pub told-so : (s : List ℕ) (v : Verdict) (ticks : ℕ) (c : Counts) → Opened s c → v ≡ verdict_in s → ticks ≡ ticks_in s
    → Asks s (Ok (record { verdict = v; ticks = ticks; slots = c.slots; nodes = c.nodes }))
unfolding ask_says
told-so s v ticks c o ev et = let h = o.header in record { says = rw (ev, et, h.slots-are, h.nodes-are) (sym (order-ok 9 _ _ _ o.passes ∙ order-done _)) }
