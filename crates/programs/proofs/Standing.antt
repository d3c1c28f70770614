-- Where an event is next in the bytes in hand, the bytes behind it are in hand then, and none is lost (`event-room`, `event-takes`).
-- Assumes nothing.
use mathlib.Core.Path.{◌≡◌, sym, ap, ◌∙◌}
use mathlib.Core.List.{List}
use Prim.Native.Nat.{ℕ, ◌+◌, ◌-◌, ◌≤◌}
use native.Mathlib.Omega.{arith}
use lib.ListN.{length, take, drop, length-drop}
use lib.Seq.{length-take-le, drop_at}
use Rattle.lists.proofs.Stretches.{take-two}
use Rattle.came.specs.declared.Next.TheVariants.{Event}
use Rattle.came.specs.Came.{next_in}
use Rattle.programs.specs.Hand.{Brings, Takes}
use Rattle.came.proofs.Coming.{event-whole}

-- an event that is next
module _ (s : List ℕ) (from end e : ℕ) (h : from ≤ end) (k : end ≤ length s) (is : next_in (take (end - from) (drop from s)) ≡ Event e) where
  pub event-room : from + 8 ≤ end
  event-room =
      let behind = length-drop from s in
      let long = length-take-le (end - from) (drop from s) (omega arith) in
      let whole = event-whole (take (end - from) (drop from s)) e is in
      omega arith

  -- the bytes behind it
  event-rest : take (end - (from + 8)) (drop (from + 8) s) ≡ drop 8 (take (end - from) (drop from s))
  event-rest =
      let room = event-room in
      let behind = length-drop from s in
      let split : end - from ≡ 8 + (end - (from + 8)) = omega arith in
      let first = take (end - (from + 8)) (drop (from + 8) s) in
      sym (ap (λ (n : ℕ). drop 8 (take n (drop from s))) split ∙ ap (drop 8) (take-two s from 8 (end - (from + 8)))
      ∙ drop_at (take 8 (drop from s)) first 8 (length-take-le 8 (drop from s) (omega arith)))

  pub event-takes : (before : List ℕ) → Brings before s (record { from = from; end = end }) → Takes before s (record { event = e; rest = record { from = from + 8; end = end } })
  event-takes before b =
      record {
        tells = record { all = take (end - from) (drop from s); leads = b.leads; next-is = is };
        within = (event-room, k);
        rest-is = event-rest;
      }
