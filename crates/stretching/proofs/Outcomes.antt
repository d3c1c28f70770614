-- One law for each way out of `stretch`: what the inspection refuses (`inspection_wrong`), and the events (`taken-ready`); what its pass is asked
-- (`gather_ask`). Assumes nothing.
use Rattle.std.specs.Prelude.{Ok, Err}
use mathlib.Core.Path.{◌≡◌, sym, ap, ap₂, ◌∙◌}
use mathlib.Core.List.{List, [], ◌∷◌, ◌++◌}
use Prim.Native.Nat.{ℕ, ◌-◌}
use native.Mathlib.Omega.{arith}
use lib.ListN.{length, take, drop, replicate, length-map, length-drop, take-append-drop}
use lib.Seq.{length-take-le}
use lib.Dec.{eqb}
use borrow.Author.Tests.{eqb-true}
use Rattle.lists.specs.Runs.{tail, tail_as}
use Rattle.lists.specs.Listed.{listed}
use Rattle.lists.proofs.Stretches.{tail-clear}
use Rattle.answers.specs.Said.{Said, accepted, refused, number_of, left}
use Rattle.answers.specs.declared.Refusal.{Refusal}
use Rattle.answers.proofs.Answers.{left-refused, left-accepted}
use Rattle.recordings.specs.Records.{Record}
use Rattle.recordings.specs.Mending.{first_stretch, first_events}
use Rattle.recordings.specs.Recording.{count_in, record_in, records_in}
use Rattle.inspecting.specs.Looked.{inspect_says}
use Rattle.inspecting.proofs.Checks.{refused-so, Inspected}
use Rattle.stretching.specs.Stretch.{stretch_says, events_for, Stretches, GatherAsk, Gathers}

-- what is answered where all checks pass
abbrev pub told_stretch : List ℕ → Said
told_stretch s = accepted (length (first_stretch (records_in s)) ∷ [])

module _ (s events : List ℕ) where
  refuses : (why : Refusal) → stretch_says s (length events) ≡ refused (number_of why) → Stretches s events events (Err why)
  refuses why e = record { says = sym e; leaves = sym (ap (λ (a : Said). left a (events_for s) events) e ∙ left-refused why (events_for s) events) }

  pub inspection_wrong : (why : Refusal) → refused (number_of why) ≡ inspect_says (eqb (length events) (count_in s)) s (accepted []) → Stretches s events events (Err why)
  unfolding stretch_says
  inspection_wrong why z = refuses why (refused-so (eqb (length events) (count_in s)) s (told_stretch s) why z)

-- ---- where all checks have passed
module _ (s events : List ℕ) (i : Inspected s (eqb (length events) (count_in s))) where
  list : length events ≡ count_in s
  list = eqb-true (length events) (count_in s) i.lengths-ok

  pub gather_ask : GatherAsk s events
  gather_ask =
      let w = i.long in let e = list in
      record { room = omega arith; clear = λ j h. i.clear j (omega arith) }

  says-taken : stretch_says s (length events) ≡ told_stretch s
  unfolding stretch_says
  says-taken = i.says (told_stretch s)

  pub taken-ready : {gathered cleared events' : List ℕ} {n : ℕ} → length gathered ≡ length events → Gathers s gathered (length events) n
      → cleared ≡ replicate (length (tail n gathered)) 0 → events' ≡ tail_as n gathered cleared → Stretches s events events' (Ok n)
  taken-ready {gathered} {cleared} {events'} {n} long t z p =
      let same : listed (record_in s) (length events) ≡ records_in s = ap (listed (record_in s)) list in
      let count = t.taken ∙ ap (λ (rs : List _). length (first_stretch rs)) same in
      let front = t.put ∙ ap first_events same in
      let size : length (first_events (records_in s)) ≡ n = length-map (first_stretch (records_in s)) (λ (x : Record). x.event) ∙ sym count in
      let few = t.few in
      let rest : length (drop n gathered) ≡ count_in s - length (first_events (records_in s)) = length-drop n gathered ∙ (let z = size in let k = list in omega arith) in
      let clear = tail-clear gathered (take n gathered) (drop n gathered) n (sym (take-append-drop n gathered)) (length-take-le n gathered (omega arith)) cleared z in
      record {
        says = ap (λ (k : ℕ). accepted (k ∷ [])) count ∙ sym says-taken;
        leaves = p ∙ clear ∙ ap₂ (λ (l : List ℕ) (k : ℕ). l ++ replicate {A = ℕ} k 0) front rest
            ∙ sym (ap (λ (a : Said). left a (events_for s) events) says-taken ∙ left-accepted _ (events_for s) events);
      }
