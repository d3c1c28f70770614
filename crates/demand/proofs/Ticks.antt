-- That the third demand is about something. Every accepted close of a watch's state is a tick, whatever the boards were given: there is an
-- event of which each was given its part (`close-ticks`). Until a verdict there are,
-- for every event, accepted samples and steps after which the close is all that is left (`tick-exists`). Assumes nothing.
use Rattle.std.specs.Prelude.{Ok, Err}
use mathlib.Core.Path.{◌≡◌, ◌∙◌}
use mathlib.Core.List.{List}
use Prim.Native.Nat.{ℕ}
use Rattle.answers.specs.declared.Verdict.TheVariants.{Pending}
use Rattle.ltl.specs.Meaning.{Event}
use Rattle.rules.specs.RuleFile.{propositions_in_file, masks_in_file}
use Rattle.closing.specs.Close.{Closes}
use Rattle.loading.specs.Load.{start_in}
use Rattle.watching.specs.Watch.{Saw}
use Rattle.watching.proofs.Events.{event_of, saw-event}
use Rattle.watching.proofs.Ticked.{watch-started}
use Rattle.watching.proofs.Demand as watching
use Rattle.demand.specs.Called.{Called, GivenBy, Ticked, Watched}
use Rattle.demand.specs.Claims.{standing, Reaches}
use Rattle.demand.proofs.Calls.{called, made}
use Rattle.demand.proofs.Given.{saw-given}
use Rattle.demand.proofs.Watches.{watched}
use Rattle.demand.proofs.Getting.{closing, close-left}

module _ (file : List ℕ) (us : List Event) (s : List ℕ) (w : Watched file us s) where
  -- where the state saw the event the boards were given it
  given : (t : List ℕ) (e : Event) (c : Called s t) → Saw t e → GivenBy (masks_in_file file) e c
  given t e c = saw-given (propositions_in_file file) (masks_in_file file) (start_in file) us s (watch-started (propositions_in_file file) (masks_in_file file) (start_in file) (watched w)) t e c

  pub close-ticks : (t second s' : List ℕ) → Called s t → Closes t second s' (Ok tt) → (e : Event) × Ticked (masks_in_file file) s e s'
  close-ticks t second s' c x =
      let ok = watching.tick-passes (propositions_in_file file) (masks_in_file file) (start_in file) us s (watched w) t (called c) in
      (event_of t, record { last = t; calls = c; given = given t (event_of t) c (saw-event t ok); second = second; closes = x })

  pub tick-exists : (standing file us s).verdict ≡ Pending → (e : Event) → (last : List ℕ) × Reaches (masks_in_file file) s e last
  tick-exists pending e =
      let v = watching.watch-verdict (propositions_in_file file) (masks_in_file file) (start_in file) us s (watched w) in
      let r = watching.tick-exists (propositions_in_file file) (masks_in_file file) (start_in file) us s (watched w) (v ∙ pending) e in
      let m = made r.calls r.all in
      (r.last, record { calls = m.0; all = m.1; given = given r.last e m.0 r.saw; left = close-left r.last r.done; closing = closing r.last r.closing })
