-- A run of events by the calls one at a time, from a watch's state, is a watch again, for the events before and those that were closed
-- (`coursed-watched`), and each of these was covered by the masks (`coursed-inside`). So the third demand holds of it
-- (`coursed-demanded`). Assumes nothing.
use mathlib.Core.Path.{◌≡◌, refl, sym, ap, ◌∙◌, subst}
use mathlib.Core.Bool.{Bool, true, false}
use mathlib.Core.List.{List, [], ◌∷◌, ◌++◌, append_assoc, append-nil}
use Prim.Native.Nat.{ℕ, zero, suc, ◌<◌}
use native.Mathlib.Decide.{ℕ_discrete}
use native.Mathlib.Omega.{arith}
use lib.ListN.{take, get_or}
use Rattle.answers.specs.Said.{Said, accepted, refused}
use Rattle.ltl.specs.Meaning.{Event}
use Rattle.rules.specs.RuleFile.{propositions_in_file, masks_in_file}
use Rattle.state.specs.Calls.{finished_in}
use Rattle.keeping.proofs.Finished.{unfinished-pending}
use Rattle.loading.specs.Load.{start_in}
use Rattle.course.specs.Ticked.{tick_says, closed_to}
use Rattle.course.specs.Course.{Course, stopped, one_more, coursed}
use Rattle.course.proofs.InOrder.{tick-in-order}
use Rattle.course.proofs.Numbers.{tick-number}
use Rattle.course.proofs.Coursing.{coursed-end, coursed-finished, coursed-refused, coursed-more}
use Rattle.watching.proofs.Ticked.{watch-started}
use Rattle.watching.proofs.Demand.{watch-verdict}
use Rattle.demand.specs.Called.{Watched, ticked}
use Rattle.demand.specs.Demanded.{Demanded}
use Rattle.demand.specs.Stopping.{covers}
use Rattle.demand.proofs.Watches.{watched}
use Rattle.demand.proofs.Demand.{demanded}
use Rattle.demand.proofs.Ticking.{tick-outside, course-ticked}

-- what a run has done to a watch
record WatchedOn (file : List ℕ) (us : List Event) (events : List ℕ) (r : Course) : Type 0 where
  watch : Watched file (us ++ take r.closed events) r.leaves
  inside : (i : ℕ) → i < r.closed → covers (masks_in_file file) (get_or events i 0) ≡ true

module _ (file : List ℕ) where
  -- nothing was closed
  on-stopped : (us : List Event) (s events : List ℕ) → Watched file us s → (n : ℕ) → WatchedOn file us events (stopped n s)
  on-stopped us s events w n = record { watch = subst (λ (vs : List Event). Watched file vs s) (sym (append-nil us)) w; inside = λ i l. absurd (omega arith) }

  -- an event was closed before
  on-more : (us : List Event) (e : Event) (events : List ℕ) (r : Course) → covers (masks_in_file file) e ≡ true → WatchedOn file (us ++ (e ∷ [])) events r → WatchedOn file us (e ∷ events) (one_more r)
  on-more us e events r c x =
      record { watch = subst (λ (vs : List Event). Watched file vs r.leaves) (append_assoc us (e ∷ []) (take r.closed events)) x.watch; inside = inside }
    where
      inside : (i : ℕ) → i < suc r.closed → covers (masks_in_file file) (get_or (e ∷ events) i 0) ≡ true
      inside zero l = c
      inside (suc i) l = x.inside i (omega arith)

  -- an accepted tick's event was covered
  accepted-inside : (us : List Event) (s : List ℕ) → Watched file us s → (e : Event) → tick_says s e ≡ accepted [] → covers (masks_in_file file) e ≡ true
  accepted-inside us s w e says = go (covers (masks_in_file file) e) refl
    where
      go : (b : Bool) → covers (masks_in_file file) e ≡ b → covers (masks_in_file file) e ≡ true
      go true q = q
      go false q = let n = ap (λ (a : Said). a.number) (sym says ∙ (tick-outside file us s w e q).0) in absurd (omega arith)

  watched-on : (events : List ℕ) (us : List Event) (s : List ℕ) → Watched file us s → WatchedOn file us events (coursed s events)
  watched-on [] us s w = subst (λ (r : Course). WatchedOn file us [] r) (sym (coursed-end s)) (on-stopped us s [] w 0)
  watched-on (e ∷ events) us s w = go (finished_in s) refl (λ vs u v. watched-on events vs u v)
    where
      turn : finished_in s ≡ false → Dec ((tick_says s e).number ≡ 0) → ((vs : List Event) (u : List ℕ) → Watched file vs u → WatchedOn file vs events (coursed u events))
          → WatchedOn file us (e ∷ events) (coursed s (e ∷ events))
      turn f (yes z) rest =
          let x = watched w in
          let q = tick-in-order s (watch-started (propositions_in_file file) (masks_in_file file) (start_in file) x).passes f e in
          let says = q ∙ tick-number s e ∙ ap refused (sym (ap (λ (a : Said). a.number) q) ∙ z) in
          let pending = sym (watch-verdict (propositions_in_file file) (masks_in_file file) (start_in file) us s x) ∙ unfinished-pending s f in
          subst (λ (r : Course). WatchedOn file us (e ∷ events) r) (sym (coursed-more s e events f z))
          (on-more us e events (coursed (closed_to s e) events) (accepted-inside us s w e says) (rest (us ++ (e ∷ [])) (closed_to s e) (ticked w e (course-ticked file us s w e pending says))))
      turn f (no z) rest = subst (λ (r : Course). WatchedOn file us (e ∷ events) r) (sym (coursed-refused s e events f (omega arith))) (on-stopped us s (e ∷ events) w (tick_says s e).number)

      go : (b : Bool) → finished_in s ≡ b → ((vs : List Event) (u : List ℕ) → Watched file vs u → WatchedOn file vs events (coursed u events)) → WatchedOn file us (e ∷ events) (coursed s (e ∷ events))
      go true f rest = subst (λ (r : Course). WatchedOn file us (e ∷ events) r) (sym (coursed-finished s (e ∷ events) f)) (on-stopped us s (e ∷ events) w 0)
      go false f rest = turn f (ℕ_discrete (tick_says s e).number 0) rest

pub coursed-watched : {file : List ℕ} {us : List Event} {s : List ℕ} → Watched file us s → (events : List Event) → Watched file (us ++ take (coursed s events).closed events) (coursed s events).leaves
coursed-watched {file} {us} {s} w events = (watched-on file events us s w).watch

pub coursed-inside : {file : List ℕ} {us : List Event} {s : List ℕ} → Watched file us s → (events : List Event)
    → (i : ℕ) → i < (coursed s events).closed → covers (masks_in_file file) (get_or events i 0) ≡ true
coursed-inside {file} {us} {s} w events = (watched-on file events us s w).inside

pub coursed-demanded : {file : List ℕ} {us : List Event} {s : List ℕ} → Watched file us s → (events : List Event) → Demanded file (us ++ take (coursed s events).closed events) (coursed s events).leaves
coursed-demanded w events = demanded (coursed-watched w events)
