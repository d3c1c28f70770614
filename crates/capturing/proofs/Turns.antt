-- How far a run has come (`CameTo`): the state goes on, the second buffer is zero where the state is, and the events left come to what all
-- come to from the entry. From that what a tick asks (`turn-asks`), one more turn (`turn_more`), and the ways out: a refusal (`turn-refused`), a
-- verdict (`turn-finished`) and the end (`turn-ends`). Assumes nothing.
use Rattle.std.specs.Prelude.{Result, Ok, Err, ⊤}
use mathlib.Core.Path.{◌≡◌, refl, sym, ap, ap₂, subst, ◌∙◌}
use mathlib.Core.Bool.{true, false}
use mathlib.Core.List.{List, [], ◌∷◌, ◌++◌}
use Prim.Native.Nat.{ℕ, suc, ◌+◌, ◌-◌, ◌<◌, ◌≤◌}
use native.Mathlib.Nat.{add-zero, zero-add}
use native.Mathlib.Numerals.{add-one}
use native.Mathlib.Omega.{arith}
use lib.ListN.{length, get_or, take, drop, replicate, take-append-drop, drop_of_length-le}
use lib.Seq.{drop-cons, length-take-le}
use Rattle.answers.specs.declared.Refusal.{Refusal}
use Rattle.answers.specs.declared.Verdict.{Verdict}
use Rattle.answers.specs.declared.Verdict.TheVariants.{Pending}
use Rattle.answers.specs.Said.{Said, accepted, left, number_of, verdict_number, said_outcome}
use Rattle.answers.proofs.Answers.{number-some, left-accepted}
use Rattle.state.specs.declared.Counts.{Counts}
use Rattle.state.specs.Form.{Formed}
use Rattle.state.specs.Fields.{masks_in}
use Rattle.state.specs.Clauses.{state_ok}
use Rattle.state.specs.Calls.{finished_in, verdict_in}
use Rattle.state.specs.Counted.{Header}
use Rattle.state.specs.Opened.{Opened}
use Rattle.records.proofs.Opened.{opened-sized}
use Rattle.checked.proofs.Checked.{checked}
use Rattle.keeping.proofs.Refused.{refused-leaves}
use Rattle.keeping.proofs.Finished.{unfinished-pending}
use Rattle.storing.specs.Stores.{ZeroFrom}
use Rattle.storing.proofs.Zeros.{zero-none, zero-later}
use Rattle.advancing.proofs.Advancing.{lent_same}
use Rattle.course.specs.Course.{Course, stopped, coursed}
use Rattle.course.specs.Ticked.{tick_says, closed_to}
use Rattle.course.proofs.Closing.{ClosedTick, closed-tick}
use Rattle.course.proofs.Coursing.{coursed-end, coursed-finished, coursed-refused, coursed-more}
use Rattle.giving.specs.Give.{GoingOn}
use Rattle.ticking.specs.Tick.{TickAsk, TicksOnce}
use Rattle.ticking.proofs.Lending.{end_of, ends-inside, state-zeros}
use Rattle.capturing.specs.Capture.{told}
use Rattle.capturing.specs.Running.{RunAsk}

-- so many events more were closed before
abbrev pub later : ℕ → Course → Course
later n r = record { closed = n + r.closed; refusal = r.refusal; leaves = r.leaves }

pub record CameTo (s₀ events s second : List ℕ) (c : Counts) (used closed : ℕ) : Type 0 where
  pub going : GoingOn s c
  pub masks : masks_in s ≡ masks_in s₀
  pub long : length s ≡ length s₀
  pub second-long : length second ≡ length s
  pub clean : ZeroFrom used s
  pub second-clean : ZeroFrom used second
  pub course : coursed s₀ events ≡ later closed (coursed s (drop closed events))

-- at the entry nothing is known to be zero
pub came-nowhere : {s second masks owner u tags : List ℕ} {c : Counts} (events : List ℕ) → RunAsk s c second masks owner u tags → CameTo s events s second c (length s) 0
came-nowhere {s} {second} events r =
    let a = r.ask in
    let e : length second ≡ length s = a.long ∙ sym (opened-sized a.going.opened).long in
    record {
      going = a.going;
      masks = refl;
      long = refl;
      second-long = e;
      clean = zero-none s;
      second-clean = subst (λ (n : ℕ). ZeroFrom n second) e (zero-none second);
      course = ap (λ (n : ℕ). record { closed = n; refusal = (coursed s events).refusal; leaves = (coursed s events).leaves }) (sym (zero-add (coursed s events).closed));
    }

-- ---- within a turn
module _ {s₀ events s second : List ℕ} {c : Counts} {used closed : ℕ} (w : CameTo s₀ events s second c used closed) where
  -- it has room for the state's used bytes
  pub turn-room : length (take used s) ≤ length second
  turn-room = let i = w.clean.inside in let l = w.second-long in omega (arith, length-take-le used s i)

  -- the second buffer, with the state's used bytes copied over it, is the state
  pub turn-copied : {second' : List ℕ} → second' ≡ take used s ++ drop (length (take used s)) second → second' ≡ s
  turn-copied e =
      let i = w.clean.inside in
      let l = w.second-long in
      e
      ∙ ap (λ (n : ℕ). take used s ++ drop n second) (length-take-le used s i)
      ∙ ap (take used s ++◌) (w.second-clean.zeros ∙ ap (λ (n : ℕ). replicate {A = ℕ} (n - used) 0) l ∙ sym w.clean.zeros)
      ∙ take-append-drop used s

  pub turn-asks : {c₀ : Counts} {second₀ second' masks owner u₀ tags₀ u tags : List ℕ} → RunAsk s₀ c₀ second₀ masks owner u₀ tags₀ → second' ≡ s → length u ≡ length u₀ → length tags ≡ length tags₀
      → TickAsk s c second' masks owner u tags
  turn-asks r e a b = record { going = w.going; copied = e; lent = lent_same r.lent w.masks a b }

  -- what stands in the state ends within it
  pub turn_inside : end_of c ≤ length s
  turn_inside = ends-inside (opened-sized w.going.opened)

  -- the event and those behind it
  events-left : (l : closed < length events) → drop closed events ≡ get_or events closed 0 ∷ drop (closed + 1) events
  events-left l = drop-cons events closed 0 l ∙ ap (λ (n : ℕ). get_or events closed 0 ∷ drop n events) (sym (add-one closed))

  -- ---- the end
  pub turn-ends : length events ≤ closed → ((closed ∷ verdict_number Pending ∷ 0 ∷ []) ≡ told (coursed s₀ events)) × (s ≡ (coursed s₀ events).leaves)
  turn-ends h =
      let q : coursed s₀ events ≡ later closed (stopped 0 s) = w.course ∙ ap (later closed) (ap (coursed s) (drop_of_length-le events {i = closed} h) ∙ coursed-end s) in
      (sym (ap told q ∙ ap₂ (λ (n : ℕ) (x : Verdict). n ∷ verdict_number x ∷ 0 ∷ []) (add-zero closed) (unfinished-pending s w.going.unfinished)), sym (ap (λ (r : Course). r.leaves) q))

  module _ (l : closed < length events) {s' second'' : List ℕ} {x : Result ⊤ Refusal} (t : TicksOnce s c (get_or events closed 0) s' second'' x) where
    -- ---- a refusal
    pub turn-refused : (why : Refusal) → x ≡ Err why
        → ((closed ∷ verdict_number Pending ∷ (said_outcome x).number ∷ []) ≡ told (coursed s₀ events)) × (s' ≡ (coursed s₀ events).leaves)
    turn-refused why e =
        let event = get_or events closed 0 in
        let n : (said_outcome x).number ≡ (tick_says s event).number = ap (λ (a : Said). a.number) t.says in
        let z = number-some why in
        let m : (said_outcome x).number ≡ number_of why = ap (λ (y : Result ⊤ Refusal). (said_outcome y).number) e in
        let some : 0 < (tick_says s event).number = omega arith in
        let q : coursed s₀ events ≡ later closed (stopped (tick_says s event).number s) =
        w.course ∙ ap (λ (es : List ℕ). later closed (coursed s es)) (events-left l) ∙ ap (later closed) (coursed-refused s event (drop (closed + 1) events) w.going.unfinished some) in
        let stays : s' ≡ s = t.leaves ∙ refused-leaves why (tick_says s event) (closed_to s event) s (sym (ap said_outcome e) ∙ t.says) in (
          sym
              (ap told q
              ∙ ap₂ (λ (i : ℕ) (v : Verdict). i ∷ verdict_number v ∷ (tick_says s event).number ∷ []) (add-zero closed) (unfinished-pending s w.going.unfinished)
              ∙ ap (λ (i : ℕ). closed ∷ verdict_number Pending ∷ i ∷ []) (sym n)),
          stays ∙ sym (ap (λ (r : Course). r.leaves) q),
        )

    -- ---- a tick that was closed
    module _ (e : x ≡ Ok tt) where
      accepts : tick_says s (get_or events closed 0) ≡ accepted []
      accepts = sym t.says ∙ ap said_outcome e

      tick : ClosedTick s (get_or events closed 0)
      tick = closed-tick s w.going.opened.passes w.going.unfinished (get_or events closed 0) accepts

      pub closed_is : s' ≡ closed_to s (get_or events closed 0)
      closed_is = t.leaves ∙ ap (λ (a : Said). left a (closed_to s (get_or events closed 0)) s) accepts ∙ left-accepted [] _ s

      pub closed-long : length s' ≡ length s
      closed-long = ap length closed_is ∙ tick.long

      pub closed-opened : {d : Counts} → Header s' d → Opened s' d
      closed-opened h = record { passes = ap state_ok closed_is ∙ tick.passes; header = h }

      pub closed-formed : Formed s'
      closed-formed = (checked s' (ap state_ok closed_is ∙ tick.passes)).long

      closed-course : coursed s₀ events ≡ later (closed + 1) (coursed s' (drop (closed + 1) events))
      closed-course =
          let event = get_or events closed 0 in
          let rest = drop (closed + 1) events in
          let r = coursed (closed_to s event) rest in
          let up : closed + suc r.closed ≡ closed + 1 + r.closed = omega arith in
          w.course ∙ ap (λ (es : List ℕ). later closed (coursed s es)) (events-left l)
          ∙ ap (later closed) (coursed-more s event rest w.going.unfinished (ap (λ (a : Said). a.number) accepts))
          ∙ ap (λ (n : ℕ). record { closed = n; refusal = r.refusal; leaves = r.leaves }) up
          ∙ ap (λ (u : List ℕ). later (closed + 1) (coursed u rest)) (sym closed_is)

      -- a verdict
      pub turn-finished : finished_in s' ≡ true → (v : Verdict) → v ≡ verdict_in s'
          → (((closed + 1) ∷ verdict_number v ∷ 0 ∷ []) ≡ told (coursed s₀ events)) × (s' ≡ (coursed s₀ events).leaves)
      turn-finished f v h =
          let q : coursed s₀ events ≡ later (closed + 1) (stopped 0 s') = closed-course ∙ ap (later (closed + 1)) (coursed-finished s' (drop (closed + 1) events) f) in
          (sym (ap told q ∙ ap₂ (λ (i : ℕ) (u : Verdict). i ∷ verdict_number u ∷ 0 ∷ []) (add-zero (closed + 1)) (sym h)), sym (ap (λ (r : Course). r.leaves) q))

      -- the next turn: both are zero behind what stands in either
      module _ {d : Counts} (h : Header s' d) (end : ℕ) (a : end_of c ≤ end) (b : end_of d ≤ end) (i : end ≤ length s) (second-same : length second'' ≡ length s) where
        pub next-zeros : ZeroFrom end second''
        next-zeros = zero-later t.zeros end a (omega arith)

        pub turn_more : finished_in s' ≡ false → CameTo s₀ events s' second'' d end (closed + 1)
        turn_more f =
            let g : GoingOn s' d = record { opened = closed-opened h; unfinished = f } in
            let long = closed-long in
            record {
              going = g;
              masks = ap masks_in closed_is ∙ tick.masks ∙ w.masks;
              long = long ∙ w.long;
              second-long = second-same ∙ sym long;
              clean = zero-later (state-zeros g) end b (omega arith);
              second-clean = next-zeros;
              course = closed-course;
            }
