-- Giving refuses, or what it has left is closed back into the state: one law of proofs/Outcomes.antt for each. Assumes nothing.
use Rattle.std.specs.Prelude.{Result, ⊤}
use mathlib.Core.Path.{◌≡◌, refl, sym, ap, subst, ◌∙◌}
use mathlib.Core.List.{List}
use Prim.Native.Nat.{ℕ, ◌≤◌}
use native.Mathlib.Omega.{arith}
use lib.ListN.{length}
use Rattle.answers.specs.declared.Refusal.{Refusal}
use Rattle.state.specs.declared.Counts.{Counts}
use Rattle.state.specs.Form.{form_in, form_of, state_length}
use Rattle.state.specs.Opened.{Opened}
use Rattle.records.proofs.Opened.{opened-sized}
use Rattle.storing.specs.Stores.{ZeroFrom}
use Rattle.course.specs.Given.{After}
use Rattle.giving.specs.Give.{given_passing, GivesEvent}
use Rattle.ticking.specs.Tick.{TickAsk, TicksOnce}
use Rattle.ticking.proofs.Lending.{end_of, ends-inside, rest-zeros, given-lent}
use Rattle.ticking.proofs.Outcomes.{tick-refused, given-number, given-leaves, tick-closed}
use Rattle.ticking.proofs.tick.Goals as goal

-- ---- what is known once the event was given to a copy of the state, which is t' now
gives : {s t t' : List ℕ} {k : Counts} (event : ℕ) {x : Result ⊤ Refusal} → t ≡ s → GivesEvent (given_passing t event) k t' x → GivesEvent (given_passing s event) k t' x
gives {t' = t'} {k = k} event {x = x} same = subst (λ u. GivesEvent (given_passing u event) k t' x) same

long : {s t : List ℕ} (t' : List ℕ) {k : Counts} → t ≡ s → Opened s k → length t' ≡ length t → length s ≡ state_length (form_in t')
long t' same opened kept = (opened-sized opened).long ∙ ap (λ (n : ℕ). state_length (form_of n)) (sym (kept ∙ ap length same))

zeros : {s t t' : List ℕ} {k : Counts} {a : After} {x : Result ⊤ Refusal} → t ≡ s → Opened s k → length t' ≡ length t → GivesEvent a k t' x → ZeroFrom (end_of k) t'
zeros same opened kept h = let i = ends-inside (opened-sized opened) in let l = kept ∙ ap length same in rest-zeros h.header (omega arith) h.rest

-- the tick answers what giving has answered
told : {s s' t : List ℕ} {k : Counts} {event : ℕ} {x y : Result ⊤ Refusal} → x ≡ y → TicksOnce s k event s' t x → TicksOnce s k event s' t y
told {s = s} {s' = s'} {t = t} {k = k} {event = event} same = subst (λ (a : Result ⊤ Refusal). TicksOnce s k event s' t a) same

pub give-requires : goal.give-requires
give-requires c = let p = c.requires in rw p.copied p.going

pub returns-in-Err : goal.returns-in-Err
returns-in-Err c =
    let q = c.requires in
    let h = c.give.ensures in
    told c.in-Err.is (tick-refused _ _ _ _ (gives c.args.event q.copied h).comes _ c.in-Err.is (long _ q.copied q.going.opened c.give.auto.state) (zeros q.copied q.going.opened c.give.auto.state h))

pub close_lent-requires : goal.close_lent-requires
close_lent-requires c =
    let q = c.requires in
    let g = gives c.args.event q.copied c.give.ensures in
    given-lent q _ (given-leaves _ _ _ _ g.comes c.in-Ok.is) (given-number _ _ _ _ g.comes c.in-Ok.is) (g.going c.in-Ok.is) (long _ q.copied q.going.opened c.give.auto.state)

pub returns-in-Ok : goal.returns-in-Ok
returns-in-Ok c =
    let q = c.requires in
    let h = c.give.ensures in
    tick-closed _ _ _ _ (gives c.args.event q.copied h).comes c.in-Ok.is (zeros q.copied q.going.opened c.give.auto.state h) c.close_lent.ensures

pub overflow_add-c : goal.overflow_add-c
overflow_add-c c =
    let i : end_of c.args.c ≤ length c.args.state.now = ends-inside (opened-sized c.requires.going.opened) in
    let l = c.well_formed in omega arith
