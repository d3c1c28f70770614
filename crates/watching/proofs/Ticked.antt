-- A tick of a watch: the state that it closes to is a watch's state again, for the events so far and the tick's own,
-- and holds the network of the last state laid out again (`tick-network`).
-- So every state of a watch is one (`watch-started`), and every state that calls lead to from there is within a tick (`started-in-tick`).
-- `close_passed` and `close-leaves` are an accepted close. Assumes nothing.
use mathlib.Core.Path.{◌≡◌, refl, sym, ap, ap₂, ◌∙◌, subst}
use mathlib.Core.Bool.{true, false}
use mathlib.Core.List.{List, [], ◌∷◌, ◌++◌}
use Prim.Native.Nat.{ℕ, ◌+◌, ◌^◌, ◌<◌, ◌≤◌}
use native.Mathlib.Omega.{arith}
use lib.ListN.{length, replicate, length-append, length-replicate, get_or-replicate}
use lib.Dec.{eqb}
use borrow.Author.Tests.{leb-true, ltb-true, ne_eqb}
use Rattle.lists.proofs.Tests.{both-1}
use Rattle.answers.specs.Said.{Said, accepted, left}
use Rattle.answers.proofs.Answers.{left-accepted, order-passed}
use Rattle.ltl.specs.Formula.{Formula}
use Rattle.ltl.specs.Meaning.{Event}
use Rattle.network.specs.Scores.{chosen, sample_of}
use Rattle.network.specs.Layout.{Slot, slot_at, close}
use Rattle.network.specs.Tick.{rest, AllMarked, Ticks, begun, ticked}
use Rattle.network.proofs.Relaying.{AllOk}
use Rattle.network.proofs.Choosing.{masks-choice}
use Rattle.state.specs.declared.Form.{Form}
use Rattle.state.specs.Form.{form_in, slots_most, nodes_most}
use Rattle.state.specs.Fields.{slots_in, ticks_in, masks_in, sample_in, stepped_in}
use Rattle.state.specs.Clauses.{state_ok}
use Rattle.state.specs.Bytes.{nodes_of, state_of, network_of}
use Rattle.state.specs.Calls.{done_in, next_in, close_says, close_leaves}
use Rattle.state.proofs.Listed.{network-length}
use Rattle.records.proofs.Each.{each_at}
use Rattle.checked.proofs.Loaded.{loaded-passes}
use Rattle.checked.proofs.Closed.{closed-passes}
use Rattle.watching.specs.Watch.{Calls, Tick, StateWatch, begun, ticked}
use Rattle.watching.proofs.Networks.{marks_of, mark-is, marks-are}
use Rattle.watching.proofs.InTick.{InTick, steps-by, board-there, calls-in-tick}
use Rattle.watching.proofs.Single.{load-single, close-single}
use Rattle.watching.proofs.Started.{Started, started-laid, written-network, written-started}

-- ---- an accepted close
pub record ClosePassed (t : List ℕ) : Type 0 where
  pub done : done_in t ≡ true
  pub few-ticks : ticks_in t + 1 < 2 ^ 32
  pub few-slots : length (next_in t) ≤ slots_most (form_in t)
  pub few-nodes : nodes_of (next_in t) ≤ nodes_most (form_in t)

pub close_passed : (t : List ℕ) (room : ℕ) → close_says t room ≡ accepted [] → ClosePassed t
unfolding close_says
close_passed t room e =
    let x = order-passed _ (accepted []) (omega arith, (omega arith, (omega arith, (omega arith, (omega arith, (omega arith, (omega arith, tt))))))) (ap (λ (a : Said). a.number) e) in
    record { done = x.1.1.1.0; few-ticks = ltb-true _ _ x.1.1.1.1.0; few-slots = leb-true _ _ x.1.1.1.1.1.0; few-nodes = leb-true _ _ x.1.1.1.1.1.1.0 }

pub close-leaves : (t second : List ℕ) → close_says t (length second) ≡ accepted [] → close_leaves t second ≡ state_of (form_in t) (masks_in t) (next_in t) (ticks_in t + 1)
close-leaves t second e =
    let next = state_of (form_in t) (masks_in t) (next_in t) (ticks_in t + 1) in
    ap (λ (a : Said). left a next second) e ∙ left-accepted [] next second

-- all slots are stepped
pub done-marked : (t : List ℕ) → done_in t ≡ true → AllMarked (network_of t) (marks_of t)
unfolding done_in
done-marked t d k l = let h : k < slots_in t = omega (arith, network-length t) in mark-is t k h ∙ each_at (λ k. eqb (stepped_in t k) 1) (slots_in t) k (both-1 _ _ d) h

-- where nothing is stepped
start-in-tick : (s : List ℕ) (begins : state_ok s ≡ true) (laid : AllOk (chosen (masks_in s)) (masks-choice (masks_in s)) (length (network_of s)) 0 (network_of s))
    → ((k : ℕ) → k < slots_in s → stepped_in s k ≡ 0) → InTick s begins laid s
start-in-tick s begins laid unstepped =
    let n = network-length s in
    let none = marks-are s (replicate (length (network_of s)) false) (sym (length-replicate (length (network_of s)) false ∙ n))
    (λ k l. get_or-replicate (length (network_of s)) k false false (omega arith) ∙ sym (ne_eqb (stepped_in s k) 1 (λ e. omega (arith, unstepped k l)))) in
    record { passes = begins; form-kept = refl; masks-kept = refl; nodes-kept = refl; ticks-kept = refl; steps = rw none rest }

module _ (p : ℕ) (masks : List ℕ) (rule : Formula) where
  pub started-in-tick : (us : List Event) (s t : List ℕ) (x : Started p masks rule us s) → Calls s t → InTick s x.passes (started-laid p masks rule us s x) t
  started-in-tick us s t x c = calls-in-tick s x.passes (started-laid p masks rule us s x) c (start-in-tick s x.passes (started-laid p masks rule us s x) x.unstepped)

  module _ (us : List Event) (s s' : List ℕ) (e : Event) (x : Started p masks rule us s) (tick : Tick s e s') where
    abbrev t : List ℕ
    t = tick.last

    abbrev laid : AllOk (chosen (masks_in s)) (masks-choice (masks_in s)) (length (network_of s)) 0 (network_of s)
    laid = started-laid p masks rule us s x

    i : InTick s x.passes laid t
    i = started-in-tick us s t x tick.calls

    closes : ClosePassed t
    closes = close_passed t (length tick.second) tick.closes

    masks-are : masks_in t ≡ masks
    masks-are = i.masks-kept ∙ x.masks-are

    abbrev next : List Slot
    next = close (chosen masks) (network_of t)

    -- over formulas it is a tick too
    ticks : Ticks (chosen masks) (sample_of masks e) (network_of s) next
    ticks =
        let steps = steps-by s x.passes laid (sample_in t) (sample_of (masks_in s) e) (network_of t) (marks_of t) i.steps
        (λ k l m. tick.saw _ (board-there s x.passes laid t i k l) ∙ ap (λ (ms : List ℕ). sample_of ms e (slot_at (network_of s) k).board) i.masks-kept) in
        subst (λ (ms : List ℕ). Ticks (chosen ms) (sample_of ms e) (network_of s) (close (chosen ms) (network_of t))) x.masks-are
        (record { last = network_of t; marks = marks_of t; steps = steps; all = done-marked t closes.done; closes = refl })

    counted : ticks_in t + 1 ≡ length (us ++ (e ∷ []))
    counted = omega (arith, i.ticks-kept, x.ticks-are, length-append us (e ∷ []))

    -- the state that is closed, and so the next one, has the form of s; the masks are those of the rule
    few-slots : length next ≤ slots_most (form_in s)
    few-slots = (let h = closes.few-slots in let e = ap slots_most i.form-kept in let q = ap (λ (ms : List ℕ). length (close (chosen ms) (network_of t))) masks-are in omega arith)

    few-nodes : nodes_of next ≤ nodes_most (form_in s)
    few-nodes = (let h = closes.few-nodes in let e = ap nodes_most i.form-kept in let q = ap (λ (ms : List ℕ). nodes_of (close (chosen ms) (network_of t))) masks-are in omega arith)

    next-is : state_of (form_in t) (masks_in t) (next_in t) (ticks_in t + 1) ≡ state_of (form_in s) masks next (ticks_in t + 1)
    next-is = ap₂ (λ (φ : Form) (ms : List ℕ). state_of φ ms (close (chosen ms) (network_of t)) (ticks_in t + 1)) i.form-kept masks-are

    closed : s' ≡ state_of (form_in s) masks next (ticks_in t + 1)
    closed = tick.leaves ∙ close-leaves t tick.second tick.closes ∙ next-is

    pub tick-network : network_of s' ≡ next
    tick-network =
        ap network_of closed ∙ written-network p masks rule x.loads (us ++ (e ∷ [])) next (ticked x.network e ticks) (ticks_in t + 1) counted closes.few-ticks few-slots few-nodes

    tick-started : Started p masks rule (us ++ (e ∷ [])) s'
    tick-started =
        let ok = ap state_ok (sym next-is) ∙ closed-passes t i.passes closes.done closes.few-slots closes.few-nodes in
        subst (λ (y : List ℕ). Started p masks rule (us ++ (e ∷ [])) y) (sym closed)
        (written-started p masks rule x.loads (us ++ (e ∷ [])) next (ticked x.network e ticks) (ticks_in t + 1) counted closes.few-ticks few-slots few-nodes ok
        (close-single (chosen masks) (network_of t)))

  pub watch-started : {us : List Event} {s : List ℕ} → StateWatch p masks rule us s → Started p masks rule us s
  watch-started (begun {φ = φ} l) =
      written-started p masks rule l [] _ begun 0 refl (omega arith) l.few-slots l.few-nodes
      (loaded-passes φ masks p rule l.follow l.some-propositions l.few-propositions l.some-boards l.few-boards l.within l.few-slots l.few-nodes)
      (load-single (chosen masks) rule)
  watch-started (ticked {us = us} {s = s} {s' = s'} w e t) = tick-started us s s' e (watch-started w) t
