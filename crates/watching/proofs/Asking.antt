-- What ask answers in a watch: at load and after each close the verdict of one place (`started-central`, and what it means:
-- `started-true`, `started-false`), as many ticks as events, and the network's slots and nodes (`started-asks`); and within a tick what
-- it answered before (`calls-ask`, with `calls-verdict`). `pending-unfinished`: a pending verdict is that of a state that is not
-- finished. Assumes nothing.
use mathlib.Core.Path.{◌≡◌, refl, sym, ap, ◌∙◌}
use mathlib.Core.Bool.{Bool, true, false}
use mathlib.Core.List.{List, [], ◌∷◌}
use Prim.Native.Nat.{ℕ}
use native.Mathlib.Omega.{arith}
use lib.ListN.{length, get_or}
use lib.Dec.{eqb}
use Rattle.lists.specs.Tests.{pick}
use Rattle.answers.specs.Said.{accepted, verdict_number}
use Rattle.answers.specs.declared.Verdict.TheVariants.{False, True, Pending}
use Rattle.answers.proofs.Answers.{order-ok, order-done}
use Rattle.ltl.specs.Formula.{Formula}
use Rattle.ltl.specs.Meaning.{Event, Trace, Satisfies, continued}
use Rattle.ltl.specs.Progression.{progressed_over, verdict_of}
use Rattle.network.specs.Layout.{Slot, slot_at}
use Rattle.network.proofs.RuleWatch.{rule-verdict, rule-true, rule-false}
use Rattle.state.specs.Fields.{slots_in, nodes_in, ticks_in, slot_bytes}
use Rattle.state.specs.Clauses.{state_ok}
use Rattle.state.specs.Bytes.{nodes_of, network_of}
use Rattle.state.specs.Calls.{finished_in, verdict_in, ask_says}
use Rattle.state.proofs.Listed.{network-length, network-at}
use Rattle.checked.proofs.Passing.{passing}
use Rattle.keeping.proofs.Finished.{unfinished-pending}
use Rattle.watching.specs.Watch.{Calls}
use Rattle.watching.proofs.InTick.{slots_kept}
use Rattle.watching.proofs.Started.{Started, started-laid}
use Rattle.watching.proofs.Ticked.{started-in-tick}
use Rattle.watching.proofs.Telling.{finished-over, started-verdict, calls-unfinished}

pub pending-unfinished : (s : List ℕ) → verdict_in s ≡ Pending → finished_in s ≡ false
unfolding verdict_in pick
pending-unfinished s e = go (finished_in s) refl e
  where
    sure : (b : Bool) → pick b True False ≡ Pending → ⊥
    sure true q = let z : ◌≡◌ {A = ℕ} 0 1 = cc in omega arith
    sure false q = let z : ◌≡◌ {A = ℕ} 0 1 = cc in omega arith

    go : (b : Bool) → finished_in s ≡ b → pick b (pick (eqb (get_or (slot_bytes s 0) 0 0) 1) True False) Pending ≡ Pending → finished_in s ≡ false
    go true q h = absurd (sure (eqb (get_or (slot_bytes s 0) 0 0) 1) h)
    go false q h = q

asks : (s : List ℕ) → state_ok s ≡ true → ask_says s ≡ accepted (verdict_number (verdict_in s) ∷ ticks_in s ∷ slots_in s ∷ nodes_in s ∷ [])
unfolding ask_says
asks s ok = order-ok 9 _ _ _ ok ∙ order-done _

module _ (p : ℕ) (masks : List ℕ) (rule : Formula) (us : List Event) (s : List ℕ) (x : Started p masks rule us s) where
  -- the root of the network over formulas
  told : verdict_of (slot_at (network_of s) 0).formula ≡ verdict_in s
  told = ap (λ (y : Slot). verdict_of y.formula) (network-at s 0 (passing s x.passes).header.some-slots) ∙ sym (started-verdict p masks rule us s x)

  -- the verdict of one place
  pub started-central : verdict_in s ≡ verdict_of (progressed_over us rule)
  started-central = let l = x.loads in sym told ∙ rule-verdict p masks l.few-propositions l.follow rule l.within us (network_of s) x.network

  -- and what it means
  pub started-true : verdict_in s ≡ True → (w : Trace) → Satisfies (continued us w) rule
  started-true e = let l = x.loads in rule-true p masks l.few-propositions l.follow rule l.within us (network_of s) x.network (told ∙ e)

  pub started-false : verdict_in s ≡ False → (w : Trace) → Satisfies (continued us w) rule → ⊥
  started-false e = let l = x.loads in rule-false p masks l.few-propositions l.follow rule l.within us (network_of s) x.network (told ∙ e)

  pub started-asks : ask_says s ≡ accepted (verdict_number (verdict_of (progressed_over us rule)) ∷ length us ∷ length (network_of s) ∷ nodes_of (network_of s) ∷ [])
  started-asks =
      let m : slots_in s ≡ length (network_of s) = sym (network-length s) in
      let v = started-central in
      let n = x.nodes-are in
      let k = x.ticks-are in
      asks s x.passes ∙ (λ i. accepted (verdict_number (v i) ∷ k i ∷ m i ∷ n i ∷ []))

  -- within a tick
  module _ (t : List ℕ) (c : Calls s t) where
    pub calls-verdict : verdict_in t ≡ verdict_in s
    calls-verdict = go (finished_in s) refl
      where
        go : (b : Bool) → finished_in s ≡ b → verdict_in t ≡ verdict_in s
        go true e = ap verdict_in ((finished-over s x.passes e).stays t c)
        go false e = unfinished-pending t (calls-unfinished p masks rule us s x t c e) ∙ sym (unfinished-pending s e)

    pub calls-ask : ask_says t ≡ ask_says s
    calls-ask =
        let i = started-in-tick p masks rule us s t x c in
        let m = slots_kept s x.passes (started-laid p masks rule us s x) t i in
        let v = calls-verdict in
        let n = i.nodes-kept in
        let k = i.ticks-kept in
        asks t i.passes ∙ (λ j. accepted (verdict_number (v j) ∷ k j ∷ m j ∷ n j ∷ [])) ∙ sym (asks s x.passes)
