-- The workshop's third demand for the calls from C (`demanded-from-c`): it holds of every watch that the exported functions' promises allow.
-- Assumes nothing.
use Rattle.std.specs.Prelude.{Result, Ok, Err, ⊤}
use Rattle.answers.specs.declared.Refusal.{Refusal}
use mathlib.Core.Path.{sym, ap, ◌∙◌}
use mathlib.Core.List.{List}
use Prim.Native.Nat.{ℕ}
use Rattle.lists.specs.Tests.{pick}
use Rattle.answers.specs.declared.Refusal.TheVariants.{Slots, Nodes, Ticks}
use Rattle.answers.specs.Said.{Said, said_outcome}
use Rattle.ltl.specs.Meaning.{Event}
use Rattle.telling.specs.declared.Standing.{Standing}
use Rattle.taking.specs.Sample.{Samples}
use Rattle.settling.specs.Step.{StepsSlot}
use Rattle.exported.specs.Exported.{SampleExported, StepExported, AskExported, value_at}
use Rattle.demand.specs.Called.{SameGiven}
use Rattle.demand.specs.Claims as claim
use Rattle.demand.specs.Claims.{Gets, CloseGets, GoesOn, AskGets, standing}
use Rattle.demand.proofs.Demand.{demanded}
use Rattle.demand_c.specs.FromC.{CalledFromC, SameGivenFromC, WatchedFromC}
use Rattle.demand_c.specs.Demanded.{Answers, CloseAnswers, GoesOnFromC, samples, steps, closes, too-many-slots, too-many-nodes, no-more-ticks, Stores, DemandedFromC}
use Rattle.demand_c.proofs.Same.{sample-same, step_same, close-same}
use Rattle.demand_c.proofs.Watches.{from-c, gave-from-c, ticked-from-c, watched-from-c}

-- ---- the number that a call answers is that of the outcome that it gets
abbrev numbered : Result ⊤ Refusal → ℕ
numbered answer = (said_outcome answer).number

module _ (t : List ℕ) (wanted : Result ⊤ Refusal) where
  sample-answers : (board bits : ℕ) → Gets (Samples t board bits) wanted → Answers (SampleExported t board bits) (numbered wanted)
  sample-answers board bits g =
      record {
        leaves = g.leaves;
        allowed = record { says = ap (λ (a : Said). a.number) g.allowed.says; leaves = g.allowed.leaves };
        only = λ s' n x. let r = sample-same x in r.2 ∙ ap numbered (g.only s' r.0 r.1);
      }

  step-answers : (slot : ℕ) → Gets (StepsSlot t slot) wanted → Answers (StepExported t slot) (numbered wanted)
  step-answers slot g =
      record {
        leaves = g.leaves;
        allowed = record { says = ap (λ (a : Said). a.number) g.allowed.says; leaves = g.allowed.leaves };
        only = λ s' n x. let r = step_same x in r.2 ∙ ap numbered (g.only s' r.0 r.1);
      }

  close-answers : CloseGets t wanted → CloseAnswers t (numbered wanted)
  close-answers g second long =
      let h = g second long in
      record {
        leaves = h.leaves;
        allowed = record { says = ap (λ (a : Said). a.number) h.allowed.says; leaves = h.allowed.leaves };
        only = λ s' n x. let r = close-same x in r.2 ∙ ap numbered (h.only s' r.0 r.1);
      }

going_on : (t : List ℕ) → GoesOn t → GoesOnFromC t
going_on t (claim.samples board bits g) = samples board bits (sample-answers t (Ok tt) board bits g)
going_on t (claim.steps slot g) = steps slot (step-answers t (Ok tt) slot g)
going_on t (claim.closes left (claim.accepts g)) = closes left.done (close-answers t (Ok tt) g)
going_on t (claim.closes left (claim.too-many-slots g)) = too-many-slots left.done (close-answers t (Err Slots) g)
going_on t (claim.closes left (claim.too-many-nodes g)) = too-many-nodes left.done (close-answers t (Err Nodes) g)
going_on t (claim.closes left (claim.no-more-ticks g)) = no-more-ticks left.done (close-answers t (Err Ticks) g)

storing : (t : List ℕ) (x : Standing) → AskGets t x → (verdict ticks slots nodes verdict' ticks' slots' nodes' n : ℕ) → AskExported t verdict ticks slots nodes verdict' ticks' slots' nodes' n
    → Stores x verdict' ticks' slots' nodes' n
unfolding value_at pick
storing t x g verdict ticks slots nodes verdict' ticks' slots' nodes' n y =
    let e = sym g.allowed.says in
    record {
      accepts = y.says ∙ ap (λ (a : Said). a.number) e;
      verdict-is = y.gives-verdict ∙ ap (λ (a : Said). value_at a 0 verdict) e;
      ticks-are = y.gives-ticks ∙ ap (λ (a : Said). value_at a 1 ticks) e;
      slots-are = y.gives-slots ∙ ap (λ (a : Said). value_at a 2 slots) e;
      nodes-are = y.gives-nodes ∙ ap (λ (a : Said). value_at a 3 nodes) e;
    }

same-given : {s t r u : List ℕ} (c : CalledFromC s t) (d : CalledFromC r u) → SameGivenFromC c d → SameGiven (from-c c) (from-c d)
same-given c d same b v w g h = same b v w (gave-from-c c b v g) (gave-from-c d b w h)

pub demanded-from-c : {file : List ℕ} {us : List Event} {s : List ℕ} → WatchedFromC file us s → DemandedFromC file us s
demanded-from-c {file} {us} {s} w =
    let d = demanded (watched-from-c w) in
    record {
      same-network = λ other vs r v one e f a b x y same.
          d.same-network other vs r (watched-from-c v) one e f a b (ticked-from-c x) (ticked-from-c y) (same-given x.calls y.calls same);
      same_bytes = λ e f a b x y same. d.same_bytes e f a b (ticked-from-c x) (ticked-from-c y) (same-given x.calls y.calls same);
      same-close = λ t u c e done-t done-u same second a b m n x y.
          let p = close-same x in
          let q = close-same y in
          let z = d.same-close t u (from-c c) (from-c e) done-t done-u (same-given c e same) second a b p.0 q.0 p.1 q.1 in
          (p.2 ∙ ap numbered z.0 ∙ sym q.2, z.1);
      goes_on = λ pending t c. going_on t (d.goes_on pending t (from-c c));
      asks = λ t c. storing t (standing file us s) (d.asks t (from-c c));
      when_true = d.when_true;
      when_false = d.when_false;
      in-time = d.in-time;
      agrees = d.agrees;
    }
