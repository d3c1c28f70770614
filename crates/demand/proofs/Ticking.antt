-- A whole tick of a watch by the calls one at a time, until a verdict. Under an event that the masks cover it answers what the close answers
-- (`tick-closes`); any other event gets 12, and the state stays (`tick-outside`; `given-outside` of every state that passes its check). So
-- neither 13 nor 9 comes (`watched-order`), and a tick that was accepted is a tick under its event (`course-ticked`). Assumes nothing.
use mathlib.Core.Path.{◌≡◌, refl, sym, ap, ◌∙◌}
use mathlib.Core.Bool.{Bool, true, false}
use mathlib.Core.List.{List, []}
use Prim.Native.Nat.{ℕ}
use native.Mathlib.Omega.{arith}
use lib.ListN.{length}
use borrow.Author.Tests.{eq-eqb}
use Rattle.answers.specs.Said.{Said, accepted, refused}
use Rattle.answers.specs.declared.Verdict.TheVariants.{Pending}
use Rattle.answers.proofs.Answers.{order-ok, order-refused}
use Rattle.ltl.specs.Meaning.{Event}
use Rattle.rules.specs.RuleFile as rule-file
use Rattle.state.specs.Fields.{boards_in, slots_in, masks_in}
use Rattle.state.specs.Clauses.{state_ok}
use Rattle.state.specs.Calls.{close_says}
use Rattle.checked.proofs.Checked.{each_of}
use Rattle.loading.specs.Load.{start_in}
use Rattle.course.specs.Given.{After, after, follow, sampled_from, stepped_below, taken_by, given_under}
use Rattle.course.specs.Ticked.{tick_leaves, tick_says, closed_to}
use Rattle.course.specs.Order.{none_sampled, tick_order}
use Rattle.course.proofs.Following.{follow-refused}
use Rattle.course.proofs.InOrder as in_order
use Rattle.watching.proofs.Started.{Started}
use Rattle.watching.proofs.Ticked.{watch-started}
use Rattle.watching.proofs.Asking.{pending-unfinished}
use Rattle.watching.proofs.Demand.{watch-verdict, tick-passes}
use Rattle.demand.specs.Called.{Ticked, Watched}
use Rattle.demand.specs.Claims.{standing}
use Rattle.demand.specs.Stopping.{covers, watch_order}
use Rattle.demand.proofs.Calls.{called}
use Rattle.demand.proofs.Watches.{watched}
use Rattle.demand.proofs.Giving.{give-called}
use Rattle.demand.proofs.AllGiven.{give-covered, give-reaches}

-- an event that the masks do not cover: no call is made
pub given-outside : (s : List ℕ) (e : Event) → state_ok s ≡ true → covers (masks_in s) e ≡ false → given_under s e ≡ after (refused 12) s
unfolding given_under taken_by
given-outside s e ok out =
    let taken : taken_by s e ≡ refused 12 = order-ok 9 _ _ _ ok ∙ order-refused 12 _ _ _ out in
    let boards = follow-refused (after (taken_by s e) s) (sampled_from (boards_in s) e 0) (rw taken (omega arith)) ∙ ap (λ (a : Said). after a s) taken in
    ap (λ (a : After). follow a (stepped_below (slots_in s))) boards ∙ follow-refused (after (refused 12) s) (stepped_below (slots_in s)) (omega arith)

module _ (file : List ℕ) (us : List Event) (s : List ℕ) (w : Watched file us s) where
  abbrev masks : List ℕ
  masks = rule-file.masks_in_file file

  abbrev p : ℕ
  p = rule-file.propositions_in_file file

  start : Started p masks (start_in file) us s
  start = watch-started p masks (start_in file) (watched w)

  fresh : none_sampled s ≡ true
  fresh = each_of _ (boards_in s) (λ b l. eq-eqb _ _ (start.unsampled b l))

  module _ (e : Event) where
    same-cover : covers (masks_in s) e ≡ covers masks e
    same-cover = ap (λ (ms : List ℕ). covers ms e) start.masks-are

    pub tick-outside : covers masks e ≡ false → (tick_says s e ≡ refused 12) × (tick_leaves s e ≡ s)
    tick-outside out =
        let g = given-outside s e start.passes (same-cover ∙ out) in
        (in_order.tick-refused s e 11 (ap (λ (a : After). a.says) g), ap (λ (a : After). a.leaves) g)

    -- of a tick's checks those of 13 and 9 always hold
    pub order-watched : tick_order s e ≡ watch_order masks s e
    unfolding tick_order watch_order
    order-watched = go (covers masks e) refl
      where
        go : (b : Bool) → covers masks e ≡ b → tick_order s e ≡ watch_order masks s e
        go true q =
            order-ok 12 _ _ _ (same-cover ∙ q) ∙ order-ok 13 _ _ _ fresh ∙ order-ok 9 _ _ _ (tick-passes p masks (start_in file) us s (watched w) (tick_leaves s e) (called (give-called s e)))
            ∙ sym (order-ok 12 _ _ _ q)
        go false q = order-refused 12 _ _ _ (same-cover ∙ q) ∙ sym (order-refused 12 _ _ _ q)

    module _ (pending : (standing file us s).verdict ≡ Pending) where
      pub watched-order : tick_says s e ≡ watch_order masks s e
      watched-order =
          in_order.tick-in-order s start.passes (pending-unfinished s (watch-verdict p masks (start_in file) us s (watched w) ∙ pending)) e ∙ order-watched

      pub tick-closes : covers masks e ≡ true → tick_says s e ≡ close_says (tick_leaves s e) (length s)
      tick-closes inside = in_order.tick-closes s e (give-covered file us s w pending e inside)

      pub course-ticked : tick_says s e ≡ accepted [] → Ticked masks s e (closed_to s e)
      course-ticked says = go (covers masks e) refl
        where
          go : (b : Bool) → covers masks e ≡ b → Ticked masks s e (closed_to s e)
          go true inside =
              let r = give-reaches file us s w pending e inside in
              record { last = tick_leaves s e; calls = r.calls; given = r.given; second = s; closes = record { says = sym says ∙ tick-closes inside; leaves = refl } }
          go false out = let n = ap (λ (a : Said). a.number) (sym says ∙ (tick-outside out).0) in absurd (omega arith)
