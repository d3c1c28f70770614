-- An event given to a watch, until a verdict: where the boards' masks cover it, every sample and every step is accepted
-- (`give-covered`), each board was given its part of it, and the close is all that is left (`give-reaches`). Assumes nothing.
use mathlib.Core.Path.{◌≡◌, refl, sym, ap, ◌∙◌, subst}
use mathlib.Core.Bool.{true, false}
use mathlib.Core.List.{List, []}
use Prim.Native.Nat.{ℕ, zero, suc, ◌+◌, ◌≤◌}
use native.Mathlib.Omega.{arith}
use Rattle.answers.specs.Said.{accepted}
use Rattle.answers.specs.declared.Verdict.TheVariants.{Pending}
use Rattle.answers.proofs.Answers.{order-ok, order-done}
use Rattle.ltl.specs.Formula.{Formula}
use Rattle.ltl.specs.Meaning.{Event}
use Rattle.rules.specs.RuleFile as rule-file
use Rattle.state.specs.Fields.{boards_in, slots_in, masks_in}
use Rattle.state.specs.Calls.{finished_in, sample_says, sample_leaves, step_leaves}
use Rattle.loading.specs.Load.{start_in}
use Rattle.course.specs.Given.{After, after, follow, sampled_from, stepped_below, taken_by, given_under}
use Rattle.course.specs.Ticked.{tick_leaves}
use Rattle.course.proofs.Following.{follow-accepted, sampled-done, sampled-more, stepped-done, stepped-more}
use Rattle.watching.specs.Watch.{Calls, none, sample, step}
use Rattle.watching.specs.Claims.{Accepted}
use Rattle.watching.proofs.Started.{Started}
use Rattle.watching.proofs.Ticked.{watch-started}
use Rattle.watching.proofs.Asking.{pending-unfinished}
use Rattle.watching.proofs.Demand.{watch-verdict}
use Rattle.watching.proofs.Existing.{due, TickProgress, due-is, sample-says, sample-more, step-says, step-more, progress-none, progress-saw, progress-done, progress-closing}
use Rattle.demand.specs.Called.{Watched}
use Rattle.demand.specs.Claims.{standing, Reaches}
use Rattle.demand.specs.Stopping.{covers}
use Rattle.demand.proofs.Calls.{made}
use Rattle.demand.proofs.Given.{saw-given}
use Rattle.demand.proofs.Watches.{watched}
use Rattle.demand.proofs.Getting.{closing, close-left}

module _ (p : ℕ) (masks : List ℕ) (rule : Formula) (us : List Event) (s : List ℕ) (x : Started p masks rule us s) (unfinished : finished_in s ≡ false) (e : Event) where
  -- the boards below n have sampled, the slots from d on are stepped
  abbrev Far : ℕ → ℕ → List ℕ → Type 0
  Far n d t = TickProgress p masks rule us s x unfinished e n d t

  -- calls have come so far, all accepted, and what is left of them comes to this
  record ComesFar (a : After) (d : ℕ) : Type 0 where
    last : List ℕ
    calls : Calls s last
    all : Accepted calls
    progress : Far (boards_in s) d last
    comes : a ≡ after (accepted []) last

  -- the boards from i on
  boards-come : (n i : ℕ) → i + n ≡ boards_in s → (t : List ℕ) (c : Calls s t) → Accepted c → Far i (slots_in s) t → ComesFar (sampled_from n e i t) (slots_in s)
  boards-come zero i h t c a far =
      let q : i ≡ boards_in s = omega arith in
      record { last = t; calls = c; all = a; progress = subst (λ (n : ℕ). Far n (slots_in s) t) q far; comes = sampled-done e i t }
  boards-come (suc n) i h t c a far =
      let bits = due p masks rule us s x unfinished e i in
      let says = sample-says p masks rule us s x unfinished e t c i (omega arith) far in
      let more = sample-more p masks rule us s x unfinished e t c i (omega arith) far in
      let is = due-is p masks rule us s x unfinished e t c i (omega arith) far in
      let q : suc i ≡ i + 1 = omega arith in
      let turn = sampled-more n e i t (ap (sample_says t i) (sym is) ∙ says) ∙ ap (λ (b : ℕ). sampled_from n e (i + 1) (sample_leaves t i b)) (sym is) in
      subst (λ (b : After). ComesFar b (slots_in s)) (sym turn)
      (boards-come n (i + 1) (omega arith) (sample_leaves t i bits) (sample c i bits) (a, says) (subst (λ (j : ℕ). Far j (slots_in s) (sample_leaves t i bits)) q more))

  -- the slots below k
  slots-come : (k : ℕ) → k ≤ slots_in s → (t : List ℕ) (c : Calls s t) → Accepted c → Far (boards_in s) k t → ComesFar (stepped_below k t) 0
  slots-come zero h t c a far = record { last = t; calls = c; all = a; progress = far; comes = stepped-done t }
  slots-come (suc k) h t c a far =
      let says = step-says p masks rule us s x unfinished e t c k (omega arith) far in
      let more = step-more p masks rule us s x unfinished e t c k (omega arith) far in
      subst (λ (b : After). ComesFar b 0) (sym (stepped-more k t says)) (slots-come k (omega arith) (step_leaves t k) (step c k) (a, says) more)

  all_come : covers (masks_in s) e ≡ true → ComesFar (given_under s e) 0
  unfolding given_under taken_by
  all_come inside =
      let taken : taken_by s e ≡ accepted [] = order-ok 9 _ _ _ x.passes ∙ order-ok 12 _ _ _ inside ∙ order-done _ in
      let b = boards-come (boards_in s) 0 (omega arith) s none tt (progress-none p masks rule us s x unfinished e) in
      let k = slots-come (slots_in s) (omega arith) b.last b.calls b.all b.progress in
      let boards = follow-accepted (after (taken_by s e) s) (sampled_from (boards_in s) e 0) taken ∙ b.comes in
      record {
        last = k.last;
        calls = k.calls;
        all = k.all;
        progress = k.progress;
        comes = ap (λ (a : After). follow a (stepped_below (slots_in s))) boards ∙ follow-accepted (after (accepted []) b.last) (stepped_below (slots_in s)) refl ∙ k.comes;
      }

  reaches : (r : ComesFar (given_under s e) 0) → Reaches masks s e r.last
  reaches r =
      let m = made r.calls r.all in
      let done = progress-done p masks rule us s x unfinished e r.last r.calls r.progress in
      record {
        calls = m.0;
        all = m.1;
        given = saw-given p masks rule us s x r.last e m.0 (progress-saw p masks rule us s x unfinished e r.last r.calls r.progress);
        left = close-left r.last done;
        closing = closing r.last (progress-closing p masks rule us s x unfinished e r.last r.calls r.progress);
      }

-- ---- of a watch, until a verdict, under an event that the masks cover
module _ (file : List ℕ) (us : List Event) (s : List ℕ) (w : Watched file us s) (pending : (standing file us s).verdict ≡ Pending) (e : Event)
    (inside : covers (rule-file.masks_in_file file) e ≡ true) where
  abbrev p : ℕ
  p = rule-file.propositions_in_file file

  abbrev masks : List ℕ
  masks = rule-file.masks_in_file file

  start : Started p masks (start_in file) us s
  start = watch-started p masks (start_in file) (watched w)

  unfinished : finished_in s ≡ false
  unfinished = pending-unfinished s (watch-verdict p masks (start_in file) us s (watched w) ∙ pending)

  far : ComesFar p masks (start_in file) us s start unfinished e (given_under s e) 0
  far = all_come p masks (start_in file) us s start unfinished e (ap (λ (ms : List ℕ). covers ms e) start.masks-are ∙ inside)

  pub give-covered : (given_under s e).says ≡ accepted []
  give-covered = ap (λ (a : After). a.says) far.comes

  pub give-reaches : Reaches masks s e (tick_leaves s e)
  give-reaches = subst (λ (t : List ℕ). Reaches masks s e t) (sym (ap (λ (a : After). a.leaves) far.comes)) (reaches p masks (start_in file) us s start unfinished e far)
