-- What the boards were given in a tick is what the state holds (`holding`): of a watch's state, a board that was given bits has them as
-- its sample, and a board that has sampled was given something. So where every board has sampled, calls that gave each board its part of an
-- event have left a state that saw the event (`given-saw`, by `sample-given`), and the other way round (`saw-given`). Assumes nothing.
use Rattle.answers.specs.declared.Refusal.{Refusal}
use Rattle.std.specs.Prelude.{Result, Ok, Err, ⊤}
use mathlib.Core.Path.{◌≡◌, refl, sym, ap, ◌∙◌, subst}
use mathlib.Core.Bool.{true}
use mathlib.Core.List.{List}
use mathlib.Core.Logic.{◌⊎◌, inl, inr, ⊎_elim}
use Prim.Native.Nat.{ℕ, ◌<◌}
use native.Mathlib.Decide.{ℕ_discrete}
use native.Mathlib.Omega.{arith}
use Rattle.ltl.specs.Formula.{Formula}
use Rattle.ltl.specs.Meaning.{Event}
use Rattle.network.specs.Scores.{sample_of}
use Rattle.state.specs.Fields.{boards_in, sample_in, sampled_in}
use Rattle.state.specs.Writes.{sample_given}
use Rattle.state.specs.Calls.{done_in}
use Rattle.state.proofs.Sampled.{sample-other, sample-other-flag, sample-bits, sample-flag}
use Rattle.checked.proofs.Passing.{passing-sized}
use Rattle.keeping.proofs.Sampling.{bits-few}
use Rattle.keeping.proofs.Stepping as stepping
use Rattle.keeping.proofs.Calls.{accepted-leaves, SamplePassed, sample-passed, step-passed}
use Rattle.watching.specs.Watch.{Saw}
use Rattle.watching.proofs.InTick.{InTick, boards-kept}
use Rattle.watching.proofs.Started.{Started, started-laid}
use Rattle.watching.proofs.Ticked.{started-in-tick}
use Rattle.demand.specs.Called.{Called, nothing, sampled, stepped, asked, closed, load-refused, close-refused, write-refused, parse-refused, print-refused, central-refused, read-refused, capture-refused, capture-second-refused, report-refused, add-refused, mend-refused, mend-marks-refused, Gave, GivenBy}
use Rattle.parsing.proofs.Outcomes.{parse-keeps}
use Rattle.reporting.proofs.Outcomes.{report-keeps}
use Rattle.keeping.proofs.Refused.{refused-not-done, refused-leaves}
use Rattle.demand.proofs.Calls.{called}
use Rattle.demand.proofs.Getting.{done-boards}

-- ---- the boards of a state, and what was given
-- of the n boards, those that were given bits have them as their sample, and those that have sampled were given something
record Holding (n : ℕ) (t : List ℕ) (Given : ℕ → ℕ → Type 0) : Type 0 where
  there : (b v : ℕ) → Given b v → b < n
  marked : (b v : ℕ) → Given b v → sampled_in t b ≡ 1
  sample : (b v : ℕ) → Given b v → sample_in t b ≡ v
  given : (b : ℕ) → b < n → sampled_in t b ≡ 1 → (v : ℕ) × Given b v

module _ (n : ℕ) (t : List ℕ) (Given : ℕ → ℕ → Type 0) (h : Holding n t Given) where
  -- after an accepted sample
  holds_more : boards_in t ≡ n → (board bits : ℕ) (q : SamplePassed t board bits)
      → Holding n (sample_given t board bits) (λ b v. Given b v ⊎ (◌≡◌ {A = Result ⊤ Refusal} (Ok tt) (Ok tt) × (b ≡ board) × (v ≡ bits)))
  holds_more m board bits q =
      record {
        there = λ b v. ⊎_elim (h.there b v) (λ e. (let l = q.there in omega (arith, e.1)));
        marked = λ b v. ⊎_elim (λ g. flag-other b v g ∙ h.marked b v g) (λ e. ap (sampled_in t') e.1 ∙ sample-flag t (passing-sized t q.ok) board bits q.there);
        sample = λ b v. ⊎_elim (λ g. sample-other t (passing-sized t q.ok) board bits q.there b (other b v g) ∙ h.sample b v g)
            (λ e. ap (sample_in t') e.1 ∙ sample-bits t (passing-sized t q.ok) board bits q.there (bits-few t q.ok board bits q.there q.inside) ∙ sym e.2);
        given = given;
      }
    where
      t' : List ℕ
      t' = sample_given t board bits

      -- the board had not sampled, so it is none that was given something
      other : (b v : ℕ) → Given b v → b ≡ board → ⊥
      other b v g e = let z = ap (sampled_in t) e in omega (arith, h.marked b v g, q.fresh)

      flag-other : (b v : ℕ) → Given b v → sampled_in t' b ≡ sampled_in t b
      flag-other b v g = sample-other-flag t (passing-sized t q.ok) board bits q.there b (other b v g)

      given : (b : ℕ) → b < n → sampled_in t' b ≡ 1 → (v : ℕ) × (Given b v ⊎ (◌≡◌ {A = Result ⊤ Refusal} (Ok tt) (Ok tt) × (b ≡ board) × (v ≡ bits)))
      given b l f =
          elim (ℕ_discrete b board) [
            | yes z ↦ (bits, inr (refl, z, refl))
            | no z ↦ let g = h.given b l (sym (sample-other-flag t (passing-sized t q.ok) board bits q.there b z) ∙ f) in (g.0, inl g.1)
          ]

  -- after a refused sample: nothing more was given
  holds-refused : (Given' : ℕ → ℕ → Type 0) → ((b v : ℕ) → Given b v → Given' b v) → ((b v : ℕ) → Given' b v → Given b v) → Holding n t Given'
  holds-refused Given' more same =
      record {
        there = λ b v g. h.there b v (same b v g);
        marked = λ b v g. h.marked b v (same b v g);
        sample = λ b v g. h.sample b v (same b v g);
        given = λ b l f. let g = h.given b l f in (g.0, more b g.0 g.1);
      }

  -- after a call that touches no sample
  holds-still : (t' : List ℕ) → ((b : ℕ) → b < n → sampled_in t' b ≡ sampled_in t b) → ((b : ℕ) → b < n → sample_in t' b ≡ sample_in t b) → Holding n t' Given
  holds-still t' flags samples =
      record {
        there = h.there;
        marked = λ b v g. flags b (h.there b v g) ∙ h.marked b v g;
        sample = λ b v g. samples b (h.there b v g) ∙ h.sample b v g;
        given = λ b l f. h.given b l (sym (flags b l) ∙ f);
      }

-- ---- of a watch
module _ (p : ℕ) (masks : List ℕ) (rule : Formula) (us : List Event) (s : List ℕ) (x : Started p masks rule us s) where
  within : (t : List ℕ) → Called s t → InTick s x.passes (started-laid p masks rule us s x) t
  within t c = started-in-tick p masks rule us s t x (called c)

  -- the calls keep the number of boards
  as_many : (t : List ℕ) → Called s t → boards_in t ≡ boards_in s
  as_many t c = boards-kept s x.passes (started-laid p masks rule us s x) t (within t c)

  abbrev Held : (t : List ℕ) → (ℕ → ℕ → Type 0) → Type 0
  Held t Given = Holding (boards_in s) t Given

  holding : {t : List ℕ} (c : Called s t) → Held t (Gave c)
  holding nothing =
      record {
        there = λ b v g. absurd g;
        marked = λ b v g. absurd g;
        sample = λ b v g. absurd g;
        given = λ b l f. absurd (omega (arith, x.unsampled b l));
      }
  holding (sampled {t = t} c board bits (Ok _) y) =
      let q = sample-passed t board bits (sym y.says) in
      subst (λ (u : List ℕ). Held u (λ b v. Gave c b v ⊎ (◌≡◌ {A = Result ⊤ Refusal} (Ok tt) (Ok tt) × (b ≡ board) × (v ≡ bits)))) (sym (y.leaves ∙ accepted-leaves _ _ t (sym y.says)))
      (holds_more (boards_in s) t (Gave c) (holding c) (as_many t c) board bits q)
  holding (sampled {t = t} c board bits (Err why) y) =
      subst (λ (u : List ℕ). Held u (Gave (sampled c board bits (Err why) y))) (sym (y.leaves ∙ refused-leaves why _ _ t y.says))
      (holds-refused (boards_in s) t (Gave c) (holding c) (Gave (sampled c board bits (Err why) y)) (λ b v g. inl g) (λ b v. ⊎_elim (λ g. g) (λ e. absurd (refused-not-done why e.0))))
  holding (stepped {t = t} c slot (Ok _) y) =
      let q = step-passed t slot (sym y.says) in
      let n = as_many t c in
      subst (λ (u : List ℕ). Held u (Gave c)) (sym (y.leaves ∙ accepted-leaves _ _ t (sym y.says)))
      (holds-still (boards_in s) t (Gave c) (holding c) (stepping.after t slot) (λ b l. stepping.step-flag t q.ok slot q.there b (omega arith))
      (λ b l. stepping.step-sample t q.ok slot q.there b (omega arith)))
  holding (stepped {t = t} c slot (Err why) y) = subst (λ (u : List ℕ). Held u (Gave c)) (sym (y.leaves ∙ refused-leaves why _ _ t y.says)) (holding c)
  holding (asked c answer y) = holding c
  holding (closed c second second' answer y) = holding c
  holding (load-refused {t = t} c file why y) = subst (λ (u : List ℕ). Held u (Gave c)) (sym (y.leaves ∙ refused-leaves why _ _ t y.says)) (holding c)
  holding (close-refused {t = t} c other why y) = subst (λ (u : List ℕ). Held u (Gave c)) (sym (y.leaves ∙ refused-leaves why _ _ t y.says)) (holding c)
  holding (write-refused {t = t} c ms q formula why y) = subst (λ (u : List ℕ). Held u (Gave c)) (sym (y.leaves ∙ refused-leaves why _ _ t y.says)) (holding c)
  holding (parse-refused c text answer r y) = subst (λ (u : List ℕ). Held u (Gave c)) (sym (parse-keeps y r)) (holding c)
  holding (print-refused {t = t} c formula why y) = subst (λ (u : List ℕ). Held u (Gave c)) (sym (y.leaves ∙ refused-leaves why _ _ t y.says)) (holding c)
  holding (central-refused {t = t} c formula event why y) = subst (λ (u : List ℕ). Held u (Gave c)) (sym (y.leaves ∙ refused-leaves why _ _ t y.says)) (holding c)
  holding (read-refused {t = t} c file ms masks' why y) = subst (λ (u : List ℕ). Held u (Gave c)) (sym (y.leaves-formula ∙ refused-leaves why _ _ t y.says)) (holding c)
  holding (capture-refused {t = t} c second second' events why y) = subst (λ (u : List ℕ). Held u (Gave c)) (sym (y.leaves ∙ refused-leaves why _ _ t y.says)) (holding c)
  holding (capture-second-refused {t = t} c other other' events why y) = subst (λ (u : List ℕ). Held u (Gave c)) (sym (y.leaves-second ∙ refused-leaves why _ _ t y.says)) (holding c)
  holding (report-refused c runs answer r y) = subst (λ (u : List ℕ). Held u (Gave c)) (sym (report-keeps y r)) (holding c)
  holding (add-refused {t = t} c night why y) = subst (λ (u : List ℕ). Held u (Gave c)) (sym (y.leaves ∙ refused-leaves why _ _ t y.says)) (holding c)
  holding (mend-refused {t = t} c recording marks marks' why y) = subst (λ (u : List ℕ). Held u (Gave c)) (sym (y.leaves ∙ refused-leaves why _ _ t y.says)) (holding c)
  holding (mend-marks-refused {t = t} c recording mended mended' why y) = subst (λ (u : List ℕ). Held u (Gave c)) (sym (y.leaves-marks ∙ refused-leaves why _ _ t y.says)) (holding c)

  -- where every board has sampled, each has what it was given
  pub sample-given : (t : List ℕ) (c : Called s t) → done_in t ≡ true → (b : ℕ) → b < boards_in s → (v : ℕ) × (Gave c b v) × (sample_in t b ≡ v)
  sample-given t c done b l =
      let n = as_many t c in
      let g = (holding c).given b l (done-boards t done b (omega arith)) in
      (g.0, g.1, (holding c).sample b g.0 g.1)

  pub given-saw : (t : List ℕ) (e : Event) (c : Called s t) → GivenBy masks e c → done_in t ≡ true → Saw t e
  given-saw t e c given done b l =
      let n = as_many t c in
      let g = sample-given t c done b (omega arith) in
      g.2 ∙ given b g.0 g.1 ∙ ap (λ (ms : List ℕ). sample_of ms e b) (sym ((within t c).masks-kept ∙ x.masks-are))

  pub saw-given : (t : List ℕ) (e : Event) (c : Called s t) → Saw t e → GivenBy masks e c
  saw-given t e c saw b v g =
      let n = as_many t c in
      let l = (holding c).there b v g in
      sym ((holding c).sample b v g) ∙ saw b (omega arith) ∙ ap (λ (ms : List ℕ). sample_of ms e b) ((within t c).masks-kept ∙ x.masks-are)
