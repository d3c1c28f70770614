-- Rows of the worked values as calls that their promises allow. `Part`: some calls of a tick under an event; `part-nothing` and the names
-- below it put one call after the other, accepted or refused, each by its row. `part-ticks` closes the tick and `load-watches` begins a
-- watch, both into a buffer of sevens (`buffer`). `ticks-give-same`: in two ticks under one event each board was given the same. Assumes nothing.
use Rattle.std.specs.Prelude.{Ok, Err}
use mathlib.Core.Path.{◌≡◌, refl, sym, ap, ap₂, ◌∙◌}
use mathlib.Core.Bool.{Bool, true, false}
use mathlib.Core.List.{List, []}
use mathlib.Core.Logic.{⊎_elim}
use Prim.Native.Nat.{ℕ}
use native.Mathlib.Omega.{arith}
use lib.ListN.{length, replicate, length-replicate}
use Rattle.answers.specs.declared.Refusal.{Refusal}
use Rattle.answers.specs.declared.Refusal.TheVariants.{Length, State}
use Rattle.answers.specs.declared.Verdict.{Verdict}
use Rattle.answers.specs.Said.{refused, left, number_of}
use Rattle.ltl.specs.Meaning.{Event}
use Rattle.network.specs.Scores.{sample_of}
use Rattle.rules.specs.RuleFile.{masks_in_file}
use Rattle.state.specs.declared.Form.{Form}
use Rattle.state.specs.declared.Form.TheVariants.{Plain}
use Rattle.state.specs.Form.{form_in, state_length}
use Rattle.state.specs.Clauses.{state_ok}
use Rattle.state.specs.Calls.{sample_says, step_says, close_says, loaded_state}
use Rattle.state.proofs.Forms.{form-at}
use Rattle.checked.proofs.Checked.{checked}
use Rattle.loading.specs.Load.{start_in, load_says}
use Rattle.capturing.proofs.Outcomes.{capture-length, capture-state}
use Rattle.stars.proofs.States.{LoadGives, SampleGives, StepGives, CloseGives, LoadRefuses, CloseRefuses, AskGives}
use Rattle.demand.specs.Called as call
use Rattle.demand.specs.Called.{Called, GivenBy, SameGiven, Ticked, Watched}
use Rattle.keeping.proofs.Refused.{refused-not-done, refused-leaves}

-- some buffer of a form's length
abbrev pub buffer : Form → List ℕ
buffer φ = replicate (state_length φ) 7

pub buffer-long : (φ : Form) → length (buffer φ) ≡ state_length φ
buffer-long φ = length-replicate {A = ℕ} (state_length φ) 7

-- no bytes have no form's length, so they are no state
none-long : (φ : Form) → 0 ≡ state_length φ → ⊥
none-long Plain e = omega arith

none-fail : state_ok [] ≡ false
none-fail = go (state_ok []) refl
  where
    go : (b : Bool) → state_ok [] ≡ b → b ≡ false
    go true ok = absurd (none-long (form_in []) (checked [] ok).long)
    go false e = refl

-- ---- a load into a state of the rows' form, whatever it held
load-leaves : (file t after : List ℕ) → length t ≡ state_length Plain → left (load_says file (state_length Plain)) (loaded_state Plain (masks_in_file file) (start_in file)) t ≡ after
    → left (load_says file (length t)) (loaded_state (form_in t) (masks_in_file file) (start_in file)) t ≡ after
load-leaves file t after long e =
    let form = form-at Plain t long in
    ap₂ (λ (n : ℕ) (φ : Form). left (load_says file n) (loaded_state φ (masks_in_file file) (start_in file)) t) long form ∙ e

-- a watch begins
pub load-watches : (file s : List ℕ) → LoadGives file s → Watched file [] s
load-watches file s g =
    let long = buffer-long Plain in
    call.begun {before = buffer Plain}
    (record { says = sym (ap (load_says file) long ∙ g.says); leaves = sym (load-leaves file (buffer Plain) s long (g.leaves (buffer Plain))) })

-- ---- a tick
-- calls from s to t, in which each board that was given something was given its part of the event
pub record Part (masks : List ℕ) (e : Event) (s t : List ℕ) : Type 0 where
  pub calls : Called s t
  pub given : GivenBy masks e calls

module _ (masks : List ℕ) (e : Event) (s : List ℕ) where
  pub part-nothing : Part masks e s s
  part-nothing = record { calls = call.nothing; given = λ b v g. absurd g }

module _ {masks : List ℕ} {e : Event} {s t : List ℕ} (p : Part masks e s t) where
  -- accepted calls: a board is given its part of the event, a slot is stepped
  pub part-samples : (board bits : ℕ) (t' : List ℕ) → bits ≡ sample_of masks e board → SampleGives t board bits t' → Part masks e s t'
  part-samples board bits t' is g =
      record {
        calls = call.sampled p.calls board bits (Ok tt) (record { says = sym g.says; leaves = sym g.leaves });
        given = λ b v. ⊎_elim (p.given b v) (λ x. x.2 ∙ is ∙ ap (sample_of masks e) (sym x.1));
      }

  pub part-steps : (slot : ℕ) (t' : List ℕ) → StepGives t slot t' → Part masks e s t'
  part-steps slot t' g = record { calls = call.stepped p.calls slot (Ok tt) (record { says = sym g.says; leaves = sym g.leaves }); given = p.given }

  -- refused ones
  pub part-sample-refused : (board bits : ℕ) (why : Refusal) → sample_says t board bits ≡ refused (number_of why) → Part masks e s t
  part-sample-refused board bits why r =
      record {
        calls = call.sampled p.calls board bits (Err why) (record { says = sym r; leaves = sym (refused-leaves why _ _ t (sym r)) });
        given = λ b v. ⊎_elim (p.given b v) (λ x. absurd (refused-not-done why x.0));
      }

  pub part-step-refused : (slot : ℕ) (why : Refusal) → step_says t slot ≡ refused (number_of why) → Part masks e s t
  part-step-refused slot why r =
      record { calls = call.stepped p.calls slot (Err why) (record { says = sym r; leaves = sym (refused-leaves why _ _ t (sym r)) }); given = p.given }

  -- a load into the state
  pub part-load-refused : length t ≡ state_length Plain → (file : List ℕ) (why : Refusal) → LoadRefuses file (number_of why) → Part masks e s t
  part-load-refused long file why r =
      let x = ap (load_says file) long in
      record { calls = call.load-refused p.calls file why (record { says = sym (x ∙ r.says); leaves = sym (load-leaves file t t long (r.leaves t)) }); given = p.given }

  -- a close of another state into it
  pub part-close-refused : (other : List ℕ) → length t ≡ state_length (form_in other) → (why : Refusal) → CloseRefuses other (number_of why) → Part masks e s t
  part-close-refused other long why r =
      let x = ap (close_says other) long in
      record { calls = call.close-refused p.calls other why (record { says = sym (x ∙ r.says); leaves = sym (r.leaves t long) }); given = p.given }

  -- a close of it into another buffer
  pub part-close-early : (why : Refusal) → CloseRefuses t (number_of why) → Part masks e s t
  part-close-early why r =
      let second = buffer (form_in t) in
      let long = buffer-long (form_in t) in
      let x = ap (close_says t) long in
      record { calls = call.closed p.calls second second (Err why) (record { says = sym (x ∙ r.says); leaves = sym (r.leaves second long) }); given = p.given }

  -- a capture of it with an empty second buffer, and one of an empty state with it as second buffer
  pub part-capture-refused : (events : List ℕ) → Part masks e s t
  part-capture-refused events = record { calls = call.capture-refused p.calls [] [] events Length (capture-length t [] events (none-long (form_in t))); given = p.given }

  pub part-capture-second-refused : (events : List ℕ) → length t ≡ state_length (form_in []) → Part masks e s t
  part-capture-second-refused events long =
      record { calls = call.capture-second-refused p.calls [] [] events State (capture-state [] t events long none-fail); given = p.given }

  -- asking
  pub part-asks : (verdict : Verdict) (ticks slots nodes : ℕ) → AskGives t verdict ticks slots nodes → Part masks e s t
  part-asks verdict ticks slots nodes a =
      record { calls = call.asked p.calls (Ok (record { verdict = verdict; ticks = ticks; slots = slots; nodes = nodes })) (record { says = sym a }); given = p.given }

  -- ---- the tick is closed
  abbrev pub part-ticks : (s' : List ℕ) → CloseGives t s' → Ticked masks s e s'
  part-ticks s' g =
      let second = buffer (form_in t) in
      let long = buffer-long (form_in t) in
      let x = ap (close_says t) long in
      record { last = t; calls = p.calls; given = p.given; second = second; closes = record { says = sym (x ∙ g.says); leaves = sym (g.leaves second long) } }

pub ticks-give-same : {masks : List ℕ} {e : Event} {s s' r r' : List ℕ} (x : Ticked masks s e s') (y : Ticked masks r e r') → SameGiven x.calls y.calls
ticks-give-same x y b v w g h = x.given b v g ∙ sym (y.given b w h)
