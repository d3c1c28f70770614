-- Two ways through a tick by the calls' promises, by which the boards were given the same samples: they close to one network
-- (`networks-same`), from one state to the same bytes (`bytes_same`; under one event `event-same`), and where the close is all that is left it
-- answers and leaves the same (`close-same`). Assumes nothing.
use Rattle.std.specs.Prelude.{Result, Ok, Err, ⊤}
use Rattle.answers.specs.declared.Refusal.{Refusal}
use mathlib.Core.Path.{◌≡◌, refl, sym, ap, ◌∙◌, subst}
use mathlib.Core.Bool.{true}
use mathlib.Core.List.{List}
use Prim.Native.Nat.{ℕ, ◌<◌}
use native.Mathlib.Omega.{arith}
use lib.ListN.{length}
use Rattle.answers.specs.Said.{left}
use Rattle.answers.proofs.Answers.{said_outcome-injective}
use Rattle.ltl.specs.Formula.{Formula}
use Rattle.ltl.specs.Meaning.{Event}
use Rattle.rules.specs.RuleFile as rule-file
use Rattle.state.specs.Fields.{boards_in, sample_in, masks_in}
use Rattle.state.specs.Calls.{done_in}
use Rattle.state.proofs.Listed.{masks-length}
use Rattle.closing.specs.Close.{Closes}
use Rattle.loading.specs.Load.{start_in}
use Rattle.watching.specs.Watch.{StateWatch, Tick}
use Rattle.watching.proofs.Started.{Started}
use Rattle.watching.proofs.Ticked.{watch-started, close_passed}
use Rattle.watching.proofs.Agreeing.{answers_agree, nexts-agree}
use Rattle.watching.proofs.Demand.{networks-agree, ticks-agree}
use Rattle.demand.specs.Called.{Called, SameGiven, Ticked, Watched, ticked}
use Rattle.demand.specs.Claims.{OneNetwork}
use Rattle.demand.proofs.Calls.{called}
use Rattle.demand.proofs.Given.{sample-given}
use Rattle.demand.proofs.Watches.{tick-of, watched}

-- an accepted close has found the tick done
close-done : (t second s' : List ℕ) → Closes t second s' (Ok tt) → done_in t ≡ true
close-done t second s' x = (close_passed t _ (sym x.says)).done

module _ (file : List ℕ) (us : List Event) (s : List ℕ) (w : Watched file us s) where
  abbrev p : ℕ
  p = rule-file.propositions_in_file file

  abbrev masks : List ℕ
  masks = rule-file.masks_in_file file

  abbrev rule : Formula
  rule = start_in file

  started : Started p masks rule us s
  started = watch-started p masks rule (watched w)

  masks-are : masks_in s ≡ masks
  masks-are = started.masks-are

  abbrev tick : {e : Event} {a : List ℕ} → Ticked masks s e a → Tick s e a
  tick x = tick-of p masks rule us s (watched w) x

  -- where all boards have sampled, boards that were given the same have equal samples, also in two watches with one network
  samples-same : (other : List ℕ) (vs : List Event) (r : List ℕ) (v : Watched other vs r) → masks_in s ≡ masks_in r → (t u : List ℕ) (c : Called s t) (d : Called r u)
      → done_in t ≡ true → done_in u ≡ true → SameGiven c d → (b : ℕ) → b < boards_in s → sample_in t b ≡ sample_in u b
  samples-same other vs r v one t u c d done-t done-u same b l =
      let n = ap length one in
      let z = watch-started (rule-file.propositions_in_file other) (rule-file.masks_in_file other) (start_in other) (watched v) in
      let g = sample-given p masks rule us s started t c done-t b l in
      let k = sample-given (rule-file.propositions_in_file other) (rule-file.masks_in_file other) (start_in other) vs r z u d done-u b (omega (arith, masks-length s, masks-length r)) in
      g.2 ∙ same b g.0 k.0 g.1 k.1 ∙ sym k.2

  pub bytes_same : (d e : Event) (a b : List ℕ) (x : Ticked masks s d a) (y : Ticked masks s e b) → SameGiven x.calls y.calls → a ≡ b
  bytes_same d e a b x y same =
      ticks-agree p masks rule us s (watched w) d e a b (tick x) (tick y)
      (samples-same file us s w refl x.last y.last x.calls y.calls (close-done x.last _ a x.closes) (close-done y.last _ b y.closes) same)

  -- the boards were given the same where they were given their parts of one event
  pub event-same : (e : Event) (a b : List ℕ) → Ticked masks s e a → Ticked masks s e b → a ≡ b
  event-same e a b x y = bytes_same e e a b x y (λ c v u g k. x.given c v g ∙ sym (y.given c u k))

  pub close-same : (t u : List ℕ) (c : Called s t) (d : Called s u) → done_in t ≡ true → done_in u ≡ true → SameGiven c d
      → (second a b : List ℕ) (x y : Result ⊤ Refusal) → Closes t second a x → Closes u second b y → (x ≡ y) × (a ≡ b)
  close-same t u c d done-t done-u same second a b x y k l =
      let boards = samples-same file us s w refl t u c d done-t done-u same in
      let says = answers_agree masks p rule us s started p rule us s started refl t u (called c) (called d) done-t done-u boards refl refl (length second) in
      let next = nexts-agree masks p rule us s started p rule us s started refl t u (called c) (called d) done-t done-u boards refl refl in
      (said_outcome-injective x y (k.says ∙ says ∙ sym l.says), k.leaves ∙ (λ i. left (says i) (next i) second) ∙ sym l.leaves)

pub networks-same : (file : List ℕ) (us : List Event) (s : List ℕ) → Watched file us s → (other : List ℕ) (vs : List Event) (r : List ℕ) → Watched other vs r → OneNetwork s r
    → (d e : Event) (a b : List ℕ) (x : Ticked (rule-file.masks_in_file file) s d a) (y : Ticked (rule-file.masks_in_file other) r e b) → SameGiven x.calls y.calls → OneNetwork a b
networks-same file us s w other vs r v one d e a b x y same =
    let m : rule-file.masks_in_file other ≡ rule-file.masks_in_file file = sym (masks-are other vs r v) ∙ sym one.masks ∙ masks-are file us s w in
    let z = subst (λ (ms : List ℕ). StateWatch (rule-file.propositions_in_file other) ms (start_in other) vs r) m (watched v) in
    record {
      masks = masks-are file _ a (ticked w d x) ∙ sym m ∙ sym (masks-are other _ b (ticked v e y));
      slots = networks-agree (rule-file.propositions_in_file file) (rule-file.masks_in_file file) (start_in file) us s (watched w) (rule-file.propositions_in_file other) (start_in other) vs r z one.slots d e a b
          (tick file us s w x) (tick other vs r v y)
          (samples-same file us s w other vs r v one.masks x.last y.last x.calls y.calls (close-done x.last _ a x.closes) (close-done y.last _ b y.closes) same);
    }
