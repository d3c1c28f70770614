-- A watch by the calls' promises that ends with false: always a, or always b, over two boards, under both, then a, then none. A slot lives
-- through the first close and vanishes in the second. Loads, closes and captures that are refused stand among the calls
-- (`always-watched`). The first tick is made in two orders, `samples-first` and `slot-first`, which leave the same bytes; by the third demand
-- so does every other order (`any_order`). Ask tells the verdict false (`always-told`), so that the rule is not met whatever comes then
-- (`always-unmet`). The rows of the worked values are all that is computed here but the boards' parts of the events. Assumes nothing.
use Rattle.std.specs.Prelude.{Result, Ok, Err}
use Rattle.answers.specs.declared.Refusal.{Refusal}
use Rattle.telling.specs.declared.Standing.{Standing}
use mathlib.Core.Path.{◌≡◌, refl, sym, ap, ◌∙◌, subst}
use mathlib.Core.List.{List, [], ◌∷◌}
use Prim.Native.Nat.{ℕ}
use lib.ListN.{get_or}
use Rattle.lists.specs.Listed.{listed}
use Rattle.answers.specs.declared.Refusal.TheVariants.{Length, Version, Unready}
use Rattle.answers.specs.declared.Verdict.TheVariants.{False, Pending}
use Rattle.answers.specs.Said.{Said}
use Rattle.answers.proofs.Answers.{verdict-injective}
use Rattle.le.specs.Le.{le, le_at}
use Rattle.ltl.specs.Meaning.{Trace, Satisfies, continued}
use Rattle.network.specs.Scores.{sample_of}
use Rattle.rules.specs.RuleFile.{masks_in_file, mask_bytes, file_of}
use Rattle.state.specs.declared.Form.TheVariants.{Plain}
use Rattle.state.specs.Form.{form_of}
use Rattle.state.proofs.Forms.{formed-at}
use Rattle.telling.specs.Ask.{Asks}
use Rattle.asking.proofs.Determined.{asks-determined}
use Rattle.loading.specs.Load.{rule_in}
use Rattle.stars.proofs.Split.{unsampled, half_sampled, sampled}
use Rattle.stars.proofs.Surviving.{rule_file, other_version, other_half, as_laid, held_lives, both_live, held_fails, root_lives, alone, root_fails, finished, surviving}
use Rattle.demand.specs.Called.{nothing, Ticked, Watched, ticked}
use Rattle.demand.specs.Claims.{standing}
use Rattle.demand.proofs.Demand.{demanded}
use Rattle.demand.proofs.Rows.{load-watches, Part, part-nothing, part-samples, part-steps, part-step-refused, part-load-refused, part-close-refused, part-close-early, part-capture-refused, part-capture-second-refused, part-asks, part-ticks, ticks-give-same}

-- the file's bytes
abbrev pub always_file : List ℕ
always_file =
    1 ∷ 0 ∷ 2 ∷ 0 ∷ 2 ∷ 0 ∷ 5 ∷ 0 ∷ 16 ∷ 0 ∷ 32 ∷ 0 ∷ 37 ∷ 0 ∷ 0 ∷ 0 ∷ 1 ∷ 0 ∷ 0 ∷ 0 ∷ 0 ∷ 0 ∷ 0 ∷ 0 ∷ 2 ∷ 0 ∷ 0 ∷ 0 ∷ 0 ∷ 0 ∷ 0 ∷ 0 ∷ 4 ∷ 8 ∷ 64 ∷ 8 ∷ 65 ∷ []

-- the masks by which the boards' parts are taken
abbrev masks : List ℕ
masks = masks_in_file rule_file

-- the watch as it begins
abbrev start : List ℕ
start = as_laid 0 unsampled

begun : Watched rule_file [] start
begun = load-watches rule_file start surviving.loads

-- ---- the first tick, under both, in two orders
-- board 0 samples, then board 1, then the slots are stepped. In between an empty file is loaded into the state, slot 0 is stepped and the
-- tick closed too early, the state as it began is closed into this one, and events are captured with this one as state and an empty second
-- buffer, and with an empty state and this one as second buffer: all are refused.
pub samples-first-calls : Part masks 3 start both_live
unfolding le le_at listed mask_bytes file_of sample_of form_of
samples-first-calls =
    let c₁ = part-samples (part-nothing masks 3 start) 0 1 (as_laid 0 (half_sampled 1)) refl surviving.both-0 in
    let c₂ = part-load-refused c₁ refl [] Length surviving.no_bytes in
    let c₃ = part-samples c₂ 1 2 (as_laid 0 (sampled 1 2)) refl surviving.both-1 in
    let c₄ = part-step-refused c₃ 0 Unready surviving.both-waits in
    let c₅ = part-steps c₄ 1 (held_lives (sampled 1 2)) surviving.both-held in
    let c₆ = part-close-early c₅ Unready surviving.both-early in
    let c₇ = part-close-refused c₆ start (formed-at Plain start refl) Unready surviving.at_once in
    let c₈ = part-capture-refused c₇ (3 ∷ []) in
    let c₉ = part-capture-second-refused c₈ (3 ∷ []) refl in
    part-steps c₉ 0 both_live surviving.both-root

abbrev pub samples-first : Ticked masks start 3 (as_laid 1 unsampled)
samples-first = part-ticks samples-first-calls (as_laid 1 unsampled) surviving.both-closes

-- board 1 samples and its slot is stepped, and only then board 0 samples. In between a file of another version is loaded into the state, and
-- slot 0 is stepped and the tick closed too early: all are refused.
pub slot-first-calls : Part masks 3 start both_live
unfolding le le_at listed mask_bytes file_of sample_of
slot-first-calls =
    let c₁ = part-samples (part-nothing masks 3 start) 1 2 (as_laid 0 (other_half 2)) refl surviving.other-1 in
    let c₂ = part-steps c₁ 1 (held_lives (other_half 2)) surviving.other-held in
    let c₃ = part-load-refused c₂ refl other_version Version surviving.no-version in
    let c₄ = part-step-refused c₃ 0 Unready surviving.other-waits in
    let c₅ = part-close-early c₄ Unready surviving.other-early in
    let c₆ = part-samples c₅ 0 1 (held_lives (sampled 1 2)) refl surviving.other-0 in
    part-steps c₆ 0 both_live surviving.both-root

abbrev pub slot-first : Ticked masks start 3 (as_laid 1 unsampled)
slot-first = part-ticks slot-first-calls (as_laid 1 unsampled) surviving.both-closes

-- by the third demand a tick under this event leaves these bytes, whatever was called in it and in whatever order
pub any_order : (s' : List ℕ) → Ticked masks start 3 s' → s' ≡ as_laid 1 unsampled
any_order s' x = (demanded begun).same_bytes 3 3 s' (as_laid 1 unsampled) x samples-first (ticks-give-same x samples-first)

-- ---- the second tick, under a, and the third, under none
tick-a : Ticked masks (as_laid 1 unsampled) 1 (alone unsampled)
unfolding le le_at listed mask_bytes file_of sample_of
tick-a =
    let c₁ = part-samples (part-nothing masks 1 (as_laid 1 unsampled)) 0 1 (as_laid 1 (half_sampled 1)) refl surviving.a_0 in
    let c₂ = part-samples c₁ 1 0 (as_laid 1 (sampled 1 0)) refl surviving.a_1 in
    let c₃ = part-steps c₂ 1 held_fails surviving.a-held in
    let c₄ = part-close-early c₃ Unready surviving.a-early in
    let c₅ = part-steps c₄ 0 root_lives surviving.a-root in
    part-ticks c₅ (alone unsampled) surviving.a-closes

tick-none : Ticked masks (alone unsampled) 0 finished
unfolding le le_at listed mask_bytes file_of sample_of
tick-none =
    let c₁ = part-samples (part-nothing masks 0 (alone unsampled)) 0 0 (alone (half_sampled 0)) refl surviving.none-0 in
    let c₂ = part-samples c₁ 1 0 (alone (sampled 0 0)) refl surviving.none_1 in
    let c₃ = part-steps c₂ 0 root_fails surviving.none-root in
    let c₄ = part-asks c₃ Pending 2 1 5 surviving.none-unclosed in
    part-ticks c₄ finished surviving.none-closes

pub always-watched : Watched always_file (3 ∷ 1 ∷ 0 ∷ []) finished
always-watched =
    subst (λ (file : List ℕ). Watched file (3 ∷ 1 ∷ 0 ∷ []) finished) surviving.file (ticked (ticked (ticked begun 3 samples-first) 1 tick-a) 0 tick-none)

-- ---- what ask tells of it, and what that means
pub always-told : (answer : Result Standing Refusal) → Asks finished answer → answer ≡ Ok (record { verdict = False; ticks = 3; slots = 1; nodes = 1 })
always-told answer a = asks-determined finished answer _ a (record { says = sym surviving.none-stands })

pub always-unmet : (w : Trace) → Satisfies (continued (3 ∷ 1 ∷ 0 ∷ []) w) (rule_in always_file) → ⊥
always-unmet =
    let d = demanded always-watched in
    let e = (d.asks finished nothing).allowed.says ∙ surviving.none-stands in
    d.when_false (verdict-injective (standing always_file (3 ∷ 1 ∷ 0 ∷ []) finished).verdict False (ap (λ (a : Said). get_or a.values 0 0) e))
