-- The scope's example as a watch by the calls' promises: a until b over two boards, first a, then b. Each call is allowed by its promise,
-- with some that are refused in between (`until-watched`); ask tells the verdict true (`until-told`), so that the rule is met whatever comes
-- then (`until-met`). The rows of the worked values are all that is computed here but what the boards have seen. Assumes nothing.
use Rattle.std.specs.Prelude.{Result, Ok, Err}
use Rattle.answers.specs.declared.Refusal.{Refusal}
use Rattle.telling.specs.declared.Standing.{Standing}
use mathlib.Core.Path.{◌≡◌, refl, sym, ap, ◌∙◌, subst}
use mathlib.Core.List.{List, [], ◌∷◌}
use Prim.Native.Nat.{ℕ}
use lib.ListN.{get_or}
use Rattle.lists.specs.Listed.{listed}
use Rattle.answers.specs.declared.Refusal.TheVariants.{Outside, Unready}
use Rattle.answers.specs.declared.Verdict.TheVariants.{True}
use Rattle.answers.specs.Said.{Said}
use Rattle.answers.proofs.Answers.{verdict-injective}
use Rattle.le.specs.Le.{le, le_at}
use Rattle.ltl.specs.Meaning.{Event, Trace, Satisfies, continued}
use Rattle.network.specs.Scores.{sample_of}
use Rattle.rules.specs.RuleFile.{masks_in_file, mask_bytes, file_of}
use Rattle.telling.specs.Ask.{Asks}
use Rattle.asking.proofs.Determined.{asks-determined}
use Rattle.loading.specs.Load.{rule_in}
use Rattle.stars.proofs.States.{StepGives}
use Rattle.stars.proofs.Split.{rule_file, unsampled, half_sampled, sampled, as_laid, half_stepped, stepped_under_a, stepped_under_b, finished, RootWaits, split}
use Rattle.demand.specs.Called.{nothing, Ticked, Watched, ticked}
use Rattle.demand.specs.Claims.{standing}
use Rattle.demand.proofs.Demand.{demanded}
use Rattle.demand.proofs.Rows.{load-watches, Part, part-nothing, part-samples, part-steps, part-sample-refused, part-step-refused, part-ticks}

-- the file's bytes
abbrev pub until_file : List ℕ
until_file =
    1 ∷ 0 ∷ 2 ∷ 0 ∷ 2 ∷ 0 ∷ 3 ∷ 0 ∷ 16 ∷ 0 ∷ 32 ∷ 0 ∷ 35 ∷ 0 ∷ 0 ∷ 0 ∷ 1 ∷ 0 ∷ 0 ∷ 0 ∷ 0 ∷ 0 ∷ 0 ∷ 0 ∷ 2 ∷ 0 ∷ 0 ∷ 0 ∷ 0 ∷ 0 ∷ 0 ∷ 0 ∷ 6 ∷ 64 ∷ 65 ∷ []

-- ---- the watch
-- the masks by which the boards' parts are taken
abbrev masks : List ℕ
masks = masks_in_file rule_file

-- board 1 is given a bit outside its mask, and slot 0 is stepped too early; else as the run program does it
tick-calls : (ticks x y : ℕ) (half last : List ℕ) (e : Event) → x ≡ sample_of masks e 0 → y ≡ sample_of masks e 1
    → RootWaits x y → StepGives (as_laid ticks (sampled x y)) 1 half → StepGives half 0 last → Part masks e (as_laid ticks unsampled) last
tick-calls ticks x y half last e zeroth first r a b =
    let c₁ = part-sample-refused (part-nothing masks e (as_laid ticks unsampled)) 1 1 Outside (split.outside ticks) in
    let c₂ = part-samples c₁ 0 x (as_laid ticks (half_sampled x)) zeroth (r.first ticks) in
    let c₃ = part-samples c₂ 1 y (as_laid ticks (sampled x y)) first (r.second ticks) in
    let c₄ = part-step-refused c₃ 0 Unready (r.early ticks) in
    let c₅ = part-steps c₄ 1 half a in
    part-steps c₅ 0 last b

tick-a : Ticked masks (as_laid 0 unsampled) 1 (as_laid 1 unsampled)
unfolding le le_at listed mask_bytes file_of sample_of
tick-a =
    part-ticks (tick-calls 0 1 0 (half_stepped 0 (sampled 1 0) 0) stepped_under_a 1 refl refl split.under-a split.a-held split.a-root) (as_laid 1 unsampled)
    split.a-closes

tick-b : Ticked masks (as_laid 1 unsampled) 2 finished
unfolding le le_at listed mask_bytes file_of sample_of
tick-b =
    part-ticks (tick-calls 1 0 2 (half_stepped 1 (sampled 0 2) 1) stepped_under_b 2 refl refl split.under-b split.b-held split.b-root) finished split.b-closes

pub until-watched : Watched until_file (1 ∷ 2 ∷ []) finished
until-watched =
    let begun = load-watches rule_file (as_laid 0 unsampled) split.loads in
    subst (λ (file : List ℕ). Watched file (1 ∷ 2 ∷ []) finished) split.file (ticked (ticked begun 1 tick-a) 2 tick-b)

-- ---- what ask tells of it, and what that means
pub until-told : (answer : Result Standing Refusal) → Asks finished answer → answer ≡ Ok (record { verdict = True; ticks = 2; slots = 1; nodes = 1 })
until-told answer a = asks-determined finished answer _ a (record { says = sym split.b-stands })

pub until-met : (w : Trace) → Satisfies (continued (1 ∷ 2 ∷ []) w) (rule_in until_file)
until-met =
    let d = demanded until-watched in
    let e = (d.asks finished nothing).allowed.says ∙ split.b-stands in
    d.when_true (verdict-injective (standing until_file (1 ∷ 2 ∷ []) finished).verdict True (ap (λ (a : Said). get_or a.values 0 0) e))
