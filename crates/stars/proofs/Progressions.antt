-- The worked values of a rule that is progressed in one place: the table's rows, `Progressions`, and that they hold, `progressions`.
-- Each is computed from the definitions that the promise of `central` cites. a and b are 64 and 65. Assumes nothing.
use mathlib.Core.Path.{◌≡◌, refl}
use mathlib.Core.List.{List, [], ◌∷◌}
use Prim.Native.Nat.{ℕ}
use lib.ListN.{length}
use Rattle.limits.specs.Limits.{central_nodes_most}
use Rattle.lists.specs.Tests.{pick, both, either, bit}
use Rattle.answers.specs.Said.{accepted, in_order, verdict_number}
use Rattle.answers.specs.declared.Verdict.{Verdict}
use Rattle.answers.specs.declared.Verdict.TheVariants.{False, True, Pending}
use Rattle.kinds.specs.Kinds.{kind_of}
use Rattle.ltl.specs.Formula.{encode, same_bool, same_leaf, same, leaf_over, over}
use Rattle.ltl.specs.Meaning.{Event}
use Rattle.ltl.specs.Progression.{is_constant, negated, member, joined, progressed, progressed_over}
use Rattle.ltl.specs.Decode.{is_formula, formula_of}
use Rattle.folded.specs.Folding.{is_either, folded_one, folded_two}
use Rattle.central.specs.Central.{central_lengths_ok, start_of, central_says}

-- progressing the bytes of a formula over one event gives the bytes of another: what the call answers, and what it leaves
pub record Gives (before : List ℕ) (event : Event) (verdict : Verdict) (after : List ℕ) : Type 0 where
  pub says : central_says before event central_nodes_most ≡ accepted (verdict_number verdict ∷ length after ∷ [])
  pub leaves : encode (progressed event (start_of before)) ≡ after

pub record Progressions : Type 0 where
  -- a until b: under a it stays, under b it is true, under neither false
  pub until-a : Gives (6 ∷ 64 ∷ 65 ∷ []) 1 Pending (6 ∷ 64 ∷ 65 ∷ [])
  pub until-b : Gives (6 ∷ 64 ∷ 65 ∷ []) 2 True (1 ∷ [])
  pub until_none : Gives (6 ∷ 64 ∷ 65 ∷ []) 0 False (0 ∷ [])
  -- always eventually a
  pub response-first : Gives (8 ∷ 7 ∷ 64 ∷ []) 0 Pending (3 ∷ 7 ∷ 64 ∷ 8 ∷ 7 ∷ 64 ∷ [])
  pub response-again : Gives (3 ∷ 7 ∷ 64 ∷ 8 ∷ 7 ∷ 64 ∷ []) 0 Pending (3 ∷ 7 ∷ 64 ∷ 8 ∷ 7 ∷ 64 ∷ [])
  pub response-met : Gives (3 ∷ 7 ∷ 64 ∷ 8 ∷ 7 ∷ 64 ∷ []) 1 Pending (8 ∷ 7 ∷ 64 ∷ [])
  -- next true; next not not a
  pub next-true : (e : Event) → Gives (5 ∷ 1 ∷ []) e True (1 ∷ [])
  pub next-double : (e : Event) → Gives (5 ∷ 2 ∷ 2 ∷ 64 ∷ []) e Pending (2 ∷ 2 ∷ 64 ∷ [])
  -- always true is true; without folding it would stay, for ever
  pub always-true : (e : Event) → Gives (8 ∷ 1 ∷ []) e True (1 ∷ [])
  pub for-ever : (us : List Event) → encode (progressed_over us (formula_of (8 ∷ 1 ∷ []))) ≡ 8 ∷ 1 ∷ []
  -- true until a stays as it is; a constant below a temporal operator is folded
  pub true-until : Gives (6 ∷ 1 ∷ 64 ∷ []) 0 Pending (6 ∷ 1 ∷ 64 ∷ [])
  pub always-both : Gives (8 ∷ 3 ∷ 64 ∷ 1 ∷ []) 1 Pending (8 ∷ 64 ∷ [])
  -- a tautology that stays pending
  pub tautology : Gives (4 ∷ 7 ∷ 64 ∷ 8 ∷ 2 ∷ 64 ∷ []) 0 Pending (4 ∷ 7 ∷ 64 ∷ 8 ∷ 2 ∷ 64 ∷ [])
  -- true or a, after one tick
  pub or-true : (e : Event) → Gives (4 ∷ 1 ∷ 64 ∷ []) e True (1 ∷ [])

over-all : (us : List Event) → encode (progressed_over us (formula_of (8 ∷ 1 ∷ []))) ≡ 8 ∷ 1 ∷ []
unfolding pick both either bit same_bool same_leaf same is_constant member joined kind_of
over-all [] = refl
over-all (e ∷ us) = over-all us

pub progressions : Progressions
unfolding pick both either bit in_order kind_of same_bool same_leaf same leaf_over over is_formula is_constant negated member joined central_lengths_ok central_says is_either folded_one folded_two
progressions =
    record {
      until-a = record { says = refl; leaves = refl };
      until-b = record { says = refl; leaves = refl };
      until_none = record { says = refl; leaves = refl };
      response-first = record { says = refl; leaves = refl };
      response-again = record { says = refl; leaves = refl };
      response-met = record { says = refl; leaves = refl };
      next-true = λ e. record { says = refl; leaves = refl };
      next-double = λ e. record { says = refl; leaves = refl };
      always-true = λ e. record { says = refl; leaves = refl };
      for-ever = over-all;
      true-until = record { says = refl; leaves = refl };
      always-both = record { says = refl; leaves = refl };
      tautology = record { says = refl; leaves = refl };
      or-true = λ e. record { says = refl; leaves = refl };
    }
