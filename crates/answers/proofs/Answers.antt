-- Laws of answers, for every call. `number-injective`: no two refusals have one number; `left-refused`, `left-accepted`: what a
-- lent buffer holds afterwards; `order-ok`, `order-refused`: one check of a list of checks. Assumes nothing.
use Rattle.std.specs.Prelude.{Result, Ok, Err, ⊤}
use mathlib.Core.Path.{◌≡◌, refl, sym, ap, ◌∙◌}
use mathlib.Core.Bool.{Bool, true, false}
use mathlib.Core.List.{List, [], ◌∷◌}
use Prim.Native.Nat.{ℕ, ◌<◌}
use native.Mathlib.Omega.{arith}
use lib.ListN.{get_or}
use borrow.Author.Tests.{ne_eqb}
use Rattle.lists.specs.Tests.{pick}
use Rattle.answers.specs.declared.Refusal.{Refusal}
use Rattle.answers.specs.declared.Refusal.TheVariants.{Length, Version, Range, Offset, Masks, Formula, Slots, Nodes, State, Finished, Nowhere, Outside, Already, Unready, Ticks, Text, Run, Clash}
use Rattle.answers.specs.declared.Verdict.{Verdict}
use Rattle.answers.specs.declared.Verdict.TheVariants.{False, True, Pending}
use Rattle.answers.specs.Said.{Said, accepted, refused, left, number_of, verdict_number, said_outcome, Check, check, in_order}

-- ---- the refusals by number; what stands at a number that none has is not looked at
named : List Refusal
named =
    Length ∷ Length ∷ Version ∷ Range ∷ Offset ∷ Masks ∷ Formula ∷ Slots ∷ Nodes ∷ State ∷ Finished ∷ Nowhere ∷ Outside ∷ Already ∷ Unready ∷ Ticks ∷ Text ∷ Length ∷ Length ∷ Run ∷ Clash ∷ []

-- a refusal stands at its number, and no number is 0
record Numbered (why : Refusal) : Type 0 where
  pub found : get_or named (number_of why) Length ≡ why
  pub some : 0 < number_of why

numbered : (why : Refusal) → Numbered why
unfolding named
numbered Length = record { found = refl; some = omega arith }
numbered Version = record { found = refl; some = omega arith }
numbered Range = record { found = refl; some = omega arith }
numbered Offset = record { found = refl; some = omega arith }
numbered Masks = record { found = refl; some = omega arith }
numbered Formula = record { found = refl; some = omega arith }
numbered Slots = record { found = refl; some = omega arith }
numbered Nodes = record { found = refl; some = omega arith }
numbered State = record { found = refl; some = omega arith }
numbered Finished = record { found = refl; some = omega arith }
numbered Nowhere = record { found = refl; some = omega arith }
numbered Outside = record { found = refl; some = omega arith }
numbered Already = record { found = refl; some = omega arith }
numbered Unready = record { found = refl; some = omega arith }
numbered Ticks = record { found = refl; some = omega arith }
numbered Text = record { found = refl; some = omega arith }
numbered Run = record { found = refl; some = omega arith }
numbered Clash = record { found = refl; some = omega arith }

pub number-injective : (a b : Refusal) → number_of a ≡ number_of b → a ≡ b
number-injective a b e = sym (numbered a).found ∙ ap (λ (n : ℕ). get_or named n Length) e ∙ (numbered b).found

pub number-some : (why : Refusal) → 0 < number_of why
number-some why = (numbered why).some

pub verdict-injective : (a b : Verdict) → verdict_number a ≡ verdict_number b → a ≡ b
verdict-injective a b e = sym (there a) ∙ ap (λ (n : ℕ). get_or (False ∷ True ∷ Pending ∷ []) n Pending) e ∙ there b
  where
    there : (v : Verdict) → get_or (False ∷ True ∷ Pending ∷ []) (verdict_number v) Pending ≡ v
    there False = refl
    there True = refl
    there Pending = refl

pub said_outcome-injective : (a b : Result ⊤ Refusal) → said_outcome a ≡ said_outcome b → a ≡ b
said_outcome-injective (Err v) (Err w) e = ap Err (number-injective v w (ap (λ (s : Said). s.number) e))
said_outcome-injective (Err v) (Ok _) e = let z = number-some v in let y = ap (λ (s : Said). s.number) e in absurd (omega arith)
said_outcome-injective (Ok _) (Err w) e = let z = number-some w in let y = ap (λ (s : Said). s.number) e in absurd (omega arith)
said_outcome-injective (Ok _) (Ok _) e = refl

-- ---- what a lent buffer holds
pub left-refused : (why : Refusal) (x y : List ℕ) → left (refused (number_of why)) x y ≡ y
unfolding left pick
left-refused why x y = let s = number-some why in rw (ne_eqb (number_of why) 0 (λ e. omega arith))

pub left-accepted : (vs x y : List ℕ) → left (accepted vs) x y ≡ x
unfolding left pick
left-accepted vs x y = refl

-- ---- checks in order
pub order-ok : (n : ℕ) (b : Bool) (cs : List Check) (s : Said) → b ≡ true → in_order (check n b ∷ cs) s ≡ in_order cs s
unfolding in_order pick
order-ok n b cs s e = rw e

pub order-refused : (n : ℕ) (b : Bool) (cs : List Check) (s : Said) → b ≡ false → in_order (check n b ∷ cs) s ≡ refused n
unfolding in_order pick
order-refused n b cs s e = rw e

pub order-done : (s : Said) → in_order [] s ≡ s
unfolding in_order
order-done s = refl

-- every check of a list holds
abbrev pub Passed : List Check → Type 0
Passed [] = Unit {0}
Passed (c ∷ cs) = (c.ok ≡ true) × Passed cs

-- no check of a list refuses with 0
abbrev pub Refusing : List Check → Type 0
Refusing [] = Unit {0}
Refusing (c ∷ cs) = (0 < c.number) × Refusing cs

-- an accepted call has passed its checks
pub order-passed : (cs : List Check) (s : Said) → Refusing cs → (in_order cs s).number ≡ 0 → Passed cs
unfolding in_order pick
order-passed [] s n e = tt
order-passed (c ∷ cs) s n e = go c.ok refl e (λ q. order-passed cs s n.1 q)
  where
    go : (b : Bool) → c.ok ≡ b → (pick b (in_order cs s) (refused c.number)).number ≡ 0 → ((in_order cs s).number ≡ 0 → Passed cs) → (c.ok ≡ true) × Passed cs
    go true q e rest = (q, rest e)
    go false q e rest = let z = n.0 in absurd (omega arith)
