-- Verdicts in the order of what they may become: pending first. `NoLater v w` is that w comes no later than v and is no other. Not, and, or
-- keep that order (`opposite-later`, `together-later`). Assumes nothing.
use mathlib.Core.Path.{◌≡◌, refl, sym, ap, subst}
use mathlib.Core.Bool.{Bool, true, false}
use Rattle.kinds.specs.declared.Join.{Join}
use Rattle.kinds.specs.declared.Join.TheVariants.{And, Or}
use Rattle.answers.specs.declared.Verdict.{Verdict}
use Rattle.answers.specs.declared.Verdict.TheVariants.{False, True, Pending}
use Rattle.ltl.proofs.Verdicts.{known, opposite, together}

-- an or with an and of the same
pub together-absorb : (v w : Verdict) → together Or w (together And v w) ≡ w
unfolding together
together-absorb False False = refl
together-absorb False True = refl
together-absorb False Pending = refl
together-absorb True False = refl
together-absorb True True = refl
together-absorb True Pending = refl
together-absorb Pending False = refl
together-absorb Pending True = refl
together-absorb Pending Pending = refl

-- ---- the second verdict comes no later than the first and is no other: the first is pending, or both are one
pub data NoLater : Verdict → Verdict → Type 0 where
  still : {w : Verdict} → NoLater Pending w
  told : {v w : Verdict} → v ≡ w → NoLater v w

pub later_trans : {u v w : Verdict} → NoLater u v → NoLater v w → NoLater u w
later_trans still q = still
later_trans {w = w} (told e) q = subst (λ (x : Verdict). NoLater x w) (sym e) q

-- between equal verdicts
pub later-between : {t u v w : Verdict} → t ≡ u → NoLater u v → v ≡ w → NoLater t w
later-between p q r = later_trans (told p) (later_trans q (told r))

pub opposite-later : {v w : Verdict} → NoLater v w → NoLater (opposite v) (opposite w)
unfolding opposite
opposite-later still = still
opposite-later (told e) = told (ap opposite e)

-- where one operand is pending, any other verdict in its place
still-left : (j : Join) (w v : Verdict) → NoLater (together j Pending w) (together j v w)
unfolding together
still-left And False False = told refl
still-left And False True = told refl
still-left And False Pending = told refl
still-left And True v = still
still-left And Pending v = still
still-left Or True False = told refl
still-left Or True True = told refl
still-left Or True Pending = told refl
still-left Or False v = still
still-left Or Pending v = still

still-right : (j : Join) (v w : Verdict) → NoLater (together j v Pending) (together j v w)
unfolding together
still-right And False w = told refl
still-right And True w = still
still-right And Pending w = still
still-right Or False w = still
still-right Or True w = told refl
still-right Or Pending w = still

later-left : (j : Join) {v v' : Verdict} (w : Verdict) → NoLater v v' → NoLater (together j v w) (together j v' w)
later-left j w (still {w = v'}) = still-left j w v'
later-left j w (told e) = told (ap (λ (x : Verdict). together j x w) e)

pub later-right : (j : Join) (v : Verdict) {w w' : Verdict} → NoLater w w' → NoLater (together j v w) (together j v w')
later-right j v (still {w = w'}) = still-right j v w'
later-right j v (told e) = told (ap (together j v) e)

pub together-later : (j : Join) {v v' w w' : Verdict} → NoLater v v' → NoLater w w' → NoLater (together j v w) (together j v' w')
together-later j {v' = v'} {w = w} p q = later_trans (later-left j w p) (later-right j v' q)

-- a verdict that is known already
pub later-known : (v : Bool) {w : Verdict} → NoLater (known v) w → w ≡ known v
later-known true (told e) = sym e
later-known false (told e) = sym e
