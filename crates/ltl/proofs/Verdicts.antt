-- Verdicts under not, and, or: the values of Kleene's three-valued logic. The laws by which the rules of resolving keep a value;
-- the member rule is idempotence. Assumes nothing.
use mathlib.Core.Path.{◌≡◌, refl}
use mathlib.Core.Bool.{Bool, true, false, not}
use Rattle.kinds.specs.declared.Join.{Join}
use Rattle.kinds.specs.declared.Join.TheVariants.{And, Or}
use Rattle.answers.specs.declared.Verdict.{Verdict}
use Rattle.answers.specs.declared.Verdict.TheVariants.{False, True, Pending}
use Rattle.ltl.specs.Formula.{constant}
use Rattle.ltl.specs.Progression.{deciding, verdict_of}

-- the verdict of a constant
abbrev pub known : Bool → Verdict
known v = verdict_of (constant v)

unfoldable pub opposite : Verdict → Verdict
opposite True = False
opposite False = True
opposite Pending = Pending

unfoldable pub together : Join → Verdict → Verdict → Verdict
together And False w = False
together And True w = w
together And Pending False = False
together And Pending True = Pending
together And Pending Pending = Pending
together Or True w = True
together Or False w = w
together Or Pending True = True
together Or Pending False = Pending
together Or Pending Pending = Pending

-- not of a constant
pub opposite-known : (v : Bool) → opposite (known v) ≡ known (not v)
unfolding opposite
opposite-known true = refl
opposite-known false = refl

-- the deciding constant, on the left and on the right
pub together-left : (j : Join) (w : Verdict) → together j (known (deciding j)) w ≡ known (deciding j)
unfolding together
together-left And w = refl
together-left Or w = refl

pub together-right : (j : Join) (v : Verdict) → together j v (known (deciding j)) ≡ known (deciding j)
unfolding together
together-right And False = refl
together-right And True = refl
together-right And Pending = refl
together-right Or False = refl
together-right Or True = refl
together-right Or Pending = refl

-- the other constant says nothing
pub together-skip : (j : Join) (w : Verdict) → together j (known (not (deciding j))) w ≡ w
unfolding together
together-skip And w = refl
together-skip Or w = refl

pub together-keep : (j : Join) (v : Verdict) → together j v (known (not (deciding j))) ≡ v
unfolding together
together-keep And False = refl
together-keep And True = refl
together-keep And Pending = refl
together-keep Or False = refl
together-keep Or True = refl
together-keep Or Pending = refl

-- said twice is said once
pub together-same : (j : Join) (v : Verdict) → together j v v ≡ v
unfolding together
together-same And False = refl
together-same And True = refl
together-same And Pending = refl
together-same Or False = refl
together-same Or True = refl
together-same Or Pending = refl

-- what is said already by the left of what follows
pub together-again : (j : Join) (v w : Verdict) → together j v (together j v w) ≡ together j v w
unfolding together
together-again And False w = refl
together-again And True w = refl
together-again And Pending False = refl
together-again And Pending True = refl
together-again And Pending Pending = refl
together-again Or True w = refl
together-again Or False w = refl
together-again Or Pending True = refl
together-again Or Pending False = refl
together-again Or Pending Pending = refl

-- two that are joined with a third may change places
pub together-swap : (j : Join) (u v w : Verdict) → together j u (together j v w) ≡ together j v (together j u w)
unfolding together
together-swap And False False w = refl
together-swap And False True w = refl
together-swap And False Pending False = refl
together-swap And False Pending True = refl
together-swap And False Pending Pending = refl
together-swap And True False w = refl
together-swap And True True w = refl
together-swap And True Pending w = refl
together-swap And Pending False False = refl
together-swap And Pending False True = refl
together-swap And Pending False Pending = refl
together-swap And Pending True w = refl
together-swap And Pending Pending w = refl
together-swap Or True True w = refl
together-swap Or True False w = refl
together-swap Or True Pending False = refl
together-swap Or True Pending True = refl
together-swap Or True Pending Pending = refl
together-swap Or False True w = refl
together-swap Or False False w = refl
together-swap Or False Pending w = refl
together-swap Or Pending True False = refl
together-swap Or Pending True True = refl
together-swap Or Pending True Pending = refl
together-swap Or Pending False w = refl
together-swap Or Pending Pending w = refl
