-- A tick and a watch by the calls' promises are a tick (`tick-of`) and a watch (`watched`) over the definitions that the promises cite. Assumes
-- nothing.
use mathlib.Core.Path.{sym, subst}
use mathlib.Core.List.{List, []}
use Prim.Native.Nat.{ℕ}
use Rattle.ltl.specs.Formula.{Formula}
use Rattle.ltl.specs.Meaning.{Event}
use Rattle.rules.specs.RuleFile.{propositions_in_file, masks_in_file}
use Rattle.loading.specs.Load.{start_in}
use Rattle.watching.specs.Watch.{Tick, StateWatch}
use Rattle.watching.specs.Watch as watch
use Rattle.watching.proofs.Ticked.{watch-started, close_passed}
use Rattle.demand.specs.Called.{Ticked, Watched, begun, ticked}
use Rattle.demand.proofs.Loaded.{load-accepted}
use Rattle.demand.proofs.Calls.{called}
use Rattle.demand.proofs.Given.{given-saw}

abbrev pub tick-of : (p : ℕ) (masks : List ℕ) (rule : Formula) (us : List Event) (s : List ℕ) → StateWatch p masks rule us s → {e : Event} {s' : List ℕ} → Ticked masks s e s' → Tick s e s'
tick-of p masks rule us s w {e} x =
    record {
      last = x.last;
      calls = called x.calls;
      saw = given-saw p masks rule us s (watch-started p masks rule w) x.last e x.calls x.given (close_passed x.last _ (sym x.closes.says)).done;
      second = x.second;
      closes = sym x.closes.says;
      leaves = x.closes.leaves;
    }

pub watched : {file : List ℕ} {us : List Event} {s : List ℕ} → Watched file us s → StateWatch (propositions_in_file file) (masks_in_file file) (start_in file) us s
watched {file} (begun {before = before} {s = s} l) =
    let x = load-accepted file before s l in
    subst (λ (t : List ℕ). StateWatch (propositions_in_file file) (masks_in_file file) (start_in file) [] t) (sym x.state-is) (watch.begun x.loads)
watched {file} (ticked {us = us} {s = s} w e t) = watch.ticked (watched w) e (tick-of (propositions_in_file file) (masks_in_file file) (start_in file) us s (watched w) t)
