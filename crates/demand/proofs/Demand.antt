-- The workshop's third demand (`demanded`): it holds of every watch that the calls' promises allow, and so whatever programs meet them.
-- Assumes nothing.
use mathlib.Core.Path.{sym, ◌∙◌}
use mathlib.Core.List.{List}
use Prim.Native.Nat.{ℕ}
use Rattle.ltl.specs.Meaning.{Event}
use Rattle.rules.specs.RuleFile.{propositions_in_file, masks_in_file}
use Rattle.loading.specs.Load.{start_in}
use Rattle.watching.proofs.Demand.{watch-verdict, watch-asks, watch-true, watch-false, tick-asks, tick-goes-on}
use Rattle.demand.specs.Called.{Watched}
use Rattle.demand.specs.Claims.{standing}
use Rattle.demand.specs.Demanded.{Demanded}
use Rattle.demand.proofs.Calls.{called}
use Rattle.demand.proofs.Watches.{watched}
use Rattle.demand.proofs.Getting.{ask-gets, going_on}
use Rattle.demand.proofs.Written.{as_written_lem, told-in-time, told-agrees}
use Rattle.demand.proofs.Agreeing.{networks-same, bytes_same, close-same}

pub demanded : {file : List ℕ} {us : List Event} {s : List ℕ} → Watched file us s → Demanded file us s
demanded {file} {us} {s} w =
    let p = propositions_in_file file in
    let masks = masks_in_file file in
    let rule = start_in file in
    let watch = watched w in
    let verdict = watch-verdict p masks rule us s watch in
    record {
      same-network = networks-same file us s w;
      same_bytes = bytes_same file us s w;
      same-close = close-same file us s w;
      goes_on = λ pending t c. going_on t (tick-goes-on p masks rule us s watch t (called c) (verdict ∙ pending));
      asks = λ t c. ask-gets t (standing file us s) (sym (tick-asks p masks rule us s watch t (called c) ∙ watch-asks p masks rule us s watch));
      when_true = λ v tail. (as_written_lem file us tail).0 (watch-true p masks rule us s watch (verdict ∙ v) tail);
      when_false = λ v tail h. watch-false p masks rule us s watch (verdict ∙ v) tail ((as_written_lem file us tail).1 h);
      in-time = told-in-time file us;
      agrees = told-agrees file us;
    }
