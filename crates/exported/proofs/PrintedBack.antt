-- A formula that was printed is read back: whatever `parse` does that meets its promise with what `print` has left, it answers as many nodes
-- and leaves the formula's bytes (`print-parsed-back`); from C the same (`c-print-parsed-back`). Assumes nothing.
use Rattle.std.specs.Prelude.{Result, Ok, Err}
use mathlib.Core.Path.{◌≡◌, sym, ap, ◌∙◌, subst}
use mathlib.Core.List.{List, [], ◌∷◌}
use Prim.Native.Nat.{ℕ}
use native.Mathlib.Omega.{arith}
use lib.ListN.{length, get_or, take}
use Rattle.limits.specs.Limits.{rule_nodes_most}
use Rattle.lists.specs.Runs.{padded}
use Rattle.answers.specs.Said.{Said, accepted}
use Rattle.ltl.specs.Formula.{size}
use Rattle.ltl.proofs.Decoding.{length-encode}
use Rattle.text.specs.Printing.{printed}
use Rattle.text.proofs.Prints.{printed-text}
use Rattle.parsing.specs.declared.ParseError.{ParseError}
use Rattle.parsing.specs.Parse.{ParseSays, parsed, Parses}
use Rattle.parsing.proofs.Determined.{parse-one, said_parse-injective}
use Rattle.printing.specs.Print.{Prints}
use Rattle.printing.proofs.Told.{PrintTold, print-told}
use Rattle.exported.specs.Exported.{ParseExported, PrintExported}
use Rattle.exported.proofs.Values.{value-accepted, value-zero}

-- what parsing the printed bytes says
told_back : {s text' d e : List ℕ} {n : ℕ} {x : Said} → PrintTold s text' n → length d ≡ rule_nodes_most → ParseSays rule_nodes_most (take n text') d x e
    → (x ≡ accepted (length s ∷ [])) × (e ≡ padded rule_nodes_most s)
told_back {s} {d = d} {e} {x = x} p room y =
    let f = p.formula in
    let l = p.few in
    let long : size f ≡ length s = sym (length-encode f) ∙ ap length (sym p.bytes) in
    let z : ParseSays rule_nodes_most (printed f) d x e = subst (λ (t : List ℕ). ParseSays rule_nodes_most t d x e) p.front y in
    let (q, r) = parse-one z (parsed room (printed-text f p.within) (omega arith)) in
    (q ∙ ap (λ (m : ℕ). accepted (m ∷ [])) long, r ∙ ap (padded rule_nodes_most) (sym p.bytes))

pub print-parsed-back : {s text text' d e : List ℕ} {n : ℕ} {answer : Result ℕ ParseError} → Prints s text text' (Ok n) → length d ≡ rule_nodes_most
    → Parses (take n text') d e answer → (answer ≡ Ok (length s)) × (e ≡ padded rule_nodes_most s)
print-parsed-back {s} {text} {answer = answer} p room y =
    let t = print-told s text (sym (ap (λ (x : Said). x.number) p.says)) p.leaves (ap (λ (x : Said). get_or x.values 0 0) p.says) in
    let (q, r) = told_back t room y in
    (said_parse-injective answer (Ok (length s)) q, r)

pub c-print-parsed-back : {s text text' d e : List ℕ} {count n nodes line byte nodes' line' byte' answer : ℕ} → PrintExported s text text' count n 0
    → length d ≡ rule_nodes_most → ParseExported (take n text') d e nodes line byte nodes' line' byte' answer
    → (answer ≡ 0) × (nodes' ≡ length s) × (e ≡ padded rule_nodes_most s)
c-print-parsed-back {s} {text} {count = count} {nodes = nodes} p room y =
    let t = print-told s text (sym p.says) p.leaves (p.gives-length ∙ value-zero _ 0 count (sym p.says)) in
    let (q, r) = told_back t room y.parses in
    (y.says ∙ ap (λ (x : Said). x.number) q, y.gives-nodes ∙ sym (value-accepted (length s ∷ []) 0 nodes (sym q)), r)
