-- The verdict that ask tells of a watch is the one that the call `central` answers for the same events, where it has room for the rule
-- (`one_place`). Assumes nothing.
use Rattle.std.specs.Prelude.{Ok, Err}
use mathlib.Core.Path.{◌≡◌, refl, sym, ap, ◌∙◌, subst}
use mathlib.Core.List.{List, [], ◌∷◌, ◌++◌, append-nil}
use Prim.Native.Nat.{ℕ, ◌-◌}
use native.Mathlib.Omega.{arith}
use lib.ListN.{length, get_or, take, replicate}
use lib.Seq.{take_at}
use Rattle.lists.specs.Runs.{padded}
use Rattle.answers.specs.Said.{Said, accepted, left}
use Rattle.answers.proofs.Answers.{left-accepted, verdict-injective, order-ok, order-done, order-passed}
use Rattle.limits.specs.Limits.{central_nodes_most, propositions_most, holder_codes}
use Rattle.ltl.specs.Formula.{Formula, size, encode, Coded}
use Rattle.ltl.specs.Meaning.{Event}
use Rattle.ltl.specs.Progression as ltl
use Rattle.ltl.specs.Progression.{unfolded, progressed_over, verdict_of}
use Rattle.ltl.specs.Decode.{decoded, some_formula}
use Rattle.ltl.proofs.Decoding.{length-encode, decoded-of, unfolded-coded}
use Rattle.folded.specs.Folding.{folded}
use Rattle.folded.proofs.Again.{folded-again, folded-progressed, folded-over}
use Rattle.folded.proofs.Lengths.{folded-within}
use Rattle.nodes.specs.Begins.{Front}
use Rattle.resolving.proofs.Coded.{settled-coded}
use Rattle.central.specs.declared.Progress.{Progress}
use Rattle.central.specs.Central.{answer_of, start_of, central_says, Centrally}
use Rattle.resolving.specs.Settles.{event_alone}
use Rattle.central.proofs.Progresses.{settled-alone}
use Rattle.rules.specs.RuleFile.{formula_in_file}
use Rattle.telling.specs.declared.Standing.{Standing}
use Rattle.telling.specs.Ask.{Asks}
use Rattle.loading.specs.Load.{rule_in, start_in}
use Rattle.demand.specs.Called.{nothing, Watched, begun, ticked}
use Rattle.demand.specs.Claims.{standing}
use Rattle.demand.specs.OnePlace.{InOnePlace, given, progressed}
use Rattle.demand.proofs.Loaded.{load-accepted}
use Rattle.demand.proofs.Demand.{demanded}

-- ---- progression
-- one more event
over-more : (us : List Event) (e : Event) (f : Formula) → progressed_over (us ++ (e ∷ [])) f ≡ ltl.progressed e (progressed_over us f)
over-more [] e f = refl
over-more (u ∷ us) e f = over-more us e (ltl.progressed u f)

progressed-coded : (e : Event) (f : Formula) → Coded f → Coded (ltl.progressed e f)
progressed-coded e f w = subst (λ (g : Formula). Coded g) (settled-alone e (unfolded f)) (settled-coded (event_alone e) (unfolded f) (unfolded-coded propositions_most holder_codes f w))

-- ---- an accepted call on the bytes of a formula that folds to f
record CentralTells (f : Formula) (e : Event) (output' : List ℕ) (p : Progress) : Type 0 where
  verdict-is : p.verdict ≡ verdict_of (ltl.progressed e f)
  bytes-are : take p.length output' ≡ encode (ltl.progressed e f)

-- where the answer is accepted, it is this
central-says : (bytes : List ℕ) (e : Event) (room : ℕ) → (central_says bytes e room).number ≡ 0 → central_says bytes e room ≡ accepted (answer_of (ltl.progressed e (start_of bytes)))
unfolding central_says
central-says bytes e room h =
    let q = order-passed _ _ (omega arith, (omega arith, (omega arith, tt))) h in
    order-ok 1 _ _ _ q.0 ∙ order-ok 6 _ _ _ q.1.0 ∙ order-ok 8 _ _ _ q.1.1.0 ∙ order-done _

tells : (h f : Formula) → Coded h → folded h ≡ f → (bytes : List ℕ) → bytes ≡ encode h → (e : Event) (output output' : List ℕ) (p : Progress) → Centrally bytes e output output' (Ok p) → CentralTells f e output' p
tells h f w k bytes b e output output' p c =
    let g = ltl.progressed e f in
    let same : start_of bytes ≡ f = ap folded (ap some_formula (ap decoded b ∙ decoded-of h w)) ∙ k in
    let says = central-says bytes e (length output) (ap (λ (a : Said). a.number) (sym c.says)) ∙ ap (λ (x : Formula). accepted (answer_of (ltl.progressed e x))) same in
    let long : p.length ≡ size g = ap (λ (a : Said). get_or a.values 1 0) (c.says ∙ says) in
    let next : output' ≡ padded central_nodes_most (encode g) =
    c.leaves
    ∙ ap (λ (x : Formula). left (central_says bytes e (length output)) (padded central_nodes_most (encode (ltl.progressed e x))) output) same
    ∙ ap (λ (a : Said). left a (padded central_nodes_most (encode g)) output) says
    ∙ left-accepted (answer_of g) (padded central_nodes_most (encode g)) output in
    record {
      verdict-is = verdict-injective p.verdict (verdict_of g) (ap (λ (a : Said). get_or a.values 0 0) (c.says ∙ says));
      bytes-are = ap (take p.length) next ∙ take_at (encode g) (replicate (central_nodes_most - length (encode g)) 0) p.length (length-encode g ∙ sym long);
    }

-- ---- the whole rule
-- the bytes are those of a formula that folds to what the folded rule is progressed to: the rule as written at first, then that itself
record Spells (file : List ℕ) (us : List Event) (bytes : List ℕ) : Type 0 where
  formula : Formula
  coded : Coded formula
  bytes-are : bytes ≡ encode formula
  folds : folded formula ≡ progressed_over us (start_in file)

spells : {file : List ℕ} {us : List Event} {bytes : List ℕ} → Front (formula_in_file file) (rule_in file) [] → InOnePlace file us bytes → Spells file us bytes
spells {file} l given = record { formula = rule_in file; coded = l.coded; bytes-are = l.bytes ∙ append-nil (encode (rule_in file)); folds = refl }
spells {file} l (progressed {us = us} {bytes = bytes} x e output output' p c) =
    let f = progressed_over us (start_in file) in
    let i = spells l x in
    let t = tells i.formula f i.coded i.folds bytes i.bytes-are e output output' p c in
    let more = over-more us e (start_in file) in
    let known : Coded f = subst (λ (g : Formula). Coded g) i.folds (folded-within propositions_most holder_codes i.formula i.coded) in
    record {
      formula = ltl.progressed e f;
      coded = progressed-coded e f known;
      bytes-are = t.bytes-are;
      folds = folded-progressed e f (folded-over us (start_in file) (folded-again (rule_in file))) ∙ sym more;
    }

-- a watch's file was loaded
watch-spelt : {file : List ℕ} {us : List Event} {s : List ℕ} → Watched file us s → Front (formula_in_file file) (rule_in file) []
watch-spelt {file} (begun {before = before} {s = s} l) = (load-accepted file before s l).spelt
watch-spelt (ticked w e t) = watch-spelt w

pub one_place : {file : List ℕ} {us : List Event} {bytes : List ℕ} → InOnePlace file us bytes → (e : Event) (output output' : List ℕ) (p : Progress) → Centrally bytes e output output' (Ok p)
    → {s : List ℕ} → Watched file (us ++ (e ∷ [])) s → (x : Standing) → Asks s (Ok x) → x.verdict ≡ p.verdict
one_place {file} {us} {bytes} i e output output' p c {s} w x a =
    let h = spells (watch-spelt w) i in
    let t = tells h.formula (progressed_over us (start_in file)) h.coded h.folds bytes h.bytes-are e output output' p c in
    let told = a.says ∙ sym ((demanded w).asks s nothing).allowed.says in
    verdict-injective x.verdict (standing file (us ++ (e ∷ [])) s).verdict (ap (λ (b : Said). get_or b.values 0 0) told)
    ∙ ap verdict_of (over-more us e (start_in file))
    ∙ sym t.verdict-is
