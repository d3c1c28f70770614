-- The loop over the bytes: it starts with `turn-start`, a node at a place may be shown by `turn-asks`, is shown by `turn_more`, and the end is
-- `turn-done`. `show-within` is for an array of its own. Assumes nothing.
use mathlib.Core.Path.{◌≡◌, refl, sym, ap, ◌∙◌, subst}
use mathlib.Core.List.{List, [], ◌∷◌, append-nil}
use Prim.Native.Nat.{ℕ, ◌+◌, ◌*◌, ◌<◌, ◌≤◌}
use native.Mathlib.Numerals.{add-one}
use native.Mathlib.Omega.{arith}
use lib.ListN.{length, get_or, take}
use lib.Seq.{drop-length, length-take-le}
use Rattle.limits.specs.Limits.{rule_nodes_most}
use Rattle.kinds.specs.declared.Kind.{Kind}
use Rattle.kinds.specs.Kinds.{kind_of}
use Rattle.ltl.specs.Formula.{Formula}
use Rattle.nodes.proofs.Fronts.{front-one-way}
use Rattle.peeling.specs.Peeled.{peel, peeled}
use Rattle.peeling.proofs.Peels.{HeadAt, head_at, whole-end}
use Rattle.outlining.specs.Outlined.{top_kind}
use Rattle.outlining.proofs.Heads.{head-kind}
use Rattle.text.specs.Signs.{loosest}
use Rattle.text.specs.Printing.{printed}
use Rattle.showing.specs.Dues.{Due, Coming, done, next, nothing}
use Rattle.showing.specs.Shows.{Penned, Showing, NodeShows, NodesOn, ShowWithin, ShowAsk, ShownTo, Shows}

-- room for what waits of a rule
pub show-within : {s text : List ℕ} (dues : List ℕ) → ShowAsk s text → length dues ≡ 2 * rule_nodes_most → ShowWithin s text dues
show-within dues a e = let f = a.few in record { formula = a.formula; front = a.front; space = a.space; room = omega arith }

-- where no formula is left all is put
all_shown : {t d : List ℕ} {at top k : ℕ} {whole : List ℕ} → Showing t d at top k [] whole → (at ≡ length whole) × (take at t ≡ whole)
all_shown {t} {d} {at} {top} {k} {whole} x = go x.coming x.penned
  where
    go : {ds : List Due} {bs : List ℕ} → Coming k ds [] bs → Penned t d at top ds [] bs whole → (at ≡ length whole) × (take at t ≡ whole)
    go done p =
        let e : take at t ≡ whole = sym (append-nil (take at t)) ∙ p.puts in
        let s = p.space in
        (sym (length-take-le at t (omega arith)) ∙ ap length e, e)

module _ {s text dues : List ℕ} (a : ShowWithin s text dues) where
  pub turn-start : Showing text dues 0 (length dues) loosest (peeled 0 (a.formula ∷ [])) (printed a.formula)
  turn-start =
      let n = ap length a.front.bytes in
      let h = a.room in
      let l = a.space in
      record {
        waits = [];
        bytes = printed a.formula;
        coming = next nothing refl;
        penned = record { puts = refl; space = omega arith; stack = drop-length dues; within = omega arith; room = omega arith };
      }

  -- a node at place i
  module _ {t d : List ℕ} {i at top k : ℕ} (x : Showing t d at top k (peeled i (a.formula ∷ [])) (printed a.formula)) (h : i < length s)
      {kind : Kind} (q : kind ≡ kind_of (get_or s i 0)) where
    here : HeadAt a.formula s i
    here = head_at a.front i h

    here-showing : Showing t d at top k (here.head ∷ here.others) (printed a.formula)
    here-showing = subst (λ (gs : List Formula). Showing t d at top k gs (printed a.formula)) here.is x

    here-kind : kind ≡ top_kind here.head
    here-kind = q ∙ head-kind here

    pub turn-asks : NodeShows kind t d at top k
    turn-asks = record { formula = here.head; others = here.others; whole = printed a.formula; kind-is = here-kind; showing = here-showing }

    pub turn_more : {t' d' : List ℕ} {at' top' k' : ℕ} → NodesOn kind t d at top k t' d' at' top' k'
        → Showing t' d' at' top' k' (peeled (i + 1) (a.formula ∷ [])) (printed a.formula)
    turn_more {t'} {d'} {at'} {top'} {k'} on =
        let e : peel (here.head ∷ here.others) ≡ peeled (i + 1) (a.formula ∷ []) =
        ap peel (sym here.is) ∙ ap (λ (n : ℕ). peeled n (a.formula ∷ [])) (sym (add-one i)) in
        subst (λ (gs : List Formula). Showing t' d' at' top' k' gs (printed a.formula)) e
        (on here.head here.others (printed a.formula) here-kind here-showing)

  -- behind the last one
  pub turn-done : {t d : List ℕ} {i at top k : ℕ} → Showing t d at top k (peeled i (a.formula ∷ [])) (printed a.formula) → i ≤ length s → length s ≤ i
      → Shows s t at
  turn-done {t} {d} {i} {at} {top} {k} x h l f y =
      let n : i ≡ length s = omega arith in
      let e : peeled i (a.formula ∷ []) ≡ [] = ap (λ (n : ℕ). peeled n (a.formula ∷ [])) n ∙ whole-end a.front in
      let z = all_shown (subst (λ (gs : List Formula). Showing t d at top k gs (printed a.formula)) e x) in
      subst (λ (g : Formula). ShownTo g t at) (front-one-way s a.formula f [] [] a.front y).0 (record { ends = z.0; holds = z.1 })
