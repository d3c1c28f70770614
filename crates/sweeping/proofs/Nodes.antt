-- A node whose operands were resolved: what its kind says of the results that are asked for, and one law for each way out of
-- `settle_node`. Assumes nothing.
use mathlib.Core.Path.{◌≡◌, refl, sym, ap, ◌∙◌, subst}
use mathlib.Core.Bool.{true, false}
use mathlib.Core.List.{List, [], ◌∷◌, append-nil}
use Prim.Native.Nat.{ℕ, ◌-◌}
use native.Mathlib.Omega.{arith}
use lib.ListN.{get_or, set}
use Rattle.lists.proofs.Tests.{no_true}
use Rattle.kinds.specs.declared.Leaf.{Leaf}
use Rattle.kinds.specs.declared.Leaf.TheVariants.{Const, Prop, Hold}
use Rattle.kinds.specs.declared.Unary.{Unary}
use Rattle.kinds.specs.declared.Unary.TheVariants.{Not}
use Rattle.kinds.specs.declared.Join.{Join}
use Rattle.kinds.specs.declared.Join.TheVariants.{And, Or}
use Rattle.kinds.specs.declared.Binary.{Binary}
use Rattle.kinds.specs.declared.Binary.TheVariants.{Joined}
use Rattle.kinds.specs.declared.Kind.{Kind}
use Rattle.kinds.specs.declared.Kind.TheVariants.{Zero, One, Two, NoCode}
use Rattle.kinds.specs.Kinds.{kind_of, leaf_code, join_code, leaf_coded}
use Rattle.ltl.specs.Formula.{Formula, leaf, encode, Coded}
use Rattle.ltl.specs.Progression.{deciding}
use Rattle.nodes.proofs.Fronts.{Parts, parts-as, zero_is, leaf-within, single, Double, double, no_code}
use Rattle.peeling.specs.Peeled.{peel}
use Rattle.outlining.specs.Outlined.{whole_kind}
use Rattle.stacking.specs.Stacks.{Stack, Negatable, Negates}
use Rattle.stacking.proofs.Stacks.{untouched-same, push-done, push-untouched}
use Rattle.joining.specs.Joins.{Pair, JoinAsk, JoinsPair}
use Rattle.resolving.specs.declared.Seen.{Seen}
use Rattle.resolving.specs.Settles.{settled, settled_leaf}
use Rattle.resolving.proofs.Coded.{settled-leaf, settled-coded}
use Rattle.sweeping.specs.Passes.{all_settled, NodeAt, NodeAsk, NodeSettles}

-- a leaf's byte is no join's
leaf-plain : (a : Leaf) (j : Join) → leaf_code a ≡ join_code j → ⊥
leaf-plain (Const true) And e = omega arith
leaf-plain (Const true) Or e = omega arith
leaf-plain (Const false) And e = omega arith
leaf-plain (Const false) Or e = omega arith
leaf-plain (Prop i) And e = omega arith
leaf-plain (Prop i) Or e = omega arith
leaf-plain (Hold k) And e = omega arith
leaf-plain (Hold k) Or e = omega arith

-- ---- by the kind that the code found
module _ {c : ℕ} {seen : Seen} {p notes : List ℕ} {w : ℕ} {k : Kind} (e : k ≡ kind_of c) where
  module _ {g : Formula} {gs : List Formula} (x : NodeAt g gs c seen p notes w) where
    at-kind : {n : Kind} → k ≡ n → Parts (encode g) [] g n
    at-kind h = parts-as (encode g) g [] (record { coded = x.coded; bytes = sym (append-nil (encode g)) }) (e ∙ ap kind_of x.byte) h

    stack-as : {h : Formula} → g ≡ h → Stack (all_settled seen (peel (h ∷ gs))) p notes w
    stack-as q = subst (λ (y : Formula). Stack (all_settled seen (peel (y ∷ gs))) p notes w) q x.stack

  -- ---- a leaf
  pub node-leaf : {a : Leaf} → k ≡ Zero a → NodeAsk c seen p notes w → {b v : ℕ} {p' notes' : List ℕ} → b ≡ leaf_code (settled_leaf seen a) → v ≡ w - 1
      → p' ≡ set p (w - 1) b → notes' ≡ set notes (w - 1) 1 → NodeSettles c seen p notes w p' notes' v
  node-leaf {a} h ask {b} {v} {p'} {notes'} eb ev ep en =
      subst (λ (i : ℕ). NodeSettles c seen p notes w p' notes' i) (sym ev)
      (subst (λ (i : List ℕ). NodeSettles c seen p notes w i notes' (w - 1)) (sym ep)
      (subst (λ (i : List ℕ). NodeSettles c seen p notes w (set p (w - 1) b) i (w - 1)) (sym en)
      (record { untouched = push-untouched ask.at.stack ask.some b; means = done })))
    where
      done : (g : Formula) (gs : List Formula) → NodeAt g gs c seen p notes w → Stack (settled seen g ∷ all_settled seen gs) (set p (w - 1) b) (set notes (w - 1) 1) (w - 1)
      done g gs x =
          let z = zero_is (at-kind x h) in
          let q : settled seen g ≡ leaf (settled_leaf seen a) = ap (settled seen) z ∙ settled-leaf seen a in
          subst (λ (y : Formula). Stack (y ∷ all_settled seen gs) (set p (w - 1) b) (set notes (w - 1) 1) (w - 1)) (sym q)
          (push-done (stack-as x z) ask.some (leaf (settled_leaf seen a)) b (subst (λ (y : Formula). Coded y) q (settled-coded seen g x.coded)) (ap (◌∷ []) (sym eb)) refl
          (leaf-plain (settled_leaf seen a)))

  pub node-leaf-coded : {a : Leaf} → k ≡ Zero a → NodeAsk c seen p notes w → leaf_coded a
  node-leaf-coded h ask = leaf-within (at-kind ask.at h)

  -- ---- not
  module _ {o : Unary} (h : k ≡ One o) (i : o ≡ Not) where
    not_stack : {g : Formula} {gs : List Formula} (x : NodeAt g gs c seen p notes w) → let y = single (at-kind x (h ∙ ap One i)) in Stack (settled seen y.operand ∷ all_settled seen gs) p notes w
    not_stack x = stack-as x (single (at-kind x (h ∙ ap One i))).same

    pub node-negatable : NodeAsk c seen p notes w → Negatable p notes w
    node-negatable ask = record { top = _; others = _; stack = not_stack ask.at; some = ask.some }

    pub node-not : {p' notes' : List ℕ} {v : ℕ} → Negates p notes w p' notes' v → NodeSettles c seen p notes w p' notes' v
    node-not {p'} {notes'} {v} n = record { untouched = n.untouched; means = done }
      where
        done : (g : Formula) (gs : List Formula) → NodeAt g gs c seen p notes w → Stack (settled seen g ∷ all_settled seen gs) p' notes' v
        done g gs x =
            let y = single (at-kind x (h ∙ ap One i)) in
            subst (λ (f : Formula). Stack (settled seen f ∷ all_settled seen gs) p' notes' v) (sym y.same) (n.means (settled seen y.operand) (all_settled seen gs) (not_stack x))

  -- ---- and, or
  module _ {o : Binary} (h : k ≡ Two o) {j : Join} (i : o ≡ Joined j) {decide : ℕ} (d : decide ≡ leaf_code (Const (deciding j))) where
    join-parts : {g : Formula} {gs : List Formula} (x : NodeAt g gs c seen p notes w) → Double (encode g) [] g (Joined j)
    join-parts x = double (at-kind x (h ∙ ap Two i))

    join-pair : {g : Formula} {gs : List Formula} (x : NodeAt g gs c seen p notes w)
        → Pair p notes w c decide j (settled seen (join-parts x).left) (settled seen (join-parts x).right) (all_settled seen gs)
    join-pair x =
        record {
          stack = stack-as x (join-parts x).same;
          op-is = x.byte ∙ ap (λ (f : Formula). get_or (encode f) 0 0) (join-parts x).same;
          decide-is = d;
        }

    pub node-joinable : NodeAsk c seen p notes w → JoinAsk p notes w c decide
    node-joinable ask = record { j = j; f = _; g = _; others = _; pair = join-pair ask.at; some = ask.some }

    pub node-join : {p' notes' : List ℕ} {v : ℕ} → JoinsPair p notes w c decide p' notes' v → NodeSettles c seen p notes w p' notes' v
    node-join {p'} {notes'} {v} n = record { untouched = n.untouched; means = done }
      where
        done : (g : Formula) (gs : List Formula) → NodeAt g gs c seen p notes w → Stack (settled seen g ∷ all_settled seen gs) p' notes' v
        done g gs x =
            let y = join-parts x in
            subst (λ (f : Formula). Stack (settled seen f ∷ all_settled seen gs) p' notes' v) (sym y.same) (n.means j _ _ (all_settled seen gs) (join-pair x))

  -- ---- what is not met
  -- a node that stays whole
  pub node-whole : whole_kind k ≡ true → NodeSettles c seen p notes w p notes w
  node-whole h = record { untouched = untouched-same; means = λ g gs x. absurd (no_true (sym x.plain ∙ ap whole_kind (sym e) ∙ h)) }

  -- a byte that is no code
  pub node-none : k ≡ NoCode → NodeSettles c seen p notes w p notes w
  node-none h = record { untouched = untouched-same; means = λ g gs x. absurd (no_code (at-kind x h)) }
