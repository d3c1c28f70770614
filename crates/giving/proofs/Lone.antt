-- The first byte of a slot tells whether it is a lone proposition that its board does not have: `lone-by`. Assumes nothing.
use mathlib.Core.Path.{◌≡◌, sym, ap, subst, ◌∙◌}
use mathlib.Core.Bool.{Bool, false, not}
use mathlib.Core.List.{List}
use Prim.Native.Nat.{ℕ, ◌+◌, ◌<◌}
use native.Mathlib.Omega.{arith}
use lib.ListN.{length, get_or, drop, length-take}
use Rattle.limits.specs.Limits.{propositions_most}
use Rattle.lists.specs.Tests.{bit}
use Rattle.kinds.specs.declared.Kind.{Kind}
use Rattle.kinds.specs.declared.Kind.TheVariants.{Zero, One, Two, NoCode}
use Rattle.kinds.specs.declared.Leaf.TheVariants.{Const, Prop, Hold}
use Rattle.kinds.specs.Kinds.{kind_of}
use Rattle.kinds.proofs.Codes.{kind-leaf, kind-unary, kind-binary, CodeOf, is_zero, code}
use Rattle.ltl.specs.Formula.{Formula, leaf, one, two, encode, Coded}
use Rattle.ltl.proofs.Decoding.{size-some, length-encode}
use Rattle.state.specs.Fields.{start_in, length_in, nodes_from}
use Rattle.state.specs.Clauses.{lone_other}
use Rattle.state.specs.Bytes.{formula_at}
use Rattle.state.specs.declared.Counts.{Counts}
use Rattle.records.proofs.Opened.{byte_at}
use Rattle.giving.specs.Stray.{SlotReads}

-- what a formula's first byte tells
abbrev pub lone_by : ℕ → Kind → Bool
lone_by mask (Zero (Const v)) = false
lone_by mask (Zero (Prop i)) = not (bit mask i)
lone_by mask (Zero (Hold m)) = false
lone_by mask (One o) = false
lone_by mask (Two o) = false
lone_by mask NoCode = false

lone-first : (mask : ℕ) (f : Formula) → Coded f → lone_by mask (kind_of (get_or (encode f) 0 0)) ≡ lone_other mask f
unfolding lone_other
lone-first mask (leaf (Const v)) x = ap (lone_by mask) (kind-leaf (Const v) x)
lone-first mask (leaf (Prop i)) x = ap (lone_by mask) (kind-leaf (Prop i) x)
lone-first mask (leaf (Hold m)) x = ap (lone_by mask) (kind-leaf (Hold m) x)
lone-first mask (one o f) x = ap (lone_by mask) (kind-unary o)
lone-first mask (two o f g) x = ap (lone_by mask) (kind-binary o)

-- a proposition's number is below 64
pub prop-few : (b : ℕ) {i : ℕ} → kind_of b ≡ Zero (Prop i) → i < propositions_most
prop-few b {i} e = go (subst (CodeOf b) e (code b))
  where
    go : CodeOf b (Zero (Prop i)) → i < propositions_most
    go (is_zero p q) = q

module _ {s : List ℕ} {c : Counts} {k : ℕ} (r : SlotReads s c k) where
  -- the slot has a byte
  pub reads-some : 0 < length_in s k
  reads-some =
      let e = ap length r.bytes ∙ length-encode (formula_at s k) in
      omega (arith, size-some (formula_at s k), length-take (length_in s k) (drop (nodes_from s + start_in s k) s))

  -- the byte at the slot's first place, of whatever kind
  pub lone-by : (mask from : ℕ) → from ≡ nodes_from s + start_in s k → {kind : Kind} → kind_of (get_or s from 0) ≡ kind → lone_by mask kind ≡ lone_other mask (formula_at s k)
  lone-by mask from e {kind} q =
      sym (ap (lone_by mask) (sym (ap kind_of (byte_at s k from e reads-some ∙ ap (λ (b : List ℕ). get_or b 0 0) r.bytes)) ∙ q)) ∙ lone-first mask (formula_at s k) r.coded
