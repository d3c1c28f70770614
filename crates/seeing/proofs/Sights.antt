-- The pass over a slot's bytes sees what the slot sees: a held slot by its first byte (`answer-is`), and a whole slot
-- (`sight-unsampled`, `sight-sampled`). Assumes nothing.
use Rattle.std.specs.Prelude.{Option, Some, None}
use mathlib.Core.Path.{◌≡◌, refl, sym, ap, ◌∙◌}
use mathlib.Core.Bool.{Bool, true, false}
use mathlib.Core.List.{List, [], ◌∷◌, ◌++◌, append_assoc, append-nil}
use Prim.Native.Nat.{ℕ, ◌+◌, ◌-◌, ◌<◌, ◌≤◌}
use native.Mathlib.Omega.{arith}
use lib.ListN.{get_or}
use lib.Dec.{eqb}
use borrow.Author.Tests.{lt-ltb, le-ltb, eq-eqb, ne_eqb}
use Rattle.kinds.proofs.Codes.{unary-low, binary-low}
use Rattle.lists.specs.Tests.{pick, both}
use Rattle.kinds.specs.declared.Leaf.TheVariants.{Const, Prop, Hold}
use Rattle.kinds.specs.Kinds.{unary_code, binary_code, prop_code, hold_code}
use Rattle.ltl.specs.Formula.{Formula, leaf, one, two, encode, Coded}
use Rattle.network.specs.Tick.{holds_only}
use Rattle.state.specs.Fields.{sample_in, sampled_in, board_of_in, stepped_in, slot_bytes}
use Rattle.state.specs.Clauses.{held_by}
use Rattle.state.specs.Bytes.{formula_at}
use Rattle.state.specs.Calls.{ready_in}
use Rattle.state.specs.Counted.{Spans}
use Rattle.records.proofs.Opened.{byte_at}
use Rattle.checked.proofs.Passing.{SlotPassing}
use Rattle.verdicts.specs.Verdicts.{verdict_byte}
use Rattle.verdicts.proofs.Firsts.{verdict-first, first_of}
use Rattle.resolving.specs.declared.Seen.{Seen}
use Rattle.resolving.specs.Settles.{event_alone}
use Rattle.seeing.specs.Seeing.{answer_in, told, told_each, seen_by, sight_in, sight_after, go_on, sight_over}
use Rattle.seeing.proofs.Telling.{each_append}

-- ---- a held slot, by its first byte
pub answer-is : {s : List ℕ} {m : ℕ} → SlotPassing s m → {from to : ℕ} → Spans s m from to → verdict_byte (get_or s from 0) ≡ answer_in s m
answer-is {s} {m} q {from} x =
    let f = formula_at s m in
    ap verdict_byte (byte_at s m from x.from_is (let h = q.some-length in omega arith) ∙ first_of f _ [] (q.bytes ∙ sym (append-nil (encode f))))
    ∙ verdict-first f

module _ (s : List ℕ) where
  -- a slot is stepped
  abbrev stepped : ℕ → Bool
  stepped m = eqb (stepped_in s m) 1

  over-cons : (b : ℕ) (l : List ℕ) (x : Seen) → sight_over s (b ∷ l) x ≡ go_on (sight_after s b x) (λ y. sight_over s l y)
  unfolding sight_over
  over-cons b l x = refl

  -- ---- behind one node
  pub after-low : (b : ℕ) (x : Seen) → b < hold_code → sight_after s b x ≡ Some x
  unfolding sight_after pick
  after-low b x h = rw (lt-ltb b hold_code h)

  after-held : (b : ℕ) (x : Seen) → hold_code ≤ b → sight_after s b x ≡ pick (stepped (b - hold_code)) (Some (told x (b - hold_code) (answer_in s (b - hold_code)))) None
  unfolding sight_after pick
  after-held b x h = rw (le-ltb b hold_code h)

  over-low : (b : ℕ) (l : List ℕ) (x : Seen) → b < hold_code → sight_over s (b ∷ l) x ≡ sight_over s l x
  over-low b l x h = over-cons b l x ∙ ap (λ (z : Option Seen). go_on z (λ y. sight_over s l y)) (after-low b x h)

  over-held : (m : ℕ) (l : List ℕ) (x : Seen) → sight_over s ((hold_code + m) ∷ l) x ≡ pick (stepped m) (sight_over s l (told x m (answer_in s m))) None
  unfolding pick
  over-held m l x =
      let e : hold_code + m - hold_code ≡ m = omega arith in
      over-cons (hold_code + m) l x ∙ ap (λ (z : Option Seen). go_on z (λ y. sight_over s l y)) (after-held (hold_code + m) x (omega arith)
      ∙ ap (λ (n : ℕ). pick (stepped n) (Some (told x n (answer_in s n))) None) e)
      ∙ go (stepped m)
    where
      go : (b : Bool) → go_on (pick b (Some (told x m (answer_in s m))) None) (λ y. sight_over s l y) ≡ pick b (sight_over s l (told x m (answer_in s m))) None
      go true = refl
      go false = refl

  -- ---- a formula's bytes
  pick-both : (a b : Bool) (y z : Option Seen) → pick a (pick b y z) z ≡ pick (both a b) y z
  unfolding pick both
  pick-both true b y z = refl
  pick-both false b y z = refl

  over-formula : (f : Formula) (l : List ℕ) (x : Seen) → Coded f
      → sight_over s (encode f ++ l) x ≡ pick (holds_only stepped f) (sight_over s l (told_each (answer_in s) (held_by f) x)) None
  unfolding holds_only held_by pick
  over-formula (leaf (Const true)) l x w = over-low 1 l x (omega arith)
  over-formula (leaf (Const false)) l x w = over-low 0 l x (omega arith)
  over-formula (leaf (Prop i)) l x w = over-low (prop_code + i) l x (omega arith)
  over-formula (leaf (Hold m)) l x w = over-held m l x
  over-formula (one o f) l x w = over-low (unary_code o) (encode f ++ l) x (unary-low o) ∙ over-formula f l x w
  over-formula (two o f g) l x w =
      let y = told_each (answer_in s) (held_by f) x in
      over-low (binary_code o) ((encode f ++ encode g) ++ l) x (binary-low o)
      ∙ ap (λ (k : List ℕ). sight_over s k x) (append_assoc (encode f) (encode g) l)
      ∙ over-formula f (encode g ++ l) x w.0
      ∙ ap (λ (z : Option Seen). pick (holds_only stepped f) z None) (over-formula g l y w.1)
      ∙ pick-both (holds_only stepped f) (holds_only stepped g) (sight_over s l (told_each (answer_in s) (held_by g) y)) None
      ∙ ap (λ (z : Seen). pick (both (holds_only stepped f) (holds_only stepped g)) (sight_over s l z) None) (each_append (answer_in s) (held_by f) (held_by g) x)

  -- ---- a whole slot
  module _ (k : ℕ) where
    pub sight-unsampled : (sampled_in s (board_of_in s k) ≡ 1 → ⊥) → None ≡ sight_in s k
    unfolding sight_in ready_in pick both
    sight-unsampled h = rw (ne_eqb (sampled_in s (board_of_in s k)) 1 h)

    pub sight-sampled : SlotPassing s k → sampled_in s (board_of_in s k) ≡ 1 → sight_over s (slot_bytes s k) (event_alone (sample_in s (board_of_in s k))) ≡ sight_in s k
    unfolding sight_in ready_in sight_over both
    sight-sampled q e =
        let f = formula_at s k in
        let x = event_alone (sample_in s (board_of_in s k)) in
        ap (λ (l : List ℕ). sight_over s l x) (q.bytes ∙ sym (append-nil (encode f)))
        ∙ over-formula f [] x q.coded
        ∙ ap (λ (b : Bool). pick (both b (holds_only stepped f)) (Some (seen_by s k)) None) (sym (eq-eqb (sampled_in s (board_of_in s k)) 1 e))
