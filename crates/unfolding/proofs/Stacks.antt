-- What a plain byte leaves, by what it does to the tasks: it takes the first away (`plain-pop`), leaves it (`plain-keep`), or puts an
-- operand and another task in its place (`plain_push`). `plain-room`, `push-some` and `push-room` say that there is room. Assumes nothing.
use mathlib.Core.Path.{◌≡◌, sym, ap, ap₂, ◌∙◌}
use mathlib.Core.Bool.{false}
use mathlib.Core.List.{List, [], ◌∷◌, map}
use Prim.Native.Nat.{ℕ, suc, ◌+◌, ◌-◌, ◌<◌}
use native.Mathlib.Numerals.{add-one}
use native.Mathlib.Omega.{arith}
use lib.ListN.{length, set, take, drop, length-set}
use lib.Seq.{drop-cons, drop-drop, drop-set-lt, take-set-le, get_or-set_same}
use Rattle.kinds.specs.Kinds.{kind_of}
use Rattle.outlining.specs.Outlined.{whole_kind}
use Rattle.unfolding.specs.Tasks.{Task, here, task_code}
use Rattle.unfolding.specs.Stages.{Stage, StageAfter}
use Rattle.unfolding.proofs.Moves.{stage-length, Ahead, ahead-room, plain-after}

-- ---- a list that grows at its end downwards
stack-put : (p : List ℕ) (j x : ℕ) → j < length p → drop j (set p j x) ≡ x ∷ drop (suc j) p
stack-put p j x h =
    let n = length-set p j x in
    drop-cons (set p j x) j 0 (omega arith) ∙ ap₂ ◌∷◌ (get_or-set_same p j x 0 h) (drop-set-lt (suc j) p j x (omega arith))

stack-pop : (p : List ℕ) (k : ℕ) {xs : List ℕ} {x : ℕ} → drop k p ≡ x ∷ xs → drop (k + 1) p ≡ xs
stack-pop p k e = sym (drop-drop 1 k p) ∙ ap (drop 1) e

-- x at k, and 0 below it
stack_push : (p : List ℕ) (k x : ℕ) {xs : List ℕ} → 0 < k → k < length p → drop (k + 1) p ≡ xs → drop (k - 1) (set (set p k x) (k - 1) 0) ≡ 0 ∷ (x ∷ xs)
stack_push p k x h l e =
    let n = length-set p k x in
    let q : suc (k - 1) ≡ k = omega arith in
    stack-put (set p k x) (k - 1) 0 (omega arith)
    ∙ ap (0 ∷◌) (ap (λ (i : ℕ). drop i (set p k x)) q ∙ stack-put p k x l ∙ ap (x ∷◌) (ap (λ (i : ℕ). drop i p) (sym (add-one k)) ∙ e))

-- ---- room
module _ {s out notes : List ℕ} {r w k : ℕ} {t : Task} {ts : List Task} {bs : List ℕ} (x : Stage s out notes r w k (t ∷ ts) bs) where
  -- for a byte and its note
  pub plain-room : {b : ℕ} {us : List Task} {r' : ℕ} → Ahead s bs (b ∷ []) us r' → (w < length out) × (w < length notes)
  plain-room a = let m = ahead-room x a in let i = m.inside in let j = m.apart in (omega arith, omega arith)

  -- and for one more task
  pub push-some : {b : ℕ} {u v : Task} {r' : ℕ} → Ahead s bs (b ∷ []) (u ∷ (v ∷ ts)) r' → 0 < k
  push-some a = let m = ahead-room x a in let j = m.apart in let l = m.stacked in omega arith

  pub push-room : {b : ℕ} {u v : Task} {r' : ℕ} → Ahead s bs (b ∷ []) (u ∷ (v ∷ ts)) r' → {c : ℕ} → c < 65536
      → (w < length out) × (w < length notes) × (0 < k) × (k < length notes) × (c < 65536)
  push-room a h = let p = plain-room a in let l = stage-length x in (p.0, p.1, push-some a, omega arith, h)

  -- ---- what is left
  module _ {b : ℕ} (kind : whole_kind (kind_of b) ≡ false) {r' : ℕ} {out' notes' : List ℕ} (o : out' ≡ set out w b) where
    pub plain-pop : notes' ≡ set notes w 0 → Ahead s bs (b ∷ []) ts r' → StageAfter s out w bs out' notes' r' (w + 1) (k + 1)
    plain-pop n a =
        let m = ahead-room x a in
        let j = m.apart in
        let l = m.stacked in
        let e : drop (k + 1) notes' ≡ drop (k + 1) notes = ap (drop (k + 1)) n ∙ drop-set-lt (k + 1) notes w 0 (omega arith) in
        plain-after x a kind o (ap length n ∙ length-set notes w 0) (ap (take (w + 1)) n) (e ∙ stack-pop notes k x.stack) (omega arith)

    pub plain-keep : notes' ≡ set notes w 0 → Ahead s bs (b ∷ []) (t ∷ ts) r' → StageAfter s out w bs out' notes' r' (w + 1) k
    plain-keep n a =
        let m = ahead-room x a in
        let j = m.apart in
        let l = m.stacked in
        let e : drop k notes' ≡ drop k notes = ap (drop k) n ∙ drop-set-lt k notes w 0 (omega arith) in
        plain-after x a kind o (ap length n ∙ length-set notes w 0) (ap (take (w + 1)) n) (e ∙ x.stack) (omega arith)

    pub plain_push : {c : ℕ} → notes' ≡ set (set (set notes w 0) k c) (k - 1) 0 → {u : Task} → Ahead s bs (b ∷ []) (here ∷ (u ∷ ts)) r' → c ≡ task_code u
        → StageAfter s out w bs out' notes' r' (w + 1) (k - 1)
    plain_push {c} e {u} a code =
        let m = ahead-room x a in
        let j = m.apart in
        let l = m.stacked in
        let p = set notes w 0 in
        let z = length-set notes w 0 in
        let d : drop (k + 1) p ≡ map task_code ts = drop-set-lt (k + 1) notes w 0 (omega arith) ∙ stack-pop notes k x.stack in
        let q : drop (k - 1) notes' ≡ 0 ∷ (task_code u ∷ map task_code ts) = ap (drop (k - 1)) e ∙ stack_push p k c (omega arith) (omega arith) d ∙ ap (λ (i : ℕ). 0 ∷ (i ∷ map task_code ts)) code in
        let front : take (w + 1) notes' ≡ take (w + 1) p =
        ap (take (w + 1)) e ∙ take-set-le (w + 1) (set p k c) (k - 1) 0 (omega arith) ∙ take-set-le (w + 1) p k c (omega arith) in
        plain-after x a kind o (ap length e ∙ length-set (set p k c) (k - 1) 0 ∙ length-set p k c ∙ z) front q (omega arith)
