-- The task at the top of the stack, by its number: `top-here`, `top-ever`, `top_left`, `top-end`; and what is ahead once it is done:
-- `ever-copy`, `left-ahead`, `end_copy`. Assumes nothing.
use mathlib.Core.Path.{◌≡◌, refl, sym, ap, ◌∙◌, subst}
use mathlib.Core.List.{List, [], ◌∷◌, ◌++◌, append_assoc}
use Prim.Native.Nat.{ℕ, ◌+◌, ◌-◌, ◌*◌, ◌<◌, ◌≤◌}
use native.Mathlib.Omega.{arith}
use lib.ListN.{length, get_or, drop}
use lib.Seq.{drop-cons, drop-drop}
use Rattle.limits.specs.Limits.{nodes_room}
use Rattle.lists.specs.Runs.{tail}
use Rattle.kinds.specs.declared.Binary.TheVariants.{Until}
use Rattle.ltl.specs.Formula.{Formula, two, encode}
use Rattle.ltl.specs.Progression.{unfolded}
use Rattle.ltl.proofs.Decoding.{size-some}
use Rattle.nodes.specs.Begins.{Front, Begins, Ends}
use Rattle.nodes.proofs.Fronts.{front-begins, front-tail, begins-tail}
use Rattle.unfolding.specs.Tasks.{Task, here, ever_end, until_left, until_end, task_code, Does, Todo, first}
use Rattle.unfolding.specs.Stages.{Stage}
use Rattle.unfolding.proofs.Moves.{front-within, stage-length, Ahead, CopyAt}

-- ---- a task by its number
-- a task's place has fewer than nodes_room in front of it
abbrev Placed : Task → Type 0
Placed here = Unit {0}
Placed (ever_end a) = a < nodes_room
Placed (until_left a) = a < nodes_room
Placed (until_end a) = a < nodes_room

front-few : (s : List ℕ) (a : ℕ) {f : Formula} {rest : List ℕ} → Front (drop a s) f rest → length s ≤ nodes_room → a < nodes_room
front-few s a {f} y h = let w = front-within s a y in let z = size-some f in omega arith

does-placed : (s : List ℕ) (r : ℕ) (t : Task) (xs : List ℕ) (e : ℕ) → Does s r t xs e → length s ≤ nodes_room → Placed t
does-placed s r here xs e d h = tt
does-placed s r (ever_end a) xs e d h = front-few s a d.0.begins.front h
does-placed s r (until_left a) xs e d h = front-few s a d.front h
does-placed s r (until_end a) xs e d h = front-few s a d.begins.front h

todo-placed : {s : List ℕ} {r : ℕ} {t : Task} {ts : List Task} {bs : List ℕ} → Todo s r (t ∷ ts) bs → length s ≤ nodes_room → Placed t
todo-placed {s} (first {r = r} {e = e} {t = t} xs rest d q o) h = does-placed s r t xs e d h

is-here : (t : Task) → task_code t ≡ 0 → t ≡ here
is-here here e = refl
is-here (ever_end a) e = absurd (omega arith)
is-here (until_left a) e = absurd (omega arith)
is-here (until_end a) e = absurd (omega arith)

is-ever : (t : Task) → Placed t → (task_code t ≡ 0 → ⊥) → task_code t < 2 * nodes_room → t ≡ ever_end (task_code t - nodes_room)
is-ever here p n h = absurd (n refl)
is-ever (ever_end a) p n h = let e : a ≡ nodes_room + a - nodes_room = omega arith in ap ever_end e
is-ever (until_left a) p n h = absurd (omega arith)
is-ever (until_end a) p n h = absurd (omega arith)

is-left : (t : Task) → Placed t → 2 * nodes_room ≤ task_code t → task_code t < 3 * nodes_room → t ≡ until_left (task_code t - 2 * nodes_room)
is-left here p n h = absurd (omega arith)
is-left (ever_end a) p n h = absurd (omega arith)
is-left (until_left a) p n h = let e : a ≡ 2 * nodes_room + a - 2 * nodes_room = omega arith in ap until_left e
is-left (until_end a) p n h = absurd (omega arith)

is-end : (t : Task) → Placed t → 3 * nodes_room ≤ task_code t → t ≡ until_end (task_code t - 3 * nodes_room)
is-end here p n = absurd (omega arith)
is-end (ever_end a) p n = absurd (omega arith)
is-end (until_left a) p n = absurd (omega arith)
is-end (until_end a) p n = let e : a ≡ 3 * nodes_room + a - 3 * nodes_room = omega arith in ap until_end e

-- ---- the task at the top
-- u stands at the top, the others below it
pub record TopIs (s out notes : List ℕ) (r w k : ℕ) (bs : List ℕ) (u : Task) : Type 0 where
  pub others : List Task
  pub stage : Stage s out notes r w k (u ∷ others) bs

-- some task does, and v is its number
record TopAt (s out notes : List ℕ) (r w k : ℕ) (bs : List ℕ) (v : ℕ) : Type 0 where
  task : Task
  others : List Task
  stage : Stage s out notes r w k (task ∷ others) bs
  code : task_code task ≡ v
  placed : Placed task

module _ {s out notes : List ℕ} {r w k : ℕ} {ts : List Task} {bs : List ℕ} (x : Stage s out notes r w k ts bs) (more : k < length notes) {v : ℕ} (e : v ≡ get_or notes k 0) where
  top-at : TopAt s out notes r w k bs v
  top-at = go ts x
    where
      go : (us : List Task) → Stage s out notes r w k us bs → TopAt s out notes r w k bs v
      go [] y = absurd (let l = stage-length y in omega arith)
      go (u ∷ us) y =
          let d = drop-cons notes k 0 more in
          let z = y.stack in
          record { task = u; others = us; stage = y; code = cc (e, d, z); placed = todo-placed y.todo y.few }

  top-is : {u : Task} → top-at.task ≡ u → TopIs s out notes r w k bs u
  top-is q = record { others = top-at.others; stage = subst (λ (u : Task). Stage s out notes r w k (u ∷ top-at.others) bs) q top-at.stage }

  pub top-here : v ≡ 0 → TopIs s out notes r w k bs here
  top-here z = top-is (is-here top-at.task (top-at.code ∙ z))

  module _ (some : v ≡ 0 → ⊥) where
    ever-is : v < 2 * nodes_room → top-at.task ≡ ever_end (v - nodes_room)
    ever-is h = let t = top-at in is-ever t.task t.placed (λ z. some (sym t.code ∙ z)) (let c = t.code in omega arith) ∙ ap (λ (i : ℕ). ever_end (i - nodes_room)) t.code

    pub top-ever : v < 2 * nodes_room → TopIs s out notes r w k bs (ever_end (v - nodes_room))
    top-ever h = top-is (ever-is h)

    pub ever-some : v < 2 * nodes_room → nodes_room ≤ v
    ever-some h = let c = sym top-at.code ∙ ap task_code (ever-is h) in omega arith

  pub top_left : 2 * nodes_room ≤ v → v < 3 * nodes_room → TopIs s out notes r w k bs (until_left (v - 2 * nodes_room))
  top_left l h =
      let t = top-at in
      let c = t.code in
      top-is (is-left t.task t.placed (omega arith) (omega arith) ∙ ap (λ (i : ℕ). until_left (i - 2 * nodes_room)) c)

  pub top-end : 3 * nodes_room ≤ v → TopIs s out notes r w k bs (until_end (v - 3 * nodes_room))
  top-end l =
      let t = top-at in
      let c = t.code in
      top-is (is-end t.task t.placed (omega arith) ∙ ap (λ (i : ℕ). until_end (i - 3 * nodes_room)) c)

-- ---- what it does
pub ever-copy : {s : List ℕ} {r a : ℕ} {ts : List Task} {bs : List ℕ} → Todo s r (ever_end a ∷ ts) bs → CopyAt s a (r - a) r ts bs
ever-copy {s} {r} {a} {ts} (first xs after d q o) =
    let b = d.0.begins in
    let h = d.0.ends in
    let g = d.1 in
    record {
      formula = b.formula;
      rest = b.rest;
      front = b.front;
      long = omega arith;
      ends = omega arith;
      ahead = record { bytes = after; split = q ∙ ap (◌++ after) d.0.writes; todo = subst (λ (i : ℕ). Todo s i ts after) g o };
    }

pub end-begins : {s : List ℕ} {r a : ℕ} {ts : List Task} {bs : List ℕ} → Todo s r (until_end a ∷ ts) bs → Begins (tail a s)
end-begins {s} {a = a} (first xs after d q o) = begins-tail a s d.begins.front

pub end-inside : {s : List ℕ} {r a : ℕ} {ts : List Task} {bs : List ℕ} → Todo s r (until_end a ∷ ts) bs → a < length s
end-inside {s} {a = a} (first xs after d q o) = let w = front-within s a d.begins.front in let z = size-some d.begins.formula in omega arith

pub end_copy : {s : List ℕ} {r a : ℕ} {ts : List Task} {bs : List ℕ} → Todo s r (until_end a ∷ ts) bs → {n : ℕ} → Ends (tail a s) n → CopyAt s a n (a + n) ts bs
end_copy {s} {a = a} {ts = ts} (first xs after d q o) {n} ends =
    let b = d.begins in
    let l = ends b.formula b.rest (front-tail a s b.front) in
    let h = d.ends in
    record {
      formula = b.formula;
      rest = b.rest;
      front = b.front;
      long = l;
      ends = refl;
      ahead = record { bytes = after; split = q ∙ ap (◌++ after) d.writes; todo = subst (λ (i : ℕ). Todo s i ts after) (h ∙ ap (a +◌) (sym l)) o };
    }

pub left-ahead : {s : List ℕ} {r a : ℕ} {ts : List Task} {bs : List ℕ} → Todo s r (until_left a ∷ ts) bs → Ahead s bs (3 ∷ []) (here ∷ (until_end a ∷ ts)) (a + 1)
left-ahead {s} {a = a} {ts = ts} (first xs after d q o) =
    let f = d.left in
    let g = d.right in
    let A = encode (unfolded f) in
    let B : List ℕ = 5 ∷ encode (two Until f g) in
    let e : drop (a + 1) s ≡ encode f ++ (encode g ++ d.rest) = sym (drop-drop 1 a s) ∙ ap (drop 1) d.front.bytes ∙ append_assoc (encode f) (encode g) d.rest in
    let y : Front (drop (a + 1) s) f (encode g ++ d.rest) = record { coded = d.front.coded.0; bytes = e } in
    record {
      bytes = (A ++ B) ++ after;
      split = q ∙ ap (◌++ after) d.writes;
      todo =
          first {t = here} A (B ++ after) (record { begins = front-begins y; writes = refl; ends = refl }) (append_assoc A B after)
          (first {t = until_end a} B after (record { begins = front-begins d.front; writes = refl; ends = refl }) refl (subst (λ (i : ℕ). Todo s i ts after) d.ends o));
    }
