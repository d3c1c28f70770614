-- The loop: from its start (`going_start`) over each turn (`going_more`) to its end (`going_done`), what is written and what is still to be
-- written is the unfolded formula. `ask-outlined`, `ask-size` and `ask-small` are for the notes of its own. Assumes nothing.
use mathlib.Core.Path.{◌≡◌, refl, sym, ap, ap₂, ◌∙◌, subst}
use mathlib.Core.List.{List, [], ◌∷◌, ◌++◌, append-nil}
use Prim.Native.Nat.{ℕ, suc, ◌+◌, ◌-◌, ◌<◌, ◌≤◌}
use native.Mathlib.Omega.{arith}
use lib.ListN.{length, set, take, drop, length-set, length-drop, take-append-drop}
use lib.Seq.{drop-cons, get_or-set_same, length-take-le}
use Rattle.lists.proofs.Stretches.{none-long}
use Rattle.limits.specs.Limits.{nodes_room}
use Rattle.ltl.specs.Formula.{Formula, size, encode}
use Rattle.ltl.specs.Progression.{unfolded}
use Rattle.ltl.proofs.Decoding.{size-some, length-encode}
use Rattle.ltl.proofs.Lengths.{unfolded-long}
use Rattle.nodes.specs.Begins.{Front}
use Rattle.nodes.proofs.Fronts.{front-begins, front_length, front-one-way}
use Rattle.outlining.specs.Outlined.{small_nodes, Outlined, start}
use Rattle.sizing.specs.Sizes.{SizeAsk, CountsUnfolded}
use Rattle.unfolding.specs.Tasks.{Task, here, Todo, nothing, first}
use Rattle.unfolding.specs.Stages.{Stage, StageAfter, Busy}
use Rattle.unfolding.specs.Unfolds.{Unfoldable, UnfoldWithin, UnfoldAsk, UnfoldedTo, Unfolds}
use Rattle.unfolding.proofs.Moves.{stage-length}

-- ---- notes of its own
module _ {out s : List ℕ} where
  -- as many as the most
  pub ask-outlined : {most : ℕ} {notes : List ℕ} → UnfoldWithin most out s → most ≤ nodes_room → length notes ≡ most → Unfoldable out s notes
  ask-outlined p m l =
      let n = front_length s p.formula [] p.front in
      let g = unfolded-long p.formula in
      let h = p.few in
      record { formula = p.formula; front = p.front; few = omega arith; room = p.room; beside = omega arith }

  pub ask-size : UnfoldAsk out s → SizeAsk s
  ask-size p =
      let n = front_length s p.formula [] p.front in
      let g = unfolded-long p.formula in
      let h = p.few in
      record { formula = p.formula; front = p.front; few = omega arith }

  -- what was counted says that a few do
  pub ask-small : (count : ℕ) → CountsUnfolded s count → count ≤ small_nodes → UnfoldAsk out s → UnfoldWithin small_nodes out s
  ask-small count k l p =
      let n = k p.formula p.front in
      let h = p.few in
      record { formula = p.formula; front = p.front; few = omega arith; room = p.room }

-- ---- the loop
-- s is a formula; what is written and what is still to be written is that formula unfolded, and behind it stands what stood there in out₀
pub record Going (s out₀ out notes : List ℕ) (r w k : ℕ) : Type 0 where
  pub formula : Formula
  pub front : Front s formula []
  pub tasks : List Task
  pub bytes : List ℕ
  pub stage : Stage s out notes r w k tasks bytes
  pub whole : take w out ++ bytes ≡ encode (unfolded formula)
  pub behind : drop (w + length bytes) out ≡ drop (size (unfolded formula)) out₀

pub notes-some : {out s notes : List ℕ} → Unfoldable out s notes → 0 < length notes
notes-some p = let z = size-some (unfolded p.formula) in let h = p.beside in omega arith

pub going_start : {out s notes : List ℕ} → Unfoldable out s notes → Going s out out (set notes (length notes - 1) 0) 0 0 (length notes - 1)
going_start {out} {s} {notes} p =
    let f = p.formula in
    let u = encode (unfolded f) in
    let n = notes-some p in
    let k = length notes - 1 in
    let l = length-set notes k 0 in
    let m = length-encode (unfolded f) in
    let a = p.room in
    let b = p.beside in
    let end : drop (suc k) (set notes k 0) ≡ [] = none-long (drop (suc k) (set notes k 0)) (length-drop (suc k) (set notes k 0) ∙ omega arith) in
    let head = get_or-set_same notes k 0 0 (omega arith) in
    record {
      formula = f;
      front = p.front;
      tasks = here ∷ [];
      bytes = u;
      stage =
          record {
            stack = drop-cons (set notes k 0) k 0 (omega arith) ∙ ap₂ ◌∷◌ head end;
            todo = first {e = 0 + size f} {t = here} u [] (record { begins = front-begins p.front; writes = refl; ends = refl }) (sym (append-nil u)) nothing;
            within = omega arith;
            few = p.few;
            room = omega arith;
            beside = omega arith;
            outlined = start;
          };
      whole = refl;
      behind = let e : 0 + length u ≡ size (unfolded f) = omega arith in ap (λ (i : ℕ). drop i out) e;
    }

module _ {s out₀ out notes : List ℕ} {r w k : ℕ} (g : Going s out₀ out notes r w k) where
  pub going-busy : k < length notes → Busy s out notes r w k
  going-busy h = record { tasks = g.tasks; bytes = g.bytes; stage = g.stage; more = h }

  pub going_more : {out' notes' : List ℕ} {r' w' k' : ℕ} → StageAfter s out w g.bytes out' notes' r' w' k' → Going s out₀ out' notes' r' w' k'
  going_more a = record { formula = g.formula; front = g.front; tasks = a.tasks; bytes = a.bytes; stage = a.stage; whole = a.whole ∙ g.whole; behind = a.behind ∙ g.behind }

  none_left : length notes ≤ k → g.bytes ≡ []
  none_left h = go g.tasks g.stage.todo (stage-length g.stage)
    where
      go : (ts : List Task) → Todo s r ts g.bytes → k + length ts ≡ length notes → g.bytes ≡ []
      go [] o l = last o
        where
          last : {bs : List ℕ} → Todo s r [] bs → bs ≡ []
          last nothing = refl
      go (t ∷ ts) o l = absurd (omega arith)

  -- all is written
  pub going_done : length notes ≤ k → Unfolds out₀ s out w × Outlined out notes w
  going_done h =
      let f = g.formula in
      let u = encode (unfolded f) in
      let m = length-encode (unfolded f) in
      let room = g.stage.room in
      let e : take w out ≡ u = sym (append-nil (take w out)) ∙ ap (take w out ++◌) (sym (none_left h)) ∙ g.whole in
      let z : length g.bytes ≡ 0 = ap length (none_left h) in
      let l : w ≡ size (unfolded f) = sym (length-take-le w out (omega arith)) ∙ ap length e ∙ m in
      let i : w + length g.bytes ≡ w = omega arith in
      let b : drop w out ≡ drop (size (unfolded f)) out₀ = ap (λ (i : ℕ). drop i out) (sym i) ∙ g.behind in
      let done : UnfoldedTo f out₀ out w = record { writes = l; leaves = sym (take-append-drop w out) ∙ ap₂ ◌++◌ e b } in
      (λ f' y'. subst (λ (f : Formula). UnfoldedTo f out₀ out w) (front-one-way s f f' [] [] g.front y').0 done, g.stage.outlined)
