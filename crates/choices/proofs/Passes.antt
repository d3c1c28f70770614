-- The loop from the last node to the first, over plain lists: `marked_start` and `marked-end` are its ends, `turn-ask` and `turn-done`
-- its turn. At most one part waits for every two nodes and one more, so that there is always room (`few-wait`). Assumes nothing.
use mathlib.Core.Path.{◌≡◌, sym, ap, ◌∙◌, subst}
use mathlib.Core.List.{List, [], ◌∷◌}
use Prim.Native.Nat.{ℕ, zero, suc, ◌+◌, ◌-◌, ◌*◌, ◌<◌, ◌≤◌}
use native.Mathlib.Omega.{arith}
use lib.ListN.{length, get_or, drop, length-drop}
use lib.Seq.{get_or-drop}
use Rattle.ltl.specs.Formula.{Formula, leaf, one, two, size, Within}
use Rattle.ltl.proofs.Decoding.{size-some, first-is}
use Rattle.network.specs.Scores.{chosen}
use Rattle.nodes.specs.Begins.{Front}
use Rattle.nodes.proofs.Fronts.{front_length, front-one-way}
use Rattle.peeling.specs.Peeled.{encodes, peel, peeled}
use Rattle.peeling.proofs.Peels.{encodes_more, whole-left, whole-end, HeadAt, head_at}
use Rattle.choices.specs.Marks.{Marks, Marked}
use Rattle.choices.specs.Waiting.{AllWait, MarkNodeAt, MarkNodeAsk, MarksNode, MarkedTo, MarkAsk}

-- ---- how many wait
peel-few : (fs : List Formula) → length (peel fs) ≤ 1 + length fs
peel-few [] = omega arith
peel-few (leaf a ∷ fs) = omega arith
peel-few (one o f ∷ fs) = omega arith
peel-few (two o f g ∷ fs) = omega arith

peeled-few : (i : ℕ) (fs : List Formula) → length (peeled i fs) ≤ i + length fs
peeled-few zero fs = omega arith
peeled-few (suc i) fs = let a = peel-few (peeled i fs) in let b = peeled-few i fs in omega arith

encodes-some : (fs : List Formula) → length fs ≤ length (encodes fs)
encodes-some [] = omega arith
encodes-some (f ∷ fs) = let a = encodes_more f fs in let b = size-some f in let c = encodes-some fs in omega arith

few-wait : {s : List ℕ} {f : Formula} → Front s f [] → (i : ℕ) → i ≤ length s → 2 * length (peeled i (f ∷ [])) ≤ length s + 1
few-wait {s} {f} x i h =
    let a = peeled-few i (f ∷ []) in
    let b = encodes-some (peeled i (f ∷ [])) in
    let c = whole-left x i h in
    omega arith

-- ---- a turn: the node below i
module _ {f : Formula} {s owner marks raw opened : List ℕ} {i t : ℕ} (h : MarkedTo f s owner marks raw opened i t) (some : 0 < i) where
  here : HeadAt f s (i - 1)
  here = head_at h.formula (i - 1) (let a = h.inside in omega arith)

  up : suc (i - 1) ≡ i
  up = omega arith

  behind-is : peeled i (f ∷ []) ≡ peel (here.head ∷ here.others)
  behind-is = ap (λ (n : ℕ). peeled n (f ∷ [])) (sym up) ∙ ap peel here.is

  behind-many : length (peeled i (f ∷ [])) ≡ length (peel (here.head ∷ here.others))
  behind-many = ap (λ (l : List Formula). length l) behind-is

  turn_at : MarkNodeAt here.head here.others (get_or s (i - 1) 0) (i - 1) owner marks raw opened t
  turn_at =
      let z : i - 1 + 0 ≡ i - 1 = omega arith in
      let y : i ≡ i - 1 + 1 = omega arith in
      record {
        byte = ap (λ (k : ℕ). get_or s k 0) (sym z) ∙ sym (get_or-drop (i - 1) s 0 0) ∙ ap (λ (l : List ℕ). get_or l 0 0) here.front.bytes ∙ first-is here.head (encodes here.others);
        coded = here.front.coded;
        waits = subst (λ (n : ℕ). AllWait owner (peel (here.head ∷ here.others)) raw opened marks t n) y (subst (λ (l : List Formula). AllWait owner l raw opened marks t i) behind-is h.waits);
      }

  turn_inside : i - 1 + size here.head ≤ length s
  turn_inside = let a = front_length (drop (i - 1) s) here.head (encodes here.others) here.front in let b = length-drop (i - 1) s in let c = h.inside in omega arith

  turn-few : 2 * length (here.head ∷ here.others) ≤ length s + 1
  turn-few = subst (λ (l : List Formula). 2 * length l ≤ length s + 1) here.is (few-wait h.formula (i - 1) (let c = h.inside in omega arith))

  pub turn-ask : {marks₀ raw₀ opened₀ : List ℕ} → MarkAsk s owner marks₀ raw₀ opened₀ → length marks ≡ length marks₀ → length raw ≡ length raw₀ → length opened ≡ length opened₀
      → MarkNodeAsk (get_or s (i - 1) 0) (i - 1) owner marks raw opened t
  turn-ask a lm lr lo =
      let b = a.beside in
      let c = a.few in
      let d = a.raw-room in
      let e = a.opened-room in
      let n = behind-many in
      let p = h.place in
      let q = turn_inside in
      let l = turn-few in
      record { g = here.head; gs = here.others; at = turn_at; table = a.table; inside = omega arith; few = omega arith; raw-fits = omega arith; opened-fits = omega arith; low = omega arith }

  pub turn-done : {marks' raw' opened' : List ℕ} {u : ℕ} → length s ≤ length marks → MarksNode (get_or s (i - 1) 0) (i - 1) owner marks raw opened t marks' raw' opened' u
      → MarkedTo f s owner marks' raw' opened' (i - 1) u
  turn-done {marks'} {raw'} {opened'} {u} lm m =
      let a = h.inside in
      let q = turn_inside in
      let r = m here.head here.others turn_at (omega arith) in
      let n = behind-many in
      let k : length (peeled (i - 1) (f ∷ [])) ≡ length (here.head ∷ here.others) = ap (λ (l : List Formula). length l) here.is in
      let p = h.place in
      let v = r.1 in
      record {
        formula = h.formula;
        inside = omega arith;
        place = omega arith;
        waits = subst (λ (l : List Formula). AllWait owner l raw' opened' marks' u (i - 1)) (sym here.is) r.0;
      }

-- ---- the ends of the loop
pub marked_start : {s owner marks raw opened : List ℕ} (a : MarkAsk s owner marks raw opened) → MarkedTo a.formula s owner marks raw opened (length s) (8 * (length s + 1))
marked_start {s} {owner} {marks} {raw} {opened} a =
    let e = whole-end a.front in
    let n : length (peeled (length s) (a.formula ∷ [])) ≡ 0 = ap (λ (l : List Formula). length l) e in
    record {
      formula = a.front;
      inside = omega arith;
      place = omega arith;
      waits = subst (λ (l : List Formula). AllWait owner l raw opened marks (8 * (length s + 1)) (length s)) (sym e) tt;
    }

-- all nodes are read
pub marked-end : {f : Formula} {s owner marks raw opened : List ℕ} {i t : ℕ} → MarkedTo f s owner marks raw opened i t → i ≡ 0 → Marks owner s marks
marked-end {f} {s} {owner} {marks} {raw} {opened} {i} {t} h e g x p q masks o w =
    let y = (front-one-way s f g [] [] h.formula x).0 in
    let v : AllWait owner (f ∷ []) raw opened marks t 0 = subst (λ (n : ℕ). AllWait owner (peeled n (f ∷ [])) raw opened marks t n) e h.waits in
    subst (λ (z : Formula). Within p q z → Marked (chosen masks) marks 0 z) y (v.0.marked p q masks o) w
