-- From stage to stage. `Ahead` is what is ahead once some bytes are written; `ahead-room` says that there is room for them, and what they
-- leave is a stage again, where they are one plain byte (`plain-after`) or a formula under next (`copy-room`, `copy-after`). `stage-length`: how many
-- tasks there are; `todo-few`: no more than bytes are to be written. Assumes nothing.
use mathlib.Core.Path.{◌≡◌, refl, sym, ap, ap₂, ◌∙◌, subst}
use mathlib.Core.Bool.{false}
use mathlib.Core.List.{List, [], ◌∷◌, ◌++◌, map, append_assoc}
use Prim.Native.Nat.{ℕ, ◌+◌, ◌<◌, ◌≤◌}
use native.Mathlib.Numerals.{add-one}
use native.Mathlib.Omega.{arith}
use lib.ListN.{length, get_or, set, take, drop, length-append, length-drop, length-map, length-set}
use lib.Seq.{take_at, drop_at, drop-drop, length-take-le, set_split, get_or-set_same, take-set-le, drop-set-lt}
use Rattle.kinds.specs.Kinds.{kind_of}
use Rattle.ltl.specs.Formula.{Formula, size, encode}
use Rattle.ltl.specs.Progression.{unfolded}
use Rattle.ltl.proofs.Decoding.{size-some, length-encode}
use Rattle.nodes.specs.Begins.{Front}
use Rattle.nodes.proofs.Fronts.{front_length, front-own}
use Rattle.outlining.specs.Outlined.{whole_kind, Outlined}
use Rattle.unfolding.specs.Tasks.{Task, here, ever_end, until_left, until_end, task_code, Does, Todo, nothing, first}
use Rattle.unfolding.specs.Stages.{Stage, StageAfter}
use Rattle.outlining.proofs.Outlines.{outlined-same}
use Rattle.lists.proofs.Drops.{unmoved, front_less}
use Rattle.unfolding.proofs.Outlinings.{grown-plain, grown-next}

-- a formula that stands at a place of s ends inside it
pub front-within : (s : List ℕ) (a : ℕ) {f : Formula} {rest : List ℕ} → Front (drop a s) f rest → a + size f ≤ length s
front-within s a {f} {rest} y =
    let l = front_length (drop a s) f rest y in
    let d = length-drop a s in
    let z = size-some f in
    omega arith

-- ---- how many tasks there are
does-some : (s : List ℕ) (r : ℕ) (t : Task) (xs : List ℕ) (e : ℕ) → Does s r t xs e → 0 < length xs
does-some s r here xs e d =
    let f = unfolded d.begins.formula in
    let l = ap length d.writes ∙ length-encode f in
    let z = size-some f in
    omega arith
does-some s r (ever_end a) xs e d = let l = ap length d.0.writes in omega arith
does-some s r (until_left a) xs e d = let l = ap length d.writes in omega arith
does-some s r (until_end a) xs e d = let l = ap length d.writes in omega arith

pub todo-few : {s : List ℕ} {r : ℕ} {ts : List Task} {bs : List ℕ} → Todo s r ts bs → length ts ≤ length bs
todo-few nothing = omega arith
todo-few {s} (first {r = r} {e = e} {t = t} xs rest d q o) =
    let z = does-some s r t xs e d in
    let l = ap length q ∙ length-append xs rest in
    let f = todo-few o in
    omega arith

pub stage-length : {s out notes : List ℕ} {r w k : ℕ} {ts : List Task} {bs : List ℕ} → Stage s out notes r w k ts bs → k + length ts ≡ length notes
stage-length {notes = notes} {k = k} {ts = ts} x =
    let d = length-drop k notes in
    let l = ap length x.stack ∙ length-map ts task_code in
    let h = x.within in
    omega arith

-- ---- y was written at w
record Written (out out' y : List ℕ) (w w' : ℕ) : Type 0 where
  before : take w out ≡ take w out'
  front : take w' out' ≡ take w out ++ y
  behind : drop w' out' ≡ drop (w + length y) out
  long : length out' ≡ length out

written : (out out' y : List ℕ) (w w' : ℕ) → w + length y ≤ length out → out' ≡ take w out ++ (y ++ drop (w + length y) out) → w' ≡ w + length y → Written out out' y w w'
written out out' y w w' h o v =
    let back = drop (w + length y) out in
    let t = length-take-le w out (omega arith) in
    let l : length (take w out ++ y) ≡ w + length y = length-append (take w out) y ∙ ap (◌+ length y) t in
    let e : out' ≡ (take w out ++ y) ++ back = o ∙ sym (append_assoc (take w out) y back) in
    let d = length-drop (w + length y) out in
    let n = ap length e ∙ length-append (take w out ++ y) back in
    record {
      before = sym (ap (take w) o ∙ take_at (take w out) (y ++ back) w t);
      front = ap₂ take v e ∙ take_at (take w out ++ y) back (w + length y) l;
      behind = ap₂ drop v e ∙ drop_at (take w out ++ y) back (w + length y) l;
      long = omega arith;
    }

-- ---- what is ahead
-- y is written first, then the tasks us write the rest, from r' on
pub record Ahead (s bs y : List ℕ) (us : List Task) (r' : ℕ) : Type 0 where
  pub bytes : List ℕ
  pub split : bs ≡ y ++ bytes
  pub todo : Todo s r' us bytes

-- room for y, beside the notes and in front of the tasks
pub record AheadRoom (out notes : List ℕ) (w k : ℕ) (ts : List Task) (y : List ℕ) (us : List Task) : Type 0 where
  pub inside : w + length y ≤ length out
  pub apart : w + length y + length us ≤ length notes
  pub stacked : k + length ts ≡ length notes

module _ {s out notes : List ℕ} {r w k : ℕ} {ts : List Task} {bs : List ℕ} (x : Stage s out notes r w k ts bs)
    {y : List ℕ} {us : List Task} {r' : ℕ} (a : Ahead s bs y us r') where
  pub ahead-room : AheadRoom out notes w k ts y us
  ahead-room =
      let l = ap length a.split ∙ length-append y a.bytes in
      let f = todo-few a.todo in
      let h = x.room in
      let g = x.beside in
      record { inside = omega arith; apart = omega arith; stacked = stage-length x }

  stage-after : {out' notes' : List ℕ} {w' k' : ℕ} → out' ≡ take w out ++ (y ++ drop (w + length y) out) → w' ≡ w + length y → 0 < length y → length notes' ≡ length notes → take w notes ≡ take w notes' → drop k' notes' ≡ map task_code us → k' ≤ length notes
      → (Outlined out' notes' w → Outlined out' notes' w') → StageAfter s out w bs out' notes' r' w' k'
  stage-after {out'} {notes'} {w'} o v some long front stack h grows =
      let put = written out out' y w w' ahead-room.inside o v in
      let bytes = a.bytes in
      let l = ap length a.split ∙ length-append y bytes in
      let n = put.long in
      let p = x.room in
      let q = x.beside in
      record {
        tasks = us;
        bytes = bytes;
        stage =
            record {
              stack = stack;
              todo = a.todo;
              within = omega arith;
              few = x.few;
              room = omega arith;
              beside = omega arith;
              outlined = grows (outlined-same put.before front x.outlined);
            };
        further = omega arith;
        whole = ap (◌++ bytes) put.front ∙ append_assoc (take w out) y bytes ∙ ap (take w out ++◌) (sym a.split);
        behind =
            let m : w + length y + length bytes ≡ w + length bs = omega arith in
            sym (drop-drop (length bytes) w' out') ∙ ap (drop (length bytes)) put.behind ∙ drop-drop (length bytes) (w + length y) out ∙ ap (λ (i : ℕ). drop i out) m;
      }

-- ---- a plain byte
module _ {s out notes : List ℕ} {r w k : ℕ} {ts : List Task} {bs : List ℕ} (x : Stage s out notes r w k ts bs)
    {b : ℕ} {us : List Task} {r' : ℕ} (a : Ahead s bs (b ∷ []) us r') where
  pub plain-after : whole_kind (kind_of b) ≡ false → {out' notes' : List ℕ} {k' : ℕ} → out' ≡ set out w b → length notes' ≡ length notes → take (w + 1) notes' ≡ take (w + 1) (set notes w 0)
      → drop k' notes' ≡ map task_code us → k' ≤ length notes → StageAfter s out w bs out' notes' r' (w + 1) k'
  plain-after kind {out'} {notes'} {k'} e long front stack h =
      let room = ahead-room x a in
      let i : w < length out = let q = room.inside in omega arith in
      let j : w < length notes = let q = room.apart in omega arith in
      let o : out' ≡ take w out ++ ((b ∷ []) ++ drop (w + 1) out) = e ∙ set_split out w b i ∙ ap (λ (n : ℕ). take w out ++ (b ∷ drop n out)) (sym (add-one w)) in
      let at : get_or out' w 0 ≡ b = ap (λ (l : List ℕ). get_or l w 0) e ∙ get_or-set_same out w b 0 i in
      let note : get_or notes' w 0 ≡ 0 = unmoved notes' (set notes w 0) (w + 1) w front (omega arith) ∙ get_or-set_same notes w 0 0 j in
      let before : take w notes ≡ take w notes' = sym (front_less notes' (set notes w 0) (w + 1) w front (omega arith) ∙ take-set-le w notes w 0 (omega arith)) in
      stage-after x a o refl (omega arith) long before stack h
      (λ p. grown-plain p (ap (λ (c : ℕ). whole_kind (kind_of c)) at ∙ kind) note)

-- ---- a formula under next
-- the formula at a is n bytes long and ends at e: it is written under next, and then what ts write
pub record CopyAt (s : List ℕ) (a n e : ℕ) (ts : List Task) (bs : List ℕ) : Type 0 where
  pub formula : Formula
  pub rest : List ℕ
  pub front : Front (drop a s) formula rest
  pub long : n ≡ size formula
  pub ends : e ≡ a + n
  pub ahead : Ahead s bs (5 ∷ encode formula) ts e

module _ {s out notes : List ℕ} {r w k : ℕ} {t : Task} {ts : List Task} {bs : List ℕ} (x : Stage s out notes r w k (t ∷ ts) bs)
    {a n e : ℕ} (c : CopyAt s a n e ts bs) where
  abbrev Y : List ℕ
  Y = 5 ∷ encode c.formula

  y-length : length Y ≡ 1 + n
  y-length = let l = length-encode c.formula in let m = c.long in omega arith

  pub copy-room : (w + n < length out) × (w + n < length notes) × (a + n ≤ length s) × (n < 65535)
  copy-room =
      let m = ahead-room x c.ahead in
      let i = m.inside in
      let j = m.apart in
      let l = y-length in
      let z = front-within s a c.front in
      let p = c.long in
      let q = x.few in
      (omega arith, omega arith, omega arith, omega arith)

  pub copy-after : {out' notes' : List ℕ} {w' : ℕ} → w' ≡ w + 1 + n → out' ≡ take w out ++ ((5 ∷ take n (drop a s)) ++ drop (w + 1 + n) out) → notes' ≡ set notes (w + n) (n + 1)
      → StageAfter s out w bs out' notes' e w' (k + 1)
  copy-after {out'} {notes'} {w'} v o m =
      let f = c.formula in
      let room = copy-room in
      let l = y-length in
      let long = c.long in
      let own : take n (drop a s) ≡ encode f = ap (λ (i : ℕ). take i (drop a s)) long ∙ front-own (drop a s) f c.rest c.front in
      let q : w + 1 + n ≡ w + length Y = omega arith in
      let p : out' ≡ take w out ++ (Y ++ drop (w + length Y) out) = o ∙ ap₂ (λ (u : List ℕ) (i : ℕ). take w out ++ ((5 ∷ u) ++ drop i out)) own q in
      let before : take w notes ≡ take w notes' = sym (ap (take w) m ∙ take-set-le w notes (w + n) (n + 1) (omega arith)) in
      let apart : w + n < k + 1 = let g = ahead-room x c.ahead in let i = g.apart in let j = g.stacked in omega arith in
      let stack : drop (k + 1) notes' ≡ map task_code ts = ap (drop (k + 1)) m ∙ drop-set-lt (k + 1) notes (w + n) (n + 1) apart ∙ sym (drop-drop 1 k notes) ∙ ap (drop 1) x.stack in
      let note : get_or notes' (w + size f) 0 ≡ size f + 1 =
      ap₂ (λ (i : ℕ) (u : List ℕ). get_or u (w + i) 0) (sym long) m ∙ get_or-set_same notes (w + n) (n + 1) 0 room.1 ∙ ap (◌+ 1) long in
      let ends : w + 1 + size f ≡ w' = omega arith in
      stage-after x c.ahead p (v ∙ q) (omega arith) (ap length m ∙ length-set notes (w + n) (n + 1)) before stack (let j = stage-length x in omega arith)
      (λ u. subst (λ (i : ℕ). Outlined out' notes' i) ends (grown-next u f c.front.coded (under p) note))
    where
      under : {out' : List ℕ} → out' ≡ take w out ++ (Y ++ drop (w + length Y) out) → take (1 + size c.formula) (drop w out') ≡ Y
      under p =
          let b = length-take-le w out (let g = copy-room.0 in omega arith) in
          let l = y-length in
          let long = c.long in
          ap (λ (u : List ℕ). take (1 + size c.formula) (drop w u)) p
          ∙ ap (take (1 + size c.formula)) (drop_at (take w out) (Y ++ drop (w + length Y) out) w b)
          ∙ take_at Y (drop (w + length Y) out) (1 + size c.formula) (omega arith)
