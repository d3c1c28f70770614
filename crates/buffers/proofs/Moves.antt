-- Runs of bytes moved inside one list. `moved` is what a move leaves. A record says what a loop has done where it stands, and its laws
-- are the loop's: `Raised` a move up, from the last number to the first; `Slid` a move to the front, from the first to the last.
-- `..-more` is a turn of any width, `..-one` a turn of one. Assumes nothing.
use mathlib.Core.Path.{◌≡◌, sym, ap, ap₂, ◌∙◌}
use mathlib.Core.List.{List, ◌++◌, append_assoc}
use Prim.Native.Nat.{ℕ, ◌+◌, ◌-◌, ◌<◌, ◌≤◌}
use native.Mathlib.Nat.{add_comm}
use native.Mathlib.Numerals.{add-one}
use native.Mathlib.Omega.{arith}
use lib.ListN.{length, get_or, set, take, drop, length-append, length-drop, take-append-drop}
use lib.Seq.{drop-cons, set_split, take-append-le, drop-append-le, take-take, take-add, take_at, drop_at, drop-drop, length-take-le}
use Rattle.lists.proofs.Overlay.{overlaid}

-- ---- a run moved

-- p with its own n numbers at `from` from `to` on
abbrev pub moved : List ℕ → ℕ → ℕ → ℕ → List ℕ
moved p from to n = take to p ++ (take n (drop from p) ++ drop (to + n) p)

-- a move leaves as many numbers
moved_length : (p : List ℕ) (from to n : ℕ) → from + n ≤ length p → to + n ≤ length p → length (moved p from to n) ≡ length p
moved_length p from to n h k =
    let d = length-drop from p in
    let a = length-take-le to p (omega arith) in
    let b = length-take-le n (drop from p) (omega arith) in
    let c = length-drop (to + n) p in
    let u = length-append (take to p) (take n (drop from p) ++ drop (to + n) p) in
    let v = length-append (take n (drop from p)) (drop (to + n) p) in
    omega arith

-- a move of one number is a store
moved-one : (p : List ℕ) (from to : ℕ) → from < length p → to < length p → set p to (get_or p from 0) ≡ moved p from to 1
moved-one p from to h k = rw (set_split p to (get_or p from 0) k, drop-cons p from 0 h, add-one)

-- ---- a run moved up, from the last number to the first

-- p with all but the first i of its n numbers at `from` moved to `to`
abbrev pub raised : List ℕ → ℕ → ℕ → ℕ → ℕ → List ℕ
raised p from to n i = take (to + i) p ++ drop i (take n (drop from p) ++ drop (to + n) p)

-- q is p so far, with i numbers left to move
pub record Raised (p : List ℕ) (from to n : ℕ) (q : List ℕ) (i : ℕ) : Type 0 where
  pub up : from ≤ to
  pub room : to + n ≤ length p
  pub few : i ≤ n
  pub stands : q ≡ raised p from to n i
  pub long : length q ≡ length p

-- a run inside a front does not depend on what is behind the front
front-run : (A D E : List ℕ) (a n : ℕ) → a + n ≤ length A → take n (drop a (A ++ D)) ≡ take n (drop a (A ++ E))
front-run A D E a n h = within D ∙ sym (within E)
  where
    within : (D : List ℕ) → take n (drop a (A ++ D)) ≡ take n (drop a A)
    within D =
        let d = length-drop a A in
        ap (take n) (drop-append-le a A D (omega arith)) ∙ take-append-le n (drop a A) D (omega arith)

module _ (p : List ℕ) (from to n : ℕ) (h : from ≤ to) (k : to + n ≤ length p) where
  -- the run, and what is behind its new place
  abbrev run : List ℕ
  run = take n (drop from p) ++ drop (to + n) p

  run_length : length (take n (drop from p)) ≡ n
  run_length = let d = length-drop from p in length-take-le n (drop from p) (omega arith)

  -- a part of the run where it stands is that part of it
  run-part : (i w : ℕ) → i + w ≤ n → take w (drop (from + i) p) ≡ take w (drop i run)
  run-part i w l =
      let d = run_length in
      ap (take w) (sym (drop-drop i from p))
      ∙ ap (λ (x : List ℕ). take w (drop i x)) (sym (take-append-drop n (drop from p)))
      ∙ front-run (take n (drop from p)) (drop n (drop from p)) (drop (to + n) p) i w (omega arith)

  module _ (q : List ℕ) (i w : ℕ) (l : i + w ≤ n) (e : q ≡ raised p from to n (i + w)) where
    -- what has not been written
    abbrev front : List ℕ
    front = take (to + (i + w)) p

    front_length : length front ≡ to + (i + w)
    front_length = length-take-le (to + (i + w)) p (omega arith)

    below : take (to + i) q ≡ take (to + i) p
    below =
        let f = front_length in
        ap (take (to + i)) e ∙ take-append-le (to + i) front (drop (i + w) run) (omega arith) ∙ take-take (to + i) (to + (i + w)) p (omega arith)

    read : take w (drop (from + i) q) ≡ take w (drop i run)
    read =
        let f = front_length in
        ap (λ (x : List ℕ). take w (drop (from + i) x)) e
        ∙ front-run front (drop (i + w) run) (drop (to + (i + w)) p) (from + i) w (omega arith)
        ∙ ap (λ (x : List ℕ). take w (drop (from + i) x)) (take-append-drop (to + (i + w)) p)
        ∙ run-part i w l

    behind : drop (to + i + w) q ≡ drop w (drop i run)
    behind =
        let f = front_length in
        ap (drop (to + i + w)) e ∙ drop_at front (drop (i + w) run) (to + i + w) (omega arith) ∙ sym (drop-drop w i run)

    raised_by : moved q (from + i) (to + i) w ≡ raised p from to n i
    raised_by = ap₂ ◌++◌ below (ap₂ ◌++◌ read behind ∙ take-append-drop w (drop i run))

-- w numbers more
pub raised-more : {p : List ℕ} {from to n : ℕ} {q : List ℕ} {i : ℕ} (r : List ℕ) (w : ℕ) → Raised p from to n q i → w ≤ i → r ≡ moved q (from + (i - w)) (to + (i - w)) w
    → Raised p from to n r (i - w)
raised-more {p = p} {from = from} {to = to} {n = n} {q = q} {i = i} r w s l e =
    let z : i ≡ i - w + w = omega arith in
    let m = s.up in
    let stood = raised_by p from to n s.up s.room q (i - w) w (omega arith) (s.stands ∙ ap (raised p from to n) z) in
    record { up = s.up; room = s.room; few = omega arith; stands = e ∙ stood; long = ap length e ∙ moved_length q (from + (i - w)) (to + (i - w)) w (omega arith) (omega arith) ∙ s.long }

-- one more, by a store
pub raised-one : {p : List ℕ} {from to n : ℕ} {q : List ℕ} {i : ℕ} → Raised p from to n q i → 0 < i
    → Raised p from to n (set q (to + (i - 1)) (get_or q (from + (i - 1)) 0)) (i - 1)
raised-one {from = from} {to = to} {q = q} {i = i} s l =
    raised-more _ 1 s l (moved-one q (from + (i - 1)) (to + (i - 1)) (omega arith) (omega arith))

-- ---- a run moved to the front, from the first number to the last

-- q is p so far, with i of its n numbers at `from` in front
pub record Slid (p : List ℕ) (from n : ℕ) (q : List ℕ) (i : ℕ) : Type 0 where
  pub room : from + n ≤ length p
  pub few : i ≤ n
  pub stands : q ≡ overlaid i (drop from p) p
  pub long : length q ≡ length p

slid-by : (p q : List ℕ) (from i w : ℕ) → from + (i + w) ≤ length p → q ≡ overlaid i (drop from p) p → moved q (from + i) i w ≡ overlaid (i + w) (drop from p) p
slid-by p q from i w h e =
    let xs : List ℕ = drop from p in
    let d = length-drop from p in
    let f = length-take-le i xs (omega arith) in
    let rest : drop i q ≡ drop i p = ap (drop i) e ∙ drop_at (take i xs) (drop i p) i f in
    let behind : (k : ℕ) → drop (i + k) q ≡ drop (i + k) p = λ k. sym (drop-drop k i q) ∙ ap (drop k) rest ∙ drop-drop k i p in
    let below : drop (from + i) q ≡ drop i xs = ap (λ (k : ℕ). drop k q) (add_comm from i) ∙ behind from ∙ ap (λ (k : ℕ). drop k p) (add_comm i from) ∙ sym (drop-drop i from p) in
    ap₂ ◌++◌ (ap (take i) e ∙ take_at (take i xs) (drop i p) i f) (ap₂ ◌++◌ (ap (take w) below) (behind w))
    ∙ sym (append_assoc (take i xs) (take w (drop i xs)) (drop (i + w) p))
    ∙ ap (◌++ drop (i + w) p) (sym (take-add i w xs))

-- w numbers more
pub slid-more : {p : List ℕ} {from n : ℕ} {q : List ℕ} {i : ℕ} (r : List ℕ) (w : ℕ) → Slid p from n q i → i + w ≤ n → r ≡ moved q (from + i) i w → Slid p from n r (i + w)
slid-more {p = p} {from = from} {q = q} {i = i} r w s l e =
    let m = s.room in
    record { room = s.room; few = l; stands = e ∙ slid-by p q from i w (omega arith) s.stands; long = ap length e ∙ moved_length q (from + i) i w (omega arith) (omega arith) ∙ s.long }

-- one more, by a store
pub slid-one : {p : List ℕ} {from n : ℕ} {q : List ℕ} {i : ℕ} → Slid p from n q i → i < n → Slid p from n (set q i (get_or q (from + i) 0)) (i + 1)
slid-one {from = from} {q = q} {i = i} s l =
    slid-more _ 1 s (omega arith) (moved-one q (from + i) i (omega arith) (omega arith))
