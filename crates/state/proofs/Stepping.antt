-- A slot's step as it is put: the mark is set, which leaves the slot's nodes as they are (`mark-lent`), then the nodes are put and then
-- their number, and that is `slot_stepped` (`step-put`). Assumes nothing.
use mathlib.Core.Path.{◌≡◌, sym, ap, ap₂, ◌∙◌}
use mathlib.Core.List.{List, ◌++◌, append_assoc}
use Prim.Native.Nat.{ℕ, ◌+◌, ◌-◌, ◌<◌, ◌≤◌}
use native.Mathlib.Omega.{arith}
use native.Mathlib.Nat.{zero-add}
use lib.ListN.{length, take, drop, set, length-append, length-set}
use lib.Seq.{drop_at, drop-drop, drop-set-lt, length-take-le, take-take, take-append-le, drop-append-le, take-append-add, drop-append-add}
use Rattle.lists.proofs.Stretches.{take-two}
use Rattle.le.specs.Le.{le}
use Rattle.le.proofs.Laws.{le-length}
use Rattle.state.specs.declared.Counts.{Counts}
use Rattle.state.specs.Form.{slot_row}
use Rattle.state.specs.Fields.{slot_record_at, nodes_from, start_in, length_in}
use Rattle.state.specs.Writes.{put_at, slot_stepped}
use Rattle.state.specs.Counted.{Header, Spans, record_of}
use Rattle.state.proofs.Places.{record_is}

-- ---- bytes put in two places, in either order
module _ (s xs ys : List ℕ) (a b : ℕ) (apart : a + length xs ≤ b) (room : b + length ys ≤ length s) where
  abbrev low : List ℕ
  low = take a s ++ xs

  abbrev behind : List ℕ
  behind = drop (a + length xs) s

  abbrev back : List ℕ
  back = ys ++ drop (b + length ys) s

  abbrev between : ℕ
  between = b - (a + length xs)

  low-length : length low ≡ a + length xs
  low-length = omega (arith, length-append (take a s) xs, length-take-le a s (omega arith))

  middle : drop (a + length xs) (take b s) ≡ take between behind
  middle =
      let c = a + length xs in
      let e : b ≡ c + between = omega arith in
      ap (drop c) (ap (λ (i : ℕ). take i s) e ∙ take-two s 0 c between)
      ∙ drop_at (take c s) (take between (drop (0 + c) s)) c (length-take-le c s (omega arith))
      ∙ ap (λ (i : ℕ). take between (drop i s)) (zero-add c)

  put-swap : put_at a xs (put_at b ys s) ≡ put_at b ys (put_at a xs s)
  put-swap =
      let front = length-take-le b s (omega arith) in
      let l = low-length in
      let start : b ≡ length low + between = omega arith in
      let end : b + length ys ≡ length low + (between + length ys) = omega arith in
      let last : a + length xs + (between + length ys) ≡ b + length ys = omega arith in
      let whole : put_at a xs s ≡ low ++ behind = sym (append_assoc (take a s) xs behind) in
      ap₂ (λ (x y : List ℕ). x ++ (xs ++ y))
      (take-append-le a (take b s) back (omega arith) ∙ take-take a b s (omega arith))
      (drop-append-le (a + length xs) (take b s) back (omega arith) ∙ ap (◌++ back) middle)
      ∙ sym (append_assoc (take a s) xs (take between behind ++ back))
      ∙ sym (append_assoc low (take between behind) back)
      ∙ sym
      (ap₂ (λ (x y : List ℕ). x ++ (ys ++ y))
      (ap₂ take start whole ∙ take-append-add low behind between)
      (ap₂ drop end whole ∙ drop-append-add low behind (between + length ys) ∙ drop-drop (between + length ys) (a + length xs) s ∙ ap (λ (i : ℕ). drop i s) last))

-- ---- a slot, its nodes from `from` up to `to`, in a state m that has its mark
module _ {s : List ℕ} {c : Counts} (h : Header s c) (k : ℕ) (there : k < c.slots) {from to : ℕ} (x : Spans s k from to) {m : List ℕ}
    (marked : m ≡ set s (record_of c k + 1) 1) where
  -- its record is before its nodes
  record-before : record_of c k + slot_row ≤ from
  record-before = let a = h.records-at in let b = h.slots-are in let f = x.from_is in omega arith

  -- its nodes, as they are lent
  pub mark-lent : take (to - from) (drop from m) ≡ take (to - from) (drop from s)
  mark-lent =
      let r = record-before in
      ap (λ (z : List ℕ). take (to - from) (drop from z)) marked ∙ ap (take (to - from)) (drop-set-lt from s (record_of c k + 1) 1 (omega arith))

  pub step-put : {t u : List ℕ} (bytes : List ℕ) (n : ℕ) → length bytes ≡ length_in s k → t ≡ take from m ++ (bytes ++ drop (to - from) (drop from m))
      → u ≡ put_at (record_of c k + 4) (le 2 n) t → u ≡ slot_stepped s k n bytes
  unfolding slot_stepped
  step-put bytes n many put last =
      let r = record-before in
      let w = x.within in
      let a = x.from_is in
      let b = x.to_is in
      let node = nodes_from s + start_in s k in
      let two = le-length 2 n in
      let long = ap length marked ∙ length-set s (record_of c k + 1) 1 in
      let end : from + (to - from) ≡ from + length bytes = omega arith in
      last
      ∙ ap (put_at (record_of c k + 4) (le 2 n)) (put ∙ ap (λ (z : List ℕ). take from m ++ (bytes ++ z)) (drop-drop (to - from) from m ∙ ap (λ (i : ℕ). drop i m) end))
      ∙ put-swap m (le 2 n) bytes (record_of c k + 4) from (omega arith) (omega arith)
      ∙ ap₂ (λ (i j : ℕ). put_at i bytes (put_at (j + 4) (le 2 n) m)) a (record_is h k)
      ∙ ap (λ (z : List ℕ). put_at node bytes (put_at (slot_record_at s k + 4) (le 2 n) z)) (marked ∙ ap (λ (j : ℕ). set s (j + 1) 1) (record_is h k))
