-- What the writer leaves: a slot marked, its formula rewritten and its length put (`put-done`). Its bytes are its formula
-- (`lent-rewritable`), and what it becomes is no longer (`count-few`). Assumes nothing.
use mathlib.Core.Path.{◌≡◌, sym, ap, ◌∙◌}
use mathlib.Core.List.{List, [], ◌++◌, append-nil}
use Prim.Native.Nat.{ℕ, ◌+◌, ◌-◌, ◌<◌, ◌≤◌}
use native.Mathlib.Omega.{arith}
use lib.ListN.{length, take, drop, set}
use Rattle.limits.specs.Limits.{nodes_room}
use Rattle.lists.specs.Runs.{padded}
use Rattle.le.specs.Le.{le}
use Rattle.ltl.specs.Formula.{Formula, size, encode}
use Rattle.ltl.proofs.Decoding.{length-encode}
use Rattle.nodes.specs.Begins.{Front}
use Rattle.state.specs.declared.Counts.{Counts}
use Rattle.state.specs.Fields.{slots_in, length_in}
use Rattle.state.specs.Bytes.{formula_at}
use Rattle.state.specs.Writes.{put_at}
use Rattle.state.specs.Counted.{Spans, record_of}
use Rattle.state.proofs.Stepping.{mark-lent, step-put}
use Rattle.state.specs.Opened.{Opened}
use Rattle.checked.proofs.Lying.{slot-passing, lying, lent_is}
use Rattle.checked.proofs.Stepping.{result_fits, result-room}
use Rattle.resolving.specs.declared.Seen.{Seen}
use Rattle.resolving.specs.Settles.{held_by, settled}
use Rattle.rewriting.specs.Rewritten.{Rewritable, Rewritten}
use Rattle.settling.specs.Putting.{stepped_as}

-- ---- slot k of the state s, its nodes from `from` up to `to`, and m, where it is marked
module _ {s : List ℕ} {c : Counts} (o : Opened s c) {k : ℕ} (l : k < c.slots) {from to : ℕ} (x : Spans s k from to) {m : List ℕ}
    (marked : m ≡ set s (record_of c k + 1) 1) where
  abbrev lent : List ℕ
  lent = take (to - from) (drop from m)

  there : k < slots_in s
  there = let e = o.header.slots-are in omega arith

  marked-is : lent ≡ encode (formula_at s k)
  marked-is = mark-lent o.header k l x marked ∙ lent_is o k l x

  lent-front : Front lent (formula_at s k) []
  lent-front = record { coded = (slot-passing o k l).coded; bytes = marked-is ∙ sym (append-nil (encode (formula_at s k))) }

  pub lent-rewritable : Rewritable nodes_room lent
  lent-rewritable =
      let e = ap length marked-is ∙ length-encode (formula_at s k) ∙ sym (slot-passing o k l).length-is in
      let f = (lying o k l).few-nodes in
      record { formula = formula_at s k; front = lent-front; few = omega arith }

  module _ {seen : Seen} {y : List ℕ} {w : ℕ} (r : Rewritten seen lent y w) where
    abbrev result : Formula
    result = settled seen (formula_at s k)

    count-is : w ≡ size result
    count-is = r.count (formula_at s k) lent-front

    pub count-few : w ≤ nodes_room
    count-few = let f = (lying o k l).few-nodes in omega (arith, count-is, result_fits s o.passes k there seen.event (held_by seen))

    bytes-are : y ≡ padded (length_in s k) (encode result)
    bytes-are =
        r.bytes (formula_at s k) lent-front
        ∙ ap (λ (i : ℕ). padded i (encode result)) (ap length marked-is ∙ length-encode (formula_at s k) ∙ sym (slot-passing o k l).length-is)

    pub put-done : {t u : List ℕ} → t ≡ take from m ++ (y ++ drop (to - from) (drop from m)) → u ≡ put_at (record_of c k + 4) (le 2 w) t → u ≡ stepped_as result s k
    put-done {t} put last =
        step-put o.header k l x marked (padded (length_in s k) (encode result)) (size result) (result-room s o.passes k there seen.event (held_by seen))
        (put ∙ ap (λ (z : List ℕ). take from m ++ (z ++ drop (to - from) (drop from m))) bytes-are)
        (last ∙ ap (λ (i : ℕ). put_at (record_of c k + 4) (le 2 i) t) count-is)
