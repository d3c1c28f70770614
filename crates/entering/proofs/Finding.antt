-- Which entry a slot is, by tokens and stamps: `entry-stamp`, `entry-count` and `entry-tokens` are the answers of one comparison;
-- `EntriesPassed` is what has been found so far of all entries, `found_at` and `found_none` are the answers. Assumes nothing.
use mathlib.Core.Path.{◌≡◌, sym, ap, ◌∙◌, subst}
use mathlib.Core.Bool.{Bool, true, false}
use mathlib.Core.Logic.{⊎_elim}
use mathlib.Core.List.{List}
use Prim.Native.Nat.{ℕ, suc, ◌+◌, ◌-◌, ◌<◌, ◌≤◌}
use native.Mathlib.Nat.{eq-or-lt_of_le}
use native.Mathlib.Numerals.{add-one}
use native.Mathlib.Omega.{arith}
use lib.ListN.{length, get_or, take, drop}
use lib.Seq.{take-add, drop_at, length-take-le}
use Rattle.lists.proofs.Tests.{no_true}
use Rattle.ltl.specs.Formula.{size, same}
use Rattle.ltl.proofs.Equal.{same-eq, same_refl}
use Rattle.network.specs.Layout.{Slot, slot_at}
use Rattle.registers.specs.Outer.{outer}
use Rattle.tokens.specs.Tokens.{Spelt}
use Rattle.tokens.specs.Kept.{stamp_of, entry_tokens, EntryKept}
use Rattle.tokens.proofs.Stamps.{stamp-one}
use Rattle.entering.specs.Comparing.{run_of, RunsAsk, RunsTold}
use Rattle.entering.specs.Entries.{Entering, EntryAsk, EntryTold, FindsEntry}
use Rattle.entering.proofs.Outers.{spelt-outer, entry-outer}
use Rattle.entering.proofs.Registers.{Before, entry_at, entry-end}

-- the run of tokens of an entry
run_is : (bodies : List ℕ) (a b n : ℕ) → a ≤ b → b ≤ length bodies → b - a ≡ n → drop a (take b bodies) ≡ run_of bodies a n
run_is bodies a b n h k e =
    let z : b ≡ a + n = omega arith in
    ap (λ (m : ℕ). drop a (take m bodies)) z
    ∙ ap (drop a) (take-add a n bodies)
    ∙ drop_at (take a bodies) (take n (drop a bodies)) a (length-take-le a bodies (omega arith))

-- ---- one entry
module _ (bytes marks tokens : List ℕ) (stamp : ℕ) (bodies places stamps : List ℕ) (k : ℕ) where
  -- an entry that is not the slot
  abbrev Other : Type 0
  Other =
      (entries : ℕ) (reg : List Slot) (s : Slot) → Entering bytes marks tokens stamp entries bodies places stamps reg s → k < entries → slot_at reg k ≡ s → ⊥

  told-other : Other → EntryTold bytes marks tokens stamp bodies places stamps k false
  told-other h = record { is = λ q. absurd (no_true q); other = λ q. h }

  -- what is known of it
  entry_kept : (entries : ℕ) (reg : List Slot) (s : Slot) → Entering bytes marks tokens stamp entries bodies places stamps reg s → k < entries
      → EntryKept bytes marks bodies places stamps k (slot_at reg k)
  entry_kept entries reg s x l = x.kept.each k (let c = x.count in omega arith)

  pub entry-stamp : (get_or stamps k 0 ≡ stamp → ⊥) → EntryTold bytes marks tokens stamp bodies places stamps k false
  entry-stamp h =
      told-other
      (λ entries reg s x l e.
      h ((entry_kept entries reg s x l).stamp-is ∙ ap (λ (t : Slot). stamp_of t.board (size t.formula)) e ∙ sym x.stamp-is))

  module _ (from end : ℕ) (p : from ≡ get_or places k 0) (q : end ≡ get_or places (k + 1) 0) where
    next : end ≡ get_or places (suc k) 0
    next = q ∙ ap (λ (j : ℕ). get_or places j 0) (add-one k)

    -- the entry's tokens begin before they end
    pub entry-begins : EntryAsk bytes marks tokens stamp bodies places stamps k → from ≤ end
    entry-begins a =
        let e = (entry_kept a.entries a.ask.register a.ask.slot a.ask.entering a.below).begins in
        let n = next in
        omega arith

    pub entry-count : (end - from ≡ length tokens → ⊥) → EntryTold bytes marks tokens stamp bodies places stamps k false
    entry-count h =
        told-other
        (λ entries reg s x l e.
        let n = next in
        let v = spelt-outer bytes marks x.spelt in
        let w = entry-outer bytes marks bodies places stamps reg x.kept k (let c = x.count in omega arith) in
        let z = ap (λ (t : Slot). outer t.formula) e in
        h (omega arith))

    module _ (c : end - from ≡ length tokens) where
      own-run : (s : Slot) → EntryKept bytes marks bodies places stamps k s → Spelt bytes marks s.formula (run_of bodies from (length tokens))
      own-run s y =
          let n = next in
          let b = y.begins in
          let own : entry_tokens places bodies k ≡ run_of bodies from (length tokens) =
          run_is bodies (get_or places k 0) (get_or places (suc k) 0) (length tokens) y.begins y.inside (omega arith) ∙ ap (λ (j : ℕ). run_of bodies j (length tokens)) (sym p) in
          subst (Spelt bytes marks s.formula) own y.spelt

      -- its tokens can be compared
      pub entry-asks : EntryAsk bytes marks tokens stamp bodies places stamps k → RunsAsk bytes marks bodies from tokens
      entry-asks a =
          let x = a.ask.entering in
          let y = entry_kept a.entries a.ask.register a.ask.slot x a.below in
          let n = next in
          let i = y.inside in
          let b = y.begins in
          record {
            marked = a.ask.marked;
            room = omega arith;
            left = record { formula = a.ask.slot.formula; coded = x.coded; spelt = x.spelt };
            right = record { formula = (slot_at a.ask.register k).formula; coded = y.coded; spelt = own-run (slot_at a.ask.register k) y };
          }

      pub entry-tokens : get_or stamps k 0 ≡ stamp → (r : Bool) → RunsTold bytes marks bodies from tokens r → EntryTold bytes marks tokens stamp bodies places stamps k r
      entry-tokens d r told = record { is = equal; other = unequal }
        where
          both-same : (entries : ℕ) (reg : List Slot) (s : Slot) → Entering bytes marks tokens stamp entries bodies places stamps reg s → k < entries
              → r ≡ same s.formula (slot_at reg k).formula
          both-same entries reg s x l =
              let y = entry_kept entries reg s x l in
              told s.formula (slot_at reg k).formula x.coded y.coded x.spelt (own-run (slot_at reg k) y)

          equal : r ≡ true → (entries : ℕ) (reg : List Slot) (s : Slot) → Entering bytes marks tokens stamp entries bodies places stamps reg s → k < entries → slot_at reg k ≡ s
          equal w entries reg s x l =
              let y = entry_kept entries reg s x l in
              let f = same-eq s.formula (slot_at reg k).formula (sym (both-same entries reg s x l) ∙ w) in
              let m = x.there in
              let n = y.there in
              let b = (stamp-one s.board (slot_at reg k).board (size s.formula) (size (slot_at reg k).formula) (omega arith) (omega arith)
              (sym x.stamp-is ∙ sym d ∙ y.stamp-is)).0 in
              λ i. record { board = sym b i; formula = sym f i }

          unequal : r ≡ false → Other
          unequal w entries reg s x l e =
              no_true
              (sym w ∙ both-same entries reg s x l ∙ ap (λ (t : Slot). same s.formula t.formula) e ∙ same_refl s.formula)

-- ---- all of them
-- the slot is none of the first k entries
pub record EntriesPassed (bytes marks tokens : List ℕ) (stamp entries : ℕ) (bodies places stamps : List ℕ) (k : ℕ) : Type 0 where
  pub none : (reg : List Slot) (s : Slot) → Entering bytes marks tokens stamp entries bodies places stamps reg s → Before s reg k

module _ (bytes marks tokens : List ℕ) (stamp entries : ℕ) (bodies places stamps : List ℕ) where
  pub passed_none : EntriesPassed bytes marks tokens stamp entries bodies places stamps 0
  passed_none = record { none = λ reg s x j h. absurd (omega arith) }

  pub passed-more : (k : ℕ) → k < entries → EntriesPassed bytes marks tokens stamp entries bodies places stamps k → (r : Bool) → r ≡ false
      → EntryTold bytes marks tokens stamp bodies places stamps k r → EntriesPassed bytes marks tokens stamp entries bodies places stamps (k + 1)
  passed-more k l p r w t =
      record {
        none = λ reg s x j h.
            let m : j ≤ k = omega arith in
            ⊎_elim (λ z e. t.other w entries reg s x l (ap (slot_at reg) (sym z) ∙ e)) (p.none reg s x j) (eq-or-lt_of_le m);
      }

  pub found_at : (k : ℕ) → k < entries → EntriesPassed bytes marks tokens stamp entries bodies places stamps k → (r : Bool) → r ≡ true
      → EntryTold bytes marks tokens stamp bodies places stamps k r → FindsEntry bytes marks tokens stamp entries bodies places stamps k
  found_at k l p r w t reg s x =
      sym (entry_at s reg k (let c = x.count in omega arith) (t.is w entries reg s x l) (p.none reg s x))

  pub found_none : (k : ℕ) → entries ≤ k → EntriesPassed bytes marks tokens stamp entries bodies places stamps k
      → FindsEntry bytes marks tokens stamp entries bodies places stamps entries
  found_none k l p reg s x =
      let c = x.count in
      x.count ∙ sym (entry-end s reg (λ j h. p.none reg s x j (omega arith)))
