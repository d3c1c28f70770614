-- Slots one after the other: their nodes counted (`nodes-both`), their bytes (`bytes-both`) and their records (`records-both`). Also
-- `split`: a list cut at a place. Assumes nothing.
use mathlib.Core.Path.{◌≡◌, refl, sym, ap}
use mathlib.Core.List.{List, [], ◌∷◌, ◌++◌, append_assoc}
use Prim.Native.Nat.{ℕ, ◌+◌, ◌≤◌}
use native.Mathlib.Omega.{arith}
use lib.ListN.{length, take, drop, length-drop, take-append-drop}
use lib.Seq.{length-take-le}
use Rattle.ltl.specs.Formula.{size}
use Rattle.network.specs.Layout.{Slot}
use Rattle.state.specs.Bytes.{nodes_of, slot_records, node_bytes}

pub nodes-both : (ss ts : List Slot) → nodes_of (ss ++ ts) ≡ nodes_of ss + nodes_of ts
nodes-both [] ts = omega arith
nodes-both (s ∷ ss) ts = omega (arith, nodes-both ss ts)

pub bytes-both : (ss ts : List Slot) → node_bytes (ss ++ ts) ≡ node_bytes ss ++ node_bytes ts
bytes-both [] ts = refl
bytes-both (s ∷ ss) ts = simp (append_assoc, bytes-both ss ts)

pub records-both : (n : ℕ) (ss ts : List Slot) → slot_records n (ss ++ ts) ≡ slot_records n ss ++ slot_records (n + nodes_of ss) ts
records-both n [] ts = let e : n ≡ n + 0 = omega arith in ap (λ (i : ℕ). slot_records i ts) e
records-both n (s ∷ ss) ts =
    let z = size s.formula in
    let e : n + z + nodes_of ss ≡ n + (z + nodes_of ss) = omega arith in
    simp (append_assoc, records-both (n + z) ss ts, e)

-- ---- a list cut at a place
pub record SplitAt (n : ℕ) (l : List ℕ) : Type 0 where
  pub low : List ℕ
  pub high : List ℕ
  pub both-are : l ≡ low ++ high
  pub low-long : length low ≡ n
  pub high-long : length high + n ≡ length l

pub split : (n : ℕ) (l : List ℕ) → n ≤ length l → SplitAt n l
split n l h =
    record {
      low = take n l;
      high = drop n l;
      both-are = sym (take-append-drop n l);
      low-long = length-take-le n l h;
      high-long = let e = length-drop n l in omega arith;
    }
