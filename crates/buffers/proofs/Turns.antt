-- One turn of the loop of `put`, over plain lists. Assumes nothing.
use mathlib.Core.Path.{◌≡◌, sym, ap, ◌∙◌}
use mathlib.Core.List.{List, ◌++◌, append_assoc}
use Prim.Native.Nat.{ℕ, ◌+◌, ◌<◌}
use native.Mathlib.Numerals.{add-one}
use native.Mathlib.Omega.{arith}
use lib.ListN.{length, get_or, set, take, drop, length-drop}
use lib.Seq.{get_or-drop, paste, paste-suc}

-- a run of s, from `from` on, put at a place of p: one number more
pub pasted-more : (p s : List ℕ) (to from i : ℕ) → to + i < length p → from + i < length s
    → set (paste p to (drop from s) i) (to + i) (get_or s (from + i) 0) ≡ paste p to (drop from s) (i + 1)
pasted-more p s to from i h k =
    let d = length-drop from s in
    ap (set (paste p to (drop from s) i) (to + i)) (sym (get_or-drop from s i 0))
    ∙ paste-suc p to (drop from s) i 0 h (omega arith) ∙ ap (paste p to (drop from s)) (sym (add-one i))

pub pasted-done : (p s : List ℕ) (to from n : ℕ) → paste p to (drop from s) n ≡ take to p ++ (take n (drop from s) ++ drop (to + n) p)
pasted-done p s to from n = append_assoc (take to p) (take n (drop from s)) (drop (to + n) p)
