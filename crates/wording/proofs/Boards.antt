-- The lines of boards, one after the other. Assumes nothing.
use mathlib.Core.Path.{◌≡◌, sym, ap, ◌∙◌}
use mathlib.Core.List.{List, [], ◌∷◌, ◌++◌, append-nil, append_assoc}
use Prim.Native.Nat.{ℕ, suc, ◌+◌, ◌<◌}
use native.Mathlib.Omega.{arith}
use native.Mathlib.Numerals.{add-one}
use lib.ListN.{length, take, get_or}
use lib.Seq.{take-suc, length-take-le}
use Rattle.wording.specs.Accepted.{board_line, board_lines}

-- one board more, behind lines of which the first has the number i
lines_more : (masks : List ℕ) (i mask : ℕ) → board_lines i (masks ++ (mask ∷ [])) ≡ board_lines i masks ++ board_line (i + length masks) mask
lines_more [] i mask = let e : i ≡ i + 0 = omega arith in append-nil (board_line i mask) ∙ ap (λ (k : ℕ). board_line k mask) e
lines_more (m ∷ masks) i mask =
    let e : suc i + length masks ≡ i + suc (length masks) = omega arith in
    ap (λ (x : List ℕ). board_line i m ++ x) (lines_more masks (suc i) mask ∙ ap (λ (k : ℕ). board_lines (suc i) masks ++ board_line k mask) e)
    ∙ sym (append_assoc (board_line i m) (board_lines (suc i) masks) (board_line (i + suc (length masks)) mask))

-- one board more behind those that are put
pub boards_more : (masks page reached page' : List ℕ) (i : ℕ) → i < length masks → reached ≡ page ++ board_lines 0 (take i masks)
    → page' ≡ reached ++ board_line i (get_or masks i 0) → page' ≡ page ++ board_lines 0 (take (i + 1) masks)
boards_more masks page reached page' i h p q =
    let e : 0 + length (take i masks) ≡ i = let l = length-take-le i masks (omega arith) in omega arith in
    let whole : board_lines 0 (take (i + 1) masks) ≡ board_lines 0 (take i masks) ++ board_line i (get_or masks i 0) =
    ap (λ (k : ℕ). board_lines 0 (take k masks)) (add-one i)
    ∙ ap (board_lines 0) (take-suc masks i 0 h)
    ∙ lines_more (take i masks) 0 (get_or masks i 0)
    ∙ ap (λ (k : ℕ). board_lines 0 (take i masks) ++ board_line k (get_or masks i 0)) e
    in
    q ∙ rw (p, whole) (append_assoc page (board_lines 0 (take i masks)) (board_line i (get_or masks i 0)))
