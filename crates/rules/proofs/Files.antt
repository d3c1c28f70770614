-- Laws of the rule file and its parts: lengths; what a row of puts leaves (`found-..`, `file-put`); and both ways between
-- a file and what it is written from: `header-fields` and `masks-written` read what was written, `header_is` and
-- `masks-rewritten` write what was read. Assumes nothing.
use mathlib.Core.Path.{◌≡◌, refl, sym, ap, ap₂, ◌∙◌}
use mathlib.Core.List.{List, [], ◌∷◌, ◌++◌, append_assoc, append-nil}
use Prim.Native.Nat.{ℕ, zero, suc, ◌+◌, ◌-◌, ◌*◌, ◌^◌, ◌<◌, ◌≤◌}
use native.Mathlib.Nat.{mod-eq_of_lt}
use native.Mathlib.Omega.{arith}
use native.Mathlib.Numerals.{add-one}
use lib.ListN.{length, get_or, take, drop, replicate, length-append, length-drop, length-replicate}
use lib.Seq.{take-suc}
use Rattle.limits.specs.Limits.{boards_most, propositions_most, rule_nodes_most}
use Rattle.lists.specs.Runs.{tail, tail_as, padded}
use Rattle.lists.specs.Listed.{listed}
use Rattle.lists.proofs.Listed.{listed-length, listed_same}
use Rattle.le.specs.Le.{le, le_at}
use Rattle.le.proofs.Laws.{Bytes, le-length, le_at-le, le-le_at}
use Rattle.lists.proofs.Stretches.{tail-put, tail-clear, drop-replicate, take-two}
use Rattle.rules.specs.RuleFile.{version, masks_at, file_formula_at, total_of, file_most, file_header, mask_bytes, file_of, version_in_file, boards_in_file, propositions_in_file, nodes_in_file, masks_offset_in_file, formula_offset_in_file, total_in_file, mask_in_file}

-- ---- the bytes of masks
pub mask_bytes-length : (ms : List ℕ) → length (mask_bytes ms) ≡ 8 * length ms
unfolding mask_bytes
mask_bytes-length [] = refl
mask_bytes-length (m ∷ ms) = let a = length-append (le 8 m) (mask_bytes ms) in let b = le-length 8 m in let c = mask_bytes-length ms in omega arith

pub mask_bytes-append : (ms ns : List ℕ) → mask_bytes (ms ++ ns) ≡ mask_bytes ms ++ mask_bytes ns
unfolding mask_bytes
mask_bytes-append [] ns = refl
mask_bytes-append (m ∷ ms) ns = ap (λ (u : List ℕ). le 8 m ++ u) (mask_bytes-append ms ns) ∙ sym (append_assoc (le 8 m) (mask_bytes ms) (mask_bytes ns))

-- no mask, and one mask more
pub mask_bytes-none : (s : List ℕ) → s ≡ mask_bytes [] ++ drop (8 * 0) s
unfolding mask_bytes
mask_bytes-none s = refl

pub mask_bytes-more : (ms : List ℕ) (i : ℕ) → i < length ms → mask_bytes (take (i + 1) ms) ≡ mask_bytes (take i ms) ++ le 8 (get_or ms i 0)
unfolding mask_bytes
mask_bytes-more ms i h =
    ap mask_bytes (ap (λ (k : ℕ). take k ms) (add-one i) ∙ take-suc ms i 0 h)
    ∙ mask_bytes-append (take i ms) (get_or ms i 0 ∷ [])
    ∙ ap (λ (u : List ℕ). mask_bytes (take i ms) ++ u) (append-nil (le 8 (get_or ms i 0)))

-- ---- the header
pub header-length : (b p n : ℕ) → length (file_header b p n) ≡ masks_at
unfolding le
header-length b p n = refl

-- ---- masks put into an array of zeros
module _ (file found : List ℕ) (b : ℕ) (e : found ≡ listed (mask_in_file file) b ++ drop b (replicate boards_most 0)) where
  pub found-length : b ≤ boards_most → length found ≡ boards_most
  found-length h =
      let z : List ℕ = replicate boards_most 0 in
      omega (arith, ap length e, length-append (listed (mask_in_file file) b) (drop b z), listed-length (mask_in_file file) b, length-drop b z, length-replicate {A = ℕ} boards_most 0)

  pub found-padded : found ≡ padded boards_most (listed (mask_in_file file) b)
  found-padded =
      e ∙ ap (λ (u : List ℕ). listed (mask_in_file file) b ++ u) (drop-replicate b boards_most 0 ∙ ap (λ (n : ℕ). replicate {A = ℕ} (boards_most - n) 0) (sym (listed-length (mask_in_file file) b)))

-- ---- the file
pub file_of-length : (masks : List ℕ) (p : ℕ) (formula : List ℕ) → length (file_of masks p formula) ≡ total_of (length masks) (length formula)
unfolding file_of
file_of-length masks p formula =
    let h = file_header (length masks) p (length formula) in
    omega (arith, length-append h (mask_bytes masks ++ formula), length-append (mask_bytes masks) formula, mask_bytes-length masks, header-length (length masks) p (length formula))

-- what `write` leaves: the header, then the masks, the formula and zeros, each put into what is behind the last
pub file-put : (masks : List ℕ) (p : ℕ) (formula file s x y z : List ℕ) → length file ≡ file_most
    → s ≡ file_header (length masks) p (length formula) ++ drop masks_at file
    → x ≡ mask_bytes masks ++ drop (8 * length masks) (tail masks_at s)
    → y ≡ formula ++ drop (length formula) (tail (file_formula_at (length masks)) (tail_as masks_at s x))
    → z ≡ replicate (length (tail (total_of (length masks) (length formula)) (tail_as (file_formula_at (length masks)) (tail_as masks_at s x) y))) 0
    → tail_as (total_of (length masks) (length formula)) (tail_as (file_formula_at (length masks)) (tail_as masks_at s x) y) z
    ≡ padded file_most (file_of masks p formula)
unfolding file_of
file-put masks p formula file s x y z room e₁ e₂ e₃ e₄ =
    let b = length masks in
    let n = length formula in
    let h = file_header b p n in
    let m = mask_bytes masks in
    let hl = header-length b p n in
    let ml = mask_bytes-length masks in
    let l₂ = length-append h m in
    let l₃ = length-append (h ++ m) formula in
    let t = tail_as masks_at s x in
    let u = tail_as (file_formula_at b) t y in
    let r₁ = drop masks_at file in
    let r₂ = drop (8 * b) r₁ in
    let r₃ = drop n r₂ in
    let d₂ = tail-put s h r₁ masks_at e₁ hl m x (8 * b) e₂ in
    let d₃ = tail-put t (h ++ m) r₂ (file_formula_at b) d₂ (omega arith) formula y n e₃ in
    let d₄ = tail-clear u ((h ++ m) ++ formula) r₃ (total_of b n) d₃ (omega arith) z e₄ in
    let k = file_of-length masks p formula in
    let rest : length r₃ ≡ file_most - length (h ++ (m ++ formula)) = omega (arith, length-drop masks_at file, length-drop (8 * b) r₁, length-drop n r₂) in
    d₄ ∙ ap₂ ◌++◌ (append_assoc h m formula) (ap (λ (i : ℕ). replicate {A = ℕ} i 0) rest)

-- ---- what a written file's fields are
pub record Fields (file : List ℕ) (b p n : ℕ) : Type 0 where
  pub version-is : version_in_file file ≡ version
  pub boards-is : boards_in_file file ≡ b
  pub propositions-is : propositions_in_file file ≡ p
  pub nodes-is : nodes_in_file file ≡ n
  pub masks-offset-is : masks_offset_in_file file ≡ masks_at
  pub formula-offset-is : formula_offset_in_file file ≡ file_formula_at b
  pub total-is : total_in_file file ≡ total_of b n

pub header-fields : (b p n : ℕ) (rest : List ℕ) → b ≤ boards_most → p ≤ propositions_most → n ≤ rule_nodes_most → Fields (file_header b p n ++ rest) b p n
unfolding le le_at
header-fields b p n rest hb hp hn =
    record {
      version-is = omega arith;
      boards-is = omega arith;
      propositions-is = omega arith;
      nodes-is = omega arith;
      masks-offset-is = omega arith;
      formula-offset-is = omega arith;
      total-is = omega arith;
    }

-- the masks from a place on, and those from the next one on
abbrev from : List ℕ → ℕ → ℕ → ℕ
from file at i = le_at file (at + 8 * i) 8

from_next : (file : List ℕ) (at n : ℕ) → listed (λ i. from file at (suc i)) n ≡ listed (from file (at + 8)) n
from_next file at n =
    listed_same _ _ n (λ i l. (let e : at + 8 * suc i ≡ at + 8 + 8 * i = omega arith in ap (λ (x : ℕ). le_at file x 8) e))

from_first : (file : List ℕ) (at : ℕ) → from file at 0 ≡ le_at file at 8
from_first file at = let e : at + 8 * 0 ≡ at = omega arith in ap (λ (x : ℕ). le_at file x 8) e

pub masks-written : (a ms rest : List ℕ) (at : ℕ) → length a ≡ at → ((i : ℕ) → get_or ms i 0 < 2 ^ 64)
    → listed (from (a ++ (mask_bytes ms ++ rest)) at) (length ms) ≡ ms
unfolding listed mask_bytes
masks-written a [] rest at e h = refl
masks-written a (m ∷ ms) rest at e h =
    let tail = mask_bytes ms ++ rest in
    let s = ap (λ (u : List ℕ). a ++ u) (append_assoc (le 8 m) (mask_bytes ms) rest) in
    let l = length-append a (le 8 m) in
    let k = le-length 8 m in
    ap₂ ◌∷◌
    (from_first _ at ∙ ap (λ (u : List ℕ). le_at u at 8) s ∙ le_at-le a tail at 8 m e ∙ mod-eq_of_lt (h 0))
    (from_next _ at (length ms) ∙ ap (λ (u : List ℕ). listed (from u (at + 8)) (length ms)) (s ∙ sym (append_assoc a (le 8 m) tail))
    ∙ masks-written (a ++ le 8 m) ms rest (at + 8) (omega arith) (λ i. h (suc i)))

-- ---- what a file is written from
module _ (file : List ℕ) (bytes : Bytes file) (headed : masks_at ≤ length file) where
  field_is : (at n v : ℕ) → at + n ≤ masks_at → le_at file at n ≡ v → le n v ≡ take n (drop at file)
  field_is at n v h e = ap (le n) (sym e) ∙ le-le_at file at n bytes (omega arith)

  field-then : (at n v m : ℕ) (xs : List ℕ) → at + n ≤ masks_at → le_at file at n ≡ v → xs ≡ take m (drop (at + n) file)
      → le n v ++ xs ≡ take (n + m) (drop at file)
  field-then at n v m xs h e k = ap₂ ◌++◌ (field_is at n v h e) k ∙ sym (take-two file at n m)

  pub header_is : (b p n : ℕ) → Fields file b p n → file_header b p n ≡ take masks_at file
  header_is b p n k =
      let f₇ = field_is 12 4 (total_of b n) (omega arith) k.total-is in
      let f₆ = field-then 10 2 (file_formula_at b) 4 _ (omega arith) k.formula-offset-is f₇ in
      let f₅ = field-then 8 2 masks_at 6 _ (omega arith) k.masks-offset-is f₆ in
      let f₄ = field-then 6 2 n 8 _ (omega arith) k.nodes-is f₅ in
      let f₃ = field-then 4 2 p 10 _ (omega arith) k.propositions-is f₄ in
      let f₂ = field-then 2 2 b 12 _ (omega arith) k.boards-is f₃ in
      field-then 0 2 version 14 _ (omega arith) k.version-is f₂

pub masks-rewritten : (file : List ℕ) (at n : ℕ) → Bytes file → at + 8 * n ≤ length file → mask_bytes (listed (from file at) n) ≡ take (8 * n) (drop at file)
unfolding listed mask_bytes
masks-rewritten file at zero w h = refl
masks-rewritten file at (suc n) w h =
    let e : 8 + 8 * n ≡ 8 * suc n = omega arith in
    ap₂ ◌++◌ (ap (le 8) (from_first file at) ∙ le-le_at file at 8 w (omega arith)) (ap mask_bytes (from_next file at n) ∙ masks-rewritten file (at + 8) n w (omega arith))
    ∙ sym (take-two file at 8 (8 * n)) ∙ ap (λ (i : ℕ). take i (drop at file)) e
