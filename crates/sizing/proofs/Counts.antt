-- The count goes on from place to place. The loop over the bytes starts with `sums-start`, goes over a node that unfolding leaves with
-- `sums-plain`, and ends with `counted` or `counted-over`. A node that stays whole or is unfolded is `whole-next`, `whole-ever` or
-- `whole-until`; eventually and always one behind the other are gone over by `ever_more` up to `ever-done`. Assumes nothing.
use mathlib.Core.Path.{◌≡◌, refl, sym, ap, ◌∙◌, subst}
use mathlib.Core.Bool.{Bool, true, false, true≢false}
use mathlib.Core.List.{List, [], ◌∷◌}
use Prim.Native.Nat.{ℕ, ◌+◌, ◌-◌, ◌*◌, ◌<◌, ◌≤◌}
use native.Mathlib.Numerals.{add-one}
use native.Mathlib.Omega.{arith}
use lib.ListN.{length, get_or}
use Rattle.limits.specs.Limits.{nodes_room}
use Rattle.lists.specs.Runs.{tail}
use Rattle.kinds.specs.declared.Kind.{Kind}
use Rattle.kinds.specs.declared.Kind.TheVariants.{One}
use Rattle.kinds.specs.declared.Unary.{Unary}
use Rattle.kinds.specs.declared.Unary.TheVariants.{Not, Next, Ever}
use Rattle.kinds.specs.declared.Binary.TheVariants.{Joined, Until}
use Rattle.kinds.specs.Kinds.{kind_of, unary_code}
use Rattle.kinds.proofs.Codes.{CodeOf, is_one, code, kind-unary}
use Rattle.ltl.specs.Formula.{Formula, leaf, one, two, size}
use Rattle.ltl.specs.Progression.{unfolded}
use Rattle.ltl.proofs.Decoding.{size-some}
use Rattle.nodes.specs.Begins.{Begins, Ends}
use Rattle.nodes.proofs.Fronts.{front_length, front-one-way, front-tail}
use Rattle.peeling.specs.Peeled.{encodes, peel, peeled}
use Rattle.peeling.proofs.Peels.{HeadAt, head_at, peeled-past, whole-end}
use Rattle.outlining.specs.Outlined.{whole_kind, top_kind}
use Rattle.outlining.proofs.Heads.{head-kind, head-begins, head-within}
use Rattle.sizing.specs.Sizes.{SizeAsk, CountsUnfolded}
use Rattle.sizing.specs.Sums.{ever_kind, extra, extras, Sums, EndsFrom, SumsPart, SumsEver, SumsWhole, SumsOn}

-- ---- what unfolding adds to the nodes that there are
extra-size : (f : Formula) → size f + extra f ≡ size (unfolded f)
extra-size (leaf a) = refl
extra-size (one Not f) = let e = extra-size f in omega arith
extra-size (one Next f) = omega arith
extra-size (one (Ever j) f) = let e = extra-size f in omega arith
extra-size (two (Joined j) f g) = let d = extra-size f in let e = extra-size g in omega arith
extra-size (two Until f g) = let d = extra-size f in let e = extra-size g in omega arith

-- no kind is and is not
torn : {b : Bool} → b ≡ true → b ≡ false → ⊥
torn t f = true≢false (sym t ∙ f)

-- ---- the first of several formulas, by its kind
-- what neither stays whole nor is unfolded leaves to its operands all that is added
extras-plain : (g : Formula) (gs : List Formula) → whole_kind (top_kind g) ≡ false → extras (peel (g ∷ gs)) ≡ extras (g ∷ gs)
extras-plain (leaf a) gs e = omega arith
extras-plain (one Not f) gs e = refl
extras-plain (one Next f) gs e = absurd (torn refl e)
extras-plain (one (Ever j) f) gs e = absurd (torn refl e)
extras-plain (two (Joined j) f g) gs e = omega arith
extras-plain (two Until f g) gs e = absurd (torn refl e)

-- next adds nothing
extra-next : (g : Formula) → top_kind g ≡ One Next → extra g ≡ 0
extra-next (leaf a) e = absurd (torn refl (sym (ap whole_kind e)))
extra-next (one Not f) e = absurd (torn refl (sym (ap whole_kind e)))
extra-next (one Next f) e = refl
extra-next (one (Ever j) f) e = absurd (torn refl (ap ever_kind e))
extra-next (two o f g) e = absurd (let z : ◌≡◌ {A = ℕ} 0 1 = cc in omega arith)

-- eventually and always: what is added here, and where the operand stands
record EverOver (g : Formula) (gs : List Formula) : Type 0 where
  operand : Formula
  behind : peel (g ∷ gs) ≡ operand ∷ gs
  long : size g ≡ 1 + size operand
  adds : extras (g ∷ gs) ≡ 1 + size g + extras (peel (g ∷ gs))

-- so it is where the kind says so
ever-over : (g : Formula) (gs : List Formula) → ever_kind (top_kind g) ≡ true → EverOver g gs
ever-over (leaf a) gs e = absurd (torn e refl)
ever-over (one Not f) gs e = absurd (torn e refl)
ever-over (one Next f) gs e = absurd (torn e refl)
ever-over (one (Ever j) f) gs e = record { operand = f; behind = refl; long = refl; adds = omega arith }
ever-over (two o f g) gs e = absurd (torn e refl)

-- until is what is left of the kinds
extras-until : (g : Formula) (gs : List Formula) → whole_kind (top_kind g) ≡ true → ever_kind (top_kind g) ≡ false → (top_kind g ≡ One Next → ⊥)
    → extras (g ∷ gs) ≡ 2 + size g + extras (peel (g ∷ gs))
extras-until (leaf a) gs w e n = absurd (torn w refl)
extras-until (one Not f) gs w e n = absurd (torn w refl)
extras-until (one Next f) gs w e n = absurd (n refl)
extras-until (one (Ever j) f) gs w e n = absurd (torn refl e)
extras-until (two (Joined j) f g) gs w e n = absurd (torn w refl)
extras-until (two Until f g) gs w e n = omega arith

-- next has one byte
next-byte : (b : ℕ) → kind_of b ≡ One Next → b ≡ unary_code Next
next-byte b e = go (subst (λ (k : Kind). CodeOf b k) e (code b))
  where
    go : {o : Unary} → CodeOf b (One o) → b ≡ unary_code o
    go (is_one q) = q

-- the first of equal lists
head-same : {f g : Formula} {fs gs : List Formula} → ◌≡◌ {A = List Formula} (f ∷ fs) (g ∷ gs) → f ≡ g
head-same e = cc

-- ---- from place to place
-- nothing was added yet
pub sums-start : {s : List ℕ} → SizeAsk s → Sums s 0 (length s)
sums-start {s} a =
    let l = front_length s a.formula [] a.front in
    let e = extra-size a.formula in
    record { formula = a.formula; front = a.front; few = a.few; within = omega arith; sum = omega arith }

-- the sum at another place
moved : {s : List ℕ} {i count : ℕ} (x : Sums s i count) {j n : ℕ} → j ≤ length s
    → n + extras (peeled j (x.formula ∷ [])) ≡ count + extras (peeled i (x.formula ∷ [])) → Sums s j n
moved x l e = record { formula = x.formula; front = x.front; few = x.few; within = l; sum = e ∙ x.sum }

module _ {s : List ℕ} {i count : ℕ} (x : Sums s i count) (l : i < length s) where
  -- the formula that begins there
  here : HeadAt x.formula s i
  here = head_at x.front i l

  -- it ends where the walk over it found its end
  here-ends : {m : ℕ} → Ends (tail i s) m → EndsFrom s i (i + m)
  here-ends {m} h f rest y = ap (i +◌) (sym (h f rest (front-tail i s y)))

  -- what was to be added is what it adds and those behind it
  here-extras : extras (peeled i (x.formula ∷ [])) ≡ extras (here.head ∷ here.others)
  here-extras = ap extras here.is

  -- behind its first byte
  here-peel : peeled (i + 1) (x.formula ∷ []) ≡ peel (here.head ∷ here.others)
  here-peel = ap (λ (n : ℕ). peeled n (x.formula ∷ [])) (add-one i) ∙ ap peel here.is

  -- over a node that unfolding leaves
  pub sums-plain : whole_kind (kind_of (get_or s i 0)) ≡ false → Sums s (i + 1) count
  sums-plain w =
      let p = ap extras here-peel in
      let q = extras-plain here.head here.others (ap whole_kind (sym (head-kind here)) ∙ w) in
      let r = here-extras in
      moved x (omega arith) (omega arith)

  -- up to the end e of the part
  module _ {e : ℕ} (ends : EndsFrom s i e) where
    here_end : i + size here.head ≡ e
    here_end = ends here.head (encodes here.others) here.front

    part-some : i < e
    part-some = let z = size-some here.head in let n = here_end in omega arith

    part-within : e ≤ length s
    part-within = let z = head-within here l in let n = here_end in omega arith

    -- over a next and its operand
    sums_next : get_or s i 0 ≡ unary_code Next → Sums s e count
    sums_next b =
        let k = extra-next here.head (sym (head-kind here) ∙ ap kind_of b ∙ kind-unary Next) in
        let p : extras (peeled e (x.formula ∷ [])) ≡ extras here.others =
        ap (λ (n : ℕ). extras (peeled n (x.formula ∷ []))) (sym here_end) ∙ ap extras (peeled-past i (x.formula ∷ []) here.others here.head here.is) in
        let r = here-extras in
        moved x part-within (omega arith)

    -- to the left operand of an until
    sums-until : whole_kind (kind_of (get_or s i 0)) ≡ true → ever_kind (kind_of (get_or s i 0)) ≡ false → (get_or s i 0 ≡ unary_code Next → ⊥) → Sums s (i + 1) (count + 2 + (e - i))
    sums-until w v n =
        let t = head-kind here in
        let q = extras-until here.head here.others (ap whole_kind (sym t) ∙ w) (ap ever_kind (sym t) ∙ v) (λ k. n (next-byte _ (t ∙ k))) in
        let p = ap extras here-peel in
        let r = here-extras in
        let z = here_end in
        moved x (omega arith) (omega arith)

    -- eventually or always: its operand begins behind its byte, and ends where it ends
    module _ (v : ever_kind (kind_of (get_or s i 0)) ≡ true) where
      over : EverOver here.head here.others
      over = ever-over here.head here.others (ap ever_kind (sym (head-kind here)) ∙ v)

      operand_below : i + 1 < length s
      operand_below = let n = head-within here l in let m = size-some over.operand in let g = over.long in omega arith

      next-head : (head_at x.front (i + 1) operand_below).head ≡ over.operand
      next-head = head-same (sym (head_at x.front (i + 1) operand_below).is ∙ here-peel ∙ over.behind)

      operand-ends : EndsFrom s (i + 1) e
      operand-ends f rest w =
          let q = ap size ((front-one-way _ _ _ _ _ w (head_at x.front (i + 1) operand_below).front).0 ∙ next-head) in
          let g = over.long in
          let z = here_end in
          omega arith

      -- to the operand of eventually or always
      sums-ever : SumsPart s (i + 1) e (count + 1 + (e - i))
      sums-ever =
          let p = ap extras here-peel in
          let r = here-extras in
          let z = here_end in
          let a = over.adds in
          let l = operand_below in
          record { sums = moved x (omega arith) (omega arith); below = l; ends = operand-ends }

-- ---- the places of the code
module _ {s : List ℕ} where
  -- no number is too large
  pub part_room : {i e count : ℕ} → SumsPart s i e count → (i < e) × (e ≤ length s) × (length s ≤ nodes_room)
  part_room x = (part-some x.sums x.below x.ends, part-within x.sums x.below x.ends, x.sums.few)

  -- the turn of the loop over eventually and always
  pub ever_more : {i e count : ℕ} → SumsPart s i e count → ever_kind (kind_of (get_or s i 0)) ≡ true → SumsPart s (i + 1) e (count + 1 + (e - i))
  ever_more x v = sums-ever x.sums x.below x.ends v

  -- where it ends, some were passed
  pub ever-done : {i j e start count : ℕ} → SumsEver s i e start → SumsPart s j e count → i ≤ j → count ≤ nodes_room + (nodes_room + 1) * j → ever_kind (kind_of (get_or s j 0)) ≡ false → SumsOn s i j count
  ever-done {i} {j} a x l c v =
      let n : i ≡ j → ⊥ = λ q. torn a.ever (ap (λ (k : ℕ). ever_kind (kind_of (get_or s k 0))) q ∙ v) in
      let f = x.sums.few in
      let b = x.below in
      record { sums = x.sums; more = omega arith; small = omega arith }

  -- a node that stays whole or is unfolded, its end being found
  module _ {i count : ℕ} (a : SumsWhole s i count) where
    -- its end may be looked for
    pub whole-begins : Begins (tail i s)
    whole-begins = head-begins (here a.sums a.below)

    module _ {m : ℕ} (h : Ends (tail i s) m) where
      pub whole_part : SumsPart s i (i + m) count
      whole_part = record { sums = a.sums; below = a.below; ends = here-ends a.sums a.below h }

      pub whole-next : get_or s i 0 ≡ unary_code Next → SumsOn s i (i + m) count
      whole-next b = let r = part_room whole_part in let l = a.small in record { sums = sums_next a.sums a.below whole_part.ends b; more = r.0; small = omega arith }

      pub whole-ever : ever_kind (kind_of (get_or s i 0)) ≡ true → SumsEver s i (i + m) count
      whole-ever v = record { part = whole_part; ever = v; small = a.small }

      pub whole-until : ever_kind (kind_of (get_or s i 0)) ≡ false → (get_or s i 0 ≡ unary_code Next → ⊥) → SumsOn s i (i + 1) (count + 2 + (i + m - i))
      whole-until v n =
          let r = part_room whole_part in
          let l = a.small in
          record { sums = sums-until a.sums a.below whole_part.ends a.stays v n; more = omega arith; small = omega arith }

  -- the end of the whole formula
  pub counted : {i count : ℕ} → Sums s i count → length s ≤ i → count ≤ nodes_room → CountsUnfolded s count
  counted {i} x l c f y =
      let w = x.within in
      let k : i ≡ length s = omega arith in
      let e : extras (peeled i (x.formula ∷ [])) ≡ 0 = ap (λ (n : ℕ). extras (peeled n (x.formula ∷ []))) k ∙ ap extras (whole-end x.front) in
      let q = ap (λ (g : Formula). size (unfolded g)) (front-one-way s f x.formula [] [] y x.front).0 in
      let z = x.sum in
      omega arith

  -- more nodes than the most, wherever
  pub counted-over : {i count : ℕ} → Sums s i count → nodes_room < count → CountsUnfolded s (nodes_room + 1)
  counted-over x c f y =
      let q = ap (λ (g : Formula). size (unfolded g)) (front-one-way s f x.formula [] [] y x.front).0 in
      let z = x.sum in
      omega arith
