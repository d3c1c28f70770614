-- The walk that tags: what it asks holds of each operand that it hands on (`asks-..`), and one law for each way in which it
-- returns, over the bytes (`..-done`). Assumes nothing.
use mathlib.Core.Path.{◌≡◌, refl, sym, ap, ◌∙◌, subst}
use mathlib.Core.List.{List}
use mathlib.Core.Option.{Option}
use Prim.Native.Nat.{ℕ, ◌+◌, ◌<◌, ◌≤◌}
use native.Mathlib.Omega.{arith}
use lib.ListN.{length, drop}
use Rattle.lists.specs.Runs.{tail, tail_as}
use Rattle.kinds.specs.declared.Leaf.{Leaf}
use Rattle.kinds.specs.declared.Unary.{Unary}
use Rattle.kinds.specs.declared.Unary.TheVariants.{Not, Next, Ever}
use Rattle.kinds.specs.declared.Join.{Join}
use Rattle.kinds.specs.declared.Binary.{Binary}
use Rattle.kinds.specs.declared.Binary.TheVariants.{Joined, Until}
use Rattle.kinds.specs.declared.Kind.TheVariants.{Zero}
use Rattle.limits.specs.Limits.{boards_most, nodes_room}
use Rattle.ltl.specs.Formula.{Formula, one, size}
use Rattle.nodes.specs.Begins.{Front, Begins}
use Rattle.nodes.proofs.Fronts.{front_length, front-begins, begins-some, Parts, is_zero, Single, Double}
use Rattle.nodes.proofs.Operands.{LeftRead, left-read}
use Rattle.tagging.specs.declared.TaggedPart.{TaggedPart}
use Rattle.scores.specs.Owned.{Table}
use Rattle.scores.specs.Tallies.{ScoredAs}
use Rattle.tagging.specs.Tags.{here_on, Tagged, TaggedAs, Tagging, TagOver, OverNot, OverPair}
use Rattle.lists.proofs.Parts.{tail-length, handed-length, handed-back}
use Rattle.tagging.proofs.Places.{Agree, left-stays}
use Rattle.tagging.proofs.Tops.{tagged-whole, tagged-not, tagged-pair}

-- ---- what the walk asks
abbrev pub Asks : List ℕ → List ℕ → List ℕ → Type 0
Asks owner u tags = Begins u × Table owner × (length u ≤ length tags) × (length u ≤ nodes_room)

pub asks-some : {owner u : List ℕ} (tags : List ℕ) → Asks owner u tags → 0 < length tags
asks-some {u = u} tags p = let s = begins-some u p.0 in omega arith

-- ---- it holds of an operand, and of the tags behind the node's own
module _ {owner u : List ℕ} (tags : List ℕ) (p : Asks owner u tags) where
  asks-part : (k : ℕ) (m : List ℕ) → length m ≡ length tags → {g : Formula} {rest : List ℕ} → Front (tail k u) g rest → length u ≡ k + length (tail k u) → Asks owner (tail k u) (tail k m)
  asks-part k m e y l = let n = tail-length k m in (front-begins y, p.1, omega arith, omega arith)

  pub asks-operand : {g : Formula} {rest : List ℕ} → Front (tail 1 u) g rest → length u ≡ 1 + length (tail 1 u) → Asks owner (tail 1 u) (tail 1 tags)
  asks-operand = asks-part 1 tags refl

  pub asks-right : {rest : List ℕ} {f : Formula} {o : Binary} {x : Double u rest f o} {n : ℕ} (left : List ℕ) → length left ≡ length (tail 1 tags) → LeftRead x n
      → Asks owner (tail (1 + n) u) (tail (1 + n) (tail_as 1 tags left))
  asks-right {n = n} left k x = asks-part (1 + n) (tail_as 1 tags left) (handed-length 1 tags left (omega arith) k) x.front x.part

-- ---- parts that stay whole
module _ {owner u rest : List ℕ} {f : Formula} {on : ℕ} {tags tags' : List ℕ} {r : TaggedPart} (p : Asks owner u tags) (y : Front u f rest)
    (w : ScoredAs owner f r.scores.counts × TagOver (size f) r.scores.counts on (λ b. size f) tags tags' r) where
  whole : ((choose : Formula → Option ℕ) (b : ℕ) → here_on choose f b ≡ size f) → ((choose : Formula → Option ℕ) → Tagged choose f tags') → TaggedAs owner f on tags' r
  whole here none-tagged = tagged-whole tags (asks-some tags p) here none-tagged w (let e = front_length u f rest y in omega arith)

  pub leaf-done : {a : Leaf} → Parts u rest f (Zero a) → TaggedAs owner f on tags' r
  unfolding here_on
  leaf-done x = whole (here x) (none-tagged x)
    where
      here : {g : Formula} {a : Leaf} → Parts u rest g (Zero a) → (choose : Formula → Option ℕ) (b : ℕ) → here_on choose g b ≡ size g
      here (is_zero l e) choose b = refl

      none-tagged : {g : Formula} {a : Leaf} → Parts u rest g (Zero a) → (choose : Formula → Option ℕ) → Tagged choose g tags'
      none-tagged (is_zero l e) choose = tt

  one-whole : (o : Unary) → Single u rest f o → ((g : Formula) (choose : Formula → Option ℕ) (b : ℕ) → here_on choose (one o g) b ≡ size (one o g))
      → ((g : Formula) (choose : Formula → Option ℕ) → Tagged choose (one o g) tags') → TaggedAs owner f on tags' r
  one-whole o x here none-tagged = whole (λ choose b. rw x.same (here x.operand choose b)) (λ choose. rw x.same (none-tagged x.operand choose))

  pub next-done : Single u rest f Next → TaggedAs owner f on tags' r
  unfolding here_on
  next-done x = one-whole Next x (λ g choose b. refl) (λ g choose. tt)

  pub ever-done : {j : Join} → Single u rest f (Ever j) → TaggedAs owner f on tags' r
  unfolding here_on
  ever-done {j} x = one-whole (Ever j) x (λ g choose b. refl) (λ g choose. tt)

  pub until-done : Double u rest f Until → TaggedAs owner f on tags' r
  unfolding here_on
  until-done x = whole (λ choose b. rw x.same) (λ choose. rw x.same tt)

-- ---- operands that were tagged, in tags that were lent on
module _ {owner u rest : List ℕ} {f : Formula} {on : ℕ} (tags : List ℕ) {tags' : List ℕ} {r : TaggedPart} (p : Asks owner u tags) where
  pub not_done : {a : TaggedPart} {left : List ℕ} → length left ≡ length (tail 1 tags) → Single u rest f Not → Tagging owner (tail 1 u) boards_most left a
      → OverNot a on (tail_as 1 tags left) tags' r → TaggedAs owner f on tags' r
  not_done {a} {left} k x h v =
      let l = asks-some tags p in
      let back = handed-back 1 tags left l in
      let e = handed-length 1 tags left l k in
      let m = h _ _ x.front in
      rw x.same
      (tagged-not (tail_as 1 tags left) (omega arith) (rw back m) v (omega arith))

  pub pair-done : {a c : TaggedPart} {left right : List ℕ} {j : Join} → length left ≡ length (tail 1 tags) → Double u rest f (Joined j)
      → Tagging owner (tail 1 u) boards_most left a → Tagging owner (tail (1 + a.read) u) boards_most right c → length right ≡ length (tail (1 + a.read) (tail_as 1 tags left))
      → OverPair a c on (tail_as (1 + a.read) (tail_as 1 tags left) right) tags' r → TaggedAs owner f on tags' r
  pair-done {a} {c} {left} {right} {j} k d w h n v =
      let y = w _ _ d.front in
      let s = y.reads in
      let x = left-read d s in
      let whole = tail_as (1 + a.read) (tail_as 1 tags left) right in
      let first = handed-length 1 tags left (omega arith) k in
      let second = handed-length (1 + a.read) (tail_as 1 tags left) right (omega arith) n in
      let m = h _ _ x.front in
      let agree : Agree (size d.left) left (drop 1 whole) =
      subst (λ (i : ℕ). Agree (size d.left) left (drop 1 (tail_as (1 + i) (tail_as 1 tags left) right))) (sym s) (left-stays (size d.left) tags left right (omega arith) k) in
      let behind : drop (1 + size d.left) whole ≡ right = ap (λ (i : ℕ). drop (1 + i) whole) (sym s) ∙ handed-back (1 + a.read) (tail_as 1 tags left) right (omega arith) in
      rw d.same (tagged-pair whole (omega arith) j y m agree behind v (omega arith))
