-- A part by its top node: its counts and its mark, from those of its operands (`part_none` to `part-until`), what the mark then says
-- of the formula (`part-mark`), and how large counts are (`part-few`). Assumes nothing.
use mathlib.Core.Path.{◌≡◌, refl, ap, ◌∙◌, subst}
use mathlib.Core.List.{List}
use Prim.Native.Nat.{ℕ, ◌+◌, ◌*◌, ◌<◌, ◌≤◌}
use native.Mathlib.Omega.{arith}
use lib.ListN.{get_or}
use Rattle.limits.specs.Limits.{boards_most, nodes_room}
use Rattle.kinds.specs.declared.Leaf.{Leaf}
use Rattle.kinds.specs.declared.Unary.{Unary}
use Rattle.kinds.specs.declared.Unary.TheVariants.{Not, Next, Ever}
use Rattle.kinds.specs.declared.Join.{Join}
use Rattle.kinds.specs.declared.Join.TheVariants.{And, Or}
use Rattle.kinds.specs.declared.Binary.TheVariants.{Joined, Until}
use Rattle.ltl.specs.Formula.{Formula, leaf, one, two, size, Within}
use Rattle.ltl.specs.Progression.{unfolded}
use Rattle.ltl.proofs.Decoding.{unfolded-coded}
use Rattle.network.specs.Scores.{chosen}
use Rattle.scores.specs.Scored.{one_scored, added}
use Rattle.scores.specs.Owned.{Owned, owner_of}
use Rattle.scores.specs.Tallies.{ScoredAs}
use Rattle.scores.proofs.Counting.{scored-leaf, scored-one, scored-two, scored-chosen}
use Rattle.scores.specs.Choice.{code_of, picked_by}
use Rattle.choices.specs.Marks.{later_of, length_room, mark_of, length_in, choice_in, later_in, again_in, MarkOf}
use Rattle.choices.specs.Rows.{opened_below}
use Rattle.choices.specs.Over.{PartNoted}
use Rattle.choices.proofs.Packing.{mark-has, mark-more, again-small}
use Rattle.scores.proofs.Alone.{picked-alone}

-- ---- how large
unfolded-few : (f : Formula) → size f ≤ nodes_room → size (unfolded f) ≤ (nodes_room + 4) * size f
unfolded-few (leaf a) l = omega arith
unfolded-few (one Not f) l = omega (arith, unfolded-few f (omega arith))
unfolded-few (one Next f) l = omega arith
unfolded-few (one (Ever j) f) l = omega (arith, unfolded-few f (omega arith))
unfolded-few (two (Joined j) f g) l = omega (arith, unfolded-few f (omega arith), unfolded-few g (omega arith))
unfolded-few (two Until f g) l = omega (arith, unfolded-few f (omega arith), unfolded-few g (omega arith))

pub part-few : {owner xs ys : List ℕ} {f : Formula} {m : ℕ} → PartNoted owner f xs ys m → size f ≤ nodes_room → (b : ℕ)
    → (get_or xs b 0 ≤ nodes_room) × (get_or ys b 0 < opened_below)
part-few {f = f} n l b = let u = unfolded-few f l in let x = n.raw-scored.few b in let y = n.opened-scored.few b in (omega arith, omega arith)

-- ---- a node that is no until
no_one : (o : Unary) (f g h : Formula) → one o f ≡ two Until g h → ⊥
no_one o f g h e = let z : ◌≡◌ {A = ℕ} 0 1 = cc in omega arith

no-leaf : (a : Leaf) (g h : Formula) → leaf a ≡ two Until g h → ⊥
no-leaf a g h e = let z : ◌≡◌ {A = ℕ} 0 1 = cc in omega arith

no_join : (j : Join) (f f' g h : Formula) → two (Joined j) f f' ≡ two Until g h → ⊥
no_join j f f' g h e = let z : ◌≡◌ {A = ℕ} 0 1 = cc in omega arith

-- ---- no operand
pub part_none : {owner : List ℕ} {a : Leaf} {b r : ℕ} → b ≡ owner_of owner a → b ≤ boards_most → r ≡ mark_of 1 b boards_most b
    → PartNoted owner (leaf a) (one_scored b) (one_scored b) r
part_none {owner} {a} {b} {r} e l q =
    let h = mark-has r 1 b boards_most b q (omega arith) (omega arith) (omega arith) (omega arith) in
    let c : ScoredAs owner (leaf a) (one_scored b) = scored-leaf e refl in
    record {
      length-is = h.length-is;
      raw-scored = c;
      opened-scored = c;
      choice-is = h.choice-is ∙ picked-alone b l;
      again-is = h.again-is ∙ picked-alone b l;
      later-is = λ g k z. absurd (no-leaf a g k z);
    }

-- ---- one operand
module _ {owner xs ys : List ℕ} {f : Formula} {m : ℕ} (n : PartNoted owner f xs ys m) where
  pub part-not : length_in m + 1 < length_room → PartNoted owner (one Not f) xs ys (m + 1)
  part-not l =
      let h = mark-more m l in
      record {
        length-is = h.length-is ∙ ap (1 +◌) n.length-is;
        raw-scored = scored-one Not n.raw-scored;
        opened-scored = scored-one Not n.opened-scored;
        choice-is = h.choice-is ∙ n.choice-is;
        again-is = h.again-is ∙ n.again-is;
        later-is = λ g k z. absurd (no_one Not f g k z);
      }

  pub part-next : {r : ℕ} → length_in m + 1 < length_room → r ≡ mark_of (1 + length_in m) (again_in m) boards_most (again_in m) → PartNoted owner (one Next f) xs xs r
  part-next {r} l q =
      let h = mark-has r (1 + length_in m) (again_in m) boards_most (again_in m) q (omega arith) (again-small m) (omega arith) (again-small m) in
      record {
        length-is = h.length-is ∙ ap (1 +◌) n.length-is;
        raw-scored = scored-one Next n.raw-scored;
        opened-scored = scored-one Next n.raw-scored;
        choice-is = h.choice-is ∙ n.again-is;
        again-is = h.again-is ∙ n.again-is;
        later-is = λ g k z. absurd (no_one Next f g k z);
      }

  pub part-ever : (j : Join) {r : ℕ} → length_in r ≡ 1 + length_in m → (choice_in m ≡ picked_by ys → again_in m ≡ picked_by xs → choice_in r ≡ picked_by (added ys xs)) → again_in r ≡ again_in m
      → PartNoted owner (one (Ever j) f) xs (added ys xs) r
  part-ever j l c a =
      record {
        length-is = l ∙ ap (1 +◌) n.length-is;
        raw-scored = scored-one (Ever j) n.raw-scored;
        opened-scored = scored-two (Joined j) n.opened-scored (scored-one Next (scored-one (Ever j) n.raw-scored));
        choice-is = c n.choice-is n.again-is;
        again-is = a ∙ n.again-is;
        later-is = λ g k z. absurd (no_one (Ever j) f g k z);
      }

-- ---- two operands
module _ {owner xs ys xs' ys' : List ℕ} {f g : Formula} {l r : ℕ} (n : PartNoted owner f xs ys l) (k : PartNoted owner g xs' ys' r) (x : ℕ) {again : ℕ}
    (long : length_in x ≡ 1 + length_in l + length_in r) (a : again_in x ≡ again) (p : again_in l ≡ picked_by xs → again_in r ≡ picked_by xs' → again ≡ picked_by (added xs xs')) where
  both_long : length_in x ≡ 1 + size f + size g
  both_long = let u = n.length-is in let v = k.length-is in omega arith

  both-again : again ≡ picked_by (added xs xs')
  both-again = p n.again-is k.again-is

  pub part_join : (j : Join) → (choice_in l ≡ picked_by ys → choice_in r ≡ picked_by ys' → choice_in x ≡ picked_by (added ys ys'))
      → PartNoted owner (two (Joined j) f g) (added xs xs') (added ys ys') x
  part_join j c =
      record {
        length-is = both_long;
        raw-scored = scored-two (Joined j) n.raw-scored k.raw-scored;
        opened-scored = scored-two (Joined j) n.opened-scored k.opened-scored;
        choice-is = c n.choice-is k.choice-is;
        again-is = a ∙ both-again;
        later-is = λ u v z. absurd (no_join j f g u v z);
      }

  -- what until asks of its left operand and of later ticks
  later-scored : ScoredAs owner (later_of f g) (added ys (added xs xs'))
  later-scored = scored-two (Joined And) n.opened-scored (scored-one Next (scored-two Until n.raw-scored k.raw-scored))

  same-later : (u v : Formula) → two Until f g ≡ two Until u v → later_of f g ≡ later_of u v
  same-later u v e = let y : f ≡ u = cc in let z : g ≡ v = cc in rw (y, z)

  pub part-until : (choice_in l ≡ picked_by ys → again ≡ picked_by (added xs xs') → later_in x ≡ picked_by (added ys (added xs xs')))
      → (choice_in l ≡ picked_by ys → again ≡ picked_by (added xs xs') → choice_in r ≡ picked_by ys' → choice_in x ≡ picked_by (added ys' (added ys (added xs xs'))))
      → PartNoted owner (two Until f g) (added xs xs') (added ys' (added ys (added xs xs'))) x
  part-until t c =
      record {
        length-is = both_long;
        raw-scored = scored-two Until n.raw-scored k.raw-scored;
        opened-scored = scored-two (Joined Or) k.opened-scored later-scored;
        choice-is = c n.choice-is both-again k.choice-is;
        again-is = a ∙ both-again;
        later-is = λ u v z. (added ys (added xs xs'), subst (λ (y : Formula). ScoredAs owner y (added ys (added xs xs'))) (same-later u v z) later-scored, t n.choice-is both-again);
      }

-- ---- what the mark says of the formula
module _ {owner xs ys : List ℕ} {f : Formula} {m : ℕ} (n : PartNoted owner f xs ys m) (p q : ℕ) (masks : List ℕ) (o : Owned p masks owner) (w : Within p q f) where
  next-same : chosen masks f ≡ chosen masks (one Next f)
  unfolding chosen
  next-same = refl

  within-later : (g h : Formula) → f ≡ two Until g h → Within p q (later_of g h)
  within-later g h e = let v : Within p q (two Until g h) = subst (λ (y : Formula). Within p q y) e w in (unfolded-coded p q g v.0, v)

  pub part-mark : MarkOf (chosen masks) f m
  part-mark =
      record {
        length-is = n.length-is;
        choice-is = n.choice-is ∙ ap code_of (scored-chosen p q masks n.opened-scored o (unfolded-coded p q f w));
        later-is = λ g h e. (let l = n.later-is g h e in l.2 ∙ ap code_of (scored-chosen p q masks l.1 o (within-later g h e)));
        again-is = n.again-is ∙ ap code_of (scored-chosen p q masks n.raw-scored o w ∙ next-same);
      }
