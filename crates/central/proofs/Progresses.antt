-- Unfolding to the first bytes of the output (`copied_all`, `unfolded-all`), resolving what stands there (`all-progresses`) and clearing the
-- rest is progression: `progress-done`. `settled-alone`: where nothing is seen of a slot, settling is resolving. Assumes nothing.
use mathlib.Core.Path.{◌≡◌, refl, sym, ap, ap₂, ◌∙◌, subst}
use mathlib.Core.List.{List, [], ◌++◌, append_assoc, append-nil}
use Prim.Native.Nat.{ℕ, ◌-◌, ◌≤◌}
use native.Mathlib.Omega.{arith}
use lib.ListN.{length, take, drop, replicate, length-append, length-drop, drop_of_length-le}
use lib.Seq.{drop_at, length-take-le}
use Rattle.limits.specs.Limits.{propositions_most, holder_codes, nodes_room}
use Rattle.lists.specs.Tests.{pick}
use Rattle.lists.specs.Runs.{tail, padded}
use Rattle.lists.proofs.Parts.{handed-length}
use Rattle.kinds.specs.declared.Leaf.TheVariants.{Const, Prop, Hold}
use Rattle.kinds.specs.declared.Unary.TheVariants.{Not, Next, Ever}
use Rattle.kinds.specs.declared.Binary.TheVariants.{Joined, Until}
use Rattle.answers.specs.declared.Verdict.{Verdict}
use Rattle.answers.specs.declared.Verdict.TheVariants.{Pending}
use Rattle.ltl.specs.Formula.{Formula, leaf, one, two, join, size, encode}
use Rattle.ltl.specs.Meaning.{Event}
use Rattle.ltl.specs.Progression.{unfolded, resolved, filled, filled_by}
use Rattle.ltl.proofs.Decoding.{length-encode, unfolded-coded}
use Rattle.ltl.proofs.Lengths.{unfolded-long, unfolded-same}
use Rattle.nodes.specs.Begins.{Front}
use Rattle.nodes.proofs.Fronts.{front_length, front-one-way}
use Rattle.outlining.specs.Outlined.{Outlined, Outlinable}
use Rattle.slot_sets.specs.declared.SlotSet.{SlotSet}
use Rattle.slot_sets.specs.SlotSets.{no_slots}
use Rattle.slot_sets.proofs.SlotSets.{none_has}
use Rattle.resolving.specs.Settles.{held_by, event_alone, settled}
use Rattle.resolving.specs.declared.Seen.{Seen}
use Rattle.sweeping.specs.Passes.{Outlining}
use Rattle.rewriting.specs.Rewritten.{FrontedAs, Fronted}
use Rattle.rewriting.proofs.Results.{fronted-fits, cleared}
use Rattle.unfolding.specs.Unfolds.{Unfoldable, Unfolds}
use Rattle.central.specs.Progressing.{ProgressableIn, ProgressableWithin, Progressable, UnfoldsAll, ProgressesIn, ProgressedTo}

-- ---- where nothing is held, settling is resolving
filled_none : (held : ℕ → Verdict) → ((k : ℕ) → held k ≡ Pending) → (f : Formula) → filled held f ≡ f
filled_none held h (leaf (Const v)) = refl
filled_none held h (leaf (Prop i)) = refl
filled_none held h (leaf (Hold k)) = ap (λ (v : Verdict). leaf (filled_by v k)) (h k)
filled_none held h (one Not f) = ap (one Not) (filled_none held h f)
filled_none held h (one Next f) = refl
filled_none held h (one (Ever j) f) = refl
filled_none held h (two (Joined j) f g) = ap₂ (join j) (filled_none held h f) (filled_none held h g)
filled_none held h (two Until f g) = refl

pub settled-alone : (event : Event) (f : Formula) → settled (event_alone event) f ≡ resolved event f
unfolding pick
settled-alone event f = ap (resolved event) (filled_none (held_by (event_alone event)) (λ k. rw (none_has k)) f)

-- ---- the formula unfolded to all of p
module _ {p formula notes : List ℕ} (a : ProgressableIn p formula notes) where
  -- in numbers
  formula-long : length formula ≡ size a.of.whole
  formula-long = let l = front_length formula a.of.whole [] a.of.front in let z : length {A = ℕ} [] ≡ 0 = refl in omega arith

  pub unfold-few : length formula ≤ nodes_room
  unfold-few = let l = formula-long in let u = unfolded-long a.of.whole in let k = a.of.long in let f = a.of.few in omega arith

  -- copied, where that is no longer
  module _ (e : length p ≡ length formula) {p₁ : List ℕ} (c : p₁ ≡ formula ++ drop (length formula) p) where
    copied-bytes : p₁ ≡ formula
    copied-bytes = c ∙ ap (formula ++◌) (drop_of_length-le p {i = length formula} (omega arith)) ∙ append-nil formula

    pub copied-outlinable : {notes₁ : List ℕ} → length notes₁ ≡ length notes → Outlinable p₁ notes₁
    copied-outlinable ln =
        let l = ap length copied-bytes in
        let b = a.beside in
        let f = a.of.few in
        record {
          formula = a.of.whole;
          front = subst (λ (s : List ℕ). Front s a.of.whole []) (sym copied-bytes) a.of.front;
          room = omega arith;
          few = omega arith;
        }

    pub copied_all : {notes₂ : List ℕ} → Outlined p₁ notes₂ (length p₁) → UnfoldsAll formula p₁ notes₂
    copied_all o =
        record {
          bytes =
              λ f x.
              let q = (front-one-way formula a.of.whole f [] [] a.of.front x).0 in
              let l = formula-long in
              let k = a.of.long in
              let u : unfolded a.of.whole ≡ a.of.whole = unfolded-same a.of.whole (omega arith) in
              copied-bytes ∙ x.bytes ∙ append-nil (encode f) ∙ ap encode (sym (ap unfolded (sym q) ∙ u ∙ q));
          outlined = o;
        }

  pub unfold-ask : Unfoldable p formula notes
  unfold-ask =
      let k = a.of.long in
      let b = a.beside in
      record { formula = a.of.whole; front = a.of.front; few = unfold-few; room = omega arith; beside = omega arith }

  -- unfolded
  module _ {p₁ notes₁ : List ℕ} {n : ℕ} (u : Unfolds p formula p₁ n) (o : Outlined p₁ notes₁ n) where
    unfolded-bytes : (f : Formula) → Front formula f [] → p₁ ≡ encode (unfolded f)
    unfolded-bytes f x =
        let q = (front-one-way formula a.of.whole f [] [] a.of.front x).0 in
        let k = a.of.long in
        let s = ap (λ (g : Formula). size (unfolded g)) q in
        (u f x).leaves ∙ ap (encode (unfolded f) ++◌) (drop_of_length-le p {i = size (unfolded f)} (omega arith)) ∙ append-nil (encode (unfolded f))

    pub unfolded-all : UnfoldsAll formula p₁ notes₁
    unfolded-all =
        let w = a.of.whole in
        let b = unfolded-bytes w a.of.front in
        let l : n ≡ length p₁ = (u w a.of.front).writes ∙ sym (ap length b ∙ length-encode (unfolded w)) in
        record { bytes = unfolded-bytes; outlined = subst (λ (i : ℕ). Outlined p₁ notes₁ i) l o }

  -- ---- and resolved
  module _ {p₁ notes₁ : List ℕ} (u : UnfoldsAll formula p₁ notes₁) where
    all-front : (f : Formula) → Front formula f [] → Front p₁ (unfolded f) []
    all-front f x = record { coded = unfolded-coded propositions_most holder_codes f x.coded; bytes = u.bytes f x ∙ sym (append-nil (encode (unfolded f))) }

    pub all-outlining : length p₁ ≡ length p → length notes₁ ≡ length notes → Outlining p₁ notes₁
    all-outlining lp ln =
        let b = a.beside in
        let f = a.of.few in
        record { formula = unfolded a.of.whole; front = all-front a.of.whole a.of.front; outlined = u.outlined; room = omega arith; few = omega arith }

    pub all-progresses : (seen : Seen) (p₂ : List ℕ) (n : ℕ) → Fronted seen p₁ p₂ n → ProgressesIn seen formula p₂ n
    all-progresses seen p₂ n r f x = r (unfolded f) (all-front f x)

-- ---- in the output: the first `count` bytes are p, and behind them the rest, which is cleared
module _ {output formula : List ℕ} {count : ℕ} (a : Progressable output formula count) where
  pub lent-progressable : {p : List ℕ} → length p ≡ count → ProgressableWithin nodes_room p formula
  lent-progressable e =
      let l = a.long in
      let r = a.room in
      let f = a.few in
      record { whole = a.whole; front = a.front; long = omega arith; few = omega arith }

  pub lent-long : length (take count output) ≡ count
  lent-long = length-take-le count output a.room

  -- what stands in the output once the first bytes are handed back as p
  module _ (p : List ℕ) (lp : length p ≡ length (take count output)) where
    pub handed-long : length (p ++ drop count output) ≡ length output
    handed-long =
        let e = length-append p (drop count output) in
        let d = length-drop count output in
        let l = lent-long in
        let r = a.room in
        omega arith

    module _ (event : Event) {none : SlotSet} (z : none ≡ no_slots) (n : ℕ) (x : ProgressesIn (record { event = event; yes = none; no = none }) formula p n) where
      handed-fronted : (f : Formula) → Front formula f [] → FrontedAs (settled (event_alone event) (unfolded f)) (p ++ drop count output) n
      handed-fronted f y = fronted-more (subst (λ (s : SlotSet). ProgressesIn (record { event = event; yes = s; no = s }) formula p n) z x f y)
        where
          fronted-more : {g : Formula} → FrontedAs g p n → FrontedAs g (p ++ drop count output) n
          fronted-more {g} w =
              let l = length-encode g in
              let k = w.count in
              let rest = drop count output in
              let b : p ++ rest ≡ encode g ++ (drop n p ++ rest) = ap (◌++ rest) w.bytes ∙ append_assoc (encode g) (drop n p) rest in
              record { count = k; bytes = b ∙ ap (encode g ++◌) (sym (ap (drop n) b ∙ drop_at (encode g) (drop n p ++ rest) n (l ∙ sym k))) }

      pub handed-fits : n ≤ length (p ++ drop count output)
      handed-fits = fronted-fits (handed-fronted a.whole a.front)

      pub progress-long : (q : List ℕ) → length q ≡ length (tail n (p ++ drop count output))
          → let o = p ++ drop count output in length (take n o ++ (q ++ drop (length o - n) (drop n o))) ≡ length output
      progress-long q e = handed-length n (p ++ drop count output) q handed-fits e ∙ handed-long

      -- and the rest cleared
      pub progress-done : {q : List ℕ} → q ≡ replicate (length (tail n (p ++ drop count output))) 0
          → let o = p ++ drop count output in ProgressedTo formula event output (take n o ++ (q ++ drop (length o - n) (drop n o))) n
      progress-done {q} e =
          record {
            bytes =
                λ f y.
                cleared (settled (event_alone event) (unfolded f)) (p ++ drop count output) q n (handed-fronted f y) e
                ∙ ap₂ (λ (j : ℕ) (g : Formula). padded j (encode g)) handed-long (settled-alone event (unfolded f));
            count = λ f y. (handed-fronted f y).count ∙ ap size (settled-alone event (unfolded f));
          }
