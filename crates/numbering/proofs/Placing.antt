-- Entries put behind one another by their chains, and their numbers. `Leveling` is what the loop over one level has put, by `leveling-start`,
-- `leveling-past`, `leveling-put` and `leveling-done`; `Placing` is what the loop over the levels has, by `placing-start`, `placing-more`
-- and `placing-done`; `Counting` is what the loop over the numbers has, by `counting-start`, `counting_more` and `counting-done`.
-- `among-level` and `among-levels` say that what is put was met; `number-few` bounds a number. Assumes nothing.
use mathlib.Core.Path.{◌≡◌, refl, sym, ap, ap₂, subst, ◌∙◌}
use mathlib.Core.Bool.{true}
use mathlib.Core.Logic.{⊎_elim}
use mathlib.Core.List.{List, [], ◌∷◌, ◌++◌, append_assoc, append-nil}
use Prim.Native.Nat.{ℕ, zero, suc, ◌+◌, ◌-◌, ◌<◌, ◌≤◌}
use native.Mathlib.Numerals.{add-one}
use native.Mathlib.Omega.{arith}
use native.Mathlib.Decide.{ℕ_discrete}
use lib.ListN.{length, get_or, set, take, drop, length-set, length-append, drop_of_length-le, take-append-drop}
use lib.Seq.{drop-cons, take-suc-set, drop-set-lt, take_at, drop_at, drop-drop, length-take-le, get_or-set_same, get_or-set_other}
use lib.Dec.{eqb}
use borrow.Author.Tests.{eq-eqb, ne_eqb, eqb-true}
use Rattle.limits.specs.Limits.{slots_room}
use Rattle.lists.specs.Tests.{pick, either}
use Rattle.lists.proofs.Tests.{no_true, either-right}
use Rattle.lists.proofs.Stretches.{none-long}
use Rattle.registers.specs.Relaying.{is_among}
use Rattle.registers.specs.Numbers.{on_level, by_level, place_in, number_by}
use Rattle.chaining.specs.Chains.{chain_at}
use Rattle.numbering.specs.Orders.{LevelAsk, LevelPut, LevelsAsk, NumbersBy}
use Rattle.meeting.proofs.Among.{either-cases, either_left, among-nil, among-cons, among-append, among-at}
use Rattle.meeting.proofs.Entering.{pick_yes, pick_no}

-- ---- the definitions, clause by clause
level-nil : (chain : ℕ → ℕ) (n : ℕ) → on_level chain n [] ≡ []
unfolding on_level
level-nil chain n = refl

level-cons : (chain : ℕ → ℕ) (n k : ℕ) (ks : List ℕ) → on_level chain n (k ∷ ks) ≡ pick (eqb (chain k) n) (k ∷ on_level chain n ks) (on_level chain n ks)
unfolding on_level
level-cons chain n k ks = refl

level-put : (chain : ℕ → ℕ) (n k : ℕ) (ks : List ℕ) → chain k ≡ n → on_level chain n (k ∷ ks) ≡ k ∷ on_level chain n ks
level-put chain n k ks e = level-cons chain n k ks ∙ pick_yes (eqb (chain k) n) (k ∷ on_level chain n ks) (on_level chain n ks) (eq-eqb (chain k) n e)

level-past : (chain : ℕ → ℕ) (n k : ℕ) (ks : List ℕ) → (chain k ≡ n → ⊥) → on_level chain n (k ∷ ks) ≡ on_level chain n ks
level-past chain n k ks d = level-cons chain n k ks ∙ pick_no (eqb (chain k) n) (k ∷ on_level chain n ks) (on_level chain n ks) (ne_eqb (chain k) n d)

levels-none : (chain : ℕ → ℕ) (ks : List ℕ) (n : ℕ) → by_level chain ks n 0 ≡ []
unfolding by_level
levels-none chain ks n = refl

levels-more : (chain : ℕ → ℕ) (ks : List ℕ) (n more : ℕ) → by_level chain ks n (suc more) ≡ on_level chain n ks ++ by_level chain ks (n + 1) more
unfolding by_level
levels-more chain ks n more = refl

-- ---- what is put was met
pub among-level : (chain : ℕ → ℕ) (n : ℕ) (ks : List ℕ) (m : ℕ) → is_among m (on_level chain n ks) ≡ true → is_among m ks ≡ true
among-level chain n [] m h = ap (is_among m) (sym (level-nil chain n)) ∙ h
among-level chain n (k ∷ ks) m h = among-cons m k ks ∙ go (ℕ_discrete (chain k) n) (among-level chain n ks m)
  where
    go : Dec (chain k ≡ n) → (is_among m (on_level chain n ks) ≡ true → is_among m ks ≡ true) → either (eqb m k) (is_among m ks) ≡ true
    go (yes e) ih =
        ⊎_elim (λ x. either_left (eqb m k) (is_among m ks) x) (λ x. ap (either (eqb m k)) (ih x) ∙ either-right (eqb m k))
        (either-cases (eqb m k) (is_among m (on_level chain n ks)) (sym (ap (is_among m) (level-put chain n k ks e) ∙ among-cons m k (on_level chain n ks)) ∙ h))
    go (no d) ih = ap (either (eqb m k)) (ih (ap (is_among m) (sym (level-past chain n k ks d)) ∙ h)) ∙ either-right (eqb m k)

pub among-levels : (chain : ℕ → ℕ) (ks : List ℕ) (more n m : ℕ) → is_among m (by_level chain ks n more) ≡ true → is_among m ks ≡ true
among-levels chain ks zero n m h = absurd (no_true (sym (ap (is_among m) (levels-none chain ks n) ∙ among-nil m) ∙ h))
among-levels chain ks (suc more) n m h =
    ⊎_elim (among-level chain n ks m) (among-levels chain ks more (n + 1) m)
    (either-cases (is_among m (on_level chain n ks)) (is_among m (by_level chain ks (n + 1) more)) (sym (ap (is_among m) (levels-more chain ks n more) ∙ among-append m (on_level chain n ks) (by_level chain ks (n + 1) more)) ∙ h))

-- ---- one level
-- w are placed when i of those met were looked at
pub record Leveling (level : ℕ) (met chain order₀ : List ℕ) (placed : ℕ) (order : List ℕ) (w i : ℕ) : Type 0 where
  pub few : i ≤ length met
  pub inside : w ≤ length order
  pub long : length order ≡ length order₀
  pub behind : drop w order ≡ drop w order₀
  pub done : take w order ++ on_level (chain_at chain) level (drop i met) ≡ take placed order₀ ++ on_level (chain_at chain) level met

pub leveling-start : {level : ℕ} {met chain order : List ℕ} {placed : ℕ} → LevelAsk level met chain order placed → Leveling level met chain order placed order placed 0
leveling-start a = let r = a.room in record { few = omega arith; inside = omega arith; long = refl; behind = refl; done = refl }

module _ {level : ℕ} {met chain order₀ : List ℕ} {placed : ℕ} {order : List ℕ} {w i : ℕ} (x : Leveling level met chain order₀ placed order w i) (h : i < length met) where
  next-met : drop i met ≡ get_or met i 0 ∷ drop (i + 1) met
  next-met = drop-cons met i 0 h ∙ ap (λ (k : ℕ). get_or met i 0 ∷ drop k met) (sym (add-one i))

  -- one of another chain
  pub leveling-past : (chain_at chain (get_or met i 0) ≡ level → ⊥) → Leveling level met chain order₀ placed order w (i + 1)
  leveling-past d =
      let e = ap (on_level (chain_at chain) level) next-met ∙ level-past (chain_at chain) level (get_or met i 0) (drop (i + 1) met) d in
      record { few = omega arith; inside = x.inside; long = x.long; behind = x.behind; done = ap (take w order ++◌) (sym e) ∙ x.done }

  module _ (a : LevelAsk level met chain order₀ placed) (e : chain_at chain (get_or met i 0) ≡ level) where
    left : on_level (chain_at chain) level (drop i met) ≡ get_or met i 0 ∷ on_level (chain_at chain) level (drop (i + 1) met)
    left = ap (on_level (chain_at chain) level) next-met ∙ level-put (chain_at chain) level (get_or met i 0) (drop (i + 1) met) e

    -- there is room for it
    pub leveling-room : w < length order
    leveling-room =
        let b = ap length x.done in
        let c = length-append (take w order) (on_level (chain_at chain) level (drop i met)) in
        let d = length-append (take placed order₀) (on_level (chain_at chain) level met) in
        let f = length-take-le w order x.inside in
        let r = a.room in
        let g = length-take-le placed order₀ (omega arith) in
        let k = ap length left in
        let l = x.long in
        omega arith

    -- one of this chain
    pub leveling-put : Leveling level met chain order₀ placed (set order w (get_or met i 0)) (w + 1) (i + 1)
    leveling-put =
        let r = leveling-room in
        let s = length-set order w (get_or met i 0) in
        record { few = omega arith; inside = omega arith; long = s ∙ x.long; behind = behind; done = done }
      where
        past : (l : List ℕ) → drop (w + 1) l ≡ drop 1 (drop w l)
        past l = sym (drop-drop 1 w l)

        behind : drop (w + 1) (set order w (get_or met i 0)) ≡ drop (w + 1) order₀
        behind = drop-set-lt (w + 1) order w (get_or met i 0) (omega arith) ∙ past order ∙ ap (drop 1) x.behind ∙ sym (past order₀)

        done : take (w + 1) (set order w (get_or met i 0)) ++ on_level (chain_at chain) level (drop (i + 1) met) ≡ take placed order₀ ++ on_level (chain_at chain) level met
        done =
            ap (λ (k : ℕ). take k (set order w (get_or met i 0)) ++ on_level (chain_at chain) level (drop (i + 1) met)) (add-one w)
            ∙ ap (◌++ on_level (chain_at chain) level (drop (i + 1) met)) (take-suc-set order w (get_or met i 0) leveling-room)
            ∙ append_assoc (take w order) (get_or met i 0 ∷ []) (on_level (chain_at chain) level (drop (i + 1) met))
            ∙ ap (take w order ++◌) (sym left)
            ∙ x.done

pub leveling-done : {level : ℕ} {met chain order₀ : List ℕ} {placed : ℕ} {order : List ℕ} {w i : ℕ} → LevelAsk level met chain order₀ placed
    → Leveling level met chain order₀ placed order w i → length met ≤ i → LevelPut level met chain order₀ placed order w
leveling-done {level = level} {met = met} {chain = chain} {order₀ = order₀} {placed = placed} {order = order} {w = w} {i = i} a x h =
    let e : take w order ≡ take placed order₀ ++ on_level (chain_at chain) level met =
    sym (append-nil (take w order)) ∙ ap (take w order ++◌) (sym (ap (on_level (chain_at chain) level) (drop_of_length-le met {i = i} h) ∙ level-nil (chain_at chain) level)) ∙ x.done in
    let l = ap length e in
    let d = length-append (take placed order₀) (on_level (chain_at chain) level met) in
    let f = length-take-le w order x.inside in
    let r = a.room in
    let g = length-take-le placed order₀ (omega arith) in
    record { read = omega arith; stands = sym (take-append-drop w order) ∙ ap₂ ◌++◌ e x.behind }

pub leveling-as : {level : ℕ} {met chain order₀ : List ℕ} {placed : ℕ} {order : List ℕ} {w i : ℕ} {order' : List ℕ} {w' : ℕ} → Leveling level met chain order₀ placed order w i
    → order' ≡ order → w' ≡ w → Leveling level met chain order₀ placed order' w' i
leveling-as {level = level} {met = met} {chain = chain} {order₀ = order₀} {placed = placed} {w = w} {i = i} {order' = order'} x a b =
    subst (λ (z : ℕ). Leveling level met chain order₀ placed order' z i) (sym b) (subst (λ (z : List ℕ). Leveling level met chain order₀ placed z w i) (sym a) x)

-- ---- all levels
-- the levels below this one are placed
pub record Placing (n : ℕ) (met chain order₀ order : List ℕ) (placed level : ℕ) : Type 0 where
  pub some : 1 ≤ level
  pub few : level ≤ n + 1
  pub inside : placed ≤ n
  pub long : length order ≡ length order₀
  pub behind : drop placed order ≡ drop placed order₀
  pub done : take placed order ++ by_level (chain_at chain) met level (n + 1 - level) ≡ by_level (chain_at chain) met 1 n

pub placing-start : {n : ℕ} {met chain order : List ℕ} → LevelsAsk n met chain order → Placing n met chain order order 0 1
placing-start {n = n} {met = met} {chain = chain} a =
    let e : n + 1 - 1 ≡ n = omega arith in
    record { some = omega arith; few = omega arith; inside = omega arith; long = refl; behind = refl; done = ap (by_level (chain_at chain) met 1) e }

module _ {n : ℕ} {met chain order₀ order : List ℕ} {placed level : ℕ} (a : LevelsAsk n met chain order₀) (x : Placing n met chain order₀ order placed level) where
  -- how many there are in all
  lengths : placed + length (by_level (chain_at chain) met level (n + 1 - level)) ≡ n
  lengths =
      let r = a.room in
      let l = x.long in
      let i = x.inside in
      let f = length-take-le placed order (omega arith) in
      let b = ap length x.done in
      let c = length-append (take placed order) (by_level (chain_at chain) met level (n + 1 - level)) in
      let d = a.all in
      omega arith

  module _ (h : placed < n) where
    -- a level is left
    pub placing-few : level ≤ n
    placing-few = go (n + 1 - level) refl
      where
        go : (k : ℕ) → n + 1 - level ≡ k → level ≤ n
        go zero e = let l = lengths in let z = ap length (ap (by_level (chain_at chain) met level) e ∙ levels-none (chain_at chain) met level) in absurd (omega arith)
        go (suc k) e = omega arith

    pub level-few : level < slots_room
    level-few = let l = placing-few in let f = a.few in omega arith

    left-more : by_level (chain_at chain) met level (n + 1 - level) ≡ on_level (chain_at chain) level met ++ by_level (chain_at chain) met (level + 1) (n + 1 - (level + 1))
    left-more =
        let l = placing-few in
        let e : n + 1 - level ≡ suc (n + 1 - (level + 1)) = omega arith in
        ap (by_level (chain_at chain) met level) e ∙ levels-more (chain_at chain) met level (n + 1 - (level + 1))

    more-length : placed + length (on_level (chain_at chain) level met) ≤ n
    more-length =
        let l = lengths in
        let e = ap length left-more in
        let c = length-append (on_level (chain_at chain) level met) (by_level (chain_at chain) met (level + 1) (n + 1 - (level + 1))) in
        omega arith

    pub placing-ask : LevelAsk level met chain order placed
    placing-ask =
        let m = more-length in
        let r = a.room in
        let l = x.long in
        record { table = a.table; below = a.below; room = omega arith }

    pub placing-more : (order' : List ℕ) (r : ℕ) → LevelPut level met chain order placed order' r → length order' ≡ length order → Placing n met chain order₀ order' r (level + 1)
    placing-more order' r y q =
        let l = placing-few in
        let m = more-length in
        let s = y.read in
        record { some = omega arith; few = omega arith; inside = omega arith; long = q ∙ x.long; behind = behind; done = done }
      where
        front : length (take placed order ++ on_level (chain_at chain) level met) ≡ r
        front =
            let o = a.room in
            let l = x.long in
            let i = x.inside in
            let f = length-take-le placed order (omega arith) in
            let c = length-append (take placed order) (on_level (chain_at chain) level met) in
            let s = y.read in
            omega arith

        past : (l : List ℕ) → drop r l ≡ drop (r - placed) (drop placed l)
        past l = let s = y.read in let e : r ≡ placed + (r - placed) = omega arith in ap (λ (k : ℕ). drop k l) e ∙ sym (drop-drop (r - placed) placed l)

        behind : drop r order' ≡ drop r order₀
        behind =
            ap (drop r) y.stands
            ∙ drop_at (take placed order ++ on_level (chain_at chain) level met) (drop r order) r front
            ∙ past order
            ∙ ap (drop (r - placed)) x.behind
            ∙ sym (past order₀)

        done : take r order' ++ by_level (chain_at chain) met (level + 1) (n + 1 - (level + 1)) ≡ by_level (chain_at chain) met 1 n
        done =
            ap (◌++ by_level (chain_at chain) met (level + 1) (n + 1 - (level + 1))) (ap (take r) y.stands ∙ take_at (take placed order ++ on_level (chain_at chain) level met) (drop r order) r front)
            ∙ append_assoc (take placed order) (on_level (chain_at chain) level met) (by_level (chain_at chain) met (level + 1) (n + 1 - (level + 1)))
            ∙ ap (take placed order ++◌) (sym left-more)
            ∙ x.done

  -- all are placed
  pub placing-done : n ≤ placed → order ≡ by_level (chain_at chain) met 1 n ++ drop n order₀
  placing-done h =
      let l = lengths in
      let i = x.inside in
      let p : placed ≡ n = omega arith in
      let z = none-long (by_level (chain_at chain) met level (n + 1 - level)) (omega arith) in
      let e : take placed order ≡ by_level (chain_at chain) met 1 n = sym (append-nil (take placed order)) ∙ ap (take placed order ++◌) (sym z) ∙ x.done in
      sym (take-append-drop placed order) ∙ ap₂ ◌++◌ e (x.behind ∙ ap (λ (k : ℕ). drop k order₀) p)

-- ---- the numbers
place-cons : (k x : ℕ) (xs : List ℕ) → place_in k (x ∷ xs) ≡ pick (eqb k x) 0 (suc (place_in k xs))
unfolding place_in
place-cons k x xs = refl

-- the entries from place i on have their numbers
pub record Counting (order numbers₀ numbers : List ℕ) (i : ℕ) : Type 0 where
  pub few : i ≤ length order
  pub long : length numbers ≡ length numbers₀
  pub told : (k : ℕ) → is_among k (drop i order) ≡ true → get_or numbers k 0 ≡ suc (i + place_in k (drop i order))

pub counting-start : (order numbers : List ℕ) → Counting order numbers numbers (length order)
counting-start order numbers =
    record { few = omega arith; long = refl; told = λ k h. absurd (no_true (sym (ap (is_among k) (drop_of_length-le order {i = length order} (omega arith)) ∙ among-nil k) ∙ h)) }

module _ {order numbers₀ numbers : List ℕ} {i : ℕ} (x : Counting order numbers₀ numbers i) (h : 0 < i) where
  -- the entry at the place has a number in the table
  pub counting-room : ((k : ℕ) → is_among k order ≡ true → k < length numbers₀) → get_or order (i - 1) 0 < length numbers
  counting-room a = let l = x.long in let f = x.few in let b = a (get_or order (i - 1) 0) (among-at order (i - 1) (omega arith)) in omega arith

  next : drop (i - 1) order ≡ get_or order (i - 1) 0 ∷ drop i order
  next = let f = x.few in let e : suc (i - 1) ≡ i = omega arith in drop-cons order (i - 1) 0 (omega arith) ∙ ap (λ (k : ℕ). get_or order (i - 1) 0 ∷ drop k order) e

  pub counting_more : {v : ℕ} → v ≡ i → get_or order (i - 1) 0 < length numbers → Counting order numbers₀ (set numbers (get_or order (i - 1) 0) v) (i - 1)
  counting_more {v} n r =
      let f = x.few in
      record { few = omega arith; long = length-set numbers (get_or order (i - 1) 0) v ∙ x.long; told = λ k m. told k m (ℕ_discrete k (get_or order (i - 1) 0)) }
    where
      told : (k : ℕ) → is_among k (drop (i - 1) order) ≡ true → Dec (k ≡ get_or order (i - 1) 0)
          → get_or (set numbers (get_or order (i - 1) 0) v) k 0 ≡ suc (i - 1 + place_in k (drop (i - 1) order))
      told k m (yes e) =
          let p : place_in k (drop (i - 1) order) ≡ 0 =
          ap (place_in k) next ∙ place-cons k (get_or order (i - 1) 0) (drop i order)
          ∙ pick_yes (eqb k (get_or order (i - 1) 0)) 0 (suc (place_in k (drop i order))) (eq-eqb k (get_or order (i - 1) 0) e) in
          let q : v ≡ suc (i - 1 + place_in k (drop (i - 1) order)) = omega arith in
          ap (λ (j : ℕ). get_or (set numbers (get_or order (i - 1) 0) v) j 0) e ∙ get_or-set_same numbers (get_or order (i - 1) 0) v 0 r ∙ q
      told k m (no d) =
          let p : place_in k (drop (i - 1) order) ≡ suc (place_in k (drop i order)) =
          ap (place_in k) next ∙ place-cons k (get_or order (i - 1) 0) (drop i order)
          ∙ pick_no (eqb k (get_or order (i - 1) 0)) 0 (suc (place_in k (drop i order))) (ne_eqb k (get_or order (i - 1) 0) d) in
          let b : is_among k (drop i order) ≡ true =
          ⊎_elim (λ w. absurd (d (eqb-true k (get_or order (i - 1) 0) w))) (λ w. w)
          (either-cases (eqb k (get_or order (i - 1) 0)) (is_among k (drop i order)) (sym (ap (is_among k) next ∙ among-cons k (get_or order (i - 1) 0) (drop i order)) ∙ m)) in
          let t = x.told k b in
          let q : suc (i + place_in k (drop i order)) ≡ suc (i - 1 + place_in k (drop (i - 1) order)) = omega arith in
          get_or-set_other numbers (get_or order (i - 1) 0) k v 0 d ∙ t ∙ q

pub counting-done : {order numbers₀ numbers : List ℕ} {i : ℕ} → Counting order numbers₀ numbers i → i ≤ 0 → NumbersBy order numbers
counting-done {order = order} {numbers = numbers} {i = i} x h k m =
    let z : i ≡ 0 = omega arith in
    let b : is_among k (drop i order) ≡ true = ap (λ (j : ℕ). is_among k (drop j order)) z ∙ m in
    let t = x.told k b in
    let p : place_in k (drop i order) ≡ place_in k order = ap (λ (j : ℕ). place_in k (drop j order)) z in
    let q : suc (i + place_in k (drop i order)) ≡ suc (place_in k order) = omega arith in
    t ∙ q

-- an entry's place is one of the order's
place-less : (k : ℕ) (order : List ℕ) → is_among k order ≡ true → place_in k order < length order
place-less k [] h = absurd (no_true (sym (among-nil k) ∙ h))
place-less k (x ∷ xs) h = go (ℕ_discrete k x) (place-less k xs)
  where
    go : Dec (k ≡ x) → (is_among k xs ≡ true → place_in k xs < length xs) → place_in k (x ∷ xs) < suc (length xs)
    go (yes e) ih = let p = place-cons k x xs ∙ pick_yes (eqb k x) 0 (suc (place_in k xs)) (eq-eqb k x e) in omega arith
    go (no d) ih =
        let b = ⊎_elim (λ w. absurd (d (eqb-true k x w))) (λ w. w) (either-cases (eqb k x) (is_among k xs) (sym (among-cons k x xs) ∙ h)) in
        let i = ih b in
        let p = place-cons k x xs ∙ pick_no (eqb k x) 0 (suc (place_in k xs)) (ne_eqb k x d) in
        omega arith

-- so that its number is no higher than there are entries
pub number-few : (k : ℕ) (order : List ℕ) → is_among k order ≡ true → number_by order k ≤ length order
number-few k order h = let p = place-less k order h in omega arith
