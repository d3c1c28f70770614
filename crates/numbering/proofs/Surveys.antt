-- The passes together. `survey-rows` is what the root's row asks, and `survey-done` what meeting and chains have left; `levels-ask`,
-- `numbers-few` and `numbers-below` are what the order and the numbers ask, and `number-done` is the whole. `graph-of` is what a caller
-- shows, and `ordered-few` bounds the numbers that it has then. Assumes nothing.
use mathlib.Core.Path.{◌≡◌, refl, sym, ap, ap₂, ◌∙◌}
use mathlib.Core.Bool.{true}
use mathlib.Core.Logic.{⊎_elim}
use mathlib.Core.List.{List, [], ◌++◌}
use Prim.Native.Nat.{ℕ, suc, ◌<◌, ◌≤◌}
use native.Mathlib.Omega.{arith}
use lib.ListN.{length, get_or, take, drop}
use lib.Seq.{take_at}
use Rattle.limits.specs.Limits.{slots_room}
use Rattle.lists.proofs.Tests.{no_true, no_bits}
use Rattle.ltl.specs.Formula.{Formula}
use Rattle.network.specs.Layout.{Slot}
use Rattle.registers.specs.Relaying.{holds_of, is_among}
use Rattle.registers.specs.Numbers.{holds_at, met_from, met_in, chain_in, by_level, order_in, number_by}
use Rattle.tokens.specs.Tokens.{held_in}
use Rattle.meeting.specs.declared.Meeting.{Meeting}
use Rattle.meeting.specs.Links.{LinksOf, SetAt}
use Rattle.meeting.specs.Meeting.{met_of, MetKept, WalkAsk, WalkMeets}
use Rattle.chaining.specs.Chains.{chain_at, Chains}
use Rattle.numbering.specs.Orders.{LevelsAsk, NumbersBy, Graph, SurveyAsk, EntriesSurveyed, NumberAsk, Ordered, Numbers}
use Rattle.meeting.proofs.Among.{among-nil, differing-none, differing-few}
use Rattle.numbering.proofs.Placing.{among-levels, number-few}

-- ---- meeting
-- nothing has been met
abbrev pub none_met : Meeting
none_met = record { count = 0; seen = 0 }

none_kept : (row : List ℕ) → slots_room ≤ length row → MetKept row none_met
none_kept row h =
    record { room = h; counted = sym differing-none; told = λ k. no_bits k ∙ sym (among-nil k); below = λ k x. absurd (no_true (sym (among-nil k) ∙ x)) }

pub survey-rows : {root bodies places : List ℕ} {n : ℕ} {row chain : List ℕ} (sets : List ℕ) → SurveyAsk root bodies places n row chain → slots_room ≤ length sets
    → WalkAsk root bodies places n row sets none_met
survey-rows {row = row} sets a h =
    record { linked = a.graph.linked; falls = λ k x. a.graph.below k (ap (is_among k) (sym a.graph.rooted) ∙ x); state = none_kept row a.row_room; room = h }

module _ {root bodies places : List ℕ} {n : ℕ} {row sets row' sets' : List ℕ} {m' : Meeting} (r : WalkMeets root bodies places n row sets none_met row' sets' m') where
  -- those met are the ones met below the root
  met-is : (f : Formula) (reg : List Slot) → Graph root bodies places n f reg → met_of row' m' ≡ met_in f reg
  unfolding met_in
  met-is f reg g =
      r.walks reg g.links (suc n) (omega arith)
      ∙ ap₂ (λ (k : ℕ) (ks : List ℕ). met_from reg (suc k) ks []) g.long g.rooted

  -- every entry was met
  every-met : (f : Formula) (reg : List Slot) → Graph root bodies places n f reg → (j : ℕ) → j < n → is_among j (met_of row' m') ≡ true
  unfolding order_in
  every-met f reg g j h = ap (is_among j) (met-is f reg g) ∙ among-levels (chain_in f reg) (met_in f reg) (length reg) 1 j (g.every j h)

  -- so that what it holds was noted
  every-noted : (f : Formula) (reg : List Slot) → Graph root bodies places n f reg → (j : ℕ) → j < n → SetAt sets' j (holds_at reg j)
  every-noted f reg g j h =
      ⊎_elim (λ x. absurd (no_true (sym (among-nil j) ∙ x))) (λ s k. s k ∙ ap (is_among k) (g.links j h))
      ((r.notes j (λ e. omega arith)).new (every-met f reg g j h))

  pub survey-done : (chain' : List ℕ) → Chains sets' n chain' → EntriesSurveyed root bodies places n row' chain' m'.count
  survey-done chain' c =
      let d = differing-few (met_of row' m') in
      let e = r.state.counted in
      record { few = omega arith; below = r.state.below; met-is = met-is; chain-is = λ f reg g. c f reg g.long (λ k. r.noted k ∙ ap (is_among k) g.rooted) (every-noted f reg g) }

-- ---- the order and the numbers
module _ {root bodies places : List ℕ} {n : ℕ} {order numbers row chain : List ℕ} {count : ℕ} (a : NumberAsk root bodies places n order numbers)
    (s : EntriesSurveyed root bodies places n row chain count) where
  -- the levels of those met are the order
  levels-are : (f : Formula) (reg : List Slot) → Graph root bodies places n f reg → by_level (chain_at chain) (take count row) 1 n ≡ order_in f reg
  unfolding order_in
  levels-are f reg g =
      let e : chain_at chain ≡ chain_in f reg = λ i m. s.chain-is f reg g m i in
      ap₂ (λ (c : ℕ → ℕ) (ks : List ℕ). by_level c ks 1 n) e (s.met-is f reg g) ∙ ap (by_level (chain_in f reg) (met_in f reg) 1) g.long

  all-levels : length (by_level (chain_at chain) (take count row) 1 n) ≡ n
  all-levels = ap length (levels-are a.formula a.register a.graph) ∙ a.graph.full

  pub levels-ask : slots_room ≤ length chain → LevelsAsk n (take count row) chain order
  levels-ask h =
      let f = a.graph.linked.few in
      let o = a.order-room in
      record { table = h; below = s.below; all = all-levels; few = f; room = omega arith }

  module _ (order' : List ℕ) (e : order' ≡ by_level (chain_at chain) (take count row) 1 n ++ drop n order) where
    front : take n order' ≡ by_level (chain_at chain) (take count row) 1 n
    front = ap (take n) e ∙ take_at (by_level (chain_at chain) (take count row) 1 n) (drop n order) n all-levels

    pub numbers-few : length (take n order') < slots_room
    numbers-few = let l = ap length front ∙ all-levels in let f = a.graph.linked.few in omega arith

    pub numbers-below : (k : ℕ) → is_among k (take n order') ≡ true → k < length numbers
    numbers-below k x =
        let b = s.below k (among-levels (chain_at chain) (take count row) n 1 k (ap (is_among k) (sym front) ∙ x)) in
        let o = a.numbers-room in
        omega arith

    pub number-done : (numbers' : List ℕ) → NumbersBy (take n order') numbers' → Numbers root bodies places n order' numbers'
    number-done numbers' y f reg g =
        let o = front ∙ levels-are f reg g in
        record { order_is = o; number_is = λ k h. y k (ap (is_among k) o ∙ g.every k h) ∙ ap (λ (l : List ℕ). number_by l k) o }

-- what the survey asks, of tables that are lent
pub survey-ask : {root bodies places : List ℕ} {n : ℕ} {order numbers : List ℕ} (row chain : List ℕ) → NumberAsk root bodies places n order numbers
    → slots_room ≤ length row → slots_room ≤ length chain → ((m : ℕ) → get_or chain m 0 ≡ 0) → SurveyAsk root bodies places n row chain
survey-ask row chain a h k z =
    record { formula = a.formula; register = a.register; graph = a.graph; row_room = h; chain-room = k; chain-zero = z }

-- ---- what a caller shows, and what it knows then
-- the tokens are the register's where each entry's are, and the register's entries hold earlier ones alone
pub graph-of : {root bodies places : List ℕ} {f : Formula} {reg : List Slot} → length reg < slots_room → length reg < length places
    → ((k : ℕ) → k < length reg → get_or places k 0 ≤ get_or places (suc k) 0) → ((k : ℕ) → k < length reg → get_or places (suc k) 0 ≤ length bodies)
    → held_in root ≡ holds_of f → LinksOf bodies places reg (length reg) → ((k : ℕ) → is_among k (holds_of f) ≡ true → k < length reg)
    → ((k m : ℕ) → k < length reg → is_among m (holds_at reg k) ≡ true → m < k) → length (order_in f reg) ≡ length reg
    → ((k : ℕ) → k < length reg → is_among k (order_in f reg) ≡ true) → Graph root bodies places (length reg) f reg
graph-of few placed begins inside rooted links below falls full every =
    record { long = refl; linked = record { few = few; placed = placed; begins = begins; inside = inside; falls = λ k m h x. falls k m h (ap (is_among m) (sym (links k h)) ∙ x) }; rooted = rooted; links = links; below = below; full = full; every = every }

-- each is a slot's, behind the root's
pub ordered-few : {root bodies places : List ℕ} {n : ℕ} {f : Formula} {reg : List Slot} {order numbers : List ℕ} → Graph root bodies places n f reg
    → Ordered n f reg order numbers → (k : ℕ) → k < n → get_or numbers k 0 ≤ n
ordered-few {f = f} {reg = reg} g o k h =
    let e = o.number_is k h in
    let b = number-few k (order_in f reg) (g.every k h) in
    let l = g.full in
    omega arith
